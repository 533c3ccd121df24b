-- What holds of every run reached from an initial one and carries the guarantee: each unended task has a block of numbers
-- still to be given out, all of them blank, and no two tasks share one. Assumes nothing.
use Prim.Native.Nat.{ℕ, suc, ◌+◌, ◌≤◌, ◌<◌}
use mathlib.Core.Path.{◌≡◌, refl, sym, ap, subst, ◌∙◌}
use mathlib.Core.List.{List, [], ◌∷◌}
use mathlib.Core.Logic.{◌⊎◌, inl, inr, ◌≢◌}
use native.Mathlib.Omega.{arith}
use Rattle.tasklist.specs.TaskList.{body_of, total, adds, count_body, task_count}
use Rattle.tasklist.specs.Accepted.{Accepted}
use Rattle.semantics.specs.Run.{Task, Run, Context, never, task_of}
use Rattle.semantics.specs.Effect.{Numbered, Effect, Plan, stop, go, fetch}
use Rattle.semantics.specs.Plan.{child_number, plan}
use Rattle.semantics.specs.Call.{Call, apply}
use Rattle.semantics.specs.Sound.{In, Distinct, limit, Future, Valid}
use Rattle.semantics.proofs.Apply.{numbers, touched, numbers_in, task_other, task_made}
use Rattle.semantics.proofs.Fair.{Packed, Fair, FairPlan, fair_plan, total_take_all}
use Rattle.semantics.proofs.Decide.{Settled, Accepts}

pub never_state : never.state ≡ 0
unfolding never
never_state = refl

-- packed tasks
module _ (c : Context) (ok : Accepted c.list) where
  pub count_law : (s : ℕ) → task_count c.list s ≡ suc (total (adds (task_count c.list)) (body_of c.list s))
  unfolding count_body
  count_law s = ok.count_law s

  pub packed_le : (low : ℕ) (xs : List Numbered) (high : ℕ) → Packed c low xs high → low ≤ high
  packed_le low [] high h = h
  packed_le low (x ∷ xs) high h =
      let k = packed_le (x.number + task_count c.list x.task.body) xs high h.1 in omega (arith, h.0)

  pub packed_in :
      (low : ℕ) (xs : List Numbered) (high : ℕ) (x : Numbered) → Packed c low xs high → In x xs
      → (low ≤ x.number) × (limit c x.number x.task ≤ high)
  packed_in low [] high x h i = absurd i
  packed_in low (y ∷ xs) high x h (inl q) =
      let k = packed_le (limit c y.number y.task) xs high h.1 in
      subst (λ z. (low ≤ z.number) × (limit c z.number z.task ≤ high)) (sym q) (h.0, k)
  packed_in low (y ∷ xs) high x h (inr i) =
      let k = packed_in (limit c y.number y.task) xs high x h.1 i in (omega (arith, h.0, k.0), k.1)

  pub packed_distinct : (low : ℕ) (xs : List Numbered) (high : ℕ) → Packed c low xs high → Distinct (numbers xs)
  packed_distinct low [] high h = tt
  packed_distinct low (x ∷ xs) high h = (
    λ i.
        let y = numbers_in x.number xs i in
        let k = packed_in (limit c x.number x.task) xs high y.0 h.1 y.1 in
        let q = count_law x.task.body in
        omega (arith, k.0, y.2, q),
    packed_distinct (limit c x.number x.task) xs high h.1,
  )

  -- a number in the blocks of two of them is in one block
  pub packed_owner :
      (low : ℕ) (xs : List Numbered) (high : ℕ) → Packed c low xs high → (x y : Numbered) (k : ℕ) → In x xs → In y xs
      → x.number ≤ k → k < limit c x.number x.task → y.number ≤ k → k < limit c y.number y.task
      → x.number ≡ y.number
  packed_owner low [] high h x y k i j a b a' b' = absurd i
  packed_owner low (z ∷ xs) high h x y k (inl p) (inl q) a b a' b' = ap (λ u. u.number) (p ∙ sym q)
  packed_owner low (z ∷ xs) high h x y k (inl p) (inr j) a b a' b' =
      let later = packed_in (limit c z.number z.task) xs high y h.1 j in
      let less = subst (λ u. k < limit c u.number u.task) p b in
      let bad : ⊥ = omega (arith, later.0, less) in
      absurd bad
  packed_owner low (z ∷ xs) high h x y k (inr i) (inl q) a b a' b' =
      let later = packed_in (limit c z.number z.task) xs high x h.1 i in
      let less = subst (λ u. k < limit c u.number u.task) q b' in
      let bad : ⊥ = omega (arith, later.0, less) in
      absurd bad
  packed_owner low (z ∷ xs) high h x y k (inr i) (inr j) a b a' b' =
      packed_owner (limit c z.number z.task) xs high h.1 x y k i j a b a' b'

  -- the numbers given out stay below the block's end
  pub number_below : (n : ℕ) (t : Task) → child_number c n t ≤ limit c n t
  unfolding child_number
  number_below n t =
      let q = count_law t.body in
      let h = total_take_all (adds (task_count c.list)) (body_of c.list t.body) t.pc in
      omega arith

  pub number_above : (n : ℕ) (t : Task) → n < child_number c n t
  unfolding child_number
  number_above n t = omega arith

-- an accepted call of a valid run
module _ (c : Context) (ok : Accepted c.list) (r : Run) (v : Valid c r) (b : Call) (e : Effect) (h : Accepts c r b e) where
  pub accepted_fair : Fair c b.task (task_of r b.task) e
  accepted_fair =
      let fair = fair_plan c b.task (task_of r b.task) ok b.action in
      go_on (plan c b.action b.task (task_of r b.task)) fair h.settled
    where
      go_on :
          (p : Plan) → FairPlan c b.task (task_of r b.task) p → Settled r b.task p e
          → Fair c b.task (task_of r b.task) e
      go_on (stop k) f s = absurd s
      go_on (go gs d) f s = subst (Fair c b.task (task_of r b.task)) s.1 f.0
      go_on (fetch a d) f s = subst (Fair c b.task (task_of r b.task)) s.1 (f.1 _).0

  -- a task made has its whole block in the future of its spawner
  pub made_future :
      (x : Numbered) → In x e.made
      → (child_number c b.task (task_of r b.task) ≤ x.number)
      × (limit c x.number x.task ≤ child_number c b.task e.task)
      × (child_number c b.task e.task ≤ limit c b.task (task_of r b.task))
  made_future x i =
      let f = accepted_fair in
      let k = packed_in c ok _ e.made _ x f.packed i in (
        k.0,
        k.1,
        subst (λ s. child_number c b.task e.task ≤ b.task + task_count c.list s) f.body
            (number_below c ok b.task e.task),
      )

  pub made_is_future : (x : Numbered) → In x e.made → Future c b.task (task_of r b.task) x.number
  made_is_future x i =
      let k = made_future x i in
      let q = count_law c ok x.task.body in
      (k.0, omega (arith, k.1, k.2, q))

  -- no task of the order is among those made
  pub made_absent : (k : ℕ) → In k r.order → In k (numbers e.made) → ⊥
  made_absent k i j =
      let x = numbers_in k e.made j in
      let empty = v.blank b.task x.0.number h.present (made_is_future x.0 x.1) in
      no_state (v.active k i) (ap (λ t. t.state) (ap (task_of r) x.2 ∙ empty) ∙ never_state)
    where
      no_state : ((task_of r k).state ≡ 1) ⊎ ((task_of r k).state ≡ 2) → (task_of r k).state ≡ 0 → ⊥
      no_state (inl p) q = omega arith
      no_state (inr p) q = omega arith

  pub untouched : (k : ℕ) → In k r.order → k ≢ b.task → In k (touched b.task e) → ⊥
  untouched k i q (inl p) = q p
  untouched k i q (inr j) = made_absent k i j

  pub touched_distinct : Distinct (touched b.task e)
  touched_distinct = (made_absent b.task h.present, packed_distinct c ok _ e.made _ accepted_fair.packed)

  pub made_below : (x : Numbered) → In x e.made → x.number < 128
  made_below x i =
      let k = made_is_future x i in
      let l = v.block b.task h.present in
      omega (arith, k.1, l)

  pub other_record : (k : ℕ) → In k r.order → k ≢ b.task → task_of (apply b.task e r) k ≡ task_of r k
  other_record k i q = task_other b.task e r k (untouched k i q)

  pub made_record : (x : Numbered) → In x e.made → task_of (apply b.task e r) x.number ≡ x.task
  made_record x i =
      task_made b.task e r x i touched_distinct (subst (λ m. x.number < m) (sym v.size) (made_below x i))
