-- Every accepted call leaves a valid run valid, and an initial run is valid. Assumes nothing.
use Prim.Native.Nat.{ℕ, ◌+◌, ◌≤◌, ◌<◌}
use mathlib.Core.Path.{◌≡◌, refl, sym, ap, subst, ◌∙◌}
use mathlib.Core.List.{List, [], ◌∷◌}
use mathlib.Core.Bool.{Bool, true, false}
use mathlib.Core.Option.{some}
use mathlib.Core.Logic.{◌⊎◌, inl, inr, ◌≢◌}
use native.Mathlib.Omega.{arith}
use native.Mathlib.Decide.{dec_lt}
use lib.ListN.{length, get_or, replicate, length-set, length-replicate, get_or-replicate, get_or-eq_default}
use lib.Seq.{get_or-set_same, get_or-set_other}
use Rattle.tasklist.specs.TaskList.{task_count}
use Rattle.tasklist.specs.Accepted.{Accepted}
use Rattle.semantics.specs.Run.{Run, Context, never, task_of, root_modes, root, initial}
use Rattle.semantics.specs.Effect.{Numbered, Effect}
use Rattle.semantics.specs.Plan.{child_number}
use Rattle.semantics.specs.Call.{Call, stays, places, charged, changes, apply, call}
use Rattle.semantics.specs.Isolation.{Lone, first_record, alone, block_end}
use Rattle.semantics.specs.Sound.{In, Distinct, limit, Future, Valid}
use Rattle.semantics.proofs.Order.{in_append, in_splice, distinct_append, distinct_splice}
use Rattle.semantics.proofs.Apply.{numbers, touched, numbers_in, length_written, task_self, task_other}
use Rattle.semantics.proofs.Decide.{Accepts, call_accept}
use Rattle.semantics.proofs.Valid.{never_state, count_law, packed_le, packed_distinct, packed_owner, number_above, accepted_fair, made_future, made_is_future, made_absent, other_record, made_record}

-- Who is in the order after a call of n: a task made, n itself unless it left, or another that was there before.
pub data Place (r : Run) (n : ℕ) (e : Effect) (k : ℕ) : Type 0 where
  new : (x : Numbered) → In x e.made → k ≡ x.number → Place r n e k
  self : k ≡ n → e.leaves ≡ false → Place r n e k
  old : In k r.order → k ≢ n → Place r n e k

pub in_places :
    (n : ℕ) (e : Effect) (k : ℕ) → In k (places n e) → In k (numbers e.made) ⊎ ((k ≡ n) × (e.leaves ≡ false))
unfolding places
in_places n e k i = sort (in_append k (numbers e.made) (stays e.leaves n) i)
  where
    only : In k (n ∷ []) → k ≡ n
    only (inl q) = q
    only (inr q) = absurd q

    stayed : (b : Bool) → In k (stays b n) → (k ≡ n) × (b ≡ false)
    stayed true j = absurd (unfold stays in j)
    stayed false j = (only (unfold stays in j), refl)

    sort :
        In k (numbers e.made) ⊎ In k (stays e.leaves n)
        → In k (numbers e.made) ⊎ ((k ≡ n) × (e.leaves ≡ false))
    sort (inl j) = inl j
    sort (inr j) = inr (stayed e.leaves j)

pub place_of : (r : Run) (n : ℕ) (e : Effect) (k : ℕ) → In k (apply n e r).order → Place r n e k
unfolding apply
place_of r n e k i = sort (in_splice k n (places n e) r.order i)
  where
    here : In k (numbers e.made) ⊎ ((k ≡ n) × (e.leaves ≡ false)) → Place r n e k
    here (inl j) = let x = numbers_in k e.made j in new x.0 x.1 x.2
    here (inr q) = self q.0 q.1

    sort : (In k (places n e) × In n r.order) ⊎ (In k r.order × (k ≢ n)) → Place r n e k
    sort (inl p) = here (in_places n e k p.0)
    sort (inr p) = old p.0 p.1

module _ (c : Context) (ok : Accepted c.list) (r : Run) (v : Valid c r) (b : Call) (e : Effect) (h : Accepts c r b e) where
  new_record : (k : ℕ) (x : Numbered) → In x e.made → k ≡ x.number → task_of (apply b.task e r) k ≡ x.task
  new_record k x i q = ap (task_of (apply b.task e r)) q ∙ made_record c ok r v b e h x i

  pub self_record : (k : ℕ) → k ≡ b.task → task_of (apply b.task e r) k ≡ charged e.weight e.task
  self_record k q =
      ap (task_of (apply b.task e r)) q
      ∙ task_self b.task e r (subst (λ s. b.task < s) (sym v.size) h.below)

  -- the future of each after the call
  new_future :
      (k : ℕ) (x : Numbered) (j : ℕ) → In x e.made → k ≡ x.number → Future c k (task_of (apply b.task e r) k) j
      → (x.number < j) × (j < limit c x.number x.task)
  new_future k x j i q f =
      let g : Future c x.number x.task j =
      subst (λ z. Future c z x.task j) q (subst (λ t. Future c k t j) (new_record k x i q) f) in
      let a = number_above c ok x.number x.task in
      (omega (arith, g.0, a), g.1)

  self_future :
      (k j : ℕ) → k ≡ b.task → Future c k (task_of (apply b.task e r) k) j
      → (child_number c b.task e.task ≤ j) × (j < limit c b.task (task_of r b.task))
  unfolding child_number
  self_future k j q f =
      let g : Future c b.task (charged e.weight e.task) j =
      subst (λ z. Future c z (charged e.weight e.task) j) q (subst (λ t. Future c k t j) (self_record k q) f) in
      (g.0, subst (λ s. j < b.task + task_count c.list s) (accepted_fair c ok r v b e h).body g.1)

  old_future :
      (k j : ℕ) → In k r.order → k ≢ b.task → Future c k (task_of (apply b.task e r) k) j → Future c k (task_of r k) j
  old_future k j i q f = subst (λ t. Future c k t j) (other_record c ok r v b e h k i q) f

  -- it was all in the future before
  new_was :
      (x : Numbered) (j : ℕ) → In x e.made → x.number < j → j < limit c x.number x.task
      → Future c b.task (task_of r b.task) j
  new_was x j i p q = let m = made_future c ok r v b e h x i in (omega (arith, m.0), omega (arith, m.1, m.2))

  self_was :
      (j : ℕ) → child_number c b.task e.task ≤ j → j < limit c b.task (task_of r b.task)
      → Future c b.task (task_of r b.task) j
  self_was j p q =
      let m = packed_le c ok _ e.made _ (accepted_fair c ok r v b e h).packed in
      (omega arith, q)

  -- a number given out is in no future any more
  given :
      (k j : ℕ) → Place r b.task e k → Future c k (task_of (apply b.task e r) k) j → In j (numbers e.made)
      → ⊥
  given k j (new x i q) f m =
      let y = numbers_in j e.made m in
      let g = new_future k x j i q f in
      let l = count_law c ok y.0.task.body in
      let same =
      packed_owner c ok _ e.made _ (accepted_fair c ok r v b e h).packed x y.0 j i y.1
      (omega (arith, g.0)) g.1 (omega (arith, y.2)) (omega (arith, y.2, l)) in
      omega (arith, same, g.0, y.2)
  given k j (self q l) f m =
      let y = numbers_in j e.made m in
      let g = self_future k j q f in
      let u = made_future c ok r v b e h y.0 y.1 in
      let l = count_law c ok y.0.task.body in
      omega (arith, g.0, y.2, u.1, l)
  given k j (old i q) f m =
      let y = numbers_in j e.made m in
      q
      (v.owner k b.task j i h.present (old_future k j i q f)
      (subst (Future c b.task (task_of r b.task)) (sym y.2) (made_is_future c ok r v b e h y.0 y.1)))

  -- whose future it was
  was_blank : (k j : ℕ) → Place r b.task e k → Future c k (task_of (apply b.task e r) k) j → task_of r j ≡ never
  was_blank k j (new x i q) f =
      let g = new_future k x j i q f in v.blank b.task j h.present (new_was x j i g.0 g.1)
  was_blank k j (self q l) f =
      let g = self_future k j q f in v.blank b.task j h.present (self_was j g.0 g.1)
  was_blank k j (old i q) f = v.blank k j i (old_future k j i q f)

  not_self : (j : ℕ) → task_of r j ≡ never → j ≡ b.task → ⊥
  not_self j e q = sort (v.active b.task h.present) (ap (λ z. (task_of r z).state) (sym q) ∙ ap (λ t. t.state) e ∙ never_state)
    where
      sort : ((task_of r b.task).state ≡ 1) ⊎ ((task_of r b.task).state ≡ 2) → (task_of r b.task).state ≡ 0 → ⊥
      sort (inl p) z = omega arith
      sort (inr p) z = omega arith

  keeps_blank :
      (k j : ℕ) → Place r b.task e k → Future c k (task_of (apply b.task e r) k) j
      → task_of (apply b.task e r) j ≡ never
  keeps_blank k j p f = task_other b.task e r j absent ∙ was_blank k j p f
    where
      absent : In j (touched b.task e) → ⊥
      absent (inl q) = not_self j (was_blank k j p f) q
      absent (inr m) = given k j p f m

  keeps_active :
      (k : ℕ) → Place r b.task e k
      → ((task_of (apply b.task e r) k).state ≡ 1) ⊎ ((task_of (apply b.task e r) k).state ≡ 2)
  keeps_active k (new x i q) = inl (ap (λ t. t.state) (new_record k x i q) ∙ ((accepted_fair c ok r v b e h).born x i).waiting)
  keeps_active k (self q l) = inr (ap (λ t. t.state) (self_record k q) ∙ (accepted_fair c ok r v b e h).alive l)
  keeps_active k (old i q) =
      subst (λ t. (t.state ≡ 1) ⊎ (t.state ≡ 2)) (sym (other_record c ok r v b e h k i q)) (v.active k i)

  keeps_block : (k : ℕ) → Place r b.task e k → limit c k (task_of (apply b.task e r) k) ≤ 128
  keeps_block k (new x i q) =
      let m = made_future c ok r v b e h x i in
      let l = v.block b.task h.present in
      subst (λ t. limit c k t ≤ 128) (sym (new_record k x i q))
      (subst (λ z. limit c z x.task ≤ 128) (sym q) (omega (arith, m.1, m.2, l)))
  keeps_block k (self q l) =
      subst (λ t. limit c k t ≤ 128) (sym (self_record k q))
      (subst (λ z. limit c z e.task ≤ 128) (sym q)
      (subst (λ s. b.task + task_count c.list s ≤ 128) (sym (accepted_fair c ok r v b e h).body) (v.block b.task h.present)))
  keeps_block k (old i q) = subst (λ t. limit c k t ≤ 128) (sym (other_record c ok r v b e h k i q)) (v.block k i)

  -- two owners of one number
  keeps_owner :
      (k m j : ℕ) → Place r b.task e k → Place r b.task e m → Future c k (task_of (apply b.task e r) k) j
      → Future c m (task_of (apply b.task e r) m) j → k ≡ m
  keeps_owner k m j (new x i q) (new y i' q') f f' =
      let g = new_future k x j i q f in
      let g' = new_future m y j i' q' f' in
      q
      ∙ packed_owner c ok _ e.made _ (accepted_fair c ok r v b e h).packed x y j i i' (omega (arith, g.0)) g.1 (omega (arith, g'.0)) g'.1
      ∙ sym q'
  keeps_owner k m j (new x i q) (self p l) f f' =
      let g = new_future k x j i q f in
      let g' = self_future m j p f' in
      let u = made_future c ok r v b e h x i in
      let bad : ⊥ = omega (arith, g.1, g'.0, u.1) in
      absurd bad
  keeps_owner k m j (new x i q) (old i' ne) f f' =
      let g = new_future k x j i q f in
      absurd (ne (v.owner m b.task j i' h.present (old_future m j i' ne f') (new_was x j i g.0 g.1)))
  keeps_owner k m j (self p l) (new y i' q') f f' =
      let g = new_future m y j i' q' f' in
      let g' = self_future k j p f in
      let u = made_future c ok r v b e h y i' in
      let bad : ⊥ = omega (arith, g.1, g'.0, u.1) in
      absurd bad
  keeps_owner k m j (self p l) (self p' l') f f' = p ∙ sym p'
  keeps_owner k m j (self p l) (old i' ne) f f' =
      let g = self_future k j p f in
      absurd (ne (v.owner m b.task j i' h.present (old_future m j i' ne f') (self_was j g.0 g.1)))
  keeps_owner k m j (old i ne) (new y i' q') f f' =
      let g = new_future m y j i' q' f' in
      absurd (ne (v.owner k b.task j i h.present (old_future k j i ne f) (new_was y j i' g.0 g.1)))
  keeps_owner k m j (old i ne) (self p l) f f' =
      let g = self_future m j p f' in
      absurd (ne (v.owner k b.task j i h.present (old_future k j i ne f) (self_was j g.0 g.1)))
  keeps_owner k m j (old i ne) (old i' ne') f f' = v.owner k m j i i' (old_future k j i ne f) (old_future m j i' ne' f')

  places_distinct : Distinct (places b.task e)
  unfolding places
  places_distinct =
      distinct_append (numbers e.made) (stays e.leaves b.task)
      (packed_distinct c ok _ e.made _ (accepted_fair c ok r v b e h).packed)
      (alone e.leaves)
      (λ k i j. made_absent c ok r v b e h b.task h.present (subst (λ z. In z (numbers e.made)) (stayed k e.leaves j) i))
    where
      alone : (l : Bool) → Distinct (stays l b.task)
      alone true = unfold stays in tt
      alone false = unfold stays in (λ i. i, tt)

      only : (k : ℕ) → In k (b.task ∷ []) → k ≡ b.task
      only k (inl q) = q
      only k (inr q) = absurd q

      stayed : (k : ℕ) (l : Bool) → In k (stays l b.task) → k ≡ b.task
      stayed k true j = absurd (unfold stays in j)
      stayed k false j = only k (unfold stays in j)

  keeps_distinct : Distinct (apply b.task e r).order
  unfolding apply
  keeps_distinct =
      distinct_splice b.task (places b.task e) r.order places_distinct v.distinct (λ k i j. sort k j (in_places b.task e k i))
    where
      sort : (k : ℕ) → In k r.order → In k (numbers e.made) ⊎ ((k ≡ b.task) × (e.leaves ≡ false)) → k ≡ b.task
      sort k j (inl m) = absurd (made_absent c ok r v b e h k j m)
      sort k j (inr q) = q.0

  keeps_size : length (apply b.task e r).tasks ≡ 128
  unfolding apply
  keeps_size = length_written (changes b.task e) r.tasks ∙ v.size

  pub valid_kept : Valid c (apply b.task e r)
  valid_kept =
      record {
        size = keeps_size;
        distinct = keeps_distinct;
        active = λ k i. keeps_active k (place_of r b.task e k i);
        block = λ k i. keeps_block k (place_of r b.task e k i);
        blank = λ k j i f. keeps_blank k j (place_of r b.task e k i) f;
        owner = λ k m j i i' f f'. keeps_owner k m j (place_of r b.task e k i) (place_of r b.task e m i') f f';
      }

pub call_valid :
    (c : Context) → Accepted c.list → (r r' : Run) (b : Call) → Valid c r → call c r b ≡ some r' → Valid c r'
call_valid c ok r r' b v q = let h = call_accept c r b r' q in subst (Valid c) h.2 (valid_kept c ok r v b h.0 h.1)

-- never-made records
pub blanks : (k m : ℕ) → get_or (replicate m never) k never ≡ never
blanks k m = sort (dec_lt k m)
  where
    sort : Dec (k < m) → get_or (replicate m never) k never ≡ never
    sort (yes h) = get_or-replicate m k never never h
    sort (no h) = get_or-eq_default (replicate m never) never (subst (λ z. z ≤ k) (sym (length-replicate m never)) (omega arith))

-- a run of one task alone
module _ (c : Context) (ok : Accepted c.list) (j : Lone) (fits : block_end c j ≤ 128) (memory : List ℕ) where
  lone_below : j.number < length (replicate 128 never)
  lone_below = let q = count_law c ok j.body in let s = length-replicate 128 never in omega (arith, fits)

  pub lone_record : (n : ℕ) → In n (alone j memory).order → (n ≡ j.number) × (task_of (alone j memory) n ≡ first_record j)
  unfolding alone
  lone_record n (inl q) =
      (q, ap (task_of (alone j memory)) q ∙ get_or-set_same (replicate 128 never) j.number (first_record j) never lone_below)
  lone_record n (inr i) = absurd i

  other_blank : (k : ℕ) → j.number < k → task_of (alone j memory) k ≡ never
  unfolding alone
  other_blank k h =
      get_or-set_other (replicate 128 never) j.number k (first_record j) never (λ q. omega arith) ∙ blanks k 128

  pub alone_valid : Valid c (alone j memory)
  alone_valid =
      record {
        size = unfold alone in length-set (replicate 128 never) j.number (first_record j) ∙ length-replicate 128 never;
        distinct = unfold alone in ((λ i. i), tt);
        active = λ n i. inl (ap (λ t. t.state) (lone_record n i).1 ∙ unfold first_record in refl);
        block = λ n i.
            let q = lone_record n i in
            subst (λ t. limit c n t ≤ 128) (sym q.1)
            (subst (λ z. limit c z (first_record j) ≤ 128) (sym q.0) (unfold first_record in fits));
        blank = λ n k i f.
            let a = number_above c ok n (task_of (alone j memory) n) in
            other_blank k (omega (arith, f.0, a, (lone_record n i).0));
        owner = λ n m k i i' f g. (lone_record n i).0 ∙ sym (lone_record m i').0;
      }

-- an initial run is one of job 0 alone
abbrev pub root_lone : Context → Lone
root_lone c =
    record { number = 0; body = 0; registers = 0 ∷ 0 ∷ 0 ∷ 0 ∷ []; modes = root_modes c.list.locations }

pub initial_alone : (c : Context) (memory : List ℕ) → alone (root_lone c) memory ≡ initial c memory
unfolding alone first_record initial root
initial_alone c memory = refl

pub initial_valid : (c : Context) → Accepted c.list → (memory : List ℕ) → Valid c (initial c memory)
initial_valid c ok memory =
    subst (Valid c) (initial_alone c memory) (alone_valid c ok (root_lone c) (omega (arith, ok.most_tasks)) memory)
