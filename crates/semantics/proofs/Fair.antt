-- Fair plans: what every plan leaves alone, and where the numbers of the tasks it makes come from. Assumes nothing.
use Prim.Native.Nat.{ℕ, zero, suc, ◌+◌, ◌*◌, ◌≤◌, ◌<◌}
use mathlib.Core.Path.{◌≡◌, refl, sym, ap, subst, ◌∙◌}
use mathlib.Core.List.{List, [], ◌∷◌, ◌++◌}
use mathlib.Core.Bool.{Bool, true, false, cond, ◌&&◌, ◌||◌, false≢true}
use mathlib.Core.Logic.{inl, inr}
use native.Mathlib.Omega.{arith}
use native.Mathlib.Nat.{le_refl}
use lib.ListN.{length, get_or, take, drop}
use lib.Seq.{take-add, drop-cons}
use lib.Dec.{ltb, eqb}
use borrow.Author.Tests.{ltb-true, leb-false, eqb-true}
use Rattle.tasklist.specs.declared.Instruction.{Instruction}
use Rattle.tasklist.specs.declared.Instruction.TheVariants.{Const, Add, Sub, Less, Load, Store, Skip, Spawn, Wait, Fan, Sum, Mul, Div}
use Rattle.tasklist.specs.TaskList.{blank_instruction, body_of, footprint_of, instruction_of, total, adds, task_count}
use Rattle.tasklist.specs.Decode.{spawn_ok, instruction_ok}
use Rattle.tasklist.specs.Accepted.{Accepted, scope_of}
use Rattle.semantics.specs.Run.{Task, Context, mode_of, register}
use Rattle.semantics.specs.Access.{Access, writes, own_access, compatible, access_fault}
use Rattle.semantics.specs.Effect.{Edit, keep, put, add, Numbered, Effect, Plan, stop, go, fetch, own, moved, faulted, numbered_from}
use Rattle.semantics.specs.Footprint.{Grant, denied, granted, child_modes, Children, none_made, all_made, children, fan_of}
use Rattle.semantics.specs.Plan.{unless_fault, plan_load, plan_store, plan_wait, plan_sum, quotient_fault, plan_quotient, child_number, plan_make, plan_instruction, at_end, plan_start, plan_step, plan_end, Action, start, step, end, plan}
use Rattle.semantics.specs.Sound.{In}
use Rattle.semantics.proofs.Order.{and_left, and_right}
use Rattle.semantics.proofs.Modes.{Under, GrantUnder, child_under}
use Rattle.semantics.proofs.Children.{Made, MadeOne, children_made, alone, fan_fits, fan_length, fan_in, numbered_in}

-- The tasks made, packed one behind the other between two numbers, each with the block of numbers of its body's count.
abbrev pub Packed : Context → ℕ → List Numbered → ℕ → Type 0
Packed c low [] high = low ≤ high
Packed c low (x ∷ xs) high = (low ≤ x.number) × Packed c (x.number + task_count c.list x.task.body) xs high

-- tasks of one body, numbered its count apart
numbered_packed :
    (c : Context) (s first : ℕ) (ts : List Task) → ((x : Task) → In x ts → x.body ≡ s)
    → Packed c first (numbered_from first (task_count c.list s) ts) (first + length ts * task_count c.list s)
unfolding numbered_from
numbered_packed c s first [] h = omega arith
numbered_packed c s first (t ∷ ts) h =
    let apart = task_count c.list s in
    let next = first + apart in
    let later = numbered_from next apart ts in
    let ends : next + length ts * apart ≡ first + suc (length ts) * apart = omega arith in
    let packed = subst (Packed c next later) ends (numbered_packed c s next ts (λ x i. h x (inr i))) in
    (le_refl _, subst (λ b. Packed c (first + task_count c.list b) later (first + suc (length ts) * apart)) (sym (h t (inl refl))) packed)

-- A task just made by t: waiting, at its body's begin, under t's modes, with a higher body of the list.
pub record Newborn (c : Context) (t t' : Task) : Type 0 where
  pub waiting : t'.state ≡ 1
  pub begins : t'.pc ≡ 0
  pub under : Under t t'.modes
  pub higher : t.body < t'.body
  pub exists : t'.body < length c.list.bodies

-- What an effect on task n of record t keeps.
pub record Fair (c : Context) (n : ℕ) (t : Task) (e : Effect) : Type 0 where
  pub body : e.task.body ≡ t.body
  pub modes : e.task.modes ≡ t.modes
  pub alive : e.leaves ≡ false → e.task.state ≡ 2
  pub born : (x : Numbered) → In x e.made → Newborn c t x.task
  pub packed : Packed c (child_number c n t) e.made (child_number c n e.task)

-- an edit stands behind a guard of its own location, and the task's own mode allows it
abbrev pub Guarded : Task → List Access → Edit → Type 0
Guarded t gs keep = Unit {0}
Guarded t gs (put a v) = In (writes a) gs × (access_fault (mode_of t a) 2 ≡ 0)
Guarded t gs (add a v) = In (own_access t a) gs × (access_fault (mode_of t a) 3 ≡ 0)

abbrev pub FairPlan : Context → ℕ → Task → Plan → Type 0
FairPlan c n t (stop k) = Unit {0}
FairPlan c n t (go gs e) = Fair c n t e × Guarded t gs e.edit
FairPlan c n t (fetch a f) = (access_fault (mode_of t a) 1 ≡ 0) × ((v : ℕ) → Fair c n t (f v) × ((f v).edit ≡ keep))

-- the numbers given out up to a place of a body
pub total_append : {A : Type 0} (f : A → ℕ) (xs ys : List A) → total f (xs ++ ys) ≡ total f xs + total f ys
unfolding total
total_append f [] ys = omega arith
total_append f (x ∷ xs) ys = rw (total_append f xs ys) (omega arith)

total_take_le : {A : Type 0} (f : A → ℕ) (l : List A) (i k : ℕ) → total f (take i l) ≤ total f (take (i + k) l)
total_take_le f l i k = rw (take-add i k l, total_append f (take i l) (take k (drop i l))) (omega arith)

pub total_take_one :
    {A : Type 0} (f : A → ℕ) (l : List A) (i : ℕ) (d : A) → i < length l
    → total f (take (i + 1) l) ≡ total f (take i l) + f (get_or l i d)
unfolding total
total_take_one f l i d h = rw (take-add i 1 l, total_append f (take i l) (take 1 (drop i l)), drop-cons l i d h) (omega arith)

pub total_take_all : {A : Type 0} (f : A → ℕ) (l : List A) (i : ℕ) → total f (take i l) ≤ total f l
unfolding total
total_take_all f l zero = omega arith
total_take_all f [] (suc i) = omega arith
total_take_all f (x ∷ l) (suc i) = let h = total_take_all f l i in omega arith

module _ (c : Context) (n : ℕ) (t : Task) where
  pub later_number : (k : ℕ) (rs : List ℕ) → child_number c n t ≤ child_number c n (moved k rs t)
  unfolding child_number
  later_number k rs =
      let h = total_take_le (adds (task_count c.list)) (body_of c.list t.body) t.pc k in omega arith

  fair_moved : (w k : ℕ) (rs : List ℕ) → t.state ≡ 2 → Fair c n t (own w (moved k rs t))
  fair_moved w k rs s =
      record { body = refl; modes = refl; alive = λ _. s; born = λ x i. absurd i; packed = later_number k rs }

  -- one step on that may edit the memory
  fair_edit :
      (w : ℕ) (E : Edit) → t.state ≡ 2
      → Fair c n t (record { task = moved 1 t.registers t; edit = E; made = []; leaves = false; weight = w })
  fair_edit w E s =
      record { body = refl; modes = refl; alive = λ _. s; born = λ x i. absurd i; packed = later_number 1 t.registers }

  fair_faulted : (w k : ℕ) → t.state ≡ 2 → Fair c n t (own w (faulted k t))
  unfolding child_number
  fair_faulted w k s =
      record { body = refl; modes = refl; alive = λ _. s; born = λ x i. absurd i; packed = le_refl _ }

  fair_unless : (f w : ℕ) (p : Plan) → t.state ≡ 2 → (f ≡ 0 → FairPlan c n t p) → FairPlan c n t (unless_fault f w t p)
  unfolding unless_fault
  fair_unless zero w p s h = h refl
  fair_unless (suc k) w p s h = (fair_faulted w (suc k) s, tt)

  fair_quotient : (w a m d : ℕ) → t.state ≡ 2 → FairPlan c n t (plan_quotient w t a m d)
  unfolding plan_quotient
  fair_quotient w a m d s = fair_unless (quotient_fault m d) w _ s (λ _. (fair_moved w 1 _ s, tt))

  fair_cond :
      (b : Bool) (p q : Plan) → (b ≡ true → FairPlan c n t p) → (b ≡ false → FairPlan c n t q)
      → FairPlan c n t (cond b p q)
  fair_cond true p q h k = h refl
  fair_cond false p q h k = k refl

  -- a child of the spawner as it sees it, with a body that the list's tests let through
  newborn :
      (s f : ℕ) → spawn_ok (scope_of c.list t.body t.pc) s f ≡ true → (x : Task) → x.modes ≡ t.modes
      → (g : Grant) → GrantUnder x g → MadeOne (λ _. Unit {0}) (λ y. Newborn c t y × (y.body ≡ s)) s x g
  newborn s f fits x q (denied k) u = tt
  newborn s f fits x q (granted ms) u = (
    record {
      waiting = refl;
      begins = refl;
      under = λ a w h. u a w (subst (λ l. compatible (get_or l a 0) w ≡ true) (sym q) h);
      higher = ltb-true t.body s (and_left _ (ltb s (length c.list.bodies)) both);
      exists = ltb-true s (length c.list.bodies) (and_right (ltb t.body s) _ both);
    },
    refl,
  )
    where
      three : (ltb t.body s && ltb s (length c.list.bodies) && ltb f (length c.list.footprints)) ≡ true
      three = unfold spawn_ok in fits

      both : (ltb t.body s && ltb s (length c.list.bodies)) ≡ true
      both = and_left (ltb t.body s && ltb s (length c.list.bodies)) _ three

  -- the children of one body take the numbers that their instruction adds
  fair_make :
      (w s k : ℕ) → t.state ≡ 2 → t.pc < length (body_of c.list t.body)
      → adds (task_count c.list) (instruction_of c.list t.body t.pc) ≡ k * task_count c.list s
      → (ys : Children) → Made (λ _. Unit {0}) (λ y. Newborn c t y × (y.body ≡ s)) k ys
      → FairPlan c n t (plan_make c w n t s ys)
  unfolding plan_make
  fair_make w s k st h q (none_made f) m = (fair_faulted w f st, tt)
  fair_make w s k st h q (all_made ys) m =
      (record { body = refl; modes = refl; alive = λ _. st; born = born; packed = packed }, tt)
    where
      made : List Numbered
      made = numbered_from (child_number c n t) (task_count c.list s) ys

      born : (x : Numbered) → In x made → Newborn c t x.task
      born x i = (m.1 x.task (numbered_in (child_number c n t) (task_count c.list s) ys x i)).0

      added :
          adds (task_count c.list) (get_or (body_of c.list t.body) t.pc blank_instruction)
          ≡ k * task_count c.list s
      added = unfold instruction_of in q

      grows :
          total (adds (task_count c.list)) (take (t.pc + 1) (body_of c.list t.body))
          ≡ total (adds (task_count c.list)) (take t.pc (body_of c.list t.body))
          + length ys * task_count c.list s
      grows =
          total_take_one (adds (task_count c.list)) (body_of c.list t.body) t.pc blank_instruction h
          ∙ ap (λ j. total (adds (task_count c.list)) (take t.pc (body_of c.list t.body)) + j)
          (added ∙ ap (λ j. j * task_count c.list s) (sym m.0))

      ends : child_number c n t + length ys * task_count c.list s ≡ child_number c n (moved 1 t.registers t)
      ends = unfold child_number in omega (arith, grows)

      packed : Packed c (child_number c n t) made (child_number c n (moved 1 t.registers t))
      packed =
          subst (Packed c (child_number c n t) made) ends
          (numbered_packed c s (child_number c n t) ys (λ x i. (m.1 x i).1))

  -- the instruction that a step meets has passed its tests
  passed :
      Accepted c.list → t.pc < length (body_of c.list t.body) → (i : Instruction)
      → instruction_of c.list t.body t.pc ≡ i → instruction_ok (scope_of c.list t.body t.pc) i ≡ true
  passed ok h i q =
      subst (λ j. instruction_ok (scope_of c.list t.body t.pc) j ≡ true) q (ok.instructions t.body t.pc h)

  fair_instruction :
      (ok : Accepted c.list) (w : ℕ) → t.state ≡ 2 → t.pc < length (body_of c.list t.body)
      → (i : Instruction) → instruction_of c.list t.body t.pc ≡ i → FairPlan c n t (plan_instruction c w n t i)
  unfolding plan_instruction plan_load plan_store plan_wait plan_sum
  fair_instruction ok w s h (Const a v) q = (fair_moved w 1 _ s, tt)
  fair_instruction ok w s h (Add a x y) q = (fair_moved w 1 _ s, tt)
  fair_instruction ok w s h (Sub a x y) q = (fair_moved w 1 _ s, tt)
  fair_instruction ok w s h (Less a x y) q = (fair_moved w 1 _ s, tt)
  fair_instruction ok w s h (Load a x) q =
      fair_unless (access_fault (mode_of t (register t x)) 1) w _ s (λ f. (f, λ v. (fair_moved w 1 _ s, refl)))
  fair_instruction ok w s h (Store a x) q =
      fair_unless (access_fault (mode_of t (register t a)) 2) w _ s
      (λ f. (fair_edit w (put (register t a) (register t x)) s, (inl refl, f)))
  fair_instruction ok w s h (Skip a b) q = (fair_moved w _ _ s, tt)
  fair_instruction ok w s h (Spawn b f) q =
      fair_make w b 1 s h (ap (adds (task_count c.list)) q ∙ unfold adds in omega arith) (children b (footprint_of c.list f) (t ∷ []))
      (children_made (λ _. Unit {0}) (λ y. Newborn c t y × (y.body ≡ b)) b (footprint_of c.list f) (t ∷ [])
      (λ x i.
      newborn b f (unfold instruction_ok in passed ok h _ q) x (ap (λ y. y.modes) (alone t x i)) (child_modes x (footprint_of c.list f)) (child_under x _)))
  fair_instruction ok w s h (Wait a) q =
      fair_unless (access_fault (mode_of t (register t a)) (mode_of t (register t a))) w _ s (λ f. (fair_moved w 1 _ s, tt))
  fair_instruction ok w s h (Fan b f k) q =
      fair_make w b k s h (ap (adds (task_count c.list)) q ∙ unfold adds in refl) (children b (footprint_of c.list f) (fan_of 0 k t))
      (subst (λ j. Made (λ _. Unit {0}) (λ y. Newborn c t y × (y.body ≡ b)) j (children b (footprint_of c.list f) (fan_of 0 k t))) (fan_length 0 k t)
      (children_made (λ _. Unit {0}) (λ y. Newborn c t y × (y.body ≡ b)) b (footprint_of c.list f) (fan_of 0 k t)
      (λ x i.
      newborn b f (fan_fits _ b f k (passed ok h _ q)).0 x
      (ap (λ y. y.modes) (fan_in 0 k t x i).1) (child_modes x (footprint_of c.list f)) (child_under x _))))
  fair_instruction ok w s h (Sum a x) q =
      fair_unless (access_fault (mode_of t (register t a)) 3) w _ s
      (λ f. (fair_edit w (add (register t a) (register t x)) s, (inl refl, f)))
  fair_instruction ok w s h (Mul a x y) q = fair_quotient w a _ _ s
  fair_instruction ok w s h (Div a x y) q = fair_quotient w a _ _ s

  pub not_at_end : at_end c t ≡ false → t.pc < length (body_of c.list t.body)
  unfolding at_end
  not_at_end h = leb-false (length (body_of c.list t.body)) t.pc (first _ _ h)
    where
      first : (a b : Bool) → (a || b) ≡ false → a ≡ false
      first true b q = q
      first false b q = refl

  pub fair_plan : Accepted c.list → (a : Action) → FairPlan c n t (plan c a n t)
  unfolding plan plan_start plan_step plan_end child_number
  fair_plan ok start =
      fair_cond (eqb t.state 1) _ _
      (λ _. (record { body = refl; modes = refl; alive = λ _. refl; born = λ x i. absurd i; packed = le_refl _ }, tt)) (λ _. tt)
  fair_plan ok step =
      fair_cond (eqb t.state 2) _ _
      (λ s.
      fair_cond (at_end c t) _ _ (λ _. tt)
      (λ h. fair_instruction ok _ (eqb-true t.state 2 s) (not_at_end h) _ refl))
      (λ _. tt)
  fair_plan ok end =
      fair_cond (eqb t.state 2) _ _
      (λ s.
      fair_cond (at_end c t) _ _
      (λ _. (record { body = refl; modes = refl; alive = λ q. absurd (false≢true (sym q)); born = λ x i. absurd i; packed = le_refl _ }, tt))
      (λ _. tt))
      (λ _. tt)
