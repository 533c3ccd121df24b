-- What a plan keeps sound: the bounds of a task's record, of the tasks made, of what is stored and of the weight; and each
-- accepted call raises its task's rank by one. Assumes nothing.
use Prim.Native.Nat.{ℕ, zero, suc, ◌+◌, ◌-◌, ◌*◌, ◌^◌, ◌<◌, ◌≤◌}
use mathlib.Core.Path.{◌≡◌, refl, sym, ap, subst}
use mathlib.Core.List.{List, [], ◌∷◌}
use mathlib.Core.Bool.{Bool, true, false, cond, ◌&&◌, ◌||◌, false≢true}
use native.Mathlib.Omega.{arith}
use native.Mathlib.Nat.{mod-lt, mul-le-mul_right}
use lib.ListN.{length, get_or, set}
use lib.Dec.{ltb, leb, eqb}
use borrow.Author.Tests.{eqb-true, leb-true, ltb-true, not-false}
use Rattle.tasklist.specs.declared.Instruction.{Instruction}
use Rattle.tasklist.specs.declared.Instruction.TheVariants.{Const, Add, Sub, Less, Load, Store, Skip, Spawn, Wait, Fan, Sum, Mul, Div}
use Rattle.tasklist.specs.declared.Line.{Line}
use Rattle.tasklist.specs.declared.Scope.{Scope}
use Rattle.tasklist.specs.TaskList.{body_of, footprint_of, instruction_of, task_count}
use Rattle.tasklist.specs.Decode.{spawn_ok, instruction_ok}
use Rattle.tasklist.specs.Encode.{instruction_fields}
use Rattle.tasklist.specs.Accepted.{Accepted, scope_of}
use Rattle.tasklist.specs.Decode
use Rattle.semantics.specs.Run.{Task, Context, mode_of, register, weight_places, weight_of}
use Rattle.semantics.specs.Access.{access_fault}
use Rattle.semantics.specs.Effect.{Edit, keep, put, add, Numbered, Effect, Plan, stop, go, fetch, own, in_state, moved, faulted}
use Rattle.semantics.specs.Footprint.{Grant, denied, granted, child_modes, Children, none_made, all_made, children, fan_of}
use Rattle.semantics.specs.Plan.{wrap, unless_fault, plan_load, plan_store, plan_wait, plan_sum, passed_over, quotient_fault, plan_quotient, child_number, plan_make, plan_instruction, units, step_weight, at_end, plan_start, plan_step, plan_end, Action, start, step, end, plan}
use Rattle.semantics.specs.Sound.{In, ModesSound, RegistersSound, TaskSound, rank, Weighty}
use Rattle.semantics.proofs.Order.{and_left, and_right}
use Rattle.semantics.proofs.Modes.{not_zero}
use Rattle.semantics.proofs.Children.{Made, MadeOne, children_made, alone, fan_fits, fan_in, numbered_in}
use Rattle.semantics.proofs.Fair.{not_at_end}
use Rattle.semantics.proofs.Rounding.{quotient_fault_most, quotient_small}
use Rattle.semantics.proofs.SoundModes.{fault_most, registers_set, GrantSound, child_sound}

-- A task just made.
pub record NewSound (c : Context) (t : Task) : Type 0 where
  pub task : TaskSound c t
  pub unranked : rank t ≡ 0
  pub unpaid : t.weight ≡ 0

abbrev pub SmallEdit : Edit → Type 0
SmallEdit keep = Unit {0}
SmallEdit (put a v) = v < 2 ^ 32
SmallEdit (add a v) = Unit {0}

-- a call's weight: at most so much, and at least 1 where the table has no 0
abbrev pub Fee : Context → ℕ → ℕ → Type 0
Fee c most w = (w ≤ most) × (Weighty c → 1 ≤ w)

pub record EffectSound (c : Context) (most : ℕ) (t : Task) (e : Effect) : Type 0 where
  pub task : TaskSound c e.task
  pub alive : e.task.state ≡ 0 → ⊥
  pub ranked : rank e.task ≡ suc (rank t)
  pub paid : e.task.weight ≡ t.weight
  pub edit : SmallEdit e.edit
  pub weight : Fee c most e.weight
  pub made : (x : Numbered) → In x e.made → NewSound c x.task
  pub left : e.leaves ≡ true → e.task.state ≡ 3

abbrev pub PlanSound : Context → ℕ → Task → Plan → Type 0
PlanSound c most t (stop k) = Unit {0}
PlanSound c most t (go gs e) = EffectSound c most t e
PlanSound c most t (fetch a f) = (v : ℕ) → v < 2 ^ 32 → EffectSound c most t (f v)

wrapped : (x : ℕ) → wrap x < 2 ^ 32
wrapped x = mod-lt x (omega arith)

passed_most : (x b : ℕ) → passed_over x b ≤ b
unfolding passed_over
passed_most zero b = omega arith
passed_most (suc x) b = omega arith

-- a started task that is not at its end
module _
    (c : Context) (ok : Accepted c.list) (most n : ℕ) (t : Task)
    (h : TaskSound c t) (s : t.state ≡ 2) (inside : t.pc < length (body_of c.list t.body)) (clean : t.fault ≡ 0)
  where
    size : length (body_of c.list t.body) ≤ 32
    size = ok.most_instructions t.body

    started : t.state ≡ 0 → ⊥
    started q = omega arith

    moved_sound :
        (k : ℕ) (rs : List ℕ) → 0 < k → t.pc + k ≤ length (body_of c.list t.body) → RegistersSound rs
        → TaskSound c (moved k rs t)
    moved_sound k rs p l q =
        let e = h.early clean in
        let z = size in
        record {
          state = h.state;
          body = h.body;
          pc = l;
          registers = q;
          modes = h.modes;
          steps = omega arith;
          early = λ _. omega arith;
          fault = h.fault;
          blank = λ x. absurd (started x);
        }

    fault_sound : (k : ℕ) → k ≤ 5 → (k ≡ 0 → ⊥) → TaskSound c (faulted k t)
    fault_sound k p q =
        let e = h.early clean in
        let z = size in
        record {
          state = h.state;
          body = h.body;
          pc = h.pc;
          registers = h.registers;
          modes = h.modes;
          steps = omega arith;
          early = λ x. absurd (q x);
          fault = p;
          blank = λ x. absurd (started x);
        }

    rank_on : (k : ℕ) (rs : List ℕ) → rank (moved k rs t) ≡ suc (rank t)
    unfolding rank
    rank_on k rs = omega arith

    rank_fault : (k : ℕ) → rank (faulted k t) ≡ suc (rank t)
    unfolding rank
    rank_fault k = omega arith

    on_sound :
        (w k : ℕ) (rs : List ℕ) → Fee c most w → 0 < k → t.pc + k ≤ length (body_of c.list t.body)
        → RegistersSound rs → EffectSound c most t (own w (moved k rs t))
    on_sound w k rs m p l q =
        record {
          task = moved_sound k rs p l q;
          alive = started;
          ranked = rank_on k rs;
          paid = refl;
          edit = tt;
          weight = m;
          made = λ x i. absurd i;
          left = λ x. absurd (false≢true x);
        }

    -- one step on that may edit the memory
    edit_sound :
        (w : ℕ) (E : Edit) → Fee c most w → SmallEdit E
        → EffectSound c most t (record { task = moved 1 t.registers t; edit = E; made = []; leaves = false; weight = w })
    edit_sound w E m s =
        record {
          task = moved_sound 1 t.registers (omega arith) (omega arith) h.registers;
          alive = started;
          ranked = rank_on 1 t.registers;
          paid = refl;
          edit = s;
          weight = m;
          made = λ x i. absurd i;
          left = λ x. absurd (false≢true x);
        }

    set_on : (w a v : ℕ) → Fee c most w → v < 2 ^ 32 → EffectSound c most t (own w (moved 1 (set t.registers a v) t))
    set_on w a v m q = on_sound w 1 (set t.registers a v) m (omega arith) (omega arith) (registers_set t.registers a v h.registers q)

    fails_sound : (w k : ℕ) → Fee c most w → k ≤ 5 → (k ≡ 0 → ⊥) → EffectSound c most t (own w (faulted k t))
    fails_sound w k m p q =
        record {
          task = fault_sound k p q;
          alive = started;
          ranked = rank_fault k;
          paid = refl;
          edit = tt;
          weight = m;
          made = λ x i. absurd i;
          left = λ x. absurd (false≢true x);
        }

    fault_or : (f w : ℕ) (p : Plan) → Fee c most w → f ≤ 5 → (f ≡ 0 → PlanSound c most t p) → PlanSound c most t (unless_fault f w t p)
    unfolding unless_fault
    fault_or zero w p m l q = q refl
    fault_or (suc k) w p m l q = fails_sound w (suc k) m (omega arith) (not_zero k)

    access_or :
        (o asked w : ℕ) (p : Plan) → Fee c most w → PlanSound c most t p
        → PlanSound c most t (unless_fault (access_fault o asked) w t p)
    access_or o asked w p m q = fault_or (access_fault o asked) w p m (omega (arith, fault_most o asked)) (λ _. q)

    quotient_sound : (w a n d : ℕ) → Fee c most w → PlanSound c most t (plan_quotient w t a n d)
    unfolding plan_quotient
    quotient_sound w a n d m =
        fault_or (quotient_fault n d) w _ m (quotient_fault_most n d) (λ f. set_on w a _ m (quotient_small n d f))

    -- a child of the spawner as it sees it
    new_sound :
        (s : ℕ) → s < length c.list.bodies → (x : Task) → RegistersSound x.registers → (g : Grant)
        → GrantSound c.list.locations g → MadeOne (λ f. (f ≤ 2) × (f ≡ 0 → ⊥)) (NewSound c) s x g
    new_sound s l x rs (denied f) q = q
    new_sound s l x rs (granted ms) q =
        record {
          task =
              record {
                state = omega arith;
                body = l;
                pc = omega arith;
                registers = rs;
                modes = q;
                steps = omega arith;
                early = λ _. omega arith;
                fault = omega arith;
                blank = λ y. absurd (not_zero 0 y);
              };
          unranked = unfold rank in refl;
          unpaid = refl;
        }

    -- the spawner as its children see it has its own modes and sound registers
    children_sound :
        (s : ℕ) → s < length c.list.bodies → (ls : List Line) (ts : List Task)
        → ((x : Task) → In x ts → (x.modes ≡ t.modes) × RegistersSound x.registers)
        → Made (λ f. (f ≤ 2) × (f ≡ 0 → ⊥)) (NewSound c) (length ts) (children s ls ts)
    children_sound s l ls ts v =
        children_made (λ f. (f ≤ 2) × (f ≡ 0 → ⊥)) (NewSound c) s ls ts
        (λ x i.
        new_sound s l x (v x i).1 (child_modes x ls)
        (child_sound c.list.locations x (subst (ModesSound c.list.locations) (sym (v x i).0) h.modes) ls))

    make_sound :
        (w s k : ℕ) (ys : Children) → Fee c most w → Made (λ f. (f ≤ 2) × (f ≡ 0 → ⊥)) (NewSound c) k ys
        → PlanSound c most t (plan_make c w n t s ys)
    unfolding plan_make
    make_sound w s k (none_made f) m q = fails_sound w f m (omega (arith, q.0)) q.1
    make_sound w s k (all_made ts) m q =
        record {
          task = moved_sound 1 t.registers (omega arith) (omega arith) h.registers;
          alive = started;
          ranked = rank_on 1 t.registers;
          paid = refl;
          edit = tt;
          weight = m;
          made = λ x i. q.1 x.task (numbered_in (child_number c n t) (task_count c.list s) ts x i);
          left = λ x. absurd (false≢true x);
        }

    -- a spawn's or a fan's body is of the list
    body_exists : (s f : ℕ) → spawn_ok (scope_of c.list t.body t.pc) s f ≡ true → s < length c.list.bodies
    unfolding spawn_ok
    body_exists s f q =
        ltb-true s (length c.list.bodies)
        (and_right (ltb t.body s) (ltb s (length c.list.bodies))
        (and_left (ltb t.body s && ltb s (length c.list.bodies)) _ q))

    instruction_sound :
        (w : ℕ) → Fee c most w → (i : Instruction) → instruction_ok (scope_of c.list t.body t.pc) i ≡ true
        → PlanSound c most t (plan_instruction c w n t i)
    unfolding plan_instruction plan_load plan_store plan_wait plan_sum instruction_ok
    instruction_sound w m (Const a v) q = set_on w a (wrap v) m (wrapped v)
    instruction_sound w m (Add a x y) q = set_on w a _ m (wrapped (register t x + register t y))
    instruction_sound w m (Sub a x y) q = set_on w a _ m (wrapped (register t x + 2 ^ 32 - register t y))
    instruction_sound w m (Less a x y) q = set_on w a _ m (bit (ltb (register t x) (register t y)))
      where
        bit : (b : Bool) → cond b 1 0 < 2 ^ 32
        bit true = omega arith
        bit false = omega arith
    instruction_sound w m (Load a x) q =
        access_or (mode_of t (register t x)) 1 w _ m (λ v k. set_on w a v m k)
    instruction_sound w m (Store a x) q =
        access_or (mode_of t (register t a)) 2 w _ m (edit_sound w (put (register t a) (register t x)) m (h.registers.small x))
    instruction_sound w m (Skip a b) q =
        let room = leb-true (t.pc + 1 + b) (length (body_of c.list t.body)) (and_right (Decode.register a) _ q) in
        let p = passed_most (register t a) b in
        on_sound w (1 + passed_over (register t a) b) t.registers m (omega arith) (omega arith) h.registers
    instruction_sound w m (Spawn s f) q =
        make_sound w s 1 (children s (footprint_of c.list f) (t ∷ [])) m
        (children_sound s (body_exists s f q) (footprint_of c.list f) (t ∷ [])
        (λ x i.
        subst (λ y. (y.modes ≡ t.modes) × RegistersSound y.registers) (sym (alone t x i)) (refl, h.registers)))
    instruction_sound w m (Wait a) q =
        access_or (mode_of t (register t a)) (mode_of t (register t a)) w _ m
        (on_sound w 1 t.registers m (omega arith) (omega arith) h.registers)
    instruction_sound w m (Fan s f k) q =
        let fits = fan_fits (scope_of c.list t.body t.pc) s f k q in
        make_sound w s _ (children s (footprint_of c.list f) (fan_of 0 k t)) m
        (children_sound s (body_exists s f fits.0) (footprint_of c.list f) (fan_of 0 k t)
        (λ x i.
        let v = fan_in 0 k t x i in
        subst (λ y. (y.modes ≡ t.modes) × RegistersSound y.registers) (sym v.1)
        (refl, registers_set t.registers 0 v.0 h.registers (omega (arith, v.2, fits.1)))))
    instruction_sound w m (Sum a x) q =
        access_or (mode_of t (register t a)) 3 w _ m (edit_sound w (add (register t a) (register t x)) m tt)
    instruction_sound w m (Mul a x y) q = quotient_sound w a _ _ m
    instruction_sound w m (Div a x y) q = quotient_sound w a _ _ m

-- a step weighs its code's number at most 16 times, and at least once
units_most : (at : Scope) (i : Instruction) → instruction_ok at i ≡ true → units i ≤ 16
unfolding units
units_most at (Const a v) q = omega arith
units_most at (Add a x y) q = omega arith
units_most at (Sub a x y) q = omega arith
units_most at (Less a x y) q = omega arith
units_most at (Load a x) q = omega arith
units_most at (Store a x) q = omega arith
units_most at (Skip a b) q = omega arith
units_most at (Spawn s f) q = omega arith
units_most at (Wait a) q = omega arith
units_most at (Fan s f k) q = (fan_fits at s f k q).1
units_most at (Sum a x) q = omega arith
units_most at (Mul a x y) q = omega arith
units_most at (Div a x y) q = omega arith

units_least : (at : Scope) (i : Instruction) → instruction_ok at i ≡ true → 1 ≤ units i
unfolding units instruction_ok
units_least at (Const a v) q = omega arith
units_least at (Add a x y) q = omega arith
units_least at (Sub a x y) q = omega arith
units_least at (Less a x y) q = omega arith
units_least at (Load a x) q = omega arith
units_least at (Store a x) q = omega arith
units_least at (Skip a b) q = omega arith
units_least at (Spawn s f) q = omega arith
units_least at (Wait a) q = omega arith
units_least at (Fan s f k) q =
    leb-true 1 k (and_right (spawn_ok at s f) (leb 1 k) (and_left (spawn_ok at s f && leb 1 k) (leb k 16) q))
units_least at (Sum a x) q = omega arith
units_least at (Mul a x y) q = omega arith
units_least at (Div a x y) q = omega arith

-- the table has a number for each code
code_place : (i : Instruction) → get_or (instruction_fields i) 0 0 + 2 < weight_places
unfolding instruction_fields weight_places
code_place (Const a v) = omega arith
code_place (Add a x y) = omega arith
code_place (Sub a x y) = omega arith
code_place (Less a x y) = omega arith
code_place (Load a x) = omega arith
code_place (Store a x) = omega arith
code_place (Skip a b) = omega arith
code_place (Spawn s f) = omega arith
code_place (Wait a) = omega arith
code_place (Fan s f k) = omega arith
code_place (Sum a x) = omega arith
code_place (Mul a x y) = omega arith
code_place (Div a x y) = omega arith

module _
    (c : Context) (ok : Accepted c.list) (most : ℕ) (light : (place : ℕ) → 16 * weight_of c place ≤ most) (n : ℕ)
    (t : Task) (h : TaskSound c t)
  where
    no_fault : at_end c t ≡ false → t.fault ≡ 0
    unfolding at_end
    no_fault q = eqb-true t.fault 0 (not-false (eqb t.fault 0) (second (leb (length (body_of c.list t.body)) t.pc) _ q))
      where
        second : (a b : Bool) → (a || b) ≡ false → b ≡ false
        second true b p = absurd (false≢true (sym p))
        second false b p = p

    cond_sound :
        (b : Bool) (p q : Plan) → (b ≡ true → PlanSound c most t p) → (b ≡ false → PlanSound c most t q)
        → PlanSound c most t (cond b p q)
    cond_sound true p q x y = x refl
    cond_sound false p q x y = y refl

    -- a record in another state
    state_sound : (k : ℕ) → k ≤ 3 → (k ≡ 0 → ⊥) → TaskSound c (in_state k t)
    state_sound k p q =
        record {
          state = p;
          body = h.body;
          pc = h.pc;
          registers = h.registers;
          modes = h.modes;
          steps = h.steps;
          early = h.early;
          fault = h.fault;
          blank = λ x. absurd (q x);
        }

    rank_start : t.state ≡ 1 → rank (in_state 2 t) ≡ suc (rank t)
    unfolding rank
    rank_start s =
        let z : ◌≡◌ {A = ℕ} (get_or (0 ∷ 0 ∷ 1 ∷ 2 ∷ []) t.state 0) 0 = ap {B = ℕ} (λ k. get_or (0 ∷ 0 ∷ 1 ∷ 2 ∷ []) k 0) s in omega arith

    rank_end : t.state ≡ 2 → rank (in_state 3 t) ≡ suc (rank t)
    unfolding rank
    rank_end s =
        let z : ◌≡◌ {A = ℕ} (get_or (0 ∷ 0 ∷ 1 ∷ 2 ∷ []) t.state 0) 1 = ap {B = ℕ} (λ k. get_or (0 ∷ 0 ∷ 1 ∷ 2 ∷ []) k 0) s in omega arith

    step_fee :
        (i : Instruction) → instruction_ok (scope_of c.list t.body t.pc) i ≡ true → Fee c most (step_weight c i)
    unfolding step_weight
    step_fee i q =
        let number = get_or (instruction_fields i) 0 0 + 2 in
        let m = mul-le-mul_right (weight_of c number) (units_most _ i q) in
        let l = mul-le-mul_right (weight_of c number) (units_least _ i q) in
        (omega (arith, m, light number), λ heavy. omega (arith, l, heavy number (code_place i)))

    fee_at : (place : ℕ) → place < weight_places → Fee c most (weight_of c place)
    fee_at place inside = (omega (arith, light place), λ heavy. heavy place inside)

    pub plan_sound : (a : Action) → PlanSound c most t (plan c a n t)
    unfolding plan plan_start plan_step plan_end step_weight
    plan_sound start =
        cond_sound (eqb t.state 1) _ _
        (λ q.
        record {
          task = state_sound 2 (omega arith) (not_zero 1);
          alive = not_zero 1;
          ranked = rank_start (eqb-true t.state 1 q);
          paid = refl;
          edit = tt;
          weight = fee_at 0 (unfold weight_places in omega arith);
          made = λ x i. absurd i;
          left = λ x. absurd (false≢true x);
        })
        (λ _. tt)
    plan_sound step =
        cond_sound (eqb t.state 2) _ _
        (λ q.
        cond_sound (at_end c t) _ _ (λ _. tt)
        (λ p.
        let inside = not_at_end c n t p in
        let fits = ok.instructions t.body t.pc inside in
        let i = instruction_of c.list t.body t.pc in
        instruction_sound c ok most n t h (eqb-true t.state 2 q) inside (no_fault p) _ (step_fee i fits) i fits))
        (λ _. tt)
    plan_sound end =
        cond_sound (eqb t.state 2) _ _
        (λ q.
        cond_sound (at_end c t) _ _
        (λ _.
        record {
          task = state_sound 3 (omega arith) (not_zero 2);
          alive = not_zero 2;
          ranked = rank_end (eqb-true t.state 2 q);
          paid = refl;
          edit = tt;
          weight = fee_at 1 (unfold weight_places in omega arith);
          made = λ x i. absurd i;
          left = λ _. refl;
        })
        (λ _. tt))
        (λ _. tt)
