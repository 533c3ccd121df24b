-- What each instruction comes to, in the code's terms. Assumes nothing.
use Rattle.std.proofs.Common.{◌≡◌, ℕ, zero, suc, ◌+◌, ◌-◌, ◌*◌, ◌%◌, ◌^◌, ◌<◌, Bool, true, false, cond, ltb, ◌≢◌, List, [], ◌∷◌, get_or, take, sym, refl, ap, ◌∙◌, subst, inl, inr, arith, get_or-take, eq-eqb, ne_eqb, Result, Ok, Err}
use native.Mathlib.Decide.{dec_lt}
use Rattle.tasklist.specs.declared.Instruction.{Instruction}
use Rattle.tasklist.specs.declared.Instruction.TheVariants.{Const, Add, Sub, Less, Load, Store, Skip, Spawn, Wait, Fan, Sum, Mul, Div}
use Rattle.tasklist.specs.TaskList.{footprint_of, instruction_of}
use Rattle.tasklist.specs.Encode.{instruction_fields}
use Rattle.tasklist.specs.Tables.{list_of}
use Rattle.semantics.specs.declared.CallRefusal.{CallRefusal}
use Rattle.semantics.specs.declared.Fault.{Fault}
use Rattle.semantics.specs.declared.Fault.TheVariants.{Outside, Mode, TooLarge, ZeroDivisor}
use Rattle.semantics.specs.Answers.{fault_number}
use Rattle.semantics.specs.Run.{Task, weight_of, mode_of, register, task_of}
use Rattle.semantics.specs.Run as Semantics
use Rattle.semantics.specs.Access.{Access, every, access_fault}
use Rattle.semantics.specs.Effect.{Effect, Plan, go, fetch, own, moved, faulted, assigned, storing, adding}
use Rattle.semantics.specs.Plan.{step, unless_fault, plan_load, plan_store, plan_wait, plan_sum, passed_over, plan_make, plan_quotient, plan_instruction, units, step_weight, at_end, plan_step, plan}
use Rattle.semantics.specs.Footprint.{children, first_register}
use Rattle.semantics.specs.Call.{refuse, accept, admit, settle}
use Rattle.semantics.specs.Sound.{In}
use Rattle.semantics.proofs.SoundModes.{none_grants}
use Rattle.semantics.proofs.Search.{Asks}
use Rattle.arrays.specs.Rows.{row}
use Rattle.ahead.specs.Ahead.{past, access, accesses_of, hold_ahead}
use Rattle.ahead.specs.declared.Access as Asked
use Rattle.records.specs.Quotients.{QuotientIs}
use Rattle.arrays.proofs.RowLaws.{row_past}
use Rattle.tables.specs.Children.{seen_from}
use Rattle.tables.proofs.ChildLaws.{seen_alone, seen_fan}
use Rattle.grants.specs.Grants.{fault_of}
use Rattle.grants.proofs.GrantLaws.{own_other}
use Rattle.plans.specs.declared.Stop.{Stop}
use Rattle.plans.specs.declared.Stop.TheVariants as Stops
use Rattle.plans.specs.declared.StepPlan.{StepPlan}
use Rattle.plans.specs.declared.Spawning.{Spawning}
use Rattle.plans.specs.declared.StepPlan.TheVariants as Planned
use Rattle.plans.specs.View.{Parts, model, context_of, SoundRun, Placed, record_of}
use Rattle.plans.specs.Calls.{decided}
use Rattle.plans.specs.Steps.{fault_at, AccessAs, AccessIn, looking, planned, settled, Plans, PlansIn}
use Rattle.plans.proofs.ViewLaws.{mode_is}
use Rattle.plans.proofs.DecideLaws.{by_plan, own_task, looks_ahead, own_state}

some_fault : (k : Fault) → fault_number k ≢ 0
some_fault Outside q = omega arith
some_fault Mode q = omega arith
some_fault TooLarge q = omega arith
some_fault ZeroDivisor q = omega arith

-- What comes of an access.
module _
    (run : Parts) (n place a tested asked mode : ℕ) (look : mode ≡ get_or (row n run.modes) a 0)
    (found : Result Unit Fault) (by_mode : fault_of found ≡ access_fault mode tested)
  where
    known : SoundRun run → fault_at run n a tested ≡ fault_of found
    known s =
        ap (λ m. access_fault m tested) (sym (look ∙ mode_is run n a s.records s.modes)) ∙ sym by_mode

    pub access_faults : (k : Fault) → found ≡ Err k → AccessAs run n place a tested asked (Err (Stops.Fault k))
    access_faults k q = λ s. known s ∙ ap fault_of q

    module _ (none : found ≡ Ok tt) (w : List Asked.Access) (one : a < 64 → accesses_of w ≡ access a asked ∷ []) where
      granted : SoundRun run → fault_at run n a tested ≡ 0
      granted s = known s ∙ ap fault_of none

      queued : SoundRun run → mode_of (task_of (model run) n) a ≡ 0 → ⊥
      queued s q = none_grants tested (subst (λ o. access_fault o tested ≡ 0) q (granted s))

      near : SoundRun run → a < 64
      near s = sort (dec_lt a 64)
        where
          sort : Dec (a < 64) → a < 64
          sort (yes l) = l
          sort (no l) = absurd (queued s (sym (mode_is run n a s.records s.modes) ∙ sym (row_past n a run.modes (omega arith))))

      asks : SoundRun run → asked ≢ 0 → (g : Access) → In g (access a asked ∷ []) → Asks (model run) n g
      asks s z g (inl q) =
          record {
            queued = λ o. queued s (ap (λ (y : Access). mode_of (task_of (model run) n) y.location) (sym q) ∙ o);
            asked = λ o. z (ap (λ (y : Access). y.mode) (sym q) ∙ o);
          }
      asks s z g (inr i) = absurd i

      module _
          (looked : Result Unit CallRefusal)
          (searched : looked ≡ past (hold_ahead run.modes (take place run.order) (accesses_of w)))
        where
          looked_is : SoundRun run → looked ≡ past (hold_ahead run.modes (take place run.order) (access a asked ∷ []))
          looked_is s = searched ∙ ap (λ gs. past (hold_ahead run.modes (take place run.order) gs)) (one (near s))

          pub access_free : looked ≡ Ok tt → AccessAs run n place a tested asked (Ok tt)
          access_free q =
              λ s p. (granted s, λ z e. looks_ahead run s n place (access a asked ∷ []) p (asks s z) (Ok tt) (sym q ∙ looked_is s) e)

          pub access_held : (k : CallRefusal) → looked ≡ Err k → AccessAs run n place a tested asked (Err (Stops.Held k))
          access_held k q =
              λ s p. (granted s, λ z e. looks_ahead run s n place (access a asked ∷ []) p (asks s z) (Err k) (sym q ∙ looked_is s) e)

-- "Faults come before waiting"
module _ (r : Semantics.Run) (n w : ℕ) (t : Task) (q : Plan) where
  settle_fault : (f k : ℕ) → f ≡ k → k ≢ 0 → settle r n (unless_fault f w t q) ≡ accept (own w (faulted k t))
  settle_fault f zero e h = absurd (h refl)
  settle_fault f (suc k) e h =
      ap (λ x. settle r n (unless_fault x w t q)) e ∙ (unfold unless_fault settle admit every in refl)

  settle_none : (f : ℕ) → f ≡ 0 → settle r n (unless_fault f w t q) ≡ settle r n q
  settle_none f e = ap (λ x. settle r n (unless_fault x w t q)) e ∙ (unfold unless_fault in refl)

-- a value that is fetched is that of the memory
settle_fetch :
    (r : Semantics.Run) (n w : ℕ) (t : Task) (f a : ℕ) (g : ℕ → Effect)
    → settle r n (unless_fault f w t (fetch a g)) ≡ settle r n (unless_fault f w t (go (access a 1 ∷ []) (g (get_or r.memory a 0))))
unfolding unless_fault settle
settle_fetch r n w t zero a g = refl
settle_fetch r n w t (suc k) a g = refl

-- an access without fault is to a location of the list
inside : (run : Parts) (n a asked : ℕ) → SoundRun run → fault_at run n a asked ≡ 0 → a < run.tables.locations
inside run n a asked s f = sort (dec_lt a run.tables.locations)
  where
    sort : Dec (a < run.tables.locations) → a < run.tables.locations
    sort (yes h) = h
    sort (no h) =
        let beyond : mode_of (task_of (model run) n) a ≡ 0 =
        (s.sound.tasks n).modes.beyond a (unfold list_of in omega arith) in
        let bad : ◌≡◌ {A = ℕ} 1 0 =
        own_other 0 asked (λ q. omega arith) (λ q. omega arith) (λ q. omega arith) ∙ ap (λ m. access_fault m asked) (sym beyond) ∙ f in
        let z : ⊥ = omega arith in absurd z

-- the tasks of a spawn or a fan
abbrev made : ℕ → ℕ → ℕ → ℕ → Spawning
made body footprint first children = record { body = body; footprint = footprint; first = first; children = children }

-- What each instruction of a task with these registers comes to.
module _ (order modes memory rs : List ℕ) (n place : ℕ) (below : n < 128) where
  -- the run that a plan looks at
  abbrev it : Parts → Parts
  it run = looking order modes run

  -- the task in it
  abbrev own_of : Parts → Task
  own_of run = task_of (model (it run)) n

  registers_are : (run : Parts) → (record_of run n).registers ≡ rs → SoundRun (it run) → (own_of run).registers ≡ rs
  registers_are run e s = ap (λ t. t.registers) (own_task (it run) s n below) ∙ e

  named :
      (run : Parts) → (record_of run n).registers ≡ rs → SoundRun (it run) → (x v : ℕ) → v ≡ get_or rs x 0 → register (own_of run) x ≡ v
  named run e s x v q = ap (λ l. get_or l x 0) (registers_are run e s) ∙ sym q

  -- An instruction that begins with an access: it ends as the access does, or has this effect.
  module _
      (i : Instruction) (a tested asked : ℕ) (effect : Parts → ℕ → Effect)
      (begins : (run : Parts) → (record_of run n).registers ≡ rs → SoundRun (it run) → (w : ℕ)
      → settled (it run) n w i
      ≡ settle (model (it run)) n
      (unless_fault (fault_at (it run) n a tested) w (own_of run) (go (access a asked ∷ []) (effect run w))))
      (asks : (run : Parts) → SoundRun (it run) → fault_at (it run) n a tested ≡ 0 → asked ≢ 0)
    where
      plan_ends : (k : Stop) → AccessIn order modes n place a tested asked (Err k) → PlansIn order modes memory rs n place i (Err k)
      unfolding planned settle
      plan_ends (Stops.Fault k) h =
          λ run m e s p w.
          begins run e s w ∙ settle_fault (model (it run)) n w (own_of run) _ _ (fault_number k) (h run s) (some_fault k)
      plan_ends (Stops.Held k) h =
          λ run m e s p w.
          begins run e s w ∙ settle_none (model (it run)) n w (own_of run) _ _ (h run s p).0
          ∙ (h run s p).1 (asks run s (h run s p).0) (effect run w)

      plan_goes :
          (x : StepPlan)
          → ((run : Parts) → run.memory ≡ memory → (record_of run n).registers ≡ rs → SoundRun (it run)
          → fault_at (it run) n a tested ≡ 0 → (w : ℕ) → accept (effect run w) ≡ planned (it run) n w (Ok x))
          → AccessIn order modes n place a tested asked (Ok tt) → PlansIn order modes memory rs n place i (Ok x)
      unfolding settle
      plan_goes x is h =
          λ run m e s p w.
          begins run e s w ∙ settle_none (model (it run)) n w (own_of run) _ _ (h run s p).0
          ∙ (h run s p).1 (asks run s (h run s p).0) (effect run w)
          ∙ is run m e s (h run s p).0 w

  module _ (target x a : ℕ) (at : a ≡ get_or rs x 0) where
    abbrev load_effect : Parts → ℕ → Effect
    load_effect run w = own w (assigned target (get_or (model (it run)).memory a 0) (own_of run))

    load_begins :
        (run : Parts) → (record_of run n).registers ≡ rs → SoundRun (it run) → (w : ℕ)
        → settled (it run) n w (Load target x)
        ≡ settle (model (it run)) n
        (unless_fault (fault_at (it run) n a 1) w (own_of run) (go (access a 1 ∷ []) (load_effect run w)))
    unfolding settled plan_instruction plan_load
    load_begins run e s w =
        ap (λ l. settle (model (it run)) n (plan_load w (own_of run) target l)) (named run e s x a at)
        ∙ settle_fetch (model (it run)) n w (own_of run) (fault_at (it run) n a 1) a (λ v. own w (assigned target v (own_of run)))

    pub load_ends : (k : Stop) → AccessIn order modes n place a 1 1 (Err k) → PlansIn order modes memory rs n place (Load target x) (Err k)
    load_ends = plan_ends (Load target x) a 1 1 load_effect load_begins (λ run s f q. omega arith)

    pub load_goes :
        (v : ℕ) → v ≡ get_or memory a 0 → AccessIn order modes n place a 1 1 (Ok tt)
        → PlansIn order modes memory rs n place (Load target x) (Ok (Planned.Assign target v))
    unfolding planned model
    load_goes v q =
        plan_goes (Load target x) a 1 1 load_effect load_begins (λ run s f q. omega arith) (Planned.Assign target v)
        (λ run m e s f w.
        ap (λ z. accept (own w (assigned target z (own_of run))))
        (get_or-take run.tables.locations run.memory a 0 (inside (it run) n a 1 s f) ∙ ap (λ l. get_or l a 0) m ∙ sym q))

  module _ (to source a : ℕ) (at : a ≡ get_or rs to 0) where
    abbrev store_effect : Parts → ℕ → Effect
    store_effect run w = storing w a (register (own_of run) source) (own_of run)

    store_begins :
        (run : Parts) → (record_of run n).registers ≡ rs → SoundRun (it run) → (w : ℕ)
        → settled (it run) n w (Store to source)
        ≡ settle (model (it run)) n
        (unless_fault (fault_at (it run) n a 2) w (own_of run) (go (access a 2 ∷ []) (store_effect run w)))
    unfolding settled plan_instruction plan_store
    store_begins run e s w =
        ap (λ l. settle (model (it run)) n (plan_store w (own_of run) l (register (own_of run) source))) (named run e s to a at)

    pub store_ends : (k : Stop) → AccessIn order modes n place a 2 2 (Err k) → PlansIn order modes memory rs n place (Store to source) (Err k)
    store_ends = plan_ends (Store to source) a 2 2 store_effect store_begins (λ run s f q. omega arith)

    pub store_goes :
        (v : ℕ) → v ≡ get_or rs source 0 → AccessIn order modes n place a 2 2 (Ok tt)
        → PlansIn order modes memory rs n place (Store to source) (Ok (Planned.Store a v))
    unfolding planned
    store_goes v q =
        plan_goes (Store to source) a 2 2 store_effect store_begins (λ run s f q. omega arith) (Planned.Store a v)
        (λ run m e s f w. ap (λ z. accept (storing w a z (own_of run))) (named run e s source v q))

  -- Wait and sum ask in the task's own mode.
  module _ (a asked : ℕ) (mode : asked ≡ get_or (row n modes) a 0) where
    own_mode : (run : Parts) → SoundRun (it run) → asked ≡ mode_of (own_of run) a
    own_mode run s = mode ∙ mode_is (it run) n a s.records s.modes

    -- what the task's own mode allows is not nothing
    asks_some : (tested : ℕ) (run : Parts) → SoundRun (it run) → fault_at (it run) n a tested ≡ 0 → asked ≢ 0
    asks_some tested run s f z = none_grants tested (subst (λ o. access_fault o tested ≡ 0) (sym (own_mode run s) ∙ z) f)

    module _ (x : ℕ) (at : a ≡ get_or rs x 0) where
      abbrev wait_effect : Parts → ℕ → Effect
      wait_effect run w = own w (moved 1 (own_of run).registers (own_of run))

      wait_begins :
          (run : Parts) → (record_of run n).registers ≡ rs → SoundRun (it run) → (w : ℕ)
          → settled (it run) n w (Wait x)
          ≡ settle (model (it run)) n
          (unless_fault (fault_at (it run) n a asked) w (own_of run) (go (access a asked ∷ []) (wait_effect run w)))
      unfolding settled plan_instruction plan_wait
      wait_begins run e s w =
          ap (λ l. settle (model (it run)) n (plan_wait w (own_of run) l)) (named run e s x a at)
          ∙ ap (λ m. settle (model (it run)) n (unless_fault (fault_at (it run) n a m) w (own_of run) (go (access a m ∷ []) (wait_effect run w))))
          (sym (own_mode run s))

      pub wait_ends : (k : Stop) → AccessIn order modes n place a asked asked (Err k) → PlansIn order modes memory rs n place (Wait x) (Err k)
      wait_ends = plan_ends (Wait x) a asked asked wait_effect wait_begins (asks_some asked)

      pub wait_goes : AccessIn order modes n place a asked asked (Ok tt) → PlansIn order modes memory rs n place (Wait x) (Ok (Planned.Pass 0))
      unfolding planned
      wait_goes =
          plan_goes (Wait x) a asked asked wait_effect wait_begins (asks_some asked) (Planned.Pass 0) (λ run m e s f w. refl)

    module _ (to source : ℕ) (at : a ≡ get_or rs to 0) where
      abbrev sum_effect : Parts → ℕ → Effect
      sum_effect run w = adding w a (register (own_of run) source) (own_of run)

      sum_begins :
          (run : Parts) → (record_of run n).registers ≡ rs → SoundRun (it run) → (w : ℕ)
          → settled (it run) n w (Sum to source)
          ≡ settle (model (it run)) n
          (unless_fault (fault_at (it run) n a 3) w (own_of run) (go (access a asked ∷ []) (sum_effect run w)))
      unfolding settled plan_instruction plan_sum
      sum_begins run e s w =
          ap (λ l. settle (model (it run)) n (plan_sum w (own_of run) l (register (own_of run) source))) (named run e s to a at)
          ∙ ap (λ m. settle (model (it run)) n (unless_fault (fault_at (it run) n a 3) w (own_of run) (go (access a m ∷ []) (sum_effect run w))))
          (sym (own_mode run s))

      pub sum_ends : (k : Stop) → AccessIn order modes n place a 3 asked (Err k) → PlansIn order modes memory rs n place (Sum to source) (Err k)
      sum_ends = plan_ends (Sum to source) a 3 asked sum_effect sum_begins (asks_some 3)

      pub sum_goes :
          (v : ℕ) → v ≡ get_or rs source 0 → AccessIn order modes n place a 3 asked (Ok tt)
          → PlansIn order modes memory rs n place (Sum to source) (Ok (Planned.Sum a v))
      unfolding planned
      sum_goes v q =
          plan_goes (Sum to source) a 3 asked sum_effect sum_begins (asks_some 3) (Planned.Sum a v)
          (λ run m e s f w. ap (λ z. accept (adding w a z (own_of run))) (named run e s source v q))

  -- Those that never wait.
  pub const_plans : (a v u : ℕ) → u ≡ v % 2 ^ 32 → PlansIn order modes memory rs n place (Const a v) (Ok (Planned.Assign a u))
  unfolding settled plan_instruction settle admit every planned
  const_plans a v u q = λ run m e s p w. ap (λ z. accept (own w (assigned a z (own_of run)))) (sym q)

  module _ (a x y l r : ℕ) (p : l ≡ get_or rs x 0) (q : r ≡ get_or rs y 0) where
    both :
        (f : ℕ → ℕ → ℕ) (run : Parts) → (record_of run n).registers ≡ rs → SoundRun (it run)
        → f (register (own_of run) x) (register (own_of run) y) ≡ f l r
    both f run e s = ap (λ z. f z (register (own_of run) y)) (named run e s x l p) ∙ ap (f l) (named run e s y r q)

    -- a value of two registers into a third
    assigns :
        (f : ℕ → ℕ → ℕ) (u : ℕ) → u ≡ f l r → (run : Parts) → (record_of run n).registers ≡ rs → SoundRun (it run) → (w : ℕ)
        → accept (own w (assigned a (f (register (own_of run) x) (register (own_of run) y)) (own_of run)))
        ≡ accept (own w (assigned a u (own_of run)))
    assigns f u is run e s w = ap (λ z. accept (own w (assigned a z (own_of run)))) (both f run e s ∙ sym is)

    pub add_plans : (u : ℕ) → u ≡ (l + r) % 2 ^ 32 → PlansIn order modes memory rs n place (Add a x y) (Ok (Planned.Assign a u))
    unfolding settled plan_instruction settle admit every planned
    add_plans u is = λ run m e s o. assigns (λ i j. (i + j) % 2 ^ 32) u is run e s

    pub sub_plans : (u : ℕ) → u ≡ (l + 2 ^ 32 - r) % 2 ^ 32 → PlansIn order modes memory rs n place (Sub a x y) (Ok (Planned.Assign a u))
    unfolding settled plan_instruction settle admit every planned
    sub_plans u is = λ run m e s o. assigns (λ i j. (i + 2 ^ 32 - j) % 2 ^ 32) u is run e s

    pub less_plans : (u : ℕ) → u ≡ cond (ltb l r) 1 0 → PlansIn order modes memory rs n place (Less a x y) (Ok (Planned.Assign a u))
    unfolding settled plan_instruction settle admit every planned
    less_plans u is = λ run m e s o. assigns (λ i j. cond (ltb i j) 1 0) u is run e s

    -- request 108: the product's or the quotient's value, or its fault
    module _ (i : Instruction) (top by : ℕ → ℕ → ℕ)
        (begins : (run : Parts) (w : ℕ)
        → settled (it run) n w i
        ≡ settle (model (it run)) n
        (plan_quotient w (own_of run) a (top (register (own_of run) x) (register (own_of run) y)) (by (register (own_of run) x) (register (own_of run) y))))
      where
        quotient_begins :
            (run : Parts) → (record_of run n).registers ≡ rs → SoundRun (it run) → (w : ℕ)
            → settled (it run) n w i ≡ settle (model (it run)) n (plan_quotient w (own_of run) a (top l r) (by l r))
        quotient_begins run e s w =
            begins run w
            ∙ ap (λ z. settle (model (it run)) n (plan_quotient w (own_of run) a z (by (register (own_of run) x) (register (own_of run) y)))) (both top run e s)
            ∙ ap (λ z. settle (model (it run)) n (plan_quotient w (own_of run) a (top l r) z)) (both by run e s)

        quotient_faults : (k : Fault) → QuotientIs (top l r) (by l r) (Err k) → PlansIn order modes memory rs n place i (Err (Stops.Fault k))
        unfolding plan_quotient planned
        quotient_faults k h =
            λ run m e s o w. quotient_begins run e s w ∙ settle_fault (model (it run)) n w (own_of run) _ _ (fault_number k) h (some_fault k)

        quotient_assigns : (v : ℕ) → QuotientIs (top l r) (by l r) (Ok v) → PlansIn order modes memory rs n place i (Ok (Planned.Assign a v))
        unfolding plan_quotient planned settle admit every
        quotient_assigns v h =
            λ run m e s o w.
            quotient_begins run e s w ∙ settle_none (model (it run)) n w (own_of run) _ _ h.0
            ∙ ap (λ z. accept (own w (assigned a z (own_of run)))) h.1

    pub mul_faults : (k : Fault) → QuotientIs (l * r) 1000 (Err k) → PlansIn order modes memory rs n place (Mul a x y) (Err (Stops.Fault k))
    unfolding settled plan_instruction
    mul_faults = quotient_faults (Mul a x y) (λ i j. i * j) (λ i j. 1000) (λ run w. refl)

    pub mul_plans : (v : ℕ) → QuotientIs (l * r) 1000 (Ok v) → PlansIn order modes memory rs n place (Mul a x y) (Ok (Planned.Assign a v))
    unfolding settled plan_instruction
    mul_plans = quotient_assigns (Mul a x y) (λ i j. i * j) (λ i j. 1000) (λ run w. refl)

    pub div_faults : (k : Fault) → QuotientIs (1000 * l) r (Err k) → PlansIn order modes memory rs n place (Div a x y) (Err (Stops.Fault k))
    unfolding settled plan_instruction
    div_faults = quotient_faults (Div a x y) (λ i j. 1000 * i) (λ i j. j) (λ run w. refl)

    pub div_plans : (v : ℕ) → QuotientIs (1000 * l) r (Ok v) → PlansIn order modes memory rs n place (Div a x y) (Ok (Planned.Assign a v))
    unfolding settled plan_instruction
    div_plans = quotient_assigns (Div a x y) (λ i j. 1000 * i) (λ i j. j) (λ run w. refl)

  pub skip_plans :
      (a b l u : ℕ) → l ≡ get_or rs a 0 → u ≡ passed_over l b → PlansIn order modes memory rs n place (Skip a b) (Ok (Planned.Pass u))
  unfolding settled plan_instruction settle admit every planned
  skip_plans a b l u p is =
      λ run m e s o w.
      ap (λ z. accept (own w (moved (1 + z) (own_of run).registers (own_of run))))
      (ap (λ z. passed_over z b) (named run e s a l p) ∙ sym is)

  pub spawn_plans : (a f v : ℕ) → v ≡ get_or rs 0 0 → PlansIn order modes memory rs n place (Spawn a f) (Ok (Planned.Make (made a f v 1)))
  unfolding settled plan_instruction planned
  spawn_plans a f v q =
      λ run m e s o w.
      ap (λ ts. settle (model (it run)) n (plan_make (context_of (it run)) w n (own_of run) a (children a (footprint_of (list_of run.tables) f) ts)))
      (sym (seen_alone (own_of run)) ∙ ap (λ u. seen_from 0 1 (first_register u (own_of run))) (named run e s 0 v q))

  pub fan_plans : (a f k : ℕ) → PlansIn order modes memory rs n place (Fan a f k) (Ok (Planned.Make (made a f 0 k)))
  unfolding settled plan_instruction planned
  fan_plans a f k =
      λ run m e s o w.
      ap (λ ts. settle (model (it run)) n (plan_make (context_of (it run)) w n (own_of run) a (children a (footprint_of (list_of run.tables) f) ts)))
      (sym (seen_fan 0 k (own_of run)))

-- for the plan of an instruction
pub ruleset plans_of = (
  const_plans,
  add_plans,
  sub_plans,
  less_plans,
  skip_plans,
  spawn_plans,
  fan_plans,
  load_ends,
  load_goes,
  store_ends,
  store_goes,
  wait_ends,
  wait_goes,
  sum_ends,
  sum_goes,
  mul_faults,
  mul_plans,
  div_faults,
  div_plans,
)

-- What is decided of a step.
module _ (run : Parts) (n : ℕ) (below : n < 128) (s : SoundRun run) (place : ℕ) (p : Placed run n place) where
  pub step_waiting : ((record_of run n).state ≡ 2 → ⊥) → decided run step n ≡ refuse 13
  unfolding plan plan_step settle
  step_waiting h =
      by_plan run n below p.listed step ∙ rw (ne_eqb (task_of (model run) n).state 2 (λ q. h (sym (own_state run n below s) ∙ q))) refl

  module _ (going : (record_of run n).state ≡ 2) (b : Bool) (ends : b ≡ at_end (context_of run) (task_of (model run) n)) where
    pub step_finished : b ≡ true → decided run step n ≡ refuse 14
    unfolding plan plan_step settle
    step_finished q =
        by_plan run n below p.listed step
        ∙ rw (eq-eqb (task_of (model run) n).state 2 (own_state run n below s ∙ going), sym ends ∙ q) refl

    model_step :
        b ≡ false → (i : Instruction) → i ≡ instruction_of (list_of run.tables) (task_of (model run) n).body (task_of (model run) n).pc
        → decided run step n ≡ settled run n (step_weight (context_of run) i) i
    unfolding plan plan_step settled
    model_step q i e =
        by_plan run n below p.listed step
        ∙ rw (eq-eqb (task_of (model run) n).state 2 (own_state run n below s ∙ going), sym ends ∙ q) refl
        ∙ ap (λ j. settle (model run) n (plan_instruction (context_of run) (step_weight (context_of run) j) n (task_of (model run) n) j)) (sym e)

    pub step_settled :
        b ≡ false → (i : Instruction) (code count : ℕ)
        → i ≡ instruction_of (list_of run.tables) (record_of run n).body (record_of run n).pc
        → code ≡ get_or (instruction_fields i) 0 0 → count ≡ units i → (x : Result StepPlan Stop) → Plans run n place i x
        → decided run step n ≡ planned run n (count * weight_of (context_of run) (code + 2)) x
    unfolding step_weight
    step_settled q i code count e f u x h =
        model_step q i (e ∙ ap (λ t. instruction_of (list_of run.tables) t.body t.pc) (sym (own_task run s n below)))
        ∙ h s p (step_weight (context_of run) i)
        ∙ ap (λ k. planned run n (units i * weight_of (context_of run) (k + 2)) x) (sym f)
        ∙ ap (λ k. planned run n (k * weight_of (context_of run) (code + 2)) x) (sym u)
