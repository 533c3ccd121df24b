-- Tasks that one step makes: what they are granted, and what becomes of the records, the rows and the order. Assumes nothing.
use Prim.Native.Nat.{ℕ, zero, suc, ◌+◌, ◌-◌, ◌*◌, ◌^◌, ◌≤◌, ◌<◌}
use mathlib.Core.Path.{◌≡◌, refl, sym, ap, ◌∙◌}
use mathlib.Core.List.{List, [], ◌∷◌, ◌++◌, map}
use mathlib.Core.Bool.{false}
use mathlib.Core.Logic.{inl, inr, ◌≢◌}
use native.Mathlib.Omega.{arith}
use native.Mathlib.Nat.{zero-mul}
use lib.ListN.{length, take, get_or, set, length-take, length-set}
use lib.Seq.{set_comm}
use Rattle.tasklist.specs.declared.Line.{Line}
use Rattle.arrays.specs.declared.order.Order.{Order}
use Rattle.arrays.specs.Places.{unended}
use Rattle.plans.specs.declared.Spawning.{Spawning}
use Rattle.tasklist.specs.TaskList.{footprint_of, task_count}
use Rattle.tasklist.specs.Tables.{list_of, capped}
use Rattle.semantics.specs.declared.Record.{Record}
use Rattle.semantics.specs.Run.{Task, no_modes, task_of}
use Rattle.semantics.specs.Access.{every}
use Rattle.semantics.specs.Effect.{Numbered, Effect, child, numbered_from, making}
use Rattle.semantics.specs.Footprint.{granted, Children, none_made, all_made, children, first_register}
use Rattle.semantics.specs.Plan.{step, child_number, plan_make}
use Rattle.semantics.specs.Call.{accept, admit, settle, edited, charged, written, splice, stays, places, changes, apply}
use Rattle.semantics.specs.Sequential.{made_by}
use Rattle.semantics.specs.Answers.{fault_number, task_from}
use Rattle.semantics.specs.Sound.{In}
use Rattle.semantics.proofs.Decide.{Accepts, decide_accept}
use Rattle.semantics.proofs.Bounds.{room}
use Rattle.semantics.proofs.Valid.{number_above, made_future, made_below}
use Rattle.tables.specs.Children.{insert_all, with_rows, seen_by, seen_from, numbers, Fit, RowsOf}
use Rattle.arrays.specs.Rows.{row, with}
use Rattle.grants.specs.Grants.{grant_of, child_grant, grants_from}
use Rattle.tables.specs.Numbers.{number_by}
use Rattle.semantics.specs.declared.Fault.{Fault}
use Rattle.std.specs.Prelude.{Some, Result, Ok, Err}
use Rattle.arrays.proofs.RowLaws.{with_length, row_with, row_with_other}
use Rattle.tables.proofs.NumberLaws.{number_holds}
use Rattle.tables.proofs.ChildLaws.{modes_in, list_from, child_length, given, born, AllBorn, children_denied, children_granted, insert_all_splice}
use Rattle.records.specs.Records.{passed, failed, holding, newborn, child_record}
use Rattle.plans.specs.declared.StepPlan.TheVariants as Planned
use Rattle.plans.specs.View.{Parts, tasks_from, model, context_of, SoundRun, record_of}
use Rattle.plans.specs.Calls.{call_of, decided}
use Rattle.plans.specs.Steps.{planned}
use Rattle.looks.specs.Looks.{with_parts}
use Rattle.changes.specs.declared.Change.{Change}
use Rattle.changes.specs.Changes.{WholeRun, counted, heavier, put}
use Rattle.steps.specs.Stepping.{StepsTo, StepOf, with_children, with_made}
use Rattle.plans.proofs.ViewLaws.{same_run}
use Rattle.plans.proofs.DecideLaws.{list_accepted}
use Rattle.changes.proofs.CallLaws.{applied, own_effect, called_taken}
use Rattle.steps.proofs.CarryLaws.{own_as, onward, onward_whole, failed_task, own_step, step_task, stepped_model}

-- A task with a record and a row more.
tasks_other :
    (k : ℕ) (ts : List Record) (m m' : List ℕ) → ((j : ℕ) → k ≤ j → row j m' ≡ row j m) → tasks_from k ts m' ≡ tasks_from k ts m
unfolding tasks_from
tasks_other k [] m m' h = refl
tasks_other k (t ∷ ts) m m' h = rw (h k (omega arith), tasks_other (suc k) ts m m' (λ j b. h j (omega arith))) refl

tasks_born :
    (k : ℕ) (ts : List Record) (i at : ℕ) → at ≡ k + i → (t : Record) (new m m' : List ℕ) → row at m' ≡ new
    → ((j : ℕ) → j ≢ at → row j m' ≡ row j m) → tasks_from k (set ts i t) m' ≡ set (tasks_from k ts m) i (task_from t new)
unfolding tasks_from
tasks_born k [] zero at q t new m m' a h = refl
tasks_born k [] (suc i) at q t new m m' a h = refl
tasks_born k (x ∷ ts) zero at q t new m m' a h =
    let rest = tasks_other (suc k) ts m m' (λ j b. h j (omega arith)) in grind arith
tasks_born k (x ∷ ts) (suc i) at q t new m m' a h =
    rw (h k (omega arith), tasks_born (suc k) ts i at (omega arith) t new m m' a h) refl

-- Tasks with their numbers, so far apart.
module _ (d : ℕ) (g : ℕ → Task) where
  numbered_at :
      (x i k j a : ℕ) → a ≡ i + j → j < k → In (record { number = x + j * d; task = g a }) (numbered_from x d (list_from g i k))
  unfolding numbered_from list_from
  numbered_at x i zero j a q h = absurd (omega arith)
  numbered_at x i (suc k) zero a q h = inl (grind arith)
  numbered_at x i (suc k) (suc j) a q h = inr (grind (arith, numbered_at (x + d) (suc i) k j a (omega arith) (omega arith)))

  numbered_numbers : (x i k : ℕ) → map (λ y. y.number) (numbered_from x d (list_from g i k)) ≡ numbers x d k
  unfolding numbered_from list_from numbers
  numbered_numbers x i zero = refl
  numbered_numbers x i (suc k) = ap (λ l. x ∷ l) (numbered_numbers (x + d) (suc i) k)

  numbered_length : (x i k : ℕ) → length (numbered_from x d (list_from g i k)) ≡ k
  unfolding numbered_from list_from
  numbered_length x i zero = refl
  numbered_length x i (suc k) = ap suc (numbered_length (x + d) (suc i) k)

  -- the last of them written first
  written_last :
      (x i k j : ℕ) (ts : List Task) → j ≡ i + k
      → written (numbered_from x d (list_from g i (suc k))) ts
      ≡ written (numbered_from x d (list_from g i k)) (set ts (x + k * d) (g j))
  unfolding numbered_from list_from written
  written_last x i zero j ts q = grind arith
  written_last x i (suc k) j ts q = grind (arith, written_last (x + d) (suc i) k j ts (omega arith))

numbered_same :
    (x y d e : ℕ) (g : ℕ → Task) (k : ℕ) → (0 < k → x ≡ y) → (0 < k → d ≡ e)
    → numbered_from x d (list_from g 0 k) ≡ numbered_from y e (list_from g 0 k)
unfolding numbered_from list_from
numbered_same x y d e g zero p q = refl
numbered_same x y d e g (suc k) p q = rw (p (omega arith), q (omega arith)) refl

-- another task's record
written_beside :
    (xs : List Numbered) (ts : List Task) (n : ℕ) (t : Task) → ((y : Numbered) → In y xs → n ≢ y.number)
    → written xs (set ts n t) ≡ set (written xs ts) n t
unfolding written
written_beside [] ts n t h = refl
written_beside (x ∷ xs) ts n t h =
    rw (written_beside xs ts n t (λ y i. h y (inr i))) (set_comm (written xs ts) n x.number t x.task (h x (inl refl)))

-- The records and rows of the children, as tasks of the model.
module _ (child apart : ℕ) (made : Record) (rows : ℕ → List ℕ) (g : ℕ → Task) where
  tasks_made :
      (k : ℕ) (rs : List Record) (ms : List ℕ) → length ms ≡ 8192 → ((i : ℕ) → i < k → child + i * apart < 128)
      → ((i : ℕ) → i < k → length (rows i) ≡ 64) → ((i : ℕ) → i < k → task_from (child_record i made) (rows i) ≡ g i)
      → tasks_from 0 (with_children child apart made k rs) (with_rows child apart rows k ms)
      ≡ written (numbered_from child apart (list_from g 0 k)) (tasks_from 0 rs ms)
  unfolding with_children with_rows
  tasks_made zero rs ms l near wide same = unfold numbered_from list_from written in refl
  tasks_made (suc k) rs ms l near wide same =
      let at : ℕ = child + k * apart in
      let w : length (rows k) ≡ 64 = wide k (omega arith) in
      let small : at < 128 = near k (omega arith) in
      tasks_made k (set rs at (child_record k made)) (with at (rows k) ms) (with_length at (rows k) ms w l small)
      (λ i h. near i (omega arith)) (λ i h. wide i (omega arith)) (λ i h. same i (omega arith))
      ∙ ap (written (numbered_from child apart (list_from g 0 k)))
      (tasks_born 0 rs at at (omega arith) (child_record k made) (rows k) ms (with at (rows k) ms) (row_with at (rows k) ms w l small)
      (row_with_other at (rows k) ms w l small)
      ∙ ap (set (tasks_from 0 rs ms) at) (same k (omega arith)))
      ∙ sym (written_last apart g child 0 k k (tasks_from 0 rs ms) (omega arith))

  children_length : (k : ℕ) (rs : List Record) → length (with_children child apart made k rs) ≡ length rs
  unfolding with_children
  children_length zero rs = refl
  children_length (suc k) rs = rw (children_length k) (length-set rs (child + k * apart) (child_record k made))

  rows_length :
      (k : ℕ) (ms : List ℕ) → length ms ≡ 8192 → ((i : ℕ) → i < k → child + i * apart < 128)
      → ((i : ℕ) → i < k → length (rows i) ≡ 64) → length (with_rows child apart rows k ms) ≡ 8192
  unfolding with_rows
  rows_length zero ms l near wide = l
  rows_length (suc k) ms l near wide =
      rows_length k (with (child + k * apart) (rows k) ms)
      (with_length (child + k * apart) (rows k) ms (wide k (omega arith)) l (near k (omega arith)))
      (λ i h. near i (omega arith)) (λ i h. wide i (omega arith))

-- Tasks made by the task with this record, whose step comes to this plan.
module _
    (run : Parts) (n : ℕ) (below : n < 128) (own : Record) (same : record_of run n ≡ own) (place w : ℕ) (light : w < 2 ^ 24)
    (m : Spawning) (steps : StepsTo n run place w (Ok (Planned.Make m))) (g : Result (List ℕ) Fault)
    (grants :
    grant_of g
    ≡ grants_from (child_grant (set own.registers 0 m.first) (row n run.modes) (footprint_of (list_of run.tables) m.footprint)) 0 m.children (granted no_modes))
  where
    abbrev lines : List Line
    lines = footprint_of (list_of run.tables) m.footprint

    -- the task as the foremost child sees it
    abbrev seen : Task
    seen = first_register m.first (task_of (model run) n)

    -- child i, where it is made
    abbrev one : ℕ → Task
    one = born m.body lines seen

    same_grant : SoundRun run → (i : ℕ) → child_grant (set own.registers 0 m.first) (row n run.modes) lines i ≡ given m.body lines seen i
    same_grant s i = ap (λ (t : Task). child_grant (set t.registers 0 m.first) t.modes lines i) (sym (own_as run n below own same s))

    grant_is : SoundRun run → grants_from (given m.body lines seen) 0 m.children (granted no_modes) ≡ grant_of g
    grant_is s =
        ap (λ (t : Task). grants_from (child_grant (set t.registers 0 m.first) t.modes lines) 0 m.children (granted no_modes)) (own_as run n below own same s)
        ∙ sym grants

    by_children :
        (made : Children) → (SoundRun run → children m.body lines (seen_from 0 m.children seen) ≡ made) → SoundRun run
        → decided run step n ≡ settle (model run) n (plan_make (context_of run) w n (task_of (model run) n) m.body made)
    unfolding planned
    by_children made q s =
        (steps s).1 ∙ ap (λ x. settle (model run) n (plan_make (context_of run) w n (task_of (model run) n) m.body x)) (q s)

    pub denied_step : (j : Fault) → g ≡ Err j → StepOf n run run (counted (failed (fault_number j) own) w)
    unfolding plan_make settle admit every
    denied_step j q =
        own_step run n below own same w light (failed (fault_number j) own) refl
        (λ s.
        by_children (none_made (fault_number j))
        (λ s. children_denied m.body lines seen m.children 0 (fault_number j) no_modes (grant_is s ∙ ap grant_of q)) s
        ∙ ap (λ t. accept (own_effect t false w)) (failed_task run n below own same s (fault_number j)))

    -- all are granted: the numbers that the code finds
    module _
        (last : List ℕ) (all : g ≡ Ok last) (foremost apart : ℕ) (counts : foremost ≡ number_by run.tables n own.body own.pc)
        (far : apart ≡ get_or run.tables.counts m.body 1)
      where
        abbrev number : ℕ
        number = child_number (context_of run) n (task_of (model run) n)

        abbrev count : ℕ
        count = task_count (list_of run.tables) m.body

        abbrev made_tasks : List Numbered
        made_tasks = numbered_from number count (list_from one 0 m.children)

        abbrev made_effect : Effect
        made_effect = making w made_tasks (task_of (model run) n)

        all_born : SoundRun run → AllBorn m.body lines seen 0 m.children last
        all_born s = children_granted m.body lines seen m.children 0 no_modes last (grant_is s ∙ ap grant_of all)

        decides : SoundRun run → decided run step n ≡ accept made_effect
        unfolding plan_make settle admit every
        decides = by_children (all_made (list_from one 0 m.children)) (λ s. (all_born s).made)

        module _ (s : SoundRun run) where
          takes : Accepts (context_of run) (model run) (call_of step n) made_effect
          takes = decide_accept (context_of run) (model run) (call_of step n) made_effect (decides s)

          -- child j
          abbrev numbered : ℕ → Numbered
          numbered j = record { number = number + j * count; task = one j }

          number_small : (j : ℕ) → j < m.children → number + j * count < 128
          number_small j h =
              made_below (context_of run) (list_accepted run s) (model run) s.sound.valid (call_of step n) made_effect takes
              (numbered j) (numbered_at count one number 0 m.children j j (omega arith) h)

          count_small : 0 < m.children → count ≤ 128
          count_small h =
              let x = made_future (context_of run) (list_accepted run s) (model run) s.sound.valid (call_of step n) made_effect takes
              (numbered 0) (numbered_at count one number 0 m.children 0 0 refl h) in
              let ends : number + 0 * count + count ≤ child_number (context_of run) n made_effect.task = x.1 in
              let b = s.sound.valid.block n takes.present in
              omega (arith, ends, x.2, b)

          whole_order : length (take run.left run.order) ≡ run.left
          whole_order = length-take run.left run.order ∙ omega (arith, s.left, s.order)

          room_left : run.left + m.children ≤ 128
          unfolding model
          room_left =
              let h : length (take run.left run.order) + length made_tasks ≤ 128 =
              room (context_of run) (list_accepted run s) (model run) (call_of step n) made_effect s.sound.valid takes refl in
              omega (arith, h, whole_order, numbered_length count one number 0 m.children)

          first_is : 0 < m.children → foremost ≡ number
          first_is h =
              counts
              ∙ ap (λ (t : Task). number_by run.tables n t.body t.pc) (sym (own_as run n below own same s))
              ∙ number_holds (context_of run) run.tables s.tables n (task_of (model run) n)
              (omega (arith, number_small 0 h, zero-mul count))

          apart_is : 0 < m.children → apart ≡ count
          apart_is h =
              let small : capped count ≡ count = omega (arith, count_small h) in
              far ∙ s.tables.counts m.body ∙ small

          same_tasks : numbered_from foremost apart (list_from one 0 m.children) ≡ made_tasks
          same_tasks = numbered_same foremost number apart count one m.children first_is apart_is

          fit : Fit run.left foremost apart m.children
          fit =
              record {
                places = room_left;
                near =
                    λ j h.
                    let a : foremost ≡ number = first_is (omega arith) in
                    let b : apart ≡ count = apart_is (omega arith) in
                    rw (a, b) (number_small j h);
              }

          makes : made_by (decided run step n) ≡ numbers foremost apart m.children
          makes =
              ap made_by (decides s) ∙ ap (λ l. map (λ (x : Numbered). x.number) l) (sym same_tasks)
              ∙ numbered_numbers apart one foremost 0 m.children

        -- no room: never so in a sound run
        pub full_step : (Fit run.left foremost apart m.children → ⊥) → (t : Record) → StepOf n run run (counted t w)
        unfolding with_children
        full_step full t = (
          called_taken step run n made_effect _ refl refl decides (λ s. absurd (full (fit s))),
          λ s. absurd (full (fit s)),
        )

        module _ (modes : List ℕ) (order : Order)
            (put_in :
            (rs : ℕ → List ℕ) → RowsOf (set own.registers 0 m.first) (row n run.modes) lines last m.children rs
            → modes ≡ with_rows foremost apart rs m.children run.modes)
            (put_order :
            place ≤ run.left
            → (order.left ≡ run.left + m.children)
            × (unended order ≡ insert_all place foremost apart m.children (take run.left run.order)))
            (whole : length order.places ≡ 128)
          where
            abbrev made_record : Record
            made_record = newborn m.body (holding 0 m.first own)

            abbrev change : Change
            change =
                record {
                  own = heavier w (passed 0 own);
                  weight = w;
                  made = Some (record { block = record { first = foremost; apart = apart; children = m.children }; «record» = made_record });
                }

            abbrev next : Parts
            next = with_made change.made (put n change (with_parts run.tables run.memory modes order.places order.left run))

            module _ (s : SoundRun run) where
              abbrev given_row : ℕ → List ℕ
              given_row i = modes_in (given m.body lines seen i)

              given_each : (i : ℕ) → i < m.children → given m.body lines seen i ≡ granted (given_row i)
              given_each i h = (all_born s).each i (omega arith) (omega arith)

              row_wide : (i : ℕ) → i < m.children → length (given_row i) ≡ 64
              row_wide i h = child_length seen.registers seen.modes lines i (given_row i) (given_each i h)

              put_rows : modes ≡ with_rows foremost apart given_row m.children run.modes
              put_rows =
                  put_in given_row
                  (record {
                    each = λ i h. same_grant s i ∙ given_each i h;
                    hindmost = λ h. let q : 0 + m.children - 1 ≡ m.children - 1 = omega arith in (all_born s).hindmost h ∙ ap given_row q;
                  })

              one_made : (i : ℕ) → task_from (child_record i made_record) (given_row i) ≡ one i
              one_made i =
                  ap (λ (t : Task). child m.body (given_row i) (seen_by i (first_register m.first t))) (sym (own_as run n below own same s))

              absent : (y : Numbered) → In y made_tasks → n ≢ y.number
              absent y i e =
                  let h = number_above (context_of run) (list_accepted run s) n (task_of (model run) n) in
                  let x = made_future (context_of run) (list_accepted run s) (model run) s.sound.valid (call_of step n) made_effect (takes s) y i in
                  omega (arith, h, x.0, e)

              stepped : model (onward run n below own same w light (passed 0 own)) ≡ apply n (own_effect (step_task run n below own same w light) false w) (model run)
              stepped = stepped_model run n below own same w light s

              put_places :
                  (order.left ≡ run.left + m.children) × (unended order ≡ insert_all place foremost apart m.children (take run.left run.order))
              put_places = put_order (omega (arith, (steps s).0.within))

              made_model : model next ≡ apply n made_effect (model run)
              unfolding model apply changes written places stays edited applied
              made_model =
                  same_run (model next) (apply n made_effect (model run))
                  refl
                  (ap (tasks_from 0 next.records) put_rows
                  ∙ tasks_made foremost apart made_record given_row one m.children (set run.records n change.own) run.modes s.modes
                  (fit s).near row_wide (λ i h. one_made i)
                  ∙ ap (written (numbered_from foremost apart (list_from one 0 m.children))) (ap (λ m. m.tasks) stepped)
                  ∙ ap (λ l. written l (set (model run).tasks n (charged w (step_task run n below own same w light)))) (same_tasks s)
                  ∙ written_beside made_tasks (model run).tasks n (charged w (step_task run n below own same w light)) absent)
                  (put_places.1
                  ∙ insert_all_splice n foremost apart m.children (take run.left run.order) place s.sound.valid.distinct
                  (omega (arith, (steps s).0.within, whole_order s)) (steps s).0.here
                  ∙ ap (λ l. splice n (l ++ (n ∷ [])) (take run.left run.order))
                  (sym (numbered_numbers apart one foremost 0 m.children) ∙ ap (λ l. map (λ (x : Numbered). x.number) l) (same_tasks s)))
                  (ap (λ m. m.calls) stepped)
                  (ap (λ m. m.weight) stepped)

              made_whole : WholeRun next
              unfolding applied
              made_whole =
                  let h = onward_whole run n below own same w light s (passed 0 own) refl in
                  record {
                    memory = h.memory;
                    records =
                        children_length foremost apart made_record given_row one m.children (set run.records n change.own)
                        ∙ length-set run.records n change.own ∙ s.records;
                    modes = ap length put_rows ∙ rows_length foremost apart made_record given_row one m.children run.modes s.modes (fit s).near row_wide;
                    order = whole;
                    left = omega (arith, room_left s, put_places.0);
                  }

            pub made_step : StepOf n run (with_parts run.tables run.memory modes order.places order.left run) change
            made_step = (called_taken step run n made_effect next refl refl decides (λ s. (made_model s, made_whole s)), makes)
