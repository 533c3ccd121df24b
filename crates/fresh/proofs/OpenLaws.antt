-- What open's parts come to. Assumes nothing.
use Rattle.std.specs.Prelude.{Result, Ok, Err, IsErrAnd}
use Prim.Native.Nat.{ℕ, suc, ◌+◌, ◌-◌, ◌*◌, ◌^◌, ◌≤◌, ◌<◌}
use mathlib.Core.Path.{◌≡◌, refl, sym, ap, subst, ◌∙◌}
use mathlib.Core.List.{List, ◌∷◌, ◌++◌}
use mathlib.Core.Bool.{true, false}
use native.Mathlib.Omega.{arith}
use lib.ListN.{length, take, drop, get_or, replicate, length-append, length-replicate}
use Rattle.std.proofs.lemmas.List.{take-replicate, drop-replicate}
use lib.Seq.{take-append-add, drop-append-add}
use borrow.Author.Tests.{eq-eqb, ne_eqb}
use Rattle.tasklist.specs.declared.Tables.{Tables}
use Rattle.tasklist.specs.declared.Refusal.{Refusal}
use Rattle.tasklist.specs.Decode.{Decoded, refused, accepted, decode}
use Rattle.tasklist.specs.Tables.{Holds, list_of}
use Rattle.tasklist.specs.Answers.{refusal_number, ReadAs}
use Rattle.tasklist.proofs.Guarantees.{accepted_list}
use Rattle.semantics.specs.Run.{Task, Context, context, weight_places, is_weight, no_modes, never, root_modes, root, initial}
use Rattle.semantics.specs.Run as Semantics
use Rattle.semantics.specs.Access.{every}
use Rattle.semantics.specs.Answers.{task_from}
use Rattle.semantics.specs.Operations.{denies, with_weights, WeightsAccepted, with_list, open_asked}
use Rattle.semantics.specs.Operations as Operations
use Rattle.semantics.specs.Sound.{Sound}
use Rattle.semantics.proofs.SoundInitial.{initial_sound}
use Rattle.arrays.specs.Rows.{row}
use Rattle.runtime.specs.declared.Run.{Run}
use Rattle.runtime.specs.declared.OpenRefusal.{OpenRefusal}
use Rattle.runtime.specs.declared.OpenRefusal.TheVariants as Opening
use Rattle.plans.specs.View.{tasks_from, blank_record, model as parts_model}
use Rattle.runtime.specs.View.{model, SoundRun}
use Rattle.runtime.specs.Parts.{InitialOf}
use Rattle.runtime.specs.Asked.{open_number, OpenedAs}
use Rattle.plans.proofs.ViewLaws.{same_run, tasks_never}
use Rattle.records.specs.Records.{with_state}

-- the tables of an accepted list
pub record Listed (bytes : List ℕ) (t : Tables) : Type 0 where
  pub list : decode bytes ≡ accepted (list_of t)
  pub holds : Holds t (list_of t)

pub listed : (bytes : List ℕ) (t : Tables) → ReadAs (decode bytes) (Ok t) → Listed bytes t
listed bytes t h = by_list (decode bytes) refl h
  where
    by_list : (d : Decoded) → decode bytes ≡ d → ReadAs d (Ok t) → Listed bytes t
    by_list (refused k) q h = elim h [ ]
    by_list (accepted l) q h =
        record { list = q ∙ ap accepted (sym h.holds.list); holds = subst (Holds t) (sym h.holds.list) h.holds }

-- "as check": the list is refused
pub unlisted : (bytes : List ℕ) (k : Refusal) → ReadAs (decode bytes) (Err k) → decode bytes ≡ refused (refusal_number k)
unlisted bytes k h = by_list (decode bytes) refl h
  where
    by_list : (d : Decoded) → decode bytes ≡ d → ReadAs d (Err k) → decode bytes ≡ refused (refusal_number k)
    by_list (refused j) q h = q ∙ ap refused (sym h)
    by_list (accepted l) q h = elim h [ ]

module _ (bytes : List ℕ) (t : Tables) (l : Listed bytes t) where
  pub few_locations : t.locations ≤ 64
  few_locations =
      let h = (accepted_list bytes (list_of t) l.list).most_locations in unfold list_of in h

  module _ (numbers weights : List ℕ) where
    -- "then 8, library length not C"
    pub open_unfit : (length numbers ≡ t.locations → ⊥) → open_asked bytes numbers weights ≡ denies 8
    unfolding open_asked with_list
    open_unfit h =
        ap (λ d. with_list d numbers weights (λ c. initial c numbers)) l.list
        ∙ (unfold list_of in rw (ne_eqb (length numbers) t.locations h) refl)

    -- then the table of weights
    pub open_fit :
        length numbers ≡ t.locations
        → open_asked bytes numbers weights ≡ with_weights weights (initial (context (list_of t) weights) numbers)
    unfolding open_asked with_list
    open_fit h =
        ap (λ d. with_list d numbers weights (λ c. initial c numbers)) l.list
        ∙ (unfold list_of in rw (eq-eqb (length numbers) t.locations h) refl)

-- "21 wrong length, 22 a number not in 1 to 1000"
module _ {A : Type 0} (weights : List ℕ) (a : A) where
  table_short : (length weights ≡ 15 → ⊥) → with_weights weights a ≡ denies 21
  unfolding with_weights weight_places
  table_short h = rw (ne_eqb (length weights) 15 h) refl

  module _ (whole : length weights ≡ 15) where
    table_bad : every is_weight weights ≡ false → with_weights weights a ≡ denies 22
    unfolding with_weights weight_places
    table_bad h = rw (eq-eqb (length weights) 15 whole, h) refl

    table_good : every is_weight weights ≡ true → with_weights weights a ≡ Operations.gives a
    unfolding with_weights weight_places
    table_good h = rw (eq-eqb (length weights) 15 whole, h) refl

-- the modes of a fresh run: task 0 writes the first `c` locations
module _ (c : ℕ) (few : c ≤ 64) where
  abbrev fresh_modes : List ℕ
  fresh_modes = replicate c 2 ++ replicate (8192 - c) 0

  root_row : row 0 fresh_modes ≡ root_modes c
  unfolding row root_modes
  root_row =
      let q : 64 ≡ length (replicate {A = ℕ} c 2) + (64 - c) = omega (arith, length-replicate {A = ℕ} c 2) in
      ap (λ k. take k fresh_modes) q
      ∙ take-append-add (replicate c 2) (replicate (8192 - c) 0) (64 - c)
      ∙ ap (λ l. replicate c 2 ++ l) (take-replicate {X = ℕ} (64 - c) (8192 - c) 0 (omega arith))

  other_row : (j : ℕ) → 1 ≤ j → j < 128 → row j fresh_modes ≡ no_modes
  unfolding row no_modes
  other_row j h b =
      let m = 64 * j - c in
      let q : 64 * j ≡ length (replicate {A = ℕ} c 2) + m = omega (arith, length-replicate {A = ℕ} c 2) in
      ap (λ x. take 64 (drop x fresh_modes)) q
      ∙ ap (take 64) (drop-append-add (replicate c 2) (replicate (8192 - c) 0) m)
      ∙ ap (take 64) (drop-replicate {X = ℕ} m (8192 - c) 0)
      ∙ take-replicate {X = ℕ} 64 (8192 - c - m) 0 (omega arith)

-- "A fresh run is what open gives when it accepts"
module _
    (bytes : List ℕ) (t : Tables) (l : Listed bytes t) (numbers : List ℕ) (fits : length numbers ≡ t.locations)
    (small : (a : ℕ) → get_or numbers a 0 < 2 ^ 32) (weights : List ℕ) (ok : WeightsAccepted weights) (r : Run)
    (i : InitialOf t numbers weights r)
  where
    abbrev under : Context
    under = context (list_of t) weights

    abbrev n : ℕ
    n = length numbers

    few : n ≤ 64
    few = omega (arith, few_locations bytes t l)

    fresh_first : task_from (with_state 1 blank_record) (row 0 (fresh_modes n few)) ≡ root under
    unfolding root blank_record list_of
    fresh_first = ap (task_from (with_state 1 blank_record)) (root_row n few ∙ ap root_modes fits)

    fresh_tasks : tasks_from 0 r.records r.modes ≡ root under ∷ replicate 127 never
    unfolding tasks_from
    fresh_tasks =
        ap (λ ts. tasks_from 0 ts r.modes) i.records
        ∙ ap (λ m. tasks_from 0 (with_state 1 blank_record ∷ replicate 127 blank_record) m) i.modes
        ∙ ap (λ (x : Task). x ∷ tasks_from 1 (replicate 127 blank_record) (fresh_modes n few)) fresh_first
        ∙ ap (λ (ts : List Task). root under ∷ ts)
        (tasks_never 1 127 (fresh_modes n few) (λ j a b. other_row n few j a b))

    pub opened_model : model r ≡ initial under numbers
    unfolding parts_model initial
    opened_model =
        same_run (model r) (initial under numbers)
        (ap (λ k. take k r.memory) (ap (λ x. x.locations) i.tables ∙ sym fits) ∙ i.held)
        fresh_tasks
        (ap (λ k. take k r.order.places) i.left ∙ ap (take 1) i.order)
        i.calls
        i.weight

    fresh_sound : Sound under 16000 (initial under numbers)
    fresh_sound =
        initial_sound under (accepted_list bytes (list_of t) l.list) numbers 16000
        (fits ∙ (unfold list_of in refl)) small

    pub opened_sound : SoundRun r
    opened_sound =
        record {
          bytes = bytes;
          list = l.list ∙ ap (λ x. accepted (list_of x)) (sym i.tables);
          tables = subst (λ x. Holds x (list_of x)) (sym i.tables) l.holds;
          memory = i.memory;
          records = ap length i.records ∙ ap suc (length-replicate 127 blank_record);
          modes =
              ap length i.modes ∙ length-append (replicate n 2) (replicate (8192 - n) 0)
              ∙ omega (arith, few, length-replicate {A = ℕ} n 2, length-replicate {A = ℕ} (8192 - n) 0);
          order = ap length i.order ∙ length-replicate {A = ℕ} 128 0;
          left = omega (arith, i.left);
          weights = subst WeightsAccepted (sym i.table) ok;
          sound =
              subst (λ c. Sound c 16000 (model r)) (λ k. context (list_of (sym i.tables k)) (sym i.table k))
              (subst (Sound under 16000) (sym opened_model) fresh_sound);
        }

    pub opened_list : decode bytes ≡ accepted (list_of r.tables)
    opened_list = l.list ∙ ap (λ x. accepted (list_of x)) (sym i.tables)

-- open's answers
module _ (bytes numbers weights : List ℕ) where
  abbrev Answers : Result Run OpenRefusal → Type 0
  Answers r = OpenedAs bytes weights (open_asked bytes numbers weights) r

  denied : (k : OpenRefusal) → open_asked bytes numbers weights ≡ denies (open_number k) → Answers (Err k)
  denied k e = subst (λ x. OpenedAs bytes weights x (Err k)) (sym e) refl

  pub answers_refused :
      (k : Refusal) → ReadAs (decode bytes) (Err k) → (given : Result Run OpenRefusal) → IsErrAnd given (λ e. e ≡ Opening.List k)
      → Answers given
  unfolding open_number open_asked with_list
  answers_refused k h (Ok _) q = elim q [ ]
  answers_refused k h (Err e) q =
      subst (λ e. Answers (Err e)) (sym q)
      (denied (Opening.List k) (ap (λ d. with_list d numbers weights (λ c. initial c numbers)) (unlisted bytes k h)))

  module _ (t : Tables) (l : Listed bytes t) where
    pub answers_unfit : (length numbers ≡ t.locations → ⊥) → Answers (Err Opening.Length)
    unfolding open_number
    answers_unfit u = denied Opening.Length (open_unfit bytes t l numbers weights u)

    module _ (fits : length numbers ≡ t.locations) where
      abbrev fresh : Semantics.Run
      fresh = initial (context (list_of t) weights) numbers

      asked : open_asked bytes numbers weights ≡ with_weights weights fresh
      asked = open_fit bytes t l numbers weights fits

      pub answers_table : (length weights ≡ 15 → ⊥) → Answers (Err Opening.Table)
      unfolding open_number
      answers_table u = denied Opening.Table (asked ∙ table_short weights fresh u)

      module _ (whole : length weights ≡ 15) where
        pub answers_weight : every is_weight weights ≡ false → Answers (Err Opening.Weight)
        unfolding open_number
        answers_weight bad = denied Opening.Weight (asked ∙ table_bad weights fresh whole bad)

        pub answers_open :
            every is_weight weights ≡ true → ((a : ℕ) → get_or numbers a 0 < 2 ^ 32) → (r : Run) → InitialOf t numbers weights r
            → Answers (Ok r)
        answers_open good small r i =
            let ok : WeightsAccepted weights = record { size = whole ∙ (unfold weight_places in refl); each = good } in
            subst (λ a. OpenedAs bytes weights a (Ok r)) (sym (asked ∙ table_good weights fresh whole good))
            (record {
              run = opened_model bytes t l numbers fits small weights ok r i;
              list = opened_list bytes t l numbers fits small weights ok r i;
              table = i.table;
              sound = opened_sound bytes t l numbers fits small weights ok r i;
            })
