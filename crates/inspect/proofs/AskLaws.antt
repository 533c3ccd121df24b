-- What is asked of a run: the queue's places, a task's record and its search. Assumes nothing.
use Prim.Native.Nat.{ℕ, zero, suc, ◌+◌, ◌*◌, ◌≤◌, ◌<◌}
use mathlib.Core.Path.{◌≡◌, refl, sym, ap, ◌∙◌}
use mathlib.Core.List.{List, [], ◌∷◌, ◌++◌, map, append_assoc, append-nil}
use mathlib.Core.Bool.{Bool, true, false, cond, not}
use native.Mathlib.Numerals.{add-one}
use native.Mathlib.Omega.{arith}
use lib.ListN.{length, take, drop, get_or, set, length-take}
use lib.Seq.{take-take}
use lib.Dec.{eqb}
use Rattle.std.proofs.lemmas.List.{take_more_set}
use borrow.Author.Tests.{lt-ltb, le-ltb, le-leb, lt-leb}
use Rattle.tasklist.specs.Encode.{joined}
use Rattle.tasklist.specs.Tables.{list_of}
use Rattle.tasklist.specs.Answers as Listed
use Rattle.tasklist.proofs.PlaceLaws.{get_d_default}
use Rattle.semantics.specs.declared.CallRefusal.TheVariants as Refusals
use Rattle.semantics.specs.Run.{mode_of, task_of}
use Rattle.semantics.specs.Run as Semantics
use Rattle.semantics.specs.Access.{Access, only, queue}
use Rattle.semantics.specs.Operations.{denies, gives, record_asked, queue_places, queue_asked, search_asked}
use Rattle.semantics.specs.Answers.{task_from}
use Rattle.semantics.proofs.Order.{among_in}
use Rattle.std.specs.Prelude.{Option, Some, None, Ok, Err}
use Rattle.ahead.specs.declared.Searched.{Searched}
use Rattle.arrays.specs.Rows.{row}
use Rattle.arrays.specs.Places.{unended, place_of}
use Rattle.ahead.specs.Ahead.{searched_ahead, found_of}
use Rattle.arrays.proofs.SpliceLaws.{placed, unplaced}
use Rattle.ahead.proofs.SearchLaws.{search_by}
use Rattle.runtime.specs.declared.Run.{Run}
use Rattle.plans.specs.View.{blank_record, no_record, model as parts_model}
use Rattle.runtime.specs.View.{model, context_of}
use Rattle.runtime.specs.Parts.{record_of, shown, shown_at, all_shown}
use Rattle.runtime.specs.Asked.{queued, queue_answer, queue_out, QueuedAs}
use Rattle.runtime.proofs.ViewLaws.{task_is, mode_is}

joined_more :
    (w : ℕ → List ℕ) (l : List ℕ) (i : ℕ) → i < length l → joined w (take (suc i) l) ≡ joined w (take i l) ++ w (get_or l i 0)
unfolding joined
joined_more w [] i h = absurd (omega arith)
joined_more w (k ∷ l) zero h = append-nil (w k)
joined_more w (k ∷ l) (suc i) h = ap (λ x. w k ++ x) (joined_more w l i (omega arith)) ∙ sym (append_assoc (w k) (joined w (take i l)) (w (get_or l i 0)))

-- The places put so far are what the queue shows of the first tasks of the order.
module _ (run : Run) (location : ℕ) (order places : List ℕ) (count i mode : ℕ) (inside : i < length order)
    (here : mode ≡ get_or (row (get_or order i 0) run.modes) location 0)
    (held : take count places ≡ joined (shown_at run location) (take i order))
  where
    one_more : (l : List ℕ) → shown (get_or order i 0) mode ≡ l → joined (shown_at run location) (take (i + 1) order) ≡ take count places ++ l
    one_more l q =
        ap (λ k. joined (shown_at run location) (take k order)) (add-one i) ∙ joined_more (shown_at run location) order i inside
        ∙ ap (λ x. joined (shown_at run location) (take i order) ++ x) (sym (ap (shown (get_or order i 0)) here) ∙ q)
        ∙ ap (λ x. x ++ l) (sym held)

    pub passed_over : shown (get_or order i 0) mode ≡ [] → take count places ≡ joined (shown_at run location) (take (i + 1) order)
    passed_over q = sym (one_more [] q ∙ append-nil (take count places))

    pub place_put :
        (place : ℕ) → shown (get_or order i 0) mode ≡ place ∷ [] → count < length places
        → take (count + 1) (set places count place) ≡ joined (shown_at run location) (take (i + 1) order)
    place_put place q room = take_more_set places count place room ∙ sym (one_more (place ∷ []) q)

-- the model's places are those of the code
module _ (r : Semantics.Run) (a : ℕ) (mode : ℕ → ℕ) (same : (k : ℕ) → mode k ≡ mode_of (task_of r k) a) where
  places_shown : (o : List ℕ) → map (λ k. k + 256 * mode_of (task_of r k) a) (only (λ k. not (eqb (mode_of (task_of r k) a) 0)) o)
      ≡ joined (λ k. shown k (mode k)) o
  unfolding only joined
  places_shown [] = refl
  places_shown (k ∷ o) = by_mode (places_shown o) (eqb (mode_of (task_of r k) a) 0) refl
    where
      by_mode :
          map (λ k. k + 256 * mode_of (task_of r k) a) (only (λ k. not (eqb (mode_of (task_of r k) a) 0)) o) ≡ joined (λ k. shown k (mode k)) o
          → (t : Bool) → eqb (mode_of (task_of r k) a) 0 ≡ t
          → map (λ k. k + 256 * mode_of (task_of r k) a)
          (cond (not (eqb (mode_of (task_of r k) a) 0)) (k ∷ only (λ k. not (eqb (mode_of (task_of r k) a) 0)) o) (only (λ k. not (eqb (mode_of (task_of r k) a) 0)) o))
          ≡ shown k (mode k) ++ joined (λ k. shown k (mode k)) o
      by_mode ih true q =
          let none : shown k (mode k) ≡ [] = ap (shown k) (same k) ∙ (unfold shown in rw q refl) in
          rw (q, none) ih
      by_mode ih false q =
          let one : shown k (mode k) ≡ (k + 256 * mode_of (task_of r k) a) ∷ [] = ap (shown k) (same k) ∙ (unfold shown in rw q refl) in
          rw (q, one) (ap (λ l. (k + 256 * mode_of (task_of r k) a) ∷ l) ih)

pub queue_shown :
    (run : Run) (a : ℕ) → length run.records ≡ 128 → length run.modes ≡ 8192
    → queue_places (model run) a ≡ all_shown run a
unfolding queue_places queue parts_model
queue_shown run a r m =
    places_shown (model run) a (λ k. get_or (row k run.modes) a 0) (λ k. mode_is run k a r m) (unended run.order)

-- The three answers of queue.
module _ (run : Run) (a : ℕ) (out : List ℕ) where
  pub queue_outside :
      run.tables.locations ≤ a
      → QueuedAs (queue_asked (context_of run) (model run) a (length out)) out out (Err Refusals.Location)
  unfolding queue_asked list_of queued queue_answer queue_out
  queue_outside h = let t = le-ltb a run.tables.locations h in record { answer = rw t refl; places = rw t refl }

  module _ (inside : a < run.tables.locations) (r : length run.records ≡ 128) (m : length run.modes ≡ 8192) where
    pub queue_short :
        length out < length (all_shown run a)
        → QueuedAs (queue_asked (context_of run) (model run) a (length out)) out out (Err Refusals.Short)
    unfolding queue_asked list_of queued queue_answer queue_out
    queue_short h =
        let t = lt-ltb a run.tables.locations inside in
        let p = queue_shown run a r m in
        let q = lt-leb (length (all_shown run a)) (length out) h in
        record { answer = rw (t, p, q) refl; places = rw (t, p, q) refl }

    pub queue_put :
        (new places : List ℕ) → places ≡ all_shown run a → length places ≤ length out
        → new ≡ places ++ drop (length places) out
        → QueuedAs (queue_asked (context_of run) (model run) a (length out)) out new (Ok (length places))
    unfolding queue_asked list_of queued queue_answer queue_out
    queue_put new places k h e =
        let t = lt-ltb a run.tables.locations inside in
        let p = queue_shown run a r m in
        let q = le-leb (length (all_shown run a)) (length out) (omega (arith, ap length k)) in
        record { answer = rw (t, p, q) (ap (λ l. Listed.gives (length l)) k); places = rw (t, p, q) (e ∙ ap (λ l. l ++ drop (length l) out) k) }

-- The two answers of record.
pub record_refused : (run : Run) (n : ℕ) → 127 < n → record_asked (model run) n ≡ denies 9
unfolding record_asked
record_refused run n h = rw (le-ltb n 128 (omega arith)) refl

pub record_given :
    (run : Run) (n : ℕ) (row_read : List ℕ) → n < 128 → length run.records ≡ 128 → row_read ≡ row n run.modes
    → gives (task_from (record_of run n) row_read) ≡ record_asked (model run) n
unfolding record_asked
record_given run n row_read h r e =
    let t = lt-ltb n 128 h in
    let own = task_is run n (omega arith) in
    let same : task_from (record_of run n) row_read ≡ task_of (model run) n =
    ap (task_from (record_of run n)) e
    ∙ ap (λ x. task_from x (row n run.modes)) (get_d_default run.records n no_record blank_record (omega arith))
    ∙ sym own in
    rw t (ap gives same)

-- The three answers of a search.
module _ (run : Run) (n : ℕ) (gs : List Access) where
  pub search_beyond : 127 < n → denies 9 ≡ search_asked (model run) n gs
  unfolding search_asked
  search_beyond h = sym (rw (le-ltb n 128 (omega arith)) refl)

  module _ (below : n < 128) (p : Option ℕ) (found : p ≡ place_of n (unended run.order)) where
    pub search_absent : p ≡ None → denies 10 ≡ search_asked (model run) n gs
    unfolding search_asked parts_model
    search_absent q =
        let none = unplaced n (unended run.order) (sym found ∙ q) in
        sym (rw (lt-ltb n 128 below, none) refl)

    pub search_given :
        (at : ℕ) → p ≡ Some at → length run.records ≡ 128 → length run.modes ≡ 8192 → (s : Searched)
        → s ≡ searched_ahead run.modes (take at run.order.places) gs → gives (found_of s) ≡ search_asked (model run) n gs
    unfolding search_asked parts_model
    search_given at q r m s e =
        let there = placed n (unended run.order) at (sym found ∙ q) in
        let ahead_of_lem = sym there.before ∙ take-take at run.order.left run.order.places (omega (arith, there.within, length-take run.order.left run.order.places)) in
        rw (lt-ltb n 128 below, there.listed)
        (ap gives
        (ap found_of (e ∙ ap (λ l. searched_ahead run.modes l gs) (sym ahead_of_lem))
        ∙ search_by (model run) n run.modes (λ k a. mode_is run k a r m) gs (among_in n (unended run.order) there.listed)))
