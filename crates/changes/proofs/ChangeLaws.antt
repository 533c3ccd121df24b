-- What a change comes to when it is put into the run that it is of. Assumes nothing.
use Rattle.std.proofs.Common.{Ok, Err, ◌≡◌, ℕ, ◌+◌, ◌<◌, ◌≤◌, List, [], ◌∷◌, length, get_or, take, sym, refl, ap, ◌∙◌, subst}
use Rattle.semantics.specs.declared.Record.{Record}
use Rattle.semantics.specs.declared.CallRefusal.{CallRefusal}
use Rattle.semantics.specs.Run.{weight_of, start_weight, end_weight}
use Rattle.semantics.specs.Plan.{Action, start, «end»}
use Rattle.semantics.specs.Call.{accept}
use Rattle.arrays.specs.declared.order.Order.{Order}
use Rattle.arrays.specs.Places.{unended, without}
use Rattle.records.specs.Records.{with_state}
use Rattle.plans.specs.View.{Parts, context_of, SoundRun, Placed, record_of}
use Rattle.plans.specs.Calls.{call_of, decided}
use Rattle.looks.specs.Looks.{start_effect, end_effect, ordered}
use Rattle.changes.specs.declared.Change.{Change}
use Rattle.changes.specs.Calls.{CalledAs, CallsMade}
use Rattle.changes.specs.Changes.{counted, put, ChangeOf}
use Rattle.changes.proofs.CallLaws.{applied, EndedAs, one_call, called_refused, start_taken, end_taken}

-- The call alone.
module _ (a : Action) (run : Parts) (n : ℕ) (next : Change → Parts) where
  pub refusal_made : (k : CallRefusal) → ChangeOf a n run next (Err k) → CallsMade (call_of a n ∷ []) run run
  refusal_made k h = one_call a run n (Err k) run (called_refused a run n k h)

  pub change_made : (c : Change) → ChangeOf a n run next (Ok c) → CallsMade (call_of a n ∷ []) run (next c)
  change_made c h = one_call a run n (Ok tt) (next c) h

-- A start that is accepted.
pub start_changed :
    (run : Parts) (n : ℕ) (t : Record) → record_of run n ≡ t → n < 128
    → (SoundRun run → decided run start n ≡ accept (start_effect run n)) → (weights : List ℕ) → run.weights ≡ weights
    → (w : ℕ) → w ≡ get_or weights 0 0 → (c : Change) → c ≡ counted (with_state 2 t) w
    → ChangeOf start n run (λ x. put n x run) (Ok c)
unfolding applied weight_of
start_changed run n t q below h weights table w is c e =
    let weighs : w ≡ start_weight (context_of run) = is ∙ ap (λ (ws : List ℕ). get_or ws 0 0) (sym table) in
    subst (λ x. ChangeOf start n run (λ y. put n y run) (Ok x)) (sym (e ∙ ap (counted (with_state 2 t)) weighs))
    (subst (λ x. CalledAs start run n (Ok tt) (put n (counted (with_state 2 x) (start_weight (context_of run))) run)) q
    (start_taken run n below h))

-- An end that is accepted.
module _
    (run : Parts) (n place : ℕ) (t : Record) (q : record_of run n ≡ t) (below : n < 128)
    (h : SoundRun run → Placed run n place × (decided run «end» n ≡ accept (end_effect run n)))
    (after : Order) (whole : length after.places ≡ 128)
    (out :
    place < run.left → run.left ≤ 128
    → (after.left + 1 ≡ run.left) × (unended after ≡ without place (take run.left run.order)))
  where
    abbrev ended_run : Record → Parts
    ended_run x = put n (counted (with_state 3 x) (end_weight (context_of run))) (ordered after.places after.left run)

    ended_as : EndedAs n place run (ended_run (record_of run n))
    unfolding applied
    ended_as = record { run = refl; whole = whole; order = out }

    pub end_changed :
        (weights : List ℕ) → run.weights ≡ weights → (w : ℕ) → w ≡ get_or weights 1 0 → (c : Change)
        → c ≡ counted (with_state 3 t) w
        → ChangeOf «end» n run (λ x. put n x (ordered after.places after.left run)) (Ok c)
    unfolding weight_of
    end_changed weights table w is c e =
        let weighs : w ≡ end_weight (context_of run) = is ∙ ap (λ (ws : List ℕ). get_or ws 1 0) (sym table) in
        subst (λ x. ChangeOf «end» n run (λ y. put n y (ordered after.places after.left run)) (Ok x))
        (sym (e ∙ ap (counted (with_state 3 t)) weighs))
        (subst (λ x. CalledAs «end» run n (Ok tt) (ended_run x)) q
        (end_taken run n place (ended_run (record_of run n)) below h ended_as))
