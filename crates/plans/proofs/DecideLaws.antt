-- What is decided of a call, and what a sound run says of a task. Assumes nothing.
use Rattle.std.proofs.Common.{Result, Ok, Err, ◌≡◌, ℕ, ◌<◌, true, false, List, take, sym, refl, ap, ◌∙◌, arith, le-ltb, lt-ltb}
use Rattle.tasklist.specs.Accepted.{Accepted}
use Rattle.tasklist.specs.Tables.{list_of}
use Rattle.tasklist.proofs.Guarantees.{accepted_list}
use Rattle.tasklist.proofs.PlaceLaws.{get_d_default}
use Rattle.semantics.specs.Run.{task_of}
use Rattle.semantics.specs.Access.{Access}
use Rattle.semantics.specs.Effect.{Effect}
use Rattle.semantics.specs.Plan.{Action, plan}
use Rattle.semantics.specs.declared.CallRefusal.{CallRefusal}
use Rattle.semantics.specs.Call.{Outcome, refuse, accept, admit, settle, among, decide}
use Rattle.semantics.specs.Answers.{refusal_number, task_from}
use Rattle.semantics.specs.Sound.{In}
use Rattle.semantics.proofs.Bounds.{order_below}
use Rattle.semantics.proofs.Search.{Asks}
use Rattle.arrays.specs.Rows.{row}
use Rattle.ahead.specs.Ahead.{past, hold_ahead}
use Rattle.ahead.specs.declared.Hold.{Hold}
use Rattle.ahead.specs.declared.Hold.TheVariants.{Free, Writer, Others}
use Rattle.ahead.proofs.SearchLaws.{outcome_by, admit_by}
use Rattle.plans.specs.View.{Parts, model, context_of, SoundRun, blank_record, Placed, no_record, record_of}
use Rattle.plans.specs.Calls.{decided}
use Rattle.plans.proofs.ViewLaws.{task_is}

-- What is decided, test by test.
module _ (run : Parts) (n : ℕ) where
  pub no_number : (a : Action) → 127 < n → decided run a n ≡ refuse 9
  unfolding decide
  no_number a h = rw (le-ltb n 128 (omega arith)) refl

  module _ (below : n < 128) where
    pub not_listed : (a : Action) → among n (model run).order ≡ false → decided run a n ≡ refuse 10
    unfolding decide
    not_listed a h = rw (lt-ltb n 128 below, h) refl

    module _ (listed : among n (model run).order ≡ true) where
      pub by_plan : (a : Action) → decided run a n ≡ settle (model run) n (plan (context_of run) a n (task_of (model run) n))
      unfolding decide
      by_plan a = rw (lt-ltb n 128 below, listed) refl

-- what a look at the tasks ahead makes of a call with this effect
abbrev pub looked_to : Result Unit CallRefusal → Effect → Outcome
looked_to (Ok done) e = accept e
looked_to (Err k) e = refuse (refusal_number k)

by_hold : (h : Hold) (e : Effect) → outcome_by h e ≡ looked_to (past h) e
by_hold Free e = refl
by_hold Writer e = refl
by_hold Others e = refl

-- A sound run's list and records.
module _ (run : Parts) (s : SoundRun run) where
  pub list_accepted : Accepted (list_of run.tables)
  list_accepted = accepted_list s.bytes (list_of run.tables) s.list

  pub own_task : (n : ℕ) → n < 128 → task_of (model run) n ≡ task_from (record_of run n) (row n run.modes)
  own_task n h =
      task_is run n (omega (arith, s.records))
      ∙ ap (λ t. task_from t (row n run.modes)) (get_d_default run.records n blank_record no_record (omega (arith, s.records)))

  pub rows_same : (k : ℕ) → In k (model run).order → row k run.modes ≡ (task_of (model run) k).modes
  rows_same k i =
      sym (ap (λ t. t.modes) (own_task k (order_below (context_of run) list_accepted (model run) s.sound.valid k i)))

  -- the search from the front is the model's look at the tasks ahead
  pub looks_ahead :
      (n place : ℕ) (gs : List Access) → Placed run n place → ((g : Access) → In g gs → Asks (model run) n g)
      → (r : Result Unit CallRefusal) → r ≡ past (hold_ahead run.modes (take place run.order) gs) → (e : Effect)
      → admit (model run) n gs e ≡ looked_to r e
  looks_ahead n place gs p asks r q e =
      admit_by (model run) n run.modes rows_same gs asks (hold_ahead run.modes (take place run.order) gs)
      (ap (λ l. hold_ahead run.modes l gs) (sym p.ahead_of)) e
      ∙ by_hold (hold_ahead run.modes (take place run.order) gs) e
      ∙ ap (λ x. looked_to x e) (sym q)

-- The task's own state.
pub own_state : (run : Parts) (n : ℕ) → n < 128 → SoundRun run → (task_of (model run) n).state ≡ (record_of run n).state
own_state run n below s = ap (λ t. t.state) (own_task run s n below)
