-- The foremost task's next call is the model's move: the record says which call it is, and on a sound run it is accepted. Assumes
-- nothing.
use Rattle.std.specs.Prelude.{Some, None, Result, Ok, Err, MatchResult, IsErrAnd, slice_get}
use Prim.Native.Nat.{ℕ, ◌<◌}
use mathlib.Core.Path.{◌≡◌, refl, sym, ap, ◌∙◌}
use mathlib.Core.List.{List, [], ◌∷◌}
use mathlib.Core.Bool.{Bool, true, false, cond}
use native.Mathlib.Omega.{arith}
use lib.ListN.{length}
use lib.Dec.{eqb}
use Rattle.semantics.specs.declared.Record.{Record}
use Rattle.semantics.specs.declared.CallRefusal.{CallRefusal}
use Rattle.semantics.specs.Run.{task_of}
use Rattle.semantics.specs.Plan.{Action, start, step, «end», at_end}
use Rattle.semantics.specs.Call.{or_same, taken, call, after}
use Rattle.semantics.specs.Answers.{answer_number, outcome_number}
use Rattle.semantics.specs.Turns.{next_action, next_call}
use Rattle.semantics.proofs.Turns.{move_none, after_move_none, move_front, after_move_front, move_accepted}
use Rattle.arrays.specs.Places.{unended}
use Rattle.plans.specs.View.{Parts}
use Rattle.plans.specs.View as Of
use Rattle.plans.proofs.DecideLaws.{no_number, list_accepted, own_state}
use Rattle.looks.specs.Looks.{finished, BodySize}
use Rattle.looks.proofs.LookLaws.{ends}
use Rattle.runtime.specs.declared.Run.{Run}
use Rattle.runtime.specs.declared.Called.{Called}
use Rattle.runtime.specs.View.{parts_of, model, context_of, SoundRun}
use Rattle.plans.specs.Calls.{call_of}
use Rattle.runtime.proofs.CallLaws.{no_refusal_0}
use Rattle.runtime.proofs.ViewLaws.{same_run}
use Rattle.runtime.specs.Calls.{decided, CalledAs, calls_of_kind}
use Rattle.runtime.specs.Parts.{record_of}
use Rattle.turns.specs.declared.Kind.{Kind}
use Rattle.turns.specs.declared.Kind.TheVariants.{Start, Step, End}
use Rattle.turns.specs.declared.MoveRefusal.{MoveRefusal}
use Rattle.turns.specs.declared.MoveRefusal.TheVariants.{NoneLeft, Call}
use Rattle.turns.specs.Moves.{MovedAs, next_kind, kind_number, kind_action, NextCalled}

-- the kind's call
pub kind_calls : (k : Kind) (n : ℕ) → calls_of_kind (kind_number k) n ≡ call_of (kind_action k) n ∷ []
unfolding calls_of_kind
kind_calls Start n = refl
kind_calls Step n = refl
kind_calls End n = refl

-- the kinds of the next call, by whether the task waits and whether it is at its end
as_kind : (waits over : Bool) → cond waits start (cond over «end» step) ≡ kind_action (cond waits Start (cond over End Step))
as_kind true over = refl
as_kind false true = refl
as_kind false false = refl

-- which call is next, by the task's own record
pub kind_next :
    (run : Parts) (n : ℕ) → n < 128 → (size : ℕ) (own : Record) → Of.record_of run n ≡ own → BodySize size own run
    → Of.SoundRun run → next_action (Of.context_of run) (task_of (Of.model run) n) ≡ kind_action (next_kind size own)
unfolding next_action
kind_next run n below size own same fits s =
    ap (λ k. cond (eqb k 1) start (cond (at_end (Of.context_of run) (task_of (Of.model run) n)) «end» step))
    (own_state run n below s ∙ ap (λ (t : Record). t.state) same)
    ∙ ap (λ b. cond (eqb own.state 1) start (cond b «end» step)) (sym (ends run n size own below same fits s))
    ∙ as_kind (eqb own.state 1) (finished size own)

-- The task's next call, in the code's terms.
module _ (run : Run) (n : ℕ) (done : Called) where
  -- what is decided alike is made alike
  alike :
      (a b : Action) → (SoundRun run → decided run a n ≡ decided run b n) → CalledAs a run n done → CalledAs b run n done
  unfolding after call
  alike a b q h =
      record {
        answer = λ s. h.answer s ∙ ap outcome_number (q s);
        run = λ s. h.run s ∙ ap (λ o. or_same (model run) (taken (model run) n o)) (q s);
        sound = h.sound;
        list = h.list;
        weights = h.weights;
        refused = h.refused;
      }

  abbrev next : Action
  next = next_action (context_of run) (task_of (model run) n)

  by_record : (a : Action) → (SoundRun run → next ≡ a) → CalledAs a run n done → NextCalled run n done
  by_record a q h = alike a next (λ s. ap (λ x. decided run x n) (sym (q s))) h

  pub next_no_number : 127 < n → CalledAs start run n done → NextCalled run n done
  next_no_number above h =
      alike start next (λ s. no_number (parts_of run) n start above ∙ sym (no_number (parts_of run) n next above)) h

  -- which call it is, by the kind
  pub next_by_kind :
      n < 128 → (own : Record) → record_of run n ≡ own → (size : ℕ) → BodySize size own (parts_of run) → (k : Kind)
      → k ≡ next_kind size own → CalledAs (kind_action k) run n done → NextCalled run n done
  next_by_kind below own same size fits k is h =
      by_record (kind_action k) (λ s. kind_next (parts_of run) n below size own same fits s ∙ ap kind_action (sym is)) h

-- the first of some tasks
none_first : (o : List ℕ) → slice_get o 0 ≡ None → o ≡ []
none_first [] q = refl
none_first (n ∷ o) q = cc

first_is : (o : List ℕ) (n : ℕ) → slice_get o 0 ≡ Some n → (rest : List ℕ) × (o ≡ n ∷ rest)
first_is [] n q = absurd (cc)
first_is (m ∷ o) n q = (o, cc)

-- The move.
module _ (run : Run) where
  pub moved_none : slice_get (unended run.order) 0 ≡ None → MovedAs run (record { answer = Err NoneLeft; run = run })
  unfolding outcome_number
  moved_none q =
      record {
        answer = λ s. sym (ap outcome_number (move_none (context_of run) (model run) nobody));
        run = λ s. sym (after_move_none (context_of run) (model run) nobody);
        sound = λ s. s;
        only_refusal = λ s k q. cc;
        list = refl;
        weights = refl;
        none_left = λ h. refl;
        refused = λ k h. refl;
      }
    where
      nobody : (model run).order ≡ []
      nobody = unfold Of.model in none_first (unended run.order) q

  module _ (n : ℕ) (first : slice_get (unended run.order) 0 ≡ Some n) (done : Called) (h : NextCalled run n done) where
    foremost : (rest : List ℕ) × ((model run).order ≡ n ∷ rest)
    unfolding Of.model
    foremost = first_is (unended run.order) n first

    -- the front task is never held back
    accepted : (s : SoundRun run) → answer_number done.answer ≡ 0
    unfolding next_call outcome_number
    accepted s =
        let e = move_accepted (context_of run) (list_accepted (parts_of run) s) (model run) s.sound.valid occupied in
        h.answer s
        ∙ ap outcome_number (sym (move_front (context_of run) (model run) n foremost.0 foremost.1))
        ∙ ap outcome_number e.1
      where
        occupied : (model run).order ≡ [] → ⊥
        occupied q = let z : length (n ∷ foremost.0) ≡ 0 = ap length (sym foremost.1 ∙ q) in omega (arith, z)

    pub moved_made : (u : Unit) → done.answer ≡ Ok u → MovedAs run (record { answer = Ok u; run = done.run })
    unfolding next_call
    moved_made u q =
        record {
          answer =
              λ s.
              ap answer_number (sym q)
              ∙ h.answer s
              ∙ ap outcome_number (sym (move_front (context_of run) (model run) n foremost.0 foremost.1));
          run = λ s. h.run s ∙ sym (after_move_front (context_of run) (model run) n foremost.0 foremost.1);
          sound = h.sound;
          only_refusal = λ s k p. cc;
          list = h.list;
          weights = h.weights;
          none_left = λ p. cc;
          refused = λ k p. cc;
        }

    pub moved_refused : (k : CallRefusal) → done.answer ≡ Err k → MovedAs run (record { answer = Err (Call k); run = done.run })
    moved_refused k q =
        record {
          answer = λ s. absurd (never s);
          run = λ s. absurd (never s);
          sound = h.sound;
          only_refusal = λ s j p. never s;
          list = h.list;
          weights = h.weights;
          none_left = λ p. cc;
          refused = λ j p. same_run done.run run (h.refused k q);
        }
      where
        never : SoundRun run → ⊥
        never s = no_refusal_0 k (ap answer_number (sym q) ∙ accepted s)

    pub moved :
        (given : Result Unit MoveRefusal) → MatchResult done.answer (λ u. given ≡ Ok u) (λ k. IsErrAnd given (λ e. e ≡ Call k))
        → MovedAs run (record { answer = given; run = done.run })
    moved given q = by_answer done.answer refl given q
      where
        by_answer :
            (a : Result Unit CallRefusal) → done.answer ≡ a → (given : Result Unit MoveRefusal)
            → MatchResult a (λ u. given ≡ Ok u) (λ k. IsErrAnd given (λ e. e ≡ Call k))
            → MovedAs run (record { answer = given; run = done.run })
        by_answer (Ok u) p given q = rw q (moved_made u p)
        by_answer (Err k) p (Ok _) q = elim q [ ]
        by_answer (Err k) p (Err e) q = rw q (moved_refused k p)
