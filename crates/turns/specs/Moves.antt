-- What the first side's move promises: document 02, request 112. What the move is, says the model (`semantics`, Turns).
use Rattle.std.specs.Prelude.{ℕ, ◌≡◌, cond, eqb, Result, Ok, Err}
use Rattle.semantics.specs.declared.Record.{Record}
use Rattle.semantics.specs.declared.CallRefusal.{CallRefusal}
use Rattle.semantics.specs.Run.{task_of}
use Rattle.semantics.specs.Plan.{Action, start, step, «end»}
use Rattle.semantics.specs.Answers.{refusal_number, outcome_number}
use Rattle.semantics.specs.Turns.{next_action, move, after_move}
use Rattle.looks.specs.Looks.{finished}
use Rattle.runtime.specs.declared.Run.{Run}
use Rattle.runtime.specs.declared.Called.{Called}
use Rattle.runtime.specs.View.{model, context_of, SoundRun}
use Rattle.runtime.specs.Calls.{CalledAs}
use Rattle.turns.specs.declared.Kind.{Kind}
use Rattle.turns.specs.declared.Kind.TheVariants.{Start, Step, End}
use Rattle.turns.specs.declared.MoveRefusal.{MoveRefusal}
use Rattle.turns.specs.declared.MoveRefusal.TheVariants.{NoneLeft, Call}
use Rattle.turns.specs.declared.Moved.{Moved}

-- "(25 where no job is left, the only refusal of that move.)"
abbrev pub move_refusal_number : MoveRefusal → ℕ
move_refusal_number NoneLeft = 25
move_refusal_number (Call k) = refusal_number k

abbrev pub move_number : Result Unit MoveRefusal → ℕ
move_number (Ok done) = 0
move_number (Err k) = move_refusal_number k

-- "Provide the first side's move.": the next call of the foremost task of the run `from`, and what it hands back
pub record MovedAs (from : Run) (r : Moved) : Type 0 where
  -- 0 or 25
  pub answer : SoundRun from → move_number r.answer ≡ outcome_number (move (context_of from) (model from))
  -- the run after the move
  pub run : SoundRun from → model r.run ≡ after_move (context_of from) (model from)
  pub sound : SoundRun from → SoundRun r.run
  -- "the only refusal of that move": the foremost task's next call is never refused
  pub only_refusal : SoundRun from → (k : CallRefusal) → r.answer ≡ Err (Call k) → ⊥
  -- of every run: the list and the weights are kept, and a move that isn't made leaves it as it was
  pub list : r.run.tables ≡ from.tables
  pub weights : r.run.weights ≡ from.weights
  pub none_left : r.answer ≡ Err NoneLeft → r.run ≡ from
  pub refused : (k : CallRefusal) → r.answer ≡ Err (Call k) → r.run ≡ from

-- "0 start, 1 step, 2 end"
abbrev pub kind_number : Kind → ℕ
kind_number Start = 0
kind_number Step = 1
kind_number End = 2

abbrev pub kind_action : Kind → Action
kind_action Start = start
kind_action Step = step
kind_action End = «end»

-- the kind of a task's next call, by its record and the size of its body (law `kind_next`, proofs/MoveLaws)
abbrev pub next_kind : ℕ → Record → Kind
next_kind size own = cond (eqb own.state 1) Start (cond (finished size own) End Step)

-- the next call of task n, by its record
abbrev pub NextCalled : Run → ℕ → Called → Type 0
NextCalled from n r = CalledAs (next_action (context_of from) (task_of (model from) n)) from n r
