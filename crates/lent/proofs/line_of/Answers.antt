-- Half a call, a call of each kind, and one of another kind. Assumes nothing.
use Rattle.std.proofs.Common.{◌≡◌, ◌≢◌, ◌∷◌, [], refl, arith, rules, get_or}
use Rattle.semantics.specs.Plan.{start, step, «end»}
use Rattle.semantics.specs.Answers.{answer_number}
use Rattle.runtime.specs.View.{model, context_of, SoundRun}
use Rattle.runtime.specs.Calls.{calls_of_kind, CallsMade}
use Rattle.lent.specs.Lines.{calls_in, line, line_number, lines}
use Rattle.lent.proofs.LendLaws.{half_made, half_line, pair_called, stray_made, stray_line}
use Rattle.lent.proofs.line_of.Goals.{After-map_err, In_default-kind, in-0, in-1, in-2}
use Rattle.lent.proofs.line_of.Goals as goal

pub returns-in_default-clause-made : goal.returns-in_default-clause-made
returns-in_default-clause-made c = half_made c.args.call.now (omega arith) c.args.run.now

pub returns-in_default-clause-line : goal.returns-in_default-clause-line
returns-in_default-clause-line c s = half_line c.args.call.now (omega arith) (omega arith) (context_of c.args.run.now) (model c.args.run.now)

called :
    (c : After-map_err)
    → CallsMade (calls_in c.args.call.now) c.args.run.now c.match-kind.run
    × (SoundRun c.args.run.now → line_number c.map_err.result ∷ [] ≡ lines (context_of c.args.run.now) (model c.args.run.now) c.args.call.now)
unfolding calls_of_kind line
called c =
    let run = c.args.run.now in
    let l = c.args.call.now in
    let to = c.match-kind.run in
    let answer = c.match-kind.answer in
    let n = c.from-task.result in
    let x : line_number c.map_err.result ≡ answer_number answer = search rules in
    elim c.match-kind.branch [
      | in-0 w ↦ pair_called l (omega arith) 0 n w.in-0.is c.from-task.ensures start refl (λ _ _. refl) run to answer (rw (w.run-is, w.answer-is) w.start_in-answer.ensures) (line_number c.map_err.result) x
      | in-1 w ↦ pair_called l (omega arith) 1 n w.in-1.is c.from-task.ensures step refl (λ _ _. refl) run to answer (rw (w.run-is, w.answer-is) w.step_in-answer.ensures) (line_number c.map_err.result) x
      | in-2 w ↦ pair_called l (omega arith) 2 n w.in-2.is c.from-task.ensures «end» refl (λ _ _. refl) run to answer (rw (w.run-is, w.answer-is) w.end_in-answer.ensures) (line_number c.map_err.result) x
    ]

pub returns-clause-made : goal.returns-clause-made
returns-clause-made c = (called c).0

pub returns-clause-line : goal.returns-clause-line
returns-clause-line c = (called c).1

-- a call that is none of the three
stray : (c : In_default-kind) → let k = get_or c.args.call.now 0 0 in (k ≢ 0) × (k ≢ 1) × (k ≢ 2)
stray c = (omega arith, omega arith, omega arith)

pub returns-in_default-kind-clause-made : goal.returns-in_default-kind-clause-made
returns-in_default-kind-clause-made c =
    let l = c.args.call.now in
    stray_made l (omega arith) (get_or l 0 0) c.from-task.result refl c.from-task.ensures (stray c) c.args.run.now

pub returns-in_default-kind-clause-line : goal.returns-in_default-kind-clause-line
returns-in_default-kind-clause-line c s =
    let l = c.args.call.now in
    stray_line l (omega arith) (get_or l 0 0) c.from-task.result refl c.from-task.ensures (stray c) (context_of c.args.run.now) (model c.args.run.now)
