-- Which call it is, says the kind. Assumes nothing.
use Rattle.std.proofs.Common.{◌≡◌, ◌<◌, sym, ◌∙◌, rules}
use Rattle.runtime.specs.declared.Called.{Called}
use Rattle.runtime.specs.Calls.{CalledAs}
use Rattle.runtime.specs.Parts.{record_of}
use Rattle.turns.specs.declared.Kind.{Kind}
use Rattle.turns.specs.declared.Kind.TheVariants.{Start, Step, End}
use Rattle.turns.specs.Moves.{kind_action, NextCalled}
use Rattle.turns.proofs.MoveLaws.{next_no_number, next_by_kind}
use Rattle.turns.proofs.moves.next_call.Goals as goal
use Rattle.turns.proofs.moves.next_call.Goals.{After-next_kind}

pub returns-in_default : goal.returns-in_default
returns-in_default c =
    let far : 127 < c.args.task = search rules in
    next_no_number c.args.run c.args.task c.start.result far (rw c.from-number.ensures at c.start.ensures)

-- the call of the task's kind is its next one
of_kind :
    (c : After-next_kind) (k : Kind) → c.next_kind.result ≡ k → (done : Called) → CalledAs (kind_action k) c.args.run c.from-number.result done
    → NextCalled c.args.run c.args.task done
of_kind c k is done h =
    let below : c.args.task < 128 = search rules in
    let same : record_of c.args.run c.args.task ≡ c.in-Some.field-0.now = search rules in
    next_by_kind c.args.run c.args.task done below c.in-Some.field-0.now same c.body_size-size.result c.body_size-size.ensures.size k
    (sym is ∙ c.next_kind.ensures) (rw c.from-number.ensures at h)

pub returns-in-Start : goal.returns-in-Start
returns-in-Start c = of_kind (goal.at.returns-in-Start c).After-next_kind Start c.in-Start.is c.start-in-Start.result c.start-in-Start.ensures

pub returns-in-Step : goal.returns-in-Step
returns-in-Step c = of_kind (goal.at.returns-in-Step c).After-next_kind Step c.in-Step.is c.step.result c.step.ensures

pub returns-in-End : goal.returns-in-End
returns-in-End c = of_kind (goal.at.returns-in-End c).After-next_kind End c.in-End.is c.end.result c.end.ensures
