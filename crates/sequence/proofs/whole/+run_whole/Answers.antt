-- Its start, its steps and the tasks that each of them makes, its end. Assumes nothing.
use Rattle.std.proofs.Common.{◌+◌, ◌*◌, ◌≡◌, ◌∙◌, ap, None, Ok, subst, rules}
use Rattle.semantics.specs.Plan.{start, «end»}
use Rattle.runtime.specs.Calls.{SteppedAs, numbers_of}
use Rattle.runtime.proofs.CallLaws.{call_made, step_made, refused_makes_none}
use Rattle.sequence.proofs.SequentialLaws.{ended, StepsLeft, enough_steps, turn_ended, turn_spent, each_one, turn_taken, turn_alone, whole_none, whole_spent}
use Rattle.sequence.proofs.whole.+run_whole.Goals.{else-loop-left-test, then-loop-left-test+then-at_end}
use Rattle.sequence.proofs.whole.+run_whole.Goals as goal

pub returns-then-bodies-eq0 : goal.returns-then-bodies-eq0
returns-then-bodies-eq0 t c = whole_none c.args.bodies c.args.task c.args.run.now c.if-bodies-eq0.true

pub loop-left-preserved-in_default : goal.loop-left-preserved-in_default
loop-left-preserved-in_default t c =
    let n = c.args.task in
    let l = c.loop-left in
    let none : c.in_default.field-0 ≡ None = search rules in
    let taken = subst (λ r. SteppedAs l.run n r c.try_step.new.self) (c.in_default.is ∙ ap Ok none) c.try_step.ensures in
    turn_alone c.args.bodies n (c.body_size-size.result + 1) c.try_start-started.new.self l.left l.run c.try_step.new.self l.invariant
    c.loop-left-test.true c.at_end.result
    (ended l.run n c.requires c.body_size.result c.body_size.ensures.size c.at_end.result c.at_end.ensures)
    c.if-at_end.false (step_made l.run n c.try_step.result c.try_step.new.self c.try_step.ensures) taken.1.numbers

pub loop-left-preserved-in_default-2 : goal.loop-left-preserved-in_default-2
loop-left-preserved-in_default-2 t c =
    let n = c.args.task in
    let l = c.loop-left in
    let k = c.in_default.field-0 in
    let refused = subst (λ r. SteppedAs l.run n r c.try_step.new.self) c.in_default.is c.try_step.ensures in
    turn_alone c.args.bodies n (c.body_size-size.result + 1) c.try_start-started.new.self l.left l.run c.try_step.new.self l.invariant
    c.loop-left-test.true c.at_end.result
    (ended l.run n c.requires c.body_size.result c.body_size.ensures.size c.at_end.result c.at_end.ensures)
    c.if-at_end.false (step_made l.run n c.try_step.result c.try_step.new.self c.try_step.ensures)
    (refused_makes_none l.run n k c.try_step.new.self refused)

pub loop-i-preserved : goal.loop-i-preserved
loop-i-preserved t c =
    let made = c.in-Ok-Some.made in
    let l = c.loop-i in
    let number : c.number.result ≡ made.first + l.i * made.apart = search rules in
    each_one c.args.bodies made.first made.apart made.children c.try_step.new.self l.i l.run c.loop-i-test.true l.invariant
    c.run_whole.new.run (rw number at c.run_whole.ensures)

pub loop-left-preserved : goal.loop-left-preserved
loop-left-preserved t c =
    let n = c.args.task in
    let l = c.loop-left in
    let made = c.in-Ok-Some.made in
    let each = c.loop-i in
    turn_taken c.args.bodies n (c.body_size-size.result + 1) c.try_start-started.new.self l.left l.run c.try_step.new.self l.invariant c.loop-left-test.true
    c.at_end.result (ended l.run n c.requires c.body_size.result c.body_size.ensures.size c.at_end.result c.at_end.ensures)
    c.if-at_end.false (step_made l.run n c.try_step.result c.try_step.new.self c.try_step.ensures) made.first made.apart made.children
    (λ s. c.in-Ok-Some.ensures.1.numbers s ∙ ap numbers_of c.in-Ok-Some.field-0-is) each.i each.run c.loop-i-test.false each.invariant

pub returns : goal.returns
returns t c =
    let n = c.args.task in
    let run = c.args.run.now in
    let size = c.body_size-size in
    let begun = c.try_start-started in
    let l = c.loop-left in
    let r = l.run in
    let last = c.try_end-ended in
    let spent : StepsLeft c.args.bodies n (size.result + 1) begun.new.self 0 r =
    elim c.loop-left-test.branch [
      | else-loop-left-test w ↦ turn_spent c.args.bodies n (size.result + 1) begun.new.self l.left r l.invariant w.loop-left-test.false
      | then-loop-left-test+then-at_end w ↦
          turn_ended c.args.bodies n (size.result + 1) begun.new.self l.left r l.invariant w.at_end.result
          (ended r n c.requires w.body_size.result w.body_size.ensures.size w.at_end.result w.at_end.ensures)
          w.if-at_end.true
    ]
    in
    whole_spent c.args.bodies n run begun.new.self c.if-bodies-eq0.false (size.result + 1)
    (enough_steps run n c.requires size.result size.ensures.size) (call_made start run n begun.result begun.new.self begun.ensures) r spent
    last.new.self (call_made «end» r n last.result last.new.self last.ensures)
