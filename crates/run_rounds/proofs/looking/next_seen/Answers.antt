-- By the kind of the next call: what its look says. Assumes nothing.
use Rattle.std.proofs.Common.{ℕ, List, sym, ◌∙◌, ◌≡◌, ◌<◌, ap, length, subst, get_or, rules, arith, Option, Some, None, Result, Bool, true, false, cond}
use Rattle.std.specs.Option.{option_map}
use Rattle.std.specs.Result.{result_ok}
use Rattle.tasklist.specs.TaskList.{blank_instruction, body_of, instruction_of}
use Rattle.tasklist.specs.declared.Instruction.{Instruction}
use Rattle.plans.specs.declared.StepPlan.{StepPlan}
use Rattle.plans.specs.declared.Stop.{Stop}
use Rattle.plans.specs.Steps.{PlansIn}
use Rattle.tasklist.specs.Tables.{list_of}
use Rattle.plans.specs.View.{no_record}
use Rattle.looks.specs.Looks.{StartIn, EndIn, ReadyIn}
use Rattle.runtime.specs.View.{parts_of}
use Rattle.runtime.specs.Parts.{record_of}
use Rattle.semantics.specs.declared.CallRefusal.{CallRefusal}
use Rattle.semantics.specs.declared.Record.{Record}
use Rattle.runtime.specs.declared.Run.{Run}
use Rattle.turns.specs.declared.Kind.{Kind}
use Rattle.turns.specs.declared.Kind.TheVariants.{Start, Step, End}
use Rattle.run_rounds.specs.Looking.{waits, SeenAs}
use Rattle.run_rounds.proofs.SeenLaws.{beyond_seen, start_seen, end_seen, refused_seen, ready_at, step_seen}
use Rattle.run_rounds.proofs.looking.next_seen.Goals.{After-next_kind-kind}
use Rattle.run_rounds.proofs.looking.next_seen.Goals as goal

-- the task, its record, its instructions and the kind of its next call
module _ (c : After-next_kind-kind) where
  abbrev run : Run
  run = c.args.run.now

  abbrev n : ℕ
  n = c.args.task

  abbrev own : Record
  own = c.in_ok-own.field-0.now

  abbrev instructions : List Instruction
  instructions = c.body_instructions-instructions.result.now

  abbrev kind : Kind
  kind = c.next_kind-kind.result

  below : n < 128
  below =
      let whole : length run.records ≡ 128 = search rules in
      omega (arith, c.in_ok-own.ensures.lookup.3.0, c.from.ensures)

  same : record_of run n ≡ own
  same = ap (λ k. get_or run.records k no_record) (sym c.from.ensures) ∙ sym (c.in_ok-own.ensures.lookup.3.1 no_record)

  body : instructions ≡ body_of (list_of run.tables) own.body
  body = c.body_instructions-instructions.ensures.instructions ∙ ap (body_of (list_of run.tables)) c.from-2.ensures

  -- what a look finds, as the function hands it on
  abbrev Sees : Option ℕ → Type 0
  Sees found = SeenAs (parts_of run) n (option_map (λ _. kind) found)

  by_start :
      kind ≡ Start → (found : Result ℕ CallRefusal) → StartIn run.order run.modes own c.from-number.result found
      → (o : Option ℕ) → o ≡ result_ok found → Sees o
  by_start q found h o e =
      rw e (start_seen run n below own same (length instructions) (ap length body) kind c.next_kind-kind.ensures q found (subst (λ k. StartIn run.order run.modes own k found) c.from-number.ensures h))

  by_end :
      kind ≡ End → (found : Result ℕ CallRefusal) → EndIn run.order own (length instructions) c.from-number.result found
      → (o : Option ℕ) → o ≡ result_ok found → Sees o
  by_end q found h o e =
      rw e (end_seen run n below own same (length instructions) (ap length body) kind c.next_kind-kind.ensures q found (subst (λ k. EndIn run.order own (length instructions) k found) c.from-number.ensures h))

  by_refusal :
      kind ≡ Step → (found : Result ℕ CallRefusal) → ReadyIn run.order own (length instructions) c.from-number.result found
      → None ≡ result_ok found → SeenAs (parts_of run) n None
  by_refusal q found h e =
      refused_seen run n below own same (length instructions) (ap length body) kind c.next_kind-kind.ensures q found
      (subst (λ k. ReadyIn run.order own (length instructions) k found) c.from-number.ensures h) e

  -- a step whose look finds a place, and whether its instruction waits
  by_step :
      kind ≡ Step → (found : Result ℕ CallRefusal) → ReadyIn run.order own (length instructions) c.from-number.result found
      → (place : ℕ) → Some place ≡ result_ok found → (task : ℕ) → task ≡ n → (i : Instruction)
      → i ≡ get_or instructions own.pc blank_instruction → (p : Result StepPlan Stop)
      → PlansIn run.order.places run.modes run.memory own.registers task place i p
      → (b : Bool) → b ≡ waits p → SeenAs (parts_of run) n (cond b None (Some kind))
  unfolding instruction_of
  by_step q found h place e task t i at p plans b w =
      step_seen run n below own same (length instructions) (ap length body) kind c.next_kind-kind.ensures q place
      (ready_at run.order own (length instructions) n found (subst (λ k. ReadyIn run.order own (length instructions) k found) c.from-number.ensures h) place e) i
      (at ∙ ap (λ l. get_or l own.pc blank_instruction) body) p (subst (λ k. PlansIn run.order.places run.modes run.memory own.registers k place i p) t plans) b (sym w)

pub returns-in_err-own : goal.returns-in_err-own
returns-in_err-own c =
    let whole : length c.args.run.now.records ≡ 128 = search rules in
    rw c.from_residual.ensures (beyond_seen (parts_of c.args.run.now) c.args.task (omega (arith, c.in_err-own.ensures.lookup, c.from.ensures)))

pub returns-in_err-ok-in-Start : goal.returns-in_err-ok-in-Start
returns-in_err-ok-in-Start c =
    rw c.from_residual-in_err-ok-in-Start.ensures
    (by_start (goal.at.returns-in_err-ok-in-Start c).After-next_kind-kind c.in-Start.is c.start_look.result c.start_look.ensures None c.in_err-ok-in-Start.ensures.value)

pub returns-in_ok-ok-in-Start : goal.returns-in_ok-ok-in-Start
returns-in_ok-ok-in-Start c =
    by_start (goal.at.returns-in_ok-ok-in-Start c).After-next_kind-kind c.in-Start.is c.start_look.result c.start_look.ensures (Some _) c.in_ok-ok-in-Start.ensures.value

pub returns-in_err-ok-in-End : goal.returns-in_err-ok-in-End
returns-in_err-ok-in-End c =
    rw c.from_residual-in_err-ok-in-End.ensures
    (by_end (goal.at.returns-in_err-ok-in-End c).After-next_kind-kind c.in-End.is c.end_look.result c.end_look.ensures None c.in_err-ok-in-End.ensures.value)

pub returns-in_ok-ok-in-End : goal.returns-in_ok-ok-in-End
returns-in_ok-ok-in-End c =
    by_end (goal.at.returns-in_ok-ok-in-End c).After-next_kind-kind c.in-End.is c.end_look.result c.end_look.ensures (Some _) c.in_ok-ok-in-End.ensures.value

pub returns-in_err-place-in-Step : goal.returns-in_err-place-in-Step
returns-in_err-place-in-Step c =
    rw c.from_residual-in_err-place-in-Step.ensures
    (by_refusal (goal.at.returns-in_err-place-in-Step c).After-next_kind-kind c.in-Step.is c.step_look.result c.step_look.ensures c.in_err-place-in-Step.ensures.value)

pub returns-then-waits : goal.returns-then-waits
returns-then-waits c =
    let i = c.in_ok-instruction-in-Step in
    by_step (goal.at.returns-then-waits c).After-next_kind-kind c.in-Step.is c.step_look.result c.step_look.ensures c.in_ok-place-in-Step.place
    c.in_ok-place-in-Step.ensures.value c.from-in-Step.result c.from-in-Step.ensures i.field-0.now (i.ensures.lookup.3.1 blank_instruction) c.plan_of.result c.plan_of.ensures true c.if-waits.ensures

pub returns-else-waits : goal.returns-else-waits
returns-else-waits c =
    let i = c.in_ok-instruction-in-Step in
    by_step (goal.at.returns-else-waits c).After-next_kind-kind c.in-Step.is c.step_look.result c.step_look.ensures c.in_ok-place-in-Step.place
    c.in_ok-place-in-Step.ensures.value c.from-in-Step.result c.from-in-Step.ensures i.field-0.now (i.ensures.lookup.3.1 blank_instruction) c.plan_of.result c.plan_of.ensures false c.if-waits.ensures
