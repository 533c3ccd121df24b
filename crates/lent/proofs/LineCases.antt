-- Document 01's example of the coordinator, "With P and input 00 00 01 00 01 00 00 02 it prints the lines 0, 0, 0, 12", with
-- request 102's 19 in the place of 12, and "another kind, or half a call: 18", by computation. Assumes nothing.
use Prim.Native.Nat.{ℕ}
use mathlib.Core.Path.{◌≡◌, refl}
use mathlib.Core.List.{List, [], ◌∷◌}
use Rattle.tasklist.specs.TaskList.{body_of, footprint_of, instruction_of, total, adds, count_body, count_from, counts, task_count}
use Rattle.tasklist.proofs.Cases.{P}
use Rattle.semantics.specs.Run.{no_modes, never, fixed_weights, weight_of, root_modes, root, context, initial}
use Rattle.semantics.specs.Access.{every, any, only, ahead, queue, behind_writer, compatible, allowed, access_fault}
use Rattle.semantics.specs.Effect.{numbered_from}
use Rattle.semantics.specs.Footprint.{targets, all_targets, merged, unless_denied, grant, child_modes, with_first, children}
use Rattle.semantics.specs.Plan.{unless_fault, plan_load, plan_store, plan_wait, passed_over, child_number, plan_make, plan_instruction, units, step_weight, at_end, needs_from, plan_start, plan_step, plan_end, plan}
use Rattle.semantics.specs.Call.{hold, admit, settle, among, decide, edited, written, splice, stays, places, changes, apply, taken, call, after, after_all}
use Rattle.semantics.specs.Answers.{outcome_number}
use Rattle.runtime.specs.Calls.{calls_of_kind}
use Rattle.lent.specs.Lines.{line, lines}

-- the lines of P under this input
abbrev printed : List ℕ → List ℕ
printed input = let c = context P fixed_weights in lines c (initial c (5 ∷ 7 ∷ [])) input

pub example : printed (0 ∷ 0 ∷ 1 ∷ 0 ∷ 1 ∷ 0 ∷ 0 ∷ 2 ∷ []) ≡ 0 ∷ 0 ∷ 0 ∷ 19 ∷ []
unfolding body_of footprint_of instruction_of total adds count_body count_from counts task_count no_modes never fixed_weights weight_of root_modes root initial every any only ahead queue behind_writer compatible allowed access_fault unless_fault plan_load plan_store plan_wait passed_over targets all_targets merged unless_denied grant child_modes with_first children numbered_from child_number plan_make plan_instruction units step_weight at_end needs_from plan_start plan_step plan_end plan hold admit settle among decide edited written splice stays places changes apply taken call after after_all outcome_number calls_of_kind line lines
example = refl

pub stray_and_half : printed (3 ∷ 0 ∷ 0 ∷ []) ≡ 18 ∷ 18 ∷ []
unfolding calls_of_kind line lines
stray_and_half = refl
