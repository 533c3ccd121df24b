-- Document 01's example, byte for byte: "With P and input 00 00 01 00 01 00 00 02 it prints the lines 0, 0, 0, 12, 5, 7,
-- `3 21 3`", with request 102's 19 in the place of 12. By computation; assumes nothing.
use Prim.Native.Nat.{ℕ}
use mathlib.Core.Path.{◌≡◌, refl, ap, ◌∙◌}
use mathlib.Core.List.{List, [], ◌∷◌}
use Rattle.tasklist.specs.TaskList.{body_of, footprint_of, instruction_of, total, adds, count_body, count_from, counts, task_count}
use Rattle.tasklist.specs.Encode.{joined, instruction_fields}
use Rattle.tasklist.specs.Decode.{accepted}
use Rattle.tasklist.proofs.Cases.{P, P_bytes, P_decodes}
use Rattle.library.specs.Library.{number_of, numbers_of, memory_of}
use Rattle.semantics.specs.Run.{no_modes, never, fixed_weights, weight_places, is_weight, weight_of, root_modes, root, initial, context}
use Rattle.semantics.specs.Access.{every, any, only, ahead, queue, behind_writer, compatible, allowed, access_fault}
use Rattle.semantics.specs.Effect.{numbered_from}
use Rattle.semantics.specs.Footprint.{targets, all_targets, merged, unless_denied, grant, child_modes, with_first, children}
use Rattle.semantics.specs.Plan.{unless_fault, plan_load, plan_store, plan_wait, passed_over, child_number, plan_make, plan_instruction, units, step_weight, at_end, needs_from, plan_start, plan_step, plan_end, plan}
use Rattle.semantics.specs.Call.{hold, admit, settle, among, decide, edited, written, splice, stays, places, changes, apply, taken, call, after, after_all}
use Rattle.semantics.specs.Operations.{with_weights, with_list}
use Rattle.semantics.specs.Answers.{outcome_number}
use Rattle.runtime.specs.Calls.{calls_of_kind}
use Rattle.lent.specs.Lines.{calls_in, line, lines}
use Rattle.wording.specs.Wording.{digits_within, digits, followed, totals, closing, printed}
use Rattle.transcript.specs.Transcript.{lines_from, transcript}

-- library.bin: 5, 7
abbrev pub P_library : List ℕ
P_library = 5 ∷ 0 ∷ 0 ∷ 0 ∷ 7 ∷ 0 ∷ 0 ∷ 0 ∷ []

-- "00 00 01 00 01 00 00 02"
abbrev pub P_input : List ℕ
P_input = 0 ∷ 0 ∷ 1 ∷ 0 ∷ 1 ∷ 0 ∷ 0 ∷ 2 ∷ []

-- 0, 0, 0, 19, 5, 7, `3 21 3`, a line feed behind each
abbrev pub P_lines : List ℕ
P_lines =
    48 ∷ 10 ∷ 48 ∷ 10 ∷ 48 ∷ 10 ∷ 49 ∷ 57 ∷ 10 ∷ 53 ∷ 10 ∷ 55 ∷ 10 ∷ 51 ∷ 32 ∷ 50 ∷ 49 ∷ 32 ∷ 51 ∷ 10 ∷ []

P_memory : memory_of P_library ≡ 5 ∷ 7 ∷ []
unfolding memory_of numbers_of number_of
P_memory = refl

P_run : lines_from (context P fixed_weights) (initial (context P fixed_weights) (5 ∷ 7 ∷ [])) P_input ≡ P_lines
unfolding body_of footprint_of instruction_of total adds count_body count_from counts task_count no_modes never fixed_weights weight_of root_modes root initial every any only ahead queue behind_writer compatible allowed access_fault unless_fault plan_load plan_store plan_wait passed_over targets all_targets merged unless_denied grant child_modes with_first children numbered_from child_number plan_make plan_instruction units step_weight at_end needs_from plan_start plan_step plan_end plan hold admit settle among decide edited written splice stays places changes apply taken call after after_all outcome_number calls_of_kind calls_in line lines joined digits_within digits followed totals closing lines_from instruction_fields
P_run = refl

pub P_prints : transcript P_bytes P_library P_input ≡ P_lines
unfolding transcript with_list with_weights fixed_weights weight_places is_weight every printed
P_prints =
    ap (λ d. printed (with_list d (memory_of P_library) fixed_weights (λ c. lines_from c (initial c (memory_of P_library)) P_input))) P_decodes
    ∙ ap (λ m. printed (with_list (accepted P) m fixed_weights (λ c. lines_from c (initial c m) P_input))) P_memory ∙ P_run
