-- Cases of request 114: one theorem over one list, by computation. Assumes nothing.
use Prim.Native.Nat.{ℕ}
use mathlib.Core.Path.{◌≡◌, refl}
use mathlib.Core.List.{List, [], ◌∷◌}
use mathlib.Core.Bool.{true}
use Rattle.tasklist.specs.declared.Instruction.{Instruction}
use Rattle.tasklist.specs.declared.Instruction.TheVariants.{Const, Div, Skip, Spawn, Fan}
use Rattle.tasklist.specs.TaskList.{TaskList, footprint_of, instruction_of, total, adds, count_body, count_from, counts, task_count}
use Rattle.tasklist.specs.Encode.{instruction_fields}
use Rattle.tasklist.proofs.Cases.{P}
use Rattle.semantics.specs.Run.{no_modes, never, fixed_weights, weight_of, root_modes, root, initial}
use Rattle.semantics.specs.Access.{every, only, ahead, compatible, allowed, access_fault}
use Rattle.semantics.specs.Effect.{numbered_from}
use Rattle.semantics.specs.Footprint.{targets, all_targets, merged, unless_denied, grant, child_modes, with_first, children, fan_of}
use Rattle.semantics.specs.Plan.{unless_fault, plan_load, plan_store, passed_over, quotient_fault, plan_quotient, child_number, plan_make, plan_instruction, units, step_weight, at_end, needs_from, plan_start, plan_step, plan_end, plan}
use Rattle.semantics.specs.Call.{admit, settle, among, decide, written, splice, stays, places, changes, apply, taken, call, after, after_all}
use Rattle.semantics.specs.Sequential.{start_of, step_of, run_each, step_through, steps_through, enough, run_whole, sequential}
use Rattle.semantics.specs.Case.{same, asked_number}
use Rattle.bill_shares.specs.Shares.{whole, floors, remainders, remaining, comes_before, count_below, rank_of, share_at, listed, shares}
use Rattle.model_bill.specs.Bill.{is_made, wards_from, wards, ward_weight, ward_weights, shares_asked}
use Rattle.model_bill.specs.Case.{Case, has_wards, pays, refuses, has_wards_after, refuses_after, shares_are, holds}

-- two locations; a footprint: read 0
abbrev small : List (List Instruction) → TaskList
small bodies = record { locations = 2; footprints = (record { kind = 0; value = 0 } ∷ []) ∷ []; bodies = bodies }

-- job 0 fans out three empty tasks
abbrev three : TaskList
three = small ((Fan 1 0 3 ∷ []) ∷ [] ∷ [])

-- job 0 passes over a spawn (job 1), spawns a task that spawns two (job 2 with 3 and 4), and another (job 5)
abbrev passing : TaskList
passing = small ((Skip 0 1 ∷ Spawn 2 0 ∷ Spawn 1 0 ∷ Spawn 2 0 ∷ []) ∷ (Spawn 2 0 ∷ Spawn 2 0 ∷ []) ∷ [] ∷ [])

-- job 0 spawns a task, divides by 0 and would spawn another
abbrev failing : TaskList
failing = small ((Spawn 1 0 ∷ Div 1 0 0 ∷ Spawn 1 0 ∷ []) ∷ [] ∷ [])

-- job 0 alone
abbrev alone : TaskList
alone = small ((Const 1 0 ∷ []) ∷ [])

abbrev entries : List ℕ
entries = 5 ∷ 7 ∷ []

abbrev cases : List Case
cases =
    -- "its weight is the sum over its block of numbers"
    has_wards P entries (1 ∷ 2 ∷ []) (12 ∷ 15 ∷ []) ∷
    has_wards passing entries (2 ∷ 5 ∷ []) (37 ∷ 7 ∷ []) ∷
    -- "a job that job 0's spawn or fan made"
    has_wards three entries (1 ∷ 2 ∷ 3 ∷ []) (7 ∷ 7 ∷ 7 ∷ []) ∷
    has_wards failing entries (1 ∷ []) (7 ∷ []) ∷
    has_wards alone entries [] [] ∷
    -- with jobs left, those made so far
    has_wards_after P entries (start_of 0 ∷ step_of 0 ∷ start_of 1 ∷ []) (1 ∷ []) (5 ∷ []) ∷
    -- "shared in proportion, rounded down; remaining pence go one each to the largest remainders"
    pays P entries 0 (0 ∷ 0 ∷ []) ∷
    pays P entries 7 (3 ∷ 4 ∷ []) ∷
    pays P entries 1000 (444 ∷ 556 ∷ []) ∷
    pays P entries 4294967295 (1908874353 ∷ 2386092942 ∷ []) ∷
    pays passing entries 100 (84 ∷ 16 ∷ []) ∷
    -- "the lower number first among equals"
    pays three entries 1 (1 ∷ 0 ∷ 0 ∷ []) ∷
    pays three entries 100 (34 ∷ 33 ∷ 33 ∷ []) ∷
    pays three entries 101 (34 ∷ 34 ∷ 33 ∷ []) ∷
    -- "28 jobs left in the run; 29 no ward; then 17 for a short slice"
    refuses_after P entries [] 7 2 28 ∷
    refuses_after alone entries [] 7 0 28 ∷
    refuses_after P entries (start_of 0 ∷ step_of 0 ∷ []) 7 0 28 ∷
    refuses alone entries 7 0 29 ∷
    refuses P entries 7 1 17 ∷
    refuses P entries 7 2 0 ∷ []

pub cases_hold : every holds cases ≡ true
unfolding footprint_of instruction_of total adds count_body count_from counts task_count instruction_fields no_modes never fixed_weights weight_of root_modes root initial every only ahead compatible allowed access_fault numbered_from targets all_targets merged unless_denied grant child_modes with_first children fan_of unless_fault plan_load plan_store passed_over quotient_fault plan_quotient child_number plan_make plan_instruction units step_weight at_end needs_from plan_start plan_step plan_end plan admit settle among decide written splice stays places changes apply taken call after after_all run_each step_through steps_through enough run_whole sequential same asked_number whole floors remainders remaining comes_before count_below rank_of share_at listed shares is_made wards_from wards ward_weight ward_weights shares_asked shares_are holds
cases_hold = refl
