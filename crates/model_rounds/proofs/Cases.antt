-- Cases of request 111: one theorem over one list, by computation. Assumes nothing.
use Prim.Native.Nat.{ℕ}
use mathlib.Core.Path.{◌≡◌, refl}
use mathlib.Core.List.{List, [], ◌∷◌}
use mathlib.Core.Bool.{true}
use lib.ListN.{replicate}
use Rattle.tasklist.specs.declared.Instruction.{Instruction}
use Rattle.tasklist.specs.declared.Instruction.TheVariants.{Const, Load, Store, Spawn, Fan}
use Rattle.tasklist.specs.TaskList.{TaskList, footprint_of, instruction_of, total, adds, count_body, count_from, counts, task_count}
use Rattle.tasklist.specs.Fields.{tag, number, counted, many, row}
use Rattle.tasklist.specs.Decode.{head_numbers, head, line, footprint, form, spawn_ok, instruction_ok, instruction, body, list_behind, sized, finish, decode}
use Rattle.tasklist.specs.Decode
use Rattle.tasklist.proofs.Cases.{P_bytes, P}
use Rattle.semantics.specs.Run.{no_modes, fixed_weights, weight_places, is_weight, root_modes, root, initial}
use Rattle.semantics.specs.Access.{every, only, ahead, compatible, allowed, access_fault}
use Rattle.semantics.specs.Effect.{numbered_from}
use Rattle.semantics.specs.Footprint.{targets, all_targets, merged, unless_denied, grant, child_modes, with_first, children, fan_of}
use Rattle.semantics.specs.Plan.{unless_fault, plan_load, plan_store, child_number, plan_make, plan_instruction, at_end, needs_from, plan_start, plan_step, plan_end, plan}
use Rattle.semantics.specs.Call.{admit, settle, among, decide, written, splice, stays, places, changes, apply, taken, call, after, after_all}
use Rattle.semantics.specs.Turns.{next_action, next_call}
use Rattle.semantics.specs.Operations.{with_weights, with_list}
use Rattle.semantics.specs.Case.{same, asked_number}
use Rattle.model_rounds.specs.Rounds.{is_accepted, ready, ready_calls, round_calls, rounds_from, all_calls, most_rounds, publication, report, rounds_asked}
use Rattle.model_rounds.specs.Case.{Case, by_rounds, tasks_are, rounds_with, reports, same_tasks, holds}

-- two locations; a footprint: read 0
abbrev small : List (List Instruction) → TaskList
small bodies = record { locations = 2; footprints = (record { kind = 0; value = 0 } ∷ []) ∷ []; bodies = bodies }

-- job 0 spawns two readers of location 0, loads it and stores there
abbrev readers : TaskList
readers = small ((Spawn 1 0 ∷ Spawn 1 0 ∷ Load 1 0 ∷ Store 0 1 ∷ []) ∷ [] ∷ [])

-- job 0 fans out three empty tasks that read location 0
abbrev three_readers : TaskList
three_readers = small ((Fan 1 0 3 ∷ []) ∷ [] ∷ [])

-- sixteen tasks of six steps
abbrev sixteen_readers : TaskList
sixteen_readers = small ((Fan 1 0 16 ∷ []) ∷ replicate 6 (Const 1 0) ∷ [])

abbrev entries : List ℕ
entries = 5 ∷ 7 ∷ []

abbrev cases : List Case
cases =
    -- P's 13 calls one by one; two workers begin job 1 beside job 0, and more have nothing to do
    by_rounds P entries 1 13 13 11 ∷
    by_rounds P entries 2 11 13 11 ∷
    by_rounds P entries 16 11 13 11 ∷
    tasks_are P entries 2
    ((0 ∷ []) ∷ (0 ∷ []) ∷ (1 ∷ 0 ∷ []) ∷ (1 ∷ 0 ∷ []) ∷ (1 ∷ []) ∷ (1 ∷ []) ∷ (2 ∷ []) ∷ (2 ∷ []) ∷ (2 ∷ []) ∷ (2 ∷ []) ∷
    (2 ∷ []) ∷ []) ∷
    -- a task held back "at the round's start" makes no call in it, though the one ahead ends: job 0's store
    by_rounds readers entries 2 7 10 7 ∷
    by_rounds readers entries 3 7 10 7 ∷
    tasks_are readers entries 3
    ((0 ∷ []) ∷ (0 ∷ []) ∷ (1 ∷ 0 ∷ []) ∷ (1 ∷ 2 ∷ 0 ∷ []) ∷ (2 ∷ []) ∷ (0 ∷ []) ∷ (0 ∷ []) ∷ []) ∷
    -- "the first P jobs in the order": the first two end before the third starts
    tasks_are three_readers entries 2
    ((0 ∷ []) ∷ (0 ∷ []) ∷ (1 ∷ 2 ∷ []) ∷ (1 ∷ 2 ∷ []) ∷ (3 ∷ 0 ∷ []) ∷ (3 ∷ []) ∷ []) ∷
    by_rounds three_readers entries 1 9 9 4 ∷
    by_rounds three_readers entries 2 6 9 4 ∷
    by_rounds three_readers entries 3 5 9 4 ∷
    by_rounds three_readers entries 4 4 9 4 ∷
    -- job 0 is the seventeenth in the order
    by_rounds sixteen_readers entries 1 131 131 10 ∷
    by_rounds sixteen_readers entries 16 11 131 10 ∷
    -- "24 for P outside 1 to 16, before all else"
    rounds_with 0 P_bytes entries fixed_weights 24 ∷
    rounds_with 1 P_bytes entries fixed_weights 0 ∷
    rounds_with 16 P_bytes entries fixed_weights 0 ∷
    rounds_with 17 P_bytes entries fixed_weights 24 ∷
    rounds_with 128 P_bytes entries fixed_weights 24 ∷
    rounds_with 0 (0x4A ∷ []) (5 ∷ []) [] 24 ∷
    rounds_with 17 (0x4A ∷ []) (5 ∷ []) [] 24 ∷
    rounds_with 128 P_bytes (5 ∷ []) [] 24 ∷
    -- then what open refuses, in its order
    rounds_with 4 (0x4A ∷ []) (5 ∷ []) [] 1 ∷
    rounds_with 4 P_bytes (5 ∷ []) [] 8 ∷
    rounds_with 4 P_bytes entries [] 21 ∷
    rounds_with 4 P_bytes entries (replicate 15 0) 22 ∷ []

pub cases_hold : every holds cases ≡ true
unfolding footprint_of instruction_of total adds count_body count_from counts task_count tag number counted many row head_numbers head line footprint form spawn_ok instruction_ok instruction body list_behind sized finish decode Decode.register no_modes fixed_weights weight_places is_weight root_modes root initial every only ahead compatible allowed access_fault unless_fault plan_load plan_store targets all_targets merged unless_denied grant child_modes with_first children fan_of numbered_from child_number plan_make plan_instruction at_end needs_from plan_start plan_step plan_end plan admit settle among decide written splice stays places changes apply taken call after after_all next_action next_call with_weights with_list same asked_number is_accepted ready ready_calls round_calls rounds_from all_calls most_rounds publication report rounds_asked reports same_tasks holds
cases_hold = refl
