-- The cases of document 01 that are marked *, and a few more of its words: one theorem over one list, by computation. Assumes
-- nothing.
use Prim.Native.Nat.{ℕ}
use mathlib.Core.Path.{◌≡◌, refl}
use mathlib.Core.List.{List, [], ◌∷◌, ◌++◌, map}
use mathlib.Core.Bool.{true}
use lib.ListN.{length, replicate}
use Rattle.tasklist.specs.declared.Line.{Line}
use Rattle.tasklist.specs.declared.Instruction.{Instruction}
use Rattle.tasklist.specs.declared.Instruction.TheVariants.{Const, Sub, Load, Store, Skip, Spawn, Wait, Fan, Sum, Mul, Div}
use Rattle.tasklist.specs.TaskList.{TaskList, body_of, footprint_of, instruction_of, total, adds, count_body, count_from, counts, task_count}
use Rattle.tasklist.specs.Fields.{field, is_tag, tag, in_range, number, counted, many, row}
use Rattle.tasklist.specs.Decode.{head_numbers, head, line_limit, line_ok, is_line, line, footprint, forms, form, spawn_ok, instruction_ok, is_instruction, instruction, body, list_behind, sized, finish, empty_list, decode}
use Rattle.tasklist.specs.Decode
use Rattle.tasklist.specs.Encode.{instruction_fields, line_fields, joined, footprint_bytes, body_bytes, head_bytes, encode}
use Rattle.tasklist.proofs.Cases.{P_bytes, P}
use Rattle.semantics.specs.Run.{no_modes, never, fixed_weights, weight_places, is_weight, weight_of, root_modes, root, initial}
use Rattle.semantics.specs.Access.{every, any, only, ahead, queue, behind_writer, compatible, allowed, access_fault, reads, writes, sums}
use Rattle.semantics.specs.Effect.{numbered_from}
use Rattle.semantics.specs.Footprint.{targets, all_targets, merged, unless_denied, grant, child_modes, with_first, children, fan_of}
use Rattle.semantics.specs.Rounding.{rounded}
use Rattle.semantics.specs.Plan.{unless_fault, plan_load, plan_store, plan_wait, plan_sum, passed_over, quotient_fault, plan_quotient, child_number, plan_make, plan_instruction, units, step_weight, at_end, needs_from, plan_start, plan_step, plan_end, plan}
use Rattle.semantics.specs.Call.{Call, hold, admit, settle, among, decide, edited, written, splice, stays, places, changes, apply, taken, call, after, after_all}
use Rattle.semantics.specs.Search.{search_from, search, hold_number}
use Rattle.semantics.specs.Sequential.{start_of, step_of, end_of, run_each, step_through, steps_through, enough, run_whole, sequential, trace_each, trace_steps, trace_whole, trace}
use Rattle.semantics.specs.Isolation.{Lone, first_record, alone, hand_run, inside, kept}
use Rattle.semantics.specs.Turns.{Ply, turn, other, next_action, next_call, foremost_call, decide_move, move, after_move_by, after_move, after_ply, after_play, turns, others_call, others_accepted, is_end, ends_at, ends_with}
use Rattle.semantics.specs.Operations.{with_weights, with_list, open_asked, sequential_asked, queue_places}
use Rattle.semantics.specs.Answers.{outcome_number}
use Rattle.semantics.specs.Case.{Case, by_hand, by_hand_under, by_hand_alone, by_two_hands, by_calls, tasks_in, refused_with, opens_with, memory_is, order_is, queue_is, fault_is, registers_are, calls_are, weight_is, same, is_so, same_record, same_records, alike_from, isolates, answers, has_tasks, is_refused, all_so, asked_number, holds, search_is, by_play, play_has, ends_by_hand, state_is, ply_answer, play_answers}

-- two locations; footprints: read 0; read and write 0
abbrev small : List (List Instruction) → TaskList
small bodies =
    record {
      locations = 2;
      footprints =
          (record { kind = 0; value = 0 } ∷ []) ∷
          (record { kind = 0; value = 0 } ∷ record { kind = 1; value = 0 } ∷ []) ∷ [];
      bodies = bodies;
    }

-- "Two children of job 0 reading one entry"
abbrev readers : TaskList
readers = small ((Spawn 1 0 ∷ Spawn 1 0 ∷ Load 1 0 ∷ Store 0 1 ∷ []) ∷ [] ∷ [])

-- "Store to a read entry"
abbrev store_to_read : TaskList
store_to_read = small ((Spawn 1 0 ∷ []) ∷ (Const 1 9 ∷ Store 0 1 ∷ []) ∷ [])

-- "Load of entry 2 where C = 2"
abbrev load_beyond : TaskList
load_beyond = small ((Const 0 2 ∷ Load 1 0 ∷ []) ∷ [])

-- "An entry named twice"
abbrev named_twice : TaskList
named_twice = small ((Spawn 1 1 ∷ []) ∷ [] ∷ [])

-- job 0's two children read location 0; the second then stores there, loads location 1, or spawns
abbrev second_reader : List Instruction → TaskList
second_reader is = small ((Spawn 1 0 ∷ Spawn 2 0 ∷ []) ∷ [] ∷ is ∷ [] ∷ [])

-- job 0 spawns two tasks that spawn one each
abbrev nested : TaskList
nested = small ((Spawn 1 0 ∷ Spawn 1 0 ∷ []) ∷ (Spawn 2 0 ∷ []) ∷ [] ∷ [])

-- a footprint reads the location whose number is in register 0, which then holds 2^32 - 1
abbrev far_register : TaskList
far_register =
    record {
      locations = 2;
      footprints = (record { kind = 2; value = 0 } ∷ []) ∷ [];
      bodies = (Const 1 1 ∷ Sub 0 0 1 ∷ Spawn 1 0 ∷ []) ∷ [] ∷ [];
    }

-- job 0's children read location 0 and write location 1; then it stores at location 0, or spawns a writer of both
abbrev behind_both : Instruction → TaskList
behind_both i =
    record {
      locations = 2;
      footprints =
          (record { kind = 0; value = 0 } ∷ []) ∷
          (record { kind = 1; value = 1 } ∷ []) ∷
          (record { kind = 1; value = 0 } ∷ record { kind = 1; value = 1 } ∷ []) ∷ [];
      bodies = (Spawn 1 0 ∷ Spawn 1 1 ∷ i ∷ []) ∷ [] ∷ [];
    }

-- request 104: a fan whose children store 7 at the location of their number
abbrev fanned : ℕ → ℕ → TaskList
fanned locations k =
    record {
      locations = locations;
      footprints = (record { kind = 3; value = 0 } ∷ []) ∷ [];
      bodies = (Fan 1 0 k ∷ []) ∷ (Const 1 7 ∷ Store 0 1 ∷ []) ∷ [];
    }

-- a line of a footprint
abbrev named : ℕ → ℕ → Line
named kind value = record { kind = kind; value = value }

-- job 0 spawns a task with these lines
abbrev sharing : List Line → TaskList
sharing ls = record { locations = 2; footprints = ls ∷ []; bodies = (Spawn 1 0 ∷ []) ∷ [] ∷ [] }

-- a task whose one line is of this kind, at location 0, runs these instructions; footprint 1 has these lines
abbrev under_line : ℕ → List Instruction → List Line → TaskList
under_line kind is ls =
    record {
      locations = 2;
      footprints = (named kind 0 ∷ []) ∷ ls ∷ [];
      bodies = (Spawn 1 0 ∷ []) ∷ is ∷ [] ∷ [];
    }

-- a task that only reads location 0 spawns or fans out with these lines
abbrev reader_makes : Instruction → List Line → TaskList
reader_makes i ls = under_line 0 (i ∷ []) ls

-- request 107: a task that only sums location 0 spawns with these lines
abbrev summer_makes : List Line → TaskList
summer_makes ls = under_line 4 (Spawn 2 1 ∷ []) ls

-- job 0's two children sum location 0, adding 3 and 5; then come these instructions
abbrev totals : List Instruction → TaskList
totals is =
    record {
      locations = 2;
      footprints = (named 4 0 ∷ []) ∷ (named 1 0 ∷ []) ∷ (named 0 0 ∷ []) ∷ [];
      bodies = (Const 1 3 ∷ Spawn 1 0 ∷ Const 1 5 ∷ Spawn 1 0 ∷ is) ∷ (Wait 0 ∷ Sum 0 1 ∷ []) ∷ [];
    }

-- job 0's first child has this footprint there, the second sums
abbrev sum_behind : ℕ → TaskList
sum_behind f = record { locations = 2; footprints = (totals []).footprints; bodies = (Spawn 1 f ∷ Spawn 1 0 ∷ []) ∷ [] ∷ [] }

-- the bytes of a list with this line and this instruction of code 10
abbrev sum_bytes : ℕ → ℕ → ℕ → ℕ → ℕ → List ℕ
sum_bytes kind value a b c =
    0x4A ∷ 0x48 ∷ 2 ∷ 1 ∷ 1 ∷ 0x4A ∷ 0x46 ∷ 1 ∷ kind ∷ value ∷ 0x4A ∷ 0x42 ∷ 1 ∷ 10 ∷ a ∷ b ∷ c ∷ []

-- request 108: of the numbers at locations 0 and 1 the product or quotient, stored at location 1
abbrev of_both : Instruction → TaskList
of_both i = small ((Load 1 0 ∷ Const 0 1 ∷ Load 2 0 ∷ i ∷ Store 0 3 ∷ []) ∷ [])

-- this is what the step leaves there
abbrev gives_number : Instruction → ℕ → ℕ → ℕ → Case
gives_number i x y v = by_hand (of_both i) (x ∷ y ∷ []) (memory_is (x ∷ v ∷ []) ∷ fault_is 0 0 ∷ calls_are 7 ∷ weight_is 19 ∷ [])

-- the step faults with this number: no register or location changes, and the task is at its end
abbrev gives_fault : Instruction → ℕ → ℕ → ℕ → Case
gives_fault i x y k =
    by_hand (of_both i) (x ∷ y ∷ [])
    (memory_is (x ∷ y ∷ []) ∷ fault_is 0 k ∷ registers_are 0 (1 ∷ x ∷ y ∷ 0 ∷ []) ∷ calls_are 6 ∷ weight_is 15 ∷ [])

-- the bytes of a list with this instruction
abbrev step_bytes : ℕ → ℕ → ℕ → ℕ → List ℕ
step_bytes code a b c = 0x4A ∷ 0x48 ∷ 2 ∷ 0 ∷ 1 ∷ 0x4A ∷ 0x42 ∷ 1 ∷ code ∷ a ∷ b ∷ c ∷ []

-- request 109: a task that reads location 0, writes 1 and sums 2; it and its child add what it loads there; then it loads location 3
abbrev ward : TaskList
ward =
    record {
      locations = 4;
      footprints = (named 0 0 ∷ named 4 2 ∷ []) ∷ [];
      bodies =
          [] ∷ (Load 1 0 ∷ Store 2 1 ∷ Sum 3 1 ∷ Spawn 2 0 ∷ Const 0 3 ∷ Load 1 0 ∷ []) ∷ (Load 2 0 ∷ Sum 3 2 ∷ []) ∷ [];
    }

-- it is begun under this number
abbrev ward_task : ℕ → Lone
ward_task n = record { number = n; body = 1; registers = 0 ∷ 9 ∷ 1 ∷ 2 ∷ []; modes = 1 ∷ 2 ∷ 3 ∷ [] }

-- a spawn behind a fan of two tasks, all of a body that fans out one task; no locations are asked for
abbrev behind_fan : Instruction → TaskList
behind_fan i =
    record {
      locations = 1;
      footprints = [] ∷ [];
      bodies = (i ∷ Fan 1 0 2 ∷ Spawn 1 0 ∷ []) ∷ (Fan 2 0 1 ∷ []) ∷ [] ∷ [];
    }

-- the bytes of a list whose body 0 is one fan
abbrev fan_bytes : ℕ → ℕ → ℕ → List ℕ
fan_bytes s f k =
    0x4A ∷ 0x48 ∷ 1 ∷ 1 ∷ 2 ∷ 0x4A ∷ 0x46 ∷ 0 ∷ 0x4A ∷ 0x42 ∷ 1 ∷ 9 ∷ s ∷ f ∷ k ∷ 0x4A ∷ 0x42 ∷ 0 ∷ []

-- the bytes of a body that spawns these bodies
abbrev spawns : List ℕ → List ℕ
spawns [] = []
spawns (s ∷ ss) = 7 ∷ s ∷ 0 ∷ 0 ∷ spawns ss

abbrev spawner : List ℕ → List ℕ
spawner ss = 0x4A ∷ 0x42 ∷ length ss ∷ spawns ss

-- "Seven sheets, each but the last spawning the next twice", sheet 0 also spawning these
abbrev tower : List ℕ → List ℕ
tower more =
    (0x4A ∷ 0x48 ∷ 1 ∷ 1 ∷ 7 ∷ 0x4A ∷ 0x46 ∷ 0 ∷ []) ++ spawner (1 ∷ 1 ∷ more) ++ spawner (2 ∷ 2 ∷ []) ++
    spawner (3 ∷ 3 ∷ []) ++ spawner (4 ∷ 4 ∷ []) ++ spawner (5 ∷ 5 ∷ []) ++ spawner (6 ∷ 6 ∷ []) ++ spawner []

-- a table of weights
abbrev primes : List ℕ
primes = 3 ∷ 5 ∷ 7 ∷ 11 ∷ 13 ∷ 17 ∷ 19 ∷ 23 ∷ 29 ∷ 31 ∷ 37 ∷ 41 ∷ 43 ∷ 47 ∷ 53 ∷ []

-- plays with P: the other side's calls are all refused; or it makes both children and ends job 0
abbrev refused_between : List Ply
refused_between =
    other (start_of 1) ∷ other (end_of 0) ∷ turn ∷ turn ∷ other (start_of 200) ∷ turn ∷ turn ∷ turn ∷ other (start_of 0) ∷ []

abbrev pushed_ahead : List Ply
pushed_ahead = map other (start_of 0 ∷ step_of 0 ∷ step_of 0 ∷ start_of 2 ∷ end_of 0 ∷ []) ++ replicate 4 turn

-- start 0, step 0, step 0
abbrev opening : List Call
opening = start_of 0 ∷ step_of 0 ∷ step_of 0 ∷ []

-- then the start and one or two steps of the second child
abbrev second_steps : List Call
second_steps = opening ++ (start_of 2 ∷ step_of 2 ∷ step_of 2 ∷ [])

-- a start and two steps
abbrev runs : ℕ → List Call
runs n = start_of n ∷ step_of n ∷ step_of n ∷ []

-- job 0's start and its first four steps
abbrev both_made : List Call
both_made = opening ++ (step_of 0 ∷ step_of 0 ∷ [])

-- job 0, of mode write, meets one more instruction behind its two summing children: the answer
abbrev behind_sums : Instruction → ℕ → Case
behind_sums i answer =
    by_calls (totals (i ∷ [])) (5 ∷ 7 ∷ []) (both_made ++ (step_of 0 ∷ [])) (replicate 5 0 ++ (answer ∷ []))
    (memory_is (5 ∷ 7 ∷ []) ∷ order_is (1 ∷ 2 ∷ 0 ∷ []) ∷ [])

-- job 0 spawns a task with these lines, which has this place in the queue of location 0
abbrev shared : List Line → ℕ → Case
shared ls place =
    by_calls (sharing ls) (5 ∷ 7 ∷ []) (start_of 0 ∷ step_of 0 ∷ []) (0 ∷ 0 ∷ [])
    (fault_is 0 0 ∷ order_is (1 ∷ 0 ∷ []) ∷ queue_is 0 (place ∷ 512 ∷ []) ∷ [])

abbrev pub cases : List Case
cases =
    -- P: "Hand run: 9, 9; 13 calls; weight 50."
    by_hand P (5 ∷ 7 ∷ []) (memory_is (9 ∷ 9 ∷ []) ∷ order_is [] ∷ calls_are 13 ∷ weight_is 50 ∷ []) ∷
    -- "After start 0, step 0, step 0: order 1, 2, 0; queue of entry 0 is 513, 258, 512; of entry 1 it is 514, 512."
    by_calls P (5 ∷ 7 ∷ []) opening (0 ∷ 0 ∷ 0 ∷ [])
    (order_is (1 ∷ 2 ∷ 0 ∷ []) ∷ queue_is 0 (513 ∷ 258 ∷ 512 ∷ []) ∷ queue_is 1 (514 ∷ 512 ∷ []) ∷ []) ∷
    -- request 103: there job 1 writes entry 0, job 2 reads it and writes entry 1; each search stops "at the first job of mode
    -- write .. or at the job itself"
    by_calls P (5 ∷ 7 ∷ []) opening (0 ∷ 0 ∷ 0 ∷ [])
    (search_is 1 (writes 0 ∷ []) 0 1 ∷ search_is 2 (reads 0 ∷ writes 1 ∷ []) 19 1 ∷ search_is 2 (writes 1 ∷ []) 0 2 ∷
    search_is 0 (writes 0 ∷ []) 19 1 ∷ search_is 0 (writes 1 ∷ []) 19 2 ∷ search_is 0 [] 0 3 ∷ []) ∷
    -- "Then start 2 gives 12, start 1 is accepted, end 0 is accepted." With request 102: "start 2 now gives 19"
    by_calls P (5 ∷ 7 ∷ []) (opening ++ (start_of 2 ∷ start_of 1 ∷ end_of 0 ∷ [])) (0 ∷ 0 ∷ 0 ∷ 19 ∷ 0 ∷ 0 ∷ [])
    (order_is (1 ∷ 2 ∷ []) ∷ calls_are 5 ∷ weight_is 28 ∷ []) ∷
    -- "Two children of job 0 reading one entry: both start; job 0 may load it; its store gives 12." With request 102: "the store
    -- behind two readers 20"
    by_calls readers (5 ∷ 7 ∷ []) (opening ++ (start_of 2 ∷ start_of 1 ∷ step_of 0 ∷ step_of 0 ∷ []))
    (0 ∷ 0 ∷ 0 ∷ 0 ∷ 0 ∷ 0 ∷ 20 ∷ [])
    (memory_is (5 ∷ 7 ∷ []) ∷ search_is 2 (reads 0 ∷ []) 0 2 ∷ search_is 0 (reads 0 ∷ []) 0 3 ∷ search_is 0 (writes 0 ∷ []) 20 3 ∷ []) ∷
    -- "Store to a read entry: fault 2, entry unchanged."
    by_hand store_to_read (5 ∷ 7 ∷ []) (fault_is 1 2 ∷ memory_is (5 ∷ 7 ∷ []) ∷ []) ∷
    -- "Load of entry 2 where C = 2: fault 1."
    by_hand load_beyond (5 ∷ 7 ∷ []) (fault_is 0 1 ∷ []) ∷
    -- "An entry named twice: fault 3, no child." With request 106: "its example becomes an accepted spawn"; read and write give
    -- write
    by_calls named_twice (5 ∷ 7 ∷ []) (start_of 0 ∷ step_of 0 ∷ start_of 1 ∷ []) (0 ∷ 0 ∷ 0 ∷ [])
    (fault_is 0 0 ∷ order_is (1 ∷ 0 ∷ []) ∷ queue_is 0 (513 ∷ 512 ∷ []) ∷ calls_are 3 ∷ weight_is 18 ∷ []) ∷
    -- "Empty sheet 0: start, end; 2 calls, weight 7."
    by_calls (small ([] ∷ [])) (5 ∷ 7 ∷ []) (start_of 0 ∷ end_of 0 ∷ []) (0 ∷ 0 ∷ [])
    (order_is [] ∷ calls_are 2 ∷ weight_is 7 ∷ []) ∷
    by_hand (small ([] ∷ [])) (5 ∷ 7 ∷ []) (calls_are 2 ∷ weight_is 7 ∷ []) ∷
    -- "Seven sheets, each but the last spawning the next twice: 127 jobs. Sheet 0 also spawning the last once: 128, accepted;
    -- twice: 129, refused 7."
    tasks_in (tower []) 127 ∷
    tasks_in (tower (6 ∷ [])) 128 ∷
    refused_with (tower (6 ∷ 6 ∷ [])) 7 ∷
    -- request 101: "A file of no bytes shall now mean C = 1, no footprints, and one empty sheet."
    tasks_in [] 1 ∷
    by_calls empty_list (5 ∷ []) (start_of 0 ∷ end_of 0 ∷ []) (0 ∷ 0 ∷ []) (order_is [] ∷ calls_are 2 ∷ weight_is 7 ∷ []) ∷
    by_hand empty_list (5 ∷ []) (memory_is (5 ∷ []) ∷ order_is [] ∷ calls_are 2 ∷ weight_is 7 ∷ []) ∷
    -- request 102: "For a start, all entries of the footprint count; for a step, the one entry concerned."
    by_calls (behind_both (Spawn 1 2)) (5 ∷ 7 ∷ []) (opening ++ (step_of 0 ∷ start_of 3 ∷ [])) (0 ∷ 0 ∷ 0 ∷ 0 ∷ 19 ∷ [])
    (order_is (1 ∷ 2 ∷ 3 ∷ 0 ∷ []) ∷ calls_are 4 ∷ search_is 3 (writes 0 ∷ writes 1 ∷ []) 19 2 ∷ []) ∷
    by_calls (behind_both (Store 0 1)) (5 ∷ 7 ∷ []) (opening ++ (step_of 0 ∷ [])) (0 ∷ 0 ∷ 0 ∷ 20 ∷ [])
    (memory_is (5 ∷ 7 ∷ []) ∷ calls_are 3 ∷ search_is 0 (writes 0 ∷ []) 20 3 ∷ []) ∷
    -- request 104: "Child i has R0 = i, and its footprint is found with that R0. Child 0 is foremost; all stand directly ahead of
    -- the spawner"; "The weight is 8 × c."
    by_calls (fanned 4 3) (1 ∷ 2 ∷ 3 ∷ 4 ∷ []) (start_of 0 ∷ step_of 0 ∷ []) (0 ∷ 0 ∷ [])
    (order_is (1 ∷ 2 ∷ 3 ∷ 0 ∷ []) ∷ registers_are 1 (0 ∷ 0 ∷ 0 ∷ 0 ∷ []) ∷ registers_are 2 (1 ∷ 0 ∷ 0 ∷ 0 ∷ []) ∷
    registers_are 3 (2 ∷ 0 ∷ 0 ∷ 0 ∷ []) ∷ queue_is 0 (513 ∷ 512 ∷ []) ∷ queue_is 2 (515 ∷ 512 ∷ []) ∷ queue_is 3 (512 ∷ []) ∷
    calls_are 2 ∷ weight_is 29 ∷ []) ∷
    -- "the hand run completes them from child 0 on"
    by_hand (fanned 4 3) (1 ∷ 2 ∷ 3 ∷ 4 ∷ [])
    (memory_is (7 ∷ 7 ∷ 7 ∷ 4 ∷ []) ∷ order_is [] ∷ calls_are 15 ∷ weight_is 67 ∷ []) ∷
    -- "If any child would fault, in order of children and lines, none is made.": child 2 asks for location 2 where C = 2
    by_calls (fanned 2 3) (1 ∷ 2 ∷ []) (start_of 0 ∷ step_of 0 ∷ start_of 1 ∷ []) (0 ∷ 0 ∷ 10 ∷ [])
    (order_is (0 ∷ []) ∷ fault_is 0 1 ∷ calls_are 2 ∷ weight_is 29 ∷ []) ∷
    -- child 0 would write where the spawner reads, child 1 asks for a location that it hasn't
    by_hand (reader_makes (Fan 2 1 2) (named 3 0 ∷ [])) (5 ∷ 7 ∷ []) (fault_is 1 2 ∷ calls_are 6 ∷ weight_is 38 ∷ []) ∷
    -- "child i starts at i × count(a) within that block. Later spawns and fans of the sheet number on after the block.": jobs
    -- 1, 3 and 5. A fan "never waits": job 3's stands behind job 1. The spawner's own register 0 stays.
    by_calls (behind_fan (Const 0 9)) (1 ∷ []) (opening ++ (step_of 0 ∷ start_of 3 ∷ step_of 3 ∷ [])) (0 ∷ 0 ∷ 0 ∷ 0 ∷ 0 ∷ 0 ∷ [])
    (order_is (1 ∷ 4 ∷ 3 ∷ 5 ∷ 0 ∷ []) ∷ registers_are 3 (1 ∷ 0 ∷ 0 ∷ 0 ∷ []) ∷ registers_are 5 (9 ∷ 0 ∷ 0 ∷ 0 ∷ []) ∷ []) ∷
    -- the other registers are copied
    by_calls (behind_fan (Const 1 9)) (1 ∷ []) opening (0 ∷ 0 ∷ 0 ∷ [])
    (order_is (1 ∷ 3 ∷ 0 ∷ []) ∷ registers_are 3 (1 ∷ 9 ∷ 0 ∷ 0 ∷ []) ∷ []) ∷
    -- a fan that is passed over keeps its numbers
    by_calls (behind_fan (Skip 0 1)) (1 ∷ []) opening (0 ∷ 0 ∷ 0 ∷ []) (order_is (5 ∷ 0 ∷ []) ∷ []) ∷
    -- "c children (1 to 16)"; "A bad c gives 5.", and so does a sheet that isn't higher or a footprint that the list has not
    tasks_in (fan_bytes 1 0 16) 17 ∷
    refused_with (fan_bytes 1 0 0) 5 ∷
    refused_with (fan_bytes 1 0 17) 5 ∷
    refused_with (fan_bytes 0 0 1) 5 ∷
    refused_with (fan_bytes 1 1 1) 5 ∷
    -- request 105: "start, end, then codes 0 to 9, code 9's per child"; P has 3 starts and ends, 2 consts, stores and spawns, 1 load
    by_hand_under P_bytes (5 ∷ 7 ∷ []) primes (memory_is (9 ∷ 9 ∷ []) ∷ order_is [] ∷ calls_are 13 ∷ weight_is 165 ∷ []) ∷
    by_hand_under (encode (fanned 4 3)) (1 ∷ 2 ∷ 3 ∷ 4 ∷ []) primes
    (memory_is (7 ∷ 7 ∷ 7 ∷ 4 ∷ []) ∷ order_is [] ∷ calls_are 15 ∷ weight_is 245 ∷ []) ∷
    -- "21 wrong length, 22 a number not in 1 to 1000", in this order and "After 8"; "Later codes lengthen it by one each."
    opens_with [] (5 ∷ []) fixed_weights 0 ∷
    opens_with [] (5 ∷ []) (replicate 12 1) 21 ∷
    opens_with [] (5 ∷ []) (replicate 14 1) 21 ∷
    opens_with [] (5 ∷ []) (replicate 15 1) 0 ∷
    opens_with [] (5 ∷ []) (replicate 16 1) 21 ∷
    opens_with [] (5 ∷ []) (replicate 15 1000) 0 ∷
    opens_with [] (5 ∷ []) (replicate 14 1 ++ (0 ∷ [])) 22 ∷
    opens_with [] (5 ∷ []) (1001 ∷ replicate 14 1) 22 ∷
    opens_with [] (5 ∷ []) (replicate 16 0) 21 ∷
    opens_with [] [] (replicate 16 0) 8 ∷
    opens_with (tower (6 ∷ 6 ∷ [])) [] (replicate 16 0) 7 ∷
    -- request 106: "An entry named twice now counts once: with the common mode, or with write where the modes differ.",
    -- whichever line is first, also by a register (R1 is 0) and in three lines
    shared (named 0 0 ∷ named 0 0 ∷ []) 257 ∷
    shared (named 1 0 ∷ named 3 1 ∷ []) 513 ∷
    shared (named 0 0 ∷ named 3 1 ∷ []) 513 ∷
    shared (named 1 0 ∷ named 2 1 ∷ []) 513 ∷
    shared (named 0 0 ∷ named 1 0 ∷ named 0 0 ∷ []) 513 ∷
    shared (named 0 0 ∷ named 1 1 ∷ named 2 1 ∷ []) 257 ∷
    -- "Lines are still tested for faults 1 and 2 in turn.": the spawner only reads location 0
    by_hand (reader_makes (Spawn 2 1) (named 0 0 ∷ named 2 1 ∷ [])) (5 ∷ 7 ∷ []) (fault_is 1 0 ∷ calls_are 8 ∷ []) ∷
    by_hand (reader_makes (Spawn 2 1) (named 0 0 ∷ named 3 1 ∷ [])) (5 ∷ 7 ∷ []) (fault_is 1 2 ∷ calls_are 6 ∷ []) ∷
    by_hand (reader_makes (Spawn 2 1) (named 1 0 ∷ named 0 1 ∷ [])) (5 ∷ 7 ∷ []) (fault_is 1 2 ∷ calls_are 6 ∷ []) ∷
    by_hand (reader_makes (Spawn 2 1) (named 0 1 ∷ named 1 0 ∷ [])) (5 ∷ 7 ∷ []) (fault_is 1 1 ∷ calls_are 6 ∷ []) ∷
    -- request 107: "A job of mode 3 may sum, and may start as far as that entry goes, when all ahead have mode 3"; "A wait on a
    -- sum entry passes when all ahead have mode 3."; "entry + Rb modulo 2^32". The second child before the first
    by_calls (totals []) (4294967290 ∷ 7 ∷ []) (both_made ++ runs 2) (replicate 8 0)
    (memory_is (4294967295 ∷ 7 ∷ []) ∷ queue_is 0 (769 ∷ 770 ∷ 512 ∷ []) ∷ search_is 2 (sums 0 ∷ []) 0 2 ∷ []) ∷
    by_calls (totals []) (4294967290 ∷ 7 ∷ []) (both_made ++ runs 2 ++ runs 1) (replicate 11 0) (memory_is (2 ∷ 7 ∷ []) ∷ []) ∷
    by_calls (totals []) (4294967290 ∷ 7 ∷ []) (both_made ++ runs 1 ++ runs 2) (replicate 11 0) (memory_is (2 ∷ 7 ∷ []) ∷ []) ∷
    -- "All orders of adding still end as the hand run does"; "the coordinator's weight for it being 4"
    by_hand (totals []) (4294967290 ∷ 7 ∷ []) (memory_is (2 ∷ 7 ∷ []) ∷ order_is [] ∷ calls_are 14 ∷ weight_is 49 ∷ []) ∷
    by_hand_under (encode (totals [])) (4294967290 ∷ 7 ∷ []) primes (memory_is (2 ∷ 7 ∷ []) ∷ calls_are 14 ∷ weight_is 260 ∷ []) ∷
    -- "a writer sums only when none is ahead"
    by_hand (small ((Const 1 9 ∷ Sum 0 1 ∷ []) ∷ [])) (5 ∷ 7 ∷ []) (memory_is (14 ∷ 7 ∷ []) ∷ calls_are 4 ∷ weight_is 12 ∷ []) ∷
    behind_sums (Sum 0 1) 20 ∷
    behind_sums (Load 2 0) 20 ∷
    behind_sums (Store 0 1) 20 ∷
    behind_sums (Wait 0) 20 ∷
    -- sums ahead hold a writer's and a reader's start: 20, and the search passes them
    by_calls (totals (Spawn 1 1 ∷ [])) (5 ∷ 7 ∷ []) (both_made ++ (step_of 0 ∷ start_of 3 ∷ [])) (replicate 6 0 ++ (20 ∷ []))
    (search_is 3 (writes 0 ∷ []) 20 3 ∷ []) ∷
    by_calls (totals (Spawn 1 2 ∷ [])) (5 ∷ 7 ∷ []) (both_made ++ (step_of 0 ∷ start_of 3 ∷ [])) (replicate 6 0 ++ (20 ∷ []))
    (search_is 3 (reads 0 ∷ []) 20 3 ∷ []) ∷
    -- a reader or a writer ahead holds a sum's
    by_calls (sum_behind 2) (5 ∷ 7 ∷ []) (opening ++ (start_of 2 ∷ [])) (0 ∷ 0 ∷ 0 ∷ 20 ∷ []) (queue_is 0 (257 ∷ 770 ∷ 512 ∷ []) ∷ []) ∷
    by_calls (sum_behind 1) (5 ∷ 7 ∷ []) (opening ++ (start_of 2 ∷ [])) (0 ∷ 0 ∷ 0 ∷ 19 ∷ []) (queue_is 0 (513 ∷ 770 ∷ 512 ∷ []) ∷ []) ∷
    -- "On a read entry it faults 2; load and store fault 2 on a sum entry."; 1 where the footprint hasn't the entry
    by_hand (under_line 0 (Sum 0 1 ∷ []) []) (5 ∷ 7 ∷ []) (fault_is 1 2 ∷ memory_is (5 ∷ 7 ∷ []) ∷ weight_is 26 ∷ []) ∷
    by_hand (under_line 4 (Load 1 0 ∷ []) []) (5 ∷ 7 ∷ []) (fault_is 1 2 ∷ []) ∷
    by_hand (under_line 4 (Store 0 1 ∷ []) []) (5 ∷ 7 ∷ []) (fault_is 1 2 ∷ memory_is (5 ∷ 7 ∷ []) ∷ []) ∷
    by_hand (under_line 4 (Const 0 1 ∷ Sum 0 0 ∷ []) []) (5 ∷ 7 ∷ []) (fault_is 1 1 ∷ memory_is (5 ∷ 7 ∷ []) ∷ []) ∷
    by_hand (under_line 4 (Const 1 9 ∷ Sum 0 1 ∷ []) []) (5 ∷ 7 ∷ []) (fault_is 1 0 ∷ memory_is (14 ∷ 7 ∷ []) ∷ []) ∷
    -- "A sum line faults 2 unless the spawner's mode is sum or write; a read or write line faults 2 where it is sum.", each line for
    -- itself, and 1 before 2; also by a register (R1 is 0)
    by_hand (reader_makes (Spawn 2 1) (named 4 0 ∷ [])) (5 ∷ 7 ∷ []) (fault_is 1 2 ∷ calls_are 6 ∷ []) ∷
    by_hand (reader_makes (Spawn 2 1) (named 5 1 ∷ [])) (5 ∷ 7 ∷ []) (fault_is 1 2 ∷ calls_are 6 ∷ []) ∷
    by_hand (summer_makes (named 4 0 ∷ named 5 1 ∷ [])) (5 ∷ 7 ∷ []) (fault_is 1 0 ∷ calls_are 8 ∷ []) ∷
    by_hand (summer_makes (named 4 0 ∷ named 0 0 ∷ [])) (5 ∷ 7 ∷ []) (fault_is 1 2 ∷ calls_are 6 ∷ []) ∷
    by_hand (summer_makes (named 4 0 ∷ named 3 1 ∷ [])) (5 ∷ 7 ∷ []) (fault_is 1 2 ∷ calls_are 6 ∷ []) ∷
    by_hand (summer_makes (named 4 1 ∷ named 0 0 ∷ [])) (5 ∷ 7 ∷ []) (fault_is 1 1 ∷ calls_are 6 ∷ []) ∷
    -- read or write and sum differ: write
    shared (named 4 0 ∷ []) 769 ∷
    shared (named 5 1 ∷ named 4 0 ∷ []) 769 ∷
    shared (named 0 0 ∷ named 4 0 ∷ []) 513 ∷
    shared (named 5 1 ∷ named 2 1 ∷ []) 513 ∷
    shared (named 4 0 ∷ named 1 0 ∷ named 4 0 ∷ []) 513 ∷
    -- "line kind 4 sums a fixed entry, 5 one named by a register"; code 10 has two registers
    tasks_in (sum_bytes 4 1 3 3 0) 1 ∷
    tasks_in (sum_bytes 5 3 0 0 0) 1 ∷
    refused_with (sum_bytes 4 2 0 0 0) 4 ∷
    refused_with (sum_bytes 5 4 0 0 0) 4 ∷
    refused_with (sum_bytes 6 0 0 0 0) 4 ∷
    refused_with (sum_bytes 4 0 4 0 0) 5 ∷
    refused_with (sum_bytes 4 0 0 4 0) 5 ∷
    refused_with (sum_bytes 4 0 0 0 1) 5 ∷
    -- request 108: "Code 11: Ra := Rb × Rc / 1000. .. round to the nearest whole number, halves upward, on the exact value": 0.499,
    -- 0.5, 1.5, 2.5, 2.501
    gives_number (Mul 3 1 2) 499 1 0 ∷
    gives_number (Mul 3 1 2) 500 1 1 ∷
    gives_number (Mul 3 1 2) 500 3 2 ∷
    gives_number (Mul 3 1 2) 500 5 3 ∷
    gives_number (Mul 3 1 2) 61 41 3 ∷
    -- products above 32 bits; "Fault 4 is a result above 2^32 − 1": 4294967295.499 passes, 4294967295.5 does not
    gives_number (Mul 3 1 2) 65536 65536 4294967 ∷
    gives_number (Mul 3 1 2) 4294967295 1000 4294967295 ∷
    gives_number (Mul 3 1 2) 61109 70283711 4294967295 ∷
    gives_fault (Mul 3 1 2) 3500 1227133513 4 ∷
    gives_fault (Mul 3 1 2) 4294967295 1001 4 ∷
    gives_fault (Mul 3 1 2) 4294967295 4294967295 4 ∷
    -- "fault 5, .. in code 12 only"
    gives_number (Mul 3 1 2) 7 0 0 ∷
    -- "Code 12: Ra := 1000 × Rb / Rc.": 333.3, 666.6, 0.5, 0.4998, 1.5, 2.5
    gives_number (Div 3 1 2) 1 3 333 ∷
    gives_number (Div 3 1 2) 2 3 667 ∷
    gives_number (Div 3 1 2) 1 2000 1 ∷
    gives_number (Div 3 1 2) 1 2001 0 ∷
    gives_number (Div 3 1 2) 3 2000 2 ∷
    gives_number (Div 3 1 2) 5 2000 3 ∷
    gives_number (Div 3 1 2) 0 4294967295 0 ∷
    -- 4294967295.499, 4294967295.501
    gives_number (Div 3 1 2) 4294967295 1000 4294967295 ∷
    gives_number (Div 3 1 2) 2194728288 511 4294967295 ∷
    gives_fault (Div 3 1 2) 4200478015 978 4 ∷
    gives_fault (Div 3 1 2) 4294967295 1 4 ∷
    -- "fault 5, tested first .., is a zero Rc": also of a zero, and where any quotient would be too large
    gives_fault (Div 3 1 2) 0 0 5 ∷
    gives_fault (Div 3 1 2) 4294967295 0 5 ∷
    -- their numbers in the table; a result in the register that is read
    by_hand_under (encode (of_both (Mul 2 1 2))) (3 ∷ 500 ∷ []) primes (registers_are 0 (1 ∷ 3 ∷ 2 ∷ 0 ∷ []) ∷ calls_are 7 ∷ weight_is 123 ∷ []) ∷
    by_hand_under (encode (of_both (Div 1 1 2))) (3 ∷ 2000 ∷ []) primes (registers_are 0 (1 ∷ 2 ∷ 2000 ∷ 0 ∷ []) ∷ calls_are 7 ∷ weight_is 129 ∷ []) ∷
    -- three registers each; no code 13
    tasks_in (step_bytes 11 3 3 3) 1 ∷
    tasks_in (step_bytes 12 3 3 3) 1 ∷
    refused_with (step_bytes 11 4 0 0) 5 ∷
    refused_with (step_bytes 11 0 4 0) 5 ∷
    refused_with (step_bytes 11 0 0 4) 5 ∷
    refused_with (step_bytes 12 4 0 0) 5 ∷
    refused_with (step_bytes 12 0 4 0) 5 ∷
    refused_with (step_bytes 12 0 0 4) 5 ∷
    refused_with (step_bytes 13 0 0 0) 5 ∷
    -- request 109: the hand run of one sheet by itself. The load of a location that the footprint hasn't faults 1.
    by_hand_alone ward (ward_task 5) (4 ∷ 10 ∷ 20 ∷ 30 ∷ [])
    (memory_is (4 ∷ 4 ∷ 28 ∷ 30 ∷ []) ∷ order_is [] ∷ fault_is 5 1 ∷ registers_are 5 (3 ∷ 4 ∷ 1 ∷ 2 ∷ []) ∷
    registers_are 6 (0 ∷ 4 ∷ 4 ∷ 2 ∷ []) ∷ registers_are 0 (0 ∷ 0 ∷ 0 ∷ 0 ∷ []) ∷ calls_are 12 ∷ weight_is 44 ∷ []) ∷
    -- "its block ending at 127 or below"
    by_hand_alone ward (ward_task 126) (4 ∷ 10 ∷ 20 ∷ 30 ∷ [])
    (memory_is (4 ∷ 4 ∷ 28 ∷ 30 ∷ []) ∷ order_is [] ∷ registers_are 127 (0 ∷ 4 ∷ 4 ∷ 2 ∷ []) ∷ calls_are 12 ∷ weight_is 44 ∷ []) ∷
    -- "over entries alike inside that footprint": location 3 is outside it
    by_two_hands ward (ward_task 5) (4 ∷ 10 ∷ 20 ∷ 30 ∷ []) (4 ∷ 10 ∷ 20 ∷ 99 ∷ []) ∷
    by_two_hands ward (ward_task 126) (4 ∷ 10 ∷ 4294967295 ∷ 0 ∷ []) (4 ∷ 10 ∷ 4294967295 ∷ 1 ∷ []) ∷
    -- request 112: P's hand run ends job 1 with its 6th call, job 2 with its 12th, job 0 with its 13th; so do the turns of a side
    -- that makes the next call of the foremost job, and a turn more gives 25
    ends_by_hand P (5 ∷ 7 ∷ []) 1 6 ∷
    ends_by_hand P (5 ∷ 7 ∷ []) 2 12 ∷
    ends_by_hand P (5 ∷ 7 ∷ []) 0 13 ∷
    by_play P (5 ∷ 7 ∷ []) (replicate 5 turn) (replicate 5 0) (state_is 1 2 ∷ []) ∷
    by_play P (5 ∷ 7 ∷ []) (replicate 6 turn) (replicate 6 0) (state_is 1 3 ∷ order_is (0 ∷ []) ∷ []) ∷
    by_play P (5 ∷ 7 ∷ []) (replicate 11 turn) (replicate 11 0) (state_is 2 2 ∷ []) ∷
    by_play P (5 ∷ 7 ∷ []) (replicate 12 turn) (replicate 12 0) (state_is 2 3 ∷ state_is 0 2 ∷ []) ∷
    by_play P (5 ∷ 7 ∷ []) (replicate 14 turn) (replicate 13 0 ++ (25 ∷ []))
    (state_is 0 3 ∷ memory_is (9 ∷ 9 ∷ []) ∷ calls_are 13 ∷ weight_is 50 ∷ order_is [] ∷ []) ∷
    -- calls of the other side that are all refused change nothing
    by_play P (5 ∷ 7 ∷ []) refused_between (10 ∷ 13 ∷ 0 ∷ 0 ∷ 9 ∷ 0 ∷ 0 ∷ 0 ∷ 11 ∷ []) (state_is 1 2 ∷ calls_are 5 ∷ []) ∷
    play_has P (5 ∷ 7 ∷ []) refused_between 5 0 ∷
    -- the other side makes both children and ends job 0: job 1 has ended after 4 turns, before its 6th
    by_play P (5 ∷ 7 ∷ []) pushed_ahead (0 ∷ 0 ∷ 0 ∷ 19 ∷ 0 ∷ 0 ∷ 0 ∷ 0 ∷ 0 ∷ []) (state_is 1 3 ∷ order_is (2 ∷ []) ∷ []) ∷
    play_has P (5 ∷ 7 ∷ []) pushed_ahead 4 4 ∷
    -- the other side runs job 1 whole: after 6 turns no job is left, and job 2's 12th never comes
    by_play P (5 ∷ 7 ∷ [])
    (map other (opening ++ (start_of 1 ∷ step_of 1 ∷ step_of 1 ∷ end_of 1 ∷ [])) ++ replicate 7 turn)
    (0 ∷ 0 ∷ 0 ∷ 0 ∷ 0 ∷ 0 ∷ 0 ∷ 0 ∷ 0 ∷ 0 ∷ 0 ∷ 0 ∷ 0 ∷ 25 ∷ [])
    (state_is 1 3 ∷ state_is 2 3 ∷ state_is 0 3 ∷ calls_are 13 ∷ []) ∷
    -- Besides those marked. "With P and input 00 00 01 00 01 00 00 02 it prints the lines 0, 0, 0, 12, 5, 7, `3 21 3`."
    -- With request 102 the fourth is 19.
    by_calls P (5 ∷ 7 ∷ []) (opening ++ (start_of 2 ∷ [])) (0 ∷ 0 ∷ 0 ∷ 19 ∷ [])
    (memory_is (5 ∷ 7 ∷ []) ∷ calls_are 3 ∷ weight_is 21 ∷ order_is (1 ∷ 2 ∷ 0 ∷ []) ∷ []) ∷
    -- a runtime that does the whole hand run in the first start would have 9, 9 here
    by_calls P (5 ∷ 7 ∷ []) (start_of 0 ∷ []) (0 ∷ []) (memory_is (5 ∷ 7 ∷ []) ∷ calls_are 1 ∷ weight_is 5 ∷ []) ∷
    -- "1: entry not in the job's footprint (C and above included)", by a register line
    by_hand far_register (5 ∷ 7 ∷ []) (fault_is 0 1 ∷ calls_are 5 ∷ []) ∷
    -- "makes job n + 1 + the counts of all spawns before i": the second child is job 3, whichever spawns first
    by_calls nested (5 ∷ 7 ∷ []) (opening ++ (start_of 3 ∷ step_of 3 ∷ start_of 1 ∷ step_of 1 ∷ []))
    (0 ∷ 0 ∷ 0 ∷ 0 ∷ 0 ∷ 0 ∷ 0 ∷ [])
    (order_is (2 ∷ 1 ∷ 4 ∷ 3 ∷ 0 ∷ []) ∷ []) ∷
    -- the refusals of start, step and end, in their order
    by_calls P (5 ∷ 7 ∷ [])
    (start_of 128 ∷ step_of 128 ∷ end_of 128 ∷ start_of 1 ∷ step_of 1 ∷ end_of 1 ∷ step_of 0 ∷ end_of 0 ∷ start_of 0 ∷
    start_of 0 ∷ end_of 0 ∷ step_of 0 ∷ step_of 0 ∷ step_of 0 ∷ [])
    (9 ∷ 9 ∷ 9 ∷ 10 ∷ 10 ∷ 10 ∷ 13 ∷ 13 ∷ 0 ∷ 11 ∷ 15 ∷ 0 ∷ 0 ∷ 14 ∷ [])
    (calls_are 3 ∷ []) ∷
    -- "Faults come before waiting": a store in mode read behind another reader; a load of a location that only job 0 has
    by_calls (second_reader (Store 0 1 ∷ [])) (5 ∷ 7 ∷ []) second_steps (0 ∷ 0 ∷ 0 ∷ 0 ∷ 0 ∷ 14 ∷ [])
    (fault_is 2 2 ∷ memory_is (5 ∷ 7 ∷ []) ∷ []) ∷
    by_calls (second_reader (Const 0 1 ∷ Load 1 0 ∷ [])) (5 ∷ 7 ∷ []) second_steps (0 ∷ 0 ∷ 0 ∷ 0 ∷ 0 ∷ 0 ∷ [])
    (fault_is 2 1 ∷ []) ∷
    -- "2: store, or a write line, where its own mode is read": also where an earlier line names the location
    by_calls (second_reader (Spawn 3 1 ∷ [])) (5 ∷ 7 ∷ []) second_steps (0 ∷ 0 ∷ 0 ∷ 0 ∷ 0 ∷ 14 ∷ [])
    (fault_is 2 2 ∷ order_is (1 ∷ 2 ∷ 0 ∷ []) ∷ []) ∷ []

pub cases_hold : every holds cases ≡ true
unfolding body_of footprint_of instruction_of total adds count_body count_from counts task_count field is_tag tag in_range number counted many row head_numbers head line_limit line_ok is_line line footprint forms form spawn_ok instruction_ok is_instruction instruction body list_behind sized finish decode Decode.register instruction_fields line_fields joined footprint_bytes body_bytes head_bytes encode no_modes never fixed_weights weight_places is_weight weight_of root_modes root initial every any only ahead queue behind_writer compatible allowed access_fault unless_fault plan_load plan_store plan_wait plan_sum passed_over rounded quotient_fault plan_quotient targets all_targets merged unless_denied grant child_modes with_first children fan_of numbered_from child_number plan_make plan_instruction units step_weight at_end needs_from plan_start plan_step plan_end plan hold admit search_from search hold_number settle among decide edited written splice stays places changes apply taken call after after_all run_each step_through steps_through enough run_whole sequential with_weights with_list open_asked sequential_asked queue_places outcome_number same is_so answers has_tasks is_refused all_so asked_number holds first_record alone hand_run inside kept same_record same_records alike_from isolates trace_each trace_steps trace_whole trace next_action next_call foremost_call decide_move move after_move_by after_move after_ply after_play turns others_call others_accepted is_end ends_at ends_with ply_answer play_answers
cases_hold = refl
