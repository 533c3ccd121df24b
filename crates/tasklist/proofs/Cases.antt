-- Document 01's example P: 54 bytes, which decode and encode again. The list of no bytes, whose records are 8 bytes. A
-- list with a fan (request 104), one with a sum (request 107), products and quotients in thousandths (request 108).
use Prim.Native.Nat.{ℕ, ◌+◌, ◌*◌}
use mathlib.Core.Path.{◌≡◌, refl}
use mathlib.Core.List.{List, [], ◌∷◌, ◌++◌, map}
use lib.ListN.{length}
use Rattle.tasklist.specs.declared.Instruction.{Instruction}
use Rattle.tasklist.specs.declared.Instruction.TheVariants.{Const, Load, Store, Spawn, Fan, Sum, Mul, Div}
use Rattle.tasklist.specs.TaskList.{TaskList, total, adds, count_body, count_from, counts, task_count}
use Rattle.tasklist.specs.Fields.{field, is_tag, tag, in_range, number, counted, many, row}
use Rattle.tasklist.specs.Decode.{head_numbers, head, line_limit, line_ok, is_line, line, footprint, forms, form, register, spawn_ok, instruction_ok, is_instruction, instruction, body, list_behind, sized, finish, empty_list, decode, accepted, refused}
use Rattle.tasklist.specs.Encode.{instruction_fields, line_fields, joined, footprint_bytes, body_bytes, head_bytes, encode, marked}

abbrev pub P_bytes : List ℕ
P_bytes =
    0x4A ∷ 0x48 ∷ 2 ∷ 2 ∷ 3 ∷
    0x4A ∷ 0x46 ∷ 1 ∷ 1 ∷ 0 ∷
    0x4A ∷ 0x46 ∷ 2 ∷ 0 ∷ 0 ∷ 1 ∷ 1 ∷
    0x4A ∷ 0x42 ∷ 2 ∷ 7 ∷ 1 ∷ 0 ∷ 0 ∷ 7 ∷ 2 ∷ 1 ∷ 0 ∷
    0x4A ∷ 0x42 ∷ 2 ∷ 0 ∷ 1 ∷ 9 ∷ 0 ∷ 5 ∷ 0 ∷ 1 ∷ 0 ∷
    0x4A ∷ 0x42 ∷ 3 ∷ 4 ∷ 1 ∷ 0 ∷ 0 ∷ 0 ∷ 2 ∷ 1 ∷ 0 ∷ 5 ∷ 2 ∷ 1 ∷ 0 ∷ []

abbrev pub P : TaskList
P =
    record {
      locations = 2;
      footprints =
          (record { kind = 1; value = 0 } ∷ []) ∷
          (record { kind = 0; value = 0 } ∷ record { kind = 1; value = 1 } ∷ []) ∷ [];
      bodies =
          (Spawn 1 0 ∷ Spawn 2 1 ∷ []) ∷
          (Const 1 9 ∷ Store 0 1 ∷ []) ∷
          (Load 1 0 ∷ Const 2 1 ∷ Store 2 1 ∷ []) ∷ [];
    }

pub P_length : length P_bytes ≡ 54
P_length = refl

pub P_decodes : decode P_bytes ≡ accepted P
unfolding field is_tag tag in_range number counted many row head_numbers head line_limit line_ok is_line line footprint forms form register spawn_ok instruction_ok is_instruction instruction body list_behind sized finish decode total adds count_body count_from counts task_count
P_decodes = refl

pub P_encodes : encode P ≡ P_bytes
unfolding instruction_fields line_fields joined footprint_bytes body_bytes head_bytes encode
P_encodes = refl

pub empty_decodes : decode [] ≡ accepted empty_list
unfolding decode
empty_decodes = refl

pub empty_encodes : encode empty_list ≡ marked []
unfolding instruction_fields line_fields joined footprint_bytes body_bytes head_bytes encode marked
empty_encodes = refl

-- one sheet that fans out c tasks of the other, each of which makes the spawns and fans given
abbrev fan_bytes : ℕ → ℕ → List ℕ → List ℕ
fan_bytes c n made =
    0x4A ∷ 0x48 ∷ 16 ∷ 1 ∷ 3 ∷
    0x4A ∷ 0x46 ∷ 1 ∷ 3 ∷ 0 ∷
    0x4A ∷ 0x42 ∷ 2 ∷ 7 ∷ 2 ∷ 0 ∷ 0 ∷ 9 ∷ 1 ∷ 0 ∷ c ∷
    0x4A ∷ 0x42 ∷ n ∷ (made ++ (0x4A ∷ 0x42 ∷ 0 ∷ []))

abbrev fan_list : ℕ → List Instruction → TaskList
fan_list c made =
    record {
      locations = 16;
      footprints = (record { kind = 3; value = 0 } ∷ []) ∷ [];
      bodies = (Spawn 2 0 ∷ Fan 1 0 c ∷ []) ∷ made ∷ [] ∷ [];
    }

-- "The fan adds c × count(a) to its sheet's count": a spawn's task, and two blocks of one task with its fan of five
pub fan_counts : task_count (fan_list 2 (Fan 2 0 5 ∷ [])) 0 ≡ 1 + 1 + 2 * (1 + 5)
unfolding total adds count_body count_from counts task_count
fan_counts = refl

pub fan_decodes : decode (fan_bytes 2 1 (9 ∷ 2 ∷ 0 ∷ 5 ∷ [])) ≡ accepted (fan_list 2 (Fan 2 0 5 ∷ []))
unfolding field is_tag tag in_range number counted many row head_numbers head line_limit line_ok is_line line footprint forms form register spawn_ok instruction_ok is_instruction instruction body list_behind sized finish decode total adds count_body count_from counts task_count
fan_decodes = refl

pub fan_encodes : encode (fan_list 2 (Fan 2 0 5 ∷ [])) ≡ fan_bytes 2 1 (9 ∷ 2 ∷ 0 ∷ 5 ∷ [])
unfolding instruction_fields line_fields joined footprint_bytes body_bytes head_bytes encode
fan_encodes = refl

-- "c children (1 to 16)", "A bad c gives 5."
pub fan_of_sixteen : decode (fan_bytes 16 0 []) ≡ accepted (fan_list 16 [])
unfolding field is_tag tag in_range number counted many row head_numbers head line_limit line_ok is_line line footprint forms form register spawn_ok instruction_ok is_instruction instruction body list_behind sized finish decode total adds count_body count_from counts task_count
fan_of_sixteen = refl

pub fan_of_seventeen : decode (fan_bytes 17 0 []) ≡ refused 5
unfolding field is_tag tag in_range number counted many row head_numbers head line_limit line_ok is_line line footprint forms form register spawn_ok instruction_ok is_instruction instruction body list_behind sized finish decode total adds count_body count_from counts task_count
fan_of_seventeen = refl

pub fan_of_none : decode (fan_bytes 0 0 []) ≡ refused 5
unfolding field is_tag tag in_range number counted many row head_numbers head line_limit line_ok is_line line footprint forms form register spawn_ok instruction_ok is_instruction instruction body list_behind sized finish decode total adds count_body count_from counts task_count
fan_of_none = refl

-- a sheet that is not higher, as a spawn's
pub fan_of_itself : decode (fan_bytes 2 1 (9 ∷ 1 ∷ 0 ∷ 5 ∷ [])) ≡ refused 5
unfolding field is_tag tag in_range number counted many row head_numbers head line_limit line_ok is_line line footprint forms form register spawn_ok instruction_ok is_instruction instruction body list_behind sized finish decode total adds count_body count_from counts task_count
fan_of_itself = refl

-- 2 + 14 × 9 = 128 tasks, and 2 + 15 × 9 = 137
pub fan_of_128 : decode (fan_bytes 14 1 (9 ∷ 2 ∷ 0 ∷ 8 ∷ [])) ≡ accepted (fan_list 14 (Fan 2 0 8 ∷ []))
unfolding field is_tag tag in_range number counted many row head_numbers head line_limit line_ok is_line line footprint forms form register spawn_ok instruction_ok is_instruction instruction body list_behind sized finish decode total adds count_body count_from counts task_count
fan_of_128 = refl

pub fan_of_137 : decode (fan_bytes 15 1 (9 ∷ 2 ∷ 0 ∷ 8 ∷ [])) ≡ refused 7
unfolding field is_tag tag in_range number counted many row head_numbers head line_limit line_ok is_line line footprint forms form register spawn_ok instruction_ok is_instruction instruction body list_behind sized finish decode total adds count_body count_from counts task_count
fan_of_137 = refl

-- a list of four locations: a footprint of one line, and a body of one instruction
abbrev sum_bytes : ℕ → ℕ → List ℕ → List ℕ
sum_bytes kind value made =
    0x4A ∷ 0x48 ∷ 4 ∷ 1 ∷ 1 ∷
    0x4A ∷ 0x46 ∷ 1 ∷ kind ∷ value ∷
    0x4A ∷ 0x42 ∷ 1 ∷ made

abbrev sum_list : ℕ → ℕ → TaskList
sum_list kind value =
    record {
      locations = 4;
      footprints = (record { kind = kind; value = value } ∷ []) ∷ [];
      bodies = (Sum 3 2 ∷ []) ∷ [];
    }

-- "line kind 4 sums a fixed entry, 5 one named by a register. New code 10: entry number Ra := entry + Rb": the last entry, the
-- last register; a sum makes no task
pub sums_decode : map decode (sum_bytes 4 3 (10 ∷ 3 ∷ 2 ∷ 0 ∷ []) ∷ sum_bytes 5 3 (10 ∷ 3 ∷ 2 ∷ 0 ∷ []) ∷ [])
    ≡ accepted (sum_list 4 3) ∷ accepted (sum_list 5 3) ∷ []
unfolding field is_tag tag in_range number counted many row head_numbers head line_limit line_ok is_line line footprint forms form register spawn_ok instruction_ok is_instruction instruction body list_behind sized finish decode total adds count_body count_from counts task_count
sums_decode = refl

pub sum_counts : task_count (sum_list 4 3) 0 ≡ 1
unfolding total adds count_body count_from counts task_count
sum_counts = refl

pub sum_encodes : encode (sum_list 5 3) ≡ sum_bytes 5 3 (10 ∷ 3 ∷ 2 ∷ 0 ∷ [])
unfolding instruction_fields line_fields joined footprint_bytes body_bytes head_bytes encode
sum_encodes = refl

-- "Entry below C, register 0 to 3": entry 4 of four, register 4; no kind 6
pub sum_lines_refused : map decode (sum_bytes 4 4 [] ∷ sum_bytes 5 4 [] ∷ sum_bytes 6 0 [] ∷ []) ≡ refused 4 ∷ refused 4 ∷ refused 4 ∷ []
unfolding field is_tag tag in_range number counted many row head_numbers head line_limit line_ok is_line line footprint forms form register spawn_ok instruction_ok is_instruction instruction body list_behind sized finish decode total adds count_body count_from counts task_count
sum_lines_refused = refl

-- "a register above 3, is a bad instruction", "fields not listed are 0"
pub sums_refused : map (λ made. decode (sum_bytes 4 3 made))
    ((10 ∷ 4 ∷ 0 ∷ 0 ∷ []) ∷ (10 ∷ 0 ∷ 4 ∷ 0 ∷ []) ∷ (10 ∷ 0 ∷ 0 ∷ 1 ∷ []) ∷ [])
    ≡ refused 5 ∷ refused 5 ∷ refused 5 ∷ []
unfolding field is_tag tag in_range number counted many row head_numbers head line_limit line_ok is_line line footprint forms form register spawn_ok instruction_ok is_instruction instruction body list_behind sized finish decode total adds count_body count_from counts task_count
sums_refused = refl

-- a list of one body
abbrev body_list : List Instruction → TaskList
body_list is = record { locations = 4; footprints = []; bodies = is ∷ [] }

abbrev thousandths_bytes : List ℕ
thousandths_bytes =
    0x4A ∷ 0x48 ∷ 4 ∷ 0 ∷ 1 ∷
    0x4A ∷ 0x42 ∷ 2 ∷ 11 ∷ 3 ∷ 2 ∷ 1 ∷ 12 ∷ 1 ∷ 3 ∷ 2 ∷ []

-- "Code 11: Ra := Rb × Rc / 1000. Code 12: Ra := 1000 × Rb / Rc.": three registers each; no task is made
pub thousandths_decode : decode thousandths_bytes ≡ accepted (body_list (Mul 3 2 1 ∷ Div 1 3 2 ∷ []))
unfolding field is_tag tag in_range number counted many row head_numbers head line_limit line_ok is_line line footprint forms form register spawn_ok instruction_ok is_instruction instruction body list_behind sized finish decode total adds count_body count_from counts task_count
thousandths_decode = refl

pub thousandths_count : task_count (body_list (Mul 3 2 1 ∷ Div 1 3 2 ∷ [])) 0 ≡ 1
unfolding total adds count_body count_from counts task_count
thousandths_count = refl

pub thousandths_encode : encode (body_list (Mul 3 2 1 ∷ Div 1 3 2 ∷ [])) ≡ thousandths_bytes
unfolding instruction_fields line_fields joined footprint_bytes body_bytes head_bytes encode
thousandths_encode = refl

-- "a register above 3, is a bad instruction", in each field; no code 13
pub thousandths_refused : map (λ made. decode (sum_bytes 4 3 made))
    ((11 ∷ 4 ∷ 0 ∷ 0 ∷ []) ∷ (11 ∷ 0 ∷ 4 ∷ 0 ∷ []) ∷ (11 ∷ 0 ∷ 0 ∷ 4 ∷ []) ∷
    (12 ∷ 4 ∷ 0 ∷ 0 ∷ []) ∷ (12 ∷ 0 ∷ 4 ∷ 0 ∷ []) ∷ (12 ∷ 0 ∷ 0 ∷ 4 ∷ []) ∷ (13 ∷ 0 ∷ 0 ∷ 0 ∷ []) ∷ [])
    ≡ refused 5 ∷ refused 5 ∷ refused 5 ∷ refused 5 ∷ refused 5 ∷ refused 5 ∷ refused 5 ∷ []
unfolding field is_tag tag in_range number counted many row head_numbers head line_limit line_ok is_line line footprint forms form register spawn_ok instruction_ok is_instruction instruction body list_behind sized finish decode total adds count_body count_from counts task_count
thousandths_refused = refl
