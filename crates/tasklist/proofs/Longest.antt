-- "The longest list has 4,805 bytes."
use Prim.Native.Nat.{ℕ, suc, ◌*◌, ◌≤◌}
use mathlib.Core.Path.{◌≡◌, refl, ap}
use mathlib.Core.List.{List, [], ◌∷◌}
use native.Mathlib.Omega.{arith}
use native.Mathlib.Nat.{mul-suc}
use lib.ListN.{length, get_or, length-append, replicate}
use Rattle.tasklist.specs.TaskList.{TaskList, blank_instruction, body_of, footprint_of, total, adds, count_body, count_from, counts, task_count}
use Rattle.tasklist.specs.Fields.{field, is_tag, tag, in_range, number, counted, many, row}
use Rattle.tasklist.specs.Decode.{head_numbers, head, line_limit, line_ok, is_line, line, footprint, forms, form, register, instruction_ok, is_instruction, instruction, body, list_behind, sized, finish, decode, accepted}
use Rattle.tasklist.specs.Encode.{instruction_fields, line_fields, joined, footprint_bytes, body_bytes, head_bytes, encode, marked}
use Rattle.tasklist.specs.Accepted.{blank_line, Accepted}
use Rattle.tasklist.proofs.Guarantees.{accepted_list}
use Rattle.tasklist.proofs.RoundTrip.{Bytes, encode_decoded}
use Rattle.tasklist.proofs.WriterLaws.{footprint_length, body_length}

-- items of at most w bytes each
joined_most : {A : Type 0} (write : A → List ℕ) (w : ℕ) (d : A) (l : List A) → ((i : ℕ) → length (write (get_or l i d)) ≤ w)
    → length (joined write l) ≤ w * length l
unfolding joined
joined_most write w d [] h = omega arith
joined_most write w d (a ∷ l) h =
    omega (arith, h 0, joined_most write w d l (λ i. h (suc i)), length-append (write a) (joined write l), mul-suc w (length l))

-- the bytes of a list within the bounds
pub encode_size : (l : TaskList) → Accepted l → length (encode l) ≤ 4805
unfolding encode head_bytes body_of footprint_of
encode_size l ok =
    let fs = joined footprint_bytes l.footprints in
    let bs = joined body_bytes l.bodies in
    omega (
      arith,
      length-append fs bs,
      joined_most footprint_bytes 19 [] l.footprints (λ f. omega (arith, footprint_length (footprint_of l f), ok.most_lines f)),
      joined_most body_bytes 131 [] l.bodies (λ s. omega (arith, body_length (body_of l s), ok.most_instructions s)),
    )

marked_longer : (b : List ℕ) → length b ≤ length (marked b)
unfolding marked
marked_longer [] = omega arith
marked_longer (x ∷ b) = omega arith

pub longest : (b : List ℕ) (l : TaskList) → Bytes b → decode b ≡ accepted l → length b ≤ 4805
longest b l bytes e = omega (arith, ap length (encode_decoded b l bytes e), encode_size l (accepted_list b l e), marked_longer b)

-- and one has as many: 32 footprints of 8 lines, 32 bodies of 32 instructions
unfoldable pub longest_list : TaskList
longest_list =
    record {
      locations = 1;
      footprints = replicate 32 (replicate 8 blank_line);
      bodies = replicate 32 (replicate 32 blank_instruction);
    }

pub longest_size : length (encode longest_list) ≡ 4805
unfolding longest_list encode head_bytes joined footprint_bytes body_bytes line_fields instruction_fields
longest_size = refl

pub longest_accepted : decode (encode longest_list) ≡ accepted longest_list
unfolding longest_list field is_tag tag in_range number counted many row head_numbers head line_limit line_ok is_line line footprint forms form register instruction_ok is_instruction instruction body list_behind sized finish decode total adds count_body count_from counts task_count encode head_bytes joined footprint_bytes body_bytes line_fields instruction_fields
longest_accepted = refl
