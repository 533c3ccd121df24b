-- Every list within the format's bounds is accepted: what the writer gives of it is read back.
use Prim.Native.Nat.{ℕ, suc, ◌+◌, ◌*◌, ◌/◌, ◌%◌, ◌≤◌, ◌<◌}
use mathlib.Core.Path.{◌≡◌, refl, sym, ap, ◌∙◌, subst}
use mathlib.Core.List.{List, [], ◌∷◌, ◌++◌, append-nil, append_assoc}
use mathlib.Core.Bool.{Bool, true}
use Rattle.std.specs.Prelude.{Option, Some}
use native.Mathlib.Omega.{arith}
use native.Mathlib.Nat.{add-zero, zero-add}
use lib.ListN.{length, get_or, length-append}
use lib.Seq.{take_at, drop_at, append_snoc}
use borrow.Author.Tests.{le-leb, eq-eqb}
use Rattle.tasklist.specs.declared.Header.{Header}
use Rattle.tasklist.specs.declared.Line.{Line}
use Rattle.tasklist.specs.declared.Scope.{Scope}
use Rattle.tasklist.specs.declared.Instruction.{Instruction}
use Rattle.tasklist.specs.declared.Instruction.TheVariants.{Const, Add, Sub, Less, Load, Store, Skip, Spawn, Wait, Fan, Sum, Mul, Div}
use Rattle.tasklist.specs.TaskList.{TaskList, blank_instruction, body_of, footprint_of, instruction_of}
use Rattle.tasklist.specs.Fields.{Taken, took, field, only_if, is_tag, tag, in_range, number, counted, many, row}
use Rattle.tasklist.specs.Decode.{head_numbers, head, line_ok, is_line, line, footprint, forms, form, instruction_ok, kept, is_instruction, instruction, scope, body, accepted, decode}
use Rattle.tasklist.specs.Encode.{instruction_fields, line_fields, joined, footprint_bytes, body_bytes, head_bytes, encode}
use Rattle.tasklist.specs.Accepted.{blank_line, Accepted}
use Rattle.tasklist.proofs.TakenLaws.{Number}
use Rattle.tasklist.proofs.ReaderLaws.{HeadRange, decode_behind, finish_whole, sized_few}
use Rattle.tasklist.proofs.ChainLaws.{header_of}
use Rattle.tasklist.proofs.WriterLaws.{instruction_length}

-- p takes a from its bytes, whatever stands behind them
abbrev Reads : {A : Type 0} → (A → List ℕ) → (List ℕ → Taken A) → A → Type 0
Reads write p a = (rest : List ℕ) → p (write a ++ rest) ≡ took a rest

field_reads : {A : Type 0} (write : A → List ℕ) (n k : ℕ) (test : List ℕ → Option A) (a : A)
    → length (write a) ≡ n → test (write a) ≡ Some a → Reads write (field n k test) a
unfolding field
field_reads write n k test a size passes rest =
    let whole : n ≤ length (write a ++ rest) = omega (arith, length-append (write a) rest) in
    rw (le-leb n (length (write a ++ rest)) whole, take_at (write a) rest n size, drop_at (write a) rest n size, passes)

tag_reads : (second : ℕ) → Reads (λ _. 0x4A ∷ second ∷ []) (tag second) tt
unfolding tag is_tag
tag_reads second = field_reads (λ _. 0x4A ∷ second ∷ []) 2 2 (is_tag second) tt refl (rw (eq-eqb second second refl))

number_reads : (low high k n : ℕ) → Number low high n → Reads (λ n. n ∷ []) (number low high k) n
unfolding number in_range
number_reads low high k n h =
    field_reads (λ n. n ∷ []) 1 k (in_range low high) n refl (rw (le-leb low n h.least, le-leb n high h.most))

line_reads : (locations : ℕ) (x : Line) → line_ok locations x ≡ true → Reads line_fields (line locations) x
unfolding line is_line line_fields
line_reads locations x ok = field_reads line_fields 2 4 (is_line locations) x refl (ap (λ (t : Bool). only_if t x) ok)

-- "const: Ra := b + 256 × c": the value that a const writes, 0 for any other instruction
unfoldable pub const_value : Instruction → ℕ
const_value (Const a v) = v
const_value (Add a b c) = 0
const_value (Sub a b c) = 0
const_value (Less a b c) = 0
const_value (Load a b) = 0
const_value (Store a b) = 0
const_value (Skip a b) = 0
const_value (Spawn a b) = 0
const_value (Wait a) = 0
const_value (Fan a b c) = 0
const_value (Sum a b) = 0
const_value (Mul a b c) = 0
const_value (Div a b c) = 0

form_of_fields : List ℕ → Option Instruction
form_of_fields f = form (get_or f 0 0) (get_or f 1 0) (get_or f 2 0) (get_or f 3 0)

form_reads : (x : Instruction) → const_value x < 65536 → form_of_fields (instruction_fields x) ≡ Some x
unfolding form_of_fields form forms instruction_fields const_value
form_reads (Const a v) h =
    let q : v % 256 + 256 * (v / 256 % 256) ≡ v = omega arith in
    ap (λ (w : ℕ). Some (Const a w)) q
form_reads (Add a b c) h = refl
form_reads (Sub a b c) h = refl
form_reads (Less a b c) h = refl
form_reads (Load a b) h = refl
form_reads (Store a b) h = refl
form_reads (Skip a b) h = refl
form_reads (Spawn a b) h = refl
form_reads (Wait a) h = refl
form_reads (Fan a b c) h = refl
form_reads (Sum a b) h = refl
form_reads (Mul a b c) h = refl
form_reads (Div a b c) h = refl

instruction_reads : (at : Scope) (x : Instruction) → const_value x < 65536 → instruction_ok at x ≡ true
    → Reads instruction_fields (instruction at) x
unfolding instruction is_instruction form_of_fields
instruction_reads at x small ok =
    field_reads instruction_fields 4 5 (is_instruction at) x (instruction_length x)
    (ap (kept (instruction_ok at)) (form_reads x small) ∙ ap (λ (t : Bool). only_if t x) ok)

many_reads : {A : Type 0} (write : A → List ℕ) (item : ℕ → List ℕ → Taken A) (d : A) (l : List A) (i : ℕ) (done : List A) (rest : List ℕ)
    → ((j : ℕ) → j < length l → Reads write (item (i + j)) (get_or l j d))
    → many item i (length l) done (joined write l ++ rest) ≡ took (done ++ l) rest
unfolding many joined
many_reads write item d [] i done rest reads = ap (λ m. took m rest) (sym (append-nil done))
many_reads {A} write item d (a ∷ l) i done rest reads =
    let behind = joined write l ++ rest in
    let here : item i (write a ++ behind) ≡ took a behind =
    ap (λ (n : ℕ). item n (write a ++ behind)) (sym (add-zero i)) ∙ reads 0 (omega arith) behind in
    let there = many_reads write item d l (suc i) (done ++ (a ∷ [])) rest
    (λ j h.
    let q : i + suc j ≡ suc i + j = omega arith in
    subst (λ (n : ℕ). Reads write (item n) (get_or l j d)) q (reads (suc j) (omega arith))) in
    rw (append_assoc (write a) (joined write l) rest, here) (there ∙ ap (λ m. took m rest) (append_snoc done a l))

all_read : {A : Type 0} (write : A → List ℕ) (item : ℕ → List ℕ → Taken A) (d : A) (l : List A) (rest : List ℕ)
    → ((j : ℕ) → j < length l → Reads write (item j) (get_or l j d))
    → many item 0 (length l) [] (joined write l ++ rest) ≡ took l rest
all_read write item d l rest reads =
    many_reads write item d l 0 [] rest
    (λ j h. subst (λ (n : ℕ). Reads write (item n) (get_or l j d)) (sym (zero-add j)) (reads j h))

row_reads : {A : Type 0} (write : A → List ℕ) (second most k : ℕ) (item : ℕ → ℕ → List ℕ → Taken A) (d : A) (l : List A)
    → length l ≤ most → ((j : ℕ) → j < length l → Reads write (item (length l) j) (get_or l j d))
    → Reads (λ l. 0x4A ∷ second ∷ length l ∷ joined write l) (row second most k item) l
unfolding row counted
row_reads write second most k item d l few reads rest =
    let n = length l in
    let behind = joined write l ++ rest in
    rw (tag_reads second (n ∷ behind), number_reads 0 most k n (record { least = omega arith; most = few }) behind)
    (all_read write (item n) d l rest reads)

footprint_reads : (locations : ℕ) (ls : List Line) → length ls ≤ 8
    → ((j : ℕ) → j < length ls → line_ok locations (get_or ls j blank_line) ≡ true) → Reads footprint_bytes (footprint locations) ls
unfolding footprint footprint_bytes
footprint_reads locations ls few ok =
    row_reads line_fields 0x46 8 4 (λ _ _. line locations) blank_line ls few
    (λ j h. line_reads locations (get_or ls j blank_line) (ok j h))

body_reads : (h : Header) (s : ℕ) (is : List Instruction) → length is ≤ 32
    → ((i : ℕ) → const_value (get_or is i blank_instruction) < 65536)
    → ((i : ℕ) → i < length is → instruction_ok (scope h s (length is) i) (get_or is i blank_instruction) ≡ true)
    → Reads body_bytes (body h s) is
unfolding body body_bytes
body_reads h s is few small ok =
    row_reads instruction_fields 0x42 32 5 (λ n i. instruction (scope h s n i)) blank_instruction is few
    (λ i l. instruction_reads (scope h s (length is) i) (get_or is i blank_instruction) (small i) (ok i l))

head_reads : (l : TaskList) → HeadRange (header_of l) → (rest : List ℕ) → head (head_bytes l ++ rest) ≡ took (header_of l) rest
unfolding head head_numbers head_bytes
head_reads l h rest =
    let c = l.locations in
    let f = length l.footprints in
    let s = length l.bodies in
    rw (
      tag_reads 0x48 (c ∷ f ∷ s ∷ rest),
      number_reads 1 64 3 c h.locations (f ∷ s ∷ rest),
      number_reads 0 32 3 f h.footprints (s ∷ rest),
      number_reads 1 32 3 s h.bodies rest,
    )

-- the values of a const's two bytes
abbrev pub Consts : TaskList → Type 0
Consts l = (s i : ℕ) → const_value (instruction_of l s i) < 65536

pub decode_complete : (l : TaskList) → Accepted l → Consts l → decode (encode l) ≡ accepted l
unfolding encode head_bytes body_of footprint_of instruction_of
decode_complete l ok small =
    let h = header_of l in
    let fs = joined footprint_bytes l.footprints in
    let bs = joined body_bytes l.bodies in
    let range : HeadRange h = record {
      locations = record { least = ok.some_location; most = ok.most_locations };
      footprints = record { least = omega arith; most = ok.most_footprints };
      bodies = record { least = ok.some_body; most = ok.most_bodies };
    } in
    let footprints =
    all_read footprint_bytes (λ _. footprint l.locations) [] l.footprints bs
    (λ f _. footprint_reads l.locations (footprint_of l f) (ok.most_lines f) (ok.lines f)) in
    let bodies =
    all_read body_bytes (body h) [] l.bodies []
    (λ s _. body_reads h s (body_of l s) (ok.most_instructions s) (small s) (ok.instructions s)) in
    decode_behind (encode l) (λ none. omega arith) h (fs ++ bs) (head_reads l range (fs ++ bs)) ∙
    finish_whole h (fs ++ bs) l.footprints bs footprints l.bodies []
    (ap (many (body h) 0 (length l.bodies) []) (sym (append-nil bs)) ∙ bodies) (omega arith) ∙
    sized_few l (omega (arith, ok.most_tasks))
