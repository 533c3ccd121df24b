-- Laws of taking fields from the front of the bytes: a field is cut off, or its own bytes are tested.
use Rattle.std.proofs.Common.{ℕ, ◌≡◌, ◌-◌, ◌≤◌, ◌<◌, List, length, get_or, take, drop, Bool, true, false, cond, ◌&&◌, eqb, leb, ltb, refl, arith, ◌∙◌}
use Rattle.std.proofs.lemmas.List.{get_or-take, take_rest}
use Rattle.std.specs.Prelude.{Option}
use Rattle.std.proofs.lemmas.Bool.Decides.{nat_tests}
use borrow.Author.Tests.{lt-leb, le-leb}
use Rattle.tasklist.specs.declared.Line.{Line}
use Rattle.tasklist.specs.declared.Scope.{Scope}
use Rattle.tasklist.specs.Fields.{bad, took, tested, field, only_if, is_tag, tag, in_range, number}
use Rattle.tasklist.specs.Decode.{line_limit, line_ok, is_line, line, form, instruction_ok, kept, is_instruction, instruction}

-- the bytes behind a field of n, as the code has them
abbrev pub behind : ℕ → List ℕ → List ℕ
behind n b = take (length b - n) (drop n b)

field_short : {A : Type 0} (n k : ℕ) (test : List ℕ → Option A) (b : List ℕ) → length b < n → field n k test b ≡ bad 1
unfolding field
field_short n k test b h = rw (lt-leb n (length b) h)

field_whole : {A : Type 0} (n k : ℕ) (test : List ℕ → Option A) (b : List ℕ) → n ≤ length b
    → field n k test b ≡ tested k (behind n b) (test (take n b))
unfolding field
field_whole n k test b h = rw (le-leb n (length b) h, take_rest b n)

tested_only : {A : Type 0} (k : ℕ) (rest : List ℕ) (t : Bool) (a : A) → tested k rest (only_if t a) ≡ cond t (took a rest) (bad k)
tested_only k rest true a = refl
tested_only k rest false a = refl

module _ (b : List ℕ) where
  pub tag_short : (second : ℕ) → length b < 2 → tag second b ≡ bad 1
  unfolding tag
  tag_short second h = field_short 2 2 (is_tag second) b h

  pub tag_whole : (second : ℕ) → 2 ≤ length b
      → tag second b ≡ cond (eqb (get_or b 0 0) 0x4A && eqb (get_or b 1 0) second) (took tt (behind 2 b)) (bad 2)
  unfolding tag is_tag
  tag_whole second h =
      field_whole 2 2 (is_tag second) b h ∙
      (rw (get_or-take 2 b 0 0 (omega arith), get_or-take 2 b 1 0 (omega arith)) (tested_only 2 (behind 2 b) _ tt))

  pub number_short : (low high k : ℕ) → length b < 1 → number low high k b ≡ bad 1
  unfolding number
  number_short low high k h = field_short 1 k (in_range low high) b h

  pub number_whole : (low high k : ℕ) → 1 ≤ length b
      → number low high k b ≡ cond (leb low (get_or b 0 0) && leb (get_or b 0 0) high) (took (get_or b 0 0) (behind 1 b)) (bad k)
  unfolding number in_range
  number_whole low high k h =
      field_whole 1 k (in_range low high) b h ∙
      (rw (get_or-take 1 b 0 0 (omega arith)) (tested_only k (behind 1 b) _ (get_or b 0 0)))

  pub line_short : (locations : ℕ) → length b < 2 → line locations b ≡ bad 1
  unfolding line
  line_short locations h = field_short 2 4 (is_line locations) b h

  abbrev line_there : Line
  line_there = record { kind = get_or b 0 0; value = get_or b 1 0 }

  pub line_whole : (locations : ℕ) → 2 ≤ length b
      → line locations b ≡ cond (ltb (get_or b 1 0) (line_limit locations (get_or b 0 0))) (took line_there (behind 2 b)) (bad 4)
  unfolding line is_line line_ok
  line_whole locations h =
      field_whole 2 4 (is_line locations) b h ∙
      (rw (get_or-take 2 b 0 0 (omega arith), get_or-take 2 b 1 0 (omega arith)) (tested_only 4 (behind 2 b) _ line_there))

  pub instruction_short : (scope : Scope) → length b < 4 → instruction scope b ≡ bad 1
  unfolding instruction
  instruction_short scope h = field_short 4 5 (is_instruction scope) b h

  pub instruction_whole : (scope : Scope) → 4 ≤ length b
      → instruction scope b
      ≡ tested 5 (behind 4 b) (kept (instruction_ok scope) (form (get_or b 0 0) (get_or b 1 0) (get_or b 2 0) (get_or b 3 0)))
  unfolding instruction is_instruction
  instruction_whole scope h =
      field_whole 4 5 (is_instruction scope) b h ∙
      (rw (
        get_or-take 4 b 0 0 (omega arith),
        get_or-take 4 b 1 0 (omega arith),
        get_or-take 4 b 2 0 (omega arith),
        get_or-take 4 b 3 0 (omega arith),
      ))

-- what a field at the front of the bytes is, by their number and its test
pub ruleset fields =
    (tag_short, tag_whole, number_short, number_whole, line_short, line_whole, instruction_short, instruction_whole, nat_tests)
