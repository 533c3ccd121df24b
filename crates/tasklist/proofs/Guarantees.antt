-- What an accepted list guarantees: the bounds of the format, and the law of task counts.
use Prim.Native.Nat.{ℕ, zero, suc, ◌+◌, ◌-◌, ◌*◌, ◌≤◌, ◌<◌}
use mathlib.Core.Path.{◌≡◌, refl, sym, ap, ◌∙◌}
use mathlib.Core.List.{List, [], ◌∷◌}
use mathlib.Core.Bool.{Bool, true, false, ◌&&◌}
use Rattle.std.specs.Prelude.{Option, Some, None}
use native.Mathlib.Omega.{arith}
use native.Mathlib.Nat.{add-zero, zero-add}
use lib.ListN.{length, take, drop, get_or, get_or-eq_default}
use lib.Seq.{get_or-drop}
use lib.Dec.{leb, ltb}
use borrow.Author.Tests.{leb-true, leb-false, ltb-true, le-leb}
use Rattle.tasklist.specs.declared.Line.{Line}
use Rattle.tasklist.specs.declared.Scope.{Scope}
use Rattle.tasklist.specs.declared.Instruction.{Instruction}
use Rattle.tasklist.specs.declared.Instruction.TheVariants.{Const, Add, Sub, Less, Load, Store, Skip, Spawn, Wait, Fan, Sum, Mul, Div}
use Rattle.tasklist.specs.TaskList.{TaskList, blank_instruction, body_of, footprint_of, instruction_of, total, adds, count_body, count_from, counts, task_count}
use Rattle.tasklist.specs.Decode.{line_ok, is_line, line, footprint, form, register, spawn_ok, instruction_ok, kept, is_instruction, instruction, scope, body, accepted, decode}
use Rattle.tasklist.specs.Encode.{marked}
use Rattle.tasklist.specs.Accepted.{blank_line, scope_of, Accepted}
use Rattle.tasklist.proofs.TakenLaws.{both_true, only_if_some, field_taken}
use Rattle.tasklist.proofs.ReaderLaws.{head_range}
use Rattle.tasklist.proofs.CountLaws.{known_from, counts_more}
use Rattle.tasklist.proofs.ChainLaws.{TakenAt, rows_ok, header_of, list_taken}

-- Items that were taken passed their tests
line_passed : (locations : ℕ) (x : Line) → TakenAt Line (line locations) x → line_ok locations x ≡ true
unfolding line is_line
line_passed locations x t =
    let f = field_taken 2 4 (is_line locations) t.before x t.behind t.taken in
    let bytes = take 2 t.before in
    let read : Line = record { kind = get_or bytes 0 0; value = get_or bytes 1 0 } in
    let p = only_if_some (line_ok locations read) read x f.passed in
    ap (line_ok locations) (sym p.value) ∙ p.test

pub record Kept (A : Type 0) (ok : A → Bool) (o : Option A) (x : A) : Type 0 where
  pub formed : o ≡ Some x
  pub test : ok x ≡ true

pub kept_some : {A : Type 0} (ok : A → Bool) (o : Option A) (x : A) → kept ok o ≡ Some x → Kept A ok o x
kept_some ok None x e = let z : ◌≡◌ {A = ℕ} 0 1 = cc in let y : ⊥ = omega arith in absurd y
kept_some ok (Some a) x e =
    let p = only_if_some (ok a) a x e in
    record { formed = ap Some p.value; test = ap ok (sym p.value) ∙ p.test }

instruction_passed : (at : Scope) (x : Instruction) → TakenAt Instruction (instruction at) x → instruction_ok at x ≡ true
unfolding instruction is_instruction
instruction_passed at x t =
    let f = field_taken 4 5 (is_instruction at) t.before x t.behind t.taken in
    let bytes = take 4 t.before in
    (kept_some (instruction_ok at) (form (get_or bytes 0 0) (get_or bytes 1 0) (get_or bytes 2 0) (get_or bytes 3 0)) x f.passed).test

-- What the tests of an instruction say
pub record SpawnFits (at : Scope) (a b : ℕ) : Type 0 where
  pub above : at.body < a
  pub a_body : a < at.bodies
  pub a_footprint : b < at.footprints

spawn_fits : (at : Scope) (a b : ℕ) → spawn_ok at a b ≡ true → SpawnFits at a b
unfolding spawn_ok
spawn_fits at a b ok =
    let p = both_true (ltb at.body a && ltb a at.bodies) (ltb b at.footprints) ok in
    let q = both_true (ltb at.body a) (ltb a at.bodies) p.0 in
    record {
      above = ltb-true at.body a q.0;
      a_body = ltb-true a at.bodies q.1;
      a_footprint = ltb-true b at.footprints p.1;
    }

pub record FanFits (at : Scope) (a b c : ℕ) : Type 0 where
  pub names : SpawnFits at a b
  pub some_child : 1 ≤ c
  pub few_children : c ≤ 16

fan_fits : (at : Scope) (a b c : ℕ) → instruction_ok at (Fan a b c) ≡ true → FanFits at a b c
unfolding instruction_ok
fan_fits at a b c ok =
    let p = both_true (spawn_ok at a b && leb 1 c) (leb c 16) ok in
    let q = both_true (spawn_ok at a b) (leb 1 c) p.0 in
    record { names = spawn_fits at a b q.0; some_child = leb-true 1 c q.1; few_children = leb-true c 16 p.1 }

skip_fits : (at : Scope) (a b : ℕ) → instruction_ok at (Skip a b) ≡ true → at.place + 1 + b ≤ at.size
unfolding instruction_ok
skip_fits at a b ok =
    leb-true (at.place + 1 + b) at.size (both_true (register a) (leb (at.place + 1 + b) at.size) ok).1

-- the registers that an instruction names
unfoldable pub registers_of : Instruction → List ℕ
registers_of (Const a v) = a ∷ []
registers_of (Add a b c) = a ∷ b ∷ c ∷ []
registers_of (Sub a b c) = a ∷ b ∷ c ∷ []
registers_of (Less a b c) = a ∷ b ∷ c ∷ []
registers_of (Load a b) = a ∷ b ∷ []
registers_of (Store a b) = a ∷ b ∷ []
registers_of (Skip a b) = a ∷ []
registers_of (Spawn a b) = []
registers_of (Wait a) = a ∷ []
registers_of (Fan a b c) = []
registers_of (Sum a b) = a ∷ b ∷ []
registers_of (Mul a b c) = a ∷ b ∷ c ∷ []
registers_of (Div a b c) = a ∷ b ∷ c ∷ []

no_register : (j : ℕ) → get_or [] j 0 ≤ 3
no_register j = omega arith

one_register : (a : ℕ) (l : List ℕ) → register a ≡ true → ((j : ℕ) → get_or l j 0 ≤ 3) → (j : ℕ) → get_or (a ∷ l) j 0 ≤ 3
unfolding register
one_register a l r h zero = omega (arith, ltb-true a 4 r)
one_register a l r h (suc j) = h j

two_registers : (a b : ℕ) → (register a && register b) ≡ true → (j : ℕ) → get_or (a ∷ b ∷ []) j 0 ≤ 3
two_registers a b ok =
    let p = both_true (register a) (register b) ok in
    one_register a (b ∷ []) p.0 (one_register b [] p.1 no_register)

three_registers : (a b c : ℕ) → (register a && register b && register c) ≡ true → (j : ℕ) → get_or (a ∷ b ∷ c ∷ []) j 0 ≤ 3
three_registers a b c ok =
    let p = both_true (register a && register b) (register c) ok in
    let q = both_true (register a) (register b) p.0 in
    one_register a (b ∷ c ∷ []) q.0 (one_register b (c ∷ []) q.1 (one_register c [] p.1 no_register))

registers_fit : (at : Scope) (x : Instruction) → instruction_ok at x ≡ true → (j : ℕ) → get_or (registers_of x) j 0 ≤ 3
unfolding instruction_ok registers_of
registers_fit at (Const a v) ok = one_register a [] ok no_register
registers_fit at (Add a b c) ok = three_registers a b c ok
registers_fit at (Sub a b c) ok = three_registers a b c ok
registers_fit at (Less a b c) ok = three_registers a b c ok
registers_fit at (Load a b) ok = two_registers a b ok
registers_fit at (Store a b) ok = two_registers a b ok
registers_fit at (Skip a b) ok = one_register a [] (both_true (register a) (leb (at.place + 1 + b) at.size) ok).0 no_register
registers_fit at (Spawn a b) ok = no_register
registers_fit at (Wait a) ok = one_register a [] ok no_register
registers_fit at (Fan a b c) ok = no_register
registers_fit at (Sum a b) ok = two_registers a b ok
registers_fit at (Mul a b c) ok = three_registers a b c ok
registers_fit at (Div a b c) ok = three_registers a b c ok

-- The law of counts: a spawn or fan names a higher body, so a body's count looks only at the counts behind it
counts_drop : (k s : ℕ) (bs : List (List Instruction)) → drop k (counts s bs) ≡ counts (s + k) (drop k bs)
unfolding counts
counts_drop zero s bs = rw (add-zero s)
counts_drop (suc k) s [] = refl
counts_drop (suc k) s (b ∷ bs) =
    let q : suc s + k ≡ s + suc k = omega arith in
    counts_drop k (suc s) bs ∙ ap (λ (n : ℕ). counts n (drop k bs)) q

counts_length : (s : ℕ) (bs : List (List Instruction)) → length (counts s bs) ≡ length bs
unfolding counts
counts_length s [] = refl
counts_length s (b ∷ bs) = ap suc (counts_length (suc s) bs)

adds_above : (f g : ℕ → ℕ) (at : Scope) (x : Instruction) → ((a : ℕ) → at.body < a → f a ≡ g a) → instruction_ok at x ≡ true
    → adds f x ≡ adds g x
unfolding adds instruction_ok
adds_above f g at (Const a v) same ok = refl
adds_above f g at (Add a b c) same ok = refl
adds_above f g at (Sub a b c) same ok = refl
adds_above f g at (Less a b c) same ok = refl
adds_above f g at (Load a b) same ok = refl
adds_above f g at (Store a b) same ok = refl
adds_above f g at (Skip a b) same ok = refl
adds_above f g at (Spawn a b) same ok = same a (spawn_fits at a b ok).above
adds_above f g at (Wait a) same ok = refl
adds_above f g at (Fan a b c) same ok = ap (λ (n : ℕ). c * n) (same a (fan_fits at a b c ok).names.above)
adds_above f g at (Sum a b) same ok = refl
adds_above f g at (Mul a b c) same ok = refl
adds_above f g at (Div a b c) same ok = refl

total_same : {A : Type 0} (f g : A → ℕ) (l : List A) (d : A) → ((i : ℕ) → i < length l → f (get_or l i d) ≡ g (get_or l i d))
    → total f l ≡ total g l
unfolding total
total_same f g [] d same = refl
total_same f g (a ∷ l) d same =
    let here = same 0 (omega arith) in
    let there = total_same f g l d (λ i h. same (suc i) (omega arith)) in
    cc

module _ (bs : List (List Instruction)) where
  abbrev count_of : ℕ → ℕ
  count_of a = get_or (counts 0 bs) a 1

  behind : (s : ℕ) → drop s (counts 0 bs) ≡ counts s (drop s bs)
  behind s = counts_drop s 0 bs ∙ ap (λ (n : ℕ). counts n (drop s bs)) (zero-add s)

  known_above : (s a : ℕ) → s ≤ a → known_from bs s a ≡ count_of a
  unfolding count_from
  known_above s a h =
      let q : s + (a - s) ≡ a = omega arith in
      rw (le-leb s a h, ← behind s, get_or-drop s (counts 0 bs) (a - s) 1, q)

  count_at : (s : ℕ) → s < length bs → count_of s ≡ count_body (known_from bs (suc s)) (get_or bs s [])
  count_at s h =
      sym (ap (λ (n : ℕ). get_or (counts 0 bs) n 1) (add-zero s)) ∙
      sym (get_or-drop s (counts 0 bs) 0 1) ∙
      ap (λ (l : List ℕ). get_or l 0 1) (behind s ∙ counts_more bs s h)

-- "count(s) is 1 plus count(a) for each spawn in sheet s", where the instructions pass their tests
module _ (l : TaskList) (ok : (s i : ℕ) → i < length (body_of l s) → instruction_ok (scope_of l s i) (instruction_of l s i) ≡ true) where
  same_sum : (s : ℕ) → count_body (known_from l.bodies (suc s)) (body_of l s) ≡ count_body (task_count l) (body_of l s)
  unfolding count_body body_of instruction_of task_count
  same_sum s =
      let known = known_from l.bodies (suc s) in
      ap suc (total_same (adds known) (adds (task_count l)) (body_of l s) blank_instruction
      (λ i h. adds_above known (task_count l) (scope_of l s i) (instruction_of l s i) (known_above l.bodies (suc s)) (ok s i h)))

  count_is_sum : (s : ℕ) → task_count l s ≡ count_body (task_count l) (body_of l s)
  unfolding count_body total body_of task_count
  count_is_sum s = by_place (leb (length l.bodies) s) refl
    where
      by_place : (t : Bool) → leb (length l.bodies) s ≡ t → task_count l s ≡ count_body (task_count l) (body_of l s)
      by_place true q =
          let past : length l.bodies ≤ s = leb-true (length l.bodies) s q in
          get_or-eq_default (counts 0 l.bodies) 1 (rw (counts_length 0 l.bodies) past) ∙
          (rw (get_or-eq_default l.bodies [] past))
      by_place false q = count_at l.bodies s (leb-false (length l.bodies) s q) ∙ same_sum s

-- bytes stand for one list
pub accepted_same : (a b : TaskList) → accepted a ≡ accepted b → a ≡ b
accepted_same a b q = cc

pub accepted_list : (b : List ℕ) (l : TaskList) → decode b ≡ accepted l → Accepted l
unfolding footprint body body_of footprint_of instruction_of
accepted_list b l e =
    let t = list_taken b l e in
    let h = head_range (marked b) (header_of l) t.behind_head t.took_head in
    let at = scope (header_of l) in
    let footprints =
    rows_ok 0x46 8 4 (λ _ _ _. line l.locations) (λ _ _ _ x. line_ok l.locations x ≡ true) blank_line
    (λ _ _ _. line_passed l.locations)
    t.behind_head l.footprints t.behind_footprints t.footprints in
    let bodies =
    rows_ok 0x42 32 5 (λ s n i. instruction (at s n i)) (λ s n i x. instruction_ok (at s n i) x ≡ true) blank_instruction
    (λ s n i. instruction_passed (at s n i))
    t.behind_footprints l.bodies [] t.bodies in
    record {
      some_location = h.locations.least;
      most_locations = h.locations.most;
      most_footprints = h.footprints.most;
      some_body = h.bodies.least;
      most_bodies = h.bodies.most;
      most_lines = λ f. (footprints f).few;
      most_instructions = λ s. (bodies s).few;
      lines = λ f. (footprints f).each;
      instructions = λ s. (bodies s).each;
      count_law = count_is_sum l (λ s. (bodies s).each);
      most_tasks = t.few_tasks;
    }

-- The instruction at place i of body s of an accepted list
module _ (l : TaskList) (ok : Accepted l) (s i : ℕ) (here : i < length (body_of l s)) where
  passes : (x : Instruction) → instruction_of l s i ≡ x → instruction_ok (scope_of l s i) x ≡ true
  passes x e = ap (instruction_ok (scope_of l s i)) (sym e) ∙ ok.instructions s i here

  -- a spawn names a body above s and a footprint, both of the list
  pub spawn_names : (a b : ℕ) → instruction_of l s i ≡ Spawn a b → SpawnFits (scope_of l s i) a b
  unfolding instruction_ok
  spawn_names a b e = spawn_fits (scope_of l s i) a b (passes (Spawn a b) e)

  -- a fan names them too, and has 1 to 16 children
  pub fan_names : (a b c : ℕ) → instruction_of l s i ≡ Fan a b c → FanFits (scope_of l s i) a b c
  fan_names a b c e = fan_fits (scope_of l s i) a b c (passes (Fan a b c) e)

  pub skip_ends : (a b : ℕ) → instruction_of l s i ≡ Skip a b → i + 1 + b ≤ length (body_of l s)
  skip_ends a b e = skip_fits (scope_of l s i) a b (passes (Skip a b) e)

  pub registers_small : (j : ℕ) → get_or (registers_of (instruction_of l s i)) j 0 ≤ 3
  registers_small = registers_fit (scope_of l s i) (instruction_of l s i) (ok.instructions s i here)
