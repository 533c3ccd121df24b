-- No list is refused with number 0: a refusal of check is 1 or more. Assumes nothing.
use Prim.Native.Nat.{ℕ, zero, suc, ◌≤◌}
use mathlib.Core.Path.{◌≡◌, sym, subst, ◌∙◌}
use mathlib.Core.List.{List, [], ◌∷◌, ◌++◌}
use mathlib.Core.Bool.{Bool, true, false, cond}
use Rattle.std.specs.Prelude.{Option, Some, None}
use native.Mathlib.Omega.{arith}
use lib.ListN.{length, take, drop}
use lib.Dec.{leb}
use Rattle.tasklist.specs.declared.Header.{Header}
use Rattle.tasklist.specs.TaskList.{TaskList, task_count}
use Rattle.tasklist.specs.Fields.{Taken, bad, took, and_then, tested, field, is_tag, tag, in_range, number, counted, many, row}
use Rattle.tasklist.specs.Decode.{head_numbers, head, is_line, line, footprint, is_instruction, instruction, scope, body, list_behind, Decoded, refused, accepted, sized, finish, decode}
use Rattle.tasklist.specs.Encode.{marked}
use Rattle.tasklist.proofs.ReaderLaws.{decode_marked}

abbrev Numbered : {A : Type 0} → Taken A → Type 0
Numbered (bad k) = 1 ≤ k
Numbered (took a rest) = Unit {0}

abbrev Refusing : Decoded → Type 0
Refusing (refused k) = 1 ≤ k
Refusing (accepted l) = Unit {0}

in_turn :
    {A B : Type 0} (t : Taken A) (next : A → List ℕ → Taken B) → Numbered t → ((a : A) (b : List ℕ) → Numbered (next a b))
    → Numbered (and_then t next)
in_turn (bad k) next h n = h
in_turn (took a rest) next h n = n a rest

of_field : {A : Type 0} (n k : ℕ) (test : List ℕ → Option A) (b : List ℕ) → 1 ≤ k → Numbered (field n k test b)
unfolding field
of_field {A = A} n k test b h = by_size (leb n (length b))
  where
    by_test : (o : Option A) → Numbered (tested k (drop n b) o)
    by_test None = h
    by_test (Some a) = tt

    by_size : (t : Bool) → Numbered (cond t (tested k (drop n b) (test (take n b))) (bad 1))
    by_size true = by_test (test (take n b))
    by_size false = omega arith

of_many :
    {A : Type 0} (item : ℕ → List ℕ → Taken A) → ((i : ℕ) (b : List ℕ) → Numbered (item i b))
    → (i n : ℕ) (done : List A) (b : List ℕ) → Numbered (many item i n done b)
unfolding many
of_many item h i zero done b = tt
of_many item h i (suc n) done b =
    in_turn (item i b) (λ a rest. many item (suc i) n (done ++ (a ∷ [])) rest) (h i b)
    (λ a rest. of_many item h (suc i) n (done ++ (a ∷ [])) rest)

of_tag : (second : ℕ) (b : List ℕ) → Numbered (tag second b)
unfolding tag
of_tag second b = of_field 2 2 (is_tag second) b (omega arith)

of_number : (low high k : ℕ) (b : List ℕ) → 1 ≤ k → Numbered (number low high k b)
unfolding number
of_number low high k b h = of_field 1 k (in_range low high) b h

of_row :
    {A : Type 0} (second most k : ℕ) (item : ℕ → ℕ → List ℕ → Taken A) (b : List ℕ) → 1 ≤ k
    → ((n i : ℕ) (x : List ℕ) → Numbered (item n i x)) → Numbered (row second most k item b)
unfolding row counted
of_row second most k item b h items =
    in_turn (counted second most k b) (λ n b₁. many (item n) 0 n [] b₁)
    (in_turn (tag second b) (λ _ b₁. number 0 most k b₁) (of_tag second b) (λ _ b₁. of_number 0 most k b₁ h))
    (λ n b₁. of_many (item n) (items n) 0 n [] b₁)

of_head : (b : List ℕ) → Numbered (head b)
unfolding head head_numbers
of_head b =
    in_turn (tag 0x48 b) _ (of_tag 0x48 b) (λ _ b₁.
    in_turn (number 1 64 3 b₁) _ (of_number 1 64 3 b₁ (omega arith)) (λ c b₂.
    in_turn (number 0 32 3 b₂) _ (of_number 0 32 3 b₂ (omega arith)) (λ f b₃.
    in_turn (number 1 32 3 b₃) _ (of_number 1 32 3 b₃ (omega arith)) (λ s b₄. tt))))

of_footprint : (locations : ℕ) (b : List ℕ) → Numbered (footprint locations b)
unfolding footprint line
of_footprint locations b =
    of_row 0x46 8 4 (λ _ _. line locations) b (omega arith) (λ n i x. of_field 2 4 (is_line locations) x (omega arith))

of_body : (h : Header) (s : ℕ) (b : List ℕ) → Numbered (body h s b)
unfolding body instruction
of_body h s b =
    of_row 0x42 32 5 (λ n i. instruction (scope h s n i)) b (omega arith)
    (λ n i x. of_field 4 5 (is_instruction (scope h s n i)) x (omega arith))

of_list : (h : Header) (b : List ℕ) → Numbered (list_behind h b)
unfolding list_behind
of_list h b =
    in_turn (many (λ _. footprint h.locations) 0 h.footprints [] b) _
    (of_many (λ _. footprint h.locations) (λ i x. of_footprint h.locations x) 0 h.footprints [] b) (λ fs b₁.
    in_turn (many (body h) 0 h.bodies [] b₁) _ (of_many (body h) (λ i x. of_body h i x) 0 h.bodies [] b₁) (λ bs b₂. tt))

of_end : (t : Taken TaskList) → Numbered t → Refusing (finish t)
unfolding finish sized
of_end (bad k) h = h
of_end (took l []) h = by_count (leb (task_count l 0) 128)
  where
    by_count : (t : Bool) → Refusing (cond t (accepted l) (refused 7))
    by_count true = tt
    by_count false = omega arith
of_end (took l (x ∷ rest)) h = omega arith

pub refused_above : (b : List ℕ) (k : ℕ) → decode b ≡ refused k → 1 ≤ k
refused_above b k e =
    let c = marked b in
    subst Refusing (sym (decode_marked b) ∙ e)
    (of_end (and_then (head c) list_behind) (in_turn (head c) list_behind (of_head c) (λ h x. of_list h x)))
