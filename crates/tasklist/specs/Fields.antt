-- Taking fields from the front of the bytes.
use Rattle.std.specs.Prelude.{ℕ, zero, suc, List, [], ◌∷◌, ◌++◌, Bool, cond, ◌&&◌, length, take, drop, get_or, leb, eqb, Option, Some, None}

-- A refusal's number, or what was taken and the bytes behind it
pub data Taken (A : Type 0) : Type 0 where
  bad : ℕ → Taken A
  took : A → List ℕ → Taken A

-- take one thing, then what follows it
abbrev pub and_then : {A B : Type 0} → Taken A → (A → List ℕ → Taken B) → Taken B
and_then (bad k) next = bad k
and_then (took a rest) next = next a rest

abbrev pub tested : {A : Type 0} → ℕ → List ℕ → Option A → Taken A
tested k rest None = bad k
tested k rest (Some a) = took a rest

-- "a field (mark, number, line, instruction) is taken only when whole, else 1; it is tested when taken": a field of
-- n bytes, whose test gives what it holds or, where it fails, the refusal k
unfoldable pub field : {A : Type 0} → ℕ → ℕ → (List ℕ → Option A) → List ℕ → Taken A
field n k test b = cond (leb n (length b)) (tested k (drop n b) (test (take n b))) (bad 1)

abbrev pub only_if : {A : Type 0} → Bool → A → Option A
only_if t a = cond t (Some a) None

-- a mark, 4A and a second byte: "2 wrong mark"
unfoldable pub is_tag : ℕ → List ℕ → Option (Unit {0})
is_tag second f = only_if (eqb (get_or f 0 0) 0x4A && eqb (get_or f 1 0) second) tt

unfoldable pub tag : ℕ → List ℕ → Taken (Unit {0})
unfolding is_tag field
tag second = field 2 2 (is_tag second)

-- a number from low to high: "counts are one byte"
unfoldable pub in_range : ℕ → ℕ → List ℕ → Option ℕ
in_range low high f = only_if (leb low (get_or f 0 0) && leb (get_or f 0 0) high) (get_or f 0 0)

unfoldable pub number : ℕ → ℕ → ℕ → List ℕ → Taken ℕ
unfolding in_range field
number low high k = field 1 k (in_range low high)

-- a mark, then a count from 0 to most
unfoldable pub counted : ℕ → ℕ → ℕ → List ℕ → Taken ℕ
counted second most k b = and_then (tag second b) λ _ b₁. number 0 most k b₁

-- n things one behind the other, from number i on, behind those already taken
unfoldable pub many : {A : Type 0} → (ℕ → List ℕ → Taken A) → ℕ → ℕ → List A → List ℕ → Taken (List A)
many item i zero done b = took done b
many item i (suc n) done b = and_then (item i b) (λ a rest. many item (suc i) n (done ++ (a ∷ [])) rest)

-- a record of a mark, a count of at most `most`, and as many items; an item is told the count and its place
unfoldable pub row : {A : Type 0} → ℕ → ℕ → ℕ → (ℕ → ℕ → List ℕ → Taken A) → List ℕ → Taken (List A)
row second most k item b = and_then (counted second most k b) λ n b₁. many (item n) 0 n [] b₁
