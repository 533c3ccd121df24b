-- The refused field: bytes behind change nothing that was taken or refused but for a field that is cut off (1). So the
-- shortest part of a byte or more whose answer isn't 1 has the refusal of the whole list, and every shorter one is cut off.
-- Assumes nothing.
use Prim.Native.Nat.{ℕ, zero, suc, ◌+◌, ◌≤◌, ◌<◌}
use mathlib.Core.Path.{◌≡◌, refl, sym, ap, ◌∙◌, subst}
use mathlib.Core.List.{List, [], ◌∷◌, ◌++◌}
use mathlib.Core.Bool.{Bool, true, false, cond, not}
use Rattle.std.specs.Prelude.{Option, Some, None}
use mathlib.Core.Logic.{◌⊎◌, inl, inr}
use native.Mathlib.Omega.{arith}
use native.Mathlib.Nat.{zero-add}
use lib.Dec.{leb, eqb}
use lib.ListN.{length, take, drop, length-append, take-append-drop}
use lib.Seq.{take-append-le, drop-append-le, take-length}
use borrow.Author.Tests.{le-leb, leb-true, eq-eqb, eqb-true, not-false}
use Rattle.tasklist.specs.Fields.{Taken, bad, took, and_then, tested, field, is_tag, tag, in_range, number, counted, many, row}
use Rattle.tasklist.specs.Decode.{head_numbers, head, is_line, line, footprint, is_instruction, instruction, scope, body, list_behind, Decoded, refused, accepted, sized, finish, decode}
use Rattle.tasklist.specs.declared.Header.{Header}
use Rattle.tasklist.specs.TaskList.{TaskList, task_count}
use Rattle.tasklist.specs.Answers.{check_answer}
use Rattle.finding.specs.Search.{first_from}
use Rattle.finding.specs.Where.{whole_answer, is_whole, shortest_whole}
use Rattle.finding.proofs.FirstLaws.{first_ends, first_before}

-- the same with the bytes c behind
abbrev Longer : {A : Type 0} → List ℕ → Taken A → Taken A → Type 0
Longer c (bad k) r = (k ≡ 1 → ⊥) → r ≡ bad k
Longer c (took a rest) r = r ≡ took a (rest ++ c)

abbrev Stable : {A : Type 0} → (List ℕ → Taken A) → Type 0
Stable p = (b c : List ℕ) → Longer c (p b) (p (b ++ c))

both_longer : {A B : Type 0} (next : A → List ℕ → Taken B) → ((a : A) → Stable (next a)) → (c : List ℕ) (x y : Taken A) → Longer c x y
    → Longer c (and_then x next) (and_then y next)
both_longer next stable c (bad k) y e = λ other. ap (λ z. and_then z next) (e other)
both_longer next stable c (took a rest) y e = subst (λ z. Longer c (next a rest) (and_then z next)) (sym e) (stable a rest c)

and_then_stable : {A B : Type 0} (p : List ℕ → Taken A) (next : A → List ℕ → Taken B) → Stable p → ((a : A) → Stable (next a))
    → Stable (λ b. and_then (p b) next)
and_then_stable p next first second b c = both_longer next second c (p b) (p (b ++ c)) (first b c)

tested_longer : {A : Type 0} (k : ℕ) (rest c : List ℕ) (o : Option A) → Longer c (tested k rest o) (tested k (rest ++ c) o)
tested_longer k rest c None = λ other. refl
tested_longer k rest c (Some a) = refl

field_look : {A : Type 0} (n k : ℕ) (test : List ℕ → Option A) (b c : List ℕ) (t : Bool) → leb n (length b) ≡ t
    → Longer c (cond t (tested k (drop n b) (test (take n b))) (bad 1)) (field n k test (b ++ c))
unfolding field
field_look n k test b c false e = λ other. absurd (other refl)
field_look n k test b c true e =
    let enough : n ≤ length b = leb-true n (length b) e in
    let still : leb n (length (b ++ c)) ≡ true = le-leb n (length (b ++ c)) (omega (arith, enough, length-append b c)) in
    let same : field n k test (b ++ c) ≡ tested k (drop n b ++ c) (test (take n b)) =
    ap (λ s. cond s (tested k (drop n (b ++ c)) (test (take n (b ++ c)))) (bad 1)) still ∙
    ap (λ f. tested k (drop n (b ++ c)) (test f)) (take-append-le n b c enough) ∙
    ap (λ r. tested k r (test (take n b))) (drop-append-le n b c enough) in
    subst (Longer c (tested k (drop n b) (test (take n b)))) (sym same) (tested_longer k (drop n b) c (test (take n b)))

field_stable : {A : Type 0} (n k : ℕ) (test : List ℕ → Option A) → Stable (field n k test)
unfolding field
field_stable n k test b c = field_look n k test b c (leb n (length b)) refl

tag_stable : (second : ℕ) → Stable (tag second)
unfolding tag
tag_stable second = field_stable 2 2 (is_tag second)

number_stable : (low high k : ℕ) → Stable (number low high k)
unfolding number
number_stable low high k = field_stable 1 k (in_range low high)

counted_stable : (second most k : ℕ) → Stable (counted second most k)
unfolding counted
counted_stable second most k = and_then_stable (tag second) (λ _. number 0 most k) (tag_stable second) (λ _. number_stable 0 most k)

many_stable : {A : Type 0} (item : ℕ → List ℕ → Taken A) → ((i : ℕ) → Stable (item i)) → (i n : ℕ) (done : List A) → Stable (many item i n done)
unfolding many
many_stable item each i zero done = λ b c. refl
many_stable item each i (suc n) done =
    and_then_stable (item i) (λ a. many item (suc i) n (done ++ (a ∷ []))) (each i) (λ a. many_stable item each (suc i) n (done ++ (a ∷ [])))

row_stable : {A : Type 0} (second most k : ℕ) (item : ℕ → ℕ → List ℕ → Taken A) → ((n i : ℕ) → Stable (item n i)) → Stable (row second most k item)
unfolding row
row_stable second most k item each =
    and_then_stable (counted second most k) (λ n. many (item n) 0 n []) (counted_stable second most k) (λ n. many_stable (item n) (each n) 0 n [])

footprint_stable : (locations : ℕ) → Stable (footprint locations)
unfolding footprint line
footprint_stable locations = row_stable 0x46 8 4 (λ _ _. line locations) (λ n i. field_stable 2 4 (is_line locations))

body_stable : (h : Header) (s : ℕ) → Stable (body h s)
unfolding body instruction
body_stable h s = row_stable 0x42 32 5 (λ n i. instruction (scope h s n i)) (λ n i. field_stable 4 5 (is_instruction (scope h s n i)))

head_stable : Stable head
unfolding head head_numbers
head_stable =
    and_then_stable (tag 0x48) (λ _. head_numbers) (tag_stable 0x48) (λ _.
    and_then_stable (number 1 64 3) (λ c b₁. and_then (number 0 32 3 b₁) λ f b₂. and_then (number 1 32 3 b₂) λ s b₃. took (record { locations = c; footprints = f; bodies = s }) b₃)
    (number_stable 1 64 3) (λ c.
    and_then_stable (number 0 32 3) (λ f b₂. and_then (number 1 32 3 b₂) λ s b₃. took (record { locations = c; footprints = f; bodies = s }) b₃)
    (number_stable 0 32 3) (λ f.
    and_then_stable (number 1 32 3) (λ s b₃. took (record { locations = c; footprints = f; bodies = s }) b₃) (number_stable 1 32 3) (λ s b c₁. refl))))

behind_stable : (h : Header) → Stable (list_behind h)
unfolding list_behind
behind_stable h =
    and_then_stable (many (λ _. footprint h.locations) 0 h.footprints [])
    (λ fs b₁. and_then (many (body h) 0 h.bodies [] b₁) λ bs b₂. took (record { locations = h.locations; footprints = fs; bodies = bs }) b₂)
    (many_stable (λ _. footprint h.locations) (λ _. footprint_stable h.locations) 0 h.footprints []) (λ fs.
    and_then_stable (many (body h) 0 h.bodies []) (λ bs b₂. took (record { locations = h.locations; footprints = fs; bodies = bs }) b₂)
    (many_stable (body h) (body_stable h) 0 h.bodies []) (λ bs b c. refl))

-- a refusal's number above 0, 0 where the list is accepted
abbrev told : Decoded → ℕ
told (refused k) = suc k
told (accepted l) = 0

-- a list with bytes behind it is refused with 6, without with 7 or not at all
sized_told : (l : TaskList) (k : ℕ) → sized l ≡ refused k → k < 6 → ⊥
unfolding sized
sized_told l k e small = sized_look (leb (task_count l 0) 128) (ap told e)
  where
    sized_look : (t : Bool) → told (cond t (accepted l) (refused 7)) ≡ suc k → ⊥
    sized_look true q = omega arith
    sized_look false q = omega arith

finish_told : (l : TaskList) (rest : List ℕ) (k : ℕ) → finish (took l rest) ≡ refused k → k < 6 → ⊥
unfolding finish
finish_told l [] k e small = sized_told l k e small
finish_told l (x ∷ rest) k e small = let q : suc 6 ≡ suc k = ap told e in omega arith

part_told : (c : List ℕ) (x y : Taken TaskList) (k : ℕ) → Longer c x y → whole_answer (check_answer (finish x)) ≡ true → finish y ≡ refused k → k < 6 → finish x ≡ refused k
unfolding finish
part_told c (bad m) y k longer whole e small =
    let other : m ≡ 1 → ⊥ = λ q. let z : false ≡ true = sym (ap not (eq-eqb m 1 q)) ∙ whole in let n : ◌≡◌ {A = ℕ} 0 1 = ap (λ b. cond b 1 0) z in let w : ⊥ = omega arith in w in
    let same : finish (bad m) ≡ refused k = sym (ap finish (longer other)) ∙ e in
    same
part_told c (took l rest) y k longer whole e small = absurd (finish_told l (rest ++ c) k (sym (ap finish longer) ∙ e) small)

pub whole_none : (b : List ℕ) → length b ≡ 0 → is_whole b ≡ false
unfolding is_whole
whole_none [] none_there = refl
whole_none (x ∷ b) none_there = let z : ⊥ = omega arith in absurd z

pub whole_some : (b : List ℕ) → (length b ≡ 0 → ⊥) → is_whole b ≡ whole_answer (check_answer (decode b))
unfolding is_whole
whole_some [] bytes = absurd (bytes refl)
whole_some (x ∷ b) bytes = refl

-- a part that is not cut off has the refusal of the whole
pub part_refused : (b c : List ℕ) (k : ℕ) → is_whole b ≡ true → decode (b ++ c) ≡ refused k → k < 6 → decode b ≡ refused k
unfolding decode is_whole
part_refused [] c k whole e small = let n : ◌≡◌ {A = ℕ} 0 1 = ap (λ b. cond b 1 0) whole in let z : ⊥ = omega arith in absurd z
part_refused (x ∷ b) c k whole e small =
    part_told c (and_then (head (x ∷ b)) list_behind) (and_then (head (x ∷ (b ++ c))) list_behind) k
    (and_then_stable head list_behind head_stable behind_stable (x ∷ b) c) whole e small

cut_off : (d : Decoded) → whole_answer (check_answer d) ≡ false → d ≡ refused 1
cut_off (refused k) e = ap refused (eqb-true k 1 (not-false (eqb k 1) e))
cut_off (accepted l) e = let n : ◌≡◌ {A = ℕ} 1 0 = ap (λ b. cond b 1 0) e in let z : ⊥ = omega arith in absurd z

-- the shortest part has the refusal of the whole: the refused field is its last
pub shortest_refused : (b : List ℕ) (k : ℕ) → decode b ≡ refused k → k < 6 → decode (take (shortest_whole b) b) ≡ refused k
unfolding shortest_whole
shortest_refused b k e small = shortest_look (first_ends (λ n. is_whole (take n b)) 0 (length b))
  where
    shortest_look : (is_whole (take (shortest_whole b) b) ≡ true) ⊎ (shortest_whole b ≡ 0 + length b) → decode (take (shortest_whole b) b) ≡ refused k
    shortest_look (inl whole) =
        part_refused (take (shortest_whole b) b) (drop (shortest_whole b) b) k whole (ap decode (take-append-drop (shortest_whole b) b) ∙ e) small
    shortest_look (inr all) = ap (λ n. decode (take n b)) (all ∙ zero-add (length b)) ∙ ap decode (take-length b) ∙ e

-- every shorter part of a byte or more is cut off within a field
pub shorter_cut_off : (b : List ℕ) (n : ℕ) → 0 < n → n < shortest_whole b → decode (take n b) ≡ refused 1
unfolding shortest_whole first_from is_whole
shorter_cut_off b zero bytes h = let z : ⊥ = omega arith in absurd z
shorter_cut_off [] (suc n) bytes h = let z : ⊥ = omega arith in absurd z
shorter_cut_off (x ∷ b) (suc n) bytes h =
    let test : ℕ → Bool = λ m. is_whole (take m (x ∷ b)) in
    cut_off (decode (x ∷ take n b)) (ap test (sym (zero-add (suc n))) ∙ first_before test 0 (length (x ∷ b)) (suc n) (omega (arith, h, zero-add (suc n))))
