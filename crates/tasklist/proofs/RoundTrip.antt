-- Writing what was read gives the bytes again, those of the marked records where there were none, and reading them gives
-- the same list.
use Prim.Native.Nat.{ℕ, zero, suc, ◌+◌, ◌*◌, ◌/◌, ◌%◌, ◌<◌}
use mathlib.Core.Path.{◌≡◌, refl, sym, ap, ◌∙◌}
use mathlib.Core.List.{List, [], ◌∷◌, ◌++◌, append-nil, append_assoc}
use mathlib.Core.Bool.{◌&&◌}
use Rattle.std.specs.Prelude.{Option, Some}
use native.Mathlib.Omega.{arith}
use lib.ListN.{length, take, drop, get_or, take-append-drop, drop_of_length-le}
use lib.Seq.{length-take-le, drop-cons, get_or-append-add}
use lib.Dec.{leb, eqb}
use borrow.Author.Tests.{eqb-true}
use Rattle.tasklist.specs.declared.Header.{Header}
use Rattle.tasklist.specs.declared.Line.{Line}
use Rattle.tasklist.specs.declared.Scope.{Scope}
use Rattle.tasklist.specs.declared.Instruction.{Instruction}
use Rattle.tasklist.specs.declared.Instruction.TheVariants.{Const, Add, Sub, Less, Load, Store, Skip, Spawn, Wait, Fan, Sum, Mul, Div}
use Rattle.tasklist.specs.TaskList.{TaskList}
use Rattle.tasklist.specs.Fields.{Taken, took, and_then, field, only_if, is_tag, tag, in_range, number, counted, row}
use Rattle.tasklist.specs.Decode.{head_numbers, head, line_ok, is_line, line, footprint, forms, form, instruction_ok, is_instruction, instruction, scope, body, accepted, empty_list, decode}
use Rattle.tasklist.specs.Encode.{instruction_fields, line_fields, joined, footprint_bytes, body_bytes, head_bytes, encode, marked}
use Rattle.tasklist.proofs.TakenLaws.{both_true, only_if_some, field_taken, split}
use Rattle.tasklist.proofs.ReaderLaws.{decode_again}
use Rattle.tasklist.proofs.ChainLaws.{Chain, row_taken, header_of, ListTaken, list_taken}
use Rattle.tasklist.proofs.Guarantees.{kept_some}

abbrev pub Bytes : List ℕ → Type 0
Bytes b = (i : ℕ) → get_or b i 0 < 256

bytes_front : (x y : List ℕ) → Bytes (x ++ y) → Bytes x
bytes_front [] y h i = omega arith
bytes_front (a ∷ x) y h zero = h 0
bytes_front (a ∷ x) y h (suc i) = bytes_front x y (λ j. h (suc j)) i

bytes_behind : (x y : List ℕ) → Bytes (x ++ y) → Bytes y
bytes_behind x y h i = rw (get_or-append-add x y i 0) at (h (length x + i))

-- p takes from bytes just what `write` gives of what it took
abbrev Exact : {A : Type 0} → (A → List ℕ) → (List ℕ → Taken A) → Type 0
Exact {A} write p = (b : List ℕ) (a : A) (rest : List ℕ) → Bytes b → p b ≡ took a rest → b ≡ write a ++ rest

-- the n bytes of f from place i on
abbrev spread : ℕ → ℕ → List ℕ → List ℕ
spread i zero f = []
spread i (suc n) f = get_or f i 0 ∷ spread (suc i) n f

spread_drop : (n i : ℕ) (f : List ℕ) → length f ≡ i + n → drop i f ≡ spread i n f
spread_drop zero i f e = drop_of_length-le f {i = i} (omega arith)
spread_drop (suc n) i f e =
    drop-cons f i 0 (omega arith) ∙ ap (λ (l : List ℕ). get_or f i 0 ∷ l) (spread_drop n (suc i) f (omega arith))

-- a field is exact if its test is
field_exact : {A : Type 0} (write : A → List ℕ) (n k : ℕ) (test : List ℕ → Option A)
    → ((f : List ℕ) (a : A) → Bytes f → test f ≡ Some a → spread 0 n f ≡ write a) → Exact write (field n k test)
field_exact write n k test exact b a rest bytes e =
    let t = field_taken n k test b a rest e in
    let f = take n b in
    let parts : f ++ drop n b ≡ b = take-append-drop n b in
    let front : Bytes f = bytes_front f (drop n b) (rw parts bytes) in
    let whole : f ≡ spread 0 n f = spread_drop n 0 f (length-take-le n b t.whole ∙ omega arith) in
    let same : f ≡ write a = whole ∙ exact f a front t.passed in
    sym parts ∙ ap (λ (l : List ℕ). l ++ drop n b) same ∙ ap (λ (r : List ℕ). write a ++ r) t.behind

tag_exact : (second : ℕ) → Exact (λ _. 0x4A ∷ second ∷ []) (tag second)
unfolding tag is_tag
tag_exact second = field_exact (λ _. 0x4A ∷ second ∷ []) 2 2 (is_tag second) exact
  where
    exact : (f : List ℕ) (u : Unit {0}) → Bytes f → is_tag second f ≡ Some u → spread 0 2 f ≡ 0x4A ∷ second ∷ []
    exact f u bytes e =
        let p = only_if_some (eqb (get_or f 0 0) 0x4A && eqb (get_or f 1 0) second) tt u e in
        let q = both_true (eqb (get_or f 0 0) 0x4A) (eqb (get_or f 1 0) second) p.test in
        let r₀ : get_or f 0 0 ≡ 0x4A = eqb-true (get_or f 0 0) 0x4A q.0 in
        let r₁ : get_or f 1 0 ≡ second = eqb-true (get_or f 1 0) second q.1 in
        rw (r₀, r₁)

number_exact : (low high k : ℕ) → Exact (λ n. n ∷ []) (number low high k)
unfolding number in_range
number_exact low high k = field_exact (λ n. n ∷ []) 1 k (in_range low high) exact
  where
    exact : (f : List ℕ) (n : ℕ) → Bytes f → in_range low high f ≡ Some n → spread 0 1 f ≡ n ∷ []
    exact f n bytes e =
        let x = get_or f 0 0 in
        let p = only_if_some (leb low x && leb x high) x n e in
        ap (λ (y : ℕ). y ∷ []) p.value

line_exact : (locations : ℕ) → Exact line_fields (line locations)
unfolding line is_line line_fields
line_exact locations = field_exact line_fields 2 4 (is_line locations) exact
  where
    exact : (f : List ℕ) (x : Line) → Bytes f → is_line locations f ≡ Some x → spread 0 2 f ≡ line_fields x
    exact f x bytes e =
        let read : Line = record { kind = get_or f 0 0; value = get_or f 1 0 } in
        let p = only_if_some (line_ok locations read) read x e in
        ap line_fields p.value

-- the thirteen forms: the fields that are listed, and 0 for those that are not
module _ (code a b c : ℕ) (y x : Instruction) where
  plain_form : code ∷ a ∷ b ∷ c ∷ [] ≡ instruction_fields y → Some y ≡ Some x → code ∷ a ∷ b ∷ c ∷ [] ≡ instruction_fields x
  plain_form same e =
      let q : y ≡ x = cc in
      same ∙ ap instruction_fields q

  zero_form : code ∷ a ∷ b ∷ 0 ∷ [] ≡ instruction_fields y → only_if (eqb c 0) y ≡ Some x → code ∷ a ∷ b ∷ c ∷ [] ≡ instruction_fields x
  zero_form same e =
      let p = only_if_some (eqb c 0) y x e in
      ap (λ (z : ℕ). code ∷ a ∷ b ∷ z ∷ []) (eqb-true c 0 p.test) ∙ same ∙ ap instruction_fields p.value

form_exact : (code a b c : ℕ) (x : Instruction) → b < 256 → c < 256 → form code a b c ≡ Some x → code ∷ a ∷ b ∷ c ∷ [] ≡ instruction_fields x
unfolding form forms instruction_fields
form_exact zero a b c x hb hc e =
    let low : b ≡ (b + 256 * c) % 256 = omega arith in
    let whole : (b + 256 * c) / 256 ≡ c = omega arith in
    let high : c ≡ (b + 256 * c) / 256 % 256 = rw whole (omega arith) in
    plain_form 0 a b c (Const a (b + 256 * c)) x (λ i. 0 ∷ a ∷ low i ∷ high i ∷ []) e
form_exact (suc zero) a b c x hb hc e = plain_form 1 a b c (Add a b c) x refl e
form_exact (suc (suc zero)) a b c x hb hc e = plain_form 2 a b c (Sub a b c) x refl e
form_exact (suc (suc (suc zero))) a b c x hb hc e = plain_form 3 a b c (Less a b c) x refl e
form_exact (suc (suc (suc (suc zero)))) a b c x hb hc e = zero_form 4 a b c (Load a b) x refl e
form_exact (suc (suc (suc (suc (suc zero))))) a b c x hb hc e = zero_form 5 a b c (Store a b) x refl e
form_exact (suc (suc (suc (suc (suc (suc zero)))))) a b c x hb hc e = zero_form 6 a b c (Skip a b) x refl e
form_exact (suc (suc (suc (suc (suc (suc (suc zero))))))) a b c x hb hc e = zero_form 7 a b c (Spawn a b) x refl e
form_exact (suc (suc (suc (suc (suc (suc (suc (suc zero)))))))) a b c x hb hc e =
    let p = only_if_some (eqb b 0 && eqb c 0) (Wait a) x e in
    let q = both_true (eqb b 0) (eqb c 0) p.test in
    let zero_b : b ≡ 0 = eqb-true b 0 q.0 in
    let zero_c : c ≡ 0 = eqb-true c 0 q.1 in
    (λ i. 8 ∷ a ∷ zero_b i ∷ zero_c i ∷ []) ∙ ap instruction_fields p.value
form_exact (suc (suc (suc (suc (suc (suc (suc (suc (suc zero))))))))) a b c x hb hc e = plain_form 9 a b c (Fan a b c) x refl e
form_exact (suc (suc (suc (suc (suc (suc (suc (suc (suc (suc zero)))))))))) a b c x hb hc e = zero_form 10 a b c (Sum a b) x refl e
form_exact (suc (suc (suc (suc (suc (suc (suc (suc (suc (suc (suc zero))))))))))) a b c x hb hc e = plain_form 11 a b c (Mul a b c) x refl e
form_exact (suc (suc (suc (suc (suc (suc (suc (suc (suc (suc (suc (suc zero)))))))))))) a b c x hb hc e = plain_form 12 a b c (Div a b c) x refl e
form_exact (suc (suc (suc (suc (suc (suc (suc (suc (suc (suc (suc (suc (suc code))))))))))))) a b c x hb hc e =
    let z : ◌≡◌ {A = ℕ} 0 1 = cc in let y : ⊥ = omega arith in absurd y

instruction_exact : (at : Scope) → Exact instruction_fields (instruction at)
unfolding instruction is_instruction
instruction_exact at = field_exact instruction_fields 4 5 (is_instruction at) exact
  where
    exact : (f : List ℕ) (x : Instruction) → Bytes f → is_instruction at f ≡ Some x → spread 0 4 f ≡ instruction_fields x
    exact f x bytes e =
        let o = form (get_or f 0 0) (get_or f 1 0) (get_or f 2 0) (get_or f 3 0) in
        form_exact (get_or f 0 0) (get_or f 1 0) (get_or f 2 0) (get_or f 3 0) x (bytes 2) (bytes 3) (kept_some (instruction_ok at) o x e).formed

-- one thing behind the other: the second is read from bytes too
then_exact : (b x b₁ next : List ℕ) → Bytes b → b ≡ x ++ b₁ → (Bytes b₁ → b₁ ≡ next) → b ≡ x ++ next
then_exact b x b₁ next bytes e f = e ∙ ap (λ (r : List ℕ). x ++ r) (f (bytes_behind x b₁ (rw e at bytes)))

chain_exact : {A : Type 0} (write : A → List ℕ) (item : ℕ → List ℕ → Taken A) → ((i : ℕ) → Exact write (item i))
    → (l : List A) (i : ℕ) (b rest : List ℕ) → Bytes b → Chain item i b l rest → b ≡ joined write l ++ rest
unfolding joined
chain_exact write item exact [] i b rest bytes c = c
chain_exact write item exact (a ∷ l) i b rest bytes c =
    then_exact b (write a) c.0 (joined write l ++ rest) bytes (exact i b a c.0 bytes c.1)
    (λ bytes₁. chain_exact write item exact l (suc i) c.0 rest bytes₁ c.2) ∙
    sym (append_assoc (write a) (joined write l) rest)

counted_exact : (second most k : ℕ) → Exact (λ n. 0x4A ∷ second ∷ n ∷ []) (counted second most k)
unfolding counted
counted_exact second most k b n rest bytes e =
    let s = split (tag second b) (λ _ b₁. number 0 most k b₁) n rest e in
    then_exact b (0x4A ∷ second ∷ []) s.between (n ∷ rest) bytes (tag_exact second b s.first s.between bytes s.took_first)
    (λ bytes₁. number_exact 0 most k s.between n rest bytes₁ s.took_next)

row_exact : {A : Type 0} (write : A → List ℕ) (second most k : ℕ) (item : ℕ → ℕ → List ℕ → Taken A) → ((n i : ℕ) → Exact write (item n i))
    → Exact (λ l. 0x4A ∷ second ∷ length l ∷ joined write l) (row second most k item)
row_exact write second most k item exact b l rest bytes e =
    let t = row_taken second most k item b l rest e in
    let n = length l in
    then_exact b (0x4A ∷ second ∷ n ∷ []) t.between (joined write l ++ rest) bytes
    (counted_exact second most k b n t.between bytes t.count)
    (λ bytes₁. chain_exact write (item n) (exact n) l 0 t.between rest bytes₁ t.chain)

footprint_exact : (locations : ℕ) → Exact footprint_bytes (footprint locations)
unfolding footprint footprint_bytes
footprint_exact locations = row_exact line_fields 0x46 8 4 (λ _ _. line locations) (λ _ _. line_exact locations)

body_exact : (h : Header) (s : ℕ) → Exact body_bytes (body h s)
unfolding body body_bytes
body_exact h s =
    row_exact instruction_fields 0x42 32 5 (λ n i. instruction (scope h s n i)) (λ n i. instruction_exact (scope h s n i))

abbrev header_bytes : Header → List ℕ
header_bytes h = 0x4A ∷ 0x48 ∷ h.locations ∷ h.footprints ∷ h.bodies ∷ []

head_exact : Exact header_bytes head
unfolding head head_numbers
head_exact b h rest bytes e =
    let s₀ = split (tag 0x48 b) (λ _ b₁. head_numbers b₁) h rest e in
    let b₁ = s₀.between in
    let s₁ = split (number 1 64 3 b₁)
    (λ c b₂. and_then (number 0 32 3 b₂) λ f b₃. and_then (number 1 32 3 b₃) λ s b₄. took (record { locations = c; footprints = f; bodies = s }) b₄)
    h rest s₀.took_next in
    let c = s₁.first in
    let b₂ = s₁.between in
    let s₂ = split (number 0 32 3 b₂)
    (λ f b₃. and_then (number 1 32 3 b₃) λ s b₄. took (record { locations = c; footprints = f; bodies = s }) b₄)
    h rest s₁.took_next in
    let f = s₂.first in
    let b₃ = s₂.between in
    let s₃ = split (number 1 32 3 b₃) (λ s b₄. took (record { locations = c; footprints = f; bodies = s }) b₄) h rest s₂.took_next in
    let s = s₃.first in
    let b₄ = s₃.between in
    then_exact b (0x4A ∷ 0x48 ∷ []) b₁ (c ∷ f ∷ s ∷ b₄) bytes (tag_exact 0x48 b s₀.first b₁ bytes s₀.took_first)
    (λ bytes₁. then_exact b₁ (c ∷ []) b₂ (f ∷ s ∷ b₄) bytes₁ (number_exact 1 64 3 b₁ c b₂ bytes₁ s₁.took_first)
    (λ bytes₂. then_exact b₂ (f ∷ []) b₃ (s ∷ b₄) bytes₂ (number_exact 0 32 3 b₂ f b₃ bytes₂ s₂.took_first)
    (λ bytes₃. number_exact 1 32 3 b₃ s b₄ bytes₃ s₃.took_first))) ∙
    same c f s b₄ s₃.took_next
  where
    same : (c f s : ℕ) (b₄ : List ℕ) → took (record { locations = c; footprints = f; bodies = s }) b₄ ≡ took h rest
        → 0x4A ∷ 0x48 ∷ c ∷ f ∷ s ∷ b₄ ≡ header_bytes h ++ rest
    same c f s b₄ q =
        let r : record { locations = c; footprints = f; bodies = s } ≡ h = cc in
        let t : b₄ ≡ rest = cc in
        λ i. header_bytes (r i) ++ t i

list_exact : (b : List ℕ) (l : TaskList) → Bytes b → ListTaken b l → encode l ≡ b
unfolding encode head_bytes
list_exact b l bytes t =
    let b₁ = t.behind_head in
    let b₂ = t.behind_footprints in
    let fs = joined footprint_bytes l.footprints in
    let bs = joined body_bytes l.bodies in
    let whole : b ≡ head_bytes l ++ (fs ++ (bs ++ [])) =
    then_exact b (head_bytes l) b₁ (fs ++ (bs ++ [])) bytes (head_exact b (header_of l) b₁ bytes t.took_head)
    (λ bytes₁. then_exact b₁ fs b₂ (bs ++ []) bytes₁
    (chain_exact footprint_bytes (λ _. footprint l.locations) (λ _. footprint_exact l.locations) l.footprints 0 b₁ b₂ bytes₁ t.footprints)
    (λ bytes₂. chain_exact body_bytes (body (header_of l)) (body_exact (header_of l)) l.bodies 0 b₂ [] bytes₂ t.bodies)) in
    sym (whole ∙ ap (λ (r : List ℕ). head_bytes l ++ (fs ++ r)) (append-nil bs))

pub encode_decoded : (b : List ℕ) (l : TaskList) → Bytes b → decode b ≡ accepted l → encode l ≡ marked b
unfolding decode marked encode head_bytes joined footprint_bytes body_bytes instruction_fields
encode_decoded [] l bytes e = let same : l ≡ empty_list = cc in ap encode same
encode_decoded (x ∷ b) l bytes e = list_exact (x ∷ b) l bytes (list_taken (x ∷ b) l e)

pub decode_encoded : (b : List ℕ) (l : TaskList) → Bytes b → decode b ≡ accepted l → decode (encode l) ≡ accepted l
decode_encoded b l bytes e = ap decode (encode_decoded b l bytes e) ∙ decode_again b ∙ e
