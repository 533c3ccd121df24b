-- Laws of the whole list: what each stage of the reader tells of `decode`.
use Prim.Native.Nat.{ℕ, ◌≤◌, ◌<◌}
use mathlib.Core.Path.{◌≡◌, refl, sym, ap, ◌∙◌}
use mathlib.Core.List.{List, [], ◌∷◌}
use native.Mathlib.Omega.{arith}
use lib.ListN.{length}
use borrow.Author.Tests.{le-leb}
use Rattle.tasklist.specs.declared.Header.{Header}
use Rattle.tasklist.specs.declared.Line.{Line}
use Rattle.tasklist.specs.declared.Instruction.{Instruction}
use Rattle.tasklist.specs.TaskList.{TaskList, total, count_body, count_from, counts, task_count}
use Rattle.tasklist.specs.Fields.{bad, took, and_then, field, is_tag, tag, in_range, number, counted, many, row}
use Rattle.tasklist.specs.Decode.{head_numbers, head, footprint, body, list_behind, refused, accepted, sized, finish, empty_list, decode}
use Rattle.tasklist.specs.Encode.{marked}
use Rattle.tasklist.specs.Tables.{capped}
use Rattle.tasklist.proofs.TakenLaws.{split, Number, number_range}

-- the head's numbers in their ranges
pub record HeadRange (h : Header) : Type 0 where
  pub locations : Number 1 64 h.locations
  pub footprints : Number 0 32 h.footprints
  pub bodies : Number 1 32 h.bodies

pub head_range : (b : List ℕ) (h : Header) (rest : List ℕ) → head b ≡ took h rest → HeadRange h
unfolding head head_numbers
head_range b h rest e =
    let s₀ = split (tag 0x48 b) (λ _ b₁. head_numbers b₁) h rest e in
    let b₁ = s₀.between in
    let s₁ = split (number 1 64 3 b₁)
    (λ c b₂. and_then (number 0 32 3 b₂) λ f b₃. and_then (number 1 32 3 b₃) λ s b₄. took (record { locations = c; footprints = f; bodies = s }) b₄)
    h rest s₀.took_next in
    let b₂ = s₁.between in
    let c = s₁.first in
    let s₂ = split (number 0 32 3 b₂)
    (λ f b₃. and_then (number 1 32 3 b₃) λ s b₄. took (record { locations = c; footprints = f; bodies = s }) b₄)
    h rest s₁.took_next in
    let b₃ = s₂.between in
    let f = s₂.first in
    let s₃ = split (number 1 32 3 b₃) (λ s b₄. took (record { locations = c; footprints = f; bodies = s }) b₄) h rest s₂.took_next in
    range c f s₃.first
    (number_range 1 64 3 b₁ c b₂ s₁.took_first)
    (number_range 0 32 3 b₂ f b₃ s₂.took_first)
    (number_range 1 32 3 b₃ s₃.first s₃.between s₃.took_first)
    s₃.between s₃.took_next
  where
    range : (c f s : ℕ) → Number 1 64 c → Number 0 32 f → Number 1 32 s → (b₄ : List ℕ)
        → took (record { locations = c; footprints = f; bodies = s }) b₄ ≡ took h rest → HeadRange h
    range c f s x y z b₄ q =
        let r : record { locations = c; footprints = f; bodies = s } ≡ h = cc in
        let w : HeadRange (record { locations = c; footprints = f; bodies = s }) = record { locations = x; footprints = y; bodies = z } in
        rw r at w

-- a file of no bytes is read as its marked records
empty_marked : decode [] ≡ finish (and_then (head (marked [])) list_behind)
unfolding decode marked field is_tag tag in_range number counted many row head_numbers head footprint body list_behind sized finish total count_body count_from counts task_count
empty_marked = refl

pub decode_marked : (b : List ℕ) → decode b ≡ finish (and_then (head (marked b)) list_behind)
unfolding decode marked
decode_marked [] = empty_marked
decode_marked (x ∷ b) = refl

pub decode_again : (b : List ℕ) → decode (marked b) ≡ decode b
unfolding decode marked
decode_again [] = sym empty_marked
decode_again (x ∷ b) = refl

pub decode_none : (b : List ℕ) → length b ≡ 0 → decode b ≡ accepted empty_list
unfolding decode
decode_none [] h = refl
decode_none (x ∷ b) h = let z : ⊥ = omega arith in absurd z

marked_some : (b : List ℕ) → (length b ≡ 0 → ⊥) → marked b ≡ b
unfolding marked
marked_some [] h = absurd (h refl)
marked_some (x ∷ b) h = refl

module _ (b : List ℕ) (some : length b ≡ 0 → ⊥) where
  pub decode_head_bad : (j : ℕ) → head b ≡ bad j → decode b ≡ refused j
  unfolding finish
  decode_head_bad j e = decode_marked b ∙ rw (marked_some b some, e)

  pub decode_behind : (h : Header) (rest : List ℕ) → head b ≡ took h rest → decode b ≡ finish (list_behind h rest)
  decode_behind h rest e = decode_marked b ∙ rw (marked_some b some, e)

module _ (h : Header) (b : List ℕ) where
  pub finish_footprints_bad : (j : ℕ) → many (λ _. footprint h.locations) 0 h.footprints [] b ≡ bad j → finish (list_behind h b) ≡ refused j
  unfolding list_behind finish
  finish_footprints_bad j e = rw e

  module _ (fs : List (List Line)) (b₁ : List ℕ) (footprints : many (λ _. footprint h.locations) 0 h.footprints [] b ≡ took fs b₁) where
    pub finish_bodies_bad : (j : ℕ) → many (body h) 0 h.bodies [] b₁ ≡ bad j → finish (list_behind h b) ≡ refused j
    unfolding list_behind finish
    finish_bodies_bad j e = rw (footprints, e)

    module _ (bs : List (List Instruction)) (b₂ : List ℕ) (bodies : many (body h) 0 h.bodies [] b₁ ≡ took bs b₂) where
      abbrev pub whole_list : TaskList
      whole_list = record { locations = h.locations; footprints = fs; bodies = bs }

      behind_is : list_behind h b ≡ took whole_list b₂
      unfolding list_behind
      behind_is = rw (footprints, bodies)

      pub finish_leftover : 0 < length b₂ → finish (list_behind h b) ≡ refused 6
      unfolding finish
      finish_leftover l = ap finish behind_is ∙ go b₂ l
        where
          go : (r : List ℕ) → 0 < length r → finish (took whole_list r) ≡ refused 6
          go [] k = let z : ⊥ = omega arith in absurd z
          go (x ∷ r) k = refl

      pub finish_whole : length b₂ ≤ 0 → finish (list_behind h b) ≡ sized whole_list
      unfolding finish
      finish_whole l = ap finish behind_is ∙ go b₂ l
        where
          go : (r : List ℕ) → length r ≤ 0 → finish (took whole_list r) ≡ sized whole_list
          go [] k = refl
          go (x ∷ r) k = let z : ⊥ = omega arith in absurd z

module _ (l : TaskList) where
  pub sized_few : capped (task_count l 0) ≤ 128 → sized l ≡ accepted l
  unfolding sized
  sized_few h = rw (le-leb (task_count l 0) 128 (omega arith))
