-- Laws of what the reader answers: a list of too many tasks, an accepted list, and a file of no bytes.
use Prim.Native.Nat.{ℕ, ◌≤◌, ◌<◌}
use mathlib.Core.Path.{◌≡◌, refl, sym, ap, ◌∙◌, subst}
use native.Mathlib.Omega.{arith}
use lib.ListN.{get_or}
use borrow.Author.Tests.{lt-leb}
use Rattle.tasklist.specs.declared.Tables.{Tables}
use Rattle.tasklist.specs.declared.Header.{Header}
use Rattle.tasklist.specs.declared.Line.{Line}
use Rattle.tasklist.specs.declared.Instruction.{Instruction}
use Rattle.tasklist.specs.declared.Refusal.{Refusal}
use Rattle.tasklist.specs.declared.Refusal.TheVariants.{Leftover, Tasks}
use Rattle.tasklist.specs.Fields.{bad, took, many}
use Rattle.std.specs.Prelude.{Result, Ok, Err, List, [], length}
use Rattle.tasklist.specs.TaskList.{TaskList, total, count_body, counts, task_count}
use Rattle.tasklist.specs.Decode.{head, footprint, body, list_behind, accepted, sized, finish, empty_list, decode}
use Rattle.tasklist.specs.Tables.{rows, list_of, blank_tables, capped, Holds}
use Rattle.tasklist.specs.Answers.{refusal_number, Tabled, ReadAs}
use Rattle.tasklist.proofs.AnswerLaws.{refused_read}
use Rattle.tasklist.proofs.CountLaws.{get_or-replicate_own}
use Rattle.tasklist.proofs.ReaderLaws.{decode_none, decode_head_bad, decode_behind, finish_footprints_bad, finish_bodies_bad, finish_leftover, finish_whole, sized_few}

-- what each stage of the reader tells of the whole list
module _ (b : List ℕ) (some : length b ≡ 0 → ⊥) where
  pub head_bad : (k : Refusal) → bad (refusal_number k) ≡ head b → ReadAs (decode b) (Err k)
  head_bad k e = refused_read (decode b) k (decode_head_bad b some (refusal_number k) (sym e))

  module _ {h : Header} {b₁ : List ℕ} (head_is : took h b₁ ≡ head b) where
    behind : decode b ≡ finish (list_behind h b₁)
    behind = decode_behind b some h b₁ (sym head_is)

    pub footprints_bad : (k : Refusal) → bad (refusal_number k) ≡ many (λ _. footprint h.locations) 0 h.footprints [] b₁ → ReadAs (decode b) (Err k)
    footprints_bad k e = refused_read (decode b) k (behind ∙ finish_footprints_bad h b₁ (refusal_number k) (sym e))

    module _ {fs : List (List Line)} {b₂ : List ℕ} (footprints : took fs b₂ ≡ many (λ _. footprint h.locations) 0 h.footprints [] b₁) where
      pub bodies_bad : (k : Refusal) → bad (refusal_number k) ≡ many (body h) 0 h.bodies [] b₂ → ReadAs (decode b) (Err k)
      bodies_bad k e = refused_read (decode b) k (behind ∙ finish_bodies_bad h b₁ fs b₂ (sym footprints) (refusal_number k) (sym e))

      module _ {bs : List (List Instruction)} {b₃ : List ℕ} (bodies : took bs b₃ ≡ many (body h) 0 h.bodies [] b₂) where
        pub left_over : 0 < length b₃ → ReadAs (decode b) (Err Leftover)
        left_over l = refused_read (decode b) Leftover (behind ∙ finish_leftover h b₁ fs b₂ (sym footprints) bs b₃ (sym bodies) l)

        pub whole : (r : Result Tables Refusal) → length b₃ ≤ 0
            → ReadAs (sized (record { locations = h.locations; footprints = fs; bodies = bs })) r → ReadAs (decode b) r
        whole r l e = rw (behind ∙ finish_whole h b₁ fs b₂ (sym footprints) bs b₃ (sym bodies) l) e

-- a list of more than 128 tasks
pub too_many : (l : TaskList) → 128 < capped (task_count l 0) → ReadAs (sized l) (Err Tasks)
unfolding sized
too_many l h = refused_read (sized l) Tasks (rw (lt-leb (task_count l 0) 128 (omega arith)))

-- a reading of tables whose counts are right
pub accepted_reading : (t : Tables) → get_or t.counts 0 1 ≤ 128
    → ((s : ℕ) → get_or t.counts s 1 ≡ capped (task_count (list_of t) s))
    → ReadAs (sized (list_of t)) (Ok t)
accepted_reading t h counts =
    let first = counts 0 in
    let few : capped (task_count (list_of t) 0) ≤ 128 = omega arith in
    let same : get_or t.counts 0 1 ≡ task_count (list_of t) 0 = omega arith in
    let w : ReadAs (accepted (list_of t)) (Ok t) =
    record { holds = record { list = refl; counts = counts }; count = same } in
    rw (sized_few (list_of t) few) w

-- blank tables with one location and one body hold the empty list
abbrev one_of_each : Tables → Tables
one_of_each t =
    record {
      locations = 1;
      footprints = t.footprints;
      bodies = 1;
      widths = t.widths;
      lines = t.lines;
      sizes = t.sizes;
      cells = t.cells;
      counts = t.counts;
    }

blank_holds : Holds (one_of_each blank_tables) empty_list
unfolding blank_tables list_of rows task_count counts count_body total
blank_holds = record { list = refl; counts = λ s. get_or-replicate_own 32 s 1 ∙ sym (ap capped (get_or-replicate_own 1 s 1)) }

blank_tabled : Tabled empty_list (one_of_each blank_tables)
unfolding blank_tables task_count counts count_body total
blank_tabled = record { holds = blank_holds; count = refl }

pub empty_tabled : (t : Tables) → t ≡ blank_tables → Tabled empty_list (one_of_each t)
empty_tabled t e = subst (λ (u : Tables). Tabled empty_list (one_of_each u)) (sym e) blank_tabled

pub empty_read : (b : List ℕ) (t : Tables) → length b ≡ 0 → Tabled empty_list t → ReadAs (decode b) (Ok t)
empty_read b t h w = rw (decode_none b h) w
