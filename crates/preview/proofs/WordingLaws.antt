-- The hand run over C in the words of document 01 and request 105: "as check, then 8, library length not C", which are bytes
-- "other than 4 × C"; "After 8: 21 wrong length", bytes other than 30, "22 a number not in 1 to 1000"; "slice too short: 17,
-- last"; else the final entries, 4 × C bytes. Assumes nothing.
use Prim.Native.Nat.{ℕ, ◌*◌, ◌≤◌, ◌<◌}
use mathlib.Core.Path.{◌≡◌, refl, ap, ◌∙◌}
use mathlib.Core.List.{List, []}
use mathlib.Core.Bool.{true, false}
use native.Mathlib.Omega.{arith}
use lib.ListN.{length, get_or}
use borrow.Author.Tests.{eq-eqb, ne_eqb, le-leb, lt-leb}
use Rattle.tasklist.specs.TaskList.{TaskList, total, count_body, counts, task_count}
use Rattle.tasklist.specs.Decode.{refused, accepted, decode}
use Rattle.tasklist.proofs.Guarantees.{accepted_list}
use Rattle.semantics.specs.Run.{context, weight_places, is_weight}
use Rattle.semantics.specs.Access.{every}
use Rattle.semantics.specs.Sequential.{sequential}
use Rattle.semantics.specs.Operations.{denies, gives, with_weights, WeightsAccepted, with_list, sequential_asked}
use Rattle.semantics.proofs.Sound.{sequential_sound}
use Rattle.semantics.proofs.Bounds.{weights_light}
use Rattle.library.specs.Library.{numbers_of, memory_of, bytes_of}
use Rattle.library.specs.Table.{pairs_of, table_of}
use Rattle.library.proofs.LibraryLaws.{numbers_length, numbers_small, bytes_length, memory_whole, fits_length, fits_only}
use Rattle.library.proofs.TableLaws.{table_none, table_whole, table_length}
use Rattle.preview.specs.Preview.{check_over_c, final_entries, hand_run_over_c}

-- request 101: the preview of a file of no bytes shows one job
pub no_bytes_checked : check_over_c [] ≡ 1
unfolding check_over_c decode task_count counts count_body total
no_bytes_checked = refl

module _ (list library table : List ℕ) (room : ℕ) where
  pub list_refused : (k : ℕ) → decode list ≡ refused k → hand_run_over_c list library table room ≡ denies k
  unfolding hand_run_over_c final_entries sequential_asked with_list
  list_refused k e =
      ap (λ d. final_entries room (with_list d (memory_of library) (table_of table) (λ c. sequential c (memory_of library)))) e

  module _ (l : TaskList) (listed : decode list ≡ accepted l) where
    pub library_refused : (length library ≡ 4 * l.locations → ⊥) → hand_run_over_c list library table room ≡ denies 8
    unfolding hand_run_over_c final_entries sequential_asked with_list
    library_refused other =
        let some = (accepted_list list l listed).some_location in
        ap (λ d. final_entries room (with_list d (memory_of library) (table_of table) (λ c. sequential c (memory_of library)))) listed
        ∙ rw (ne_eqb (length (memory_of library)) l.locations (λ q. other (fits_only library l.locations some q))) refl

    module _ (fits : length library ≡ 4 * l.locations) (bytes : (i : ℕ) → get_or library i 0 < 256) where
      held : memory_of library ≡ numbers_of library
      held = memory_whole library (omega arith)

      asked :
          hand_run_over_c list library table room
          ≡ final_entries room (with_weights (table_of table) (sequential (context l (table_of table)) (numbers_of library)))
      unfolding hand_run_over_c sequential_asked with_list
      asked =
          ap (λ d. final_entries room (with_list d (memory_of library) (table_of table) (λ c. sequential c (memory_of library)))) listed
          ∙ rw (eq-eqb (length (memory_of library)) l.locations (fits_length library l.locations fits)) refl
          ∙ ap (λ m. final_entries room (with_weights (table_of table) (sequential (context l (table_of table)) m))) held

      pub table_refused : (length table ≡ 30 → ⊥) → hand_run_over_c list library table room ≡ denies 21
      unfolding final_entries with_weights weight_places
      table_refused other =
          asked
          ∙ ap (λ ws. final_entries room (with_weights ws (sequential (context l (table_of table)) (numbers_of library)))) (table_none table other)

      module _ (whole : length table ≡ 30) where
        -- the table's numbers
        abbrev weights : List ℕ
        weights = pairs_of table

        under :
            hand_run_over_c list library table room
            ≡ final_entries room (with_weights weights (sequential (context l weights) (numbers_of library)))
        under =
            asked
            ∙ ap (λ ws. final_entries room (with_weights ws (sequential (context l ws) (numbers_of library)))) (table_whole table whole)

        pub weight_refused : every is_weight weights ≡ false → hand_run_over_c list library table room ≡ denies 22
        unfolding final_entries with_weights weight_places
        weight_refused bad = under ∙ rw (eq-eqb (length weights) 15 (table_length table whole), bad) refl

        module _ (good : every is_weight weights ≡ true) where
          -- the entries after the hand run
          abbrev entries : List ℕ
          entries = (sequential (context l weights) (numbers_of library)).memory

          ok : WeightsAccepted weights
          ok = record { size = table_length table whole ∙ (unfold weight_places in refl); each = good }

          pub entries_length : length (bytes_of entries) ≡ 4 * l.locations
          entries_length =
              let sound =
              sequential_sound (context l weights) (accepted_list list l listed) 16000 (weights_light (context l weights) ok)
              (numbers_of library) (omega (arith, numbers_length library)) (numbers_small library bytes) in
              bytes_length entries ∙ ap (λ n. 4 * n) sound.locations

          through : hand_run_over_c list library table room ≡ final_entries room (gives (sequential (context l weights) (numbers_of library)))
          unfolding with_weights weight_places
          through = under ∙ rw (eq-eqb (length weights) 15 (table_length table whole), good) refl

          pub result_refused : room < 4 * l.locations → hand_run_over_c list library table room ≡ denies 17
          unfolding final_entries
          result_refused short =
              through ∙ rw (lt-leb (length (bytes_of entries)) room (omega (arith, entries_length))) refl

          pub entries_given : 4 * l.locations ≤ room → hand_run_over_c list library table room ≡ gives (bytes_of entries)
          unfolding final_entries
          entries_given long =
              through ∙ rw (le-leb (length (bytes_of entries)) room (omega (arith, entries_length))) refl
