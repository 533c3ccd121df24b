-- What the two functions come to, by what they call. Assumes nothing.
use Rattle.std.proofs.Common.{ℕ, ◌≡◌, refl, ap, subst, ◌∙◌, List, [], ◌∷◌, append-nil, Bool, true, false, cond, length, leb}
use Rattle.std.specs.Prelude.{Option, Some, None, MatchOption, unwrap_or, Result, Ok, Err, is_ok}
use Rattle.std.specs.List.{flat_map}
use Rattle.tasklist.specs.declared.Short.{Short}
use Rattle.semantics.specs.Run.{context}
use Rattle.semantics.specs.Run as Semantics
use Rattle.semantics.specs.Sequential.{sequential}
use Rattle.semantics.specs.Operations.{Asked, denies, gives, sequential_asked}
use Rattle.library.specs.Library.{bytes_of, memory_of, fitting, at_front, Put}
use Rattle.library.specs.Table.{table_of}
use Rattle.library.proofs.AskedLaws.{asked_fitting}
use Rattle.runtime.specs.declared.Run.{Run}
use Rattle.runtime.specs.declared.OpenRefusal.{OpenRefusal}
use Rattle.runtime.specs.View.{model}
use Rattle.runtime.specs.Asked.{open_number, OpenedAs}
use Rattle.preview.specs.Preview.{refusal_over_c, final_entries, hand_run_over_c, hand_run_number, hand_run_places, Answers}

-- a run's memory, delivered or not
pub delivers :
    (run : Run) (numbers before after : List ℕ) → numbers ≡ (model run).memory → (r : Result Unit Short) → Put (bytes_of numbers) before after r
    → (x : ℕ) → x ≡ cond (is_ok r) 0 (refusal_over_c 17) → Answers (final_entries (length before) (gives (model run))) before after x
unfolding final_entries at_front hand_run_number hand_run_places
delivers run numbers before after same r put x q =
    by_room (leb (length (bytes_of (model run).memory)) (length before)) refl
  where
    p : Put (bytes_of (model run).memory) before after r
    p = subst (λ ns. Put (bytes_of ns) before after r) same put

    by_room :
        (fits : Bool) → leb (length (bytes_of (model run).memory)) (length before) ≡ fits
        → Answers (final_entries (length before) (gives (model run))) before after x
    by_room true e =
        record { number = q ∙ ap (λ b. cond b 0 (refusal_over_c 17)) (p.fits ∙ e) ∙ rw e refl; places = p.places ∙ rw e refl }
    by_room false e =
        record { number = q ∙ ap (λ b. cond b 0 (refusal_over_c 17)) (p.fits ∙ e) ∙ rw e refl; places = p.places ∙ rw e refl }

-- the numbers of a table; bytes that are no table have none
pub flattened :
    (o : Option (List ℕ)) (s : List (List ℕ)) (l : List ℕ) → MatchOption o (s ≡ []) (λ x. s ≡ x ∷ []) → l ≡ flat_map (λ x. x) s → l ≡ unwrap_or o []
flattened None s l h e = e ∙ ap (flat_map (λ x. x)) h
flattened (Some x) s l h e = e ∙ ap (flat_map (λ x. x)) h ∙ append-nil x

-- the hand run's answers
module _ (list library table before after memory weights : List ℕ) (x : ℕ) where
  -- what is given for a run, or for a refusal
  abbrev pub Given : Result Run OpenRefusal → Type 0
  Given (Ok run) = Answers (final_entries (length before) (gives (model run))) before after x
  Given (Err k) = (x ≡ refusal_over_c (open_number k)) × (after ≡ before)

  by_answer : (r : Result Run OpenRefusal) (a : Asked Semantics.Run) → OpenedAs list (table_of table) a r → Given r → Answers (final_entries (length before) a) before after x
  unfolding final_entries hand_run_number hand_run_places
  by_answer (Ok run) (denies j) o h = absurd o
  by_answer (Ok run) (gives m) o h = subst (λ a. Answers (final_entries (length before) (gives a)) before after x) o.run h
  by_answer (Err k) (denies j) o h = record { number = h.0 ∙ ap refusal_over_c o; places = h.1 }
  by_answer (Err k) (gives m) o h = absurd o

  pub ran :
      memory ≡ fitting library → weights ≡ table_of table → (r : Result Run OpenRefusal) → OpenedAs list weights (sequential_asked list memory weights) r
      → Given r → Answers (hand_run_over_c list library table (length before)) before after x
  unfolding hand_run_over_c sequential_asked
  ran read tabled r o h =
      by_answer r (sequential_asked list (memory_of library) (table_of table))
      (subst (λ a. OpenedAs list (table_of table) a r)
      (ap (λ m. sequential_asked list m (table_of table)) read ∙ asked_fitting list library (table_of table) (λ c m. sequential c m))
      (subst (λ ws. OpenedAs list ws (sequential_asked list memory ws) r) tabled o))
      h
