-- The table by the bytes of the two files, and what is printed of it. Assumes nothing.
use Prim.Native.Nat.{ℕ, zero, suc, ◌+◌, ◌≤◌, ◌<◌}
use mathlib.Core.Path.{◌≡◌, refl, sym, ap, subst, ◌∙◌}
use mathlib.Core.List.{List, ◌++◌}
use mathlib.Core.Bool.{cond, ◌&&◌}
use native.Mathlib.Omega.{arith}
use Rattle.std.specs.Prelude.{Some, Result, Ok, Err}
use lib.Dec.{eqb, leb}
use Rattle.library.specs.Library.{memory_of, fitting}
use Rattle.semantics.specs.Run as Semantics
use Rattle.semantics.specs.Run.{initial, fixed_weights}
use Rattle.semantics.specs.Operations.{Asked, denies, gives, open_asked}
use Rattle.semantics.proofs.Asked.{AskedCase, denied, given, asked_case}
use Rattle.model_rounds.specs.Rounds.{Report, report, rounds_asked, most_workers}
use Rattle.runtime.specs.declared.OpenRefusal.{OpenRefusal}
use Rattle.runtime.specs.Asked.{open_number}
use Rattle.run_rounds.specs.declared.table.RoundsTable.{RoundsTable}
use Rattle.run_rounds.specs.Reports.{TabledAs}
use Rattle.wording.specs.Wording.{line, refused_line}
use Rattle.library.proofs.AskedLaws.{asked_fitting}
use Rattle.host_rounds.specs.Lines.{used, row, rows, enough_from, calls_word, span_word, enough_line, table_lines, rounds_in, printed, files_asked, rounds_text}
use Rattle.host_rounds.specs.Promises.{rounds_at, calls_in}

-- The numbers that are read are the library's, as far as any list goes.
module _ (jobs library today : List ℕ) where
  rounds_fitting :
      (workers : ℕ) → rounds_asked workers jobs (fitting library) today ≡ rounds_asked workers jobs (memory_of library) today
  unfolding rounds_asked
  rounds_fitting workers =
      ap (λ x. cond (leb 1 workers && leb workers most_workers) x (denies 24))
      (asked_fitting jobs library today (λ c m. report c m workers))

  open_fitting : open_asked jobs (fitting library) today ≡ open_asked jobs (memory_of library) today
  unfolding open_asked
  open_fitting = asked_fitting jobs library today (λ c m. initial c m)

  moved :
      (r : Result RoundsTable OpenRefusal) (a : Asked Semantics.Run) → TabledAs jobs (fitting library) today a r
      → TabledAs jobs (memory_of library) today a r
  moved r (denies k) h = h
  moved (Err e) (gives x) h = h
  moved (Ok t) (gives x) h = λ workers least most. sym (rounds_fitting workers) ∙ h workers least most

  pub tabled_by :
      (memory weights : List ℕ) (r : Result RoundsTable OpenRefusal) → memory ≡ fitting library → weights ≡ today
      → TabledAs jobs memory weights (open_asked jobs memory weights) r
      → TabledAs jobs (memory_of library) today (open_asked jobs (memory_of library) today) r
  tabled_by memory weights r e w h =
      moved r (open_asked jobs (memory_of library) today)
      (subst (λ a. TabledAs jobs (fitting library) today a r) open_fitting
      (subst (λ m. TabledAs jobs m today (open_asked jobs m today) r) e
      (subst (λ ws. TabledAs jobs memory ws (open_asked jobs memory ws) r) w h)))

-- Rounds that are alike for the workers that are asked for give the same lines.
module _ (f g : ℕ → ℕ) where
  abbrev Alike : ℕ → ℕ → Type 0
  Alike more workers = (p : ℕ) → workers ≤ p → p < workers + more → f p ≡ g p

  less : (more workers : ℕ) → Alike (suc more) workers → Alike more (suc workers)
  less more workers h p least most = h p (omega arith) (omega arith)

  rows_same : (more workers calls : ℕ) → Alike more workers → rows more workers calls f ≡ rows more workers calls g
  unfolding rows
  rows_same zero workers calls h = refl
  rows_same (suc more) workers calls h =
      let here : f workers ≡ g workers = h workers (omega arith) (omega arith) in
      ap (λ k. row workers k (used calls workers k) ++ rows more (suc workers) calls f) here
      ∙ ap (λ l. row workers (g workers) (used calls workers (g workers)) ++ l)
      (rows_same more (suc workers) calls (less more workers h))

  enough_same : (more workers span : ℕ) → Alike more workers → enough_from more workers span f ≡ enough_from more workers span g
  unfolding enough_from
  enough_same zero workers span h = refl
  enough_same (suc more) workers span h =
      let here : f workers ≡ g workers = h workers (omega arith) (omega arith) in
      ap (λ k. cond (eqb k span) (Some workers) (enough_from more (suc workers) span f)) here
      ∙ ap (λ k. cond (eqb (g workers) span) (Some workers) k) (enough_same more (suc workers) span (less more workers h))

  pub lines_same : (calls span : ℕ) → Alike 16 1 → table_lines calls span f ≡ table_lines calls span g
  unfolding table_lines
  lines_same calls span h =
      let front : List ℕ = calls_word ++ line calls ++ span_word ++ line span in
      ap (λ l. front ++ l ++ enough_line (enough_from 16 1 span f)) (rows_same 16 1 calls h)
      ∙ ap (λ k. front ++ rows 16 1 calls g ++ enough_line k) (enough_same 16 1 span h)

-- What is printed, by what open answers.
module _ (jobs library : List ℕ) where
  abbrev Case : Type 1
  Case = AskedCase jobs (memory_of library) fixed_weights

  abbrev Opens : Result RoundsTable OpenRefusal → Type 0
  Opens r = TabledAs jobs (memory_of library) fixed_weights (open_asked jobs (memory_of library) fixed_weights) r

  as_open :
      (r : Result RoundsTable OpenRefusal) (a : Asked Semantics.Run) → Opens r
      → open_asked jobs (memory_of library) fixed_weights ≡ a → TabledAs jobs (memory_of library) fixed_weights a r
  as_open r a h e = subst (λ x. TabledAs jobs (memory_of library) fixed_weights x r) e h

  pub text_refused : (k : OpenRefusal) → Opens (Err k) → rounds_text jobs library ≡ refused_line (open_number k)
  unfolding rounds_text files_asked rounds_asked open_asked printed
  text_refused k h = sort (asked_case jobs (memory_of library) fixed_weights)
    where
      sort : Case → rounds_text jobs library ≡ refused_line (open_number k)
      sort (denied j some e) =
          ap (printed (λ workers. rounds_in (files_asked jobs library workers))) (e Report (λ c. report c (memory_of library) 1))
          ∙ ap refused_line (sym (as_open (Err k) (denies j) h (e Semantics.Run (λ c. initial c (memory_of library)))))
      sort (given l listed fits ok e) =
          absurd (as_open (Err k) (gives (initial (Semantics.context l fixed_weights) (memory_of library))) h
          (e Semantics.Run (λ c. initial c (memory_of library))))

  pub text_given :
      (t : RoundsTable) → Opens (Ok t) → rounds_text jobs library ≡ table_lines (calls_in t) t.span (rounds_at t)
  unfolding rounds_text files_asked open_asked printed
  text_given t h = sort (asked_case jobs (memory_of library) fixed_weights)
    where
      sort : Case → rounds_text jobs library ≡ table_lines (calls_in t) t.span (rounds_at t)
      sort (denied k some e) =
          absurd (as_open (Ok t) (denies k) h (e Semantics.Run (λ c. initial c (memory_of library))))
      sort (given l listed fits ok e) =
          let reports = as_open (Ok t) (gives (initial (Semantics.context l fixed_weights) (memory_of library))) h
          (e Semantics.Run (λ c. initial c (memory_of library))) in
          ap (printed (λ workers. rounds_in (files_asked jobs library workers))) (reports 1 (omega arith) (omega arith))
          ∙ lines_same (λ workers. rounds_in (files_asked jobs library workers)) (rounds_at t) (calls_in t) t.span
          (λ p least most. unfold rounds_in in ap rounds_in (reports p (omega arith) (omega arith)))
