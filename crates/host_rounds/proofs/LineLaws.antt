-- The lines of the table, and how long they are. Assumes nothing.
use Rattle.std.proofs.Common.{ℕ, zero, suc, ◌+◌, ◌-◌, ◌*◌, ◌/◌, ◌^◌, ◌≤◌, ◌<◌, ◌≡◌, refl, sym, ap, ◌∙◌, List, ◌++◌, cond, eqb, arith, length, get_or}
use Rattle.std.specs.Prelude.{Option, Some, None}
use Rattle.std.specs.List.{range_with_len}
use Rattle.std.proofs.lemmas.List.FromFn.{get_or-range_with_len}
use native.Mathlib.Numerals.{add-one}
use native.Mathlib.Nat.{mul-le-mul, div-zero}
use borrow.Author.Tests.{eq-eqb, ne_eqb}
use Rattle.tasklist.specs.Encode.{joined}
use Rattle.model_rounds.specs.Rounds.{most_rounds, most_workers}
use Rattle.run_rounds.specs.declared.table.RoundsTable.{RoundsTable}
use Rattle.run_rounds.specs.declared.Tally.{Tally}
use Rattle.run_rounds.specs.Reports.{tally_at}
use Rattle.run_rounds.specs.Sizes.{most_calls}
use Rattle.wording.specs.Wording.{line}
use Rattle.host_rounds.specs.Lines.{used, row, rows, enough_from, calls_word, span_word}
use Rattle.wording.specs.Promises.{PutIf}
use Rattle.host_rounds.specs.Promises.{rounds_at, calls_in}
use Rattle.wording.proofs.PutLaws.{PutMost, put_one, put_more}

-- the workers' time and a hundred times the calls have 32 bits
pub few_time : (workers rounds : ℕ) → workers ≤ most_workers → rounds ≤ most_rounds → workers * rounds < 2 ^ 32
unfolding most_rounds
few_time workers rounds h q = let p : workers * rounds ≤ most_workers * most_rounds = mul-le-mul h q in omega (arith, p)

pub few_calls : (calls : ℕ) → calls ≤ most_calls → 100 * calls < 2 ^ 32
unfolding most_rounds
few_calls calls h = omega (arith, h)

pub no_time : (calls workers rounds : ℕ) → workers * rounds ≡ 0 → used calls workers rounds ≡ 0
unfolding used
no_time calls workers rounds z = ap (λ k. 100 * calls / k) z ∙ div-zero (100 * calls)

-- the line of a number of workers; all lines
module _ (calls : ℕ) (rounds : ℕ → ℕ) where
  abbrev pub row_of : ℕ → List ℕ
  row_of workers = row workers (rounds workers) (used calls workers (rounds workers))

  pub rows_joined : (more workers : ℕ) → joined row_of (range_with_len workers more) ≡ rows more workers calls rounds
  unfolding joined rows
  rows_joined zero workers = refl
  rows_joined (suc more) workers =
      ap (λ l. row_of workers ++ l) (ap (λ k. joined row_of (range_with_len k more)) (add-one workers) ∙ rows_joined more (suc workers))

-- The least number of workers that is enough, of those that are left.
module _ (span : ℕ) (rounds : ℕ → ℕ) where
  abbrev pub enough_left : ℕ → Option ℕ
  enough_left i = enough_from (16 - i) (i + 1) span rounds

  by_test : (i : ℕ) → i < 16 → enough_left i ≡ cond (eqb (rounds (i + 1)) span) (Some (i + 1)) (enough_left (i + 1))
  unfolding enough_from
  by_test i h =
      let one : 16 - i ≡ suc (16 - (i + 1)) = omega arith in
      let next : suc (i + 1) ≡ i + 1 + 1 = omega arith in
      ap (λ k. enough_from k (i + 1) span rounds) one
      ∙ ap (λ k. cond (eqb (rounds (i + 1)) span) (Some (i + 1)) (enough_from (16 - (i + 1)) k span rounds)) next

  pub enough_found : (i : ℕ) → i < 16 → rounds (i + 1) ≡ span → enough_left i ≡ Some (i + 1)
  enough_found i h q = by_test i h ∙ ap (λ b. cond b (Some (i + 1)) (enough_left (i + 1))) (eq-eqb (rounds (i + 1)) span q)

  pub enough_on : (i : ℕ) → i < 16 → (rounds (i + 1) ≡ span → ⊥) → enough_left i ≡ enough_left (i + 1)
  enough_on i h q = by_test i h ∙ ap (λ b. cond b (Some (i + 1)) (enough_left (i + 1))) (ne_eqb (rounds (i + 1)) span q)

  pub enough_none : enough_left 16 ≡ None
  unfolding enough_from
  enough_none = refl

-- the lines of the calls and the span
pub front_put :
    (calls span : ℕ) {out out₁ out₂ out₃ out₄ : List ℕ} {first second third fourth : ℕ} → 640 ≤ length out → PutIf 6 calls_word out 0 out₁ first
    → PutIf 11 (line calls) out₁ first out₂ second → PutIf 5 span_word out₂ second out₃ third → PutIf 11 (line span) out₃ third out₄ fourth
    → PutMost (calls_word ++ line calls ++ span_word ++ line span) out 0 out₄ fourth 33
front_put calls span room a b c d =
    put_more (put_more (put_more (put_one a (omega arith)) b (omega arith)) c (omega arith)) d (omega arith)

-- the place of a number of workers in a table
pub rounds_here : (r : RoundsTable) (i : ℕ) → rounds_at r (i + 1) ≡ (tally_at r i).rounds
rounds_here r i = let one : i + 1 - 1 ≡ i = omega arith in ap (λ k. (tally_at r k).rounds) one

-- the line of the next number of workers, as the code has it
pub row_here :
    (r : RoundsTable) (workers i : ℕ) (report : Tally) → (i < 16) × (workers ≡ i + 1) × (report ≡ tally_at r i)
    → row workers report.rounds (used (calls_in r) workers report.rounds) ≡ row_of (calls_in r) (rounds_at r) (get_or (range_with_len 1 16) i 0)
row_here r workers i report turn =
    let next : workers ≡ get_or (range_with_len 1 16) i 0 = omega (arith, turn.1, get_or-range_with_len 1 16 i 0 turn.0) in
    let rounds : report.rounds ≡ rounds_at r workers =
    ap (λ t. t.rounds) turn.2 ∙ sym (rounds_here r i) ∙ ap (rounds_at r) (sym turn.1) in
    ap (λ k. row workers k (used (calls_in r) workers k)) rounds ∙ ap (row_of (calls_in r) (rounds_at r)) next
