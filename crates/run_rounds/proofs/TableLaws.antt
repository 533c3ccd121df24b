-- The table of reports, filled place by place with the tallies of 1 to 16 workers. Assumes nothing.
use Rattle.std.proofs.Common.{ℕ, zero, suc, ◌+◌, ◌-◌, ◌≤◌, ◌<◌, ◌≡◌, refl, sym, ap, subst, ◌∙◌, List, [], ◌∷◌, arith, length, get_or, set, replicate, Ok, Err}
use native.Mathlib.Decide.{dec_lt}
use lib.ListN.{length-set}
use lib.Seq.{get_or-set_same, get_or-set_other}
use Rattle.semantics.specs.Run.{initial}
use Rattle.semantics.specs.Operations.{open_asked}
use Rattle.model_rounds.specs.Rounds.{most_rounds}
use Rattle.runtime.specs.declared.Run.{Run}
use Rattle.runtime.specs.declared.OpenRefusal.{OpenRefusal}
use Rattle.runtime.specs.Asked.{OpenedAs}
use Rattle.sequence.proofs.ReplayLaws.{still_unopened, now_fresh}
use Rattle.run_rounds.specs.declared.table.RoundsTable.{RoundsTable}
use Rattle.run_rounds.specs.declared.Tally.{Tally}
use Rattle.run_rounds.specs.Reports.{Tabled, TabledAs}
use Rattle.run_rounds.specs.Sizes.{most_calls, TableSize}
use Rattle.run_rounds.specs.Looking.{TallyOf}
use Rattle.run_rounds.proofs.ReportLaws.{reports_with}

abbrev pub none : Tally
none = record { rounds = 0; calls = 0 }

zeros : (n k : ℕ) → ◌≡◌ {A = Tally} (get_or (replicate n none) k none) none
zeros zero k = refl
zeros (suc n) zero = refl
zeros (suc n) (suc k) = zeros n k

-- what is stored is no more than what all else is
set_most :
    (f : Tally → ℕ) (l : List Tally) (i : ℕ) (v : Tally) (most : ℕ) → ((k : ℕ) → f (get_or l k none) ≤ most) → f v ≤ most
    → (k : ℕ) → f (get_or (set l i v) k none) ≤ most
set_most f [] i v most h q k = h k
set_most f (x ∷ l) zero v most h q zero = q
set_most f (x ∷ l) zero v most h q (suc k) = h (suc k)
set_most f (x ∷ l) (suc i) v most h q zero = h zero
set_most f (x ∷ l) (suc i) v most h q (suc k) = set_most f l i v most (λ j. h (suc j)) q k

-- What holds in the loop: the first places hold their tallies.
pub record Filled (from : Run) (reports : List Tally) (i : ℕ) : Type 0 where
  pub long : length reports ≡ 16
  pub few_rounds : (k : ℕ) → (get_or reports k none).rounds ≤ most_rounds
  pub few_calls : (k : ℕ) → (get_or reports k none).calls ≤ most_calls
  pub tallies : (k : ℕ) → k < i → TallyOf from (k + 1) (get_or reports k none)

pub filled_none : (from : Run) → Filled from (replicate 16 none) 0
filled_none from =
    record {
      long = refl;
      few_rounds = λ k. omega (arith, ap (λ t. t.rounds) (zeros 16 k));
      few_calls = λ k. omega (arith, ap (λ t. t.calls) (zeros 16 k));
      tallies = λ k h. absurd (omega arith);
    }

pub filled_more :
    (from : Run) (reports : List Tally) (i : ℕ) → Filled from reports i → i < 16 → (t : Tally) → TallyOf from (i + 1) t
    → Filled from (set reports i t) (i + 1)
filled_more from reports i f below t q =
    record {
      long = length-set reports i t ∙ f.long;
      few_rounds = set_most (λ t. t.rounds) reports i t most_rounds f.few_rounds q.few_rounds;
      few_calls = set_most (λ t. t.calls) reports i t most_calls f.few_calls q.few_calls;
      tallies = λ k h. sort k h (dec_lt k i);
    }
  where
    sort : (k : ℕ) → k < i + 1 → Dec (k < i) → TallyOf from (k + 1) (get_or (set reports i t) k none)
    sort k h (yes l) = subst (TallyOf from (k + 1)) (sym (get_or-set_other reports i k t none (λ e. omega (arith, e)))) (f.tallies k l)
    sort k h (no l) =
        let same : k ≡ i = omega arith in
        subst (λ j. TallyOf from (j + 1) (get_or (set reports i t) j none)) (sym same)
        (subst (TallyOf from (i + 1)) (sym (get_or-set_same reports i t none (omega (arith, f.long)))) q)

module _ (bytes memory weights : List ℕ) where
  -- open refuses
  pub no_table :
      (k : OpenRefusal) → OpenedAs bytes weights (open_asked bytes memory weights) (Err k)
      → TabledAs bytes memory weights (open_asked bytes memory weights) (Err k)
  unfolding open_asked
  no_table k h = subst (λ a. TabledAs bytes memory weights a (Err k)) (sym (still_unopened bytes memory weights k h (λ c. initial c memory))) refl

  -- it accepts
  module _ (run : Run) (h : OpenedAs bytes weights (open_asked bytes memory weights) (Ok run))
      (reports : List Tally) (f : Filled run reports 16) (whole : Tally) (all : TallyOf run 128 whole)
    where
      abbrev table : TableSize whole.rounds reports → RoundsTable
      table size = record { span = whole.rounds; reports = reports; size = size }

      tabled : (size : TableSize whole.rounds reports) → Tabled bytes memory weights (table size)
      tabled size workers least most =
          let one : workers - 1 + 1 ≡ workers = omega arith in
          reports_with workers bytes memory weights least most run h (get_or reports (workers - 1) none) whole
          (subst (λ p. TallyOf run p (get_or reports (workers - 1) none)) one (f.tallies (workers - 1) (omega arith))) all

      pub whole_table : (size : TableSize whole.rounds reports) → TabledAs bytes memory weights (open_asked bytes memory weights) (Ok (table size))
      unfolding open_asked
      whole_table size = subst (λ a. TabledAs bytes memory weights a (Ok (table size))) (sym (now_fresh bytes memory weights run h (λ c. initial c memory)).1) (tabled size)

-- the numbers of a table whose places are all filled
pub table_size : (run : Run) (reports : List Tally) → Filled run reports 16 → (whole : Tally) → TallyOf run 128 whole → TableSize whole.rounds reports
table_size run reports f whole all =
    record { long = f.long; few_rounds = f.few_rounds; few_calls = f.few_calls; few = all.few_rounds }
