-- The report: the workers are tested first, then open's refusal is handed on, else the rounds of the fresh run are reported. Assumes
-- nothing.
use Prim.Native.Nat.{ℕ, ◌≤◌, ◌<◌}
use mathlib.Core.Path.{◌≡◌, refl, sym, ap, ◌∙◌}
use mathlib.Core.List.{List}
use native.Mathlib.Omega.{arith}
use lib.ListN.{length}
use borrow.Author.Tests.{le-leb, lt-leb}
use Rattle.tasklist.specs.Decode.{decode}
use Rattle.semantics.specs.Run.{initial}
use Rattle.semantics.specs.Operations.{gives, with_list, open_asked}
use Rattle.model_rounds.specs.Rounds.{rounds_from, all_calls, most_rounds, publication, report, rounds_asked}
use Rattle.std.specs.Prelude.{Ok, Err}
use Rattle.runtime.specs.declared.Run.{Run}
use Rattle.runtime.specs.declared.OpenRefusal.{OpenRefusal}
use Rattle.runtime.specs.View.{context_of}
use Rattle.runtime.specs.Asked.{OpenedAs}
use Rattle.sequence.proofs.ReplayLaws.{still_unopened, now_fresh}
use Rattle.run_rounds.specs.declared.RoundsRefusal.TheVariants.{Workers, Unopened}
use Rattle.run_rounds.specs.declared.Tally.{Tally}
use Rattle.run_rounds.specs.Reports.{reported}
use Rattle.run_rounds.specs.Looking.{TallyOf}

module _ (workers : ℕ) (bytes memory weights : List ℕ) where
  -- "24 for P outside 1 to 16, before all else"
  pub too_few : workers < 1 → reported (Err Workers) ≡ rounds_asked workers bytes memory weights
  unfolding rounds_asked
  too_few h = sym (rw (lt-leb 1 workers h) refl)

  pub too_many : 16 < workers → reported (Err Workers) ≡ rounds_asked workers bytes memory weights
  unfolding rounds_asked
  too_many h = sym (rw (le-leb 1 workers (omega arith), lt-leb workers 16 h) refl)

  module _ (least : 1 ≤ workers) (most : workers ≤ 16) where
    -- then as open
    pub as_open : rounds_asked workers bytes memory weights ≡ with_list (decode bytes) memory weights (λ c. report c memory workers)
    unfolding rounds_asked
    as_open = rw (le-leb 1 workers least, le-leb workers 16 most) refl

    pub not_opened :
        (k : OpenRefusal) → OpenedAs bytes weights (open_asked bytes memory weights) (Err k)
        → reported (Err (Unopened k)) ≡ rounds_asked workers bytes memory weights
    not_opened k h = sym (as_open ∙ still_unopened bytes memory weights k h (λ c. report c memory workers))

    -- a fresh run's rounds are reported
    module _ (run : Run) (h : OpenedAs bytes weights (open_asked bytes memory weights) (Ok run))
        (asked whole : Tally) (mine : TallyOf run workers asked) (all : TallyOf run 128 whole)
      where
        pub reports_with :
            rounds_asked workers bytes memory weights
            ≡ gives (record { rounds = asked.rounds; calls = asked.calls; span = whole.rounds })
        unfolding report publication
        reports_with =
            let w = now_fresh bytes memory weights run h (λ c. report c memory workers) in
            let s = w.0.sound in
            let c = context_of run in
            as_open ∙ w.1
            ∙ sym
            (ap (λ k. gives (record { rounds = k; calls = asked.calls; span = whole.rounds })) (mine.rounds s ∙ ap (λ m. length (rounds_from c workers most_rounds m)) w.0.run)
            ∙ ap (λ k. gives (record { rounds = length (rounds_from c workers most_rounds (initial c memory)); calls = k; span = whole.rounds }))
            (mine.calls s ∙ ap (λ m. length (all_calls (rounds_from c workers most_rounds m))) w.0.run)
            ∙ ap
            (λ k.
            gives
            (record {
              rounds = length (rounds_from c workers most_rounds (initial c memory));
              calls = length (all_calls (rounds_from c workers most_rounds (initial c memory)));
              span = k;
            }))
            (all.rounds s ∙ ap (λ m. length (rounds_from c 128 most_rounds m)) w.0.run))
