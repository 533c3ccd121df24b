-- The rounds one after another: those counted so far and those from the present run on are the model's. Assumes nothing.
use Prim.Native.Nat.{ℕ, zero, suc, ◌+◌, ◌-◌, ◌*◌, ◌≤◌, ◌<◌}
use mathlib.Core.Path.{◌≡◌, refl, sym, ap, ◌∙◌}
use mathlib.Core.List.{List, [], ◌∷◌}
use native.Mathlib.Omega.{arith}
use lib.ListN.{length, take, get_or, length-append}
use Rattle.semantics.specs.Call.{Call, after_all}
use Rattle.model_rounds.specs.Rounds.{round_calls, rounds_from, all_calls, most_rounds}
use Rattle.model_rounds.proofs.Round.{no_rounds, rounds_none, rounds_some}
use Rattle.plans.specs.View as Of
use Rattle.runtime.specs.declared.Run.{Run}
use Rattle.runtime.specs.View.{model, context_of, SoundRun}
use Rattle.runtime.specs.Calls.{CallsMade}
use Rattle.runtime.proofs.ViewLaws.{same_context}
use Rattle.run_rounds.specs.declared.Batch.{Batch}
use Rattle.run_rounds.specs.Looking.{batch_calls, BatchOf, TallyOf}

-- a task is left in the model where one is left in the code
front : (o : List ℕ) (left : ℕ) → 0 < length o → (left ≡ 0 → ⊥) → (rest : List ℕ) × (take left o ≡ get_or o 0 0 ∷ rest)
front [] left l h = let z : ⊥ = omega arith in absurd z
front (n ∷ o) zero l h = absurd (h refl)
front (n ∷ o) (suc k) l h = (take k o, refl)

module _ (from : Run) (workers : ℕ) where
  -- the rounds from the run r on that are left after so many
  abbrev later : ℕ → Run → List (List Call)
  later rounds r = rounds_from (context_of from) workers (4352 - rounds) (model r)

  -- What holds in the loop.
  pub record Counting (r : Run) (made counted : ℕ) : Type 0 where
    pub within : made ≤ 4352
    pub few : counted ≤ 128 * made
    pub list : r.tables ≡ from.tables
    pub weights : r.weights ≡ from.weights
    pub sound : SoundRun from → SoundRun r
    pub rounds : SoundRun from → made + length (later made r) ≡ length (later 0 from)
    pub calls : SoundRun from → counted + length (all_calls (later made r)) ≡ length (all_calls (later 0 from))

  pub counting_none : Counting from 0 0
  counting_none =
      record {
        within = omega arith;
        few = omega arith;
        list = refl;
        weights = refl;
        sound = λ s. s;
        rounds = λ s. omega arith;
        calls = λ s. omega arith;
      }

  module _ (r : Run) (rounds calls : ℕ) (h : Counting r rounds calls) where
    tallied : (SoundRun from → later rounds r ≡ []) → TallyOf from workers (record { rounds = rounds; calls = calls })
    unfolding most_rounds all_calls
    tallied none =
        record {
          rounds = λ s. omega (arith, h.rounds s, ap length (none s));
          calls = λ s. omega (arith, h.calls s, ap (λ x. length (all_calls x)) (none s));
          few_rounds = h.within;
          few_calls = omega (arith, h.within, h.few);
        }

    pub counted_out : r.order.left ≡ 0 → TallyOf from workers (record { rounds = rounds; calls = calls })
    counted_out q = tallied (λ s. rounds_none (context_of from) workers (4352 - rounds) (model r) nobody)
      where
        nobody : (model r).order ≡ []
        nobody = unfold Of.model in ap (λ k. take k r.order.places) q

    pub counted_most : 4352 ≤ rounds → TallyOf from workers (record { rounds = rounds; calls = calls })
    counted_most q =
        tallied
        (λ s.
        let z : 4352 - rounds ≡ 0 = omega arith in
        ap (λ k. rounds_from (context_of from) workers k (model r)) z ∙ no_rounds (context_of from) workers (model r))

    -- one round more
    module _ (some : r.order.left ≡ 0 → ⊥) (more : rounds < 4352) (b : Batch) (found : BatchOf r workers b) (count : ℕ) (size : count ≡ b.count)
        (next : Run) (made : CallsMade (batch_calls b) r next)
      where
        under : context_of r ≡ context_of from
        under = same_context r from h.list h.weights

        now_calls : SoundRun from → batch_calls b ≡ round_calls (context_of from) workers (model r)
        now_calls s = found.calls (h.sound s) ∙ ap (λ c. round_calls c workers (model r)) under

        one_round : (s : SoundRun from) → later rounds r ≡ batch_calls b ∷ later (rounds + 1) next
        one_round s =
            let left = front r.order.places r.order.left (omega (arith, (h.sound s).order)) some in
            let fuel : 4352 - rounds ≡ suc (4352 - (rounds + 1)) = omega arith in
            ap (λ k. rounds_from (context_of from) workers k (model r)) fuel
            ∙ rounds_some (context_of from) workers (4352 - (rounds + 1)) (get_or r.order.places 0 0) left.0 (model r) (unfold Of.model in left.1)
            ∙ ap (λ bs. bs ∷ rounds_from (context_of from) workers (4352 - (rounds + 1)) (after_all (context_of from) (model r) bs))
            (sym (now_calls s))
            ∙ ap (λ m. batch_calls b ∷ rounds_from (context_of from) workers (4352 - (rounds + 1)) m)
            (ap (λ c. after_all c (model r) (batch_calls b)) (sym under) ∙ sym (made.run (h.sound s)))

        pub counting_more : Counting next (rounds + 1) (calls + count)
        unfolding all_calls
        counting_more =
            record {
              within = omega arith;
              few = omega (arith, h.few, found.few);
              list = made.list ∙ h.list;
              weights = made.weights ∙ h.weights;
              sound = λ s. made.sound (h.sound s);
              rounds = λ s. omega (arith, h.rounds s, ap length (one_round s));
              calls =
                  λ s.
                  omega (
                    arith,
                    h.calls s,
                    ap (λ x. length (all_calls x)) (one_round s),
                    length-append (batch_calls b) (all_calls (later (rounds + 1) next)),
                    found.counted (h.sound s),
                  );
            }
