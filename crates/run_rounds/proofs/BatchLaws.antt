-- The calls of a round, task by task of the order: those found so far, and those still to be found, are the model's. Assumes
-- nothing.
use Prim.Native.Nat.{ℕ, zero, suc, ◌+◌, ◌-◌, ◌≤◌, ◌<◌}
use mathlib.Core.Path.{◌≡◌, refl, sym, ap, ◌∙◌}
use mathlib.Core.List.{List, [], ◌∷◌, ◌++◌, map, append_assoc, append-nil}
use mathlib.Core.Bool.{false}
use native.Mathlib.Omega.{arith}
use native.Mathlib.Numerals.{add-one}
use lib.ListN.{length, take, drop, get_or, set, length-take, length-append, drop_of_length-le}
use lib.Seq.{drop-cons, take-suc-set}
use Rattle.semantics.specs.Access.{only}
use Rattle.semantics.specs.Call.{Call}
use Rattle.semantics.specs.Turns.{next_call}
use Rattle.model_rounds.specs.Rounds.{ready, ready_calls, round_calls}
use Rattle.arrays.specs.Places.{unended}
use Rattle.plans.specs.View as Of
use Rattle.runtime.specs.declared.Run.{Run}
use Rattle.runtime.specs.View.{parts_of, model, context_of, SoundRun}
use Rattle.runtime.specs.Calls.{calls_of_kind}
use Rattle.turns.specs.declared.Kind.{Kind}
use Rattle.turns.specs.Moves.{kind_number}
use Rattle.sequence.specs.Replays.{calls_of}
use Rattle.std.specs.Prelude.{Some}
use Rattle.run_rounds.specs.Looking.{SeenAs, BatchOf}

-- one call more behind as many kinds as tasks
calls_more :
    (ks ns : List ℕ) (k n : ℕ) → length ks ≡ length ns
    → calls_of (ks ++ (k ∷ [])) (ns ++ (n ∷ [])) ≡ calls_of ks ns ++ calls_of_kind k n
unfolding calls_of
calls_more [] [] k n q = append-nil (calls_of_kind k n)
calls_more [] (m ∷ ns) k n q = let z : ⊥ = omega (arith, q) in absurd z
calls_more (j ∷ ks) [] k n q = let z : ⊥ = omega (arith, q) in absurd z
calls_more (j ∷ ks) (m ∷ ns) k n q =
    ap (λ bs. calls_of_kind j m ++ bs) (calls_more ks ns k n (omega (arith, q)))
    ∙ sym (append_assoc (calls_of_kind j m) (calls_of ks ns) (calls_of_kind k n))

-- the calls that two arrays hold, and one stored behind them
calls_stored :
    (kinds tasks : List ℕ) (count k n : ℕ) → count < length kinds → count < length tasks
    → calls_of (take (suc count) (set kinds count k)) (take (suc count) (set tasks count n))
    ≡ calls_of (take count kinds) (take count tasks) ++ calls_of_kind k n
calls_stored kinds tasks count k n p q =
    ap (λ ks. calls_of ks (take (suc count) (set tasks count n))) (take-suc-set kinds count k p)
    ∙ ap (calls_of (take count kinds ++ (k ∷ []))) (take-suc-set tasks count n q)
    ∙ calls_more (take count kinds) (take count tasks) k n (omega (arith, length-take count kinds, length-take count tasks))

module _ (run : Run) (workers : ℕ) where
  -- the tasks in the order from place i on
  abbrev behind : ℕ → List ℕ
  behind i = drop i (model run).order

  -- the next calls of those of them that are ready, as many as workers are left
  abbrev to_come : ℕ → ℕ → List Call
  to_come spare i = take spare (map (next_call (context_of run) (model run)) (only (ready (context_of run) (model run)) (behind i)))

  -- What holds in the loop: so many calls are held, and with those to come they are the round's.
  pub record Found (kinds tasks : List ℕ) (count i : ℕ) : Type 0 where
    pub few : count ≤ i
    pub within : i ≤ 128
    pub counted : SoundRun run → count ≡ length (calls_of (take count kinds) (take count tasks))
    pub calls :
        SoundRun run
        → calls_of (take count kinds) (take count tasks) ++ to_come (workers - count) i ≡ round_calls (context_of run) workers (model run)

  pub found_none : (kinds tasks : List ℕ) → Found kinds tasks 0 0
  unfolding round_calls ready_calls calls_of
  found_none kinds tasks =
      record {
        few = omega arith;
        within = omega arith;
        counted = λ s. refl;
        calls = λ s. let all : workers - 0 ≡ workers = omega arith in ap (λ k. to_come k 0) all;
      }

  module _ (kinds tasks : List ℕ) (whole : length kinds ≡ 128) (alike : length tasks ≡ 128) (count i : ℕ) (f : Found kinds tasks count i)
    where
      batch : (SoundRun run → to_come (workers - count) i ≡ []) → BatchOf run workers (record { count = count; kinds = kinds; tasks = tasks })
      batch none =
          record {
            calls =
                λ s.
                sym (append-nil (calls_of (take count kinds) (take count tasks)))
                ∙ ap (λ bs. calls_of (take count kinds) (take count tasks) ++ bs) (sym (none s))
                ∙ f.calls s;
            counted = f.counted;
            few = omega (arith, f.few, f.within);
            kinds = whole;
            tasks = alike;
          }

      none_behind : length (unended run.order) ≤ i → behind i ≡ []
      unfolding Of.model
      none_behind h = drop_of_length-le (unended run.order) {i = i} h

      -- the order's end is reached, or the workers are used up
      pub found_last : length (unended run.order) ≤ i → BatchOf run workers (record { count = count; kinds = kinds; tasks = tasks })
      unfolding only
      found_last h =
          batch
          (λ s.
          ap (λ ns. take (workers - count) (map (next_call (context_of run) (model run)) (only (ready (context_of run) (model run)) ns)))
          (none_behind h)
          ∙ take_nothing (workers - count))
        where
          take_nothing : (k : ℕ) → take k (map (next_call (context_of run) (model run)) []) ≡ []
          take_nothing zero = refl
          take_nothing (suc k) = refl

      pub found_enough : workers ≤ count → BatchOf run workers (record { count = count; kinds = kinds; tasks = tasks })
      found_enough h = batch (λ s. let z : workers - count ≡ 0 = omega arith in ap (λ k. to_come k i) z)

      module _ (inside : i < length (unended run.order)) (task : ℕ) (here : task ≡ get_or (unended run.order) i 0) where
        next_behind : behind i ≡ task ∷ behind (suc i)
        unfolding Of.model
        next_behind = drop-cons (unended run.order) i 0 inside ∙ ap (λ n. n ∷ drop (suc i) (unended run.order)) (sym here)

        fewer : i + 1 ≤ 128
        fewer = omega (arith, length-take run.order.left run.order.places, run.order.whole)

        -- the task's next call would be refused: none is stored
        pub found_held : (SoundRun run → ready (context_of run) (model run) task ≡ false) → Found kinds tasks count (i + 1)
        unfolding only
        found_held h =
            record {
              few = omega (arith, f.few);
              within = fewer;
              counted = f.counted;
              calls =
                  λ s.
                  ap (λ bs. calls_of (take count kinds) (take count tasks) ++ bs) (ap (to_come (workers - count)) (add-one i) ∙ sym (passed s))
                  ∙ f.calls s;
            }
          where
            passed : (s : SoundRun run) → to_come (workers - count) i ≡ to_come (workers - count) (suc i)
            passed s =
                ap (λ ns. take (workers - count) (map (next_call (context_of run) (model run)) (only (ready (context_of run) (model run)) ns)))
                next_behind
                ∙ rw (h s) refl

        -- it would be accepted: it is stored
        pub found_ready :
            (found : Kind) (kind : ℕ) → kind ≡ kind_number found → SeenAs (parts_of run) task (Some found) → count < workers
            → Found (set kinds count kind) (set tasks count task) (count + 1) (i + 1)
        unfolding only
        found_ready found kind q h spare =
            record {
              few = omega (arith, f.few);
              within = fewer;
              counted =
                  λ s.
                  let more = length-append held (next s ∷ []) in
                  let size : length (calls_of (take (suc count) (set kinds count kind)) (take (suc count) (set tasks count task)))
                  ≡ length (held ++ (next s ∷ [])) = ap length (stored s) in
                  let same : length (calls_of (take (count + 1) (set kinds count kind)) (take (count + 1) (set tasks count task)))
                  ≡ length (calls_of (take (suc count) (set kinds count kind)) (take (suc count) (set tasks count task))) =
                  ap (λ k. length (calls_of (take k (set kinds count kind)) (take k (set tasks count task)))) (add-one count) in
                  omega (arith, more, size, same, f.counted s);
              calls =
                  λ s.
                  ap (λ k. calls_of (take k (set kinds count kind)) (take k (set tasks count task)) ++ to_come (workers - k) (i + 1)) (add-one count)
                  ∙ ap (λ bs. bs ++ to_come (workers - suc count) (i + 1)) (stored s)
                  ∙ append_assoc held (next s ∷ []) (to_come (workers - suc count) (i + 1))
                  ∙ ap (λ k. held ++ (next s ∷ to_come (workers - suc count) k)) (add-one i)
                  ∙ ap (λ bs. held ++ bs) (sym (first s))
                  ∙ f.calls s;
            }
          where
            held : List Call
            held = calls_of (take count kinds) (take count tasks)

            next : SoundRun run → Call
            next s = next_call (context_of run) (model run) task

            stored :
                (s : SoundRun run)
                → calls_of (take (suc count) (set kinds count kind)) (take (suc count) (set tasks count task)) ≡ held ++ (next s ∷ [])
            stored s =
                calls_stored kinds tasks count kind task (omega (arith, whole, f.few, fewer)) (omega (arith, alike, f.few, fewer))
                ∙ ap (λ bs. held ++ bs) (ap (λ k. calls_of_kind k task) q ∙ (h s).0)

            first : (s : SoundRun run) → to_come (workers - count) i ≡ next s ∷ to_come (workers - suc count) (suc i)
            first s =
                ap (λ ns. take (workers - count) (map (next_call (context_of run) (model run)) (only (ready (context_of run) (model run)) ns)))
                next_behind
                ∙ rw (h s).1 (let one : workers - count ≡ suc (workers - suc count) = omega arith in
                ap (λ k. take k (next s ∷ map (next_call (context_of run) (model run)) (only (ready (context_of run) (model run)) (behind (suc i))))) one)
