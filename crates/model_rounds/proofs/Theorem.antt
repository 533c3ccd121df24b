-- Request 111, in one piece. While a task is left each round makes a call, and no run has more than 4,352. Every choice that
-- finishes makes the hand run's calls, each of them accepted. Assumes nothing.
use Prim.Native.Nat.{ℕ, zero, suc, ◌+◌, ◌-◌, ◌*◌, ◌≤◌}
use mathlib.Core.Path.{◌≡◌, refl, sym, ap, subst, ◌∙◌}
use mathlib.Core.List.{List, [], ◌∷◌, ◌++◌}
use native.Mathlib.Omega.{arith}
use native.Mathlib.Nat.{mul-suc}
use lib.ListN.{length, get_or, length-append}
use Rattle.tasklist.specs.TaskList.{total}
use Rattle.tasklist.specs.Accepted.{Accepted}
use Rattle.semantics.specs.Run.{Run, Context, weight_of, initial}
use Rattle.semantics.specs.Call.{Call, call, after, after_all, accepted_count}
use Rattle.semantics.specs.Sequential.{sequential, trace}
use Rattle.semantics.specs.Operations.{Library}
use Rattle.semantics.specs.Sound.{Valid}
use Rattle.semantics.proofs.Confluence.{Reach}
use Rattle.semantics.proofs.Kept.{initial_valid}
use Rattle.semantics.proofs.Sequential.{sequential_whole}
use Rattle.semantics.proofs.Reached.{empty_refuses, makes_reach, reach_calls, calls_counted, lead_on, sequential_ends}
use Rattle.semantics.proofs.Guarantee.{guarantee}
use Rattle.semantics.proofs.Sound.{sequential_sound}
use Rattle.semantics.proofs.Bounds.{calls_most}
use Rattle.model_rounds.specs.Rounds.{round_calls, rounds_from, all_calls, most_rounds, publication, all_workers, report}
use Rattle.model_rounds.specs.Statement.{Choice, Finishes, RoundsTheorem}
use Rattle.model_rounds.proofs.Together.{after_valid, together_accepted}
use Rattle.model_rounds.proofs.Round.{round_chosen, chosen_together, round_some, no_rounds, rounds_by}
use Rattle.model_rounds.proofs.Rounds.{after_round, upper_bound, lower_bound}

count_append :
    (c : Context) (bs ds : List Call) (r : Run)
    → accepted_count c r (bs ++ ds) ≡ accepted_count c r bs + accepted_count c (after_all c r bs) ds
unfolding accepted_count after_all
count_append c [] ds r = omega arith
count_append c (b ∷ bs) ds r = let h = count_append c bs ds (after c r b) in omega arith

choice_few :
    (c : Context) (workers : ℕ) (rounds : List (List Call)) (r : Run) → Choice c workers r rounds
    → length (all_calls rounds) ≤ workers * length rounds
unfolding Choice all_calls
choice_few c workers [] r h = omega arith
choice_few c workers (bs ∷ rounds) r h =
    let later = choice_few c workers rounds (after_all c r bs) h.1 in
    omega (arith, h.0.few, length-append bs (all_calls rounds), mul-suc workers (length rounds))

module _ (c : Context) (ok : Accepted c.list) (workers : ℕ) where
  -- "All reported calls are accepted.", and so are those of every choice
  choice_accepted :
      (rounds : List (List Call)) (r : Run) → Valid c r → Choice c workers r rounds
      → accepted_count c r (all_calls rounds) ≡ length (all_calls rounds)
  unfolding Choice all_calls
  choice_accepted [] r v h = unfold accepted_count in refl
  choice_accepted (bs ∷ rounds) r v h =
      let first = together_accepted c ok bs r v (chosen_together c r workers bs h.0) in
      let later = choice_accepted rounds (after_all c r bs) (after_valid c ok bs r v) h.1 in
      omega (arith, count_append c bs (all_calls rounds) r, length-append bs (all_calls rounds))

  -- the reported rounds are such a choice
  pub rounds_choice : (most : ℕ) (r : Run) → Valid c r → Choice c workers r (rounds_from c workers most r)
  unfolding Choice
  rounds_choice zero r v = subst (Choice c workers r) (sym (no_rounds c workers r)) tt
  rounds_choice (suc most) r v =
      let bs = round_calls c workers r in
      let later = rounds_choice most (after_all c r bs) (after_valid c ok bs r v) in
      rounds_by c workers most r (Choice c workers r) (λ q. tt) (λ n ns q. (round_chosen c r workers v.distinct, later))

  -- the calls that are left suffice
  rounds_finish :
      (most left : ℕ) (r f : Run) → 1 ≤ workers → left ≤ most → Valid c r → Reach (call c) f left r → f.order ≡ []
      → Finishes c r (rounds_from c workers most r)
  rounds_finish zero zero r f low l v q e =
      subst (Finishes c r) (sym (no_rounds c workers r)) (unfold all_calls after_all in ap (λ x. x.order) q ∙ e)
  rounds_finish zero (suc left) r f low l v q e = let bad : ⊥ = omega arith in absurd bad
  rounds_finish (suc most) left r f low l v q e =
      rounds_by c workers most r (Finishes c r) (λ p. unfold all_calls after_all in p)
      (λ n ns p.
      ap (λ x. x.order) (after_round c bs (rounds_from c workers most r₁) r)
      ∙ rounds_finish most lead.0 r₁ f low (fewer n ns p) lead.2 lead.1 e)
    where
      bs : List Call
      bs = round_calls c workers r

      r₁ : Run
      r₁ = after_all c r bs

      lead : (m : ℕ) × Reach (call c) f m r₁ × Valid c r₁
      lead = lead_on c ok f (empty_refuses c f e) bs left r v q

      fewer : (n : ℕ) (ns : List ℕ) → r.order ≡ n ∷ ns → lead.0 ≤ most
      fewer n ns p =
          omega (
            arith,
            reach_calls c f left r q,
            reach_calls c f lead.0 r₁ lead.1,
            calls_counted c bs r,
            together_accepted c ok bs r v (chosen_together c r workers bs (round_chosen c r workers v.distinct)),
            round_some c ok r v workers n ns low p,
          )

-- a choice that finishes makes as many calls as the hand run
finished_calls :
    (c : Context) → Accepted c.list → (memory : List ℕ) (workers : ℕ) (rounds : List (List Call))
    → Choice c workers (initial c memory) rounds → Finishes c (initial c memory) rounds
    → length (all_calls rounds) ≡ (sequential c memory).calls
finished_calls c ok memory workers rounds h q =
    let g = guarantee c ok memory (all_calls rounds) in
    sym (choice_accepted c ok workers rounds (initial c memory) (initial_valid c ok memory) h)
    ∙ sym g.counted
    ∙ ap (λ x. x.calls) (g.whole q)

weight_below : (ws : List ℕ) (place : ℕ) → get_or ws place 0 ≤ total (λ w. w) ws
unfolding total
weight_below [] place = omega arith
weight_below (w ∷ ws) zero = omega arith
weight_below (w ∷ ws) (suc place) = let h = weight_below ws place in omega arith

module _ (c : Context) (ok : Accepted c.list) (memory : List ℕ) (lib : Library c memory) where
  -- 34 calls for each of 128 tasks, whatever the weights
  hand_most : (sequential c memory).calls ≤ 4352
  hand_most =
      let most = 16 * total (λ w. w) c.weights in
      calls_most c most (sequential c memory) (sequential_sound c ok most light memory lib.fits lib.small)
    where
      light : (place : ℕ) → 16 * weight_of c place ≤ 16 * total (λ w. w) c.weights
      light place = let h = weight_below c.weights place in unfold weight_of in omega arith

  publication_finishes : (workers : ℕ) → 1 ≤ workers → Finishes c (initial c memory) (publication c memory workers)
  unfolding publication most_rounds
  publication_finishes workers low =
      rounds_finish c ok workers most_rounds (length (trace c memory)) (initial c memory) (sequential c memory) low
      (omega (arith, reach_calls c (sequential c memory) (length (trace c memory)) (initial c memory) lead, hand_most))
      (initial_valid c ok memory) lead (sequential_ends c ok memory)
    where
      lead : Reach (call c) (sequential c memory) (length (trace c memory)) (initial c memory)
      lead =
          makes_reach c (trace c memory) (initial c memory) (sequential c memory) (sequential_whole c ok memory).makes

pub rounds_hold : RoundsTheorem
unfolding report publication
rounds_hold c ok memory lib zero low = let bad : ⊥ = omega arith in absurd bad
rounds_hold c ok memory lib (suc others) low =
    record {
      finishes = done;
      choice = chosen;
      accepted = choice_accepted c ok (suc others) mine r₀ v₀ chosen;
      upper =
          let less : suc others - 1 ≡ others = omega arith in
          omega (
            arith,
            ap (λ k. k * length (publication c memory all_workers)) less,
            upper_bound c ok others most_rounds r₀ v₀,
          );
      least_rounds = λ rounds h q. omega (arith, lower_bound c ok (suc others) most_rounds rounds r₀ v₀ h q);
      least_calls = λ rounds h q.
          omega (
            arith,
            finished_calls c ok memory (suc others) mine chosen done,
            finished_calls c ok memory (suc others) rounds h q,
            choice_few c (suc others) rounds r₀ h,
          );
    }
  where
    r₀ : Run
    r₀ = initial c memory

    v₀ : Valid c r₀
    v₀ = initial_valid c ok memory

    mine : List (List Call)
    mine = publication c memory (suc others)

    chosen : Choice c (suc others) r₀ mine
    chosen = rounds_choice c ok (suc others) most_rounds r₀ v₀

    done : Finishes c r₀ mine
    done = publication_finishes c ok memory lib (suc others) low
