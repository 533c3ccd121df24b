-- What a sound run's tables need: the order has at most 128 places and room for each task that is made, and no counter comes
-- near 2^32. Assumes nothing.
use Prim.Native.Nat.{ℕ, zero, suc, ◌+◌, ◌*◌, ◌<◌, ◌≤◌}
use mathlib.Core.Path.{◌≡◌, refl, sym, ap, subst, ◌∙◌}
use mathlib.Core.List.{List, [], ◌∷◌, ◌++◌}
use mathlib.Core.Bool.{true, false, ◌&&◌}
use mathlib.Core.Logic.{◌⊎◌, inl, inr, ◌≢◌}
use native.Mathlib.Omega.{arith}
use native.Mathlib.Decide.{ℕ_discrete}
use lib.ListN.{length, get_or, length-append, length-map}
use lib.Dec.{leb}
use borrow.Author.Tests.{leb-true}
use Rattle.tasklist.specs.Accepted.{Accepted}
use Rattle.semantics.specs.Run.{Task, Run, Context, fixed_weights, weight_places, is_weight, weight_of, task_of}
use Rattle.semantics.specs.Access.{every}
use Rattle.semantics.specs.Effect.{Effect}
use Rattle.semantics.specs.Call.{Call, splice, stays, places, apply}
use Rattle.semantics.specs.Operations.{WeightsAccepted}
use Rattle.semantics.specs.Sound.{In, Distinct, Valid, TaskSound, rank, Weighty, Sound}
use Rattle.semantics.proofs.Order.{and_left, and_right, splice_same, splice_other, splice_absent, in_splice, distinct_splice}
use Rattle.semantics.proofs.Apply.{numbers}
use Rattle.semantics.proofs.Decide.{Accepts}
use Rattle.semantics.proofs.Valid.{count_law}
use Rattle.semantics.proofs.Kept.{valid_kept}
use Rattle.semantics.proofs.Ranks.{total_most}

-- a distinct list without one number is shorter by at most one
length_without : (n : ℕ) (o : List ℕ) → Distinct o → length o ≤ suc (length (splice n [] o))
length_without n [] d = omega arith
length_without n (k ∷ o) d = sort (length_without n o d.1) (ℕ_discrete k n)
  where
    sort : length o ≤ suc (length (splice n [] o)) → Dec (k ≡ n) → length (k ∷ o) ≤ suc (length (splice n [] (k ∷ o)))
    sort ih (yes q) =
        let same : splice n [] (k ∷ o) ≡ o =
        splice_same n k [] o q ∙ splice_absent n [] o (λ i. d.0 (subst (λ x. In x o) (sym q) i)) in
        subst (λ l. suc (length o) ≤ suc (length l)) (sym same) (omega arith)
    sort ih (no q) = subst (λ l. suc (length o) ≤ suc (length l)) (sym (splice_other n k [] o q)) (omega arith)

-- distinct numbers below m are at most m
pub pigeonhole : (m : ℕ) (o : List ℕ) → Distinct o → ((k : ℕ) → In k o → k < m) → length o ≤ m
pigeonhole zero [] d h = omega arith
pigeonhole zero (k ∷ o) d h = let bad = h k (inl refl) in omega arith
pigeonhole (suc m) o d h =
    let shorter = length_without m o d in
    let rest =
    pigeonhole m (splice m [] o) (distinct_splice m [] o tt d (λ k i j. absurd i)) (λ k i. below k (in_splice k m [] o i)) in
    omega arith
  where
    below : (k : ℕ) → (In k [] × In m o) ⊎ (In k o × (k ≢ m)) → k < m
    below k (inl p) = absurd p.0
    below k (inr p) = let l = h k p.0 in let ne = p.1 in omega arith

length_splice : (n : ℕ) (xs o : List ℕ) → Distinct o → In n o → suc (length (splice n xs o)) ≡ length o + length xs
length_splice n xs [] d i = absurd i
length_splice n xs (k ∷ o) d (inl q) =
    let gone : In n o → ⊥ = λ i. d.0 (subst (λ x. In x o) q i) in
    let same : splice n xs (k ∷ o) ≡ xs ++ o =
    splice_same n k xs o (sym q) ∙ ap (λ l. xs ++ l) (splice_absent n xs o gone) in
    ap (λ l. suc (length l)) same ∙ ap suc (length-append xs o) ∙ omega arith
length_splice n xs (k ∷ o) d (inr i) =
    let other : k ≢ n = λ q. d.0 (subst (λ x. In x o) (sym q) i) in
    ap (λ l. suc (length l)) (splice_other n k xs o other) ∙ ap suc (length_splice n xs o d.1 i) ∙ omega arith

module _ (c : Context) (ok : Accepted c.list) where
  pub order_below : (r : Run) → Valid c r → (k : ℕ) → In k r.order → k < 128
  order_below r v k i =
      let q = count_law c ok (task_of r k).body in omega (arith, v.block k i, q)

  pub order_most : (r : Run) → Valid c r → length r.order ≤ 128
  order_most r v = pigeonhole 128 r.order v.distinct (order_below r v)

  -- the order's length after a call that stays
  pub order_grows :
      (r : Run) (b : Call) (e : Effect) → Valid c r → Accepts c r b e → e.leaves ≡ false
      → length (apply b.task e r).order ≡ length r.order + length e.made
  unfolding apply
  order_grows r b e v h l =
      let long = length_splice b.task (places b.task e) r.order v.distinct h.present in
      omega (arith, long, wide)
    where
      wide : length (places b.task e) ≡ length e.made + 1
      wide =
          unfold places in
          length-append (numbers e.made) (stays e.leaves b.task)
          ∙ ap (λ k. k + length (stays e.leaves b.task)) (length-map e.made (λ x. x.number))
          ∙ ap (λ x. length e.made + length (stays x b.task)) l
          ∙ (unfold stays in refl)

  -- room for the tasks made
  pub room :
      (r : Run) (b : Call) (e : Effect) → Valid c r → Accepts c r b e → e.leaves ≡ false
      → length r.order + length e.made ≤ 128
  room r b e v h l =
      let after = order_most (apply b.task e r) (valid_kept c ok r v b e h) in
      omega (arith, after, order_grows r b e v h l)

rank_most : (c : Context) (t : Task) → TaskSound c t → rank t ≤ 34
unfolding rank
rank_most c t h = let s = h.steps in let a = at t.state in omega arith
  where
    at : (k : ℕ) → get_or (0 ∷ 0 ∷ 1 ∷ 2 ∷ []) k 0 ≤ 2
    at zero = omega arith
    at (suc zero) = omega arith
    at (suc (suc zero)) = omega arith
    at (suc (suc (suc zero))) = omega arith
    at (suc (suc (suc (suc k)))) = omega arith

module _ (c : Context) (most : ℕ) (r : Run) (s : Sound c most r) where
  -- 34 calls for each of 128 tasks
  pub calls_most : r.calls ≤ 4352
  calls_most =
      let h = total_most rank r.tasks 34 (λ i. rank_most c (task_of r i) (s.tasks i)) in
      let q = s.ranks in
      let n = s.valid.size in
      omega arith

-- an accepted table's numbers
weight_at : (ws : List ℕ) → every is_weight ws ≡ true → (place : ℕ) → get_or ws place 0 ≤ 1000
unfolding every is_weight
weight_at [] h place = omega arith
weight_at (w ∷ ws) h zero =
    leb-true w 1000 (and_right (leb 1 w) (leb w 1000) (and_left (leb 1 w && leb w 1000) (every is_weight ws) h))
weight_at (w ∷ ws) h (suc place) = weight_at ws (and_right (leb 1 w && leb w 1000) (every is_weight ws) h) place

-- "code 9's per child", of at most 16
pub weights_light : (c : Context) → WeightsAccepted c.weights → (place : ℕ) → 16 * weight_of c place ≤ 16000
unfolding weight_of
weights_light c ok place = let h = weight_at c.weights ok.each place in omega arith

-- "a number not in 1 to 1000"
weight_least : (ws : List ℕ) → every is_weight ws ≡ true → (place : ℕ) → place < length ws → 1 ≤ get_or ws place 0
unfolding every is_weight
weight_least [] h place l = let z : ⊥ = omega arith in absurd z
weight_least (w ∷ ws) h zero l =
    leb-true 1 w (and_left (leb 1 w) (leb w 1000) (and_left (leb 1 w && leb w 1000) (every is_weight ws) h))
weight_least (w ∷ ws) h (suc place) l =
    weight_least ws (and_right (leb 1 w && leb w 1000) (every is_weight ws) h) place (omega arith)

pub weights_heavy : (c : Context) → WeightsAccepted c.weights → Weighty c
unfolding weight_of
weights_heavy c ok place l = weight_least c.weights ok.each place (omega (arith, ok.size))

pub fixed_accepted : WeightsAccepted fixed_weights
fixed_accepted = record { size = unfold fixed_weights weight_places in refl; each = unfold fixed_weights every is_weight in refl }

-- under such a table
module _ (c : Context) (r : Run) (s : Sound c 16000 r) where
  pub weight_most : r.weight ≤ 69632000
  weight_most = let h = calls_most c 16000 r s in let w = s.weight in omega arith

  pub weights_most : (n : ℕ) → (task_of r n).weight ≤ 69632000
  weights_most n = let h = calls_most c 16000 r s in let w = s.weights n in omega arith
