-- A run that is ahead of another stays ahead of it where both make all their ready calls, so its span is no longer. Hence both
-- bounds. A round with a call for every worker does not lengthen the span, one with fewer makes all ready calls and shortens
-- it by one; and no choice gets ahead of all ready calls. Assumes nothing.
use Prim.Native.Nat.{ℕ, zero, suc, ◌+◌, ◌*◌, ◌<◌, ◌≤◌}
use mathlib.Core.Path.{◌≡◌, refl, sym, ap, subst, ◌∙◌}
use mathlib.Core.List.{List, [], ◌∷◌}
use mathlib.Core.Option.{some}
use native.Mathlib.Omega.{arith}
use native.Mathlib.Nat.{mul-suc, mul-le-mul_left}
use native.Mathlib.Decide.{dec_lt}
use lib.ListN.{length, length-append}
use lib.Seq.{take_all, length-take-le}
use Rattle.tasklist.specs.Accepted.{Accepted}
use Rattle.semantics.specs.Run.{Run, Context}
use Rattle.semantics.specs.Call.{Call, call, after_all}
use Rattle.semantics.specs.Sound.{Valid}
use Rattle.semantics.proofs.Confluence.{Reach, terminal_refuses}
use Rattle.semantics.proofs.Kept.{call_valid}
use Rattle.semantics.proofs.Reached.{empty_refuses}
use Rattle.semantics.proofs.Turns.{Led}
use Rattle.model_rounds.specs.Rounds.{ready_calls, round_calls, rounds_from, all_calls, all_workers}
use Rattle.model_rounds.specs.Statement.{Choice, Finishes}
use Rattle.model_rounds.proofs.Together.{after_append, led_on, calls_lead, led_valid, after_valid, any_first, part_leads}
use Rattle.model_rounds.proofs.Round.{ready_in, ready_together, chosen_together, round_whole, some_ready, no_rounds, rounds_none, rounds_by}

-- the run after a round of all ready calls
abbrev all_made : Context → Run → Run
all_made c r = after_all c r (ready_calls c r)

-- the rounds with 128 workers from a run on, at most so many
abbrev pub span_from : Context → ℕ → Run → ℕ
span_from c most r = length (rounds_from c all_workers most r)

-- where no task is left, no call leads on
stuck : (c : Context) (r r' : Run) → r.order ≡ [] → Led c r r' → r'.order ≡ []
stuck c r r' q h = look h.0 h.1
  where
    look : (m : ℕ) → Reach (call c) r' m r → r'.order ≡ []
    look zero p = ap (λ x. x.order) (sym p) ∙ q
    look (suc m) p = absurd (terminal_refuses (call c) r r p.1 p.0 (empty_refuses c r q) refl p.2)

not_empty : (n : ℕ) (ns : List ℕ) → n ∷ ns ≡ [] → ⊥
not_empty n ns q = let one : suc (length ns) ≡ 0 = ap length q in let bad : ⊥ = omega arith in bad

pub after_round :
    (c : Context) (bs : List Call) (rounds : List (List Call)) (r : Run)
    → after_all c r (all_calls (bs ∷ rounds)) ≡ after_all c (after_all c r bs) (all_calls rounds)
unfolding all_calls
after_round c bs rounds r = after_append c bs (all_calls rounds) r

calls_more :
    (bs : List Call) (rounds : List (List Call)) → length (all_calls (bs ∷ rounds)) ≡ length bs + length (all_calls rounds)
unfolding all_calls
calls_more bs rounds = length-append bs (all_calls rounds)

module _ (c : Context) (ok : Accepted c.list) where
  one_ahead : (r r' : Run) (d : Call) → Valid c r → call c r d ≡ some r' → Led c (all_made c r) (all_made c r')
  one_ahead r r' d v e =
      let v' = call_valid c ok r r' d v e in
      let o = any_first c ok (ready_calls c r) r r' d v (ready_together c r v.distinct) (ready_in c r d (r', e)) e in
      subst (λ x. Led c x (all_made c r')) (sym o.1)
      (part_leads c ok o.0 (ready_calls c r') r' v' (ready_together c r' v'.distinct) o.2.once
      (λ b i. ready_in c r' b (o.2.ready b i)))

  -- a run that is ahead stays ahead
  ahead_stays : (r r' : Run) → Valid c r → Led c r r' → Led c (all_made c r) (all_made c r')
  ahead_stays r r' v h = along h.0 r v h.1
    where
      along : (m : ℕ) (x : Run) → Valid c x → Reach (call c) r' m x → Led c (all_made c x) (all_made c r')
      along zero x u q = (0, ap (all_made c) q)
      along (suc m) x u q =
          led_on c (all_made c x) (all_made c q.1) (all_made c r') (one_ahead x q.1 q.0 u q.2)
          (along m q.1 (call_valid c ok x q.1 q.0 u q.2) q.3)

  -- the span by cases: none, or a round of all ready calls and those after it
  span_by :
      (most : ℕ) (r : Run) → Valid c r → (Q : ℕ → Type 0) → (r.order ≡ [] → Q 0)
      → ((n : ℕ) (ns : List ℕ) → r.order ≡ n ∷ ns → Q (suc (span_from c most (all_made c r))))
      → Q (span_from c (suc most) r)
  span_by most r v Q none_left some_left =
      rounds_by c all_workers most r (λ rounds. Q (length rounds)) none_left
      (λ n ns q. subst (λ bs. Q (suc (span_from c most (after_all c r bs)))) (sym (round_whole c ok r v)) (some_left n ns q))

  -- a run that is ahead has no longer a span
  span_falls :
      (least most : ℕ) (r r' : Run) → least ≤ most → Valid c r → Led c r r' → span_from c least r' ≤ span_from c most r
  span_falls zero most r r' l v h = omega (arith, ap length (no_rounds c all_workers r'))
  span_falls (suc least) zero r r' l v h = let bad : ⊥ = omega arith in absurd bad
  span_falls (suc least) (suc most) r r' l v h =
      let later =
      span_falls least most (all_made c r) (all_made c r') (omega arith) (after_valid c ok (ready_calls c r) r v)
      (ahead_stays r r' v h) in
      span_by least r' (led_valid c ok r r' v h) (λ k. k ≤ span_from c (suc most) r) (λ q. omega arith)
      (λ n ns q.
      span_by most r v (λ k. suc (span_from c least (all_made c r')) ≤ k)
      (λ p. absurd (not_empty n ns (sym q ∙ stuck c r r' p h)))
      (λ k ks p. omega (arith, later)))

  -- "P × rounds is at most calls + (P − 1) × span.", P being one more than `others`
  pub upper_bound :
      (others most : ℕ) (r : Run) → Valid c r
      → suc others * length (rounds_from c (suc others) most r)
      ≤ length (all_calls (rounds_from c (suc others) most r)) + others * span_from c most r
  upper_bound others zero r v =
      let none : suc others * length (rounds_from c (suc others) 0 r) ≡ suc others * 0 =
      ap (λ rounds. suc others * length rounds) (no_rounds c (suc others) r) in
      omega (arith, none)
  upper_bound others (suc most) r v =
      rounds_by c (suc others) most r
      (λ rounds. suc others * length rounds ≤ length (all_calls rounds) + others * span_from c (suc most) r)
      (λ q. omega arith)
      (λ n ns q. sort n ns q (dec_lt (length (ready_calls c r)) (suc others)) (upper_bound others most r₁ v₁))
    where
      bs : List Call
      bs = round_calls c (suc others) r

      r₁ : Run
      r₁ = after_all c r bs

      v₁ : Valid c r₁
      v₁ = after_valid c ok bs r v

      later : List (List Call)
      later = rounds_from c (suc others) most r₁

      Claim : Type 0
      Claim = suc others * suc (length later) ≤ length (all_calls (bs ∷ later)) + others * span_from c (suc most) r

      -- a call for every worker: the span is no longer
      full :
          length bs ≡ suc others → suc others * length later ≤ length (all_calls later) + others * span_from c most r₁
          → Claim
      full size ih =
          let falls = span_falls most (suc most) r r₁ (omega arith) v (calls_lead c bs r) in
          omega (arith, ih, mul-le-mul_left others falls, calls_more bs later, size, mul-suc (suc others) (length later))

      -- fewer: all ready calls, and the span is shorter by one
      short :
          (n : ℕ) (ns : List ℕ) → r.order ≡ n ∷ ns → bs ≡ ready_calls c r
          → suc others * length later ≤ length (all_calls later) + others * span_from c most r₁ → Claim
      short n ns q whole ih =
          let one : 1 ≤ length bs = subst (λ x. 1 ≤ length x) (sym whole) (some_ready c ok r v n ns q) in
          let longer : span_from c (suc most) r ≡ suc (span_from c most r₁) =
          span_by most r v (λ k. k ≡ suc (span_from c most r₁)) (λ p. absurd (not_empty n ns (sym q ∙ p)))
          (λ k ks p. ap (λ x. suc (span_from c most (after_all c r x))) (sym whole)) in
          let product : others * span_from c (suc most) r ≡ others * span_from c most r₁ + others =
          ap (λ k. others * k) longer ∙ mul-suc others (span_from c most r₁) in
          omega (arith, ih, one, product, calls_more bs later, mul-suc (suc others) (length later))

      sort :
          (n : ℕ) (ns : List ℕ) → r.order ≡ n ∷ ns → Dec (length (ready_calls c r) < suc others)
          → suc others * length later ≤ length (all_calls later) + others * span_from c most r₁ → Claim
      sort n ns q (yes l) = short n ns q (unfold round_calls in take_all (suc others) (ready_calls c r) (omega arith))
      sort n ns q (no l) = full (unfold round_calls in length-take-le (suc others) (ready_calls c r) (omega arith))

  -- "takes at least span rounds"
  pub lower_bound :
      (workers most : ℕ) (rounds : List (List Call)) (r : Run) → Valid c r → Choice c workers r rounds → Finishes c r rounds
      → span_from c most r ≤ length rounds
  unfolding Choice
  lower_bound workers most [] r v h q =
      omega (arith, ap length (rounds_none c all_workers most r (unfold all_calls after_all in q)))
  lower_bound workers zero (bs ∷ rounds) r v h q = omega (arith, ap length (no_rounds c all_workers r))
  lower_bound workers (suc most) (bs ∷ rounds) r v h q =
      let r₁ = after_all c r bs in
      let v₁ = after_valid c ok bs r v in
      let t = chosen_together c r workers bs h.0 in
      let behind =
      part_leads c ok bs (ready_calls c r) r v (ready_together c r v.distinct) t.once
      (λ b i. ready_in c r b (t.ready b i)) in
      let falls = span_falls most most r₁ (all_made c r) (omega arith) v₁ behind in
      let left =
      lower_bound workers most rounds r₁ v₁ h.1 (ap (λ x. x.order) (sym (after_round c bs rounds r)) ∙ q) in
      span_by most r v (λ k. k ≤ suc (length rounds)) (λ p. omega arith) (λ n ns p. omega (arith, left, falls))
