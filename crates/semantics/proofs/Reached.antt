-- Wherever a list of calls leads, the sequential run is still reached from there by accepted calls; what such calls count,
-- weigh and leave alone. Assumes nothing.
use Prim.Native.Nat.{ℕ, zero, suc, ◌+◌, ◌<◌}
use mathlib.Core.Path.{◌≡◌, refl, sym, ap, subst, ◌∙◌}
use mathlib.Core.List.{List, [], ◌∷◌}
use mathlib.Core.Option.{Option, none, some}
use mathlib.Core.Logic.{◌⊎◌, inl, inr}
use native.Mathlib.Omega.{arith}
use lib.ListN.{length}
use Rattle.tasklist.specs.Accepted.{Accepted}
use Rattle.semantics.specs.Run.{Run, Context, task_of, initial}
use Rattle.semantics.specs.Effect.{Effect}
use Rattle.semantics.specs.Call.{Call, Outcome, refuse, accept, decide, apply, taken, call, or_same, after, after_all, one_if, accepted_count, outcome_weight, weight_sum}
use Rattle.semantics.specs.Sequential.{sequential, trace}
use Rattle.semantics.specs.Sound.{In, Valid}
use Rattle.semantics.proofs.Confluence.{Reach, Terminal, terminal_refuses, strip}
use Rattle.semantics.proofs.Apply.{touched, numbers_in, task_other}
use Rattle.semantics.proofs.Decide.{Accepts, call_accept}
use Rattle.semantics.proofs.Valid.{never_state, made_is_future}
use Rattle.semantics.proofs.Diamond.{diamond}
use Rattle.semantics.proofs.Kept.{call_valid, initial_valid}
use Rattle.semantics.proofs.Sequential.{Makes, sequential_whole}

-- a run with no task left accepts no call
pub empty_refuses : (c : Context) (r : Run) → r.order ≡ [] → Terminal (call c) r
empty_refuses c r q b = look (call c r b) refl
  where
    look : (o : Option Run) → call c r b ≡ o → call c r b ≡ none
    look none h = h
    look (some r') h = absurd (subst (In b.task) q (call_accept c r b r' h).1.present)

pub makes_reach : (c : Context) (bs : List Call) (r r' : Run) → Makes c r bs r' → Reach (call c) r' (length bs) r
makes_reach c [] r r' h = h
makes_reach c (b ∷ bs) r r' h = (b, h.0, h.1, makes_reach c bs h.0 r' h.2)

-- calls and weight
pub apply_calls : (c : Context) (r r' : Run) (b : Call) → call c r b ≡ some r' → r'.calls ≡ suc r.calls
unfolding apply
apply_calls c r r' b q = ap (λ x. x.calls) (sym (call_accept c r b r' q).2)

pub reach_calls : (c : Context) (f : Run) (n : ℕ) (r : Run) → Reach (call c) f n r → f.calls ≡ r.calls + n
reach_calls c f zero r q = ap (λ x. x.calls) (sym q) ∙ omega arith
reach_calls c f (suc n) r q =
    let h = reach_calls c f n q.1 q.3 in
    let k = apply_calls c r q.1 q.0 q.2 in
    omega arith

pub calls_counted : (c : Context) (bs : List Call) (r : Run) → (after_all c r bs).calls ≡ r.calls + accepted_count c r bs
unfolding after_all accepted_count
calls_counted c [] r = omega arith
calls_counted c (b ∷ bs) r = look (call c r b) refl (calls_counted c bs (after c r b))
  where
    look :
        (o : Option Run) → call c r b ≡ o
        → (after_all c (after c r b) bs).calls ≡ (after c r b).calls + accepted_count c (after c r b) bs
        → (after_all c (after c r b) bs).calls ≡ r.calls + (one_if (call c r b) + accepted_count c (after c r b) bs)
    look none q h =
        let k : (after c r b).calls ≡ r.calls = unfold after in ap (λ x. (or_same r x).calls) q in
        let j : one_if (call c r b) ≡ 0 = ap one_if q in
        omega arith
    look (some r') q h =
        let k : (after c r b).calls ≡ r'.calls = unfold after in ap (λ x. (or_same r x).calls) q in
        let s = apply_calls c r r' b q in
        let j : one_if (call c r b) ≡ 1 = ap one_if q in
        omega arith

weight_after : (c : Context) (r : Run) (b : Call) → (after c r b).weight ≡ r.weight + outcome_weight (decide c r b)
unfolding after call
weight_after c r b = look (decide c r b)
  where
    look : (o : Outcome) → (or_same r (taken r b.task o)).weight ≡ r.weight + outcome_weight o
    look (refuse k) = unfold taken in omega arith
    look (accept e) = unfold taken apply in refl

pub weight_summed : (c : Context) (bs : List Call) (r : Run) → (after_all c r bs).weight ≡ r.weight + weight_sum c r bs
unfolding after_all weight_sum
weight_summed c [] r = omega arith
weight_summed c (b ∷ bs) r =
    let h = weight_summed c bs (after c r b) in
    let k = weight_after c r b in
    omega arith

module _ (c : Context) (ok : Accepted c.list) where
  -- an ended task's record is never written again
  pub ended_stays :
      (r r' : Run) (b : Call) (n : ℕ) → Valid c r → call c r b ≡ some r' → (task_of r n).state ≡ 3
      → task_of r' n ≡ task_of r n
  ended_stays r r' b n v q s = subst (λ x. task_of x n ≡ task_of r n) h.2 (task_other b.task h.0 r n absent)
    where
      h : (e : Effect) × Accepts c r b e × (apply b.task e r ≡ r')
      h = call_accept c r b r' q

      active : ((task_of r b.task).state ≡ 1) ⊎ ((task_of r b.task).state ≡ 2) → (task_of r b.task).state ≡ 3 → ⊥
      active (inl p) e = omega arith
      active (inr p) e = omega arith

      absent : In n (touched b.task h.0) → ⊥
      absent (inl p) = active (v.active b.task h.1.present) (ap (λ k. (task_of r k).state) (sym p) ∙ s)
      absent (inr i) =
          let x = numbers_in n h.0.made i in
          let blank = v.blank b.task x.0.number h.1.present (made_is_future c ok r v b h.0 h.1 x.0 x.1) in
          let zero_state : (task_of r n).state ≡ 0 = ap (λ t. t.state) (ap (task_of r) x.2 ∙ blank) ∙ never_state in
          omega (arith, s)

  pub reach_ended :
      (f : Run) (m : ℕ) (r : Run) (n : ℕ) → Valid c r → Reach (call c) f m r → (task_of r n).state ≡ 3
      → task_of r n ≡ task_of f n
  reach_ended f zero r n v q s = ap (λ x. task_of x n) q
  reach_ended f (suc m) r n v q s =
      let same = ended_stays r q.1 q.0 n v q.2 s in
      sym same
      ∙ reach_ended f m q.1 n (call_valid c ok r q.1 q.0 v q.2) q.3 (ap (λ t. t.state) same ∙ s)

  -- the calls that are left from where a list of calls leads
  pub lead_on :
      (f : Run) → Terminal (call c) f → (bs : List Call) (n : ℕ) (r : Run) → Valid c r → Reach (call c) f n r
      → (m : ℕ) × Reach (call c) f m (after_all c r bs) × Valid c (after_all c r bs)
  unfolding after_all
  lead_on f end [] n r v q = (n, q, v)
  lead_on f end (b ∷ bs) n r v q = look (call c r b) refl (lead_on f end bs)
    where
      look :
          (o : Option Run) → call c r b ≡ o
          → ((n : ℕ) (r : Run) → Valid c r → Reach (call c) f n r → (m : ℕ) × Reach (call c) f m (after_all c r bs) × Valid c (after_all c r bs))
          → (m : ℕ) × Reach (call c) f m (after_all c (after c r b) bs) × Valid c (after_all c (after c r b) bs)
      look none h ih =
          let same : r ≡ after c r b = unfold after in ap (or_same r) (sym h) in
          ih n (after c r b) (subst (Valid c) same v) (subst (Reach (call c) f n) same q)
      look (some r') h ih =
          let same : r' ≡ after c r b = unfold after in ap (or_same r) (sym h) in
          let s = strip (call c) (Valid c) (call_valid c ok) (diamond c ok) f end n r r' b v q h in
          ih s.0 (after c r b) (subst (Valid c) same (call_valid c ok r r' b v h)) (subst (Reach (call c) f s.0) same s.2)

  module _ (memory : List ℕ) where
    pub sequential_ends : (sequential c memory).order ≡ []
    sequential_ends = (sequential_whole c ok memory).order

    -- from wherever the calls lead, the sequential run is reached
    pub sequential_ahead :
        (bs : List Call)
        → (m : ℕ) × Reach (call c) (sequential c memory) m (after_all c (initial c memory) bs) × Valid c (after_all c (initial c memory) bs)
    sequential_ahead bs =
        lead_on (sequential c memory) (empty_refuses c (sequential c memory) sequential_ends) bs
        (length (trace c memory)) (initial c memory) (initial_valid c ok memory)
        (makes_reach c (trace c memory) (initial c memory) (sequential c memory) (sequential_whole c ok memory).makes)

    -- a run that leads on to it makes a call, or has no task left and is it
    pub some_call :
        (m : ℕ) (r : Run) → Reach (call c) (sequential c memory) m r → (r.order ≡ [] → ⊥)
        → (b : Call) × (b.task < 128) × (r' : Run) × (call c r b ≡ some r')
    some_call zero r q left = absurd (left (ap (λ x. x.order) q ∙ sequential_ends))
    some_call (suc m) r q left = (q.0, (call_accept c r q.0 q.1 q.2).1.below, q.1, q.2)

    pub is_sequential :
        (m : ℕ) (r : Run) → Reach (call c) (sequential c memory) m r → r.order ≡ [] → r ≡ sequential c memory
    is_sequential zero r q empty = q
    is_sequential (suc m) r q empty = absurd (terminal_refuses (call c) r r q.1 q.0 (empty_refuses c r empty) refl q.2)
