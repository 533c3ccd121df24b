-- What it means that a call is accepted, taken apart and put together again. Assumes nothing.
use Prim.Native.Nat.{ℕ, ◌<◌}
use mathlib.Core.Path.{◌≡◌, refl, sym, ap, subst, ◌∙◌}
use mathlib.Core.List.{[], ◌∷◌}
use mathlib.Core.Bool.{Bool, true, false, cond, false≢true}
use mathlib.Core.Option.{some, none-ne-some, some-injective}
use lib.ListN.{get_or}
use lib.Dec.{ltb, eqb}
use borrow.Author.Tests.{ltb-true, lt-ltb, eqb-true}
use native.Mathlib.Omega.{arith}
use Rattle.semantics.specs.Run.{Task, Run, Context, task_of}
use Rattle.semantics.specs.Access.{Access, reads, every, allowed}
use Rattle.semantics.specs.Effect.{Effect, Plan, stop, go, fetch}
use Rattle.semantics.specs.Plan.{Action, start, step, end, at_end, plan_start, plan_step, plan_end, plan}
use Rattle.semantics.specs.Call.{Call, Outcome, refuse, accept, hold, admit, settle, among, decide, apply, taken, call}
use Rattle.semantics.specs.Sound.{In}
use Rattle.semantics.proofs.Order.{among_in, in_among, and_left}

-- the plan p of task n comes to the effect e
abbrev pub Settled : Run → ℕ → Plan → Effect → Type 0
Settled r n (stop k) e = ⊥
Settled r n (go gs d) e = (every (allowed r n) gs ≡ true) × (d ≡ e)
Settled r n (fetch a f) e = (allowed r n (reads a) ≡ true) × (f (get_or r.memory a 0) ≡ e)

pub record Accepts (c : Context) (r : Run) (b : Call) (e : Effect) : Type 0 where
  pub below : b.task < 128
  pub present : In b.task r.order
  pub settled : Settled r b.task (plan c b.action b.task (task_of r b.task)) e

-- refuse and accept
abbrev effect_or : Effect → Outcome → Effect
effect_or d (refuse k) = d
effect_or d (accept e) = e

abbrev Is_accept : Outcome → Type 0
Is_accept (refuse k) = ⊥
Is_accept (accept e) = Unit {0}

pub not_refuse : (k : ℕ) (e : Effect) → refuse k ≡ accept e → ⊥
not_refuse k e q = subst Is_accept (sym q) tt

same_effect : (d e : Effect) → accept d ≡ accept e → d ≡ e
same_effect d e q = ap (effect_or d) q

cond_accept : (b : Bool) (x : Outcome) (k : ℕ) (e : Effect) → cond b x (refuse k) ≡ accept e → (b ≡ true) × (x ≡ accept e)
cond_accept true x k e q = (refl, q)
cond_accept false x k e q = absurd (not_refuse k e q)

every_one : (p : Access → Bool) (g : Access) → every p (g ∷ []) ≡ true → p g ≡ true
unfolding every
every_one p g h = and_left (p g) true h

one_every : (p : Access → Bool) (g : Access) → p g ≡ true → every p (g ∷ []) ≡ true
unfolding every
one_every p g h = rw h refl

settle_accept : (r : Run) (n : ℕ) (p : Plan) (e : Effect) → settle r n p ≡ accept e → Settled r n p e
unfolding settle admit
settle_accept r n (stop k) e q = absurd (not_refuse k e q)
settle_accept r n (go gs d) e q =
    let h = cond_accept (every (allowed r n) gs) (accept d) (hold r n gs) e q in (h.0, same_effect d e h.1)
settle_accept r n (fetch a f) e q =
    let h = cond_accept (every (allowed r n) (reads a ∷ [])) (accept (f (get_or r.memory a 0))) (hold r n (reads a ∷ [])) e q in
    (every_one (allowed r n) (reads a) h.0, same_effect (f (get_or r.memory a 0)) e h.1)

accept_settle : (r : Run) (n : ℕ) (p : Plan) (e : Effect) → Settled r n p e → settle r n p ≡ accept e
unfolding settle admit
accept_settle r n (stop k) e h = absurd h
accept_settle r n (go gs d) e h = rw h.0 (ap accept h.1)
accept_settle r n (fetch a f) e h = rw (one_every (allowed r n) (reads a) h.0) (ap accept h.1)

module _ (c : Context) (r : Run) (b : Call) where
  pub accept_decide : (e : Effect) → Accepts c r b e → decide c r b ≡ accept e
  unfolding decide
  accept_decide e h =
      rw (lt-ltb b.task 128 h.below, in_among b.task r.order h.present)
      (accept_settle r b.task (plan c b.action b.task (task_of r b.task)) e h.settled)

  pub decide_accept : (e : Effect) → decide c r b ≡ accept e → Accepts c r b e
  unfolding decide
  decide_accept e q =
      let n = b.task in
      let outcome = settle r n (plan c b.action n (task_of r n)) in
      let h = cond_accept (ltb n 128) (cond (among n r.order) outcome (refuse 10)) 9 e q in
      let k = cond_accept (among n r.order) outcome 10 e h.1 in
      record {
        below = ltb-true n 128 h.0;
        present = among_in n r.order k.0;
        settled = settle_accept r n (plan c b.action n (task_of r n)) e k.1;
      }

  pub accept_call : (e : Effect) → Accepts c r b e → call c r b ≡ some (apply b.task e r)
  unfolding call taken
  accept_call e h = rw (accept_decide e h) refl

  pub call_accept : (r' : Run) → call c r b ≡ some r' → (e : Effect) × Accepts c r b e × (apply b.task e r ≡ r')
  unfolding call taken
  call_accept r' q = go_on (decide c r b) refl q
    where
      go_on :
          (o : Outcome) → decide c r b ≡ o → taken r b.task o ≡ some r'
          → (e : Effect) × Accepts c r b e × (apply b.task e r ≡ r')
      go_on (refuse k) h s = absurd (none-ne-some r' s)
      go_on (accept e) h s = (e, decide_accept e h, some-injective (apply b.task e r) r' s)

-- when a task's own record lets a call through
abbrev pub Ready : Context → Task → Action → Type 0
Ready c t start = t.state ≡ 1
Ready c t step = (t.state ≡ 2) × (at_end c t ≡ false)
Ready c t end = (t.state ≡ 2) × (at_end c t ≡ true)

module _ (c : Context) (r : Run) (n : ℕ) (t : Task) (e : Effect) where
  settled_then : (b : Bool) (p : Plan) (k : ℕ) → Settled r n (cond b p (stop k)) e → (b ≡ true) × Settled r n p e
  settled_then true p k h = (refl, h)
  settled_then false p k h = absurd h

  settled_else : (b : Bool) (p : Plan) (k : ℕ) → Settled r n (cond b (stop k) p) e → (b ≡ false) × Settled r n p e
  settled_else true p k h = absurd h
  settled_else false p k h = (refl, h)

  pub settled_ready : (a : Action) → Settled r n (plan c a n t) e → Ready c t a
  unfolding plan plan_start plan_step plan_end
  settled_ready start h = eqb-true t.state 1 (settled_then (eqb t.state 1) _ 11 h).0
  settled_ready step h =
      let k = settled_then (eqb t.state 2) _ 13 h in
      (eqb-true t.state 2 k.0, (settled_else (at_end c t) _ 14 k.1).0)
  settled_ready end h =
      let k = settled_then (eqb t.state 2) _ 13 h in
      (eqb-true t.state 2 k.0, (settled_then (at_end c t) _ 15 k.1).0)

apart : (s : ℕ) → s ≡ 1 → s ≡ 2 → ⊥
apart s p q = omega arith

-- a task's record lets at most one kind of call through
pub one_action : (c : Context) (t : Task) (a b : Action) → Ready c t a → Ready c t b → a ≡ b
one_action c t start start h k = refl
one_action c t start step h k = absurd (apart t.state h k.0)
one_action c t start end h k = absurd (apart t.state h k.0)
one_action c t step start h k = absurd (apart t.state k h.0)
one_action c t step step h k = refl
one_action c t step end h k = absurd (false≢true (sym h.1 ∙ k.1))
one_action c t end start h k = absurd (apart t.state k h.0)
one_action c t end step h k = absurd (false≢true (sym k.1 ∙ h.1))
one_action c t end end h k = refl

-- two accepted calls of one task are one and the same
pub one_call :
    (c : Context) (r r₁ r₂ : Run) (b b' : Call) → call c r b ≡ some r₁ → call c r b' ≡ some r₂ → b.task ≡ b'.task → b ≡ b'
one_call c r r₁ r₂ b b' p q n = λ i. record { action = same i; task = n i }
  where
    ready : (d : Call) (r' : Run) → call c r d ≡ some r' → Ready c (task_of r d.task) d.action
    ready d r' h =
        let x = call_accept c r d r' h in settled_ready c r d.task (task_of r d.task) x.0 d.action x.1.settled

    same : b.action ≡ b'.action
    same =
        one_action c (task_of r b.task) b.action b'.action (ready b r₁ p)
        (subst (λ m. Ready c (task_of r m) b'.action) (sym n) (ready b' r₂ q))
