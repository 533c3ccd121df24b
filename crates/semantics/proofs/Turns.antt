-- Request 112. Wherever the other side's calls lead, all that the sequential run has done by its k-th call is done after the first
-- side's k-th turn: the run is then reached from the sequential run's, by the calls that the other side is ahead. Assumes nothing.
use Prim.Native.Nat.{ℕ, zero, suc, ◌<◌, ◌≤◌}
use mathlib.Core.Path.{◌≡◌, refl, sym, ap, subst, ◌∙◌}
use mathlib.Core.List.{List, [], ◌∷◌}
use mathlib.Core.Bool.{Bool, true, false, false≢true}
use mathlib.Core.Option.{Option, none, some}
use mathlib.Core.Logic.{◌⊎◌, inl, inr, ◌≢◌}
use native.Mathlib.Decide.{ℕ_discrete}
use native.Mathlib.Omega.{arith}
use lib.ListN.{get_or}
use lib.Dec.{eqb}
use borrow.Author.Tests.{eq-eqb, ne_eqb, eqb-true}
use Rattle.tasklist.specs.Accepted.{Accepted}
use Rattle.semantics.specs.Run.{Task, Run, Context, task_of, start_weight, end_weight, root, initial}
use Rattle.semantics.specs.Effect.{Effect, Plan, stop, go, fetch, own, in_state, leaving}
use Rattle.semantics.specs.Plan.{Action, start, step, end, at_end, needs_from, plan}
use Rattle.semantics.specs.Call.{Call, refuse, accept, among, splice, places, apply, decide, call, or_same, after, after_all, one_if}
use Rattle.semantics.specs.Sequential.{sequential, trace}
use Rattle.semantics.specs.Turns.{next_action, next_call, foremost_call, decide_move, move, after_move_by, after_move, Ply, turn, other, after_ply, after_play, turns, others_call, others_accepted, is_end, ends_at, ends_with}
use Rattle.semantics.specs.Sound.{In, Valid}
use Rattle.semantics.proofs.Confluence.{Reach, Meet, same_result}
use Rattle.semantics.proofs.Order.{and_left, and_right, among_in, in_among, splice_other}
use Rattle.semantics.proofs.Apply.{numbers, touched, numbers_in, task_other}
use Rattle.semantics.proofs.Decide.{Settled, Accepts, accept_decide, accept_call, call_accept, Ready, settled_ready, one_call}
use Rattle.semantics.proofs.Valid.{never_state, accepted_fair, made_record}
use Rattle.semantics.proofs.Diamond.{diamond}
use Rattle.semantics.proofs.Kept.{self_record, call_valid, blanks, initial_valid}
use Rattle.semantics.proofs.Front.{Stepping, stepping_plan, start_plan, end_plan, front_in, front_start, front_step, front_end}
use Rattle.semantics.proofs.Sequential.{Foremost, Makes, after_call, below, sequential_whole}
use Rattle.semantics.proofs.Reached.{ended_stays, reach_ended}

-- r is reached from s by some accepted calls
abbrev pub Led : Context → Run → Run → Type 0
Led c s r = (m : ℕ) × Reach (call c) r m s

refused_same : (c : Context) (r : Run) (b : Call) → call c r b ≡ none → after c r b ≡ r
unfolding after
refused_same c r b q = ap (or_same r) q

module _ (c : Context) where
  led_call : (m : ℕ) (s r r' : Run) (b : Call) → Reach (call c) r m s → call c r b ≡ some r' → Reach (call c) r' (suc m) s
  led_call zero s r r' b q e = (b, r', ap (λ x. call c x b) q ∙ e, refl)
  led_call (suc m) s r r' b q e = (q.0, q.1, q.2, led_call m q.1 r r' b q.3 e)

  pub led_after : (s r : Run) (b : Call) → Led c s r → Led c s (after c r b)
  led_after s r b h = look (call c r b) refl
    where
      look : (o : Option Run) → call c r b ≡ o → Led c s (after c r b)
      look none q = subst (Led c s) (sym (refused_same c r b q)) h
      look (some r') q =
          subst (Led c s) (sym (after_call c r r' b q)) (suc h.0, led_call h.0 s r r' b h.1 q)

  led_move : (s r : Run) → Led c s r → Led c s (after_move c r)
  unfolding after_move
  led_move s r h = look (foremost_call c r r.order)
    where
      look : (o : Option Call) → Led c s (after_move_by c r o)
      look none = unfold after_move_by in h
      look (some b) = unfold after_move_by in led_after s r b h

  led_play : (ps : List Ply) (s r : Run) → Led c s r → Led c s (after_play c r ps)
  unfolding after_play after_ply
  led_play [] s r h = h
  led_play (turn ∷ ps) s r h = led_play ps s (after_move c r) (led_move s r h)
  led_play (other b ∷ ps) s r h = led_play ps s (after c r b) (led_after s r b h)

  -- a play is a list of calls
  pub played : (ps : List Ply) (r : Run) → (bs : List Call) × (after_play c r ps ≡ after_all c r bs)
  unfolding after_play after_ply after_all
  played [] r = ([], refl)
  played (turn ∷ ps) r = look (played ps) (foremost_call c r r.order) refl
    where
      look :
          ((x : Run) → (bs : List Call) × (after_play c x ps ≡ after_all c x bs)) → (o : Option Call)
          → foremost_call c r r.order ≡ o → (bs : List Call) × (after_play c (after_move c r) ps ≡ after_all c r bs)
      look ih none q =
          let more = ih r in
          (more.0, unfold after_move after_move_by in ap (λ o. after_play c (after_move_by c r o) ps) q ∙ more.1)
      look ih (some b) q =
          let more = ih (after c r b) in
          (b ∷ more.0, unfold after_move after_move_by in ap (λ o. after_play c (after_move_by c r o) ps) q ∙ more.1)
  played (other b ∷ ps) r = let more = played ps (after c r b) in (b ∷ more.0, more.1)

-- the move, by the order
module _ (c : Context) (r : Run) where
  pub move_none : r.order ≡ [] → move c r ≡ refuse 25
  unfolding move foremost_call decide_move
  move_none q = ap (λ o. decide_move c r (foremost_call c r o)) q

  pub after_move_none : r.order ≡ [] → after_move c r ≡ r
  unfolding after_move foremost_call after_move_by
  after_move_none q = ap (λ o. after_move_by c r (foremost_call c r o)) q

  pub move_front : (n : ℕ) (rest : List ℕ) → r.order ≡ n ∷ rest → move c r ≡ decide c r (next_call c r n)
  unfolding move foremost_call decide_move
  move_front n rest q = ap (λ o. decide_move c r (foremost_call c r o)) q

  pub after_move_front : (n : ℕ) (rest : List ℕ) → r.order ≡ n ∷ rest → after_move c r ≡ after c r (next_call c r n)
  unfolding after_move foremost_call after_move_by
  after_move_front n rest q = ap (λ o. after_move_by c r (foremost_call c r o)) q

-- the next call of a task, by its record
module _ (c : Context) (r : Run) (n : ℕ) where
  pub next_ready : (a : Action) → Ready c (task_of r n) a → next_call c r n ≡ record { action = a; task = n }
  unfolding next_call next_action
  next_ready start h = rw (eq-eqb (task_of r n).state 1 h) refl
  next_ready step h = rw (ne_eqb (task_of r n).state 1 (λ x. omega (arith, h.0)), h.1) refl
  next_ready end h = rw (ne_eqb (task_of r n).state 1 (λ x. omega (arith, h.0)), h.1) refl

-- no call but the end is an end
end_action : (a : Action) → is_end a ≡ true → a ≡ end
unfolding is_end
end_action start h = absurd (false≢true h)
end_action step h = absurd (false≢true h)
end_action end h = refl

no_place : (n : ℕ) (bs : List Call) → ends_at n 0 bs ≡ true → ⊥
unfolding ends_at
no_place n [] h = false≢true h
no_place n (b ∷ bs) h = false≢true h

first_ends : (n : ℕ) (b : Call) (bs : List Call) → ends_at n 1 (b ∷ bs) ≡ true → (b.action ≡ end) × (b.task ≡ n)
unfolding ends_at
first_ends n b bs h = (
  end_action b.action (and_left (is_end b.action) (eqb b.task n) h),
  eqb-true b.task n (and_right (is_end b.action) (eqb b.task n) h),
)

module _ (c : Context) (ok : Accepted c.list) where
  -- the move
  pub next_accepted :
      (r : Run) (n : ℕ) (rest : List ℕ) → Valid c r → r.order ≡ n ∷ rest
      → (e : Effect) × Accepts c r (next_call c r n) e
  next_accepted r n rest v q = sort (v.active n here)
    where
      t : Task
      t = task_of r n

      here : In n r.order
      here = front_in c r n rest q v.distinct

      low : n < 128
      low = below c ok r n v here

      Next : Call → Type 0
      Next b = (e : Effect) × Accepts c r b e

      started : t.state ≡ 2 → (x : Bool) → at_end c t ≡ x → Next (next_call c r n)
      started s true a = subst Next (sym (next_ready c r n end (s, a))) (_, front_end c r n rest q v.distinct low (s, a))
      started s false a =
          let found = front_step c r n rest q v.distinct low (s, a) in
          subst Next (sym (next_ready c r n step (s, a))) (found.0, found.1)

      sort : (t.state ≡ 1) ⊎ (t.state ≡ 2) → Next (next_call c r n)
      sort (inl s) = subst Next (sym (next_ready c r n start s)) (_, front_start c r n rest q v.distinct low s)
      sort (inr s) = started s (at_end c t) refl

  -- "the only refusal of that move"
  pub move_accepted : (r : Run) → Valid c r → (r.order ≡ [] → ⊥) → (e : Effect) × (move c r ≡ accept e)
  move_accepted r v left = look r.order refl
    where
      look : (o : List ℕ) → r.order ≡ o → (e : Effect) × (move c r ≡ accept e)
      look [] q = absurd (left q)
      look (n ∷ rest) q =
          let found = next_accepted r n rest v q in
          (found.0, move_front c r n rest q ∙ accept_decide c r (next_call c r n) found.0 found.1)

  -- an accepted call of the foremost task is its next call
  move_foremost : (r r' : Run) (b : Call) → Valid c r → call c r b ≡ some r' → Foremost r b → after_move c r ≡ r'
  move_foremost r r' b v q front =
      after_move_front c r b.task front.0 front.1 ∙ ap (after c r) (sym same) ∙ after_call c r r' b q
    where
      found : (e : Effect) × Accepts c r (next_call c r b.task) e
      found = next_accepted r b.task front.0 v front.1

      same : b ≡ next_call c r b.task
      same =
          one_call c r r' _ b (next_call c r b.task) q (accept_call c r (next_call c r b.task) found.0 found.1)
          (unfold next_call in refl)

  -- it stays the foremost while others make calls
  stays_foremost : (r r' : Run) (b d : Call) → call c r d ≡ some r' → b.task ≢ d.task → Foremost r b → Foremost r' b
  stays_foremost r r' b d q ne front =
      let h = call_accept c r d r' q in
      let xs = places d.task h.0 in (
        splice d.task xs front.0,
        ap (λ x. x.order) (sym h.2)
            ∙ unfold apply in ap (splice d.task xs) front.1
            ∙ splice_other d.task b.task xs front.0 ne,
      )

  -- b leads from s to s₁ and is of the foremost task there: wherever other calls lead from s, a move leads to where s₁ leads
  catch_up :
      (m : ℕ) (s s₁ r : Run) (b : Call) → Valid c s → call c s b ≡ some s₁ → Foremost s b → Reach (call c) r m s
      → Led c s₁ (after_move c r)
  catch_up zero s s₁ r b v e front q =
      (0, sym (ap (after_move c) (sym q) ∙ move_foremost s s₁ b v e front))
  catch_up (suc m) s s₁ r b v e front q = sort (catch_up m) (ℕ_discrete b.task d.task)
    where
      d : Call
      d = q.0

      s' : Run
      s' = q.1

      sort :
          ((x x₁ y : Run) (a : Call) → Valid c x → call c x a ≡ some x₁ → Foremost x a → Reach (call c) y m x
          → Led c x₁ (after_move c y))
          → Dec (b.task ≡ d.task) → Led c s₁ (after_move c r)
      sort ih (yes p) =
          let same = same_result (call c) s s₁ s' b d (one_call c s s₁ s' b d e q.2 p) e q.2 in
          led_move c s₁ r (m, subst (Reach (call c) r m) same q.3)
      sort ih (no ne) = meet (diamond c ok s s₁ s' b d v e q.2)
        where
          meet : Meet (call c) b d s₁ s' → Led c s₁ (after_move c r)
          meet (inl p) = absurd (ne (ap (λ x. x.task) p))
          meet (inr x) =
              let more =
              ih s' x.0 r b (call_valid c ok s s' d v q.2) x.2 (stays_foremost s s' b d q.2 ne front) q.3 in
              (suc more.0, (d, x.0, x.1, more.1))

  -- a call that ends its task
  end_ends :
      (r r' : Run) (b : Call) → Valid c r → call c r b ≡ some r' → b.action ≡ end → (task_of r' b.task).state ≡ 3
  end_ends r r' b v q a =
      subst (λ x. (task_of x b.task).state ≡ 3) h.2
      (ap (λ t. t.state) (self_record c ok r v b e h.1 b.task refl) ∙ ap (λ x. x.task.state) (sym left.1))
    where
      n : ℕ
      n = b.task

      h : (e : Effect) × Accepts c r b e × (apply n e r ≡ r')
      h = call_accept c r b r' q

      e : Effect
      e = h.0

      settled : Settled r n (plan c end n (task_of r n)) e
      settled = subst (λ x. Settled r n (plan c x n (task_of r n)) e) a h.1.settled

      left : Settled r n (go [] (leaving (end_weight c) (task_of r n))) e
      left =
          subst (λ p. Settled r n p e) (end_plan c n (task_of r n) (settled_ready c r n (task_of r n) e end settled)) settled

  -- "has ended": state 3
  abbrev Ended : Run → ℕ → Type 0
  Ended r n = (task_of r n).state ≡ 3

  led_ended : (s r : Run) (n : ℕ) → Valid c s → Led c s r → Ended s n → Ended r n
  led_ended s r n v h q = ap (λ t. t.state) (sym (reach_ended c ok r h.0 s n v h.1 q)) ∙ q

  -- "job n has ended by the first side's K-th turn"
  pub ended_by :
      (ps : List Ply) (bs : List Call) (n k : ℕ) (s r f : Run) → Valid c s → Makes c s bs f → ends_at n k bs ≡ true
      → k ≤ turns ps → Led c s r → Ended (after_play c r ps) n
  unfolding after_play after_ply turns
  ended_by [] bs n zero s r f v h q l led = absurd (no_place n bs q)
  ended_by [] bs n (suc k) s r f v h q l led = let bad : ⊥ = omega arith in absurd bad
  ended_by (other b ∷ ps) bs n k s r f v h q l led = ended_by ps bs n k s (after c r b) f v h q l (led_after c s r b led)
  ended_by (turn ∷ ps) [] n k s r f v h q l led = absurd (false≢true (unfold ends_at in q))
  ended_by (turn ∷ ps) (b ∷ bs) n zero s r f v h q l led = absurd (no_place n (b ∷ bs) q)
  ended_by (turn ∷ ps) (b ∷ bs) n (suc zero) s r f v h q l led =
      led_ended s₁ (after_play c (after_move c r) ps) n (call_valid c ok s s₁ b v h.1)
      (led_play c ps s₁ (after_move c r) (catch_up led.0 s s₁ r b v h.1 h.3 led.1))
      (subst (Ended s₁) last.1 (end_ends s s₁ b v h.1 last.0))
    where
      s₁ : Run
      s₁ = h.0

      last : (b.action ≡ end) × (b.task ≡ n)
      last = first_ends n b bs q
  ended_by (turn ∷ ps) (b ∷ bs) n (suc (suc k)) s r f v h q l led =
      ended_by ps bs n (suc k) h.0 (after_move c r) f (call_valid c ok s h.0 b v h.1) h.2 (unfold ends_at in q)
      (omega arith) (catch_up led.0 s h.0 r b v h.1 h.3 led.1)

  -- not before the call that ends it
  unended :
      (bs : List Call) (n k : ℕ) (s f : Run) → Valid c s → Makes c s bs f → ends_at n k bs ≡ true → Ended s n → ⊥
  unended [] n k s f v h q e = false≢true (unfold ends_at in q)
  unended (b ∷ bs) n zero s f v h q e = no_place n (b ∷ bs) q
  unended (b ∷ bs) n (suc zero) s f v h q e = active (v.active b.task (call_accept c s b h.0 h.1).1.present)
    where
      was : (task_of s b.task).state ≡ 3
      was = subst (Ended s) (sym (first_ends n b bs q).1) e

      active : ((task_of s b.task).state ≡ 1) ⊎ ((task_of s b.task).state ≡ 2) → ⊥
      active (inl p) = omega (arith, was)
      active (inr p) = omega (arith, was)
  unended (b ∷ bs) n (suc (suc k)) s f v h q e =
      unended bs n (suc k) h.0 f (call_valid c ok s h.0 b v h.1) h.2 (unfold ends_at in q)
      (ap (λ t. t.state) (ended_stays c ok s h.0 b n v h.1 e) ∙ e)

  -- "If the other side's calls are all refused", the play is the sequential run so far
  pub unended_before :
      (ps : List Ply) (bs : List Call) (n k : ℕ) (s f : Run) → Valid c s → Makes c s bs f → ends_at n k bs ≡ true
      → others_accepted c s ps ≡ 0 → turns ps < k → Ended (after_play c s ps) n → ⊥
  unfolding after_play after_ply turns others_accepted others_call
  unended_before [] bs n k s f v h q o l e = unended bs n k s f v h q e
  unended_before (other b ∷ ps) bs n k s f v h q o l e = look (unended_before ps bs n k) (call c s b) refl
    where
      look :
          ((x y : Run) → Valid c x → Makes c x bs y → ends_at n k bs ≡ true → others_accepted c x ps ≡ 0 → turns ps < k
          → Ended (after_play c x ps) n → ⊥)
          → (z : Option Run) → call c s b ≡ z → ⊥
      look ih none p =
          let same = refused_same c s b p in
          ih s f v h q (subst (λ x. others_accepted c x ps ≡ 0) same (omega (arith, o))) l (subst (λ x. Ended (after_play c x ps) n) same e)
      look ih (some s') p = let one : one_if (call c s b) ≡ 1 = ap one_if p in omega (arith, o)
  unended_before (turn ∷ ps) [] n k s f v h q o l e = false≢true (unfold ends_at in q)
  unended_before (turn ∷ ps) (b ∷ bs) n zero s f v h q o l e = no_place n (b ∷ bs) q
  unended_before (turn ∷ ps) (b ∷ bs) n (suc zero) s f v h q o l e = omega (arith, l)
  unended_before (turn ∷ ps) (b ∷ bs) n (suc (suc k)) s f v h q o l e =
      let same = move_foremost s h.0 b v h.1 h.3 in
      unended_before ps bs n (suc k) h.0 f (call_valid c ok s h.0 b v h.1) h.2 (unfold ends_at in q)
      (subst (λ x. others_accepted c x ps ≡ 0) same (omega (arith, o)))
      (omega (arith, l))
      (subst (λ x. Ended (after_play c x ps) n) same e)

  -- a task has ended by no call but its own end
  only_end :
      (r r' : Run) (b : Call) (n : ℕ) → Valid c r → call c r b ≡ some r' → (Ended r n → ⊥) → Ended r' n
      → (b.action ≡ end) × (b.task ≡ n)
  only_end r r' b n v q before now = sort (ℕ_discrete b.task n)
    where
      h : (e : Effect) × Accepts c r b e × (apply b.task e r ≡ r')
      h = call_accept c r b r' q

      e : Effect
      e = h.0

      t : Task
      t = task_of r b.task

      now_there : Ended (apply b.task e r) n
      now_there = subst (λ x. Ended x n) (sym h.2) now

      alive : e.task.state ≡ 2 → b.task ≡ n → ⊥
      alive s p =
          let k : e.task.state ≡ 3 = ap (λ x. x.state) (sym (self_record c ok r v b e h.1 n (sym p))) ∙ now_there in omega (arith, s)

      -- a step stays
      stepped : (p : Plan) → Stepping c t p → Settled r b.task p e → e.leaves ≡ false
      stepped (stop k) o s = absurd o
      stepped (go gs d) o s = ap (λ x. x.leaves) (sym s.1) ∙ o.remains
      stepped (fetch a f) o s = ap (λ x. x.leaves) (sym s.1) ∙ (o (get_or r.memory a 0)).remains

      own_call : b.task ≡ n → (a : Action) → b.action ≡ a → a ≡ end
      own_call p start a = absurd (alive (ap (λ x. x.task.state) (sym begun.1)) p)
        where
          settled : Settled r b.task (plan c start b.task t) e
          settled = subst (λ x. Settled r b.task (plan c x b.task t) e) a h.1.settled

          begun : Settled r b.task (go (needs_from 0 t.modes) (own (start_weight c) (in_state 2 t))) e
          begun = subst (λ x. Settled r b.task x e) (start_plan c b.task t (settled_ready c r b.task t e start settled)) settled
      own_call p step a = absurd (alive ((accepted_fair c ok r v b e h.1).alive remains) p)
        where
          settled : Settled r b.task (plan c step b.task t) e
          settled = subst (λ x. Settled r b.task (plan c x b.task t) e) a h.1.settled

          remains : e.leaves ≡ false
          remains =
              stepped (plan c step b.task t) (stepping_plan c b.task t (settled_ready c r b.task t e step settled)) settled
      own_call p end a = refl

      -- neither a task made nor one that the call leaves alone
      other_task : b.task ≢ n → (x : Bool) → among n (numbers e.made) ≡ x → ⊥
      other_task ne true m =
          let x = numbers_in n e.made (among_in n (numbers e.made) m) in
          let waiting : (task_of (apply b.task e r) n).state ≡ 1 =
          ap (λ z. z.state) (ap (task_of (apply b.task e r)) x.2 ∙ made_record c ok r v b e h.1 x.0 x.1)
          ∙ ((accepted_fair c ok r v b e h.1).born x.0 x.1).waiting in
          omega (arith, now_there)
      other_task ne false m = before (ap (λ z. z.state) (sym (task_other b.task e r n absent)) ∙ now_there)
        where
          absent : In n (touched b.task e) → ⊥
          absent (inl p) = ne (sym p)
          absent (inr i) = false≢true (sym m ∙ in_among n (numbers e.made) i)

      sort : Dec (b.task ≡ n) → (b.action ≡ end) × (b.task ≡ n)
      sort (yes p) = (own_call p b.action refl, p)
      sort (no ne) = absurd (other_task ne (among n (numbers e.made)) refl)

  ends_some :
      (bs : List Call) (n : ℕ) (s f : Run) → Valid c s → Makes c s bs f → (Ended s n → ⊥) → Ended f n
      → (k : ℕ) × (ends_at n k bs ≡ true)
  ends_some [] n s f v h before now = absurd (before (subst (λ x. Ended x n) (sym h) now))
  ends_some (b ∷ bs) n s f v h before now = sort (ends_some bs n h.0 f) (ℕ_discrete (task_of h.0 n).state 3)
    where
      v₁ : Valid c h.0
      v₁ = call_valid c ok s h.0 b v h.1

      later : (k : ℕ) → ends_at n k bs ≡ true → (j : ℕ) × (ends_at n j (b ∷ bs) ≡ true)
      later zero q = absurd (no_place n bs q)
      later (suc k) q = (suc (suc k), unfold ends_at in q)

      sort :
          (Valid c h.0 → Makes c h.0 bs f → (Ended h.0 n → ⊥) → Ended f n → (k : ℕ) × (ends_at n k bs ≡ true))
          → Dec ((task_of h.0 n).state ≡ 3) → (j : ℕ) × (ends_at n j (b ∷ bs) ≡ true)
      sort ih (yes p) =
          let x = only_end s h.0 b n v h.1 before p in
          (1, unfold ends_at in rw (ap is_end x.0, eq-eqb b.task n x.1) (unfold is_end in refl))
      sort ih (no p) = let more = ih v₁ h.2 p now in later more.0 more.1

fresh_unended : (c : Context) (memory : List ℕ) (n : ℕ) → (task_of (initial c memory) n).state ≡ 3 → ⊥
unfolding initial root
fresh_unended c memory zero q = omega arith
fresh_unended c memory (suc n) q = let z = ap (λ t. t.state) (blanks n 127) ∙ never_state in omega (arith, q)

-- every task that the hand run ends has its K
pub ends_with_some :
    (c : Context) → Accepted c.list → (memory : List ℕ) (n : ℕ) → (task_of (sequential c memory) n).state ≡ 3
    → (k : ℕ) × (ends_with c memory n k ≡ true)
unfolding ends_with
ends_with_some c ok memory n q =
    ends_some c ok (trace c memory) n (initial c memory) (sequential c memory) (initial_valid c ok memory)
    (sequential_whole c ok memory).makes
    (fresh_unended c memory n)
    q
