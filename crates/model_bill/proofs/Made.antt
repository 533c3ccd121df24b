-- Request 114: "A ward is a job that job 0's spawn or fan made". After every list of calls from a fresh run the wards are exactly
-- the tasks that job 0's accepted calls made: every task made above 0 is in the block of one. Assumes nothing.
use Prim.Native.Nat.{ℕ, zero, suc, ◌+◌, ◌*◌, ◌^◌, ◌≤◌, ◌<◌}
use mathlib.Core.Path.{◌≡◌, refl, sym, ap, subst, ◌∙◌}
use mathlib.Core.List.{List, [], ◌∷◌, ◌++◌, append_assoc, append-nil}
use mathlib.Core.Logic.{◌⊎◌, inl, inr, ◌≢◌}
use native.Mathlib.Omega.{arith}
use lib.ListN.{length, get_or}
use Rattle.tasklist.specs.TaskList.{task_count}
use Rattle.tasklist.specs.Accepted.{Accepted}
use Rattle.semantics.specs.Run.{Run, Context, never, weight_of, task_of, initial}
use Rattle.semantics.specs.Effect.{Numbered, Effect}
use Rattle.semantics.specs.Plan.{child_number}
use Rattle.semantics.specs.Call.{Call, Outcome, refuse, accept, decide, charged, apply, taken, call, or_same, after, after_all}
use Rattle.semantics.specs.Sound.{In, limit, Sound}
use Rattle.semantics.proofs.Order.{in_left, in_right, in_append}
use Rattle.semantics.proofs.Apply.{numbers, in_numbers, numbers_in}
use Rattle.semantics.proofs.Fair.{Packed}
use Rattle.semantics.proofs.Decide.{Accepts, decide_accept}
use Rattle.semantics.proofs.Valid.{never_state, number_above, accepted_fair, made_future, made_is_future}
use Rattle.semantics.proofs.Kept.{blanks}
use Rattle.semantics.proofs.SoundKept.{Whose, self, new, same, whose, effect_sound, self_is, new_is, same_is, sound_kept}
use Rattle.semantics.proofs.SoundInitial.{initial_sound}
use Rattle.model_bill.specs.Bill.{wards, made_if, made_by_first}
use Rattle.model_bill.specs.Statement.{Rising}
use Rattle.model_bill.proofs.Walk.{Made, end_of, Apart, InBlock, Held, block_some, wards_are, apart_rises}

-- What holds of a run and of the tasks that job 0 made so far.
pub record Warded (c : Context) (r : Run) (ws : List ℕ) : Type 0 where
  pub apart : Apart c r 1 ws
  pub below : (w : ℕ) → In w ws → end_of c r w ≤ child_number c 0 (task_of r 0)
  pub held : Held c r 1 ws

-- more of them, behind the blocks of the first
apart_more :
    (c : Context) (r : Run) (low high : ℕ) (ws vs : List ℕ) → low ≤ high → Apart c r low ws
    → ((w : ℕ) → In w ws → end_of c r w ≤ high) → Apart c r high vs → Apart c r low (ws ++ vs)
apart_more c r low high [] [] l a b d = tt
apart_more c r low high [] (v ∷ vs) l a b d = (omega (arith, d.0), d.1, d.2)
apart_more c r low high (w ∷ ws) vs l a b d =
    (a.0, a.1, apart_more c r (end_of c r w) high ws vs (b w (inl refl)) a.2 (λ x i. b x (inr i)) d)

-- an accepted call
module _
    (c : Context) (ok : Accepted c.list) (most : ℕ) (light : (place : ℕ) → 16 * weight_of c place ≤ most)
    (r : Run) (s : Sound c most r) (b : Call) (e : Effect) (h : Accepts c r b e)
  where
    abbrev r' : Run
    r' = apply b.task e r

    spawner_made : Made r b.task
    spawner_made z = sort (s.valid.active b.task h.present)
      where
        sort : ((task_of r b.task).state ≡ 1) ⊎ ((task_of r b.task).state ≡ 2) → ⊥
        sort (inl q) = omega arith
        sort (inr q) = omega arith

    was_blank : (x : Numbered) → In x e.made → (task_of r x.number).state ≡ 0
    was_blank x i =
        ap (λ t. t.state) (s.valid.blank b.task x.number h.present (made_is_future c ok r s.valid b e h x i))
        ∙ never_state

    -- a task made stays made, with its body
    stays_made : (k : ℕ) → Made r k → Whose b.task e k → Made r' k × (end_of c r' k ≡ end_of c r k)
    stays_made k m (self q) =
        let is = self_is c ok most light r s b e h k q in (
          λ z. (effect_sound c ok most light r s b e h).alive (ap (λ t. t.state) (sym is) ∙ z),
          ap (limit c k) is ∙ ap (λ x. k + task_count c.list x) (accepted_fair c ok r s.valid b e h).body
              ∙ ap (λ n. k + task_count c.list (task_of r n).body) (sym q),
        )
    stays_made k m (new x i q) = absurd (m (ap (λ n. (task_of r n).state) q ∙ was_blank x i))
    stays_made k m (same q) =
        let is = same_is c ok most light r s b e h k q in
        (λ z. m (ap (λ t. t.state) (sym is) ∙ z), ap (limit c k) is)

    still : (k : ℕ) → Made r k → Made r' k × (end_of c r' k ≡ end_of c r k)
    still k m = stays_made k m (whose b.task e k)

    apart_still : (low : ℕ) (ws : List ℕ) → Apart c r low ws → Apart c r' low ws
    apart_still low [] a = tt
    apart_still low (w ∷ ws) a =
        let k = still w a.1 in
        (a.0, k.0, subst (λ x. Apart c r' x ws) (sym k.1) (apart_still (end_of c r w) ws a.2))

    apart_made : (low : ℕ) (ws : List ℕ) (w : ℕ) → Apart c r low ws → In w ws → Made r w
    apart_made low [] w a i = absurd i
    apart_made low (v ∷ ws) w a (inl q) = λ z. a.1 (ap (λ k. (task_of r k).state) (sym q) ∙ z)
    apart_made low (v ∷ ws) w a (inr i) = apart_made (end_of c r v) ws w a.2 i

    -- in the block of a ward, before and after
    in_still : (ws : List ℕ) (k : ℕ) → Apart c r 1 ws → Made r k → InBlock c r ws k → InBlock c r' ws k
    in_still ws k a m d =
        (d.0, d.1, d.2, omega (arith, d.3, (still k m).1, (still d.0 (apart_made 1 ws d.0 a d.1)).1))

    -- a task that a ward or a task below it makes is in the ward's block
    new_in :
        (ws : List ℕ) (x : Numbered) → Apart c r 1 ws → In x e.made → InBlock c r ws b.task → InBlock c r' ws x.number
    new_in ws x a i d =
        let f = made_future c ok r s.valid b e h x i in
        let is = new_is c ok most light r s b e h x.number x i refl in
        let up = number_above c ok b.task (task_of r b.task) in (
          d.0,
          d.1,
          omega (arith, d.2, f.0, up),
          omega (arith, ap (limit c x.number) is, f.1, f.2, d.3, (still d.0 (apart_made 1 ws d.0 a d.1)).1),
        )

    held_still :
        (ws vs : List ℕ) → Apart c r 1 ws → Held c r 1 ws
        → ((x : Numbered) → In x e.made → InBlock c r' (ws ++ vs) x.number) → Held c r' 1 (ws ++ vs)
    held_still ws vs a hs news k l m = sort (whose b.task e k)
      where
        more : InBlock c r' ws k → InBlock c r' (ws ++ vs) k
        more d = (d.0, in_left d.0 ws vs d.1, d.2, d.3)

        before : Made r k → InBlock c r' (ws ++ vs) k
        before d = more (in_still ws k a d (hs k l d))

        sort : Whose b.task e k → InBlock c r' (ws ++ vs) k
        sort (self q) = before (λ z. spawner_made (ap (λ n. (task_of r n).state) (sym q) ∙ z))
        sort (new x i q) = subst (InBlock c r' (ws ++ vs)) (sym q) (news x i)
        sort (same q) = before (λ z. m (ap (λ t. t.state) (same_is c ok most light r s b e h k q) ∙ z))

    -- a call of job 0: its children are wards
    module _ (first : b.task ≡ 0) (ws : List ℕ) (g : Warded c r ws) where
      new_apart : (low high : ℕ) (xs : List Numbered) → ((x : Numbered) → In x xs → In x e.made) → Packed c low xs high → Apart c r' low (numbers xs)
      new_apart low high [] all p = tt
      new_apart low high (x ∷ xs) all p =
          let is = new_is c ok most light r s b e h x.number x (all x (inl refl)) refl in (
            p.0,
            λ z. born (all x (inl refl)) (ap (λ t. t.state) (sym is) ∙ z),
            subst (λ l. Apart c r' l (numbers xs)) (sym (ap (limit c x.number) is))
                (new_apart (limit c x.number x.task) high xs (λ y i. all y (inr i)) p.1),
          )
        where
          born : In x e.made → x.task.state ≡ 0 → ⊥
          born i z = let w = ((accepted_fair c ok r s.valid b e h).born x i).waiting in omega arith

      own_number : child_number c 0 (task_of r' 0) ≡ child_number c b.task e.task
      own_number =
          let paid : child_number c 0 (charged e.weight e.task) ≡ child_number c 0 e.task = unfold child_number in refl in
          ap (child_number c 0) (self_is c ok most light r s b e h 0 (sym first)) ∙ paid
          ∙ ap (λ n. child_number c n e.task) (sym first)

      was_number : child_number c 0 (task_of r 0) ≡ child_number c b.task (task_of r b.task)
      was_number = ap (λ n. child_number c n (task_of r n)) (sym first)

      packed : Packed c (child_number c b.task (task_of r b.task)) e.made (child_number c b.task e.task)
      packed = (accepted_fair c ok r s.valid b e h).packed

      rises : child_number c 0 (task_of r 0) ≤ child_number c 0 (task_of r' 0)
      rises = omega (arith, own_number, was_number, up e.made packed)
        where
          up : (xs : List Numbered) {low high : ℕ} → Packed c low xs high → low ≤ high
          up [] p = p
          up (x ∷ xs) p = omega (arith, p.0, up xs p.1)

      first_kept : Warded c r' (ws ++ numbers e.made)
      first_kept =
          record {
            apart =
                apart_more c r' 1 (child_number c 0 (task_of r 0)) ws (numbers e.made)
                (omega (arith, number_above c ok 0 (task_of r 0)))
                (apart_still 1 ws g.apart)
                (λ w i. subst (λ x. x ≤ child_number c 0 (task_of r 0)) (sym (still w (apart_made 1 ws w g.apart i)).1) (g.below w i))
                (subst (λ l. Apart c r' l (numbers e.made)) (sym was_number)
                (new_apart (child_number c b.task (task_of r b.task)) (child_number c b.task e.task) e.made (λ x i. i) packed));
            below = λ w i. below w (in_append w ws (numbers e.made) i);
            held = held_still ws (numbers e.made) g.apart g.held news;
          }
        where
          below : (w : ℕ) → In w ws ⊎ In w (numbers e.made) → end_of c r' w ≤ child_number c 0 (task_of r' 0)
          below w (inl i) = omega (arith, g.below w i, (still w (apart_made 1 ws w g.apart i)).1, rises)
          below w (inr i) =
              let x = numbers_in w e.made i in
              let is = new_is c ok most light r s b e h w x.0 x.1 x.2 in
              let f = made_future c ok r s.valid b e h x.0 x.1 in
              let ends : end_of c r' w ≡ limit c x.0.number x.0.task =
              ap (limit c w) is ∙ ap (λ k. limit c k x.0.task) x.2 in
              omega (arith, ends, f.1, own_number)

          news : (x : Numbered) → In x e.made → InBlock c r' (ws ++ numbers e.made) x.number
          news x i = (x.number, in_right x.number ws (numbers e.made) (in_numbers x e.made i), omega arith, omega arith)

    -- a call of another task: no ward is made
    module _ (other : b.task ≢ 0) (ws : List ℕ) (g : Warded c r ws) where
      job_zero : Whose b.task e 0 → task_of r' 0 ≡ task_of r 0
      job_zero (self q) = absurd (other (sym q))
      job_zero (new x i q) =
          let f = made_future c ok r s.valid b e h x i in
          let z : ⊥ = omega (arith, f.0, number_above c ok b.task (task_of r b.task), q) in
          absurd z
      job_zero (same q) = same_is c ok most light r s b e h 0 q

      number_same : child_number c 0 (task_of r' 0) ≡ child_number c 0 (task_of r 0)
      number_same = ap (child_number c 0) (job_zero (whose b.task e 0))

      inside : InBlock c r ws b.task
      inside = g.held b.task (positive b.task other) spawner_made
        where
          positive : (n : ℕ) → n ≢ 0 → 1 ≤ n
          positive n q = omega arith

      other_kept : Warded c r' (ws ++ [])
      other_kept =
          record {
            apart = subst (Apart c r' 1) (sym (append-nil ws)) (apart_still 1 ws g.apart);
            below = λ w i. below w (in_append w ws [] i);
            held = held_still ws [] g.apart g.held news;
          }
        where
          below : (w : ℕ) → In w ws ⊎ In w [] → end_of c r' w ≤ child_number c 0 (task_of r' 0)
          below w (inl i) = omega (arith, g.below w i, (still w (apart_made 1 ws w g.apart i)).1, number_same)
          below w (inr i) = absurd i

          news : (x : Numbered) → In x e.made → InBlock c r' (ws ++ []) x.number
          news x i = let n = new_in ws x g.apart i inside in (n.0, in_left n.0 ws [] n.1, n.2, n.3)

    pub warded_kept : (ws : List ℕ) → Warded c r ws → Warded c r' (ws ++ made_if b.task (accept e))
    warded_kept ws g = sort b.task refl
      where
        sort : (n : ℕ) → b.task ≡ n → Warded c r' (ws ++ made_if n (accept e))
        sort zero q = unfold made_if in first_kept q ws g
        sort (suc n) q = unfold made_if in other_kept (λ z. omega arith) ws g

none_made : (n k : ℕ) → made_if n (refuse k) ≡ []
unfolding made_if
none_made zero k = refl
none_made (suc n) k = refl

module _ (c : Context) (ok : Accepted c.list) (most : ℕ) (light : (place : ℕ) → 16 * weight_of c place ≤ most) where
  warded_after_all :
      (calls : List Call) (r : Run) (ws : List ℕ) → Sound c most r → Warded c r ws
      → Warded c (after_all c r calls) (ws ++ made_by_first c r calls)
  unfolding after_all made_by_first
  warded_after_all [] r ws s g = subst (Warded c r) (sym (append-nil ws)) g
  warded_after_all (b ∷ bs) r ws s g =
      let one = warded_after (decide c r b) refl in
      subst (Warded c (after_all c (after c r b) bs)) (append_assoc ws (made_if b.task (decide c r b)) (made_by_first c (after c r b) bs))
      (warded_after_all bs (after c r b) (ws ++ made_if b.task (decide c r b)) one.0 one.1)
    where
      step_on : (o : Outcome) → decide c r b ≡ o → after c r b ≡ or_same r (taken r b.task o)
      step_on o q = unfold after call in ap (λ x. or_same r (taken r b.task x)) q

      warded_after : (o : Outcome) → decide c r b ≡ o → Sound c most (after c r b) × Warded c (after c r b) (ws ++ made_if b.task (decide c r b))
      warded_after (refuse k) q =
          let same : after c r b ≡ r = step_on (refuse k) q ∙ unfold taken in refl in
          let more : ws ++ made_if b.task (decide c r b) ≡ ws =
          ap (λ o. ws ++ made_if b.task o) q ∙ ap (λ l. ws ++ l) (none_made b.task k) ∙ append-nil ws in
          (subst (Sound c most) (sym same) s, subst (λ x. Warded c x (ws ++ made_if b.task (decide c r b))) (sym same) (subst (Warded c r) (sym more) g))
      warded_after (accept e) q =
          let h = decide_accept c r b e q in
          let on : after c r b ≡ apply b.task e r = step_on (accept e) q ∙ unfold taken in refl in (
            subst (Sound c most) (sym on) (sound_kept c ok most light r s b e h),
            subst (λ x. Warded c x (ws ++ made_if b.task (decide c r b))) (sym on)
                (subst (λ o. Warded c (apply b.task e r) (ws ++ made_if b.task o)) (sym q) (warded_kept c ok most light r s b e h ws g)),
          )

  module _
      (memory : List ℕ) (fits : length memory ≡ c.list.locations) (small : (a : ℕ) → get_or memory a 0 < 2 ^ 32)
    where
      warded_initial : Warded c (initial c memory) []
      warded_initial = record { apart = tt; below = λ w i. absurd i; held = λ k l m. none_yet k l m }
        where
          none_yet : (k : ℕ) → 1 ≤ k → Made (initial c memory) k → InBlock c (initial c memory) [] k
          none_yet zero l m = let z : ⊥ = omega arith in absurd z
          none_yet (suc k) l m =
              let blank : task_of (initial c memory) (suc k) ≡ never = unfold initial in blanks k 127 in
              absurd (m (ap (λ t. t.state) blank ∙ never_state))

      warded : (calls : List Call) → Warded c (after_all c (initial c memory) calls) (made_by_first c (initial c memory) calls)
      warded calls = warded_after_all calls (initial c memory) [] (initial_sound c ok memory most fits small) warded_initial

      -- "A ward is a job that job 0's spawn or fan made"
      pub wards_made : (calls : List Call) → wards c (after_all c (initial c memory) calls) ≡ made_by_first c (initial c memory) calls
      wards_made calls =
          wards_are c ok (after_all c (initial c memory) calls) (made_by_first c (initial c memory) calls) (warded calls).apart (warded calls).held

      -- "by rising job number"
      pub wards_rise : (calls : List Call) → Rising 1 (wards c (after_all c (initial c memory) calls))
      wards_rise calls =
          subst (Rising 1) (sym (wards_made calls))
          (apart_rises c ok (after_all c (initial c memory) calls) 1 (made_by_first c (initial c memory) calls) (warded calls).apart)

      -- every task made above 0 lies in a ward's block
      pub wards_hold :
          (calls : List Call) (k : ℕ) → 1 ≤ k → Made (after_all c (initial c memory) calls) k
          → (w : ℕ) × In w (wards c (after_all c (initial c memory) calls)) × (w ≤ k)
          × (k < end_of c (after_all c (initial c memory) calls) w)
      wards_hold calls k l m =
          let r = after_all c (initial c memory) calls in
          let d = (warded calls).held k l m in
          (d.0, subst (In d.0) (sym (wards_made calls)) d.1, d.2, omega (arith, block_some c ok r k, d.3))
