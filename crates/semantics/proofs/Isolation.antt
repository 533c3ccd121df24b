-- What a task that is run alone can depend on (request 109). Two runs side by side have the same order and the same records, for
-- every task's modes are under the first task's, so that a load meets only entries that are alike. Assumes nothing.
use Prim.Native.Nat.{ℕ, zero, suc, ◌≤◌, ◌<◌}
use mathlib.Core.Path.{◌≡◌, refl, sym, ap, subst, ◌∙◌}
use mathlib.Core.List.{List, [], ◌∷◌}
use mathlib.Core.Bool.{Bool, true, false, cond, not, ◌||◌, false≢true}
use mathlib.Core.Logic.{inl}
use native.Mathlib.Decide.{ℕ_discrete, dec_lt}
use native.Mathlib.Omega.{arith}
use lib.ListN.{length, get_or, set}
use lib.Seq.{get_or-set_same, get_or-set_other, set_out}
use lib.Dec.{ltb, eqb}
use borrow.Author.Tests.{eqb-true, eqb-false, ne_eqb, not-true}
use Rattle.tasklist.specs.TaskList.{body_of}
use Rattle.tasklist.specs.Accepted.{Accepted}
use Rattle.semantics.specs.Run.{Task, Run, Context, mode_of, task_of}
use Rattle.semantics.specs.Access.{reads, queue, behind_writer, compatible, allowed}
use Rattle.semantics.specs.Effect.{Edit, keep, put, add, Effect, Plan, stop, go, fetch}
use Rattle.semantics.specs.Plan.{at_end, plan}
use Rattle.semantics.specs.Call.{Call, Outcome, refuse, accept, hold, admit, settle, among, sum_of, decide, edited, apply, after}
use Rattle.semantics.specs.Sequential.{made_by, start_of, step_of, end_of, run_each, step_through, steps_through, enough, run_whole}
use Rattle.semantics.specs.Isolation.{Lone, first_record, alone, hand_run, block_end, inside, kept, Comparable, Isolated}
use Rattle.semantics.specs.Sound.{In, Valid}
use Rattle.semantics.proofs.Order.{among_in}
use Rattle.semantics.proofs.Modes.{write_behind, Under}
use Rattle.semantics.proofs.Fair.{FairPlan, fair_plan}
use Rattle.semantics.proofs.Decide.{Accepts, decide_accept}
use Rattle.semantics.proofs.Valid.{accepted_fair, other_record, made_record}
use Rattle.semantics.proofs.Kept.{Place, new, self, old, place_of, self_record, valid_kept, lone_record, alone_valid}
use Rattle.semantics.proofs.Sequential.{Due, runs_whole}
use Rattle.semantics.proofs.SoundModes.{granted_queued}
use Rattle.semantics.proofs.SoundKept.{edited_length}
use Rattle.semantics.proofs.Unchanged.{after_refuse, after_accept, unchanged}

-- A relation of two runs that every call keeps, with the same records and the same answers in both: a task run whole keeps it.
module _
    (c : Context) (R : Run → Run → Type 0) (record_same : (r r' : Run) → R r r' → (n : ℕ) → task_of r n ≡ task_of r' n)
    (decide_same : (r r' : Run) → R r r' → (b : Call) → decide c r b ≡ decide c r' b)
    (after_kept : (r r' : Run) → R r r' → (b : Call) → R (after c r b) (after c r' b))
  where
    abbrev Keeps : (Run → Run) → Type 0
    Keeps f = (r r' : Run) → R r r' → R (f r) (f r')

    either_kept : (b : Bool) (r r' s s' : Run) → R r r' → R s s' → R (cond b r s) (cond b r' s')
    either_kept true r r' s s' h k = h
    either_kept false r r' s s' h k = k

    each_kept : (whole : ℕ → Run → Run) → ((n : ℕ) → Keeps (whole n)) → (ns : List ℕ) → Keeps (run_each whole ns)
    unfolding run_each
    each_kept whole k [] r r' h = h
    each_kept whole k (n ∷ ns) r r' h = each_kept whole k ns (whole n r) (whole n r') (k n r r' h)

    step_kept : (whole : ℕ → Run → Run) → ((n : ℕ) → Keeps (whole n)) → (n : ℕ) → Keeps (step_through c whole n)
    unfolding step_through
    step_kept whole k n r r' h =
        let next = after c r (step_of n) in
        let next' = after c r' (step_of n) in
        let made = made_by (decide c r (step_of n)) in
        subst (λ o. R (run_each whole made next) (run_each whole (made_by o) next')) (decide_same r r' h (step_of n))
        (each_kept whole k made next next' (after_kept r r' h (step_of n)))

    steps_kept :
        (whole : ℕ → Run → Run) → ((n : ℕ) → Keeps (whole n)) → (n left : ℕ) → Keeps (steps_through c whole n left)
    unfolding steps_through
    steps_kept whole k n zero r r' h = h
    steps_kept whole k n (suc left) r r' h =
        let next = step_through c whole n r in
        let next' = step_through c whole n r' in
        let more = steps_through c whole n left next in
        let more' = steps_through c whole n left next' in
        subst (λ t. R (cond (at_end c (task_of r n)) r more) (cond (at_end c t) r' more')) (record_same r r' h n)
        (either_kept (at_end c (task_of r n)) r r' more more' h
        (steps_kept whole k n left next next' (step_kept whole k n r r' h)))

    whole_kept : (bodies n : ℕ) → Keeps (run_whole c bodies n)
    unfolding run_whole enough
    whole_kept zero n r r' h = h
    whole_kept (suc bodies) n r r' h =
        let whole = run_whole c bodies in
        let begun = after c r (start_of n) in
        let begun' = after c r' (start_of n) in
        let size : Task → ℕ = λ t. suc (length (body_of c.list t.body)) in
        after_kept (steps_through c whole n (enough c r n) begun) (steps_through c whole n (enough c r' n) begun')
        (subst (λ t. R (steps_through c whole n (enough c r n) begun) (steps_through c whole n (size t) begun')) (record_same r r' h n)
        (steps_kept whole (whole_kept bodies) n (enough c r n) begun begun' (after_kept r r' h (start_of n))))
        (end_of n)

-- Modes under others: where a mode isn't none, neither is the one that it is under.
there_under : (t : Task) (ms : List ℕ) (a : ℕ) → Under t ms → (get_or ms a 0 ≡ 0 → ⊥) → mode_of t a ≡ 0 → ⊥
there_under t ms a u there q =
    let beside : compatible (mode_of t a) 2 ≡ true = subst (λ m. compatible m 2 ≡ true) (sym q) (unfold compatible in refl) in
    false≢true (sym (write_behind (get_or ms a 0) there) ∙ u a 2 beside)

-- what stands beside a reader neither writes nor sums
beside_reader : (m : ℕ) → compatible m 1 ≡ true → (m ≡ 2 → ⊥) × (m ≡ 3 → ⊥)
unfolding compatible
beside_reader m h =
    (λ q. false≢true (subst (λ x. compatible x 1 ≡ true) q h), λ q. false≢true (subst (λ x. compatible x 1 ≡ true) q h))

-- A run that came of a task of record t over these entries: every task's modes are under t's, and what t can't change is as it
-- was.
record Confined (c : Context) (t : Task) (m : List ℕ) (r : Run) : Type 0 where
  valid : Valid c r
  under : (n : ℕ) → In n r.order → Under t (task_of r n).modes
  same : (a : ℕ) → compatible (mode_of t a) 1 ≡ true → get_or r.memory a 0 ≡ get_or m a 0

confined_kept :
    (c : Context) → Accepted c.list → (t : Task) (m : List ℕ) (r : Run) → Confined c t m r → (b : Call) (e : Effect)
    → Accepts c r b e → Confined c t m (apply b.task e r)
confined_kept c ok t m r h b e a =
    record {
      valid = valid_kept c ok r v b e a;
      under = λ k i. sort k (place_of r b.task e k i);
      same = λ l q.
          let quiet = beside_reader (mode_of (task_of r b.task) l) (own l 1 q) in
          (unchanged c ok r v b e a).memory l quiet.0 quiet.1 ∙ h.same l q;
    }
  where
    v : Valid c r
    v = h.valid

    own : Under t (task_of r b.task).modes
    own = h.under b.task a.present

    sort : (k : ℕ) → Place r b.task e k → Under t (task_of (apply b.task e r) k).modes
    sort k (new x i q) =
        subst (λ y. Under t y.modes) (sym (ap (task_of (apply b.task e r)) q ∙ made_record c ok r v b e a x i))
        (λ l w z. ((accepted_fair c ok r v b e a).born x i).under l w (own l w z))
    sort k (self q l) =
        subst (Under t) (sym (ap (λ y. y.modes) (self_record c ok r v b e a k q) ∙ (accepted_fair c ok r v b e a).modes)) own
    sort k (old i q) = subst (λ y. Under t y.modes) (sym (other_record c ok r v b e a k i q)) (h.under k i)

-- the run with another memory
abbrev over : Run → List ℕ → Run
over r m =
    record {
      memory = m;
      tasks = r.tasks;
      order = r.order;
      calls = r.calls;
      weight = r.weight;
    }

-- what a plan comes to looks at the memory for a fetch alone
settle_over :
    (r : Run) (m : List ℕ) (n : ℕ) (p : Plan)
    → ((a : ℕ) (f : ℕ → Effect) → p ≡ fetch a f → get_or r.memory a 0 ≡ get_or m a 0) → settle r n p ≡ settle (over r m) n p
unfolding settle admit hold allowed behind_writer queue
settle_over r m n (stop k) h = refl
settle_over r m n (go gs e) h = refl
settle_over r m n (fetch a f) h = ap (λ x. admit r n (reads a ∷ []) (f x)) (h a f refl)

-- an edit leaves alike what was alike
set_alike :
    (m m' : List ℕ) (l v v' a : ℕ) → length m ≡ length m' → (a ≡ l → v ≡ v') → get_or m a 0 ≡ get_or m' a 0
    → get_or (set m l v) a 0 ≡ get_or (set m' l v') a 0
set_alike m m' l v v' a s h q = sort (ℕ_discrete a l) (dec_lt l (length m))
  where
    sort : Dec (a ≡ l) → Dec (l < length m) → get_or (set m l v) a 0 ≡ get_or (set m' l v') a 0
    sort (no p) i = get_or-set_other m l a v 0 p ∙ q ∙ sym (get_or-set_other m' l a v' 0 p)
    sort (yes p) (yes i) =
        subst (λ k. get_or (set m l v) k 0 ≡ get_or (set m' l v') k 0) (sym p)
        (get_or-set_same m l v 0 i ∙ h p ∙ sym (get_or-set_same m' l v' 0 (subst (λ k. l < k) s i)))
    sort (yes p) (no i) =
        ap (λ x. get_or x a 0) (set_out m l v (omega arith)) ∙ q
        ∙ sym (ap (λ x. get_or x a 0) (set_out m' l v' (subst (λ k. k ≤ l) s (omega arith))))

edited_alike :
    (E : Edit) (m m' : List ℕ) (a : ℕ) → length m ≡ length m' → get_or m a 0 ≡ get_or m' a 0
    → get_or (edited E m) a 0 ≡ get_or (edited E m') a 0
unfolding edited
edited_alike keep m m' a s q = q
edited_alike (put l v) m m' a s q = set_alike m m' l v v a s (λ p. refl) q
edited_alike (add l v) m m' a s q =
    set_alike m m' l (sum_of (get_or m l 0) v) (sum_of (get_or m' l 0) v) a s
    (λ p. ap (λ x. sum_of x v) (subst (λ k. get_or m k 0 ≡ get_or m' k 0) p q)) q

-- Two runs that came of a task of record t over different entries: they differ in their memories alone, and there where t's mode
-- is none alone.
record Beside (c : Context) (t : Task) (m m' : List ℕ) (r r' : Run) : Type 0 where
  first : Confined c t m r
  second : Confined c t m' r'
  same : r' ≡ over r r'.memory
  sizes : length r.memory ≡ length r'.memory
  alike : (a : ℕ) → (mode_of t a ≡ 0 → ⊥) → get_or r.memory a 0 ≡ get_or r'.memory a 0

module _ (c : Context) (ok : Accepted c.list) (t : Task) (m m' : List ℕ) where
  beside_record : (r r' : Run) → Beside c t m m' r r' → (n : ℕ) → task_of r n ≡ task_of r' n
  beside_record r r' h n = ap (λ x. task_of x n) (sym h.same)

  beside_decide : (r r' : Run) → Beside c t m m' r r' → (b : Call) → decide c r b ≡ decide c r' b
  unfolding decide
  beside_decide r r' h b = subst (λ x. decide c r b ≡ decide c x b) (sym h.same) (look (among n r.order) refl)
    where
      n : ℕ
      n = b.task

      p : Plan
      p = plan c b.action n (task_of r n)

      -- a load meets an entry where the task's mode isn't none
      met : In n r.order → (a : ℕ) (f : ℕ → Effect) → p ≡ fetch a f → get_or r.memory a 0 ≡ get_or r'.memory a 0
      met i a f q =
          let fair : FairPlan c n (task_of r n) (fetch a f) = subst (FairPlan c n (task_of r n)) q (fair_plan c n (task_of r n) ok b.action) in
          h.alike a
          (there_under t (task_of r n).modes a (h.first.under n i) (granted_queued (mode_of (task_of r n) a) 1 fair.0))

      look : (i : Bool) → among n r.order ≡ i → decide c r b ≡ decide c (over r r'.memory) b
      look true q =
          rw q (ap (λ o. cond (ltb n 128) o (refuse 9)) (settle_over r r'.memory n p (met (among_in n r.order q))))
      look false q = rw q refl

  beside_after : (r r' : Run) → Beside c t m m' r r' → (b : Call) → Beside c t m m' (after c r b) (after c r' b)
  unfolding apply
  beside_after r r' h b = look (decide c r b) refl
    where
      look : (o : Outcome) → decide c r b ≡ o → Beside c t m m' (after c r b) (after c r' b)
      look (refuse k) q =
          let q' = sym (beside_decide r r' h b) ∙ q in
          subst (λ x. Beside c t m m' x (after c r' b)) (sym (after_refuse c r b k q))
          (subst (Beside c t m m' r) (sym (after_refuse c r' b k q')) h)
      look (accept e) q =
          let q' = sym (beside_decide r r' h b) ∙ q in
          subst (λ x. Beside c t m m' x (after c r' b)) (sym (after_accept c r b e q))
          (subst (Beside c t m m' (apply b.task e r)) (sym (after_accept c r' b e q')) (both q'))
        where
          both : decide c r' b ≡ accept e → Beside c t m m' (apply b.task e r) (apply b.task e r')
          both q' =
              record {
                first = confined_kept c ok t m r h.first b e (decide_accept c r b e q);
                second = confined_kept c ok t m' r' h.second b e (decide_accept c r' b e q');
                same = ap (apply b.task e) h.same;
                sizes = edited_length e.edit r.memory ∙ h.sizes ∙ sym (edited_length e.edit r'.memory);
                alike = λ a there. edited_alike e.edit r.memory r'.memory a h.sizes (h.alike a there);
              }

  beside_whole : (bodies n : ℕ) (r r' : Run) → Beside c t m m' r r' → Beside c t m m' (run_whole c bodies n r) (run_whole c bodies n r')
  beside_whole = whole_kept c (Beside c t m m') beside_record beside_decide beside_after

-- the two tests of a mode
inside_there : (j : Lone) (a : ℕ) → inside j a ≡ true → get_or j.modes a 0 ≡ 0 → ⊥
unfolding inside
inside_there j a h = eqb-false (get_or j.modes a 0) 0 (not-true (eqb (get_or j.modes a 0) 0) h)

there_inside : (j : Lone) (a : ℕ) → (get_or j.modes a 0 ≡ 0 → ⊥) → inside j a ≡ true
unfolding inside
there_inside j a h = rw (ne_eqb (get_or j.modes a 0) 0 h) refl

kept_beside : (j : Lone) (a : ℕ) → kept j a ≡ true → compatible (get_or j.modes a 0) 1 ≡ true
unfolding kept inside compatible
kept_beside j a h = look (eqb mode 0) refl h
  where
    mode : ℕ
    mode = get_or j.modes a 0

    look : (none : Bool) → eqb mode 0 ≡ none → (not (not none) || eqb mode 1) ≡ true → compatible mode 1 ≡ true
    look true q h = subst (λ k. compatible k 1 ≡ true) (sym (eqb-true mode 0 q)) refl
    look false q h = subst (λ k. compatible k 1 ≡ true) (sym (eqb-true mode 1 h)) refl

-- a run of one task alone is confined to its modes
alone_confined :
    (c : Context) → Accepted c.list → (j : Lone) → block_end c j ≤ 128 → (m : List ℕ)
    → Confined c (first_record j) m (alone j m)
alone_confined c ok j fits m =
    record {
      valid = alone_valid c ok j fits m;
      under = λ n i. subst (λ t. Under (first_record j) t.modes) (sym (lone_record c ok j fits m n i).1) (λ a w h. h);
      same = λ a h. unfold alone in refl;
    }

-- Request 109, for every accepted list and table of weights, every task whose block of numbers fits, and every two memories.
pub isolation : (c : Context) (j : Lone) (m m' : List ℕ) → Comparable c j m m' → Isolated c j m m'
unfolding hand_run
isolation c j m m' h =
    record {
      records = λ k low high. beside_record c h.accepted t m m' _ _ ends k;
      entries = λ a i. ends.alike a (unfold first_record in inside_there j a i);
      first = λ a i. ends.first.same a (unfold first_record in kept_beside j a i);
      second = λ a i. ends.second.same a (unfold first_record in kept_beside j a i);
    }
  where
    t : Task
    t = first_record j

    begins : Beside c t m m' (alone j m) (alone j m')
    begins =
        record {
          first = alone_confined c h.accepted j h.block m;
          second = alone_confined c h.accepted j h.block m';
          same = unfold alone in refl;
          sizes = unfold alone in h.sizes;
          alike = λ a there. unfold alone in h.alike a (there_inside j a (unfold first_record in there));
        }

    ends : Beside c t m m' (hand_run c j m) (hand_run c j m')
    ends = beside_whole c h.accepted t m m' (length c.list.bodies) j.number (alone j m) (alone j m') begins

-- Beside it: such a hand run of a body of the list runs to its end.
pub hand_run_ends :
    (c : Context) → Accepted c.list → (j : Lone) → j.body < length c.list.bodies → block_end c j ≤ 128
    → (m : List ℕ) → (hand_run c j m).order ≡ []
unfolding hand_run
hand_run_ends c ok j exists fits m =
    (runs_whole c ok (length c.list.bodies) j.number (alone j m) [] (alone_valid c ok j fits m) order
    (subst (Due c (length c.list.bodies)) (sym (lone_record c ok j fits m j.number (unfold alone in inl refl)).1) due)
    ).order
  where
    order : (alone j m).order ≡ j.number ∷ []
    order = unfold alone in refl

    due : Due c (length c.list.bodies) (first_record j)
    due = unfold first_record in record { waiting = refl; exists = exists; bodies = omega arith }
