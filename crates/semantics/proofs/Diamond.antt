-- The diamond: two calls that a valid run accepts are one and the same, or can follow each other with one result. What is
-- allowed to a task stays allowed after another task's effect: the tasks made are under their spawner, and an end only
-- takes away. Assumes nothing.
use Prim.Native.Nat.{ℕ, ◌<◌}
use mathlib.Core.Path.{◌≡◌, refl, sym, ap, subst, ◌∙◌}
use mathlib.Core.List.{List}
use mathlib.Core.Bool.{true, false, false≢true}
use mathlib.Core.Option.{some}
use mathlib.Core.Logic.{◌⊎◌, inl, inr, ◌≢◌}
use native.Mathlib.Decide.{ℕ_discrete}
use lib.ListN.{get_or}
use lib.Seq.{get_or-set_other}
use Rattle.tasklist.specs.Accepted.{Accepted}
use Rattle.semantics.specs.Run.{Run, Context, mode_of, task_of}
use Rattle.semantics.specs.Access.{Access, reads, writes, own_access, every, ahead, compatible, allowed, access_fault}
use Rattle.semantics.specs.Effect.{Edit, keep, put, add, Effect, Plan, stop, go, fetch}
use Rattle.semantics.specs.Plan.{plan}
use Rattle.semantics.specs.Call.{Call, edited, splice, places, apply, call}
use Rattle.semantics.specs.Sound.{In, Future, Valid}
use Rattle.semantics.proofs.Confluence.{Meet}
use Rattle.semantics.proofs.Order.{every_in, in_every, in_splice, splice_keep, ahead_splice, in_ahead, one_ahead}
use Rattle.semantics.proofs.Modes.{not_zero, write_ahead, write_behind, only_writers, sum_excludes_loading}
use Rattle.semantics.proofs.SoundModes.{granted_queued}
use Rattle.semantics.proofs.Apply.{touched, numbers, Disjoint, EditsApart, numbers_in, places_touched, apply_comm, task_self}
use Rattle.semantics.proofs.Fair.{Guarded, FairPlan, fair_plan}
use Rattle.semantics.proofs.Decide.{Settled, Accepts, call_accept, accept_call, one_call}
use Rattle.semantics.proofs.Valid.{accepted_fair, made_absent, made_is_future, untouched, other_record, made_record}

-- an edit is behind an open guard of its location, which the task's own mode allows
abbrev pub Backed : Run → ℕ → Edit → Type 0
Backed r n keep = Unit {0}
Backed r n (put a v) = (allowed r n (writes a) ≡ true) × (access_fault (mode_of (task_of r n) a) 2 ≡ 0)
Backed r n (add a v) = (allowed r n (own_access (task_of r n) a) ≡ true) × (access_fault (mode_of (task_of r n) a) 3 ≡ 0)

-- who stands ahead of an open guard is compatible with it
ahead_compatible :
    (r : Run) (n m : ℕ) (g : Access) → In n (ahead m r.order) → allowed r m g ≡ true
    → compatible (mode_of (task_of r n) g.location) g.mode ≡ true
unfolding allowed
ahead_compatible r n m g i h =
    every_in (λ k. compatible (mode_of (task_of r k) g.location) g.mode) n (ahead m r.order) h i

module _ (r : Run) (n m : ℕ) (i : In n r.order) (j : In m r.order) (ne : n ≢ m) where
  -- two open guards of one location, each incompatible with the other's own mode, are impossible
  clash :
      (g d : Access) → g.location ≡ d.location → allowed r n g ≡ true → allowed r m d ≡ true
      → compatible (mode_of (task_of r n) d.location) d.mode ≡ false
      → compatible (mode_of (task_of r m) g.location) g.mode ≡ false → ⊥
  clash g d q h k x y = go_on (one_ahead n m r.order i j ne)
    where
      go_on : In n (ahead m r.order) ⊎ In m (ahead n r.order) → ⊥
      go_on (inl u) = false≢true (sym x ∙ ahead_compatible r n m d u k)
      go_on (inr u) = false≢true (sym y ∙ ahead_compatible r m n g u h)

  -- where n may store, nothing is let through that m, with a place in the queue, asks for
  stores_alone :
      (a v : ℕ) (g : Access) → Backed r n (put a v) → a ≡ g.location → allowed r m g ≡ true
      → (mode_of (task_of r m) g.location ≡ 0 → ⊥) → (g.mode ≡ 0 → ⊥) → ⊥
  stores_alone a v g h q k queued asked =
      clash (writes a) g q h.0 k
      (subst (λ z. compatible (mode_of (task_of r n) z) g.mode ≡ false) q
      (ap (λ o. compatible o g.mode) (only_writers (mode_of (task_of r n) a) h.1) ∙ write_ahead g.mode asked))
      (write_behind (mode_of (task_of r m) a) (λ z. queued (ap (mode_of (task_of r m)) (sym q) ∙ z)))

  -- nor a sum
  stores_beside_no_sum : (a v b w : ℕ) → Backed r n (put a v) → Backed r m (add b w) → a ≡ b → ⊥
  stores_beside_no_sum a v b w h k q =
      let there = granted_queued (mode_of (task_of r m) b) 3 k.1 in
      stores_alone a v (own_access (task_of r m) b) h q k.0 there there

-- two edits of different tasks
module _ (r : Run) (n m : ℕ) (i : In n r.order) (j : In m r.order) (ne : n ≢ m) where
  edits_apart : (E D : Edit) → Backed r n E → Backed r m D → EditsApart E D
  edits_apart keep D h k = tt
  edits_apart (put a v) keep h k = tt
  edits_apart (put a v) (put b w) h k =
      λ q. stores_alone r n m i j ne a v (writes b) h q k.0 (granted_queued (mode_of (task_of r m) b) 2 k.1) (not_zero 1)
  edits_apart (put a v) (add b w) h k = stores_beside_no_sum r n m i j ne a v b w h k
  edits_apart (add a v) keep h k = tt
  edits_apart (add a v) (put b w) h k = λ q. stores_beside_no_sum r m n j i (λ p. ne (sym p)) b w a v k h (sym q)
  edits_apart (add a v) (add b w) h k = tt

  -- what m may read, n's edit leaves alone
  read_apart :
      (E : Edit) (b : ℕ) → Backed r n E → allowed r m (reads b) ≡ true → access_fault (mode_of (task_of r m) b) 1 ≡ 0
      → get_or (edited E r.memory) b 0 ≡ get_or r.memory b 0
  unfolding edited
  read_apart keep b h k f = refl
  read_apart (put a v) b h k f =
      get_or-set_other r.memory a b v 0
      (λ q. stores_alone r n m i j ne a v (reads b) h (sym q) k (granted_queued (mode_of (task_of r m) b) 1 f) (not_zero 0))
  read_apart (add a v) b h k f = get_or-set_other r.memory a b _ 0 (λ q. bad (sym q))
    where
      bad : a ≡ b → ⊥
      bad q =
          let f' = subst (λ z. access_fault (mode_of (task_of r m) z) 1 ≡ 0) (sym q) f in
          let apart = sum_excludes_loading (mode_of (task_of r n) a) (mode_of (task_of r m) a) h.1 f' in
          clash r n m i j ne (own_access (task_of r n) a) (reads b) q h.0 k
          (subst (λ z. compatible (mode_of (task_of r n) z) 1 ≡ false) q apart.0) apart.1

-- one accepted call
module _ (c : Context) (ok : Accepted c.list) (r : Run) (v : Valid c r) (b : Call) (e : Effect) (h : Accepts c r b e) where
  pub backed : Backed r b.task e.edit
  backed =
      let fair = fair_plan c b.task (task_of r b.task) ok b.action in
      go_on (plan c b.action b.task (task_of r b.task)) fair h.settled
    where
      guarded :
          (gs : List Access) (E : Edit) → every (allowed r b.task) gs ≡ true → Guarded (task_of r b.task) gs E
          → Backed r b.task E
      guarded gs keep s g = tt
      guarded gs (put a w) s g = (every_in (allowed r b.task) (writes a) gs s g.0, g.1)
      guarded gs (add a w) s g = (every_in (allowed r b.task) (own_access (task_of r b.task) a) gs s g.0, g.1)

      go_on :
          (p : Plan) → FairPlan c b.task (task_of r b.task) p → Settled r b.task p e
          → Backed r b.task e.edit
      go_on (stop k) f s = absurd s
      go_on (go gs d) f s = subst (λ x. Backed r b.task x.edit) s.1 (guarded gs d.edit s.0 f.1)
      go_on (fetch a d) f s =
          subst (λ x. Backed r b.task x.edit) s.1
          (subst (Backed r b.task) (sym (f.1 (get_or r.memory a 0)).1) tt)

  after_self : (task_of (apply b.task e r) b.task).modes ≡ (task_of r b.task).modes
  after_self =
      ap (λ t. t.modes) (task_self b.task e r (subst (λ k. b.task < k) (sym v.size) h.below))
      ∙ (accepted_fair c ok r v b e h).modes

  -- whoever stands in the task's place afterwards is compatible with what the task was compatible with
  heirs :
      (k : ℕ) (g : Access) → In k (touched b.task e)
      → compatible (mode_of (task_of r b.task) g.location) g.mode ≡ true
      → compatible (mode_of (task_of (apply b.task e r) k) g.location) g.mode ≡ true
  heirs k g (inl q) s =
      subst (λ ms. compatible (get_or ms g.location 0) g.mode ≡ true)
      (sym (ap (λ x. (task_of (apply b.task e r) x).modes) q ∙ after_self)) s
  heirs k g (inr i) s =
      let x = numbers_in k e.made i in
      subst (λ t. compatible (mode_of t g.location) g.mode ≡ true)
      (sym (ap (task_of (apply b.task e r)) x.2 ∙ made_record c ok r v b e h x.0 x.1))
      (((accepted_fair c ok r v b e h).born x.0 x.1).under g.location g.mode s)

  pub stays_allowed :
      (m : ℕ) (g : Access) → In m r.order → m ≢ b.task → allowed r m g ≡ true
      → allowed (apply b.task e r) m g ≡ true
  unfolding allowed
  stays_allowed m g i ne s = in_every (λ k. compatible (mode_of (task_of r' k) g.location) g.mode) (ahead m r'.order) each
    where
      r' : Run
      r' = apply b.task e r

      moved_on : ahead m r'.order ≡ splice b.task (places b.task e) (ahead m r.order)
      moved_on =
          unfold apply in
          ahead_splice m b.task (places b.task e) r.order ne
          (λ j. untouched c ok r v b e h m i ne (places_touched b.task e m j))

      before : (k : ℕ) → In k (ahead m r.order) → compatible (mode_of (task_of r k) g.location) g.mode ≡ true
      before k j = ahead_compatible r k m g j (unfold allowed in s)

      sort :
          (k : ℕ)
          → (In k (places b.task e) × In b.task (ahead m r.order)) ⊎ (In k (ahead m r.order) × (k ≢ b.task))
          → compatible (mode_of (task_of r' k) g.location) g.mode ≡ true
      sort k (inl p) = heirs k g (places_touched b.task e k p.0) (before b.task p.1)
      sort k (inr p) =
          subst (λ t. compatible (mode_of t g.location) g.mode ≡ true)
          (sym (other_record c ok r v b e h k (in_ahead k m r.order p.0) p.1))
          (before k p.0)

      each : (k : ℕ) → In k (ahead m r'.order) → compatible (mode_of (task_of r' k) g.location) g.mode ≡ true
      each k j = sort k (in_splice k b.task (places b.task e) (ahead m r.order) (subst (In k) moved_on j))

-- two accepted calls of different tasks
module _
    (c : Context) (ok : Accepted c.list) (r : Run) (v : Valid c r) (b b' : Call) (e d : Effect)
    (h : Accepts c r b e) (k : Accepts c r b' d) (ne : b.task ≢ b'.task)
  where
    pub stays_accepted : Accepts c (apply b.task e r) b' d
    stays_accepted =
        let fair = fair_plan c b'.task (task_of r b'.task) ok b'.action in
        record {
          below = k.below;
          present =
              unfold apply in
              splice_keep b'.task b.task (places b.task e) r.order k.present (λ q. ne (sym q));
          settled =
              subst (λ t. Settled (apply b.task e r) b'.task (plan c b'.action b'.task t) d) (sym same)
              (go_on (plan c b'.action b'.task (task_of r b'.task)) fair k.settled);
        }
      where
        same : task_of (apply b.task e r) b'.task ≡ task_of r b'.task
        same = other_record c ok r v b e h b'.task k.present (λ q. ne (sym q))

        still : (g : Access) → allowed r b'.task g ≡ true → allowed (apply b.task e r) b'.task g ≡ true
        still g s = stays_allowed c ok r v b e h b'.task g k.present (λ q. ne (sym q)) s

        still_there :
            (a : ℕ) → allowed r b'.task (reads a) ≡ true → access_fault (mode_of (task_of r b'.task) a) 1 ≡ 0
            → get_or (apply b.task e r).memory a 0 ≡ get_or r.memory a 0
        still_there a s f =
            unfold apply in read_apart r b.task b'.task h.present k.present ne e.edit a (backed c ok r v b e h) s f

        go_on :
            (p : Plan) → FairPlan c b'.task (task_of r b'.task) p → Settled r b'.task p d
            → Settled (apply b.task e r) b'.task p d
        go_on (stop x) f s = absurd s
        go_on (go gs x) f s = (
          in_every (allowed (apply b.task e r) b'.task) gs
              (λ g i. still g (every_in (allowed r b'.task) g gs s.0 i)),
          s.1,
        )
        go_on (fetch a x) f s = (
          still (reads a) s.0,
          ap x (still_there a s.0 f.0) ∙ s.1,
        )

    pub touched_apart : Disjoint (touched b.task e) (touched b'.task d)
    touched_apart x (inl p) (inl q) = ne (sym p ∙ q)
    touched_apart x (inl p) (inr j) = made_absent c ok r v b' d k b.task h.present (subst (λ z. In z (numbers d.made)) p j)
    touched_apart x (inr i) (inl q) = made_absent c ok r v b e h b'.task k.present (subst (λ z. In z (numbers e.made)) q i)
    touched_apart x (inr i) (inr j) =
        let y = numbers_in x e.made i in
        let z = numbers_in x d.made j in
        ne
        (v.owner b.task b'.task y.0.number h.present k.present
        (made_is_future c ok r v b e h y.0 y.1)
        (subst (Future c b'.task (task_of r b'.task)) (sym z.2 ∙ y.2)
        (made_is_future c ok r v b' d k z.0 z.1)))

    -- made in the order b, b'
    after_both : call c (apply b.task e r) b' ≡ some (apply b'.task d (apply b.task e r))
    after_both = accept_call c (apply b.task e r) b' d stays_accepted

    same_run : apply b'.task d (apply b.task e r) ≡ apply b.task e (apply b'.task d r)
    same_run =
        apply_comm b.task b'.task e d r touched_apart
        (edits_apart r b.task b'.task h.present k.present ne e.edit d.edit (backed c ok r v b e h)
        (backed c ok r v b' d k))

pub diamond :
    (c : Context) → Accepted c.list → (r r₁ r₂ : Run) (b b' : Call) → Valid c r
    → call c r b ≡ some r₁ → call c r b' ≡ some r₂ → Meet (call c) b b' r₁ r₂
diamond c ok r r₁ r₂ b b' v p q = sort (ℕ_discrete b.task b'.task)
  where
    x : (e : Effect) × Accepts c r b e × (apply b.task e r ≡ r₁)
    x = call_accept c r b r₁ p

    y : (e : Effect) × Accepts c r b' e × (apply b'.task e r ≡ r₂)
    y = call_accept c r b' r₂ q

    e : Effect
    e = x.0

    d : Effect
    d = y.0

    both : Run
    both = apply b'.task d (apply b.task e r)

    one_way : b.task ≢ b'.task → call c r₁ b' ≡ some both
    one_way ne = subst (λ s. call c s b' ≡ some both) x.2 (after_both c ok r v b b' e d x.1 y.1 ne)

    other_way : b.task ≢ b'.task → call c r₂ b ≡ some both
    other_way ne =
        subst (λ s. call c s b ≡ some both) y.2
        (after_both c ok r v b' b d e y.1 x.1 (λ m. ne (sym m))
        ∙ ap some (sym (same_run c ok r v b b' e d x.1 y.1 ne)))

    sort : Dec (b.task ≡ b'.task) → Meet (call c) b b' r₁ r₂
    sort (yes n) = inl (one_call c r r₁ r₂ b b' p q n)
    sort (no ne) = inr (both, one_way ne, other_way ne)
