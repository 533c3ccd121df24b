-- Calls that are ready at one moment, one of each task, can be made in any order, with one result: of two such calls each is
-- ready after the other, so that any of them can be made first. From where some of them lead, calls lead on to where all of
-- them lead. Assumes nothing.
use Prim.Native.Nat.{ℕ, zero, suc, ◌+◌}
use mathlib.Core.Path.{◌≡◌, refl, sym, ap, subst, ◌∙◌}
use mathlib.Core.List.{List, [], ◌∷◌, ◌++◌, map}
use mathlib.Core.Option.{some}
use mathlib.Core.Logic.{◌⊎◌, inl, inr}
use native.Mathlib.Omega.{arith}
use lib.ListN.{length}
use Rattle.tasklist.specs.Accepted.{Accepted}
use Rattle.semantics.specs.Run.{Run, Context}
use Rattle.semantics.specs.Call.{Call, call, after, after_all, one_if, accepted_count}
use Rattle.semantics.specs.Sound.{In, Distinct, Valid}
use Rattle.semantics.proofs.Confluence.{Reach, Meet}
use Rattle.semantics.proofs.Diamond.{diamond}
use Rattle.semantics.proofs.Kept.{call_valid}
use Rattle.semantics.proofs.Sequential.{after_call}
use Rattle.semantics.proofs.Reached.{reach_calls}
use Rattle.semantics.proofs.Turns.{Led, led_after}
use Rattle.model_rounds.proofs.Lists.{in_map, map_in}

abbrev pub tasks : List Call → List ℕ
tasks bs = map (λ b. b.task) bs

-- the call would be accepted
abbrev pub ReadyAt : Context → Run → Call → Type 0
ReadyAt c r b = (r' : Run) × (call c r b ≡ some r')

-- calls that are ready at one moment, one of each task
pub record Together (c : Context) (r : Run) (bs : List Call) : Type 0 where
  pub ready : (b : Call) → In b bs → ReadyAt c r b
  pub once : Distinct (tasks bs)

once_first : (b : Call) (bs : List Call) → Distinct (tasks (b ∷ bs)) → In b bs → ⊥
once_first b bs d i = d.0 (in_map (λ x. x.task) b bs i)

-- calls one after another
module _ (c : Context) where
  after_none : (r : Run) → after_all c r [] ≡ r
  unfolding after_all
  after_none r = refl

  after_first : (r r₁ : Run) (b : Call) (bs : List Call) → call c r b ≡ some r₁ → after_all c r (b ∷ bs) ≡ after_all c r₁ bs
  unfolding after_all
  after_first r r₁ b bs e = ap (λ x. after_all c x bs) (after_call c r r₁ b e)

  pub after_append : (bs ds : List Call) (r : Run) → after_all c r (bs ++ ds) ≡ after_all c (after_all c r bs) ds
  unfolding after_all
  after_append [] ds r = refl
  after_append (b ∷ bs) ds r = after_append bs ds (after c r b)

  reach_on : (m k : ℕ) (r s t : Run) → Reach (call c) s m r → Reach (call c) t k s → Reach (call c) t (m + k) r
  reach_on zero k r s t p q =
      let same : k ≡ 0 + k = omega arith in
      subst (λ n. Reach (call c) t n r) same (subst (Reach (call c) t k) (sym p) q)
  reach_on (suc m) k r s t p q =
      let same : suc (m + k) ≡ suc m + k = omega arith in
      subst (λ n. Reach (call c) t n r) same (p.0, p.1, p.2, reach_on m k p.1 s t p.3 q)

  pub led_on : (r s t : Run) → Led c r s → Led c s t → Led c r t
  led_on r s t p q = (p.0 + q.0, reach_on p.0 q.0 r s t p.1 q.1)

  led_all : (bs : List Call) (s r : Run) → Led c s r → Led c s (after_all c r bs)
  unfolding after_all
  led_all [] s r h = h
  led_all (b ∷ bs) s r h = led_all bs s (after c r b) (led_after c s r b h)

  -- any calls lead on
  pub calls_lead : (bs : List Call) (r : Run) → Led c r (after_all c r bs)
  calls_lead bs r = led_all bs r r (0, refl)

  -- two runs that lead to each other are one: each call that leads on is counted
  led_back : (r s : Run) → Led c r s → Led c s r → r ≡ s
  led_back r s p q = look p.0 p.1
    where
      look : (m : ℕ) → Reach (call c) s m r → r ≡ s
      look zero h = h
      look (suc m) h =
          let bad : ⊥ = omega (arith, reach_calls c s (suc m) r h, reach_calls c r q.0 s q.1) in absurd bad

-- Of several calls one, which leads to r₁, is made first: the rest lead from there to where all lead.
record Out (c : Context) (r r₁ : Run) (z : Call) (bs : List Call) : Type 0 where
  rest : List Call
  same : after_all c r bs ≡ after_all c r₁ rest
  into : (b : Call) → In b bs → (b ≡ z) ⊎ In b rest
  from : (b : Call) → In b rest → In b bs
  gone : In z rest → ⊥
  once : Distinct (tasks rest)

module _ (c : Context) (ok : Accepted c.list) where
  pub led_valid : (r s : Run) → Valid c r → Led c r s → Valid c s
  led_valid r s v h = along h.0 r v h.1
    where
      along : (m : ℕ) (x : Run) → Valid c x → Reach (call c) s m x → Valid c s
      along zero x u q = subst (Valid c) q u
      along (suc m) x u q = along m q.1 (call_valid c ok x q.1 q.0 u q.2) q.3

  pub after_valid : (bs : List Call) (r : Run) → Valid c r → Valid c (after_all c r bs)
  after_valid bs r v = led_valid r (after_all c r bs) v (calls_lead c bs r)

  -- of two ready calls each is ready after the other, with one result
  beside :
      (r r₁ r₂ : Run) (b d : Call) → Valid c r → call c r b ≡ some r₁ → call c r d ≡ some r₂ → (b ≡ d → ⊥)
      → (r₃ : Run) × (call c r₁ d ≡ some r₃) × (call c r₂ b ≡ some r₃)
  beside r r₁ r₂ b d v p q ne = sort (diamond c ok r r₁ r₂ b d v p q)
    where
      sort : Meet (call c) b d r₁ r₂ → (r₃ : Run) × (call c r₁ d ≡ some r₃) × (call c r₂ b ≡ some r₃)
      sort (inl e) = absurd (ne e)
      sort (inr x) = x

  -- after one of them all others are still ready
  others_ready :
      (bs : List Call) (r r₁ : Run) (z : Call) → Valid c r → call c r z ≡ some r₁ → ((b : Call) → In b bs → ReadyAt c r b)
      → (In z bs → ⊥) → (b : Call) → In b bs → ReadyAt c r₁ b
  others_ready bs r r₁ z v e all apart b i =
      let k = all b i in
      let m = beside r r₁ k.0 z b v e k.1 (λ q. apart (subst (λ x. In x bs) (sym q) i)) in
      (m.0, m.1)

  -- the first is made
  tail_together :
      (r r₁ : Run) (b : Call) (bs : List Call) → Valid c r → call c r b ≡ some r₁ → Together c r (b ∷ bs)
      → Together c r₁ bs
  tail_together r r₁ b bs v e h =
      record {
        ready = others_ready bs r r₁ b v e (λ d i. h.ready d (inr i)) (once_first b bs h.once);
        once = h.once.1;
      }

  take_out :
      (bs : List Call) (r r₁ : Run) (z : Call) → Valid c r → Together c r bs → In z bs → call c r z ≡ some r₁
      → Out c r r₁ z bs
  take_out [] r r₁ z v h i e = absurd i
  take_out (b ∷ bs) r r₁ z v h (inl q) e =
      record {
        rest = bs;
        same = ap (λ x. after_all c r (x ∷ bs)) (sym q) ∙ after_first c r r₁ z bs e;
        into = sort;
        from = λ d i. inr i;
        gone = λ i. once_first b bs h.once (subst (λ x. In x bs) q i);
        once = h.once.1;
      }
    where
      sort : (d : Call) → In d (b ∷ bs) → (d ≡ z) ⊎ In d bs
      sort d (inl p) = inl (p ∙ sym q)
      sort d (inr i) = inr i
  take_out (b ∷ bs) r r₁ z v h (inr i) e =
      deeper (take_out bs first.0 both.0 z (call_valid c ok r first.0 b v first.1) left i both.1)
    where
      first : ReadyAt c r b
      first = h.ready b (inl refl)

      left : Together c first.0 bs
      left = tail_together r first.0 b bs v first.1 h

      ne : b ≡ z → ⊥
      ne q = once_first b bs h.once (subst (λ x. In x bs) (sym q) i)

      both : (r₃ : Run) × (call c first.0 z ≡ some r₃) × (call c r₁ b ≡ some r₃)
      both = beside r first.0 r₁ b z v first.1 e ne

      deeper : Out c first.0 both.0 z bs → Out c r r₁ z (b ∷ bs)
      deeper o =
          record {
            rest = b ∷ o.rest;
            same =
                after_first c r first.0 b bs first.1 ∙ o.same
                ∙ sym (after_first c r₁ both.0 b o.rest both.2);
            into = into;
            from = from;
            gone = gone;
            once = (fresh, o.once);
          }
        where
          wider : (d : Call) → (d ≡ z) ⊎ In d o.rest → (d ≡ z) ⊎ In d (b ∷ o.rest)
          wider d (inl p) = inl p
          wider d (inr j) = inr (inr j)

          into : (d : Call) → In d (b ∷ bs) → (d ≡ z) ⊎ In d (b ∷ o.rest)
          into d (inl p) = inr (inl p)
          into d (inr j) = wider d (o.into d j)

          from : (d : Call) → In d (b ∷ o.rest) → In d (b ∷ bs)
          from d (inl p) = inl p
          from d (inr j) = inr (o.from d j)

          gone : In z (b ∷ o.rest) → ⊥
          gone (inl p) = ne (sym p)
          gone (inr j) = o.gone j

          fresh : In b.task (tasks o.rest) → ⊥
          fresh j =
              let x = map_in (λ d. d.task) b.task o.rest j in
              h.once.0
              (subst (λ n. In n (tasks bs)) (sym x.2) (in_map (λ d. d.task) x.0 bs (o.from x.0 x.1)))

  rest_together :
      (bs : List Call) (r r₁ : Run) (z : Call) → Valid c r → Together c r bs → call c r z ≡ some r₁ → (o : Out c r r₁ z bs)
      → Together c r₁ o.rest
  rest_together bs r r₁ z v h e o =
      record { ready = others_ready o.rest r r₁ z v e (λ d i. h.ready d (o.from d i)) o.gone; once = o.once }

  -- any of the calls can be made first
  pub any_first :
      (bs : List Call) (r r₁ : Run) (z : Call) → Valid c r → Together c r bs → In z bs → call c r z ≡ some r₁
      → (rest : List Call) × (after_all c r bs ≡ after_all c r₁ rest) × Together c r₁ rest
  any_first bs r r₁ z v h i e =
      let o = take_out bs r r₁ z v h i e in (o.rest, o.same, rest_together bs r r₁ z v h e o)

  -- from where some of the calls lead, calls lead on to where all of them lead
  pub part_leads :
      (zs bs : List Call) (r : Run) → Valid c r → Together c r bs → Distinct (tasks zs) → ((b : Call) → In b zs → In b bs)
      → Led c (after_all c r zs) (after_all c r bs)
  part_leads [] bs r v h d part = subst (λ x. Led c x (after_all c r bs)) (sym (after_none c r)) (calls_lead c bs r)
  part_leads (z ∷ zs) bs r v h d part =
      subst (λ x. Led c x (after_all c r bs)) (sym (after_first c r one.0 z zs one.1))
      (subst (Led c (after_all c one.0 zs)) (sym o.same)
      (part_leads zs o.rest one.0 (call_valid c ok r one.0 z v one.1)
      (rest_together bs r one.0 z v h one.1 o) d.1 (λ b i. sort b i (o.into b (part b (inr i))))))
    where
      one : ReadyAt c r z
      one = h.ready z (part z (inl refl))

      o : Out c r one.0 z bs
      o = take_out bs r one.0 z v h (part z (inl refl)) one.1

      sort : (b : Call) → In b zs → (b ≡ z) ⊎ In b o.rest → In b o.rest
      sort b i (inl p) = absurd (once_first z zs d (subst (λ x. In x zs) p i))
      sort b i (inr j) = j

  -- The order of the calls within a round does not matter.
  pub any_order :
      (bs ds : List Call) (r : Run) → Valid c r → Together c r bs → Together c r ds → ((b : Call) → In b bs → In b ds)
      → ((b : Call) → In b ds → In b bs) → after_all c r bs ≡ after_all c r ds
  any_order bs ds r v h k into from =
      led_back c (after_all c r bs) (after_all c r ds) (part_leads bs ds r v k h.once into)
      (part_leads ds bs r v h k.once from)

  -- made one after another they are all accepted
  pub together_accepted :
      (bs : List Call) (r : Run) → Valid c r → Together c r bs → accepted_count c r bs ≡ length bs
  unfolding accepted_count
  together_accepted [] r v h = refl
  together_accepted (b ∷ bs) r v h =
      let k = h.ready b (inl refl) in
      let later =
      together_accepted bs k.0 (call_valid c ok r k.0 b v k.1) (tail_together r k.0 b bs v k.1 h) in
      let more : accepted_count c (after c r b) bs ≡ length bs =
      ap (λ x. accepted_count c x bs) (after_call c r k.0 b k.1) ∙ later in
      let one : one_if (call c r b) ≡ 1 = ap one_if k.1 in
      omega (arith, more, one)
