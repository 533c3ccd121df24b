-- Laws of the order: membership, distinctness, who is ahead, and the splice that every call makes. Assumes nothing.
use Prim.Native.Nat.{ℕ}
use mathlib.Core.Path.{◌≡◌, refl, sym, ap, subst, ◌∙◌}
use mathlib.Core.List.{List, [], ◌∷◌, ◌++◌, append_assoc}
use mathlib.Core.Bool.{Bool, true, false, cond, ◌&&◌, ◌||◌, false≢true}
use mathlib.Core.Logic.{◌⊎◌, inl, inr, ◌≢◌}
use native.Mathlib.Decide.{ℕ_discrete}
use lib.Dec.{eqb}
use borrow.Author.Tests.{eq-eqb, ne_eqb, eqb-true}
use Rattle.semantics.specs.Access.{every, ahead}
use Rattle.semantics.specs.Call.{among, splice}
use Rattle.semantics.specs.Sound.{In, Distinct}

pub and_left : (a b : Bool) → (a && b) ≡ true → a ≡ true
and_left true b h = refl
and_left false b h = h

pub and_right : (a b : Bool) → (a && b) ≡ true → b ≡ true
and_right true b h = h
and_right false b h = absurd (false≢true h)

module _ {A : Type 0} where
  pub in_left : (a : A) (xs ys : List A) → In a xs → In a (xs ++ ys)
  in_left a [] ys h = absurd h
  in_left a (x ∷ xs) ys (inl p) = inl p
  in_left a (x ∷ xs) ys (inr h) = inr (in_left a xs ys h)

  pub in_right : (a : A) (xs ys : List A) → In a ys → In a (xs ++ ys)
  in_right a [] ys h = h
  in_right a (x ∷ xs) ys h = inr (in_right a xs ys h)

  pub in_append : (a : A) (xs ys : List A) → In a (xs ++ ys) → In a xs ⊎ In a ys
  in_append a [] ys h = inr h
  in_append a (x ∷ xs) ys (inl p) = inl (inl p)
  in_append a (x ∷ xs) ys (inr h) = go (in_append a xs ys h)
    where
      go : In a xs ⊎ In a ys → In a (x ∷ xs) ⊎ In a ys
      go (inl i) = inl (inr i)
      go (inr i) = inr i

  pub every_in : (p : A → Bool) (a : A) (l : List A) → every p l ≡ true → In a l → p a ≡ true
  unfolding every
  every_in p a [] h i = absurd i
  every_in p a (b ∷ l) h (inl q) = ap p q ∙ and_left (p b) (every p l) h
  every_in p a (b ∷ l) h (inr i) = every_in p a l (and_right (p b) (every p l) h) i

  pub in_every : (p : A → Bool) (l : List A) → ((a : A) → In a l → p a ≡ true) → every p l ≡ true
  unfolding every
  in_every p [] h = refl
  in_every p (b ∷ l) h = rw (h b (inl refl)) (in_every p l (λ a i. h a (inr i)))

pub among_in : (n : ℕ) (o : List ℕ) → among n o ≡ true → In n o
unfolding among
among_in n [] h = absurd (false≢true h)
among_in n (k ∷ o) h = go (among_in n o) (eqb k n) refl h
  where
    go : (among n o ≡ true → In n o) → (t : Bool) → eqb k n ≡ t → (t || among n o) ≡ true → In n (k ∷ o)
    go ih true e q = inl (sym (eqb-true k n e))
    go ih false e q = inr (ih q)

pub in_among : (n : ℕ) (o : List ℕ) → In n o → among n o ≡ true
unfolding among
in_among n [] h = absurd h
in_among n (k ∷ o) (inl q) = rw (eq-eqb k n (sym q)) refl
in_among n (k ∷ o) (inr i) = rw (in_among n o i) (go (eqb k n))
  where
    go : (t : Bool) → (t || true) ≡ true
    go true = refl
    go false = refl

-- splice
pub splice_same : (n k : ℕ) (xs o : List ℕ) → k ≡ n → splice n xs (k ∷ o) ≡ xs ++ splice n xs o
unfolding splice
splice_same n k xs o q = rw (eq-eqb k n q) refl

pub splice_other : (n k : ℕ) (xs o : List ℕ) → k ≢ n → splice n xs (k ∷ o) ≡ k ∷ splice n xs o
unfolding splice
splice_other n k xs o q = rw (ne_eqb k n q) refl

pub splice_append : (n : ℕ) (xs a b : List ℕ) → splice n xs (a ++ b) ≡ splice n xs a ++ splice n xs b
unfolding splice
splice_append n xs [] b = refl
splice_append n xs (k ∷ a) b = rw (splice_append n xs a b) (go (eqb k n))
  where
    go :
        (t : Bool) → cond t (xs ++ (splice n xs a ++ splice n xs b)) (k ∷ (splice n xs a ++ splice n xs b))
        ≡ cond t (xs ++ splice n xs a) (k ∷ splice n xs a) ++ splice n xs b
    go true = sym (append_assoc xs (splice n xs a) (splice n xs b))
    go false = refl

pub splice_absent : (n : ℕ) (xs o : List ℕ) → (In n o → ⊥) → splice n xs o ≡ o
unfolding splice
splice_absent n xs [] h = refl
splice_absent n xs (k ∷ o) h =
    rw (ne_eqb k n (λ q. h (inl (sym q)))) (ap {B = List ℕ} (λ l. k ∷ l) (splice_absent n xs o (λ i. h (inr i))))

pub splice_comm :
    (n m : ℕ) (xs ys o : List ℕ) → n ≢ m → (In m xs → ⊥) → (In n ys → ⊥)
    → splice m ys (splice n xs o) ≡ splice n xs (splice m ys o)
splice_comm n m xs ys [] ne a b = unfold splice in refl
splice_comm n m xs ys (k ∷ o) ne a b = go (splice_comm n m xs ys o ne a b) (ℕ_discrete k n) (ℕ_discrete k m)
  where
    go :
        splice m ys (splice n xs o) ≡ splice n xs (splice m ys o) → Dec (k ≡ n) → Dec (k ≡ m)
        → splice m ys (splice n xs (k ∷ o)) ≡ splice n xs (splice m ys (k ∷ o))
    go ih (yes p) (yes q) = absurd (ne (sym p ∙ q))
    go ih (yes p) (no q) =
        rw (splice_same n k xs o p, splice_append m ys xs (splice n xs o), splice_absent m ys xs a)
        (rw (splice_other m k ys o q, splice_same n k xs (splice m ys o) p, ih) refl)
    go ih (no p) (yes q) =
        rw (splice_other n k xs o p, splice_same m k ys (splice n xs o) q, splice_same m k ys o q)
        (rw (splice_append n xs ys (splice m ys o), splice_absent n xs ys b, ih) refl)
    go ih (no p) (no q) =
        rw (splice_other n k xs o p, splice_other m k ys (splice n xs o) q)
        (rw (splice_other m k ys o q, splice_other n k xs (splice m ys o) p, ih) refl)

-- who is in the order after a splice: one of the new in the place of an old one, or another old one
pub in_splice : (k n : ℕ) (xs o : List ℕ) → In k (splice n xs o) → (In k xs × In n o) ⊎ (In k o × (k ≢ n))
in_splice k n xs [] h = absurd (unfold splice in h)
in_splice k n xs (j ∷ o) h = go (in_splice k n xs o) (ℕ_discrete j n)
  where
    wider : (In k xs × In n o) ⊎ (In k o × (k ≢ n)) → (In k xs × In n (j ∷ o)) ⊎ (In k (j ∷ o) × (k ≢ n))
    wider (inl a) = inl (a.0, inr a.1)
    wider (inr a) = inr (inr a.0, a.1)

    first :
        (In k (splice n xs o) → (In k xs × In n o) ⊎ (In k o × (k ≢ n))) → n ≡ j → In k xs ⊎ In k (splice n xs o)
        → (In k xs × In n (j ∷ o)) ⊎ (In k (j ∷ o) × (k ≢ n))
    first ih q (inl i) = inl (i, inl q)
    first ih q (inr i) = wider (ih i)

    other :
        (In k (splice n xs o) → (In k xs × In n o) ⊎ (In k o × (k ≢ n))) → j ≢ n → In k (j ∷ splice n xs o)
        → (In k xs × In n (j ∷ o)) ⊎ (In k (j ∷ o) × (k ≢ n))
    other ih q (inl e) = inr (inl e, λ p. q (sym e ∙ p))
    other ih q (inr i) = wider (ih i)

    go :
        (In k (splice n xs o) → (In k xs × In n o) ⊎ (In k o × (k ≢ n))) → Dec (j ≡ n)
        → (In k xs × In n (j ∷ o)) ⊎ (In k (j ∷ o) × (k ≢ n))
    go ih (yes p) = first ih (sym p) (in_append k xs (splice n xs o) (subst (In k) (splice_same n j xs o p) h))
    go ih (no p) = other ih p (subst (In k) (splice_other n j xs o p) h)

pub splice_keep : (k n : ℕ) (xs o : List ℕ) → In k o → k ≢ n → In k (splice n xs o)
splice_keep k n xs [] i q = absurd i
splice_keep k n xs (j ∷ o) (inl e) q =
    subst (In k) (sym (splice_other n j xs o (λ p. q (e ∙ p)))) (inl e)
splice_keep k n xs (j ∷ o) (inr i) q = go (splice_keep k n xs o i q) (ℕ_discrete j n)
  where
    go : In k (splice n xs o) → Dec (j ≡ n) → In k (splice n xs (j ∷ o))
    go h (yes p) = subst (In k) (sym (splice_same n j xs o p)) (in_right k xs (splice n xs o) h)
    go h (no p) = subst (In k) (sym (splice_other n j xs o p)) (inr h)

pub splice_new : (k n : ℕ) (xs o : List ℕ) → In n o → In k xs → In k (splice n xs o)
splice_new k n xs [] i h = absurd i
splice_new k n xs (j ∷ o) (inl e) h = subst (In k) (sym (splice_same n j xs o (sym e))) (in_left k xs (splice n xs o) h)
splice_new k n xs (j ∷ o) (inr i) h = go (splice_new k n xs o i h) (ℕ_discrete j n)
  where
    go : In k (splice n xs o) → Dec (j ≡ n) → In k (splice n xs (j ∷ o))
    go r (yes p) = subst (In k) (sym (splice_same n j xs o p)) (in_right k xs (splice n xs o) r)
    go r (no p) = subst (In k) (sym (splice_other n j xs o p)) (inr r)

-- ahead
pub ahead_self : (n k : ℕ) (o : List ℕ) → k ≡ n → ahead n (k ∷ o) ≡ []
unfolding ahead
ahead_self n k o q = rw (eq-eqb k n q) refl

pub ahead_other : (n k : ℕ) (o : List ℕ) → k ≢ n → ahead n (k ∷ o) ≡ k ∷ ahead n o
unfolding ahead
ahead_other n k o q = rw (ne_eqb k n q) refl

pub ahead_append : (n : ℕ) (xs o : List ℕ) → (In n xs → ⊥) → ahead n (xs ++ o) ≡ xs ++ ahead n o
ahead_append n [] o h = refl
ahead_append n (x ∷ xs) o h =
    ahead_other n x (xs ++ o) (λ q. h (inl (sym q)))
    ∙ ap {B = List ℕ} (λ l. x ∷ l) (ahead_append n xs o (λ i. h (inr i)))

pub ahead_splice : (n m : ℕ) (xs o : List ℕ) → n ≢ m → (In n xs → ⊥) → ahead n (splice m xs o) ≡ splice m xs (ahead n o)
ahead_splice n m xs [] ne h = unfold splice ahead in refl
ahead_splice n m xs (k ∷ o) ne h = go (ahead_splice n m xs o ne h) (ℕ_discrete k n) (ℕ_discrete k m)
  where
    go :
        ahead n (splice m xs o) ≡ splice m xs (ahead n o) → Dec (k ≡ n) → Dec (k ≡ m)
        → ahead n (splice m xs (k ∷ o)) ≡ splice m xs (ahead n (k ∷ o))
    go ih (yes p) (yes q) = absurd (ne (sym p ∙ q))
    go ih (yes p) (no q) = rw (splice_other m k xs o q, ahead_self n k (splice m xs o) p, ahead_self n k o p) (unfold splice in refl)
    go ih (no p) (yes q) =
        rw (splice_same m k xs o q, ahead_append n xs (splice m xs o) h)
        (rw (ahead_other n k o p, splice_same m k xs (ahead n o) q, ih) refl)
    go ih (no p) (no q) =
        rw (splice_other m k xs o q, ahead_other n k (splice m xs o) p)
        (rw (ahead_other n k o p, splice_other m k xs (ahead n o) q, ih) refl)

pub in_ahead : (k n : ℕ) (o : List ℕ) → In k (ahead n o) → In k o
in_ahead k n [] h = unfold ahead in h
in_ahead k n (j ∷ o) h = go (in_ahead k n o) (ℕ_discrete j n)
  where
    other : (In k (ahead n o) → In k o) → In k (j ∷ ahead n o) → In k (j ∷ o)
    other ih (inl p) = inl p
    other ih (inr i) = inr (ih i)

    go : (In k (ahead n o) → In k o) → Dec (j ≡ n) → In k (j ∷ o)
    go ih (yes p) = absurd (subst (In k) (ahead_self n j o p) h)
    go ih (no p) = other ih (subst (In k) (ahead_other n j o p) h)

-- of two tasks in the order one is ahead of the other
pub one_ahead : (n m : ℕ) (o : List ℕ) → In n o → In m o → n ≢ m → In n (ahead m o) ⊎ In m (ahead n o)
one_ahead n m [] i j ne = absurd i
one_ahead n m (k ∷ o) (inl p) j ne =
    inl (subst (In n) (sym (ahead_other m k o (λ q. ne (p ∙ q)))) (inl p))
one_ahead n m (k ∷ o) (inr i) (inl q) ne =
    inr (subst (In m) (sym (ahead_other n k o (λ p. ne (sym (q ∙ p))))) (inl q))
one_ahead n m (k ∷ o) (inr i) (inr j) ne = go (one_ahead n m o i j ne) (ℕ_discrete k n) (ℕ_discrete k m)
  where
    deeper : k ≢ n → k ≢ m → In n (ahead m o) ⊎ In m (ahead n o) → In n (ahead m (k ∷ o)) ⊎ In m (ahead n (k ∷ o))
    deeper p q (inl h) = inl (subst (In n) (sym (ahead_other m k o q)) (inr h))
    deeper p q (inr h) = inr (subst (In m) (sym (ahead_other n k o p)) (inr h))

    go :
        In n (ahead m o) ⊎ In m (ahead n o) → Dec (k ≡ n) → Dec (k ≡ m)
        → In n (ahead m (k ∷ o)) ⊎ In m (ahead n (k ∷ o))
    go h (yes p) (yes q) = absurd (ne (sym p ∙ q))
    go h (yes p) (no q) = inl (subst (In n) (sym (ahead_other m k o q)) (inl (sym p)))
    go h (no p) (yes q) = inr (subst (In m) (sym (ahead_other n k o p)) (inl (sym q)))
    go h (no p) (no q) = deeper p q h

-- distinct
pub distinct_append :
    (xs ys : List ℕ) → Distinct xs → Distinct ys → ((k : ℕ) → In k xs → In k ys → ⊥) → Distinct (xs ++ ys)
distinct_append [] ys d e h = e
distinct_append (x ∷ xs) ys d e h =
    (λ i. go (in_append x xs ys i), distinct_append xs ys d.1 e (λ k i j. h k (inr i) j))
  where
    go : In x xs ⊎ In x ys → ⊥
    go (inl i) = d.0 i
    go (inr i) = h x (inl refl) i

pub distinct_splice :
    (n : ℕ) (xs o : List ℕ) → Distinct xs → Distinct o → ((k : ℕ) → In k xs → In k o → k ≡ n) → Distinct (splice n xs o)
distinct_splice n xs [] d e h = unfold splice in tt
distinct_splice n xs (j ∷ o) d e h = go (distinct_splice n xs o d e.1 (λ k i i'. h k i (inr i'))) (ℕ_discrete j n)
  where
    fresh : j ≢ n → (In j xs × In n o) ⊎ (In j o × (j ≢ n)) → ⊥
    fresh p (inl a) = p (h j a.0 (inl refl))
    fresh p (inr a) = e.0 a.0

    go : Distinct (splice n xs o) → Dec (j ≡ n) → Distinct (splice n xs (j ∷ o))
    go ih (yes p) =
        let gone : In n o → ⊥ = λ i. e.0 (subst (λ x. In x o) (sym p) i) in
        subst Distinct (sym (splice_same n j xs o p ∙ ap (λ l. xs ++ l) (splice_absent n xs o gone)))
        (distinct_append xs o d e.1 (λ k i i'. gone (subst (λ x. In x o) (h k i (inr i')) i')))
    go ih (no p) = subst Distinct (sym (splice_other n j xs o p)) ((λ i. fresh p (in_splice j n xs o i)), ih)
