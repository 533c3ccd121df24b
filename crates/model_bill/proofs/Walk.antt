-- The walk over the records finds tasks whose blocks hold all that are made above job 0. Assumes nothing.
use Prim.Native.Nat.{ℕ, zero, suc, ◌+◌, ◌-◌, ◌≤◌, ◌<◌}
use mathlib.Core.Path.{◌≡◌, refl, sym, ap, subst, ◌∙◌}
use mathlib.Core.List.{List, [], ◌∷◌}
use mathlib.Core.Bool.{Bool, true, false, cond, not}
use mathlib.Core.Logic.{inl, inr}
use native.Mathlib.Omega.{arith}
use native.Mathlib.Decide.{ℕ_discrete}
use lib.ListN.{length, drop, get_or}
use lib.Seq.{drop-cons, get_or-drop}
use lib.Dec.{eqb}
use borrow.Author.Tests.{eqb-true, eq-eqb, ne_eqb, not-false}
use Rattle.tasklist.specs.TaskList.{task_count}
use Rattle.tasklist.specs.Accepted.{Accepted}
use Rattle.semantics.specs.Run.{Task, Run, Context, never, task_of}
use Rattle.semantics.specs.Sound.{In, limit}
use Rattle.semantics.proofs.Valid.{never_state, count_law}
use Rattle.model_bill.specs.Bill.{is_made, wards_from, wards}
use Rattle.model_bill.specs.Statement.{Rising}

abbrev pub Made : Run → ℕ → Type 0
Made r n = (task_of r n).state ≡ 0 → ⊥

-- the first number behind task n's block
abbrev pub end_of : Context → Run → ℕ → ℕ
end_of c r n = limit c n (task_of r n)

-- tasks made, from number `low` on, each behind the block of the one before
abbrev pub Apart : Context → Run → ℕ → List ℕ → Type 0
Apart c r low [] = Unit {0}
Apart c r low (w ∷ ws) = (low ≤ w) × Made r w × Apart c r (end_of c r w) ws

-- task k and its block are in the block of one of these
abbrev pub InBlock : Context → Run → List ℕ → ℕ → Type 0
InBlock c r ws k = (w : ℕ) × In w ws × (w ≤ k) × (end_of c r k ≤ end_of c r w)

-- every task made from number `low` on is
abbrev pub Held : Context → Run → ℕ → List ℕ → Type 0
Held c r low ws = (k : ℕ) → low ≤ k → Made r k → InBlock c r ws k

pub made_not : (t : Task) → is_made t ≡ false → t.state ≡ 0
unfolding is_made
made_not t q = eqb-true t.state 0 (not-false (eqb t.state 0) q)

pub made_is : (t : Task) → is_made t ≡ true → t.state ≡ 0 → ⊥
unfolding is_made
made_is t q z = let e : not true ≡ true = ap not (sym (eq-eqb t.state 0 z)) ∙ q in let bad : ◌≡◌ {A = ℕ} 0 1 = cc in omega arith

module _ (c : Context) (ok : Accepted c.list) (r : Run) where
  pub block_some : (n : ℕ) → n < end_of c r n
  block_some n = omega (arith, count_law c ok (task_of r n).body)

  pub apart_in : (low : ℕ) (ws : List ℕ) (w : ℕ) → Apart c r low ws → In w ws → low ≤ w
  apart_in low [] w a i = absurd i
  apart_in low (v ∷ ws) w a (inl q) = omega (arith, a.0)
  apart_in low (v ∷ ws) w a (inr i) =
      omega (arith, a.0, block_some v, apart_in (end_of c r v) ws w a.2 i)

  -- one task of the walk: n is made, and so the next of them
  module _ (t : Task) (n : ℕ) (t_is : t ≡ task_of r n) where
    made_here : is_made t ≡ true → Made r n
    made_here q z = made_is t q (ap (λ u. u.state) t_is ∙ z)

    next_is : (v : ℕ) (vs : List ℕ) → Apart c r n (v ∷ vs) → InBlock c r (v ∷ vs) n → v ≡ n
    next_is v vs a b = sort b.1
      where
        sort : In b.0 (v ∷ vs) → v ≡ n
        sort (inl q) = omega (arith, a.0, b.2)
        sort (inr i) =
            let z : ⊥ = omega (arith, a.0, b.2, block_some v, apart_in (end_of c r v) vs b.0 a.2 i) in absurd z

    next_end : (v : ℕ) → v ≡ n → end_of c r v ≡ suc n + (task_count c.list t.body - 1)
    next_end v q =
        let here : end_of c r v ≡ n + task_count c.list t.body =
        ap (end_of c r) q ∙ ap (λ u. n + task_count c.list u.body) (sym t_is) in
        omega (arith, here, count_law c ok t.body)

    next_held : (v : ℕ) (vs : List ℕ) → n ≤ v → Held c r n (v ∷ vs) → Held c r (end_of c r v) vs
    next_held v vs l h k m d = sort b.1
      where
        b : InBlock c r (v ∷ vs) k
        b = h k (omega (arith, block_some v)) d

        sort : In b.0 (v ∷ vs) → InBlock c r vs k
        sort (inl q) =
            let z : ⊥ = omega (arith, block_some k, subst (λ x. end_of c r k ≤ end_of c r x) q b.3) in absurd z
        sort (inr i) = (b.0, i, b.2, b.3)

    later : is_made t ≡ false → (vs : List ℕ) → Apart c r n vs → Apart c r (suc n) vs
    later q [] a = tt
    later q (v ∷ vs) a = (sort (ℕ_discrete v n), a.1, a.2)
      where
        sort : Dec (v ≡ n) → suc n ≤ v
        sort (yes p) = absurd (a.1 (ap (λ k. (task_of r k).state) p ∙ ap (λ u. u.state) (sym t_is) ∙ made_not t q))
        sort (no p) = omega (arith, a.0)

  pub walk :
      (ts : List Task) (n within low : ℕ) (ws : List ℕ) → low ≡ n + within
      → ((i : ℕ) → get_or ts i never ≡ task_of r (n + i)) → Apart c r low ws → Held c r low ws → wards_from c within n ts ≡ ws
  unfolding wards_from
  walk [] n within low [] e at a h = refl
  walk [] n within low (w ∷ ws) e at a h =
      let gone : task_of r w ≡ never = ap (task_of r) (omega (arith, a.0)) ∙ sym (at (w - n)) in
      absurd (a.1 (ap (λ t. t.state) gone ∙ never_state))
  walk (t ∷ ts) n (suc k) low ws e at a h =
      walk ts (suc n) k low ws (omega arith) (λ i. at (suc i) ∙ ap (task_of r) (omega arith)) a h
  walk (t ∷ ts) n zero low ws e at a h =
      sort
      (λ k l vs q. walk ts (suc n) k l vs q (λ i. at (suc i) ∙ ap (task_of r) (omega arith)))
      (is_made t) refl ws (subst (λ l. Apart c r l ws) here a) (subst (λ l. Held c r l ws) here h)
    where
      here : low ≡ n
      here = omega arith

      t_is : t ≡ task_of r n
      t_is = at 0 ∙ ap (task_of r) (omega arith)

      sort :
          ((k l : ℕ) (vs : List ℕ) → l ≡ suc n + k → Apart c r l vs → Held c r l vs → wards_from c k (suc n) ts ≡ vs)
          → (b : Bool) → is_made t ≡ b → (vs : List ℕ) → Apart c r n vs → Held c r n vs
          → cond b (n ∷ wards_from c (task_count c.list t.body - 1) (suc n) ts) (wards_from c zero (suc n) ts) ≡ vs
      sort go true q [] a' h' = absurd (h' n (omega arith) (made_here t n t_is q)).1
      sort go true q (v ∷ vs) a' h' =
          let first : v ≡ n = next_is t n t_is v vs a' (h' n (omega arith) (made_here t n t_is q)) in
          ap (λ l. n ∷ l)
          (go (task_count c.list t.body - 1) (end_of c r v) vs (next_end t n t_is v first) a'.2 (next_held t n t_is v vs a'.0 h'))
          ∙ ap (λ x. x ∷ vs) (sym first)
      sort go false q vs a' h' = go zero (suc n) vs (omega arith) (later t n t_is q vs a') (λ k l d. h' k (omega arith) d)

  pub wards_are : (ws : List ℕ) → Apart c r 1 ws → Held c r 1 ws → wards c r ≡ ws
  unfolding wards
  wards_are ws a h = walk (drop 1 r.tasks) 1 0 1 ws refl (λ i. get_or-drop 1 r.tasks i never) a h

  -- by rising number
  rising_from : (low high : ℕ) (ws : List ℕ) → low ≤ high → Rising high ws → Rising low ws
  unfolding Rising
  rising_from low high [] l h = tt
  rising_from low high (w ∷ ws) l h = (omega (arith, h.0), h.1)

  pub apart_rises : (low : ℕ) (ws : List ℕ) → Apart c r low ws → Rising low ws
  unfolding Rising
  apart_rises low [] a = tt
  apart_rises low (w ∷ ws) a =
      (a.0, rising_from (suc w) (end_of c r w) ws (omega (arith, block_some w)) (apart_rises (end_of c r w) ws a.2))

-- a block that reaches behind the last task
pub walk_past : (c : Context) (k n : ℕ) (ts : List Task) → length ts ≤ k → wards_from c k n ts ≡ []
unfolding wards_from
walk_past c k n [] h = refl
walk_past c zero n (t ∷ ts) h = let z : ⊥ = omega arith in absurd z
walk_past c (suc k) n (t ∷ ts) h = walk_past c k (suc n) ts (omega arith)

-- The walk one number on, the last block ending before `until`.
module _ (c : Context) (ts : List Task) (until n : ℕ) (inside : n < length ts) where
  abbrev t : Task
  t = get_or ts n never

  -- in the last ward's block
  pub walk_inside : n < until → wards_from c (until - suc n) (suc n) (drop (suc n) ts) ≡ wards_from c (until - n) n (drop n ts)
  walk_inside h =
      let k : until - n ≡ suc (until - suc n) = omega arith in
      sym (ap (λ x. wards_from c x n (drop n ts)) k ∙ ap (wards_from c (suc (until - suc n)) n) (drop-cons ts n never inside)
      ∙ (unfold wards_from in refl))

  module _ (behind : until ≤ n) where
    walk_here :
        wards_from c (until - n) n (drop n ts)
        ≡ cond (is_made t) (n ∷ wards_from c (task_count c.list t.body - 1) (suc n) (drop (suc n) ts)) (wards_from c 0 (suc n) (drop (suc n) ts))
    walk_here =
        let k : until - n ≡ 0 = omega arith in
        ap (λ x. wards_from c x n (drop n ts)) k ∙ ap (wards_from c 0 n) (drop-cons ts n never inside)
        ∙ (unfold wards_from in refl)

    -- never made
    pub walk_blank : t.state ≡ 0 → wards_from c (until - suc n) (suc n) (drop (suc n) ts) ≡ wards_from c (until - n) n (drop n ts)
    walk_blank z =
        let k : until - suc n ≡ 0 = omega arith in
        let blank : is_made t ≡ false = unfold is_made in rw (eq-eqb t.state 0 z) refl in
        ap (λ x. wards_from c x (suc n) (drop (suc n) ts)) k ∙ sym (walk_here ∙ rw blank refl)

    -- a ward
    pub walk_ward :
        (t.state ≡ 0 → ⊥)
        → n ∷ wards_from c (task_count c.list t.body - 1) (suc n) (drop (suc n) ts) ≡ wards_from c (until - n) n (drop n ts)
    walk_ward m =
        let made : is_made t ≡ true = unfold is_made in rw (ne_eqb t.state 0 m) refl in
        sym (walk_here ∙ rw made refl)
