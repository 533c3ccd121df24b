-- The wards' weights and job 0's are the run's, and after all calls they are not 0 where there is a ward: one that has ended weighs
-- at least its start and its end. Assumes nothing.
use Prim.Native.Nat.{ℕ, zero, suc, ◌+◌, ◌-◌, ◌≤◌, ◌<◌}
use mathlib.Core.Path.{◌≡◌, refl, sym, ap, subst, ◌∙◌}
use mathlib.Core.List.{List, [], ◌∷◌, map}
use mathlib.Core.Bool.{Bool, true, false, cond}
use mathlib.Core.Logic.{◌⊎◌, inl, inr}
use native.Mathlib.Omega.{arith}
use lib.ListN.{length, take, drop, get_or, length-drop}
use lib.Seq.{drop-cons, drop-drop, get_or-drop}
use Rattle.tasklist.specs.TaskList.{total, task_count}
use Rattle.tasklist.specs.Accepted.{Accepted}
use Rattle.semantics.specs.Run.{Task, Run, Context, never, task_of}
use Rattle.semantics.specs.Sound.{In, rank, weighs, Weighty, Sound}
use Rattle.semantics.proofs.Ranks.{never_weighs}
use Rattle.semantics.proofs.Valid.{count_law}
use Rattle.bill_shares.specs.Shares.{whole}
use Rattle.model_bill.specs.Bill.{is_made, wards_from, wards, ward_weight, ward_weights}
use Rattle.model_bill.proofs.Given.{no_items}
use Rattle.model_bill.proofs.Walk.{Made, made_is, made_not}

-- the first ward among the tasks from number n on
pub record First (n : ℕ) (ts : List Task) (ws : List ℕ) : Type 0 where
  pub rest : List ℕ
  pub place : ℕ
  pub is : ws ≡ (n + place) ∷ rest
  pub inside : place < length ts
  pub made : is_made (get_or ts place never) ≡ true

shift : (t : Task) (n : ℕ) (ts : List Task) (ws : List ℕ) → First (suc n) ts ws → First n (t ∷ ts) ws
shift t n ts ws f =
    let same : suc n + f.place ≡ n + suc f.place = omega arith in
    record {
      rest = f.rest;
      place = suc f.place;
      is = f.is ∙ ap (λ k. k ∷ f.rest) same;
      inside = omega (arith, f.inside);
      made = f.made;
    }

first_ward :
    (c : Context) (within n : ℕ) (ts : List Task) → (length (wards_from c within n ts) ≡ 0 → ⊥)
    → First n ts (wards_from c within n ts)
unfolding wards_from
first_ward c within n [] h = absurd (h refl)
first_ward c (suc within) n (t ∷ ts) h =
    shift t n ts (wards_from c within (suc n) ts) (first_ward c within (suc n) ts h)
first_ward c zero n (t ∷ ts) h = sort (first_ward c zero (suc n) ts) (is_made t) refl h
  where
    later : List ℕ
    later = wards_from c (task_count c.list t.body - 1) (suc n) ts

    sort :
        ((length (wards_from c zero (suc n) ts) ≡ 0 → ⊥) → First (suc n) ts (wards_from c zero (suc n) ts))
        → (b : Bool) → is_made t ≡ b → (length (cond b (n ∷ later) (wards_from c zero (suc n) ts)) ≡ 0 → ⊥)
        → First n (t ∷ ts) (cond b (n ∷ later) (wards_from c zero (suc n) ts))
    sort ih true q k =
        let same : n ≡ n + 0 = omega arith in
        record { rest = later; place = 0; is = ap (λ x. x ∷ later) same; inside = omega arith; made = q }
    sort ih false q k = shift t n ts (wards_from c zero (suc n) ts) (ih k)

-- a block weighs at least its first task
head_weight :
    (ts : List Task) (n size : ℕ) → n < length ts → 1 ≤ size
    → weighs (get_or ts n never) ≤ total weighs (take size (drop n ts))
head_weight ts n zero h l = let z : ⊥ = omega arith in absurd z
head_weight ts n (suc size) h l =
    let q : total weighs (take (suc size) (drop n ts)) ≡ weighs (get_or ts n never) + total weighs (take size (drop (suc n) ts)) =
    ap (λ l. total weighs (take (suc size) l)) (drop-cons ts n never h) ∙ (unfold total in refl) in
    omega (arith, q)

module _ (c : Context) (ok : Accepted c.list) (most : ℕ) (r : Run) (s : Sound c most r) (done : r.order ≡ []) where
  -- with no task left, each that was made has ended
  ended : (n : ℕ) → Made r n → (task_of r n).state ≡ 3
  ended n m = sort (task_of r n).state refl (s.tasks n).state
    where
      gone : ((task_of r n).state ≡ 1) ⊎ ((task_of r n).state ≡ 2) → ⊥
      gone u = subst (In n) done (s.unended n u)

      sort : (k : ℕ) → (task_of r n).state ≡ k → (task_of r n).state ≤ 3 → k ≡ 3
      sort zero q l = absurd (m q)
      sort (suc zero) q l = absurd (gone (inl q))
      sort (suc (suc zero)) q l = absurd (gone (inr q))
      sort (suc (suc (suc k))) q l = omega arith

  ended_rank : (t : Task) → t.state ≡ 3 → 2 ≤ rank t
  unfolding rank
  ended_rank t q =
      let two : ◌≡◌ {A = ℕ} (get_or (0 ∷ 0 ∷ 1 ∷ 2 ∷ []) t.state 0) 2 = ap {B = ℕ} (λ k. get_or (0 ∷ 0 ∷ 1 ∷ 2 ∷ []) k 0) q in omega arith

  pub some_weight : Weighty c → (wards c r ≡ [] → ⊥) → 0 < whole (ward_weights c r)
  unfolding wards ward_weight ward_weights whole
  some_weight heavy some =
      let f : First 1 (drop 1 r.tasks) (wards c r) =
      first_ward c 0 1 (drop 1 r.tasks) (λ z. some (no_items (wards c r) z)) in
      let n = 1 + f.place in
      let m : Made r n =
      λ z. made_is (get_or (drop 1 r.tasks) f.place never) f.made
      (ap (λ t. t.state) (get_or-drop 1 r.tasks f.place never) ∙ z) in
      let weighs_two : 2 ≤ (task_of r n).weight = omega (arith, s.earned heavy n, ended_rank (task_of r n) (ended n m)) in
      let inside : n < length r.tasks = omega (arith, f.inside, length-drop 1 r.tasks) in
      let enough : 2 ≤ ward_weight c r n =
      omega (arith, weighs_two, head_weight r.tasks n (task_count c.list (task_of r n).body) inside (omega (arith, count_law c ok (task_of r n).body))) in
      let parts : ward_weights c r ≡ ward_weight c r n ∷ map (ward_weight c r) f.rest =
      ap (map (ward_weight c r)) f.is in
      let total_is : whole (ward_weights c r) ≡ ward_weight c r n + whole (map (ward_weight c r) f.rest) =
      ap whole parts in
      omega (arith, enough, total_is)

-- Every task above 0 is in the block of a ward, or was never made and weighs nothing.
module _ (c : Context) (ok : Accepted c.list) (most : ℕ) (r : Run) (s : Sound c most r) where
  -- the walk's next task, with those behind it
  module _ (t : Task) (ts : List Task) (n : ℕ) (here : t ∷ ts ≡ drop n r.tasks) where
    drop_on : ts ≡ drop (suc n) r.tasks
    drop_on =
        let next : n + 1 ≡ suc n = omega arith in
        ap (drop 1) here ∙ drop-drop 1 n r.tasks ∙ ap (λ k. drop k r.tasks) next

    t_is : t ≡ task_of r n
    t_is =
        let same : n + 0 ≡ n = omega arith in
        ap (λ l. get_or l 0 never) here ∙ get_or-drop n r.tasks 0 never ∙ ap (task_of r) same

    blank_weighs : is_made t ≡ false → weighs t ≡ 0
    blank_weighs q =
        ap weighs (t_is ∙ (s.tasks n).blank (ap (λ u. u.state) (sym t_is) ∙ made_not t q)) ∙ never_weighs

    block_weighs :
        ward_weight c r n ≡ weighs t + total weighs (take (task_count c.list t.body - 1) ts)
    unfolding ward_weight total
    block_weighs =
        let one : task_count c.list t.body ≡ suc (task_count c.list t.body - 1) = omega (arith, count_law c ok t.body) in
        ap (λ u. total weighs (take (task_count c.list u.body) (drop n r.tasks))) (sym t_is)
        ∙ ap (λ l. total weighs (take (task_count c.list t.body) l)) (sym here)
        ∙ ap (λ k. total weighs (take k (t ∷ ts))) one

  cover :
      (ts : List Task) (within n : ℕ) → ts ≡ drop n r.tasks
      → total weighs ts ≡ total weighs (take within ts) + whole (map (ward_weight c r) (wards_from c within n ts))
  unfolding wards_from whole total
  cover [] zero n q = refl
  cover [] (suc within) n q = refl
  cover (t ∷ ts) (suc within) n q = let rest = cover ts within (suc n) (drop_on t ts n q) in omega (arith, rest)
  cover (t ∷ ts) zero n q =
      sort (is_made t) refl
      (cover ts (task_count c.list t.body - 1) (suc n) (drop_on t ts n q))
      (cover ts zero (suc n) (drop_on t ts n q))
    where
      inside : ℕ
      inside = task_count c.list t.body - 1

      sort :
          (b : Bool) → is_made t ≡ b
          → total weighs ts ≡ total weighs (take inside ts) + whole (map (ward_weight c r) (wards_from c inside (suc n) ts))
          → total weighs ts ≡ 0 + whole (map (ward_weight c r) (wards_from c zero (suc n) ts))
          → t.weight + total weighs ts
          ≡ 0 + whole (map (ward_weight c r) (cond b (n ∷ wards_from c inside (suc n) ts) (wards_from c zero (suc n) ts)))
      sort true a block blank = omega (arith, block_weighs t ts n q, block)
      sort false a block blank = omega (arith, blank_weighs t ts n q a, blank)

  -- "Job 0's own weight is not shared.": all else is
  pub all_weighs : whole (ward_weights c r) + (task_of r 0).weight ≡ r.weight
  unfolding wards ward_weights total never
  all_weighs =
      let first : total weighs r.tasks ≡ (task_of r 0).weight + total weighs (drop 1 r.tasks) = heads r.tasks in
      let rest = cover (drop 1 r.tasks) 0 1 refl in
      omega (arith, first, rest, none_before (drop 1 r.tasks), s.weighed)
    where
      heads : (ts : List Task) → total weighs ts ≡ (get_or ts 0 never).weight + total weighs (drop 1 ts)
      heads [] = refl
      heads (t ∷ ts) = refl

      none_before : (ts : List Task) → total weighs (take 0 ts) ≡ 0
      none_before ts = refl
