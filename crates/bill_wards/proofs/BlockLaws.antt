-- The weight of a block, added up modulo 2^32: no sound run's wraps. Assumes nothing.
use Rattle.std.proofs.Common.{◌≡◌, ℕ, zero, suc, ◌+◌, ◌-◌, ◌%◌, ◌^◌, ◌<◌, ◌≤◌, Bool, true, false, leb, List, [], ◌∷◌, ◌++◌, length, get_or, take, drop, sym, refl, ap, ◌∙◌, mod-eq_of_lt, arith, length-drop, drop_of_length-le, take_all, drop-cons, leb-false, leb-true, add-one}
use native.Mathlib.Nat.{mod-add-mod}
use Rattle.std.specs.List.{sum_by, range_with_len}
use Rattle.std.proofs.lemmas.List.Sums.{sum_by_push, sum_by-cons}
use Rattle.tasklist.specs.TaskList.{total, task_count}
use Rattle.tasklist.specs.Tables.{capped}
use Rattle.semantics.specs.Run.{Task, Run, Context, never, task_of}
use Rattle.semantics.specs.Sound.{weighs, Sound}
use Rattle.semantics.proofs.Bounds.{weight_most}
use Rattle.model_bill.specs.Bill.{wards_from, ward_weight}
use Rattle.model_bill.proofs.Walk.{walk_past}

-- one task
pub weighs_one : (ts : List Task) (n : ℕ) → n < length ts → (get_or ts n never).weight ≡ total weighs (take 1 (drop n ts))
weighs_one ts n h =
    let q : total weighs (take 1 (drop n ts)) ≡ (get_or ts n never).weight + 0 =
    ap (λ l. total weighs (take 1 l)) (drop-cons ts n never h) ∙ (unfold total in refl) in
    omega (arith, q)

-- no task
pub weighs_none : (ts : List Task) (n : ℕ) → length ts ≤ n → 0 ≡ total weighs (take 1 (drop n ts))
weighs_none ts n h = sym (ap (λ l. total weighs (take 1 l)) (drop_of_length-le ts h) ∙ (unfold total in refl))

-- task by task, modulo 2^32
pub block_more :
    (w : ℕ → ℕ) (ks : List ℕ) (sum k next : ℕ) → sum ≡ sum_by w ks % 2 ^ 32 → next ≡ (sum + w k) % 2 ^ 32 → next ≡ sum_by w (ks ++ (k ∷ [])) % 2 ^ 32
block_more w ks sum k next s e =
    e ∙ ap (λ x. (x + w k) % 2 ^ 32) s ∙ mod-add-mod (sum_by w ks) (2 ^ 32) (w k) ∙ ap (λ x. x % 2 ^ 32) (sym (sum_by_push w ks k))

-- the tasks of a block, number by number
pub block_whole :
    (ts : List Task) (size n m : ℕ) → m ≡ length ts - n
    → sum_by (λ k. total weighs (take 1 (drop k ts))) (take size (range_with_len n m)) ≡ total weighs (take size (drop n ts))
unfolding total
block_whole ts zero n m h = refl
block_whole ts (suc size) n zero h = sym (ap (λ l. total weighs (take (suc size) l)) (drop_of_length-le ts {i = n} (omega arith)))
block_whole ts (suc size) n (suc m) h =
    let own = (get_or ts n never).weight in
    let some : n < length ts = omega arith in
    sum_by-cons (λ k. total weighs (take 1 (drop k ts))) n (take size (range_with_len (n + 1) m))
    ∙ ap (λ k. k + sum_by (λ k. total weighs (take 1 (drop k ts))) (take size (range_with_len (n + 1) m))) (sym (weighs_one ts n some))
    ∙ ap (λ k. own + k) (block_whole ts size (n + 1) m (omega arith))
    ∙ ap (λ k. own + total weighs (take size (drop k ts))) (add-one n)
    ∙ sym (ap (λ l. total weighs (take (suc size) l)) (drop-cons ts n never some))

-- a part weighs no more than the whole
part_most : (ts : List Task) (k n : ℕ) → total weighs (take k (drop n ts)) ≤ total weighs ts
unfolding total
part_most [] zero n = omega arith
part_most [] (suc k) zero = omega arith
part_most [] (suc k) (suc n) = omega arith
part_most (t ∷ ts) zero zero = omega arith
part_most (t ∷ ts) (suc k) zero = omega (arith, part_most ts k 0)
part_most (t ∷ ts) zero (suc n) = omega (arith, part_most ts zero n)
part_most (t ∷ ts) (suc k) (suc n) = omega (arith, part_most ts (suc k) n)

-- counts above 128 are as good as 129 for 128 tasks
module _ (k : ℕ) where
  as_capped : {A : Type 0} (f : ℕ → A) → (129 ≤ k → f 129 ≡ f k) → f (capped k) ≡ f k
  as_capped f h = sort (leb k 129) refl
    where
      sort : (b : Bool) → leb k 129 ≡ b → f (capped k) ≡ f k
      sort true q = let e : capped k ≡ k = omega (arith, leb-true k 129 q) in ap f e
      sort false q =
          let e : capped k ≡ 129 = omega (arith, leb-false k 129 q) in
          ap f e ∙ h (omega (arith, leb-false k 129 q))

  take_capped : (ts : List Task) → length ts ≤ 128 → take (capped k) ts ≡ take k ts
  take_capped ts h =
      as_capped (λ x. take x ts) (λ l. take_all 129 ts (omega arith) ∙ sym (take_all k ts (omega arith)))

  pub wards_capped :
      (c : Context) (n : ℕ) (ts : List Task) → length ts ≤ 128 → wards_from c (capped k - 1) n ts ≡ wards_from c (k - 1) n ts
  wards_capped c n ts h =
      as_capped (λ x. wards_from c (x - 1) n ts)
      (λ l. walk_past c 128 n ts h ∙ sym (walk_past c (k - 1) n ts (omega arith)))

-- the weight of a ward is what the code adds up
pub ward_weight_is :
    (c : Context) (r : Run) → Sound c 16000 r → length r.tasks ≡ 128 → (n size : ℕ)
    → size ≡ capped (task_count c.list (task_of r n).body)
    → total weighs (take size (drop n r.tasks)) % 2 ^ 32 ≡ ward_weight c r n
unfolding ward_weight
ward_weight_is c r s long n size e =
    let count = task_count c.list (task_of r n).body in
    let few : length (drop n r.tasks) ≤ 128 = omega (arith, length-drop n r.tasks) in
    let is : total weighs (take size (drop n r.tasks)) ≡ ward_weight c r n =
    ap (λ k. total weighs (take k (drop n r.tasks))) e ∙ ap (total weighs) (take_capped count (drop n r.tasks) few) in
    let small : total weighs (take size (drop n r.tasks)) < 2 ^ 32 =
    omega (arith, is, part_most r.tasks count n, s.weighed, weight_most c r s) in
    mod-eq_of_lt small ∙ is
