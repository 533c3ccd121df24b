-- Laws of the tasks' numbers: one instruction more, the child whose block holds a number, one level further down.
-- Assumes nothing.
use Prim.Native.Nat.{ℕ, zero, suc, ◌+◌, ◌-◌, ◌*◌, ◌/◌, ◌%◌, ◌≤◌, ◌<◌}
use mathlib.Core.Path.{◌≡◌, refl, sym, ap, ◌∙◌}
use mathlib.Core.List.{List, [], ◌∷◌}
use mathlib.Core.Bool.{Bool, cond}
use native.Mathlib.Omega.{arith}
use native.Mathlib.Numerals.{add-one}
use native.Mathlib.Nat.{div-add-mod', mod-lt, div-lt_iff_lt-mul, mul-le-mul_right, suc-mul}
use lib.Dec.{ltb}
use lib.ListN.{length, take, get_or, get_or-eq_default}
use borrow.Author.Tests.{lt-ltb, le-ltb}
use Rattle.tasklist.specs.declared.Instruction.{Instruction}
use Rattle.tasklist.specs.declared.Tables.{Tables}
use Rattle.tasklist.specs.TaskList.{body_of, instruction_of, blank_instruction, total, adds}
use Rattle.tasklist.specs.Tables.{list_of}
use Rattle.finding.specs.declared.Job.{Job}
use Rattle.finding.specs.Jobs.{first_job, number_at, made, place_of, holder, down, numbered}
use Rattle.finding.proofs.FirstLaws.{Failed, failed_none, failed_next, failed_passes, failed_all}

-- a sum with one item more
pub total_more : (f : Instruction → ℕ) (xs : List Instruction) (i : ℕ) (d : Instruction) → i < length xs
    → total f (take (suc i) xs) ≡ total f (take i xs) + f (get_or xs i d)
unfolding total
total_more f [] i d h = let z : ⊥ = omega arith in absurd z
total_more f (x ∷ xs) zero d h = omega arith
total_more f (x ∷ xs) (suc i) d h =
    let inside : i < length xs = omega arith in
    omega (arith, total_more f xs i d inside)

-- the block of the child that holds k, among c blocks of w numbers from n on
pub record ChildBlock (n k c w : ℕ) : Type 0 where
  pub low : n + (k - n) / w * w ≤ k
  pub high : k < n + (k - n) / w * w + w
  pub fits : n + (k - n) / w * w + w ≤ n + c * w

pub child_block : (n k c w : ℕ) → 0 < w → n ≤ k → k < n + c * w → ChildBlock n k c w
child_block n k c w some low high =
    let m : ℕ = k - n in
    let parts : m / w * w + m % w ≡ m = div-add-mod' m w in
    let rest : m % w < w = mod-lt m some in
    let under : m < c * w = omega arith in
    let fewer : m / w < c = (div-lt_iff_lt-mul some).1 under in
    let above : suc (m / w) * w ≤ c * w = mul-le-mul_right w fewer in
    record {
      low = omega (arith, parts);
      high = omega (arith, parts, rest);
      fits = omega (arith, above, suc-mul (m / w) w);
    }

-- the children of one task, of which the first i instructions end their blocks at k or below
module _ (t : Tables) (j : Job) (k : ℕ) where
  abbrev pub body : List Instruction
  body = body_of (list_of t) j.body

  abbrev pub ends_above : ℕ → Bool
  ends_above i = ltb k (number_at t j (suc i))

  number_more : (i v : ℕ) (x : Instruction) → i < length body → x ≡ instruction_of (list_of t) j.body i
      → v ≡ adds (λ a. get_or t.counts a 1) x → number_at t j (suc i) ≡ number_at t j i + v
  unfolding number_at instruction_of
  number_more i v x h q w =
      let more = total_more (adds (λ a. get_or t.counts a 1)) body i blank_instruction h in
      let same : adds (λ a. get_or t.counts a 1) (get_or body i blank_instruction) ≡ v = ap (adds (λ a. get_or t.counts a 1)) (sym q) ∙ sym w in
      omega (arith, more, same)

  pub record Passed (n i : ℕ) : Type 0 where
    pub small : n ≤ k
    pub number : n ≡ number_at t j i
    pub failed : Failed ends_above (length body) i

  pub passed_none : j.number < k → Passed (j.number + 1) 0
  unfolding number_at total
  passed_none h = record { small = omega arith; number = omega arith; failed = failed_none ends_above (length body) }

  pub passed_next : (n i v : ℕ) (x : Instruction) → i < length (body_of (list_of t) j.body) → x ≡ instruction_of (list_of t) j.body i
      → v ≡ adds (λ a. get_or t.counts a 1) x → n + v ≤ k → Passed n i → Passed (n + v) (i + 1)
  passed_next n i v x h q w low p =
      let more = number_more i v x h q w in
      let number : n + v ≡ number_at t j (suc i) = omega (arith, more, p.number) in
      record {
        small = low;
        number = rw (add-one i) number;
        failed = failed_next ends_above (length body) i h (le-ltb k (number_at t j (suc i)) (omega (arith, number, low))) p.failed;
      }

  pub passed_found : (n i v d : ℕ) (x : Instruction) (r : Job) → r ≡ made t j i n k d x → i < length (body_of (list_of t) j.body) → x ≡ instruction_of (list_of t) j.body i
      → v ≡ adds (λ a. get_or t.counts a 1) x → k < n + v → Passed n i → r ≡ holder t j k d
  unfolding holder place_of
  passed_found n i v d x r Made_so h q w high p =
      let more = number_more i v x h q w in
      let found : i ≡ place_of t j k = failed_passes ends_above (length body) i h (lt-ltb k (number_at t j (suc i)) (omega (arith, more, p.number, high))) p.failed in
      Made_so ∙
      ap (λ m. made t j i m k d x) p.number ∙
      ap (made t j i (number_at t j i) k d) q ∙
      ap (λ m. made t j m (number_at t j m) k d (instruction_of (list_of t) j.body m)) found

  pub passed_all : (n i d : ℕ) → length (body_of (list_of t) j.body) ≤ i → Passed n i → j ≡ holder t j k d
  unfolding holder place_of made instruction_of
  passed_all n i d h p =
      let found : i ≡ place_of t j k = failed_all ends_above (length body) i h p.failed in
      let blank : instruction_of (list_of t) j.body i ≡ blank_instruction = get_or-eq_default body blank_instruction h in
      sym (ap (made t j i (number_at t j i) k d) blank) ∙
      ap (λ m. made t j m (number_at t j m) k d (instruction_of (list_of t) j.body m)) found

-- from the first task down, after so many levels
module _ (t : Tables) (k : ℕ) where
  pub Reached : ℕ → Job → Type 0
  Reached d j = numbered t k ≡ down (32 - d) t k d j

  pub reached_none : Reached 0 first_job
  unfolding Reached numbered
  reached_none = refl

  pub reached_below : (d : ℕ) (j h : Job) → d < 32 → j.number < k → h ≡ holder t j k (d + 1) → Reached d j → Reached (d + 1) h
  unfolding Reached down
  reached_below d j h small low q so_far =
      let left : 32 - d ≡ suc (32 - suc d) = omega arith in
      let further : down (32 - d) t k d j ≡ down (32 - suc d) t k (suc d) (holder t j k (suc d)) =
      ap (λ m. down m t k d j) left ∙
      ap (λ b. cond b (down (32 - suc d) t k (suc d) (holder t j k (suc d))) j) (lt-ltb j.number k low) in
      let here : h ≡ holder t j k (suc d) = q ∙ ap (holder t j k) (add-one d) in
      rw (add-one d) (so_far ∙ further ∙ ap (down (32 - suc d) t k (suc d)) (sym here))

  pub reached_it : (d : ℕ) (j : Job) → d < 32 → k ≤ j.number → Reached d j → j ≡ numbered t k
  unfolding Reached down
  reached_it d j small high so_far =
      let left : 32 - d ≡ suc (32 - suc d) = omega arith in
      sym (so_far ∙
      ap (λ m. down m t k d j) left ∙
      ap (λ b. cond b (down (32 - suc d) t k (suc d) (holder t j k (suc d))) j) (le-ltb j.number k high))

  pub reached_all : (d : ℕ) (j : Job) → 32 ≤ d → Reached d j → j ≡ numbered t k
  unfolding Reached down
  reached_all d j high so_far =
      let none : 32 - d ≡ 0 = omega arith in
      sym (so_far ∙ ap (λ m. down m t k d j) none)
