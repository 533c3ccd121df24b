-- Laws of task counts: the table of capped counts that is filled from the last body to the first.
use Prim.Native.Nat.{ℕ, zero, suc, ◌+◌, ◌-◌, ◌*◌, ◌≤◌, ◌<◌}
use mathlib.Core.Path.{◌≡◌, refl, sym, ap, ◌∙◌, fun_ext}
use mathlib.Core.List.{List, [], ◌∷◌}
use mathlib.Core.Bool.{Bool, true, false, cond}
use native.Mathlib.Omega.{arith}
use native.Mathlib.Numerals.{add-one}
use native.Mathlib.Nat.{zero-mul, suc-mul, le_trans, mul-le-mul_left, mul-le-mul_right}
use lib.ListN.{length, drop, get_or, set, replicate, drop_of_length-le}
use lib.Seq.{drop-cons, get_or-set_same, get_or-set_other}
use lib.Dec.{leb, eqb}
use borrow.Author.Tests.{le-leb, lt-leb, leb-true, leb-false, eqb-true, eqb-false}
use Rattle.tasklist.specs.declared.Instruction.{Instruction}
use Rattle.tasklist.specs.declared.Instruction.TheVariants.{Const, Add, Sub, Less, Load, Store, Skip, Spawn, Wait, Fan, Sum, Mul, Div}
use Rattle.tasklist.specs.TaskList.{total, adds, count_body, count_from, counts, blank_instruction}
use Rattle.tasklist.specs.Tables.{capped}

-- past the end the default stands too
pub get_or-replicate_own : {A : Type 0} (n i : ℕ) (a : A) → get_or (replicate n a) i a ≡ a
get_or-replicate_own zero i a = refl
get_or-replicate_own (suc n) zero a = refl
get_or-replicate_own (suc n) (suc i) a = get_or-replicate_own n i a

pub adds_same : (f g : ℕ → ℕ) (x : Instruction) → ((a : ℕ) → f a ≡ g a) → adds f x ≡ adds g x
adds_same f g x e = ap (λ (h : ℕ → ℕ). adds h x) (fun_ext e)

-- sums that are capped are capped sums, and so are multiples
capped_sum : (a b c d : ℕ) → capped a ≡ capped b → capped c ≡ capped d → capped (a + c) ≡ capped (b + d)
capped_sum a b c d p q = omega (arith, p, q)

capped_once : (n : ℕ) → capped (capped n) ≡ capped n
capped_once n = omega arith

capped_times : (c n : ℕ) → capped (c * capped n) ≡ capped (c * n)
capped_times zero n = rw (zero-mul (capped n), zero-mul n) refl
capped_times (suc c) n =
    rw (suc-mul c (capped n), suc-mul c n) (capped_sum (c * capped n) (c * n) (capped n) n (capped_times c n) (capped_once n))

-- what an instruction adds, by capped counts
adds_capped : (f : ℕ → ℕ) (x : Instruction) → capped (adds (λ a. capped (f a)) x) ≡ capped (adds f x)
unfolding adds
adds_capped f (Const a v) = refl
adds_capped f (Add a b c) = refl
adds_capped f (Sub a b c) = refl
adds_capped f (Less a b c) = refl
adds_capped f (Load a b) = refl
adds_capped f (Store a b) = refl
adds_capped f (Skip a b) = refl
adds_capped f (Spawn a b) = capped_once (f a)
adds_capped f (Wait a) = refl
adds_capped f (Fan a b c) = capped_times c (f a)
adds_capped f (Sum a b) = refl
adds_capped f (Mul a b c) = refl
adds_capped f (Div a b c) = refl

-- where the sum is no more than 129, capped counts add up to the same
times_small : (c n : ℕ) → c * n ≤ 129 → c * capped n ≡ c * n
times_small zero n h = rw (zero-mul (capped n), zero-mul n) refl
times_small (suc c) n h =
    let small : n ≤ 129 = omega (arith, suc-mul c n) in
    let same : capped n ≡ n = omega arith in
    ap (λ (m : ℕ). suc c * m) same

adds_small : (f : ℕ → ℕ) (x : Instruction) → adds f x ≤ 129 → adds (λ a. capped (f a)) x ≡ adds f x
unfolding adds
adds_small f (Const a v) h = refl
adds_small f (Add a b c) h = refl
adds_small f (Sub a b c) h = refl
adds_small f (Less a b c) h = refl
adds_small f (Load a b) h = refl
adds_small f (Store a b) h = refl
adds_small f (Skip a b) h = refl
adds_small f (Spawn a b) h = omega arith
adds_small f (Wait a) h = refl
adds_small f (Fan a b c) h = times_small c (f a) h
adds_small f (Sum a b) h = refl
adds_small f (Mul a b c) h = refl
adds_small f (Div a b c) h = refl

pub total_capped : (f : ℕ → ℕ) (xs : List Instruction) → total (adds f) xs ≤ 129
    → total (adds (λ a. capped (f a))) xs ≡ total (adds f) xs
unfolding total
total_capped f [] h = refl
total_capped f (x ∷ xs) h =
    let small : adds f x + total (adds f) xs ≤ 129 = h in
    omega (arith, adds_small f x (omega arith), total_capped f xs (omega arith))

-- a product of two bytes
pub product_small : (a b : ℕ) → a < 256 → b < 256 → a * b < 65536
product_small a b h k =
    let few : a ≤ 255 = omega arith in
    let small : b ≤ 255 = omega arith in
    omega (arith, le_trans (mul-le-mul_left a small) (mul-le-mul_right 255 few))

-- one instruction more of a body's sum
module _ (f : ℕ → ℕ) (b : List Instruction) (all : ℕ) where
  -- n is the sum so far, of i instructions
  abbrev pub Summed : ℕ → ℕ → Type 0
  Summed n i = capped (n + total (adds f) (drop i b)) ≡ capped all

  pub sum_more : (table : List ℕ) (n i : ℕ) (x : Instruction) → ((a : ℕ) → get_or table a 1 ≡ capped (f a)) → i < length b
      → get_or b i blank_instruction ≡ x → Summed n i → Summed (capped (n + adds (λ a. get_or table a 1) x)) (i + 1)
  unfolding total
  sum_more table n i x known h e s =
      let v : ℕ = adds (λ a. get_or table a 1) x in
      let rest : ℕ = total (adds f) (drop (i + 1) b) in
      let look : capped v ≡ capped (adds f x) =
      ap capped (adds_same (λ a. get_or table a 1) (λ a. capped (f a)) x known) ∙ adds_capped f x in
      let open_up : total (adds f) (drop i b) ≡ adds f x + total (adds f) (drop (i + 1) b) =
      (rw (add-one i, drop-cons b i blank_instruction h, e) refl) in
      let sums : n + total (adds f) (drop i b) ≡ n + adds f x + rest = omega (arith, open_up) in
      capped_sum (capped (n + v)) (n + adds f x) rest rest (capped_once (n + v) ∙ capped_sum n n v (adds f x) refl look) refl ∙
      sym (ap capped sums) ∙ s

  pub sum_whole : (n i : ℕ) → n ≤ 129 → i ≡ length b → Summed n i → n ≡ capped all
  unfolding total
  sum_whole n i h e s =
      let past : length b ≤ i = omega arith in
      let none_left : total (adds f) (drop i b) ≡ 0 = ap (total (adds f)) (drop_of_length-le b past) in
      omega (arith, none_left, s)

pub sum_starts : (f : ℕ → ℕ) (b : List Instruction) → Summed f b (count_body f b) 1 0
unfolding count_body
sum_starts f b =
    let q : 1 + total (adds f) b ≡ suc (total (adds f) b) = omega arith in
    ap capped q

-- looking up a count
count_none : (s a : ℕ) → count_from s [] a ≡ 1
unfolding count_from
count_none s a = go (leb s a)
  where
    go : (t : Bool) → ◌≡◌ {A = ℕ} (cond t (get_or [] (a - s) 1) 1) 1
    go true = refl
    go false = refl

count_here : (s x : ℕ) (l : List ℕ) → count_from s (x ∷ l) s ≡ x
unfolding count_from
count_here s x l =
    let q : s - s ≡ 0 = omega arith in
    rw (le-leb s s (omega arith), q)

count_there : (s x : ℕ) (l : List ℕ) (a : ℕ) → (a ≡ s → ⊥) → count_from s (x ∷ l) a ≡ count_from (suc s) l a
unfolding count_from
count_there s x l a h = go (leb (suc s) a) refl
  where
    go : (t : Bool) → leb (suc s) a ≡ t → count_from s (x ∷ l) a ≡ count_from (suc s) l a
    go true e =
        let above : suc s ≤ a = leb-true (suc s) a e in
        let q : a - s ≡ suc (a - suc s) = omega arith in
        rw (le-leb s a (omega arith), e, q)
    go false e =
        let below : a < suc s = leb-false (suc s) a e in
        let under : a < s = omega arith in
        rw (lt-leb s a under, e)

module _ (bs : List (List Instruction)) where
  -- the counts of bodies s and up, by number
  abbrev pub known_from : ℕ → ℕ → ℕ
  known_from s = count_from s (counts s (drop s bs))

  -- the table has the capped counts of bodies s and up, and 1 elsewhere
  abbrev pub Known : ℕ → List ℕ → Type 0
  Known s table = (a : ℕ) → get_or table a 1 ≡ capped (known_from s a)

  pub counts_more : (s : ℕ) → s < length bs
      → counts s (drop s bs) ≡ count_body (known_from (suc s)) (get_or bs s []) ∷ counts (suc s) (drop (suc s) bs)
  unfolding counts
  counts_more s h = rw (drop-cons bs s [] h)

  pub known_starts : (n s : ℕ) → length bs ≤ s → Known s (replicate n 1)
  unfolding counts
  known_starts n s h a =
      get_or-replicate_own n a 1 ∙
      sym (ap capped (ap (λ (l : List (List Instruction)). count_from s (counts s l) a) (drop_of_length-le bs h) ∙ count_none s a))

  pub known_more : (s v : ℕ) (table : List ℕ) → s < length bs → s < length table → Known (suc s) table
      → v ≡ capped (count_body (known_from (suc s)) (get_or bs s [])) → Known s (set table s v)
  known_more s v table h l k e a = go (eqb a s) refl
    where
      head : ℕ
      head = count_body (known_from (suc s)) (get_or bs s [])

      rest : List ℕ
      rest = counts (suc s) (drop (suc s) bs)

      go : (t : Bool) → eqb a s ≡ t → get_or (set table s v) a 1 ≡ capped (known_from s a)
      go true q =
          (rw (eqb-true a s q) (get_or-set_same table s v 1 l)) ∙ e ∙
          sym (ap capped
          (ap (λ (m : ℕ). known_from s m) (eqb-true a s q) ∙
          ap (λ (c : List ℕ). count_from s c s) (counts_more s h) ∙ count_here s head rest))
      go false q =
          get_or-set_other table s a v 1 (eqb-false a s q) ∙ k a ∙
          sym (ap capped
          (ap (λ (c : List ℕ). count_from s c a) (counts_more s h) ∙ count_there s head rest a (eqb-false a s q)))

  pub known_whole : (table : List ℕ) → Known 0 table → (s : ℕ) → get_or table s 1 ≡ capped (get_or (counts 0 bs) s 1)
  unfolding count_from
  known_whole table k s =
      let q : s - 0 ≡ s = omega arith in
      k s ∙ ap capped (rw (le-leb 0 s (omega arith), q) refl)

-- any instruction but a spawn and a fan adds nothing
pub adds_nothing : (f : ℕ → ℕ) (x : Instruction) → ((a b : ℕ) → x ≡ Spawn a b → ⊥) → ((a b c : ℕ) → x ≡ Fan a b c → ⊥) → adds f x ≡ 0
unfolding adds
adds_nothing f (Spawn a b) p q = absurd (p a b refl)
adds_nothing f (Fan a b c) p q = absurd (q a b c refl)
adds_nothing f _ p q = refl
