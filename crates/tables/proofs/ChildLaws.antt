-- Laws of the children that one step makes: the model's by what each is given, their rows and their places. Assumes nothing.
use Prim.Native.Nat.{ℕ, zero, suc, ◌+◌, ◌-◌, ◌*◌, ◌%◌, ◌^◌, ◌≤◌, ◌<◌}
use mathlib.Core.Path.{◌≡◌, refl, sym, ap, ◌∙◌}
use mathlib.Core.List.{List, [], ◌∷◌, ◌++◌, append_assoc}
use native.Mathlib.Omega.{arith}
use native.Mathlib.Nat.{zero-mul, suc-mul, mod-eq_of_lt}
use native.Mathlib.Decide.{ℕ_discrete}
use native.Mathlib.Numerals.{sub-one}
use lib.ListN.{length, take, drop, get_or, set, take-append-drop, length-append, length-set, length-replicate}
use lib.Seq.{set-set, set-get_or, drop-cons, take_at, drop_at, length-take-le}
use Rattle.tasklist.specs.declared.Line.{Line}
use Rattle.semantics.specs.Run.{Task, no_modes}
use Rattle.semantics.specs.Effect.{child}
use Rattle.semantics.specs.Access.{Access, access_fault}
use Rattle.semantics.specs.Footprint.{Grant, denied, granted, all_targets, merged, unless_denied, grant, child_modes, none_made, all_made, with_first, children, first_register, fan_of}
use Rattle.semantics.specs.Call.{splice}
use Rattle.semantics.specs.Sound.{Distinct}
use Rattle.grants.specs.Grants.{spawner, child_registers, child_grant, unless_faulted, grants_from}
use Rattle.tables.specs.Children.{seen_by, seen_from, numbers, Fit, RowsOf}
use Rattle.arrays.specs.declared.order.Order.{Order}
use Rattle.arrays.specs.Places.{unended, insert_at}
use Rattle.tables.specs.Children.{insert_all}
use Rattle.arrays.specs.Rows.{with}
use Rattle.tables.specs.Children.{with_rows}
use Rattle.grants.proofs.GrantLaws.{any_spawner}
use Rattle.arrays.proofs.SpliceLaws.{splice_at}

-- the modes that were given
abbrev pub modes_in : Grant → List ℕ
modes_in (denied k) = []
modes_in (granted modes) = modes

-- k items from item i on
unfoldable pub list_from : {A : Type 0} → (ℕ → A) → ℕ → ℕ → List A
list_from g i zero = []
list_from g i (suc k) = g i ∷ list_from g (suc i) k

-- a row has 64 modes
grant_length : (t : Task) (so_far : List ℕ) (gs : List Access) (ms : List ℕ) → grant t so_far gs ≡ granted ms → length ms ≡ length so_far
unfolding grant unless_denied
grant_length t so_far [] ms q = ap (λ g. length (modes_in g)) (sym q)
grant_length t so_far (g ∷ gs) ms q =
    sort (grant_length t more gs ms) (access_fault (get_or t.modes g.location 0) g.mode) q
  where
    more : List ℕ
    more = set so_far g.location (merged (get_or so_far g.location 0) g.mode)

    sort :
        (grant t more gs ≡ granted ms → length ms ≡ length more) → (k : ℕ) → unless_denied k (grant t more gs) ≡ granted ms
        → length ms ≡ length so_far
    sort ih zero e = ih e ∙ length-set so_far g.location (merged (get_or so_far g.location 0) g.mode)
    sort ih (suc k) e = let z : ◌≡◌ {A = ℕ} 0 1 = cc in let bad : ⊥ = omega arith in absurd bad

pub child_length :
    (registers own : List ℕ) (ls : List Line) (i : ℕ) (ms : List ℕ) → child_grant registers own ls i ≡ granted ms → length ms ≡ 64
unfolding child_grant child_modes no_modes
child_length registers own ls i ms q =
    grant_length (spawner (child_registers i registers) own) no_modes (all_targets (spawner (child_registers i registers) own) ls) ms q
    ∙ length-replicate {A = ℕ} 64 0

-- The children of the model, by what each is given.
module _ (s : ℕ) (ls : List Line) (t : Task) where
  abbrev pub given : ℕ → Grant
  given i = child_grant t.registers t.modes ls i

  -- child i, where it is made
  abbrev pub born : ℕ → Task
  born i = child s (modes_in (given i)) (seen_by i t)

  child_seen : (i : ℕ) → child_modes (seen_by i t) ls ≡ given i
  unfolding child_grant
  child_seen i = sym (any_spawner (seen_by i t) ls)

  pub children_denied :
      (k i j : ℕ) (modes : List ℕ) → grants_from given i k (granted modes) ≡ denied j
      → children s ls (seen_from i k t) ≡ none_made j
  unfolding grants_from children seen_from unless_faulted with_first
  children_denied zero i j modes q = let z : ◌≡◌ {A = ℕ} 0 1 = cc in let bad : ⊥ = omega arith in absurd bad
  children_denied (suc k) i j modes q =
      ap (λ g. with_first s (seen_by i t) g (children s ls (seen_from (suc i) k t))) (child_seen i)
      ∙ sort (given i) q (λ ms. children_denied k (suc i) j ms)
    where
      sort :
          (g : Grant) → unless_faulted g (grants_from given (suc i) k g) ≡ denied j
          → ((ms : List ℕ) → grants_from given (suc i) k (granted ms) ≡ denied j → children s ls (seen_from (suc i) k t) ≡ none_made j)
          → with_first s (seen_by i t) g (children s ls (seen_from (suc i) k t)) ≡ none_made j
      sort (denied m) q rest = let e : m ≡ j = cc in ap none_made e
      sort (granted ms) q rest = ap (with_first s (seen_by i t) (granted ms)) (rest ms q)

  -- all of them are made
  pub record AllBorn (i k : ℕ) (last : List ℕ) : Type 0 where
    pub made : children s ls (seen_from i k t) ≡ all_made (list_from born i k)
    pub each : (j : ℕ) → i ≤ j → j < i + k → given j ≡ granted (modes_in (given j))
    pub hindmost : 0 < k → last ≡ modes_in (given (i + k - 1))

  pub children_granted :
      (k i : ℕ) (modes last : List ℕ) → grants_from given i k (granted modes) ≡ granted last → AllBorn i k last
  unfolding grants_from children seen_from list_from unless_faulted with_first
  children_granted zero i modes last q =
      record {
        made = refl;
        each = λ j a b. let z : ⊥ = omega arith in absurd z;
        hindmost = λ h. let z : ⊥ = omega arith in absurd z;
      }
  children_granted (suc k) i modes last q = sort (given i) refl q (λ ms. children_granted k (suc i) ms last)
    where
      ahead : (j : ℕ) (ms : List ℕ) → given i ≡ granted ms → j ≡ i → given j ≡ granted (modes_in (given j))
      ahead j ms e q = ap given q ∙ e ∙ sym (ap (λ m. granted (modes_in (given m))) q ∙ ap (λ g. granted (modes_in g)) e)

      sort :
          (g : Grant) → given i ≡ g → unless_faulted g (grants_from given (suc i) k g) ≡ granted last
          → ((ms : List ℕ) → grants_from given (suc i) k (granted ms) ≡ granted last → AllBorn (suc i) k last)
          → AllBorn i (suc k) last
      sort (denied m) e q rest = let z : ◌≡◌ {A = ℕ} 0 1 = cc in let bad : ⊥ = omega arith in absurd bad
      sort (granted ms) e q rest = record { made = made; each = each; hindmost = hindmost }
        where
          others : AllBorn (suc i) k last
          others = rest ms q

          made : children s ls (seen_from i (suc k) t) ≡ all_made (list_from born i (suc k))
          made =
              ap (λ g. with_first s (seen_by i t) g (children s ls (seen_from (suc i) k t))) (child_seen i ∙ e)
              ∙ ap (with_first s (seen_by i t) (granted ms)) others.made
              ∙ ap (λ g. all_made (child s (modes_in g) (seen_by i t) ∷ list_from born (suc i) k)) (sym e)

          each : (j : ℕ) → i ≤ j → j < i + suc k → given j ≡ granted (modes_in (given j))
          each j a b = by (ℕ_discrete j i)
            where
              by : Dec (j ≡ i) → given j ≡ granted (modes_in (given j))
              by (yes q) = ahead j ms e q
              by (no n) = others.each j (omega arith) (omega arith)

          hindmost : 0 < suc k → last ≡ modes_in (given (i + suc k - 1))
          hindmost h = by k refl
            where
              by : (m : ℕ) → k ≡ m → last ≡ modes_in (given (i + suc k - 1))
              by zero z =
                  let here : i ≡ i + suc k - 1 = omega arith in
                  let same : granted last ≡ given i = sym (sym (ap (λ m. grants_from given (suc i) m (granted ms)) z) ∙ q) ∙ sym e in
                  ap modes_in same ∙ ap (λ m. modes_in (given m)) here
              by (suc m) z =
                  let here : suc i + k - 1 ≡ i + suc k - 1 = omega arith in
                  others.hindmost (omega arith) ∙ ap (λ m. modes_in (given m)) here

-- a spawn's one child, and the children of a fan
pub seen_alone : (t : Task) → seen_from 0 1 (first_register (get_or t.registers 0 0) t) ≡ t ∷ []
unfolding seen_from child_registers
seen_alone t = ap (λ (rs : List ℕ). record t { registers = rs } ∷ []) (set-get_or t.registers 0 0)

pub seen_fan : (i k : ℕ) (t : Task) → seen_from i k (first_register 0 t) ≡ fan_of i k t
unfolding seen_from fan_of child_registers
seen_fan i zero t = refl
seen_fan i (suc k) t = ap (λ x. x ∷ seen_from (suc i) k (first_register 0 t)) (same i) ∙ ap (λ l. first_register i t ∷ l) (seen_fan (suc i) k t)
  where
    same : (i : ℕ) → seen_by i (first_register 0 t) ≡ first_register i t
    same zero = refl
    same (suc i) = ap (λ (rs : List ℕ). record t { registers = rs }) (set-set t.registers 0 0 (suc i))

-- Rows and places that are left to put: those of the first i children.
module _
    (registers own : List ℕ) (ls : List Line) (last : List ℕ) (at child apart children : ℕ) (modes₀ : List ℕ) (order₀ : Order)
  where
    pub record ToPut (i : ℕ) (row modes : List ℕ) (order : Order) : Type 0 where
      pub within : i ≤ children
      pub next : (rows : ℕ → List ℕ) → RowsOf registers own ls last children rows → 0 < i → row ≡ rows (i - 1)
      pub table :
          (rows : ℕ → List ℕ) → RowsOf registers own ls last children rows
          → with_rows child apart rows i modes ≡ with_rows child apart rows children modes₀
      pub listed :
          at ≤ order₀.left
          → (order.left + i ≡ order₀.left + children)
          × (insert_all at child apart i (unended order) ≡ insert_all at child apart children (unended order₀))

    pub to_put_all : ToPut children last modes₀ order₀
    to_put_all =
        record {
          within = omega arith;
          next = λ rows r h. r.hindmost h;
          table = λ rows r. refl;
          listed = λ a. (refl, refl);
        }

    one_row : (rows : ℕ → List ℕ) (i : ℕ) (m : List ℕ) → 0 < i
        → with_rows child apart rows (i - 1) (with (child + (i - 1) * apart) (rows (i - 1)) m) ≡ with_rows child apart rows i m
    unfolding with_rows
    one_row rows zero m h = let z : ⊥ = omega arith in absurd z
    one_row rows (suc i) m h =
        ap (λ k. with_rows child apart rows k (with (child + k * apart) (rows k) m)) (sub-one (suc i))

    one_place : (i : ℕ) (xs : List ℕ) → 0 < i
        → insert_all at child apart (i - 1) (insert_at at (child + (i - 1) * apart) xs) ≡ insert_all at child apart i xs
    unfolding insert_all
    one_place zero xs h = let z : ⊥ = omega arith in absurd z
    one_place (suc i) xs h = ap (λ k. insert_all at child apart k (insert_at at (child + k * apart) xs)) (sub-one (suc i))

    -- the number of the next
    pub next_number :
        (i number : ℕ) → 0 < i → i ≤ children → number ≡ (child + (i - 1) * apart) % 2 ^ 64 → Fit order₀.left child apart children
        → (number ≡ child + (i - 1) * apart) × (number < 128)
    next_number i number h w is fit =
        let near = fit.near (i - 1) (omega (arith, w)) in
        let same : number ≡ child + (i - 1) * apart = is ∙ mod-eq_of_lt (omega (arith, near)) in
        (same, omega (arith, same, near))

    -- one more is put
    pub put_one :
        Fit order₀.left child apart children → (i number : ℕ) (row modes : List ℕ) (order : Order) (row' modes' : List ℕ) (order' : Order)
        → ToPut i row modes order → 0 < i → number ≡ (child + (i - 1) * apart) % 2 ^ 64
        → (number < 128 → modes' ≡ with number row modes)
        → (at ≤ order.left → order.left < 128
        → (order'.left ≡ order.left + 1) × (unended order' ≡ insert_at at number (unended order)))
        → (0 < i - 1 → (ms : List ℕ) → child_grant registers own ls (i - 1 - 1) ≡ granted ms → row' ≡ ms)
        → ToPut (i - 1) row' modes' order'
    put_one fit i number row modes order row' modes' order' e h is put_modes put_order follows =
        let n = next_number i number h e.within is fit in
        record {
          within = omega (arith, e.within);
          next = λ rows r b. follows b (rows (i - 1 - 1)) (r.each (i - 1 - 1) (omega (arith, e.within)));
          table =
              λ rows r.
              ap (with_rows child apart rows (i - 1))
              (put_modes n.1
              ∙ ap (λ k. with k row modes) n.0
              ∙ ap (λ x. with (child + (i - 1) * apart) x modes) (e.next rows r h))
              ∙ one_row rows i modes h
              ∙ e.table rows r;
          listed =
              λ a.
              let was = e.listed a in
              let put = put_order (omega (arith, was.0, e.within, a)) (omega (arith, was.0, fit.places)) in (
                omega (arith, was.0, put.0),
                ap (insert_all at child apart (i - 1)) (put.1 ∙ ap (λ k. insert_at at k (unended order)) n.0)
                    ∙ one_place i (unended order) h
                    ∙ was.1,
              );
        }

    -- all are put
    module _ (i : ℕ) (row modes : List ℕ) (order : Order) (e : ToPut i row modes order) (z : i ≤ 0) where
      none_left : i ≡ 0
      none_left = omega arith

      pub rows_put :
          (rows : ℕ → List ℕ) → RowsOf registers own ls last children rows → modes ≡ with_rows child apart rows children modes₀
      unfolding with_rows
      rows_put rows r = sym (ap (λ k. with_rows child apart rows k modes) none_left) ∙ e.table rows r

      pub places_put :
          at ≤ order₀.left
          → (order.left ≡ order₀.left + children) × (unended order ≡ insert_all at child apart children (unended order₀))
      unfolding insert_all
      places_put a =
          let was = e.listed a in
          (omega (arith, was.0), sym (ap (λ k. insert_all at child apart k (unended order)) none_left) ∙ was.1)

-- the last of the numbers
numbers_last : (first apart k : ℕ) → numbers first apart (suc k) ≡ numbers first apart k ++ ((first + k * apart) ∷ [])
unfolding numbers
numbers_last first apart zero = let q : first ≡ first + 0 * apart = omega (arith, zero-mul apart) in ap (λ m. m ∷ []) q
numbers_last first apart (suc k) =
    let q : first + apart + k * apart ≡ first + suc k * apart = omega (arith, suc-mul k apart) in
    ap (λ l. first ∷ l)
    (numbers_last (first + apart) apart k ∙ ap (λ m. numbers (first + apart) apart k ++ (m ∷ [])) q)

-- child 0 foremost
insert_numbers :
    (at child apart k : ℕ) (xs : List ℕ) → at ≤ length xs
    → insert_all at child apart k xs ≡ take at xs ++ (numbers child apart k ++ drop at xs)
unfolding insert_all insert_at numbers
insert_numbers at child apart zero xs h = sym (take-append-drop at xs)
insert_numbers at child apart (suc k) xs h =
    let x : ℕ = child + k * apart in
    let front : length (take at xs) ≡ at = length-take-le at xs h in
    let more : at ≤ length (take at xs ++ x ∷ drop at xs) = omega (arith, front, length-append (take at xs) (x ∷ drop at xs)) in
    insert_numbers at child apart k (take at xs ++ x ∷ drop at xs) more
    ∙ ap (λ l. l ++ (numbers child apart k ++ drop at (take at xs ++ x ∷ drop at xs))) (take_at (take at xs) (x ∷ drop at xs) at front)
    ∙ ap (λ l. take at xs ++ (numbers child apart k ++ l)) (drop_at (take at xs) (x ∷ drop at xs) at front)
    ∙ ap (λ l. take at xs ++ l)
    (sym (append_assoc (numbers child apart k) (x ∷ []) (drop at xs))
    ∙ ap (λ l. l ++ drop at xs) (sym (numbers_last child apart k)))

-- directly ahead of task n
pub insert_all_splice :
    (n child apart k : ℕ) (xs : List ℕ) (at : ℕ) → Distinct xs → at < length xs → get_or xs at 0 ≡ n
    → insert_all at child apart k xs ≡ splice n (numbers child apart k ++ (n ∷ [])) xs
insert_all_splice n child apart k xs at d h e =
    insert_numbers at child apart k xs (omega arith)
    ∙ ap (λ l. take at xs ++ (numbers child apart k ++ l)) (drop-cons xs at 0 h ∙ ap (λ m. m ∷ drop (suc at) xs) e)
    ∙ ap (λ l. take at xs ++ l) (sym (append_assoc (numbers child apart k) (n ∷ []) (drop (suc at) xs)))
    ∙ sym (splice_at n (numbers child apart k ++ (n ∷ [])) xs at d h e)
