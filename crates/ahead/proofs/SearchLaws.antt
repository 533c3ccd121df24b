-- Laws of the search: a look at several items from the front, the accesses of a row, and the model's answer by the table of
-- modes. Assumes nothing.
use Prim.Native.Nat.{ℕ, zero, suc, ◌+◌, ◌≤◌, ◌<◌}
use Rattle.std.proofs.lemmas.List.{map-append}
use mathlib.Core.Path.{◌≡◌, refl, sym, ap, subst, ◌∙◌}
use mathlib.Core.List.{List, [], ◌∷◌, ◌++◌, append-nil}
use mathlib.Core.Bool.{Bool, true, false, false≢true, ◌&&◌, ◌||◌, and-true, or-false}
use Rattle.std.proofs.Math.Bool.{or_assoc, and_assoc}
use Rattle.std.proofs.lemmas.Bool.{or_left, or_right, or_parts, or_from, and_right}
use mathlib.Core.Logic.{◌≢◌, ◌⊎◌, inl, inr}
use native.Mathlib.Omega.{arith}
use native.Mathlib.Numerals.{add-one}
use native.Mathlib.Nat.{zero-add}
use Rattle.std.specs.List.{zip, range_with_len}
use Rattle.std.proofs.lemmas.List.{get_or_default}
use Rattle.std.proofs.lemmas.List.FromFn.{length-range_with_len, get_or-range_with_len}
use Rattle.std.proofs.lemmas.Slice.Zip.{length-zip, get_or-zip}
use lib.ListN.{length, take, drop, get_or, set, length-map, get_or-map, drop_of_length-le}
use lib.Seq.{drop-cons, take-suc, take-suc-set, take_all, append_snoc}
use lib.Dec.{leb, eqb}
use borrow.Author.Tests.{lt-leb, eq-eqb, ne_eqb}
use Rattle.semantics.specs.Run.{Run, mode_of, task_of}
use Rattle.semantics.specs.Access.{Access, every, any, ahead, compatible}
use Rattle.semantics.specs.Effect.{Effect}
use Rattle.semantics.specs.Plan.{needs_from}
use Rattle.semantics.specs.Call.{Outcome, refuse, accept, admit}
use Rattle.semantics.specs.Sound.{In}
use Rattle.semantics.proofs.Order.{in_ahead}
use Rattle.semantics.proofs.Search.{any_same, Asks, admit_free, admit_writer, admit_others}
use Rattle.semantics.specs.Search as Model
use Rattle.ahead.specs.declared.Hold.{Hold}
use Rattle.ahead.specs.declared.Hold.TheVariants.{Free, Writer, Others}
use Rattle.ahead.specs.declared.Searched.{Searched}
use Rattle.ahead.specs.declared.Access as Declared
use Rattle.arrays.specs.Rows.{row}
use Rattle.ahead.specs.Ahead.{access, accesses_of, writes_one, passes_all, held_by, hold_ahead, first_place, searched_ahead, found_by, found_of}

-- the table of the model, row by row
pub none_ahead : (a : ℕ) → leb a 3 ≡ compatible 0 a
unfolding compatible
none_ahead zero = refl
none_ahead (suc zero) = refl
none_ahead (suc (suc zero)) = refl
none_ahead (suc (suc (suc zero))) = refl
none_ahead (suc (suc (suc (suc a)))) = lt-leb (suc (suc (suc (suc a)))) 3 (omega arith)

pub read_ahead : (a : ℕ) → leb a 1 ≡ compatible 1 a
unfolding compatible
read_ahead zero = refl
read_ahead (suc zero) = refl
read_ahead (suc (suc zero)) = refl
read_ahead (suc (suc (suc zero))) = refl
read_ahead (suc (suc (suc (suc a)))) = lt-leb (suc (suc (suc (suc a)))) 1 (omega arith)

pub write_ahead : (a : ℕ) → eqb a 0 ≡ compatible 2 a
unfolding compatible
write_ahead zero = refl
write_ahead (suc zero) = refl
write_ahead (suc (suc zero)) = refl
write_ahead (suc (suc (suc zero))) = refl
write_ahead (suc (suc (suc (suc a)))) = ne_eqb (suc (suc (suc (suc a)))) 0 (λ q. omega arith)

pub none_or_sum_ahead : (a : ℕ) → (a ≡ 0) ⊎ (a ≡ 3) → true ≡ compatible 3 a
unfolding compatible
none_or_sum_ahead a (inl q) = rw q refl
none_or_sum_ahead a (inr q) = rw q refl

pub other_asked : (a : ℕ) → a ≢ 0 → a ≢ 3 → false ≡ compatible 3 a
unfolding compatible
other_asked zero p q = absurd (p refl)
other_asked (suc zero) p q = refl
other_asked (suc (suc zero)) p q = refl
other_asked (suc (suc (suc zero))) p q = absurd (q refl)
other_asked (suc (suc (suc (suc a)))) p q = refl

pub other_ahead : (m a : ℕ) → 3 < m → false ≡ compatible m a
unfolding compatible
other_ahead zero a h = absurd (omega arith)
other_ahead (suc zero) a h = absurd (omega arith)
other_ahead (suc (suc zero)) a h = absurd (omega arith)
other_ahead (suc (suc (suc zero))) a h = absurd (omega arith)
other_ahead (suc (suc (suc (suc m)))) a h = refl

-- for a mode ahead and the mode asked for
pub ruleset compatibles = (none_ahead, read_ahead, write_ahead, none_or_sum_ahead, other_asked, other_ahead)

-- A search from the front over xs: none of the first i is a writer, and the hold says whether they all pass.
module _ {A : Type 0} (writes passes : A → Bool) where
  any_more : (l : List A) (a : A) → any writes (l ++ a ∷ []) ≡ (any writes l || writes a)
  unfolding any
  any_more [] a = or-false (writes a)
  any_more (x ∷ l) a = ap (λ b. writes x || b) (any_more l a) ∙ sym (or_assoc (writes x) (any writes l) (writes a))

  every_more : (l : List A) (a : A) → every passes (l ++ a ∷ []) ≡ (every passes l && passes a)
  unfolding every
  every_more [] a = and-true (passes a)
  every_more (x ∷ l) a = ap (λ b. passes x && b) (every_more l a) ∙ sym (and_assoc (passes x) (every passes l) (passes a))

  any_here : (xs : List A) (i : ℕ) (d : A) → i < length xs → writes (get_or xs i d) ≡ true → any writes xs ≡ true
  unfolding any
  any_here [] i d h w = absurd (omega arith)
  any_here (x ∷ xs) zero d h w = or_left (writes x) (any writes xs) w
  any_here (x ∷ xs) (suc i) d h w = or_right (writes x) (any writes xs) (any_here xs i d (omega arith) w)

  -- the first place of a writer
  place_here : (xs : List A) (i : ℕ) (d : A) → i < length xs → any writes (take i xs) ≡ false → writes (get_or xs i d) ≡ true
      → suc i ≡ first_place writes xs
  unfolding any first_place
  place_here [] i d h f w = absurd (omega arith)
  place_here (x ∷ xs) zero d h f w = rw w refl
  place_here (x ∷ xs) (suc i) d h f w =
      let p = or_parts (writes x) (any writes (take i xs)) f in
      rw (p.0) (ap suc (place_here xs i d (omega arith) p.1 w))

  place_none : (xs : List A) → any writes xs ≡ false → suc (length xs) ≡ first_place writes xs
  unfolding any first_place
  place_none [] f = refl
  place_none (x ∷ xs) f = let p = or_parts (writes x) (any writes xs) f in rw (p.0) (ap suc (place_none xs p.1))

  module _ (xs : List A) where
    pub record Scanned (hold : Hold) (i : ℕ) : Type 0 where
      pub none : any writes (take i xs) ≡ false
      pub told : hold ≡ held_by false (every passes (take i xs))

    pub scan_none : Scanned Free 0
    unfolding any every
    scan_none = record { none = refl; told = refl }

    module _ (hold : Hold) (i : ℕ) (d : A) (inside : i < length xs) (e : Scanned hold i) where
      pub scan_writer : writes (get_or xs i d) ≡ true → Writer ≡ held_by (any writes xs) (every passes xs)
      scan_writer w = ap (λ b. held_by b (every passes xs)) (sym (any_here xs i d inside w))

      pub scan_stop : writes (get_or xs i d) ≡ true → i + 1 ≡ first_place writes xs
      scan_stop w = rw (add-one i) (place_here xs i d inside e.none w)

      module _ (w : writes (get_or xs i d) ≡ false) where
        one_more : take (i + 1) xs ≡ take i xs ++ get_or xs i d ∷ []
        one_more = rw (add-one i) (take-suc xs i d inside)

        none_on : any writes (take (i + 1) xs) ≡ false
        none_on =
            ap (any writes) one_more ∙ any_more (take i xs) (get_or xs i d)
            ∙ or_from (any writes (take i xs)) (writes (get_or xs i d)) e.none w

        every_on : every passes (take (i + 1) xs) ≡ (every passes (take i xs) && passes (get_or xs i d))
        every_on = ap (every passes) one_more ∙ every_more (take i xs) (get_or xs i d)

        pub scan_pass : (after : Hold) → after ≡ hold → passes (get_or xs i d) ≡ true → Scanned after (i + 1)
        scan_pass after is p =
            let on = every_on ∙ ap (λ b. every passes (take i xs) && b) p ∙ and-true (every passes (take i xs)) in
            record { none = none_on; told = is ∙ e.told ∙ ap (held_by false) (sym on) }

        pub scan_other : (after : Hold) → after ≡ Others → passes (get_or xs i d) ≡ false → Scanned after (i + 1)
        scan_other after is p =
            let on = every_on ∙ and_right (every passes (take i xs)) (passes (get_or xs i d)) p in
            record { none = none_on; told = is ∙ ap (held_by false) (sym on) }

    module _ (hold : Hold) (i : ℕ) (all : length xs ≤ i) (e : Scanned hold i) where
      whole : take i xs ≡ xs
      whole = take_all i xs all

      pub scan_all : hold ≡ held_by (any writes xs) (every passes xs)
      scan_all =
          e.told ∙ ap (λ l. held_by false (every passes l)) whole
          ∙ ap (λ b. held_by b (every passes xs)) (sym e.none ∙ ap (any writes) whole)

      pub scan_end : length xs + 1 ≡ first_place writes xs
      scan_end = rw (add-one (length xs)) (place_none xs (ap (any writes) (sym whole) ∙ e.none))

-- what a hold says: whether there is a writer, and whether all pass
abbrev pub Says : Hold → Bool → Bool → Type 0
Says Free writer passed = (writer ≡ false) × (passed ≡ true)
Says Writer writer passed = writer ≡ true
Says Others writer passed = (writer ≡ false) × (passed ≡ false)

pub held_says : (h : Hold) (writer passed : Bool) → h ≡ held_by writer passed → Says h writer passed
held_says h writer passed q = subst (λ x. Says x writer passed) (sym q) (sort writer passed)
  where
    sort : (w p : Bool) → Says (held_by w p) w p
    sort true p = refl
    sort false true = (refl, refl)
    sort false false = (refl, refl)

abbrev blank : Declared.Access
blank = record { location = 0; asked = 0 }

-- The accesses of a row, of which the first i locations have been looked at.
accesses_more : (gs : List Declared.Access) (g : Declared.Access) → accesses_of (gs ++ g ∷ []) ≡ accesses_of gs ++ access g.location g.asked ∷ []
unfolding accesses_of
accesses_more gs g = map-append (λ x. access x.location x.asked) gs (g ∷ [])

module _ (row : List ℕ) where
  pub Collected : List Declared.Access → ℕ → Type 0
  Collected gs i = accesses_of gs ++ needs_from i (drop i row) ≡ needs_from 0 row

  pub collect_none : Collected [] 0
  unfolding Collected accesses_of
  collect_none = refl

  opened : (i m : ℕ) → i < length row → m ≡ get_or row i 0 → drop i row ≡ m ∷ drop (suc i) row
  opened i m h e = drop-cons row i 0 h ∙ ap (λ k. k ∷ drop (suc i) row) (sym e)

  module _ (gs : List Declared.Access) (i m : ℕ) (inside : i < length row) (here : m ≡ get_or row i 0) (e : Collected gs i) where
    pub collect_skip : m ≡ 0 → Collected gs (i + 1)
    unfolding Collected needs_from
    collect_skip z =
        rw (add-one i)
        (ap (λ l. accesses_of gs ++ needs_from i l) (sym (opened i 0 inside (sym z ∙ here))) ∙ e)

    pub collect_next : m ≢ 0 → Collected (gs ++ record { location = i; asked = m } ∷ []) (i + 1)
    collect_next z = sort m here z
      where
        sort : (x : ℕ) → x ≡ get_or row i 0 → x ≢ 0 → Collected (gs ++ record { location = i; asked = x } ∷ []) (i + 1)
        sort zero h z = absurd (z refl)
        sort (suc x) h z =
            unfold Collected needs_from in
            rw (add-one i, accesses_more gs (record { location = i; asked = suc x }))
            (append_snoc (accesses_of gs) (access i (suc x)) (needs_from (suc i) (drop (suc i) row))
            ∙ ap (λ l. accesses_of gs ++ needs_from i l) (sym (opened i (suc x) inside h))
            ∙ e)

  -- the next of an array
  pub collect_set :
      (accesses : List Declared.Access) (count i m : ℕ) → count < length accesses → i < length row → m ≡ get_or row i 0
      → Collected (take count accesses) i → m ≢ 0 → Collected (take (count + 1) (set accesses count (record { location = i; asked = m }))) (i + 1)
  collect_set accesses count i m room inside here e z =
      subst (λ gs. Collected gs (i + 1)) (sym (rw (add-one count) (take-suc-set accesses count (record { location = i; asked = m }) room)))
      (collect_next (take count accesses) i m inside here e z)

  pub collect_all : (gs : List Declared.Access) (i : ℕ) → length row ≤ i → Collected gs i → accesses_of gs ≡ needs_from 0 row
  unfolding Collected needs_from
  collect_all gs i h e =
      sym (append-nil (accesses_of gs)) ∙ ap (λ l. accesses_of gs ++ needs_from i l) (sym (drop_of_length-le row h)) ∙ e

-- place i of the locations with their modes
pub asked_there :
    (row : List ℕ) (i location mode : ℕ) → length row ≡ 64 → i < length (zip (range_with_len 0 64) row)
    → (location, mode) ≡ get_or (zip (range_with_len 0 64) row) i (location, mode)
    → (i < 64) × (location ≡ i) × (mode ≡ get_or row i 0)
asked_there row i location mode whole inside e =
    let near : i < 64 = omega (arith, length-zip (range_with_len 0 64) row, length-range_with_len 0 64) in
    let pair = e ∙ get_or-zip (range_with_len 0 64) row i (location, mode) (omega (arith, length-range_with_len 0 64)) (omega arith) in (
      near,
      ap (λ p. p.0) pair ∙ get_or-range_with_len 0 64 i location near ∙ zero-add i,
      ap (λ p. p.1) pair ∙ get_or_default row i mode 0 (omega arith),
    )

length_accesses : (gs : List Declared.Access) → length (accesses_of gs) ≡ length gs
unfolding accesses_of
length_accesses gs = length-map gs (λ g. access g.location g.asked)

-- One task ahead, and the first i of the accesses.
module _ (modes : List ℕ) (task : ℕ) (gs : List Declared.Access) where
  abbrev writes_at : Access → Bool
  writes_at g = eqb (get_or (row task modes) g.location 0) 2

  abbrev passes_at : Access → Bool
  passes_at g = compatible (get_or (row task modes) g.location 0) g.mode

  pub LookedTo : Hold → ℕ → Type 0
  LookedTo = Scanned writes_at passes_at (accesses_of gs)

  abbrev told_by : Hold
  told_by = held_by (writes_one modes (accesses_of gs) task) (passes_all modes (accesses_of gs) task)

  pub looked_none : LookedTo Free 0
  unfolding LookedTo
  looked_none = scan_none writes_at passes_at (accesses_of gs)

  pub looked_all : (hold : Hold) (i : ℕ) → length gs ≤ i → LookedTo hold i → hold ≡ told_by
  unfolding LookedTo accesses_of writes_one passes_all
  looked_all hold i h e = scan_all writes_at passes_at (accesses_of gs) hold i (omega (arith, length_accesses gs)) e

  -- the access at place i
  module _
      (hold : Hold) (i location mode : ℕ) (inside : i < length gs) (there : location ≡ (get_or gs i blank).location)
      (m : mode ≡ get_or (row task modes) location 0) (e : LookedTo hold i)
    where
      here : get_or (accesses_of gs) i (access 0 0) ≡ access location (get_or gs i blank).asked
      unfolding accesses_of
      here = get_or-map (λ g. access g.location g.asked) gs i blank ∙ ap (λ x. access x (get_or gs i blank).asked) (sym there)

      within : i < length (accesses_of gs)
      within = omega (arith, length_accesses gs)

      mode_here : writes_at (get_or (accesses_of gs) i (access 0 0)) ≡ eqb mode 2
      mode_here = ap writes_at here ∙ ap (λ x. eqb x 2) (sym m)

      passes_here : passes_at (get_or (accesses_of gs) i (access 0 0)) ≡ compatible mode (get_or gs i blank).asked
      passes_here = ap passes_at here ∙ ap (λ x. compatible x (get_or gs i blank).asked) (sym m)

      pub looked_writer : mode ≡ 2 → Writer ≡ told_by
      unfolding LookedTo writes_one passes_all
      looked_writer q =
          scan_writer writes_at passes_at (accesses_of gs) hold i (access 0 0) within e (mode_here ∙ eq-eqb mode 2 q)

      module _ (q : mode ≢ 2) (after : Hold) where
        pub looked_pass : after ≡ hold → true ≡ compatible mode (get_or gs i blank).asked → LookedTo after (i + 1)
        unfolding LookedTo
        looked_pass is p =
            scan_pass writes_at passes_at (accesses_of gs) hold i (access 0 0) within e (mode_here ∙ ne_eqb mode 2 q) after is
            (passes_here ∙ sym p)

        pub looked_other : after ≡ Others → false ≡ compatible mode (get_or gs i blank).asked → LookedTo after (i + 1)
        unfolding LookedTo
        looked_other is p =
            scan_other writes_at passes_at (accesses_of gs) hold i (access 0 0) within e (mode_here ∙ ne_eqb mode 2 q) after is
            (passes_here ∙ sym p)

-- for what one task ahead does
pub ruleset looks = (looked_none, looked_writer, looked_pass, looked_other, looked_all)

-- The tasks ahead, of which i have been looked at.
module _ (modes : List ℕ) (gs : List Access) (tasks : List ℕ) where
  pub SearchedTo : Hold → ℕ → Type 0
  SearchedTo = Scanned (writes_one modes gs) (passes_all modes gs) tasks

  abbrev searched : Hold → ℕ → Searched
  searched hold looked = record { hold = hold; looked = looked }

  pub searched_none : SearchedTo Free 0
  unfolding SearchedTo
  searched_none = scan_none (writes_one modes gs) (passes_all modes gs) tasks

  -- the search's answer by its two parts
  answer : (h : Hold) (place : ℕ) → h ≡ hold_ahead modes tasks gs → place ≡ first_place (writes_one modes gs) tasks
      → searched h place ≡ searched_ahead modes tasks gs
  unfolding searched_ahead
  answer h place q p = ap (λ x. searched x place) q ∙ ap (searched (hold_ahead modes tasks gs)) p

  module _ (others : Hold) (i : ℕ) (e : SearchedTo others i) where
    pub searched_all : length tasks ≤ i → searched others (length tasks + 1) ≡ searched_ahead modes tasks gs
    unfolding SearchedTo hold_ahead
    searched_all h =
        answer others (length tasks + 1) (scan_all (writes_one modes gs) (passes_all modes gs) tasks others i h e)
        (scan_end (writes_one modes gs) (passes_all modes gs) tasks others i h e)

    module _
        (task : ℕ) (inside : i < length tasks) (t : task ≡ get_or tasks i 0) (hold : Hold)
        (told : hold ≡ held_by (writes_one modes gs task) (passes_all modes gs task))
      where
        says : (x : Hold) → hold ≡ x → Says x (writes_one modes gs (get_or tasks i 0)) (passes_all modes gs (get_or tasks i 0))
        says x q =
            subst (λ k. Says x (writes_one modes gs k) (passes_all modes gs k)) t
            (held_says x (writes_one modes gs task) (passes_all modes gs task) (sym q ∙ told))

        pub searched_writer : hold ≡ Writer → searched Writer (i + 1) ≡ searched_ahead modes tasks gs
        unfolding SearchedTo hold_ahead
        searched_writer q =
            answer Writer (i + 1)
            (scan_writer (writes_one modes gs) (passes_all modes gs) tasks others i 0 inside e (says Writer q))
            (scan_stop (writes_one modes gs) (passes_all modes gs) tasks others i 0 inside e (says Writer q))

        module _ (after : Hold) where
          pub searched_pass : hold ≡ Free → after ≡ others → SearchedTo after (i + 1)
          unfolding SearchedTo
          searched_pass q is =
              let s = says Free q in
              scan_pass (writes_one modes gs) (passes_all modes gs) tasks others i 0 inside e s.0 after is s.1

          pub searched_other : hold ≡ Others → after ≡ Others → SearchedTo after (i + 1)
          unfolding SearchedTo
          searched_other q is =
              let s = says Others q in
              scan_other (writes_one modes gs) (passes_all modes gs) tasks others i 0 inside e s.0 after is s.1

every_same : {A : Type 0} (p q : A → Bool) (l : List A) → ((a : A) → In a l → p a ≡ q a) → every p l ≡ every q l
unfolding every
every_same p q [] h = refl
every_same p q (a ∷ l) h = rw (h a (inl refl), every_same p q l (λ b i. h b (inr i))) refl

-- for the search of the tasks ahead
pub ruleset searches = (searched_none, searched_writer, searched_pass, searched_other, searched_all)

-- what a hold makes of a call with this effect
abbrev pub outcome_by : Hold → Effect → Outcome
outcome_by Free e = accept e
outcome_by Writer e = refuse 19
outcome_by Others e = refuse 20

-- the model's answer, where the table's rows are the modes of the tasks in the order
module _ (r : Run) (n : ℕ) (modes : List ℕ) (rows : (k : ℕ) → In k r.order → row k modes ≡ (task_of r k).modes) (gs : List Access) where
  same_writers : any (writes_one modes gs) (ahead n r.order) ≡ any (Model.writes_one r gs) (ahead n r.order)
  unfolding writes_one
  same_writers =
      any_same (writes_one modes gs) (Model.writes_one r gs) (ahead n r.order)
      (λ k i. ap (λ l. any (λ g. eqb (get_or l g.location 0) 2) gs) (rows k (in_ahead k n r.order i)))

  same_passers : every (passes_all modes gs) (ahead n r.order) ≡ every (Model.passes_all r gs) (ahead n r.order)
  unfolding passes_all
  same_passers =
      every_same (passes_all modes gs) (Model.passes_all r gs) (ahead n r.order)
      (λ k i. ap (λ l. every (λ g. compatible (get_or l g.location 0) g.mode) gs) (rows k (in_ahead k n r.order i)))

  pub admit_by :
      ((g : Access) → In g gs → Asks r n g) → (h : Hold) → h ≡ hold_ahead modes (ahead n r.order) gs → (e : Effect)
      → admit r n gs e ≡ outcome_by h e
  unfolding hold_ahead
  admit_by asks h q e = sort h (held_says h (any (writes_one modes gs) (ahead n r.order)) (every (passes_all modes gs) (ahead n r.order)) q)
    where
      sort :
          (x : Hold) → Says x (any (writes_one modes gs) (ahead n r.order)) (every (passes_all modes gs) (ahead n r.order))
          → admit r n gs e ≡ outcome_by x e
      sort Free s = admit_free r n gs e (sym same_passers ∙ s.1)
      sort Writer s = admit_writer r n gs e asks (sym same_writers ∙ s)
      sort Others s = admit_others r n gs e asks (sym same_writers ∙ s.0) (sym same_passers ∙ s.1)

-- the model's search, where the table holds its modes
module _ (r : Run) (n : ℕ) (modes : List ℕ) (same : (k a : ℕ) → get_or (row k modes) a 0 ≡ mode_of (task_of r k) a) (gs : List Access) where
  same_writes : (k : ℕ) → writes_one modes gs k ≡ Model.writes_one r gs k
  unfolding writes_one
  same_writes k =
      any_same (λ g. eqb (get_or (row k modes) g.location 0) 2) (λ g. eqb (mode_of (task_of r k) g.location) 2) gs
      (λ g i. ap (λ m. eqb m 2) (same k g.location))

  same_passes : (k : ℕ) → passes_all modes gs k ≡ Model.passes_all r gs k
  unfolding passes_all
  same_passes k =
      every_same (λ g. compatible (get_or (row k modes) g.location 0) g.mode)
      (λ g. compatible (mode_of (task_of r k) g.location) g.mode) gs
      (λ g i. ap (λ m. compatible m g.mode) (same k g.location))

  abbrev Agrees : List ℕ → Type 0
  Agrees o = found_of (searched_ahead modes (ahead n o) gs) ≡ Model.search_from r n gs o

  -- one task of the order, by whether it is the task itself and whether it is a writer
  module _ (k : ℕ) (ks : List ℕ) where
    by_itself : eqb k n ≡ true → Agrees (k ∷ ks)
    unfolding found_of searched_ahead hold_ahead first_place any every ahead Model.search_from
    by_itself q = rw q refl

    module _ (q : eqb k n ≡ false) where
      by_writer : Model.writes_one r gs k ≡ true → Agrees (k ∷ ks)
      unfolding found_of searched_ahead hold_ahead first_place any every ahead Model.search_from
      by_writer w = rw (q, same_writes k, w) refl

      by_rest : Model.writes_one r gs k ≡ false → Agrees ks → Agrees (k ∷ ks)
      unfolding found_of searched_ahead hold_ahead first_place any every ahead Model.search_from
      by_rest w ih =
          rw (q, same_writes k, w, same_passes k)
          (on (Model.passes_all r gs k) (any (writes_one modes gs) (ahead n ks)) (every (passes_all modes gs) (ahead n ks)) (first_place (writes_one modes gs) (ahead n ks))
          ∙ ap (Model.behind (Model.passes_all r gs k)) ih)
        where
          on : (p w e : Bool) (m : ℕ) → found_by (held_by w (p && e)) (suc m) ≡ Model.behind p (found_by (held_by w e) m)
          on true true e m = refl
          on true false true m = refl
          on true false false m = refl
          on false true e m = refl
          on false false true m = refl
          on false false false m = refl

  search_by_from : (o : List ℕ) → In n o → Agrees o
  search_by_from [] i = absurd i
  search_by_from (k ∷ ks) i = sort (search_by_from ks) (eqb k n) refl (Model.writes_one r gs k) refl i
    where
      sort :
          (In n ks → Agrees ks) → (own : Bool) → eqb k n ≡ own → (w : Bool) → Model.writes_one r gs k ≡ w → In n (k ∷ ks)
          → Agrees (k ∷ ks)
      sort ih true q w p i = by_itself k ks q
      sort ih false q true p i = by_writer k ks q p
      sort ih false q false p (inl e) = absurd (false≢true (sym q ∙ eq-eqb k n (sym e)))
      sort ih false q false p (inr i) = by_rest k ks q p (ih i)

  pub search_by : In n r.order → found_of (searched_ahead modes (ahead n r.order) gs) ≡ Model.search r n gs
  unfolding Model.search
  search_by i = search_by_from r.order i
