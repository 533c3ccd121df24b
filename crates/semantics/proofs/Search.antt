-- A look at several accesses at once, task by task from the front of the order, says what the guards say one by one; the search
-- that stops at the first writer says it too, and tells its place. Assumes nothing.
use Prim.Native.Nat.{ℕ, zero, suc}
use mathlib.Core.Path.{◌≡◌, refl, sym, ap, subst, ◌∙◌}
use mathlib.Core.List.{List, [], ◌∷◌, ◌++◌}
use mathlib.Core.Bool.{Bool, true, false, false≢true, cond, not, ◌&&◌, ◌||◌}
use mathlib.Core.Logic.{inl, inr}
use native.Mathlib.Nat.{zero-add}
use lib.ListN.{length}
use lib.Dec.{eqb}
use borrow.Author.Tests.{eqb-true, eq-eqb}
use Rattle.semantics.specs.Run.{Run, mode_of, task_of}
use Rattle.semantics.specs.Access.{Access, every, any, ahead, behind_writer, compatible, allowed}
use Rattle.semantics.specs.Effect.{Effect}
use Rattle.semantics.specs.Plan.{needs_from}
use Rattle.semantics.specs.Call.{Outcome, refuse, accept, hold, admit}
use Rattle.semantics.specs.Search.{writes_one, passes_all, Found, found, behind, search_from, search, hold_number}
use Rattle.semantics.specs.Sound.{In}
use Rattle.semantics.proofs.Modes.{write_ahead}
use Rattle.semantics.proofs.Wording.{writer_wording, needs_sound}
use Rattle.semantics.proofs.Decide.{not_refuse}

-- tests that pass everywhere
every_true : {A : Type 0} (l : List A) → every (λ a. true) l ≡ true
unfolding every
every_true [] = refl
every_true (a ∷ l) = every_true l

-- two tests on each, or each test on all
every_both : {A : Type 0} (p q : A → Bool) (l : List A) → every (λ a. p a && q a) l ≡ (every p l && every q l)
unfolding every
every_both p q [] = refl
every_both p q (a ∷ l) = ap (λ b. p a && q a && b) (every_both p q l) ∙ shuffle (p a) (q a) (every p l) (every q l)
  where
    shuffle : (w x y z : Bool) → (w && x && (y && z)) ≡ (w && y && (x && z))
    shuffle true true true z = refl
    shuffle true true false z = refl
    shuffle true false true z = refl
    shuffle true false false z = refl
    shuffle false x y z = refl

pub every_swap :
    {A B : Type 0} (p : A → B → Bool) (xs : List A) (ys : List B)
    → every (λ a. every (p a) ys) xs ≡ every (λ b. every (λ a. p a b) xs) ys
unfolding every
every_swap p [] ys = sym (every_true ys)
every_swap p (a ∷ xs) ys =
    ap (λ b. every (p a) ys && b) (every_swap p xs ys) ∙ sym (every_both (p a) (λ b. every (λ x. p x b) xs) ys)

pub from_the_front : (r : Run) (n : ℕ) (gs : List Access) → every (allowed r n) gs ≡ every (passes_all r gs) (ahead n r.order)
unfolding allowed
from_the_front r n gs =
    every_swap (λ g k. compatible (mode_of (task_of r k) g.location) g.mode) gs (ahead n r.order)

-- some item passes one of two tests
any_false : {A : Type 0} (l : List A) → any (λ a. false) l ≡ false
unfolding any
any_false [] = refl
any_false (a ∷ l) = any_false l

any_either : {A : Type 0} (p q : A → Bool) (l : List A) → any (λ a. p a || q a) l ≡ (any p l || any q l)
unfolding any
any_either p q [] = refl
any_either p q (a ∷ l) = ap (λ b. p a || q a || b) (any_either p q l) ∙ shuffle (p a) (q a) (any p l) (any q l)
  where
    shuffle : (w x y z : Bool) → (w || x || (y || z)) ≡ (w || y || (x || z))
    shuffle true x y z = refl
    shuffle false true true z = refl
    shuffle false true false z = refl
    shuffle false false true z = refl
    shuffle false false false z = refl

any_swap :
    {A B : Type 0} (p : A → B → Bool) (xs : List A) (ys : List B)
    → any (λ a. any (p a) ys) xs ≡ any (λ b. any (λ a. p a b) xs) ys
unfolding any
any_swap p [] ys = sym (any_false ys)
any_swap p (a ∷ xs) ys =
    ap (λ b. any (p a) ys || b) (any_swap p xs ys) ∙ sym (any_either (p a) (λ b. any (λ x. p x b) xs) ys)

pub any_same : {A : Type 0} (p q : A → Bool) (l : List A) → ((a : A) → In a l → p a ≡ q a) → any p l ≡ any q l
unfolding any
any_same p q [] h = refl
any_same p q (a ∷ l) h = rw (h a (inl refl), any_same p q l (λ b i. h b (inr i))) refl

-- where one passes the one test and fails the other, not all pass the other
any_not_every :
    {A : Type 0} (p q : A → Bool) (l : List A) → ((a : A) → In a l → p a ≡ true → q a ≡ false) → any p l ≡ true → every q l ≡ false
unfolding any every
any_not_every p q [] h e = sym e
any_not_every p q (a ∷ l) h e = look (p a) refl e (any_not_every p q l (λ b i. h b (inr i)))
  where
    and_false : (b : Bool) → (b && false) ≡ false
    and_false true = refl
    and_false false = refl

    look : (b : Bool) → p a ≡ b → (b || any p l) ≡ true → (any p l ≡ true → every q l ≡ false) → (q a && every q l) ≡ false
    look true w o ih = rw (h a (inl refl) w) refl
    look false w o ih = rw (ih o) (and_false (q a))

-- the task has a place in the queue of this access, which asks for something
pub record Asks (r : Run) (n : ℕ) (g : Access) : Type 0 where
  pub queued : mode_of (task_of r n) g.location ≡ 0 → ⊥
  pub asked : g.mode ≡ 0 → ⊥

-- a start asks for each mode of the task that isn't 0
pub start_asks : (r : Run) (n : ℕ) (g : Access) → In g (needs_from 0 (task_of r n).modes) → Asks r n g
start_asks r n g i =
    let k = needs_sound (task_of r n).modes 0 g i in
    let own : mode_of (task_of r n) g.location ≡ g.mode =
    ap (mode_of (task_of r n)) (k.1 ∙ zero-add k.0) ∙ sym k.2 in
    record { queued = λ z. k.3 (sym own ∙ z); asked = k.3 }

write_incompatible : (m a : ℕ) → (a ≡ 0 → ⊥) → eqb m 2 ≡ true → compatible m a ≡ false
write_incompatible m a z e = ap (λ x. compatible x a) (eqb-true m 2 e) ∙ write_ahead a z

-- What these accesses come to, by the tasks ahead from the front: whether one of them has mode write, and whether all pass.
module _ (r : Run) (n : ℕ) (gs : List Access) (e : Effect) where
  pub admit_free : every (passes_all r gs) (ahead n r.order) ≡ true → admit r n gs e ≡ accept e
  unfolding admit
  admit_free h = rw (from_the_front r n gs ∙ h) refl

  module _ (asks : (g : Access) → In g gs → Asks r n g) where
    hold_front : hold r n gs ≡ cond (any (writes_one r gs) (ahead n r.order)) 19 20
    unfolding hold
    hold_front =
        ap (λ b. cond b 19 20)
        (any_same (λ g. behind_writer r n g.location) (λ g. any (λ k. eqb (mode_of (task_of r k) g.location) 2) (ahead n r.order))
        gs (λ g i. writer_wording r n g.location (asks g i).queued)
        ∙ any_swap (λ g k. eqb (mode_of (task_of r k) g.location) 2) gs (ahead n r.order))

    pub admit_writer : any (writes_one r gs) (ahead n r.order) ≡ true → admit r n gs e ≡ refuse 19
    unfolding admit
    admit_writer h = rw (from_the_front r n gs ∙ stopped, hold_front, h) refl
      where
        stopped : every (passes_all r gs) (ahead n r.order) ≡ false
        stopped =
            any_not_every (writes_one r gs) (passes_all r gs) (ahead n r.order)
            (λ k i.
            any_not_every (λ g. eqb (mode_of (task_of r k) g.location) 2)
            (λ g. compatible (mode_of (task_of r k) g.location) g.mode) gs
            (λ g j. write_incompatible (mode_of (task_of r k) g.location) g.mode (asks g j).asked))
            h

    pub admit_others :
        any (writes_one r gs) (ahead n r.order) ≡ false → every (passes_all r gs) (ahead n r.order) ≡ false
        → admit r n gs e ≡ refuse 20
    unfolding admit
    admit_others w h = rw (from_the_front r n gs ∙ h, hold_front, w) refl

-- what this number of a hold makes of a call with this effect
abbrev pub outcome_of : ℕ → Effect → Outcome
outcome_of zero e = accept e
outcome_of (suc k) e = refuse (suc k)

-- Where the search over an order stopped: at the first that is the task itself or has mode write at one of the locations, and
-- it looked at so many.
pub record Stopped (r : Run) (n : ℕ) (gs : List Access) (o : List ℕ) (f : Found) : Type 0 where
  pub before : List ℕ
  pub at : ℕ
  pub rest : List ℕ
  pub whole : o ≡ before ++ (at ∷ rest)
  pub none_before : (k : ℕ) → In k before → (eqb k n ≡ false) × (writes_one r gs k ≡ false)
  pub itself : eqb at n ≡ not f.writer
  pub writes : f.writer ≡ true → writes_one r gs at ≡ true
  pub counted : f.looked ≡ suc (length before)

-- The search of task n for these accesses.
module _ (r : Run) (n : ℕ) (gs : List Access) where
  -- one task of the order, by whether it is the task itself and whether it is a writer
  module _ (k : ℕ) (ks : List ℕ) where
    search_itself : eqb k n ≡ true → search_from r n gs (k ∷ ks) ≡ found false true 1
    unfolding search_from
    search_itself q = rw q refl

    module _ (q : eqb k n ≡ false) where
      search_stops : writes_one r gs k ≡ true → search_from r n gs (k ∷ ks) ≡ found true false 1
      unfolding search_from
      search_stops w = rw (q, w) refl

      search_on : writes_one r gs k ≡ false → search_from r n gs (k ∷ ks) ≡ behind (passes_all r gs k) (search_from r n gs ks)
      unfolding search_from
      search_on w = rw (q, w) refl

  -- it finds a writer where one is ahead, and otherwise says whether all pass
  writer_ahead : (o : List ℕ) → (search_from r n gs o).writer ≡ any (writes_one r gs) (ahead n o)
  unfolding search_from ahead any
  writer_ahead [] = refl
  writer_ahead (k ∷ ks) = sort (writer_ahead ks) (eqb k n) refl (writes_one r gs k) refl
    where
      sort :
          (search_from r n gs ks).writer ≡ any (writes_one r gs) (ahead n ks)
          → (own : Bool) → eqb k n ≡ own → (w : Bool) → writes_one r gs k ≡ w
          → (search_from r n gs (k ∷ ks)).writer ≡ any (writes_one r gs) (ahead n (k ∷ ks))
      sort ih true q w p = ap (λ f. f.writer) (search_itself k ks q) ∙ (unfold ahead any in rw q refl)
      sort ih false q true p = ap (λ f. f.writer) (search_stops k ks q p) ∙ (unfold ahead any in rw (q, p) refl)
      sort ih false q false p = ap (λ f. f.writer) (search_on k ks q p) ∙ (unfold ahead any in rw (q, p) ih)

  passed_ahead : (o : List ℕ) → any (writes_one r gs) (ahead n o) ≡ false → (search_from r n gs o).passed ≡ every (passes_all r gs) (ahead n o)
  unfolding search_from ahead any every
  passed_ahead [] h = refl
  passed_ahead (k ∷ ks) h = sort (passed_ahead ks) (eqb k n) refl (writes_one r gs k) refl h
    where
      sort :
          (any (writes_one r gs) (ahead n ks) ≡ false → (search_from r n gs ks).passed ≡ every (passes_all r gs) (ahead n ks))
          → (own : Bool) → eqb k n ≡ own → (w : Bool) → writes_one r gs k ≡ w
          → any (writes_one r gs) (cond own [] (k ∷ ahead n ks)) ≡ false
          → (search_from r n gs (k ∷ ks)).passed ≡ every (passes_all r gs) (ahead n (k ∷ ks))
      sort ih true q w p none = ap (λ f. f.passed) (search_itself k ks q) ∙ (unfold ahead every in rw q refl)
      sort ih false q true p none = absurd (false≢true (sym none ∙ (unfold any in rw p refl)))
      sort ih false q false p none =
          ap (λ f. f.passed) (search_on k ks q p)
          ∙ (unfold ahead every in rw q (ap (λ b. passes_all r gs k && b) (ih (sym (unfold any in rw p refl) ∙ none))))

  -- "All answers of calls stay the same."
  pub admit_search : ((g : Access) → In g gs → Asks r n g) → (e : Effect) → admit r n gs e ≡ outcome_of (hold_number (search r n gs)) e
  unfolding search hold_number
  admit_search asks e =
      sort (any (writes_one r gs) (ahead n r.order)) refl (every (passes_all r gs) (ahead n r.order)) refl
    where
      by : Bool → Bool → Outcome
      by w p = outcome_of (cond w 19 (cond p 0 20)) e

      sort :
          (w : Bool) → any (writes_one r gs) (ahead n r.order) ≡ w
          → (p : Bool) → every (passes_all r gs) (ahead n r.order) ≡ p
          → admit r n gs e ≡ by (search_from r n gs r.order).writer (search_from r n gs r.order).passed
      sort true w p h =
          admit_writer r n gs e asks w
          ∙ sym (ap (λ b. by b (search_from r n gs r.order).passed) (writer_ahead r.order ∙ w))
      sort false w true h =
          admit_free r n gs e h
          ∙ sym (ap (λ b. by b (search_from r n gs r.order).passed) (writer_ahead r.order ∙ w) ∙ ap (by false) (passed_ahead r.order w ∙ h))
      sort false w false h =
          admit_others r n gs e asks w h
          ∙ sym (ap (λ b. by b (search_from r n gs r.order).passed) (writer_ahead r.order ∙ w) ∙ ap (by false) (passed_ahead r.order w ∙ h))

  -- "exactly the place in the order where it stopped, counted from 1"
  stopped_in : (o : List ℕ) → In n o → Stopped r n gs o (search_from r n gs o)
  stopped_in [] i = absurd i
  stopped_in (k ∷ ks) i = sort (stopped_in ks) (eqb k n) refl (writes_one r gs k) refl i
    where
      here : (f : Found) → eqb k n ≡ not f.writer → (f.writer ≡ true → writes_one r gs k ≡ true) → f.looked ≡ 1 → Stopped r n gs (k ∷ ks) f
      here f q w c =
          record {
            before = [];
            at = k;
            rest = ks;
            whole = refl;
            none_before = λ j i. absurd i;
            itself = q;
            writes = w;
            counted = c;
          }

      sort :
          (In n ks → Stopped r n gs ks (search_from r n gs ks))
          → (own : Bool) → eqb k n ≡ own → (w : Bool) → writes_one r gs k ≡ w → In n (k ∷ ks)
          → Stopped r n gs (k ∷ ks) (search_from r n gs (k ∷ ks))
      sort ih true q w p i =
          subst (Stopped r n gs (k ∷ ks)) (sym (search_itself k ks q)) (here (found false true 1) q (λ z. absurd (false≢true z)) refl)
      sort ih false q true p i = subst (Stopped r n gs (k ∷ ks)) (sym (search_stops k ks q p)) (here (found true false 1) q (λ z. p) refl)
      sort ih false q false p (inl e) = absurd (false≢true (sym q ∙ eq-eqb k n (sym e)))
      sort ih false q false p (inr i) =
          let s = ih i in
          subst (Stopped r n gs (k ∷ ks)) (sym (search_on k ks q p))
          record {
            before = k ∷ s.before;
            at = s.at;
            rest = s.rest;
            whole = ap (λ l. k ∷ l) s.whole;
            none_before = first s;
            itself = s.itself;
            writes = s.writes;
            counted = ap suc s.counted;
          }
        where
          first :
              (s : Stopped r n gs ks (search_from r n gs ks))
              → (j : ℕ) → In j (k ∷ s.before) → (eqb j n ≡ false) × (writes_one r gs j ≡ false)
          first s j (inl e) = subst (λ x. (eqb x n ≡ false) × (writes_one r gs x ≡ false)) (sym e) (q, p)
          first s j (inr i) = s.none_before j i

  -- where no writer is ahead it is the task's own place
  own_place : (o : List ℕ) → In n o → (search_from r n gs o).writer ≡ false → (search_from r n gs o).looked ≡ suc (length (ahead n o))
  own_place [] i h = absurd i
  own_place (k ∷ ks) i h = sort (own_place ks) (eqb k n) refl (writes_one r gs k) refl i
    where
      sort :
          (In n ks → (search_from r n gs ks).writer ≡ false → (search_from r n gs ks).looked ≡ suc (length (ahead n ks)))
          → (own : Bool) → eqb k n ≡ own → (w : Bool) → writes_one r gs k ≡ w → In n (k ∷ ks)
          → (search_from r n gs (k ∷ ks)).looked ≡ suc (length (ahead n (k ∷ ks)))
      sort ih true q w p i = ap (λ f. f.looked) (search_itself k ks q) ∙ (unfold ahead in rw q refl)
      sort ih false q true p i = absurd (false≢true (sym h ∙ ap (λ f. f.writer) (search_stops k ks q p)))
      sort ih false q false p (inl e) = absurd (false≢true (sym q ∙ eq-eqb k n (sym e)))
      sort ih false q false p (inr i) =
          ap (λ f. f.looked) (search_on k ks q p)
          ∙ (unfold ahead in rw q (ap suc (ih i (sym (ap (λ f. f.writer) (search_on k ks q p)) ∙ h))))

  pub looked_free : In n r.order → (search r n gs).writer ≡ false → (search r n gs).looked ≡ suc (length (ahead n r.order))
  unfolding search
  looked_free i h = own_place r.order i h

  -- so it is for an accepted call
  pub looked_accepted :
      ((g : Access) → In g gs → Asks r n g) → In n r.order → (e e' : Effect) → admit r n gs e ≡ accept e'
      → (search r n gs).looked ≡ suc (length (ahead n r.order))
  looked_accepted asks i e e' a = looked_free i (sort (search r n gs).writer refl)
    where
      sort : (w : Bool) → (search r n gs).writer ≡ w → (search r n gs).writer ≡ false
      sort true w = absurd (not_refuse 19 e' (sym (admit_search asks e ∙ (unfold hold_number in rw w refl)) ∙ a))
      sort false w = w

  pub search_stopped : In n r.order → Stopped r n gs r.order (search r n gs)
  unfolding search
  search_stopped i = stopped_in r.order i
