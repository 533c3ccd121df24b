-- Carrying out two effects in either order: apart in their records, children and edits, they commute. Assumes nothing.
use Prim.Native.Nat.{ℕ, suc, ◌+◌, ◌<◌}
use mathlib.Core.Path.{◌≡◌, refl, sym, ap, subst, ◌∙◌}
use mathlib.Core.List.{List, [], ◌∷◌, map}
use mathlib.Core.Bool.{Bool, true, false}
use mathlib.Core.Logic.{◌⊎◌, inl, inr, ◌≢◌}
use native.Mathlib.Decide.{ℕ_discrete, dec_lt}
use native.Mathlib.Omega.{arith}
use lib.ListN.{length, get_or, set, length-set}
use lib.Seq.{set-set, set_out, set_comm, get_or-set_same, get_or-set_other}
use Rattle.semantics.specs.Run.{Task, Run, never, task_of}
use Rattle.semantics.specs.Effect.{Edit, keep, put, add, Numbered, Effect}
use Rattle.semantics.specs.Call.{sum_of, edited, written, stays, places, changes, charged, apply}
use Rattle.semantics.specs.Sound.{In, Distinct}
use Rattle.semantics.proofs.Order.{in_append, splice_comm}

abbrev pub numbers : List Numbered → List ℕ
numbers xs = map (λ x. x.number) xs

-- the numbers whose records a call of n writes
abbrev pub touched : ℕ → Effect → List ℕ
touched n e = n ∷ numbers e.made

abbrev pub Disjoint : List ℕ → List ℕ → Type 0
Disjoint xs ys = (k : ℕ) → In k xs → In k ys → ⊥

abbrev pub EditsApart : Edit → Edit → Type 0
EditsApart keep d = Unit {0}
EditsApart (put a v) keep = Unit {0}
EditsApart (put a v) (put b w) = a ≢ b
EditsApart (put a v) (add b w) = a ≢ b
EditsApart (add a v) keep = Unit {0}
EditsApart (add a v) (put b w) = a ≢ b
EditsApart (add a v) (add b w) = Unit {0}

-- a location's value changed: at two locations in either order, at one where the changes can be made in either order
abbrev changed : ℕ → (ℕ → ℕ) → List ℕ → List ℕ
changed a f m = set m a (f (get_or m a 0))

changed_apart :
    (a b : ℕ) (f g : ℕ → ℕ) (m : List ℕ) → a ≢ b → changed b g (changed a f m) ≡ changed a f (changed b g m)
changed_apart a b f g m ne =
    rw (get_or-set_other m a b (f (get_or m a 0)) 0 (λ q. ne (sym q)), get_or-set_other m b a (g (get_or m b 0)) 0 ne)
    (set_comm m a b (f (get_or m a 0)) (g (get_or m b 0)) ne)

changed_twice : (a : ℕ) (f g : ℕ → ℕ) (m : List ℕ) → a < length m → changed a g (changed a f m) ≡ set m a (g (f (get_or m a 0)))
changed_twice a f g m h =
    rw (get_or-set_same m a (f (get_or m a 0)) 0 h) (set-set m a (f (get_or m a 0)) (g (f (get_or m a 0))))

changed_alike :
    (a : ℕ) (f g : ℕ → ℕ) (m : List ℕ) → ((x : ℕ) → g (f x) ≡ f (g x)) → changed a g (changed a f m) ≡ changed a f (changed a g m)
changed_alike a f g m h = sort (dec_lt a (length m))
  where
    beyond : (k : ℕ → ℕ) → (a < length m → ⊥) → changed a k m ≡ m
    beyond k out = set_out m a (k (get_or m a 0)) (omega arith)

    sort : Dec (a < length m) → changed a g (changed a f m) ≡ changed a f (changed a g m)
    sort (yes i) = changed_twice a f g m i ∙ ap (set m a) (h (get_or m a 0)) ∙ sym (changed_twice a g f m i)
    sort (no out) = ap (changed a g) (beyond f out) ∙ beyond g out ∙ sym (ap (changed a f) (beyond g out) ∙ beyond f out)

-- "modulo 2^32": two sums at one location end alike in either order
sums_comm : (v w x : ℕ) → sum_of (sum_of x v) w ≡ sum_of (sum_of x w) v
sums_comm v w x = omega arith

adds_comm : (a b v w : ℕ) (m : List ℕ) → edited (add b w) (edited (add a v) m) ≡ edited (add a v) (edited (add b w) m)
unfolding edited
adds_comm a b v w m = sort (ℕ_discrete a b)
  where
    sort : Dec (a ≡ b) → edited (add b w) (edited (add a v) m) ≡ edited (add a v) (edited (add b w) m)
    sort (no ne) = changed_apart a b (λ x. sum_of x v) (λ x. sum_of x w) m ne
    sort (yes q) =
        subst (λ k. changed k (λ x. sum_of x w) (changed a (λ x. sum_of x v) m) ≡ changed a (λ x. sum_of x v) (changed k (λ x. sum_of x w) m)) q
        (changed_alike a (λ x. sum_of x v) (λ x. sum_of x w) m (sums_comm v w))

pub edits_comm : (e d : Edit) (m : List ℕ) → EditsApart e d → edited d (edited e m) ≡ edited e (edited d m)
unfolding edited
edits_comm keep d m h = refl
edits_comm (put a v) keep m h = refl
edits_comm (put a v) (put b w) m h = changed_apart a b (λ _. v) (λ _. w) m h
edits_comm (put a v) (add b w) m h = changed_apart a b (λ _. v) (λ x. sum_of x w) m h
edits_comm (add a v) keep m h = refl
edits_comm (add a v) (put b w) m h = changed_apart a b (λ x. sum_of x v) (λ _. w) m h
edits_comm (add a v) (add b w) m h = adds_comm a b v w m

-- records
pub length_written : (xs : List Numbered) (ts : List Task) → length (written xs ts) ≡ length ts
unfolding written
length_written [] ts = refl
length_written (x ∷ xs) ts = length-set (written xs ts) x.number x.task ∙ length_written xs ts

pub written_other :
    (xs : List Numbered) (ts : List Task) (k : ℕ) → (In k (numbers xs) → ⊥)
    → get_or (written xs ts) k never ≡ get_or ts k never
unfolding written
written_other [] ts k h = refl
written_other (x ∷ xs) ts k h =
    get_or-set_other (written xs ts) x.number k x.task never (λ q. h (inl q)) ∙ written_other xs ts k (λ i. h (inr i))

pub in_numbers : (x : Numbered) (xs : List Numbered) → In x xs → In x.number (numbers xs)
in_numbers x [] i = absurd i
in_numbers x (y ∷ xs) (inl q) = inl (ap (λ z. z.number) q)
in_numbers x (y ∷ xs) (inr i) = inr (in_numbers x xs i)

pub numbers_in : (k : ℕ) (xs : List Numbered) → In k (numbers xs) → (x : Numbered) × In x xs × (k ≡ x.number)
numbers_in k [] i = absurd i
numbers_in k (y ∷ xs) (inl q) = (y, inl refl, q)
numbers_in k (y ∷ xs) (inr i) = let rest = numbers_in k xs i in (rest.0, inr rest.1, rest.2)

pub written_in :
    (xs : List Numbered) (ts : List Task) (x : Numbered) → In x xs → Distinct (numbers xs) → x.number < length ts
    → get_or (written xs ts) x.number never ≡ x.task
unfolding written
written_in [] ts x i d h = absurd i
written_in (y ∷ xs) ts x (inl q) d h =
    subst (λ z. get_or (set (written xs ts) y.number y.task) z.number never ≡ z.task) (sym q)
    (get_or-set_same (written xs ts) y.number y.task never
    (subst (λ k. y.number < k) (sym (length_written xs ts)) (subst (λ z. z.number < length ts) q h)))
written_in (y ∷ xs) ts x (inr i) d h =
    get_or-set_other (written xs ts) y.number x.number y.task never
    (λ q. d.0 (subst (λ k. In k (numbers xs)) q (in_numbers x xs i)))
    ∙ written_in xs ts x i d.1 h

set_written :
    (xs : List Numbered) (ts : List Task) (n : ℕ) (t : Task) → (In n (numbers xs) → ⊥)
    → set (written xs ts) n t ≡ written xs (set ts n t)
unfolding written
set_written [] ts n t h = refl
set_written (x ∷ xs) ts n t h =
    set_comm (written xs ts) x.number n x.task t (λ q. h (inl (sym q)))
    ∙ ap (λ l. set l x.number x.task) (set_written xs ts n t (λ i. h (inr i)))

pub written_comm :
    (xs ys : List Numbered) (ts : List Task) → Disjoint (numbers xs) (numbers ys)
    → written ys (written xs ts) ≡ written xs (written ys ts)
unfolding written
written_comm [] ys ts h = refl
written_comm (x ∷ xs) ys ts h =
    sym (set_written ys (written xs ts) x.number x.task (h x.number (inl refl)))
    ∙ ap (λ l. set l x.number x.task) (written_comm xs ys ts (λ k i j. h k (inr i) j))

-- who stands in the task's place afterwards is among those touched
pub places_touched : (n : ℕ) (e : Effect) (k : ℕ) → In k (places n e) → In k (touched n e)
unfolding places
places_touched n e k i = go e.leaves (in_append k (numbers e.made) (stays e.leaves n) i)
  where
    stayed : (b : Bool) → In k (stays b n) → k ≡ n
    stayed true j = absurd (unfold stays in j)
    stayed false j = only (unfold stays in j)
      where
        only : In k (n ∷ []) → k ≡ n
        only (inl q) = q
        only (inr q) = absurd q

    go : (b : Bool) → In k (numbers e.made) ⊎ In k (stays b n) → In k (touched n e)
    go b (inl j) = inr j
    go b (inr j) = inl (stayed b j)

pub apply_comm :
    (n m : ℕ) (e d : Effect) (r : Run) → Disjoint (touched n e) (touched m d) → EditsApart e.edit d.edit
    → apply m d (apply n e r) ≡ apply n e (apply m d r)
unfolding apply changes
apply_comm n m e d r h q =
    λ i.
    record {
      memory = edits_comm e.edit d.edit r.memory q i;
      tasks = written_comm (changes n e) (changes m d) r.tasks h i;
      order =
          splice_comm n m (places n e) (places m d) r.order
          (λ p. h n (inl refl) (inl p))
          (λ j. h m (places_touched n e m j) (inl refl))
          (λ j. h n (inl refl) (places_touched m d n j))
          i;
      calls = suc (suc r.calls);
      weight = weights i;
    }
  where
    weights : r.weight + e.weight + d.weight ≡ r.weight + d.weight + e.weight
    weights = omega arith

-- the records after a call
pub task_other : (n : ℕ) (e : Effect) (r : Run) (k : ℕ) → (In k (touched n e) → ⊥) → task_of (apply n e r) k ≡ task_of r k
unfolding apply changes
task_other n e r k h = written_other (changes n e) r.tasks k h

pub task_self :
    (n : ℕ) (e : Effect) (r : Run) → n < length r.tasks → task_of (apply n e r) n ≡ charged e.weight e.task
unfolding apply changes written
task_self n e r h =
    get_or-set_same (written e.made r.tasks) n (charged e.weight e.task) never
    (subst (λ k. n < k) (sym (length_written e.made r.tasks)) h)

pub task_made :
    (n : ℕ) (e : Effect) (r : Run) (x : Numbered) → In x e.made → Distinct (touched n e)
    → x.number < length r.tasks → task_of (apply n e r) x.number ≡ x.task
unfolding apply changes
task_made n e r x i d h = written_in (changes n e) r.tasks x (inr i) d h
