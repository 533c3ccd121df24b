-- Laws of the writer's loops: what is still to be put, for lines, instructions, footprints and bodies alike.
use Prim.Native.Nat.{ℕ, suc, ◌+◌, ◌*◌, ◌≤◌, ◌<◌}
use mathlib.Core.Path.{◌≡◌, refl, sym, ap, ◌∙◌}
use mathlib.Core.List.{List, [], ◌∷◌, ◌++◌}
use native.Mathlib.Omega.{arith}
use native.Mathlib.Numerals.{add-one}
use native.Mathlib.Nat.{add-zero, zero-add, add-suc, suc-add, mul-zero, mul-suc}
use lib.ListN.{length, drop, get_or, set, length-append, drop_of_length-le}
use lib.Seq.{sets, length-sets, sets-eq, drop-cons}
use borrow.Author.Tests.{lt-leb, le-leb}
use Rattle.tasklist.specs.declared.Line.{Line}
use Rattle.tasklist.specs.declared.Instruction.{Instruction}
use Rattle.tasklist.specs.declared.Instruction.TheVariants.{Const, Add, Sub, Less, Load, Store, Skip, Spawn, Wait, Fan, Sum, Mul, Div}
use Rattle.tasklist.specs.TaskList.{TaskList}
use Rattle.tasklist.specs.Encode.{instruction_fields, line_fields, joined, footprint_bytes, body_bytes, head_bytes, encode}
use Rattle.tasklist.specs.Answers.{refuses, gives, write_answer, write_places}

pub sets_append : (xs l ys : List ℕ) (i : ℕ) → sets l i (xs ++ ys) ≡ sets (sets l i xs) (i + length xs) ys
sets_append [] l ys i = ap (λ (k : ℕ). sets l k ys) (sym (add-zero i))
sets_append (a ∷ xs) l ys i =
    sets_append xs (set l i a) ys (suc i) ∙
    ap (λ (k : ℕ). sets (sets (set l i a) (suc i) xs) k ys) (suc-add i (length xs) ∙ sym (add-suc i (length xs)))

module _ {A : Type 0} (e : A → List ℕ) (xs : List A) where
  -- the bytes of the items from place i on
  abbrev pub rest_from : ℕ → List ℕ
  rest_from i = joined e (drop i xs)

  pub rest_more : (i : ℕ) (d : A) → i < length xs → rest_from i ≡ e (get_or xs i d) ++ rest_from (i + 1)
  unfolding joined
  rest_more i d h = rw (drop-cons xs i d h, add-one)

  pub rest_none : (i : ℕ) → length xs ≤ i → rest_from i ≡ []
  unfolding joined
  rest_none i h = ap (joined e) (drop_of_length-le xs h)

  pub rest_length : (i : ℕ) (d : A) → i < length xs → length (rest_from i) ≡ length (e (get_or xs i d)) + length (rest_from (i + 1))
  rest_length i d h = ap length (rest_more i d h) ∙ length-append (e (get_or xs i d)) (rest_from (i + 1))

  -- the places are those of `whole` once the items from i on are put at `at`; they end at `stop`, within the slice
  pub record Put (whole : List ℕ) (stop : ℕ) (out : List ℕ) (at i : ℕ) : Type 0 where
    pub places : sets out at (rest_from i) ≡ whole
    pub stops : at + length (rest_from i) ≡ stop
    pub long : length out ≡ length whole
    pub room : stop ≤ length whole

  module _ (whole : List ℕ) (stop : ℕ) where
    pub put_fits : (out : List ℕ) (at i : ℕ) (d : A) (k : ℕ) → i < length xs → length (e (get_or xs i d)) ≡ k → Put whole stop out at i
        → at + k ≤ length out
    put_fits out at i d k h l p = omega (arith, rest_length i d h, p.stops, p.long, p.room)

    pub put_more : (out : List ℕ) (at i : ℕ) (d : A) (k : ℕ) (x new : List ℕ) → i < length xs → length (e (get_or xs i d)) ≡ k
        → e (get_or xs i d) ≡ x → Put whole stop out at i → new ≡ sets out at x → Put whole stop new (at + k) (i + 1)
    put_more out at i d k x new h l g p q =
        let y = e (get_or xs i d) in
        record {
          places =
              ap (λ (m : ℕ). sets new (at + m) (rest_from (i + 1))) (sym l) ∙
              ap (λ (o : List ℕ). sets o (at + length y) (rest_from (i + 1))) (q ∙ ap (sets out at) (sym g)) ∙
              sym (sets_append y out (rest_from (i + 1)) at) ∙
              ap (sets out at) (sym (rest_more i d h)) ∙ p.places;
          stops = omega (arith, rest_length i d h, p.stops);
          long = ap length q ∙ length-sets out at x ∙ p.long;
          room = p.room;
        }

    pub put_done : (out : List ℕ) (at i : ℕ) → length xs ≤ i → Put whole stop out at i → (at ≡ stop) × (out ≡ whole)
    put_done out at i h p =
        let none_left : length (rest_from i) ≡ 0 = ap length (rest_none i h) in
        (omega (arith, p.stops), sym (ap (sets out at) (rest_none i h)) ∙ p.places)

  -- nothing put yet
  pub put_starts : (out : List ℕ) (from : ℕ) → from + length (joined e xs) ≤ length out
      → Put (sets out from (joined e xs)) (from + length (joined e xs)) out from 0
  put_starts out from h =
      record { places = refl; stops = refl; long = sym (length-sets out from (joined e xs)); room = rw (length-sets out from (joined e xs)) h }

-- a mark and a count, then the items
pub put_behind : (a b n : ℕ) (l ys : List ℕ) (from : ℕ) → sets (sets l from (a ∷ b ∷ n ∷ [])) (from + 3) ys ≡ sets l from (a ∷ b ∷ n ∷ ys)
put_behind a b n l ys from = sym (sets_append (a ∷ b ∷ n ∷ []) l ys from)

-- items of one length
pub joined_length : {A : Type 0} (e : A → List ℕ) (k : ℕ) → ((a : A) → length (e a) ≡ k) → (xs : List A) → length (joined e xs) ≡ k * length xs
unfolding joined
joined_length e k h [] = sym (mul-zero k)
joined_length e k h (x ∷ xs) =
    length-append (e x) (joined e xs) ∙
    omega (arith, h x, joined_length e k h xs, mul-suc k (length xs))

pub line_length : (l : Line) → length (line_fields l) ≡ 2
unfolding line_fields
line_length l = refl

pub instruction_length : (x : Instruction) → length (instruction_fields x) ≡ 4
unfolding instruction_fields
instruction_length (Const a v) = refl
instruction_length (Add a b c) = refl
instruction_length (Sub a b c) = refl
instruction_length (Less a b c) = refl
instruction_length (Load a b) = refl
instruction_length (Store a b) = refl
instruction_length (Skip a b) = refl
instruction_length (Spawn a b) = refl
instruction_length (Wait a) = refl
instruction_length (Fan a b c) = refl
instruction_length (Sum a b) = refl
instruction_length (Mul a b c) = refl
instruction_length (Div a b c) = refl

pub footprint_length : (ls : List Line) → length (footprint_bytes ls) ≡ 3 + 2 * length ls
unfolding footprint_bytes
footprint_length ls = omega (arith, joined_length line_fields 2 line_length ls)

pub body_length : (is : List Instruction) → length (body_bytes is) ≡ 3 + 4 * length is
unfolding body_bytes
body_length is = omega (arith, joined_length instruction_fields 4 instruction_length is)

-- The whole list
module _ (l : TaskList) where
  pub encode_length : length (encode l) ≡ 5 + length (joined footprint_bytes l.footprints) + length (joined body_bytes l.bodies)
  unfolding encode head_bytes
  encode_length =
      length-append (head_bytes l ++ joined footprint_bytes l.footprints) (joined body_bytes l.bodies) ∙
      ap (λ (n : ℕ). n + length (joined body_bytes l.bodies)) (length-append (head_bytes l) (joined footprint_bytes l.footprints))

  -- the head, the footprints, the bodies, one behind the other
  pub put_whole : (out : List ℕ)
      → sets (sets (sets out 0 (head_bytes l)) 5 (joined footprint_bytes l.footprints)) (5 + length (joined footprint_bytes l.footprints))
      (joined body_bytes l.bodies)
      ≡ sets out 0 (encode l)
  unfolding encode head_bytes
  put_whole out =
      let fs = joined footprint_bytes l.footprints in
      let bs = joined body_bytes l.bodies in
      ap (λ (o : List ℕ). sets o (5 + length fs) bs) (sym (sets_append (head_bytes l) out fs 0)) ∙
      ap (λ (k : ℕ). sets (sets out 0 (head_bytes l ++ fs)) k bs) (sym (length-append (head_bytes l) fs) ∙ sym (zero-add (length (head_bytes l ++ fs)))) ∙
      sym (sets_append (head_bytes l ++ fs) out bs 0)

module _ (bytes out : List ℕ) where
  pub places_short : length out < length bytes → out ≡ write_places bytes out
  unfolding write_places
  places_short h = rw (lt-leb (length bytes) (length out) h)

  pub answer_short : length out < length bytes → refuses 17 ≡ write_answer bytes out
  unfolding write_answer
  answer_short h = rw (lt-leb (length bytes) (length out) h)

  pub places_put : length bytes ≤ length out → sets out 0 bytes ≡ write_places bytes out
  unfolding write_places
  places_put h =
      rw (le-leb (length bytes) (length out) h)
      (sets-eq bytes out 0 (rw zero-add h) ∙ ap (λ (k : ℕ). bytes ++ drop k out) (zero-add (length bytes)))

  pub answer_put : length bytes ≤ length out → gives (length bytes) ≡ write_answer bytes out
  unfolding write_answer
  answer_put h = rw (le-leb (length bytes) (length out) h)
