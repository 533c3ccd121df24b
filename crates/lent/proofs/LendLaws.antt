-- What each turn of the lender keeps: the calls and lines from here on are those from the beginning. Assumes nothing.
use Rattle.std.proofs.Common.{ℕ, zero, suc, ◌+◌, ◌*◌, ◌<◌, ◌≤◌, ◌≡◌, refl, sym, ap, subst, ◌∙◌, List, [], ◌∷◌, ◌++◌, arith, length, get_or, set, min, take, drop, append_assoc}
use mathlib.Core.List.{append-nil}
use Rattle.std.proofs.lemmas.List.{take_more_set, take_min, length-take}
use lib.ListN.{length-set, length-append}
use Rattle.std.specs.Int.{div_ceil}
use Rattle.std.proofs.Math.Nat.{min_comm}
use Rattle.semantics.specs.Run.{Context}
use Rattle.semantics.specs.Run as Semantics
use Rattle.semantics.specs.Call.{after_all}
use Rattle.std.specs.Prelude.{Result}
use Rattle.semantics.specs.declared.CallRefusal.{CallRefusal}
use Rattle.semantics.specs.Plan.{Action}
use Rattle.semantics.specs.Call.{decide}
use Rattle.semantics.specs.Answers.{answer_number, outcome_number}
use Rattle.plans.specs.Calls.{call_of}
use Rattle.runtime.proofs.CallLaws.{call_made}
use Rattle.lent.specs.Handed.{CalledIn}
use Rattle.runtime.specs.declared.Run.{Run}
use Rattle.runtime.specs.View.{model, context_of, SoundRun}
use Rattle.runtime.specs.Calls.{calls_of_kind, CallsMade}
use Rattle.lent.specs.Lines.{calls_in, line, lines}
use Rattle.lent.specs.Pieces.{LentOf}
use Rattle.runtime.proofs.ViewLaws.{same_context}
use Rattle.runtime.proofs.MadeLaws.{no_calls, calls_append, kind_none}

-- two bytes, and one
two_bytes : (l : List ℕ) → length l ≡ 2 → l ≡ get_or l 0 0 ∷ get_or l 1 0 ∷ []
two_bytes (k ∷ n ∷ []) e = refl
two_bytes [] e = absurd (omega arith)
two_bytes (k ∷ []) e = absurd (omega arith)
two_bytes (k ∷ n ∷ m ∷ l) e = absurd (omega arith)

pub half_made : (l : List ℕ) → length l < 2 → (r : Run) → CallsMade (calls_in l) r r
unfolding calls_in
half_made [] h r = no_calls r
half_made (k ∷ []) h r = no_calls r
half_made (k ∷ n ∷ l) h r = absurd (omega arith)

pub half_line : (l : List ℕ) → length l < 2 → 0 < length l → (c : Context) (m : Semantics.Run) → 18 ∷ [] ≡ lines c m l
unfolding lines
half_line [] h k c m = absurd (omega arith)
half_line (k ∷ []) h _ c m = refl
half_line (k ∷ n ∷ l) h _ c m = absurd (omega arith)

-- a call of two bytes: what is made of it, and its line
module _ (l : List ℕ) (two : length l ≡ 2) (kind n : ℕ) (first : get_or l 0 0 ≡ kind) (second : n ≡ get_or l 1 0) where
  bytes_are : l ≡ kind ∷ n ∷ []
  bytes_are = two_bytes l two ∙ ap (λ k. k ∷ get_or l 1 0 ∷ []) first ∙ ap (λ m. kind ∷ m ∷ []) (sym second)

  pub pair_made : (from to : Run) → CallsMade (calls_of_kind kind n) from to → CallsMade (calls_in l) from to
  unfolding calls_in
  pair_made from to m =
      subst (λ b. CallsMade b from to) (sym (ap calls_in bytes_are ∙ append-nil (calls_of_kind kind n))) m

  pub pair_line : (x : ℕ) (c : Context) (m : Semantics.Run) → x ≡ line c m kind n → x ∷ [] ≡ lines c m l
  unfolding lines
  pair_line x c m e = ap (λ y. y ∷ []) e ∙ sym (ap (lines c m) bytes_are)

  -- what a call of this kind makes, and its line
  pub pair_called :
      (a : Action) → calls_of_kind kind n ≡ call_of a n ∷ [] → ((c : Context) (m : Semantics.Run) → line c m kind n ≡ outcome_number (decide c m (call_of a n)))
      → (from to : Run) (answer : Result Unit CallRefusal) → CalledIn a from n answer to → (x : ℕ) → x ≡ answer_number answer
      → CallsMade (calls_in l) from to × (SoundRun from → x ∷ [] ≡ lines (context_of from) (model from) l)
  pair_called a is says from to answer h x e = (
    pair_made from to (subst (λ cs. CallsMade cs from to) (sym is) (call_made a from n answer to h)),
    λ s. pair_line x (context_of from) (model from) (e ∙ h.answer s ∙ sym (says (context_of from) (model from))),
  )

  -- a call that is none of the three
  module _ (other : (kind ≡ 0 → ⊥) × (kind ≡ 1 → ⊥) × (kind ≡ 2 → ⊥)) where
    pub stray_made : (r : Run) → CallsMade (calls_in l) r r
    stray_made r = pair_made r r (kind_none r kind n other.0 other.1 other.2)

    no_line : (k : ℕ) (c : Context) (m : Semantics.Run) → (k ≡ 0 → ⊥) → (k ≡ 1 → ⊥) → (k ≡ 2 → ⊥) → 18 ≡ line c m k n
    unfolding line
    no_line zero c m p q s = absurd (p refl)
    no_line (suc zero) c m p q s = absurd (q refl)
    no_line (suc (suc zero)) c m p q s = absurd (s refl)
    no_line (suc (suc (suc k))) c m p q s = refl

    pub stray_line : (c : Context) (m : Semantics.Run) → 18 ∷ [] ≡ lines c m l
    stray_line c m = pair_line 18 c m (no_line kind c m other.0 other.1 other.2)

-- the first call, and those behind it
calls_apart : (l : List ℕ) → calls_in l ≡ calls_in (take 2 l) ++ calls_in (drop 2 l)
unfolding calls_in
calls_apart [] = refl
calls_apart (k ∷ []) = refl
calls_apart (k ∷ n ∷ bytes) = ap (λ l. l ++ calls_in bytes) (sym (append-nil (calls_of_kind k n)))

lines_apart :
    (c : Context) (r : Semantics.Run) (l : List ℕ)
    → lines c r l ≡ lines c r (take 2 l) ++ lines c (after_all c r (calls_in (take 2 l))) (drop 2 l)
unfolding lines calls_in
lines_apart c r [] = refl
lines_apart c r (k ∷ []) = refl
lines_apart c r (k ∷ n ∷ bytes) = ap (λ l. line c r k n ∷ lines c (after_all c r l) bytes) (sym (append-nil (calls_of_kind k n)))

-- the run `h` and the numbers said after some calls of the bytes `whole` on the run `from`, where `rest` is left
pub record Inv (whole : List ℕ) (from h : Run) (said rest : List ℕ) : Type 0 where
  pub list : h.tables ≡ from.tables
  pub weights : h.weights ≡ from.weights
  pub sound : SoundRun from → SoundRun h
  pub made : (r : Run) → CallsMade (calls_in rest) h r → CallsMade (calls_in whole) from r
  pub lines : SoundRun from → said ++ lines (context_of from) (model h) rest ≡ lines (context_of from) (model from) whole

pub begins : (whole : List ℕ) (from : Run) (said rest : List ℕ) → said ≡ [] → rest ≡ whole → Inv whole from from said rest
begins whole from said rest none all =
    record {
      list = refl;
      weights = refl;
      sound = λ s. s;
      made = λ r m. subst (λ l. CallsMade (calls_in l) from r) all m;
      lines = λ s. ap (λ l. l ++ lines (context_of from) (model from) rest) none ∙ ap (lines (context_of from) (model from)) all;
    }

-- two elements off the front, or as many as there are
split_after :
    (call behind : List ℕ) → length call ≡ min 2 (length (call ++ behind))
    → (take 2 (call ++ behind) ≡ call) × (drop 2 (call ++ behind) ≡ behind)
split_after [] [] e = (refl, refl)
split_after [] (x ∷ l) e = absurd (omega arith)
split_after (k ∷ []) [] e = (refl, refl)
split_after (k ∷ []) (x ∷ l) e = absurd (omega arith)
split_after (k ∷ n ∷ []) behind e = (refl, refl)
split_after (k ∷ n ∷ m ∷ l) behind e = absurd (omega arith)

-- the call of the bytes `call`, with `behind` left, whose number x is written behind the first `turn`
pub turned :
    (whole : List ℕ) (from h h' : Run) (answers : List ℕ) (turn next : ℕ) (rest call behind : List ℕ) (x : ℕ)
    → Inv whole from h (take turn answers) rest → turn < length answers → next ≡ turn + 1
    → rest ≡ call ++ behind → length call ≡ min 2 (length rest)
    → CallsMade (calls_in call) h h' → (SoundRun h → x ∷ [] ≡ lines (context_of h) (model h) call)
    → Inv whole from h' (take next (set answers turn x)) behind
turned whole from h h' answers turn next rest call behind x inv room n apart short m e =
    record {
      list = m.list ∙ inv.list;
      weights = m.weights ∙ inv.weights;
      sound = λ s. m.sound (inv.sound s);
      made = λ r k. inv.made r (subst (λ cs. CallsMade cs h r) (sym all_calls) (calls_append (calls_in call) (calls_in behind) h h' r m k));
      lines = all_said;
    }
  where
    same : context_of h ≡ context_of from
    same = same_context h from inv.list inv.weights

    parts : (take 2 (call ++ behind) ≡ call) × (drop 2 (call ++ behind) ≡ behind)
    parts = split_after call behind (short ∙ ap (λ l. min 2 (length l)) apart)

    front : take 2 rest ≡ call
    front = ap (take 2) apart ∙ parts.0

    back : drop 2 rest ≡ behind
    back = ap (drop 2) apart ∙ parts.1

    all_calls : calls_in rest ≡ calls_in call ++ calls_in behind
    all_calls = calls_apart rest ∙ ap (λ l. calls_in l ++ calls_in (drop 2 rest)) front ∙ ap (λ l. calls_in call ++ calls_in l) back

    all_lines : (c : Context) (r : Semantics.Run) → lines c r rest ≡ lines c r call ++ lines c (after_all c r (calls_in call)) behind
    all_lines c r =
        lines_apart c r rest ∙ ap (λ l. lines c r l ++ lines c (after_all c r (calls_in l)) (drop 2 rest)) front
        ∙ ap (λ l. lines c r call ++ lines c (after_all c r (calls_in call)) l) back

    all_said : SoundRun from → take next (set answers turn x) ++ lines (context_of from) (model h') behind ≡ lines (context_of from) (model from) whole
    all_said s =
        let c = context_of from in
        let said = take turn answers in
        let noted : take next (set answers turn x) ≡ said ++ x ∷ [] = ap (λ k. take k (set answers turn x)) n ∙ take_more_set answers turn x room in
        let first : x ∷ [] ≡ lines c (model h) call = e (inv.sound s) ∙ ap (λ w. lines w (model h) call) same in
        let after : model h' ≡ after_all c (model h) (calls_in call) = m.run (inv.sound s) ∙ ap (λ w. after_all w (model h) (calls_in call)) same in
        ap (λ l. l ++ lines c (model h') behind) noted
        ∙ append_assoc said (x ∷ []) (lines c (model h') behind)
        ∙ ap (λ l. said ++ (l ++ lines c (model h') behind)) first
        ∙ ap (λ r. said ++ (lines c (model h) call ++ lines c r behind)) after
        ∙ ap (λ l. said ++ l) (sym (all_lines c (model h)))
        ∙ inv.lines s

none_of : (l : List ℕ) → length l ≡ 0 → l ≡ []
none_of [] e = refl
none_of (x ∷ l) e = absurd (omega arith)

-- The turns of the lender, two bytes each but perhaps the last: the run `h` and the answers after `turn` calls of the first 512
-- bytes of an input, where `rest` is left.
pub record Turns (input : List ℕ) (from h : Run) (answers rest : List ℕ) (turn size : ℕ) : Type 0 where
  pub said : Inv (take 512 input) from h (take turn answers) rest
  pub room : length answers ≡ 256
  pub pairs : size ≡ 2
  pub next : 0 < length rest → turn < 256
  pub at_least : length (take 512 input) ≤ 2 * turn + length rest
  pub at_most : 2 * turn + length rest ≤ length (take 512 input) + 1
  pub whole : 0 < length rest → 2 * turn + length rest ≤ length (take 512 input)

first_bytes : (n : ℕ) (l : List ℕ) → n ≡ min (length l) 512 → take n l ≡ take 512 l
first_bytes n l q = ap (λ k. take k l) (q ∙ min_comm (length l) 512) ∙ take_min 512 l

pub first_turn :
    (input : List ℕ) (from : Run) (answers rest : List ℕ) (n turn size : ℕ) → n ≡ min (length input) 512 → length answers ≡ 256
    → turn ≡ 0 → size ≡ 2 → rest ≡ take n input → Turns input from from answers rest turn size
first_turn input from answers rest n turn size q room none two all =
    let is = all ∙ first_bytes n input q in
    let many = ap length is in
    let most = length-take 512 input in
    record {
      said = begins (take 512 input) from (take turn answers) rest (ap (λ k. take k answers) none) is;
      room = room;
      pairs = two;
      next = λ h. omega arith;
      at_least = omega arith;
      at_most = omega arith;
      whole = λ h. omega arith;
    }

pub next_turn :
    (input : List ℕ) (from h h' : Run) (answers rest call behind : List ℕ) (turn size turn' size' at x : ℕ)
    → Turns input from h answers rest turn size
    → (size' ≡ size) × ((rest ≡ call ++ behind) × (length call ≡ min size (length rest)) × (0 < length rest))
    → at ≡ turn → turn' ≡ turn + 1
    → CallsMade (calls_in call) h h' → (SoundRun h → x ∷ [] ≡ lines (context_of h) (model h) call)
    → Turns input from h' (set answers at x) behind turn' size'
next_turn input from h h' answers rest call behind turn size turn' size' at x t cut q n m e =
    let apart = cut.1.0 in
    let short : length call ≡ min 2 (length rest) = cut.1.1 ∙ ap (λ k. min k (length rest)) t.pairs in
    let many = ap length apart ∙ length-append call behind in
    let before : turn < 256 = t.next cut.1.2 in
    let bytes : 2 * turn + length rest ≤ length (take 512 input) = t.whole cut.1.2 in
    let most = length-take 512 input in
    record {
      said =
          subst (λ k. Inv (take 512 input) from h' (take turn' (set answers k x)) behind) (sym q)
          (turned (take 512 input) from h h' answers turn turn' rest call behind x t.said (omega arith) n apart short m e);
      room = length-set answers at x ∙ t.room;
      pairs = cut.0 ∙ t.pairs;
      next = λ h. omega arith;
      at_least = omega arith;
      at_most = omega arith;
      whole = λ h. omega arith;
    }

-- all the bytes of a piece are taken
pub last_turn :
    (input : List ℕ) (from h : Run) (answers rest : List ℕ) (n turn size calls : ℕ) → n ≡ min (length input) 512
    → Turns input from h answers rest turn size → length rest ≡ 0 → calls ≡ div_ceil (length (take n input)) 2
    → LentOf input from (record { run = h; calls = calls; answers = answers })
unfolding calls_in lines
last_turn input from h answers rest n turn size calls q t none all =
    let over = none_of rest none in
    let piece = ap length (first_bytes n input q) in
    let least = t.at_least in
    let most = t.at_most in
    let count : calls ≡ turn = omega arith in
    record {
      made = t.said.made h (subst (λ l. CallsMade (calls_in l) h h) (sym over) (no_calls h));
      lines =
          λ s.
          ap (λ k. take k answers) count ∙ sym (append-nil (take turn answers))
          ∙ ap (λ l. take turn answers ++ lines (context_of from) (model h) l) (sym over)
          ∙ t.said.lines s;
    }
