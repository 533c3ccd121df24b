-- Laws of the calls of the input and its pieces. Assumes nothing.
use Rattle.std.proofs.Common.{ℕ, zero, suc, ◌+◌, ◌*◌, ◌/◌, ◌≤◌, ◌<◌, ◌≡◌, refl, sym, ap, subst, ◌∙◌, List, [], ◌∷◌, ◌++◌, Bool, true, false, cond, ◌||◌, arith, length, take, drop, ltb}
use Rattle.std.specs.Prelude.{Option, Some, None, slice_get}
use Rattle.std.proofs.lemmas.Slice.{take-put_mid}
use borrow.Rule.Slice.PartMut.{put_mid}
use Prim.Native.Nat.{zero-le}
use lib.ListN.{length-take, set}
use lib.Seq.{take-length, take_all, take-nil}
use borrow.Author.Tests.{le-ltb, ltb-false}
use Rattle.tasklist.specs.Encode.{joined}
use Rattle.semantics.specs.Run.{Context}
use Rattle.semantics.specs.Run as Semantics
use Rattle.semantics.specs.Call.{after_all}
use Rattle.runtime.specs.declared.Run.{Run}
use Rattle.runtime.specs.View.{model, context_of, SoundRun}
use Rattle.runtime.specs.Calls.{calls_of_kind, CallsMade}
use Rattle.runtime.proofs.MadeLaws.{no_calls}
use Rattle.std.proofs.lemmas.Bool.{false≢true}
use Rattle.lent.specs.declared.Lent.{Lent}
use Rattle.lent.specs.Lines.{calls_in, lines}
use Rattle.lent.specs.Pieces.{LentOf}
use Rattle.wording.specs.Wording.{line}
use Rattle.wording.specs.Promises.{Wrote, PutAt}
use Rattle.wording.proofs.WroteLaws.{wrote_none}
use Rattle.wording.proofs.PutLaws.{put_wrote, put_behind}
use Rattle.transcript.specs.Promises.{whole_of, half_of, pending_bytes, exceeds, used_of, FedWith, FedAs}

-- The calls that are whole, and the byte left over
pub half_first : (l : List ℕ) → pending_bytes (slice_get (drop (length l / 2 * 2) l) 0) ≡ half_of l
unfolding pending_bytes half_of
half_first [] = refl
half_first (k ∷ []) = refl
half_first (k ∷ n ∷ l) =
    let further : length (k ∷ n ∷ l) / 2 * 2 ≡ suc (suc (length l / 2 * 2)) = omega arith in
    rw further (half_first l)

pub whole_take : (l : List ℕ) → whole_of l ≡ take (length l / 2 * 2) l
unfolding whole_of
whole_take [] = refl
whole_take (k ∷ []) = refl
whole_take (k ∷ n ∷ l) =
    let e : suc (suc (length l / 2 * 2)) ≡ suc (suc (length l)) / 2 * 2 = omega arith in
    ap (λ xs. k ∷ n ∷ xs) (whole_take l) ∙ ap (λ j. take j (k ∷ n ∷ l)) e

pub whole_calls : (l : List ℕ) → calls_in (whole_of l) ≡ calls_in l
unfolding whole_of calls_in
whole_calls [] = refl
whole_calls (k ∷ []) = refl
whole_calls (k ∷ n ∷ l) = ap (λ cs. calls_of_kind k n ++ cs) (whole_calls l)

pub lines_count : (c : Context) (r : Semantics.Run) (l : List ℕ) → length (lines c r (whole_of l)) ≡ length l / 2
unfolding whole_of lines
lines_count c r [] = refl
lines_count c r (k ∷ []) = refl
lines_count c r (k ∷ n ∷ l) = let e = lines_count c (after_all c r (calls_of_kind k n)) l in omega (arith, e)

-- as many places as a part has are that part
pub part_long : (n m : ℕ) (l : List ℕ) → length (take n l) ≡ m → take m l ≡ take n l
part_long zero m l e = ap (λ j. take j l) (sym e)
part_long (suc n) m [] e = take-nil m
part_long (suc n) zero (x ∷ l) e = let z : ⊥ = omega (arith, e) in absurd z
part_long (suc n) (suc m) (x ∷ l) e = ap (λ xs. x ∷ xs) (part_long n m l (omega (arith, e)))

part_short : (n m : ℕ) (l : List ℕ) → n ≤ m → take m (take n l) ≡ take n l
part_short n m l h = take_all m (take n l) (omega (arith, length-take n l))

-- A piece behind the byte that waited
pub one_waits : (p : Option ℕ) (buffer : List ℕ) (byte : ℕ) → p ≡ Some byte → 0 < length buffer → take 1 (set buffer 0 byte) ≡ pending_bytes p
unfolding pending_bytes
one_waits p [] byte e h = let z : ⊥ = omega (arith, h) in absurd z
one_waits p (x ∷ buffer) byte e h = sym (ap pending_bytes e)

pub behind_waiting :
    (p : Option ℕ) (piece buffer part : List ℕ) (from k : ℕ) → from ≤ length buffer → take from buffer ≡ pending_bytes p → part ≡ piece
    → take (from + length piece) (put_mid from k buffer part) ≡ pending_bytes p ++ piece
behind_waiting p piece buffer part from k h e given =
    rw given (take-put_mid from k buffer piece (from + length piece) refl h ∙ ap (λ l. l ++ piece) e)

pub exceeds_none : (n m : ℕ) → n ≤ 511 → 4 * (n / 2 + 1) ≤ m → exceeds n m ≡ false
unfolding exceeds
exceeds_none n m h k = rw (le-ltb 511 n h, le-ltb m (4 * (n / 2 + 1)) k) refl

pub within_both : (n m : ℕ) → exceeds n m ≡ false → (n ≤ 511) × (4 * (n / 2 + 1) ≤ m)
unfolding exceeds
within_both n m h = by_tests (ltb 511 n) refl (ltb m (4 * (n / 2 + 1))) refl h
  where
    by_tests : (a : Bool) → ltb 511 n ≡ a → (b : Bool) → ltb m (4 * (n / 2 + 1)) ≡ b → (a || b) ≡ false → (n ≤ 511) × (4 * (n / 2 + 1) ≤ m)
    by_tests false e false f h = (ltb-false 511 n e, ltb-false m (4 * (n / 2 + 1)) f)
    by_tests false e true f h = absurd (false≢true (sym h))
    by_tests true e b f h = absurd (false≢true (sym h))

-- the byte that waited is one more at most
pub joined_length : (p : Option ℕ) (piece : List ℕ) → length (pending_bytes p ++ piece) ≤ length piece + 1
unfolding pending_bytes
joined_length None piece = omega arith
joined_length (Some k) piece = omega arith

module _ (run : Run) (p : Option ℕ) (piece out : List ℕ) where
  pub used_none : exceeds (length piece) (length out) ≡ true → used_of piece out ≡ 0
  unfolding used_of
  used_none h = ap (λ b. cond b 0 (length piece)) h

  pub used_all : exceeds (length piece) (length out) ≡ false → used_of piece out ≡ length piece
  unfolding used_of
  used_all h = ap (λ b. cond b 0 (length piece)) h

  idle :
      (q : Option ℕ) (bytes : List ℕ) → calls_in bytes ≡ [] → whole_of bytes ≡ [] → pending_bytes q ≡ half_of bytes
      → FedWith run bytes out out (record { run = run; pending = q; used = 0; wrote = 0 })
  unfolding lines joined
  idle q bytes calls whole half =
      record {
        made = subst (λ cs. CallsMade cs run run) (sym calls) (no_calls run);
        lines = λ s. subst (λ b. Wrote (joined line (lines (context_of run) (model run) b)) out out 0) (sym whole) (wrote_none [] out refl);
        pending = half;
        rest = refl;
        long = refl;
        within = zero-le;
        whole = refl;
      }

  still : (q : Option ℕ) → FedWith run (pending_bytes q ++ []) out out (record { run = run; pending = q; used = 0; wrote = 0 })
  unfolding pending_bytes half_of whole_of calls_in
  still None = idle None [] refl refl refl
  still (Some k) = idle (Some k) (k ∷ []) refl refl refl

  pub fed_idle : exceeds (length piece) (length out) ≡ true → FedAs run p piece out out (record { run = run; pending = p; used = 0; wrote = 0 })
  fed_idle h = record { used = sym (used_none h); fed = still p }

  -- the run was lent to its calls, and their lines were put
  pub fed_taken :
      (after numbers : List ℕ) (given : Lent) (q : Option ℕ) (wrote : ℕ) → exceeds (length piece) (length out) ≡ false
      → LentOf (take (length (pending_bytes p ++ piece) / 2 * 2) (pending_bytes p ++ piece)) run given
      → pending_bytes q ≡ half_of (pending_bytes p ++ piece) → numbers ≡ take (length (pending_bytes p ++ piece) / 2) given.answers
      → PutAt (joined line numbers) out 0 after wrote → wrote ≤ 4 * (length (pending_bytes p ++ piece) / 2) → FedAs run p piece out after (record { run = given.run; pending = q; used = length piece; wrote = wrote })
  fed_taken after numbers given q wrote h l left taken put most =
      record {
        used = sym (used_all h);
        fed = subst (λ b. FedWith run b out after (record { run = given.run; pending = q; used = length piece; wrote = wrote })) (sym all) fed;
      }
    where
      bytes : List ℕ
      bytes = pending_bytes p ++ piece

      all : pending_bytes p ++ take (length piece) piece ≡ bytes
      all = ap (λ x. pending_bytes p ++ x) (take-length piece)

      room : (length piece ≤ 511) × (4 * (length piece / 2 + 1) ≤ length out)
      room = within_both (length piece) (length out) h

      asked : take 512 (take (length bytes / 2 * 2) bytes) ≡ whole_of bytes
      asked = part_short (length bytes / 2 * 2) 512 bytes (omega (arith, joined_length p piece, room.0)) ∙ sym (whole_take bytes)

      said : SoundRun run → numbers ≡ lines (context_of run) (model run) (whole_of bytes)
      said s =
          let e = l.lines s ∙ ap (lines (context_of run) (model run)) asked in
          taken
          ∙ part_long given.calls (length bytes / 2) given.answers (ap length e ∙ lines_count (context_of run) (model run) bytes)
          ∙ e

      wrote_lines : Wrote (joined line numbers) out after wrote
      wrote_lines =
          put_wrote (joined line numbers) (joined line numbers) out after wrote refl (omega (arith, put.behind, joined_length p piece, room.1)) put

      fed : FedWith run bytes out after (record { run = given.run; pending = q; used = length piece; wrote = wrote })
      fed =
          record {
            made = subst (λ cs. CallsMade cs run given.run) (ap calls_in asked ∙ whole_calls bytes) l.made;
            lines = λ s. subst (λ xs. Wrote (joined line xs) out after wrote) (said s) wrote_lines;
            pending = left;
            rest = put_behind (joined line numbers) out after wrote put (omega (arith, wrote_lines.within, put.long));
            long = put.long;
            within = wrote_lines.within;
            whole = wrote_lines.whole;
          }
