-- Bytes put one behind the other. Assumes nothing.
use Rattle.std.proofs.Common.{ℕ, ◌+◌, ◌≤◌, ◌≡◌, refl, sym, ap, ◌∙◌, List, [], ◌++◌, append_assoc, length, take, drop, arith, zero-add, length-append}
use Rattle.std.proofs.lemmas.List.{drop-drop}
use borrow.Rule.Slice.PartMut.{put_mid}
use lib.Seq.{sets, length-sets, sets-eq, drop_at}
use Rattle.tasklist.proofs.WriterLaws.{sets_append}
use Rattle.wording.specs.Promises.{Wrote, PutAt, PutIf}
use Rattle.wording.proofs.WroteLaws.{wrote_all}

module _ {x before after : List ℕ} {at stop : ℕ} (p : PutAt x before at after stop) where
  -- one behind the other
  pub put_then : {y more : List ℕ} {last : ℕ} → PutAt y after stop more last → PutAt (x ++ y) before at more last
  put_then {y} {more} {last} q =
      record {
        behind = omega (arith, p.behind, q.behind, length-append x y);
        places =
            q.places
            ∙ ap (λ o. sets o stop y) p.places
            ∙ ap (λ k. sets (sets before at x) k y) p.behind
            ∙ sym (sets_append x before y at);
        long = q.long ∙ p.long;
      }

  -- what is still to be put behind it
  pub put_rest : {y whole : List ℕ} {last : ℕ} → PutAt (x ++ y) before at whole last → PutAt y after stop whole last
  put_rest {y} {whole} {last} q =
      record {
        behind = omega (arith, p.behind, q.behind, length-append x y);
        places =
            q.places
            ∙ sets_append x before y at
            ∙ ap (λ k. sets (sets before at x) k y) (sym p.behind)
            ∙ ap (λ o. sets o stop y) (sym p.places);
        long = q.long ∙ sym p.long;
      }

-- these bytes at their places
pub put_at : (x before : List ℕ) (at : ℕ) → PutAt x before at (sets before at x) (at + length x)
put_at x before at = record { behind = refl; places = refl; long = length-sets before at x }

pub put_by :
    (x before : List ℕ) (at : ℕ) (after : List ℕ) (stop : ℕ) → stop ≡ at + length x → after ≡ sets before at x
    → PutAt x before at after stop
put_by x before at after stop q e = record { behind = q; places = e; long = ap length e ∙ length-sets before at x }

-- where nothing is still to be put, all is
pub put_over : (out whole : List ℕ) (at last : ℕ) → PutAt [] out at whole last → (at ≡ last) × (out ≡ whole)
put_over out whole at last q = (omega (arith, q.behind), sym q.places)

-- a word in the part of a slice that it fills
pub put_part :
    (word before part : List ℕ) (at k : ℕ) → at + length word ≤ length before → k ≡ length word → part ≡ word
    → PutAt word before at (put_mid at k before part) (at + length word)
put_part word before part at k h size given =
    put_by word before at (put_mid at k before part) (at + length word) refl
    (
    rw (size, given)
    (
    ap (λ l. take at before ++ (word ++ l)) (drop-drop (length word) at before)
    ∙ sym (append_assoc (take at before) word (drop (at + length word) before)) ∙ sym (sets-eq word before at h)
    )
    )

-- put at the front, where there is room
pub put_wrote :
    (given_bytes bytes before after : List ℕ) (n : ℕ) → given_bytes ≡ bytes → length bytes ≤ length before
    → PutAt bytes before 0 after n → Wrote given_bytes before after n
put_wrote given_bytes bytes before after n g room p =
    wrote_all given_bytes bytes before after n g room (p.behind ∙ zero-add (length bytes)) p.places

-- Bytes were put, in so many places at most.
pub record PutMost (bytes before : List ℕ) (at : ℕ) (after : List ℕ) (stop most : ℕ) : Type 0 where
  pub put : PutAt bytes before at after stop
  pub few : stop ≤ at + most

-- put one behind the other, where there is room for all of them
module _ {x before : List ℕ} {at : ℕ} {after : List ℕ} {stop : ℕ} where
  pub put_one : {most : ℕ} → PutIf most x before at after stop → at + most ≤ length before → PutMost x before at after stop most
  put_one q room = record { put = q.room room; few = q.most room }

  pub put_next :
      {most : ℕ} {y more : List ℕ} {last : ℕ} (wanted : ℕ) → PutMost x before at after stop most → PutAt y after stop more last
      → last ≤ stop + wanted → PutMost (x ++ y) before at more last (most + wanted)
  put_next wanted p q few = record { put = put_then p.put q; few = omega (arith, p.few, few) }

  pub put_more :
      {most wanted : ℕ} {y more : List ℕ} {last : ℕ} → PutMost x before at after stop most → PutIf wanted y after stop more last
      → at + (most + wanted) ≤ length before → PutMost (x ++ y) before at more last (most + wanted)
  put_more {most} {wanted} p q room =
      let left : stop + wanted ≤ length after = omega (arith, p.few, p.put.long, room) in put_next wanted p (q.room left) (q.most left)

-- what stands behind bytes at the front is as it was
pub put_behind : (x before after : List ℕ) (n : ℕ) → PutAt x before 0 after n → n ≤ length before → drop n after ≡ drop n before
put_behind x before after n p h =
    let long : length x ≡ n = omega (arith, p.behind, zero-add (length x)) in
    ap (drop n) (p.places ∙ sets-eq x before 0 (omega (arith, long, zero-add (length x))))
    ∙ drop_at x (drop (0 + length x) before) n long
    ∙ ap (λ k. drop k before) (zero-add (length x) ∙ long)
