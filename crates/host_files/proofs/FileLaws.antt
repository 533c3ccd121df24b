-- What was read is what the reader gave. Assumes nothing.
use Rattle.std.proofs.Common.{ℕ, ◌≡◌, ◌≤◌, ◌+◌, ◌-◌, ◌++◌, ◌∙◌, List, length, take, drop, sym, ap, subst, le_refl, drop_at}
use Rattle.std.specs.Prelude.{Option}
use Rattle.std.specs.Io.KnownBytes.{Consumes}
use Rattle.std.proofs.KnownBytes.{Consumes-trans}
use Rattle.std.proofs.lemmas.Slice.{take-put_mid_below}
use borrow.Rule.Slice.PartMut.{put_mid, post_of}
use lib.Seq.{take-add, take-append-le, length-take-le}

-- one more read: behind what was read before stands what it gave
pub read_on :
    (a b c : Option (List ℕ)) (done n : ℕ) (buf part : List ℕ) → done ≤ length buf → n ≤ length part → Consumes a b (take done buf)
    → Consumes b c (take n part) → Consumes a c (take (done + n) (put_mid done (length buf - done) buf part))
read_on a b c done n buf part within fits before given =
    let room = length buf - done in
    let all = put_mid done room buf part in
    let front : take done all ≡ take done buf = take-put_mid_below _ _ _ _ _ (le_refl _) within in
    let behind : drop done all ≡ part ++ post_of done room buf =
    drop_at (take done buf) (part ++ post_of done room buf) done (length-take-le done buf within) in
    let given_part : take n (drop done all) ≡ take n part =
    ap (take n) behind ∙ take-append-le n part (post_of done room buf) fits in
    let joined : take (done + n) all ≡ take done buf ++ take n part =
    take-add done n all ∙ ap (λ l. l ++ take n (drop done all)) front ∙ ap (λ l. take done buf ++ l) given_part in
    subst (Consumes a c) (sym joined) (Consumes-trans a b c _ _ before given)
