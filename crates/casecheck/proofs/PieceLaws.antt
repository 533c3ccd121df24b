-- What is known of an outlet, and of the bytes that are gathered behind it. Assumes nothing.
use Rattle.std.proofs.Common.{ℕ, ◌+◌, ◌≡◌, ◌≤◌, ap, sym, ◌∙◌, List, ◌++◌, append_assoc, length, take, arith}
use Rattle.std.specs.Prelude.{Option, None, Some}
use Rattle.std.specs.Io.KnownBytes.{Appends, append_known}
use borrow.Rule.Slice.PartMut.{put_mid, post_of}
use Rattle.std.proofs.lemmas.List.{take_at}
use lib.ListN.{length-append}
use lib.Seq.{length-take-le}

-- bytes were put behind those at the front
pub put_behind :
    (before part given : List ℕ) (filled n k : ℕ) → filled ≤ length before → part ≡ given → length given ≡ n
    → take (filled + n) (put_mid filled k before part) ≡ take filled before ++ given
put_behind before part given filled n k fits was size =
    let front : List ℕ = take filled before in
    let long : length (front ++ given) ≡ filled + n =
    omega (arith, length-append front given, length-take-le filled before fits) in
    ap (λ l. take (filled + n) (put_mid filled k before l)) was
    ∙ ap (take (filled + n)) (sym (append_assoc front given (post_of filled k before)))
    ∙ take_at (front ++ given) (post_of filled k before) (filled + n) long

-- bytes were gathered
pub gathered_more :
    (known : Option (List ℕ)) (before given after : List ℕ) → after ≡ before ++ given → Appends (append_known known before) (append_known known after) given
gathered_more None before given after e = tt
gathered_more (Some out) before given after e = ap (λ l. out ++ l) e ∙ sym (append_assoc out before given)

-- a piece was put out first
pub put_first :
    (old new : Option (List ℕ)) (piece given after : List ℕ) → Appends old new piece → after ≡ given
    → Appends (append_known old piece) (append_known new after) given
put_first None new piece given after out e = tt
put_first (Some o) None piece given after out e = absurd out
put_first (Some o) (Some n) piece given after out e = ap (λ l. l ++ after) out ∙ ap (λ l. (o ++ piece) ++ l) e
