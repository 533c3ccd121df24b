-- Laws of the order's array: what a copy of its places by one, back or forward, makes of its first `left`. Assumes nothing.
use Rattle.std.proofs.Common.{ℕ, suc, ◌+◌, ◌-◌, ◌≤◌, ◌<◌, ◌≡◌, List, ◌∷◌, [], ◌++◌, length, take, drop, set, sym, ap, ◌∙◌, arith}
use Rattle.std.specs.List.{copy_within}
use Rattle.std.proofs.lemmas.List.{take-take, set-append_left}
use Rattle.std.proofs.lemmas.List.Edits.{take-paste}
use Rattle.std.proofs.lemmas.Slice.{between_is}
use lib.Seq.{take-suc-set, take-set-lt}
use lib.ListN.{length-take, length-drop}
use native.Mathlib.Numerals.{add-one}
use mathlib.Core.List.{append_assoc}
use Rattle.arrays.specs.Places.{insert_at, without}

pub inserted : (at left x : ℕ) (xs : List ℕ) → at ≤ left → left < length xs
    → take (left + 1) (set (copy_within xs at left (at + 1)) at x) ≡ insert_at at x (take left xs)
unfolding insert_at
inserted at left x xs h l =
    let moved = copy_within xs at left (at + 1) in
    let behind = take (left - at) (drop at xs) in
    let q : left + 1 ≡ at + 1 + (left - at) = omega arith in
    take-set-lt (left + 1) moved at x (omega arith)
    ∙ ap (λ n. set (take n moved) at x) q
    ∙ ap (λ l. set l at x) (take-paste xs (at + 1) (drop at xs) (left - at) (omega arith) (omega (arith, length-drop at xs)))
    ∙ set-append_left (take (at + 1) xs) behind at x (omega (arith, length-take (at + 1) xs))
    ∙ ap (λ l. l ++ behind) (sym (take-set-lt (at + 1) xs at x (omega arith)) ∙ (rw (add-one at) (take-suc-set xs at x (omega arith))))
    ∙ append_assoc (take at xs) (x ∷ []) behind
    ∙ ap (λ l. take at xs ++ x ∷ l) (between_is xs at left)
    ∙ ap (λ l. l ++ x ∷ drop at (take left xs)) (sym (take-take at left xs h))

pub removed : (at left : ℕ) (xs : List ℕ) → at < left → left ≤ length xs
    → take (left - 1) (copy_within xs (at + 1) left at) ≡ without at (take left xs)
unfolding without
removed at left xs h l =
    let q : left - 1 ≡ at + (left - (at + 1)) = omega arith in
    ap (λ n. take n (copy_within xs (at + 1) left at)) q
    ∙ take-paste xs at (drop (at + 1) xs) (left - (at + 1)) (omega arith) (omega (arith, length-drop (at + 1) xs))
    ∙ ap (λ l. take at xs ++ l) (between_is xs (at + 1) left ∙ ap (λ n. drop n (take left xs)) (add-one at))
    ∙ ap (λ l. l ++ drop (suc at) (take left xs)) (sym (take-take at left xs (omega arith)))
