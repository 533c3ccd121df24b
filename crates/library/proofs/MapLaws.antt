-- An array whose elements were mapped. Assumes nothing.
use Rattle.std.proofs.Common.{ℕ, ◌≡◌, sym, ◌∙◌, List, map, length, arith}
use Rattle.std.specs.Array.{IsMapOf}
use Rattle.std.specs.Fn.{Called, Mut}
use Rattle.std.proofs.lemmas.List.{same_lists, get_or-map, length-map}

-- by a function that gives v of each
pub mapped :
    {F A B : Type 0} (g : Mut F (A × Unit {0}) B) (f : F) (v : A → B) (d : A) (xs : List A) (ys : List B) (n : ℕ) → IsMapOf g f xs ys n
    → length xs ≡ n → ((p q : F) (x : A) (y : B) → Called g p (x, tt) y q → y ≡ v x) → ys ≡ map v xs
mapped g f v d xs ys n m long each =
    same_lists ys (map v xs) (m.long ∙ sym long ∙ sym (length-map xs v))
    (λ k e h.
    let called = m.at k d e (omega (arith, m.long)) in
    each _ _ _ _ called.2 ∙ sym (get_or-map v xs k d e (omega (arith, m.long, long))))
