-- The bytes in the middle, and the places before and behind as they were.
-- Assumes nothing.
use Rattle.std.proofs.Common.{◌≡◌, ◌≤◌, ◌+◌, ◌-◌, ◌++◌, List, ℕ, length, take, drop, arith, sym, ap, ◌∙◌, append_assoc}
use Rattle.std.proofs.lemmas.List.Edits.{sets, sets-eq}
use Rattle.std.proofs.lemmas.List.{drop-drop}
use Rattle.writer.proofs.rows.put.Goals as goal

placed : (bytes out : List ℕ) (at : ℕ) → at + length bytes ≤ length out → take at out ++ (bytes ++ drop (length bytes) (drop at out)) ≡ sets out at bytes
placed bytes out at h =
    ap (λ (l : List ℕ). take at out ++ (bytes ++ l)) (drop-drop (length bytes) at out) ∙
    sym (append_assoc (take at out) bytes (drop (at + length bytes) out)) ∙
    sym (sets-eq bytes out at h)

pub returns : goal.returns
returns c =
    let a = c.args in
    let n : a.at + length a.bytes.now - a.at ≡ length a.bytes.now = omega arith in
    rw (n, c.copy_from_slice.ensures.after) (placed a.bytes.now a.out.now a.at c.requires)
