-- Laws of the closing lines. Assumes nothing.
use Rattle.std.proofs.Common.{ℕ, ◌+◌, ◌≤◌, ◌≡◌, sym, ap, ◌∙◌, List, ◌++◌, arith, length}
use Rattle.tasklist.specs.Encode.{joined}
use Rattle.arrays.specs.Places.{unended}
use Rattle.plans.specs.View.{model as parts_model}
use Rattle.runtime.specs.declared.Run.{Run}
use Rattle.runtime.specs.View.{model}
use Rattle.wording.specs.Wording.{line, totals, closing}
use Rattle.wording.specs.Promises.{given, Wrote, PutAt}
use Rattle.wording.proofs.WroteLaws.{with_room}
use Rattle.wording.proofs.PutLaws.{put_then, put_wrote}

-- the memory, then the totals
pub closed :
    (run : Run) (out out₁ out₂ : List ℕ) (at n left : ℕ) → left ≡ length (unended run.order) → 737 ≤ length out
    → PutAt (joined line (model run).memory) out 0 out₁ at → at ≤ 704 → PutAt (totals run.calls run.weight left) out₁ at out₂ n → n ≤ at + 33
    → Wrote (given 737 out (closing (model run))) out out₂ n
unfolding closing parts_model
closed run out out₁ out₂ at n left l room p few q most =
    let put = put_then p q in
    let fits : length (joined line (model run).memory ++ totals run.calls run.weight left) ≤ length out = omega (arith, put.behind) in
    put_wrote (given 737 out (closing (model run))) _ out out₂ n
    (with_room 737 out (closing (model run)) room ∙ ap (λ k. joined line (model run).memory ++ totals run.calls run.weight k) (sym l)) fits put
