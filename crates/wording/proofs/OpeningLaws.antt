-- Laws of opening by the bytes of the two files. Assumes nothing.
use Rattle.std.proofs.Common.{ℕ, ◌≤◌, ◌≡◌, ap, subst, ◌∙◌, List, [], ◌∷◌, arith, length}
use Rattle.std.specs.Prelude.{Result}
use Rattle.tasklist.specs.declared.Refusal.{Refusal}
use Rattle.tasklist.specs.declared.Refusal.TheVariants.{Incomplete, Tag, Head, Footprint, Body, Leftover, Tasks}
use Rattle.tasklist.specs.Decode.{decode}
use Rattle.tasklist.specs.Answers as Listed
use Rattle.library.specs.Library.{memory_of, fitting}
use Rattle.library.proofs.AskedLaws.{asked_fitting}
use Rattle.semantics.specs.Operations.{with_list, open_asked}
use Rattle.semantics.specs.Run.{Context, context, initial}
use Rattle.semantics.specs.Run as Semantics
use Rattle.runtime.specs.declared.Run.{Run}
use Rattle.runtime.specs.declared.OpenRefusal.{OpenRefusal}
use Rattle.runtime.specs.declared.OpenRefusal.TheVariants as Opening
use Rattle.runtime.specs.Asked.{open_number, OpenedAs}
use Rattle.wording.specs.Wording.{line, refused_line}
use Rattle.wording.specs.Promises.{PutAt}
use Rattle.wording.proofs.DigitLaws.{line_most}
use Rattle.wording.proofs.PutLaws.{put_then}

-- what is opened by the numbers that were read, under the weights of today
pub asked_by :
    (f : Context → List ℕ → Semantics.Run) (jobs library memory weights today : List ℕ) (o : Result Run OpenRefusal) → memory ≡ fitting library
    → weights ≡ today → OpenedAs jobs weights (with_list (decode jobs) memory weights (λ c. f c memory)) o
    → OpenedAs jobs today (with_list (decode jobs) (memory_of library) today (λ c. f c (memory_of library))) o
asked_by f jobs library memory weights today o e w h =
    subst (λ a. OpenedAs jobs today a o)
    (ap (λ m. with_list (decode jobs) m today (λ c. f c m)) e ∙ asked_fitting jobs library today f)
    (subst (λ ws. OpenedAs jobs ws (with_list (decode jobs) memory ws (λ c. f c memory)) o) w h)

pub opened_by :
    (jobs library memory weights today : List ℕ) (o : Result Run OpenRefusal) → memory ≡ fitting library → weights ≡ today
    → OpenedAs jobs weights (open_asked jobs memory weights) o → OpenedAs jobs today (open_asked jobs (memory_of library) today) o
unfolding open_asked
opened_by jobs library memory weights today o e w h =
    asked_by (λ c m. initial c m) jobs library memory weights today o e w h

-- a refusal is at most 22
refusal_most : (k : Refusal) → Listed.refusal_number k ≤ 22
refusal_most Incomplete = omega arith
refusal_most Tag = omega arith
refusal_most Head = omega arith
refusal_most Footprint = omega arith
refusal_most Body = omega arith
refusal_most Leftover = omega arith
refusal_most Tasks = omega arith

pub open_most : (k : OpenRefusal) → open_number k ≤ 22
unfolding open_number
open_most (Opening.List k) = refusal_most k
open_most Opening.Length = omega arith
open_most Opening.Table = omega arith
open_most Opening.Weight = omega arith

pub refused_length : (n : ℕ) → n ≤ 22 → length (refused_line n) ≤ 11
unfolding refused_line
refused_length n h = omega (arith, line_most n h)

-- the word, then the number
pub put_refused :
    {out out₁ out₂ : List ℕ} {at stop : ℕ} (n : ℕ) → PutAt (114 ∷ 101 ∷ 102 ∷ 117 ∷ 115 ∷ 101 ∷ 100 ∷ 32 ∷ []) out 0 out₁ at
    → PutAt (line n) out₁ at out₂ stop → PutAt (refused_line n) out 0 out₂ stop
unfolding refused_line
put_refused n a b = put_then a b
