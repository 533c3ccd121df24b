-- What is asked of a list and a library's numbers. Assumes nothing.
use Rattle.std.proofs.Common.{ℕ, ◌≡◌, refl, List}
use Rattle.tasklist.specs.Decode.{Decoded, refused, accepted, decode}
use Rattle.tasklist.proofs.Guarantees.{accepted_list}
use Rattle.semantics.specs.Operations.{denies, with_weights, with_list}
use Rattle.semantics.specs.Run.{Context, context}
use Rattle.library.specs.Library.{memory_of, fitting}
use Rattle.library.proofs.LibraryLaws.{fits_alike}

-- The code reads at most 64 numbers, and no list has more: so it is for whatever is asked of a list and its numbers.
pub asked_fitting :
    {A : Type 0} (jobs library weights : List ℕ) (f : Context → List ℕ → A)
    → with_list (decode jobs) (fitting library) weights (λ c. f c (fitting library))
    ≡ with_list (decode jobs) (memory_of library) weights (λ c. f c (memory_of library))
unfolding with_list
asked_fitting {A} jobs library weights f = by_list (decode jobs) refl
  where
    by_list :
        (d : Decoded) → decode jobs ≡ d
        → with_list d (fitting library) weights (λ c. f c (fitting library))
        ≡ with_list d (memory_of library) weights (λ c. f c (memory_of library))
    by_list (refused k) e = refl
    by_list (accepted l) e =
        let ok = accepted_list jobs l e in
        fits_alike library l.locations (λ m. with_weights weights (f (context l weights) m)) (denies 8) ok.some_location
        ok.most_locations
