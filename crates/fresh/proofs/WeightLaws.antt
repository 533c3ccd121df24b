-- A test of each number of a table. Assumes nothing.
use Rattle.std.proofs.Common.{◌≡◌, ℕ, List, ◌&&◌, refl}
use Rattle.std.specs.List.{list_all}
use Rattle.std.proofs.lemmas.List.Recursion.{same_from_clauses}
use Rattle.semantics.specs.Run.{is_weight}
use Rattle.semantics.specs.Access.{every}

pub every_is_all : (ws : List ℕ) → list_all is_weight ws ≡ every is_weight ws
unfolding every
every_is_all ws =
    same_from_clauses (list_all is_weight) (every is_weight) (λ w b. is_weight w && b) refl (λ _ _. refl) (λ _ _. refl) ws
