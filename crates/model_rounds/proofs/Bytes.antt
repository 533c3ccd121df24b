-- Request 111 for bytes: every list that is accepted, every library that fits it, every accepted table of weights, every
-- number of workers from 1 on. Assumes nothing.
use Prim.Native.Nat.{ℕ, ◌^◌, ◌<◌, ◌≤◌}
use mathlib.Core.Path.{◌≡◌}
use mathlib.Core.List.{List}
use lib.ListN.{length, get_or}
use Rattle.tasklist.specs.TaskList.{TaskList}
use Rattle.tasklist.specs.Decode.{decode, accepted}
use Rattle.tasklist.proofs.Guarantees.{accepted_list}
use Rattle.semantics.specs.Run.{context}
use Rattle.semantics.specs.Operations.{WeightsAccepted}
use Rattle.model_rounds.specs.Statement.{RoundsLaw}
use Rattle.model_rounds.proofs.Theorem.{rounds_hold}

pub rounds_of_bytes :
    (bytes : List ℕ) (l : TaskList) → decode bytes ≡ accepted l → (weights : List ℕ) → WeightsAccepted weights
    → (memory : List ℕ) → length memory ≡ l.locations → ((a : ℕ) → get_or memory a 0 < 2 ^ 32) → (workers : ℕ) → 1 ≤ workers
    → RoundsLaw (context l weights) memory workers
rounds_of_bytes bytes l q weights ok memory fits small workers low =
    rounds_hold (context l weights) (accepted_list bytes l q) memory (record { fits = fits; small = small }) workers low
