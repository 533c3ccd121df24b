-- Demand 3 and request 109 for bytes: every list that is accepted, every memory that fits it, every accepted table of weights,
-- every list of calls. Assumes nothing.
use Prim.Native.Nat.{ℕ, ◌≤◌}
use mathlib.Core.Path.{◌≡◌, sym, ◌∙◌}
use mathlib.Core.List.{List}
use lib.ListN.{length}
use Rattle.tasklist.specs.TaskList.{TaskList}
use Rattle.tasklist.specs.Decode.{decode, accepted}
use Rattle.tasklist.proofs.Guarantees.{accepted_list}
use Rattle.semantics.specs.Run.{context, initial}
use Rattle.semantics.specs.Call.{Call, after_all}
use Rattle.semantics.specs.Isolation.{Lone, block_end, inside, AlikeAt, Isolated}
use Rattle.semantics.specs.Operations.{WeightsAccepted}
use Rattle.semantics.proofs.Guarantee.{Guarantee, guarantee}
use Rattle.semantics.proofs.Trace.{Traced, traced}
use Rattle.semantics.proofs.Isolation.{isolation}

-- "Runs and their hand runs are compared under one table."
module _ (bytes : List ℕ) (l : TaskList) (q : decode bytes ≡ accepted l) (weights : List ℕ) (ok : WeightsAccepted weights) where
  pub guarantee_of_bytes :
      (memory : List ℕ) → length memory ≡ l.locations → (calls : List Call)
      → Guarantee (context l weights) memory calls (after_all (context l weights) (initial (context l weights) memory) calls)
  guarantee_of_bytes memory fits calls = guarantee (context l weights) (accepted_list bytes l q) memory calls

  pub traced_of_bytes : (memory : List ℕ) → Traced (context l weights) memory
  traced_of_bytes memory = traced (context l weights) (accepted_list bytes l q) memory

  -- "its block ending at 127 or below", "over entries alike inside that footprint"
  pub isolation_of_bytes :
      (j : Lone) → block_end (context l weights) j ≤ 128 → (m m' : List ℕ) → length m ≡ l.locations
      → length m' ≡ l.locations → AlikeAt (inside j) m m' → Isolated (context l weights) j m m'
  isolation_of_bytes j fits m m' size size' alike =
      isolation (context l weights) j m m'
      (record { accepted = accepted_list bytes l q; block = fits; sizes = size ∙ sym size'; alike = alike })
