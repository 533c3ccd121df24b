-- Request 114 for bytes: every list that is accepted, every library that fits it, every accepted table of weights, every list of
-- calls. Assumes nothing.
use mathlib.Core.Path.{◌≡◌}
use mathlib.Core.List.{List}
use Prim.Native.Nat.{ℕ}
use Rattle.tasklist.specs.TaskList.{TaskList}
use Rattle.tasklist.specs.Decode.{decode, accepted}
use Rattle.tasklist.proofs.Guarantees.{accepted_list}
use Rattle.semantics.specs.Run.{context, initial}
use Rattle.semantics.specs.Call.{Call, after_all}
use Rattle.semantics.specs.Operations.{WeightsAccepted, Library}
use Rattle.model_bill.specs.Statement.{BillLaw}
use Rattle.model_bill.proofs.Theorem.{bill_holds}

pub bill_of_bytes :
    (bytes : List ℕ) (l : TaskList) → decode bytes ≡ accepted l → (weights : List ℕ) → WeightsAccepted weights
    → (memory : List ℕ) → Library (context l weights) memory → (calls : List Call)
    → BillLaw (context l weights) memory calls (after_all (context l weights) (initial (context l weights) memory) calls)
bill_of_bytes bytes l q weights ok memory lib calls =
    bill_holds (context l weights) (accepted_list bytes l q) ok memory lib calls
