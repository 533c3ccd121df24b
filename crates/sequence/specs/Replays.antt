-- What replay and the sequential run promise: document 01, "Calls", and demand 3.
use Rattle.std.specs.Prelude.{◌≡◌, ℕ, List, [], ◌∷◌, ◌++◌, Result, IsOkAnd}
use Rattle.tasklist.specs.Decode.{decode, accepted}
use Rattle.tasklist.specs.Tables.{list_of}
use Rattle.semantics.specs.Run.{initial}
use Rattle.semantics.specs.Run as Semantics
use Rattle.semantics.specs.Call.{Call, after_all}
use Rattle.semantics.specs.Sequential.{run_whole}
use Rattle.semantics.specs.Operations.{Asked, denies, gives}
use Rattle.semantics.proofs.Guarantee.{Guarantee}
use Rattle.runtime.specs.declared.Run.{Run}
use Rattle.runtime.specs.declared.OpenRefusal.{OpenRefusal}
use Rattle.runtime.specs.View.{model, context_of, SoundRun}
use Rattle.runtime.specs.Calls.{calls_of_kind}
use Rattle.runtime.specs.Asked.{Unopened}

-- the calls of these kinds on these tasks, as many as the shorter list has
unfoldable pub calls_of : List ℕ → List ℕ → List Call
calls_of [] tasks = []
calls_of (k ∷ kinds) [] = []
calls_of (k ∷ kinds) (n ∷ tasks) = calls_of_kind k n ++ calls_of kinds tasks

-- Demand 3, of the run that the code hands back: the list is the accepted one, the weights are those lent, the run is the one
-- after these calls from the fresh run, and the six parts hold of it.
pub record Replayed (bytes memory weights : List ℕ) (calls : List Call) (r : Run) : Type 0 where
  pub list : decode bytes ≡ accepted (list_of r.tables)
  pub table : r.weights ≡ weights
  pub run : model r ≡ after_all (context_of r) (initial (context_of r) memory) calls
  pub guarantee : Guarantee (context_of r) memory calls (model r)
  pub sound : SoundRun r

-- "where open refuses, that refusal"; else demand 3
abbrev pub ReplayedAs : List ℕ → List ℕ → List ℕ → List Call → Asked Semantics.Run → Result Run OpenRefusal → Type 0
ReplayedAs bytes memory weights calls (denies k) r = Unopened k r
ReplayedAs bytes memory weights calls (gives fresh) r = IsOkAnd r (Replayed bytes memory weights calls)

-- "A job is run whole": task n of the run `from`, with so many bodies left
pub record RunWhole (bodies n : ℕ) (from r : Run) : Type 0 where
  pub list : r.tables ≡ from.tables
  pub weights : r.weights ≡ from.weights
  pub run : SoundRun from → model r ≡ run_whole (context_of from) bodies n (model from)
  pub sound : SoundRun from → SoundRun r
