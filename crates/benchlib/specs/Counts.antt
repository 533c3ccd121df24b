-- One number of what was asked for, 0 where it is refused.
use Rattle.std.specs.Prelude.{ℕ, List, length, take}
use Rattle.tasklist.specs.Decode.{decode}
use Rattle.semantics.specs.Run.{initial}
use Rattle.semantics.specs.Run as Semantics
use Rattle.semantics.specs.Call.{Call, after_all}
use Rattle.semantics.specs.Operations.{Asked, denies, gives, with_list}
use Rattle.lent.specs.Lines as Lines

-- calls accepted
unfoldable pub calls_in : Asked Semantics.Run → ℕ
calls_in (denies k) = 0
calls_in (gives r) = r.calls

-- "A job is left while the order isn't empty"
unfoldable pub left_in : Asked Semantics.Run → ℕ
left_in (denies k) = 0
left_in (gives r) = length r.order

-- "The first gets the fresh run, each later one the run as the call before it left it": these calls on what open gives
unfoldable pub replay_asked : List ℕ → List ℕ → List ℕ → List Call → Asked Semantics.Run
replay_asked bytes memory weights calls = with_list (decode bytes) memory weights (λ c. after_all c (initial c memory) calls)

-- the calls of the input's first 512 bytes
unfoldable pub lent_asked : List ℕ → List ℕ → List ℕ → List ℕ → Asked Semantics.Run
lent_asked bytes memory weights input = replay_asked bytes memory weights (Lines.calls_in (take 512 input))
