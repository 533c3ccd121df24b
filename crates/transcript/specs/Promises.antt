-- What the functions promise: what a piece of the input comes to.
use Rattle.std.specs.Prelude.{ℕ, ◌+◌, ◌*◌, ◌/◌, ◌≤◌, ◌≡◌, List, [], ◌∷◌, ◌++◌, Bool, cond, ◌||◌, length, take, drop, ltb, Option, Some, None}
use Rattle.tasklist.specs.Encode.{joined}
use Rattle.runtime.specs.declared.Run.{Run}
use Rattle.runtime.specs.View.{model, context_of, SoundRun}
use Rattle.runtime.specs.Calls.{CallsMade}
use Rattle.lent.specs.Lines.{calls_in, lines}
use Rattle.wording.specs.Wording.{line}
use Rattle.wording.specs.Promises.{Wrote}
use Rattle.transcript.specs.declared.Fed.{Fed}

-- The calls that are whole in these bytes, and the byte left over, if there is one.
unfoldable pub whole_of : List ℕ → List ℕ
whole_of [] = []
whole_of (kind ∷ []) = []
whole_of (kind ∷ n ∷ input) = kind ∷ n ∷ whole_of input

unfoldable pub half_of : List ℕ → List ℕ
half_of [] = []
half_of (kind ∷ []) = kind ∷ []
half_of (kind ∷ n ∷ input) = half_of input

-- the byte that waits, as bytes
unfoldable pub pending_bytes : Option ℕ → List ℕ
pending_bytes None = []
pending_bytes (Some k) = k ∷ []

-- a piece of more than 511 bytes, or not 4 places for each call that could be in it
unfoldable pub exceeds : ℕ → ℕ → Bool
exceeds piece out = ltb 511 piece || ltb out (4 * (piece / 2 + 1))

-- how many bytes of a piece are used: none where it exceeds, else all
unfoldable pub used_of : List ℕ → List ℕ → ℕ
used_of piece out = cond (exceeds (length piece) (length out)) 0 (length piece)

-- The calls that are whole in these bytes were made on the run `from`, and their lines written at the front. A last odd byte
-- waits: it is no half call.
pub record FedWith (from : Run) (bytes before after : List ℕ) (r : Fed) : Type 0 where
  pub made : CallsMade (calls_in bytes) from r.run
  pub lines : SoundRun from → Wrote (joined line (lines (context_of from) (model from) (whole_of bytes))) before after r.wrote
  pub pending : pending_bytes r.pending ≡ half_of bytes
  -- of every run
  pub rest : drop r.wrote after ≡ drop r.wrote before
  pub long : length after ≡ length before
  pub within : r.wrote ≤ length after
  pub whole : r.wrote ≡ length (take r.wrote after)

-- a piece of the input behind the byte that waited
pub record FedAs (from : Run) (pending : Option ℕ) (piece before after : List ℕ) (r : Fed) : Type 0 where
  pub used : r.used ≡ used_of piece before
  pub fed : FedWith from (pending_bytes pending ++ take r.used piece) before after r
