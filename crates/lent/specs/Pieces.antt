-- What the lender promises of a piece of input.
use Rattle.std.specs.Prelude.{ℕ, ◌≡◌, List, take}
use Rattle.runtime.specs.declared.Run.{Run}
use Rattle.runtime.specs.View.{model, context_of, SoundRun}
use Rattle.runtime.specs.Calls.{CallsMade}
use Rattle.lent.specs.declared.Lent.{Lent}
use Rattle.lent.specs.Lines.{calls_in, lines}

-- the numbers answered
abbrev pub said : Lent → List ℕ
said r = take r.calls r.answers

-- the calls of the first 512 bytes of an input
pub record LentOf (input : List ℕ) (from : Run) (r : Lent) : Type 0 where
  pub made : CallsMade (calls_in (take 512 input)) from r.run
  pub lines : SoundRun from → said r ≡ lines (context_of from) (model from) (take 512 input)
