-- What a quotient of the code says in the model's terms.
use Rattle.std.specs.Prelude.{◌≡◌, ℕ, Result, Ok, Err}
use Rattle.semantics.specs.declared.Fault.{Fault}
use Rattle.semantics.specs.Answers.{fault_number}
use Rattle.semantics.specs.Rounding.{rounded}
use Rattle.semantics.specs.Plan.{quotient_fault}

-- n / d: its fault, or its rounded value where there is none
abbrev pub QuotientIs : ℕ → ℕ → Result ℕ Fault → Type 0
QuotientIs n d (Err k) = quotient_fault n d ≡ fault_number k
QuotientIs n d (Ok v) = (quotient_fault n d ≡ 0) × (rounded n d ≡ v)
