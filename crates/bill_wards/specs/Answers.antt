-- What sharing a bill answers: document 02, request 114.
use Rattle.std.specs.Prelude.{ℕ, ◌≤◌, Result, Ok, Err}
use Rattle.std.proofs.Common.{lit≤}
use Rattle.tasklist.specs.Answers as Listed
use Rattle.bill_wards.specs.declared.BillRefusal.{BillRefusal}
use Rattle.bill_wards.specs.declared.BillRefusal.TheVariants as Billing

-- "28 jobs left in the run; 29 no ward; then 17 for a short slice"
abbrev pub bill_refusal_number : BillRefusal → ℕ
bill_refusal_number Billing.Left = 28
bill_refusal_number Billing.NoWard = 29
bill_refusal_number Billing.Short = 17

-- none is above 29
pub bill_refusal_most : (k : BillRefusal) → bill_refusal_number k ≤ 29
bill_refusal_most Billing.Left = lit≤ tt
bill_refusal_most Billing.NoWard = lit≤ tt
bill_refusal_most Billing.Short = lit≤ tt

-- 0 where the bill is shared
abbrev pub refusal_of : Result ℕ BillRefusal → ℕ
refusal_of (Ok n) = 0
refusal_of (Err k) = bill_refusal_number k

-- "Success gives the number of wards."
abbrev pub billed : Result ℕ BillRefusal → Listed.Answer
billed (Ok n) = Listed.gives n
billed (Err k) = Listed.refuses (bill_refusal_number k)

-- how many places it names
abbrev pub named : Result ℕ BillRefusal → ℕ
named (Ok n) = n
named (Err k) = 0
