-- What holds of a run's wards and of the shares: document 02, request 114. The theorem is `BillTheorem`, proved in
-- proofs/Theorem.antt.
use Rattle.std.specs.Prelude.{ℕ, suc, ◌+◌, ◌≤◌, ◌<◌, ◌≡◌, List, [], ◌∷◌}
use Rattle.tasklist.specs.Accepted.{Accepted}
use Rattle.semantics.specs.Run.{Run, Context, task_of, initial}
use Rattle.semantics.specs.Call.{Call, after_all}
use Rattle.semantics.specs.Sequential.{sequential}
use Rattle.semantics.specs.Operations.{WeightsAccepted, Library}
use Rattle.semantics.specs.Sound.{In, limit}
use Rattle.bill_shares.specs.Shares.{whole}
use Rattle.bill_shares.specs.Statement.{Shared}
use Rattle.model_bill.specs.Bill.{wards, made_by_first, ward_weights, shares_asked}

-- numbers from `low` on, each above the one before
unfoldable pub Rising : ℕ → List ℕ → Type 0
Rising low [] = Unit {0}
Rising low (n ∷ ns) = (low ≤ n) × Rising (suc n) ns

-- Request 114, a field for each clause: of the run r that a list of calls leads to from a fresh run, refused calls included.
pub record BillLaw (c : Context) (memory : List ℕ) (calls : List Call) (r : Run) : Type 0 where
  -- "A ward is a job that job 0's spawn or fan made": exactly those
  pub made : wards c r ≡ made_by_first c (initial c memory) calls
  -- "by rising job number"; job 0 is none
  pub rising : Rising 1 (wards c r)
  -- "its block of numbers": every task made above 0 lies in a ward's block
  pub inside :
      (k : ℕ) → 1 ≤ k → ((task_of r k).state ≡ 0 → ⊥)
      → (w : ℕ) × In w (wards c r) × (w ≤ k) × (k < limit c w (task_of r w))
  -- "Job 0's own weight is not shared.": nothing else is left out
  pub all : whole (ward_weights c r) + (task_of r 0).weight ≡ r.weight
  -- "Shares total the bill, and each is less than one penny from the exact share": what `Shared` says, wherever a bill is shared
  pub shared : r.order ≡ [] → (wards c r ≡ [] → ⊥) → (bill : ℕ) → Shared bill (ward_weights c r)
  -- they are the hand run's
  pub hand : r.order ≡ [] → (bill room : ℕ) → shares_asked c r bill room ≡ shares_asked c (sequential c memory) bill room
  -- "For one list, library, table and bill, all lists of calls from a fresh run that leave no job give the same shares."
  pub same :
      (others : List Call) → r.order ≡ [] → (after_all c (initial c memory) others).order ≡ [] → (bill room : ℕ)
      → shares_asked c r bill room ≡ shares_asked c (after_all c (initial c memory) others) bill room

-- For every accepted list and table of weights (`c` holds both), every library that fits and every list of calls.
abbrev pub BillTheorem : Type 0
BillTheorem =
    (c : Context) → Accepted c.list → WeightsAccepted c.weights → (memory : List ℕ) → Library c memory
    → (calls : List Call) → BillLaw c memory calls (after_all c (initial c memory) calls)
