-- What the functions promise of the code's run. `BilledAs` and `WardsOf` are what a host reads.
use Rattle.std.specs.Prelude.{◌≡◌, ℕ, suc, ◌-◌, ◌<◌, ◌≤◌, List, ◌++◌, map, length, take, drop, replicate, Result}
use Rattle.semantics.specs.Operations.{Asked}
use Rattle.runtime.specs.declared.Run.{Run}
use Rattle.runtime.specs.View.{model, context_of, SoundRun}
use Rattle.runtime.specs.Asked.{queue_answer, queue_out}
use Rattle.model_bill.specs.Bill.{wards_from, wards, ward_weight, ward_weights, shares_asked}
use Rattle.bill_wards.specs.declared.BillRefusal.{BillRefusal}
use Rattle.bill_wards.specs.declared.Wards.{Wards}
use Rattle.bill_wards.specs.declared.Walk.{Walk}
use Rattle.bill_wards.specs.Answers.{billed, named}

-- the lent places before and after, and the answer: "The shares go into a lent slice of 32-bit places"
pub record AskedAs (asked : Asked (List ℕ)) (before after : List ℕ) (r : Result ℕ BillRefusal) : Type 0 where
  pub answer : billed r ≡ queue_answer asked
  pub places : after ≡ queue_out asked before

pub record BilledAs (run : Run) (bill : ℕ) (before after : List ℕ) (r : Result ℕ BillRefusal) : Type 0 where
  -- of every run that came from open, the hand run or calls
  pub asked : SoundRun run → AskedAs (shares_asked (context_of run) (model run) bill (length before)) before after r
  -- of any other too: no place but those named is written, and a refusal writes none
  pub others : drop (named r) after ≡ drop (named r) before
  pub within : named r ≤ length before

pub record WardsOf (run : Run) (r : Wards) : Type 0 where
  -- the arrays are whole
  pub numbered : length r.numbers ≡ 128
  pub weighted : length r.weights ≡ 128
  -- job 0 is none
  pub few : r.count ≤ 127
  -- zeros behind
  pub numbers_behind : drop r.count r.numbers ≡ replicate (128 - r.count) 0
  pub weights_behind : drop r.count r.weights ≡ replicate (128 - r.count) 0
  -- of every run that came from open, the hand run or calls
  pub numbers : SoundRun run → take r.count r.numbers ≡ wards (context_of run) (model run)
  pub weights : SoundRun run → take r.count r.weights ≡ ward_weights (context_of run) (model run)

-- a walk that has come to number n: the arrays are whole, zeros behind, with room for each number
pub record Room (w : Walk) (n : ℕ) : Type 0 where
  pub numbered : length w.found.numbers ≡ 128
  pub weighted : length w.found.weights ≡ 128
  pub few : w.found.count < n
  pub numbers_behind : drop w.found.count w.found.numbers ≡ replicate (128 - w.found.count) 0
  pub weights_behind : drop w.found.count w.found.weights ≡ replicate (128 - w.found.count) 0

-- the wards found, then those that the tasks from number n on give
abbrev pub with_later : Run → Walk → ℕ → List ℕ
with_later run w n =
    take w.found.count w.found.numbers
    ++ wards_from (context_of run) (w.until - n) n (drop n (model run).tasks)

-- each ward found has its weight beside it
abbrev pub Weighed : Run → Wards → Type 0
Weighed run w =
    take w.count w.weights ≡ map (ward_weight (context_of run) (model run)) (take w.count w.numbers)

-- one number on
pub record Turned (run : Run) (w : Walk) (n : ℕ) (r : Walk) : Type 0 where
  pub room : Room r (suc n)
  pub numbers : SoundRun run → with_later run r (suc n) ≡ with_later run w n
  pub weights : SoundRun run → Weighed run w.found → Weighed run r.found
