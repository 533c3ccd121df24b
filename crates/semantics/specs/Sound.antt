-- What holds of every run that calls lead to from an initial one (proved in proofs/Sound.antt), for the layer above. The
-- guarantee is stated without it.
use Rattle.std.specs.Prelude.{ℕ, ◌+◌, ◌*◌, ◌^◌, ◌≤◌, ◌<◌, ◌≡◌, List, [], ◌∷◌, ◌⊎◌, length, get_or}
use Rattle.tasklist.specs.TaskList.{body_of, total, task_count}
use Rattle.semantics.specs.Run.{Task, Run, Context, never, weight_places, weight_of, task_of}
use Rattle.semantics.specs.Plan.{child_number}

-- membership
abbrev pub In : {A : Type 0} → A → List A → Type 0
In a [] = ⊥
In a (b ∷ l) = (a ≡ b) ⊎ In a l

abbrev pub Distinct : List ℕ → Type 0
Distinct [] = Unit {0}
Distinct (k ∷ ks) = (In k ks → ⊥) × Distinct ks

-- Task n and all that come of it have the numbers from n up to here.
abbrev pub limit : Context → ℕ → Task → ℕ
limit c n t = n + task_count c.list t.body

-- k is still to be given out by task n of record t
abbrev pub Future : Context → ℕ → Task → ℕ → Type 0
Future c n t k = (child_number c n t ≤ k) × (k < limit c n t)

-- What carries the guarantee: each unended task has numbers still to be given out, all of them blank, and no two tasks
-- share one.
pub record Valid (c : Context) (r : Run) : Type 0 where
  pub size : length r.tasks ≡ 128
  pub distinct : Distinct r.order
  pub active : (n : ℕ) → In n r.order → ((task_of r n).state ≡ 1) ⊎ ((task_of r n).state ≡ 2)
  pub block : (n : ℕ) → In n r.order → limit c n (task_of r n) ≤ 128
  pub blank : (n k : ℕ) → In n r.order → Future c n (task_of r n) k → task_of r k ≡ never
  pub owner :
      (n m k : ℕ) → In n r.order → In m r.order → Future c n (task_of r n) k → Future c m (task_of r m) k → n ≡ m

-- modes of a list with C locations
pub record ModesSound (locations : ℕ) (ms : List ℕ) : Type 0 where
  pub size : length ms ≡ 64
  pub most : (a : ℕ) → get_or ms a 0 ≤ 3
  pub beyond : (a : ℕ) → locations ≤ a → get_or ms a 0 ≡ 0

pub record RegistersSound (rs : List ℕ) : Type 0 where
  pub size : length rs ≡ 4
  pub small : (a : ℕ) → get_or rs a 0 < 2 ^ 32

pub record TaskSound (c : Context) (t : Task) : Type 0 where
  pub state : t.state ≤ 3
  pub body : t.body < length c.list.bodies
  pub pc : t.pc ≤ length (body_of c.list t.body)
  pub registers : RegistersSound t.registers
  pub modes : ModesSound c.list.locations t.modes
  pub steps : t.steps ≤ 32
  pub early : t.fault ≡ 0 → t.steps ≤ t.pc
  pub fault : t.fault ≤ 5
  pub blank : t.state ≡ 0 → t ≡ never

-- how many calls of a task were accepted: none while it waits, then its start, its steps and its end
unfoldable pub rank : Task → ℕ
rank t = get_or (0 ∷ 0 ∷ 1 ∷ 2 ∷ []) t.state 0 + t.steps

-- a task's weight
abbrev pub weighs : Task → ℕ
weighs t = t.weight

-- Request 105: "22 a number not in 1 to 1000". No number of the table is below 1.
abbrev pub Weighty : Context → Type 0
Weighty c = (place : ℕ) → place < weight_places → 1 ≤ weight_of c place

-- With no call of a weight above `most`: every counter fits 32 bits where most * 4352 does.
pub record Sound (c : Context) (most : ℕ) (r : Run) : Type 0 where
  pub valid : Valid c r
  pub tasks : (n : ℕ) → TaskSound c (task_of r n)
  -- "the order: unended jobs"
  pub unended : (n : ℕ) → ((task_of r n).state ≡ 1) ⊎ ((task_of r n).state ≡ 2) → In n r.order
  pub locations : length r.memory ≡ c.list.locations
  pub small : (a : ℕ) → get_or r.memory a 0 < 2 ^ 32
  pub ranks : total rank r.tasks ≡ r.calls
  pub weight : r.weight ≤ most * r.calls
  pub weights : (n : ℕ) → (task_of r n).weight ≤ most * r.calls
  -- the weights of all records together are the run's
  pub weighed : total weighs r.tasks ≡ r.weight
  -- no accepted call weighs 0: a task weighs at least its calls
  pub earned : Weighty c → (n : ℕ) → rank (task_of r n) ≤ (task_of r n).weight
