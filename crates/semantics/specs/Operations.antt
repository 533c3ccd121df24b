-- What else is asked: to open a run, to run a list by hand, one task's record, a location's queue, a search. Document 01, "Calls" and
-- "Refused, by operation".
use Rattle.std.specs.Prelude.{ℕ, ◌+◌, ◌*◌, ◌^◌, ◌<◌, ◌≡◌, List, map, true, cond, length, get_or, leb, ltb, eqb}
use Rattle.tasklist.specs.Decode.{Decoded, refused, accepted, decode}
use Rattle.semantics.specs.Run.{Task, Run, Context, context, weight_places, is_weight, mode_of, task_of, initial}
use Rattle.semantics.specs.Access.{Access, every, queue}
use Rattle.semantics.specs.Call.{among}
use Rattle.semantics.specs.Search.{Found, search}
use Rattle.semantics.specs.Sequential.{sequential}

-- A refusal's number, or what was asked for.
pub data Asked (A : Type 0) : Type 0 where
  denies : ℕ → Asked A
  gives : A → Asked A

-- Request 105: "21 wrong length, 22 a number not in 1 to 1000"; the table "is checked before use"
unfoldable pub with_weights : {A : Type 0} → List ℕ → A → Asked A
with_weights weights a =
    cond (eqb (length weights) weight_places) (cond (every is_weight weights) (gives a) (denies 22)) (denies 21)

-- the tables that it lets through
pub record WeightsAccepted (weights : List ℕ) : Type 0 where
  pub size : length weights ≡ weight_places
  pub each : every is_weight weights ≡ true

-- the libraries that go with a list: "library length not C" doesn't apply, and each number has 32 bits
pub record Library (c : Context) (memory : List ℕ) : Type 0 where
  pub fits : length memory ≡ c.list.locations
  pub small : (a : ℕ) → get_or memory a 0 < 2 ^ 32

-- "Open and hand run: as check, then 8, library length not C."; request 105: "After 8"
unfoldable pub with_list : {A : Type 0} → Decoded → List ℕ → List ℕ → (Context → A) → Asked A
with_list (refused k) memory weights f = denies k
with_list (accepted l) memory weights f =
    cond (eqb (length memory) l.locations) (with_weights weights (f (context l weights))) (denies 8)

-- "A fresh run is what open gives when it accepts"
unfoldable pub open_asked : List ℕ → List ℕ → List ℕ → Asked Run
open_asked bytes memory weights = with_list (decode bytes) memory weights (λ c. initial c memory)

-- "The hand run takes what open takes"
unfoldable pub sequential_asked : List ℕ → List ℕ → List ℕ → Asked Run
sequential_asked bytes memory weights = with_list (decode bytes) memory weights (λ c. sequential c memory)

-- "Record gives one job's record."; "Record: 9."
unfoldable pub record_asked : Run → ℕ → Asked Task
record_asked r n = cond (ltb n 128) (gives (task_of r n)) (denies 9)

-- "Queue writes, per job from the front, number + 256 × mode into 16-bit places."
unfoldable pub queue_places : Run → ℕ → List ℕ
queue_places r a = map (λ k. k + 256 * mode_of (task_of r k) a) (queue r a)

-- "Queue: 16 entry not below C; 17 lent slice too short": what is written into a slice of `room` places
unfoldable pub queue_asked : Context → Run → ℕ → ℕ → Asked (List ℕ)
queue_asked c r a room =
    let places = queue_places r a in
    cond (ltb a c.list.locations) (cond (leb (length places) room) (gives places) (denies 17)) (denies 16)

-- Request 103: what the search of task n for these accesses finds; 9 and 10 as for the calls
unfoldable pub search_asked : Run → ℕ → List Access → Asked Found
search_asked r n gs = cond (ltb n 128) (cond (among n r.order) (gives (search r n gs)) (denies 10)) (denies 9)
