-- What is read of a run, and one number of the walk over its records. Assumes nothing.
use Rattle.std.proofs.Common.{◌≡◌, ℕ, suc, ◌+◌, ◌-◌, ◌%◌, ◌^◌, ◌<◌, ◌≤◌, List, [], ◌∷◌, ◌++◌, map, length, take, drop, set, replicate, sym, refl, ap, ◌∙◌, append_assoc, append-nil, add-one, arith, length-drop, length-set, drop_of_length-le, drop-drop, take-suc-set, drop-set-lt, Bool, true, false, cond, ltb}
use native.Mathlib.Decide.{dec_lt}
use borrow.Author.Tests.{ltb-true, ltb-false}
use mathlib.Core.List.{map-append}
use mathlib.Core.Bool.{false≢true}
use Rattle.tasklist.specs.TaskList.{total, task_count}
use Rattle.tasklist.specs.Tables.{capped}
use Rattle.std.specs.Prelude.{Result, Ok, Err, MatchResult}
use Rattle.semantics.specs.declared.CallRefusal.{CallRefusal}
use Rattle.semantics.specs.Run.{Task, task_of}
use Rattle.semantics.specs.Answers.{task_from}
use Rattle.semantics.specs.Operations.{denies, gives, record_asked}
use Rattle.semantics.specs.Sound.{weighs}
use Rattle.plans.specs.View.{model as parts_model}
use Rattle.plans.proofs.ViewLaws.{tasks_length}
use Rattle.runtime.specs.declared.Run.{Run}
use Rattle.runtime.specs.declared.Recorded.{Recorded}
use Rattle.runtime.specs.View.{model, context_of, SoundRun}
use Rattle.runtime.specs.Asked.{recorded}
use Rattle.model_bill.specs.Bill.{wards_from, wards, ward_weight, ward_weights}
use Rattle.model_bill.proofs.Given.{is_given, given_or}
use Rattle.model_bill.proofs.Walk.{walk_inside, walk_blank, walk_ward}
use Rattle.bill_wards.specs.declared.Walk.{Walk}
use Rattle.bill_wards.specs.Promises.{Room, with_later, Weighed, Turned, WardsOf}
use Rattle.bill_wards.proofs.BlockLaws.{weighs_one, weighs_none, wards_capped, ward_weight_is}

-- what is told of task n: its record where n is below 128, else nothing
module _ (run : Run) (n m : ℕ) (same : m ≡ n) where
  asked_by : (b : Bool) → ltb n 128 ≡ b → record_asked (model run) m ≡ cond b (gives (task_of (model run) n)) (denies 9)
  unfolding record_asked
  asked_by b q = ap (record_asked (model run)) same ∙ ap (λ b. cond b (gives (task_of (model run) n)) (denies 9)) q

  pub told_of :
      (told : Recorded) → recorded (Ok told) ≡ record_asked (model run) m → (n < 128) × (task_from told.task told.modes ≡ task_of (model run) n)
  unfolding recorded
  told_of told e = by_test (ltb n 128) refl
    where
      by_test : (b : Bool) → ltb n 128 ≡ b → (n < 128) × (task_from told.task told.modes ≡ task_of (model run) n)
      by_test true q = (ltb-true n 128 q, ap (given_or (task_from told.task told.modes)) (e ∙ asked_by true q))
      by_test false q = absurd (false≢true (sym (ap is_given (e ∙ asked_by false q))))

  pub not_told : (k : CallRefusal) → recorded (Err k) ≡ record_asked (model run) m → 127 < n
  unfolding recorded
  not_told k e = by_test (ltb n 128) refl
    where
      by_test : (b : Bool) → ltb n 128 ≡ b → 127 < n
      by_test true q = absurd (false≢true (ap is_given (e ∙ asked_by true q)))
      by_test false q = omega (arith, ltb-false n 128 q)

pub tasks_whole : (run : Run) → length run.records ≡ 128 → length (model run).tasks ≡ 128
unfolding parts_model
tasks_whole run whole = tasks_length 0 run.records run.modes ∙ whole

-- the weight told of task n, or 0
pub weight_told :
    (run : Run) (n : ℕ) → length run.records ≡ 128 → (r : Result Recorded CallRefusal) → recorded r ≡ record_asked (model run) n → (x : ℕ)
    → MatchResult r (λ told. x ≡ told.task.weight) (λ _. x ≡ 0) → x ≡ total weighs (take 1 (drop n (model run).tasks))
weight_told run n whole (Ok told) e x q =
    let t = told_of run n n refl told e in
    q ∙ ap (λ t. t.weight) t.1 ∙ weighs_one (model run).tasks n (omega (arith, tasks_whole run whole, t.0))
weight_told run n whole (Err k) e x q =
    q ∙ weighs_none (model run).tasks n (omega (arith, tasks_whole run whole, not_told run n n refl k e))

-- a place less of zeros behind
one_fewer :
    (l : List ℕ) (x k : ℕ) → k < 128 → drop k l ≡ replicate (128 - k) 0
    → drop (k + 1) (set l k x) ≡ replicate (128 - (k + 1)) 0
one_fewer l x k h behind =
    let next : 128 - k ≡ suc (128 - (k + 1)) = omega arith in
    drop-set-lt (k + 1) l k x (omega arith)
    ∙ sym (drop-drop 1 k l)
    ∙ ap (drop 1) (behind ∙ ap (λ i. replicate i 0) next)

-- one number of the walk
module _ (run : Run) (w : Walk) (n : ℕ) (room : Room w n) where
  stays : Room w (suc n)
  stays =
      record {
        numbered = room.numbered;
        weighted = room.weighted;
        few = omega (arith, room.few);
        numbers_behind = room.numbers_behind;
        weights_behind = room.weights_behind;
      }

  abbrev numbers_found : List ℕ
  numbers_found = take w.found.count w.found.numbers

  abbrev weights_found : List ℕ
  weights_found = take w.found.count w.found.weights

  unchanged :
      (SoundRun run
      → wards_from (context_of run) (w.until - suc n) (suc n) (drop (suc n) (model run).tasks)
      ≡ wards_from (context_of run) (w.until - n) n (drop n (model run).tasks))
      → Turned run w n w
  unchanged h = record { room = stays; numbers = λ s. ap (λ l. numbers_found ++ l) (h s); weights = λ s q. q }

  -- behind the last number no task is left
  pub turned_beyond : 127 < n → Turned run w n w
  unfolding wards_from
  turned_beyond h =
      unchanged
      (λ s.
      let none : (k : ℕ) → 127 < k → drop k (model run).tasks ≡ [] = λ k l. drop_of_length-le (model run).tasks {i = k} (omega (arith, tasks_whole run s.records)) in
      ap (wards_from (context_of run) (w.until - suc n) (suc n)) (none (suc n) (omega arith)) ∙ sym (ap (wards_from (context_of run) (w.until - n) n) (none n h)))

  inside : n < 128 → SoundRun run → n < length (model run).tasks
  inside below s = omega (arith, tasks_whole run s.records)

  pub turned_inside : n < w.until → Turned run w n w
  turned_inside h = by_number (dec_lt n 128)
    where
      by_number : Dec (n < 128) → Turned run w n w
      by_number (yes below) = unchanged (λ s. walk_inside (context_of run) (model run).tasks w.until n (inside below s) h)
      by_number (no above) = turned_beyond (omega arith)

  module _ (behind : w.until ≤ n) (below : n < 128) (t : Task) (read : t ≡ task_of (model run) n) where
    pub turned_blank : t.state ≡ 0 → Turned run w n w
    turned_blank z =
        unchanged
        (λ s. walk_blank (context_of run) (model run).tasks w.until n (inside below s) behind (ap (λ t. t.state) (sym read) ∙ z))

    module _
        (made : t.state ≡ 0 → ⊥) (size weight : ℕ)
        (size_is : SoundRun run → size ≡ capped (task_count (context_of run).list t.body))
        (weight_is : weight ≡ total weighs (take size (drop n (model run).tasks)) % 2 ^ 32)
      where
        abbrev next : Walk
        next =
            record {
              found =
                  record {
                    count = w.found.count + 1;
                    numbers = set w.found.numbers w.found.count n;
                    weights = set w.found.weights w.found.count weight;
                  };
              until = n + size;
            }

        one_more : (l : List ℕ) (x : ℕ) → length l ≡ 128 → take (w.found.count + 1) (set l w.found.count x) ≡ take w.found.count l ++ (x ∷ [])
        one_more l x long =
            ap (λ k. take k (set l w.found.count x)) (add-one w.found.count)
            ∙ take-suc-set l w.found.count x (omega (arith, room.few, long))

        block : SoundRun run → size ≡ capped (task_count (context_of run).list (task_of (model run) n).body)
        block s = size_is s ∙ ap (λ k. capped (task_count (context_of run).list k)) (ap (λ t. t.body) read)

        on : SoundRun run → n ∷ wards_from (context_of run) (n + size - suc n) (suc n) (drop (suc n) (model run).tasks) ≡ wards_from (context_of run) (w.until - n) n (drop n (model run).tasks)
        on s =
            let c = context_of run in
            let ts = (model run).tasks in
            let count = task_count c.list (task_of (model run) n).body in
            let k : n + size - suc n ≡ capped count - 1 = omega (arith, block s) in
            let few : length (drop (suc n) ts) ≤ 128 = omega (arith, length-drop (suc n) ts, tasks_whole run s.records) in
            ap (λ x. n ∷ wards_from c x (suc n) (drop (suc n) ts)) k
            ∙ ap (λ l. n ∷ l) (wards_capped count c (suc n) (drop (suc n) ts) few)
            ∙ walk_ward c ts w.until n (inside below s) behind (λ z. made (ap (λ t. t.state) read ∙ z))

        pub turned_ward : Turned run w n next
        turned_ward =
            record {
              room =
                  record {
                    numbered = length-set w.found.numbers w.found.count n ∙ room.numbered;
                    weighted = length-set w.found.weights w.found.count weight ∙ room.weighted;
                    few = omega (arith, room.few);
                    numbers_behind =
                        one_fewer w.found.numbers n w.found.count (omega (arith, room.few)) room.numbers_behind;
                    weights_behind =
                        one_fewer w.found.weights weight w.found.count (omega (arith, room.few)) room.weights_behind;
                  };
              numbers = λ s.
                  let rest = wards_from (context_of run) (n + size - suc n) (suc n) (drop (suc n) (model run).tasks) in
                  ap (λ l. l ++ rest) (one_more w.found.numbers n room.numbered)
                  ∙ append_assoc numbers_found (n ∷ []) rest
                  ∙ ap (λ l. numbers_found ++ l) (on s);
              weights = λ s q.
                  let weigh = ward_weight (context_of run) (model run) in
                  let mine : weight ≡ weigh n =
                  weight_is ∙ ward_weight_is (context_of run) (model run) s.sound (tasks_whole run s.records) n size (block s) in
                  one_more w.found.weights weight room.weighted
                  ∙ ap (λ l. l ++ (weight ∷ [])) q
                  ∙ ap (λ x. map weigh numbers_found ++ (x ∷ [])) mine
                  ∙ sym (map-append weigh numbers_found (n ∷ []))
                  ∙ ap (map weigh) (sym (one_more w.found.numbers n room.numbered));
            }

-- before the first number, and behind the last
pub walk_begins :
    (run : Run) (numbers weights : List ℕ)
    → with_later run (record { found = record { count = 0; numbers = numbers; weights = weights }; until = 1 }) 1
    ≡ wards (context_of run) (model run)
unfolding wards
walk_begins run numbers weights = refl

pub walk_ends :
    (run : Run) (w : Walk) (n : ℕ) → 128 ≤ n → SoundRun run
    → with_later run w n ≡ take w.found.count w.found.numbers
unfolding wards_from
walk_ends run w n h s =
    let gone : drop n (model run).tasks ≡ [] =
    drop_of_length-le (model run).tasks {i = n} (omega (arith, tasks_whole run s.records)) in
    ap
    (λ l. take w.found.count w.found.numbers ++ wards_from (context_of run) (w.until - n) n l)
    gone
    ∙ append-nil (take w.found.count w.found.numbers)

pub walked :
    (run : Run) (w : Walk) (n : ℕ) → n ≡ 128 → Room w n
    → (SoundRun run → with_later run w n ≡ wards (context_of run) (model run))
    → (SoundRun run → Weighed run w.found) → WardsOf run w.found
unfolding ward_weights
walked run w n h room numbers weights =
    record {
      numbered = room.numbered;
      weighted = room.weighted;
      few = omega (arith, room.few);
      numbers_behind = room.numbers_behind;
      weights_behind = room.weights_behind;
      numbers = found;
      weights = λ s. weights s ∙ ap (map (ward_weight (context_of run) (model run))) (found s);
    }
  where
    found : SoundRun run → take w.found.count w.found.numbers ≡ wards (context_of run) (model run)
    found s = sym (walk_ends run w n (omega (arith, h)) s) ∙ numbers s
