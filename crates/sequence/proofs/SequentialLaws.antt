-- The sequential run of the code: the steps of a task and the tasks that each of them makes, a task that is run whole, and the run
-- that is handed back. Assumes nothing.
use Rattle.std.specs.Prelude.{Result, Ok, Err, IsErrAnd}
use Rattle.std.proofs.Common.{◌≡◌, ℕ, zero, suc, ◌+◌, ◌-◌, ◌*◌, ◌<◌, ◌≤◌, Bool, true, false, cond, List, [], ◌∷◌, length, sym, refl, ap, ◌∙◌, subst, suc-mul, add-one, sub-one, arith}
use Rattle.tasklist.specs.TaskList.{body_of}
use Rattle.tasklist.specs.Decode.{decode, accepted}
use Rattle.tasklist.specs.Tables.{list_of}
use Rattle.semantics.specs.Run.{Context, task_of}
use Rattle.semantics.specs.Run as Semantics
use Rattle.semantics.specs.Plan.{at_end, start, step, «end»}
use Rattle.semantics.specs.Call.{decide, after, after_all}
use Rattle.semantics.specs.Sequential.{made_by, start_of, step_of, end_of, run_each, step_through, steps_through, enough, run_whole, sequential}
use Rattle.semantics.specs.Operations.{gives, with_list, open_asked, sequential_asked}
use Rattle.runtime.specs.declared.Run.{Run}
use Rattle.runtime.specs.declared.OpenRefusal.{OpenRefusal}
use Rattle.plans.specs.Calls.{call_of}
use Rattle.looks.specs.Looks.{BodySize, finished}
use Rattle.looks.proofs.LookLaws.{ends}
use Rattle.runtime.specs.View.{parts_of, model, context_of, SoundRun}
use Rattle.runtime.specs.Calls.{decided, CallsMade}
use Rattle.runtime.specs.Parts.{record_of}
use Rattle.runtime.specs.Asked.{open_number, OpenedAs}
use Rattle.plans.proofs.DecideLaws.{own_task}
use Rattle.runtime.proofs.ViewLaws.{same_context}
use Rattle.tables.specs.Children.{numbers}
use Rattle.sequence.specs.Replays.{RunWhole}
use Rattle.sequence.proofs.ReplayLaws.{still_unopened, Fresh, now_fresh}

-- How many steps a body has room for.
module _ (run : Run) (n : ℕ) (below : n < 128) (size : ℕ)
    (same : BodySize size (record_of run n) (parts_of run)) where
  pub enough_steps : SoundRun run → size + 1 ≡ enough (context_of run) (model run) n
  unfolding enough
  enough_steps s =
      add-one size ∙ ap suc (same ∙ ap (λ t. length (body_of (list_of run.tables) t.body)) (sym (own_task (parts_of run) s n below)))

-- Whether a task is at its end, as the code tests it.
pub ended :
    (r : Run) (n : ℕ) → n < 128 → (size : ℕ) → BodySize size (record_of r n) (parts_of r) → (b : Bool) → b ≡ finished size (record_of r n)
    → SoundRun r → b ≡ at_end (context_of r) (task_of (model r) n)
ended r n below size fits b test s = test ∙ ends (parts_of r) n size (record_of r n) below refl fits s

-- The steps that are left: t more from r come to what `limit` come to from the first run.
pub record StepsLeft (bodies n limit : ℕ) (from : Run) (t : ℕ) (r : Run) : Type 0 where
  pub list : r.tables ≡ from.tables
  pub weights : r.weights ≡ from.weights
  pub run :
      SoundRun from
      → steps_through (context_of from) (run_whole (context_of from) (bodies - 1)) n limit (model from)
      ≡ steps_through (context_of from) (run_whole (context_of from) (bodies - 1)) n t (model r)
  pub sound : SoundRun from → SoundRun r

pub steps_all : (bodies n limit : ℕ) (from : Run) → StepsLeft bodies n limit from limit from
steps_all bodies n limit from = record { list = refl; weights = refl; run = λ s. refl; sound = λ s. s }

ends_there :
    (c : Context) (whole : ℕ → Semantics.Run → Semantics.Run) (n t : ℕ) (m : Semantics.Run) → at_end c (task_of m n) ≡ true
    → steps_through c whole n t m ≡ m
unfolding steps_through
ends_there c whole n zero m q = refl
ends_there c whole n (suc t) m q = rw q refl

one_more :
    (c : Context) (whole : ℕ → Semantics.Run → Semantics.Run) (n t : ℕ) (m : Semantics.Run) → 0 < t → at_end c (task_of m n) ≡ false
    → steps_through c whole n t m ≡ steps_through c whole n (t - 1) (step_through c whole n m)
unfolding steps_through
one_more c whole n zero m h q = let z : ⊥ = omega arith in absurd z
one_more c whole n (suc t) m h q =
    ap (λ b. cond b m (steps_through c whole n t (step_through c whole n m))) q
    ∙ ap (λ k. steps_through c whole n k (step_through c whole n m)) (sym (sub-one (suc t)))

-- at its end no step is left
pub turn_ended :
    (bodies n limit : ℕ) (from : Run) (t : ℕ) (r : Run) → StepsLeft bodies n limit from t r → (b : Bool)
    → (SoundRun r → b ≡ at_end (context_of r) (task_of (model r) n)) → b ≡ true → StepsLeft bodies n limit from 0 r
unfolding steps_through
turn_ended bodies n limit from t r before b ends q =
    record {
      list = before.list;
      weights = before.weights;
      run =
          λ s.
          before.run s
          ∙ ends_there (context_of from) (run_whole (context_of from) (bodies - 1)) n t (model r)
          (ap (λ c. at_end c (task_of (model r) n)) (sym (same_context r from before.list before.weights)) ∙ sym (ends (before.sound s)) ∙ q);
      sound = before.sound;
    }

-- nor where they are spent
pub turn_spent :
    (bodies n limit : ℕ) (from : Run) (t : ℕ) (r : Run) → StepsLeft bodies n limit from t r → t ≤ 0 → StepsLeft bodies n limit from 0 r
turn_spent bodies n limit from t r before h =
    let none : t ≡ 0 = omega arith in
    subst (λ k. StepsLeft bodies n limit from k r) none before

-- The tasks that are still to be run whole: from number j of them on in r, and from the first on in the run `from`.
pub record EachLeft (bodies child apart children : ℕ) (from : Run) (j : ℕ) (r : Run) : Type 0 where
  pub within : j ≤ children
  pub list : r.tables ≡ from.tables
  pub weights : r.weights ≡ from.weights
  pub run :
      SoundRun from
      → run_each (run_whole (context_of from) (bodies - 1)) (numbers child apart children) (model from)
      ≡ run_each (run_whole (context_of from) (bodies - 1)) (numbers (child + j * apart) apart (children - j)) (model r)
  pub sound : SoundRun from → SoundRun r

pub each_all : (bodies child apart children : ℕ) (from : Run) → EachLeft bodies child apart children from 0 from
each_all bodies child apart children from =
    let first : child ≡ child + 0 * apart = omega arith in
    let all : children ≡ children - 0 = omega arith in
    record {
      within = omega arith;
      list = refl;
      weights = refl;
      run =
          λ s.
          ap (λ k. run_each (run_whole (context_of from) (bodies - 1)) (numbers k apart children) (model from)) first
          ∙ ap (λ k. run_each (run_whole (context_of from) (bodies - 1)) (numbers (child + 0 * apart) apart k) (model from)) all;
      sound = λ s. s;
    }

-- one of them is run whole
module _ (whole : ℕ → Semantics.Run → Semantics.Run) (m : Semantics.Run) where
  one_each :
      (first apart k : ℕ) → 0 < k
      → run_each whole (numbers first apart k) m ≡ run_each whole (numbers (first + apart) apart (k - 1)) (whole first m)
  unfolding run_each numbers
  one_each first apart zero h = let z : ⊥ = omega (arith, h) in absurd z
  one_each first apart (suc k) h =
      ap (λ j. run_each whole (numbers (first + apart) apart j) (whole first m)) (sym (sub-one (suc k)))

  none_each : (first apart k : ℕ) → k ≤ 0 → run_each whole (numbers first apart k) m ≡ m
  unfolding run_each numbers
  none_each first apart zero h = refl
  none_each first apart (suc k) h = let z : ⊥ = omega (arith, h) in absurd z

module _ (bodies child apart children : ℕ) (from : Run) (j : ℕ) (r : Run) (more : j < children) (before : EachLeft bodies child apart children from j r) where
  abbrev every : ℕ → Semantics.Run → Semantics.Run
  every = run_whole (context_of from) (bodies - 1)

  next_number : child + j * apart + apart ≡ child + (j + 1) * apart
  next_number =
      let up : (j + 1) * apart ≡ j * apart + apart = ap (λ k. k * apart) (add-one j) ∙ suc-mul j apart in
      omega (arith, up)

  fewer : children - j - 1 ≡ children - (j + 1)
  fewer = omega arith

  pub each_one : (d : Run) → RunWhole (bodies - 1) (child + j * apart) r d → EachLeft bodies child apart children from (j + 1) d
  each_one d w =
      record {
        within = omega (arith, more);
        list = w.list ∙ before.list;
        weights = w.weights ∙ before.weights;
        run =
            λ s.
            before.run s
            ∙ one_each every (model r) (child + j * apart) apart (children - j) (omega (arith, more))
            ∙ ap (λ k. run_each every (numbers k apart (children - j - 1)) (every (child + j * apart) (model r))) next_number
            ∙ ap (λ k. run_each every (numbers (child + (j + 1) * apart) apart k) (every (child + j * apart) (model r))) fewer
            ∙ ap (run_each every (numbers (child + (j + 1) * apart) apart (children - (j + 1))))
            (ap (λ c. run_whole c (bodies - 1) (child + j * apart) (model r)) (sym (same_context r from before.list before.weights))
            ∙ sym (w.run (before.sound s)));
        sound = λ s. w.sound (before.sound s);
      }

-- one turn: a step, and the tasks that it made
module _
    (bodies n limit : ℕ) (from : Run) (t : ℕ) (r next : Run) (before : StepsLeft bodies n limit from t r) (more : 0 < t) (b : Bool)
    (ends : SoundRun r → b ≡ at_end (context_of r) (task_of (model r) n)) (going : b ≡ false)
    (stepped : CallsMade (call_of step n ∷ []) r next) (child apart children : ℕ)
    (made : SoundRun r → made_by (decided r step n) ≡ numbers child apart children)
  where
    abbrev whole : ℕ → Semantics.Run → Semantics.Run
    whole = run_whole (context_of from) (bodies - 1)

    turn :
        (d : Semantics.Run) → SoundRun from
        → run_each whole (made_by (decided r step n)) (after (context_of r) (model r) (step_of n)) ≡ d
        → steps_through (context_of from) whole n limit (model from) ≡ steps_through (context_of from) whole n (t - 1) d
    unfolding step_through
    turn d s q =
        before.run s
        ∙ one_more (context_of from) whole n t (model r) more
        (ap (λ c. at_end c (task_of (model r) n)) (sym (same_context r from before.list before.weights)) ∙ sym (ends (before.sound s)) ∙ going)
        ∙ ap (steps_through (context_of from) whole n (t - 1))
        (ap (λ c. run_each whole (made_by (decide c (model r) (step_of n))) (after c (model r) (step_of n)))
        (sym (same_context r from before.list before.weights))
        ∙ q)

    pub turn_taken :
        (j : ℕ) (d : Run) → children ≤ j → EachLeft bodies child apart children next j d → StepsLeft bodies n limit from (t - 1) d
    unfolding after_all
    turn_taken j d h each =
        record {
          list = each.list ∙ stepped.list ∙ before.list;
          weights = each.weights ∙ stepped.weights ∙ before.weights;
          run =
              λ s.
              let s₁ = stepped.sound (before.sound s) in
              turn (model d) s
              (ap (λ ks. run_each whole ks (after (context_of r) (model r) (step_of n))) (made (before.sound s))
              ∙ ap (run_each whole (numbers child apart children)) (sym (stepped.run (before.sound s)))
              ∙ ap (λ c. run_each (run_whole c (bodies - 1)) (numbers child apart children) (model next))
              (sym (same_context next from (stepped.list ∙ before.list) (stepped.weights ∙ before.weights)))
              ∙ each.run s₁
              ∙ none_each (run_whole (context_of next) (bodies - 1)) (model d) (child + j * apart) apart (children - j) (omega (arith, h)));
          sound = λ s. each.sound (stepped.sound (before.sound s));
        }

-- a turn that makes no task, refused or not
pub turn_alone :
    (bodies n limit : ℕ) (from : Run) (t : ℕ) (r next : Run) → StepsLeft bodies n limit from t r → 0 < t → (b : Bool)
    → (SoundRun r → b ≡ at_end (context_of r) (task_of (model r) n)) → b ≡ false
    → CallsMade (call_of step n ∷ []) r next → (SoundRun r → made_by (decided r step n) ≡ []) → StepsLeft bodies n limit from (t - 1) next
unfolding numbers
turn_alone bodies n limit from t r next before more b ends going stepped none =
    turn_taken bodies n limit from t r next before more b ends going stepped 0 0 0 none 0 next (omega arith) (each_all bodies 0 0 0 next)

-- no body left
pub whole_none : (bodies n : ℕ) (run : Run) → bodies ≡ 0 → RunWhole bodies n run run
unfolding run_whole
whole_none bodies n run q =
    record {
      list = refl;
      weights = refl;
      run = λ s. sym (ap (λ k. run_whole (context_of run) k n (model run)) q);
      sound = λ s. s;
    }

whole_more :
    (c : Context) (bodies n : ℕ) (m : Semantics.Run) → (bodies ≡ 0 → ⊥)
    → run_whole c bodies n m
    ≡ after c (steps_through c (run_whole c (bodies - 1)) n (enough c m n) (after c m (start_of n))) (end_of n)
unfolding run_whole
whole_more c zero n m h = absurd (h refl)
whole_more c (suc bodies) n m h =
    ap (λ k. after c (steps_through c (run_whole c k) n (enough c m n) (after c m (start_of n))) (end_of n)) (sym (sub-one (suc bodies)))

-- its start, its steps, its end
module _
    (bodies n : ℕ) (run from : Run) (some : bodies ≡ 0 → ⊥) (limit : ℕ)
    (room : SoundRun run → limit ≡ enough (context_of run) (model run) n) (begun : CallsMade (call_of start n ∷ []) run from)
    (t : ℕ) (r : Run) (steps : StepsLeft bodies n limit from t r) (d : Run) (done : CallsMade (call_of «end» n ∷ []) r d)
  where
    whole_run :
        (SoundRun run → steps_through (context_of from) (run_whole (context_of from) (bodies - 1)) n t (model r) ≡ model r)
        → RunWhole bodies n run d
    unfolding after_all
    whole_run stops =
        record {
          list = done.list ∙ steps.list ∙ begun.list;
          weights = done.weights ∙ steps.weights ∙ begun.weights;
          run =
              λ s.
              let s₁ = begun.sound s in
              done.run (steps.sound s₁)
              ∙ ap (λ c. after c (model r) (end_of n)) (same_context r run (steps.list ∙ begun.list) (steps.weights ∙ begun.weights))
              ∙ ap (λ m. after (context_of run) m (end_of n)) (sym (steps.run s₁ ∙ stops s))
              ∙ ap (λ c. after (context_of run) (steps_through c (run_whole c (bodies - 1)) n limit (model from)) (end_of n))
              (same_context from run begun.list begun.weights)
              ∙ ap (λ m. after (context_of run) (steps_through (context_of run) (run_whole (context_of run) (bodies - 1)) n limit m) (end_of n)) (begun.run s)
              ∙ ap (λ k. after (context_of run) (steps_through (context_of run) (run_whole (context_of run) (bodies - 1)) n k (after (context_of run) (model run) (start_of n))) (end_of n)) (room s)
              ∙ sym (whole_more (context_of run) bodies n (model run) some);
          sound = λ s. done.sound (steps.sound (begun.sound s));
        }

-- no step is left
pub whole_spent :
    (bodies n : ℕ) (run from : Run) → (bodies ≡ 0 → ⊥) → (limit : ℕ)
    → (SoundRun run → limit ≡ enough (context_of run) (model run) n) → CallsMade (call_of start n ∷ []) run from
    → (r : Run) → StepsLeft bodies n limit from 0 r → (d : Run) → CallsMade (call_of «end» n ∷ []) r d → RunWhole bodies n run d
whole_spent bodies n run from some limit room begun r steps d done =
    whole_run bodies n run from some limit room begun 0 r steps d done (λ s. unfold steps_through in refl)

-- the sequential run's two answers
module _ (bytes memory weights : List ℕ) where
  pub sequential_refused :
      (k : OpenRefusal) → OpenedAs bytes weights (open_asked bytes memory weights) (Err k) → (given : Result Run OpenRefusal)
      → IsErrAnd given (λ e. e ≡ k) → OpenedAs bytes weights (sequential_asked bytes memory weights) given
  unfolding sequential_asked
  sequential_refused k h (Ok _) q = elim q [ ]
  sequential_refused k h (Err e) q =
      subst (λ a. OpenedAs bytes weights a (Err e)) (sym (still_unopened bytes memory weights k h (λ c. sequential c memory)))
      (ap open_number q)

  pub sequential_made :
      (o : Run) → OpenedAs bytes weights (open_asked bytes memory weights) (Ok o) → (bodies : ℕ)
      → bodies ≡ length (list_of o.tables).bodies → (r : Run) → RunWhole bodies 0 o r
      → OpenedAs bytes weights (sequential_asked bytes memory weights) (Ok r)
  unfolding sequential_asked
  sequential_made o h bodies q r whole =
      subst (λ a. OpenedAs bytes weights a (Ok r)) (sym w.1)
      (record {
        run = run_after;
        list = w.0.list ∙ ap (λ t. accepted (list_of t)) (sym whole.list);
        table = whole.weights ∙ w.0.table;
        sound = whole.sound w.0.sound;
      })
    where
      w : Fresh bytes memory weights o × (with_list (decode bytes) memory weights (λ c. sequential c memory) ≡ gives (sequential (context_of o) memory))
      w = now_fresh bytes memory weights o h (λ c. sequential c memory)

      run_after : model r ≡ sequential (context_of o) memory
      run_after =
          whole.run w.0.sound
          ∙ ap (λ k. run_whole (context_of o) k 0 (model o)) q
          ∙ ap (run_whole (context_of o) (length (list_of o.tables).bodies) 0) w.0.run
          ∙ (unfold sequential in refl)
