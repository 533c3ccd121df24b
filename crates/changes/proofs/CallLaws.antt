-- The two ways in which a call keeps its promise: refused, and taken. Assumes nothing.
use Rattle.std.proofs.Common.{Result, Ok, Err, ◌≡◌, ℕ, ◌+◌, ◌%◌, ◌^◌, ◌<◌, ◌≤◌, Bool, true, false, List, [], ◌∷◌, length, take, set, sym, refl, ap, ◌∙◌, subst, arith, length-set, length-take}
use native.Mathlib.Decide.{ℕ_discrete}
use Rattle.tasklist.specs.Decode.{accepted}
use Rattle.tasklist.specs.Tables.{Holds, list_of}
use Rattle.semantics.specs.declared.Record.{Record}
use Rattle.semantics.specs.declared.CallRefusal.{CallRefusal}
use Rattle.semantics.specs.Run.{Task, start_weight, end_weight}
use Rattle.semantics.specs.Effect.{Effect, keep, in_state}
use Rattle.semantics.specs.Plan.{Action, start, «end»}
use Rattle.semantics.specs.Call.{after_all, refuse, accept, edited, charged, written, splice, stays, places, changes, apply}
use Rattle.semantics.specs.Answers.{refusal_number, outcome_number, task_from}
use Rattle.semantics.specs.Operations.{WeightsAccepted}
use Rattle.semantics.specs.Sound.{Sound}
use Rattle.semantics.proofs.Order.{splice_same, splice_other}
use Rattle.semantics.proofs.Decide.{decide_accept}
use Rattle.semantics.proofs.SoundKept.{sound_kept}
use Rattle.semantics.proofs.Bounds.{calls_most, weights_light, weight_most, weights_most}
use Rattle.semantics.proofs.Unchanged.{after_refuse, after_accept}
use Rattle.arrays.specs.Rows.{row}
use Rattle.arrays.specs.Places.{without}
use Rattle.arrays.proofs.SpliceLaws.{without_splice}
use Rattle.records.specs.Records.{with_state}
use Rattle.plans.specs.View.{Parts, tasks_from, model, context_of, SoundRun, Placed, record_of}
use Rattle.plans.specs.Calls.{call_of, decided}
use Rattle.looks.specs.Looks.{start_effect, end_effect}
use Rattle.changes.specs.Calls.{CalledAs, CallsMade}
use Rattle.changes.specs.Changes.{heavier, WholeRun}
use Rattle.plans.proofs.DecideLaws.{list_accepted, own_task}
use Rattle.plans.proofs.ViewLaws.{same_context, same_run, tasks_set}

-- "Each accepted call adds 1 to calls and its weight to record and run": task n with another record, and another order
unfoldable pub applied : ℕ → Record → List ℕ → ℕ → ℕ → Parts → Parts
applied n t order left w run =
    record run {
      records = set run.records n (heavier w t);
      order = order;
      left = left;
      calls = (run.calls + 1) % 2 ^ 32;
      weight = (run.weight + w) % 2 ^ 32;
    }

-- "its state becomes 2"
abbrev pub started : ℕ → Parts → Parts
started n run = applied n (with_state 2 (record_of run n)) run.order run.left (start_weight (context_of run)) run

-- "the job leaves the order and its state becomes 3"
pub record EndedAs (n place : ℕ) (from r : Parts) : Type 0 where
  pub run : r ≡ applied n (with_state 3 (record_of from n)) r.order r.left (end_weight (context_of from)) from
  pub whole : length r.order ≡ 128
  pub order :
      place < from.left → from.left ≤ 128
      → (r.left + 1 ≡ from.left) × (take r.left r.order ≡ without place (take from.left from.order))

-- A call's run alone.
pub one_call : (a : Action) (run : Parts) (n : ℕ) (given : Result Unit CallRefusal) (next : Parts) → CalledAs a run n given next → CallsMade (call_of a n ∷ []) run next
unfolding after_all
one_call a run n given next h = record { list = h.list; weights = h.weights; run = h.run; sound = h.sound }

-- A call that is refused: the very run is handed back.
pub called_refused :
    (a : Action) (run : Parts) (n : ℕ) (k : CallRefusal) → (SoundRun run → decided run a n ≡ refuse (refusal_number k))
    → CalledAs a run n (Err k) run
called_refused a run n k h =
    record {
      answer = λ s. unfold outcome_number in sym (ap outcome_number (h s));
      run = λ s. sym (after_refuse (context_of run) (model run) (call_of a n) (refusal_number k) (h s));
      sound = λ s. s;
      list = refl;
      weights = refl;
      refused = λ j q. refl;
    }

-- the arrays are whole
abbrev pub Whole : Parts → Type 0
Whole run = WholeRun run

-- A call that is accepted: the run after its effect is handed back.
pub called_taken :
    (a : Action) (run : Parts) (n : ℕ) (e : Effect) (next : Parts) → next.tables ≡ run.tables
    → next.weights ≡ run.weights → (SoundRun run → decided run a n ≡ accept e)
    → (SoundRun run → (model next ≡ apply n e (model run)) × Whole next)
    → CalledAs a run n (Ok tt) next
called_taken a run n e next t w h m =
    record {
      answer = λ s. unfold outcome_number in sym (ap outcome_number (h s));
      run = λ s. (m s).0 ∙ sym (after_accept (context_of run) (model run) (call_of a n) e (h s));
      sound = keeps;
      list = t;
      weights = w;
      refused = λ k q. let bad : ⊥ = cc in absurd bad;
    }
  where
    keeps : SoundRun run → SoundRun next
    keeps s =
        record {
          bytes = s.bytes;
          list = s.list ∙ ap (λ x. accepted (list_of x)) (sym t);
          tables = subst (λ x. Holds x (list_of x)) (sym t) s.tables;
          memory = (m s).1.memory;
          records = (m s).1.records;
          modes = (m s).1.modes;
          order = (m s).1.order;
          left = (m s).1.left;
          weights = subst WeightsAccepted (sym w) s.weights;
          sound =
              subst (λ c. Sound c 16000 (model next)) (sym (same_context next run t w))
              (subst (Sound (context_of run) 16000) (sym (m s).0)
              (sound_kept (context_of run) (list_accepted run s) 16000 (weights_light (context_of run) s.weights) (model run) s.sound
              (call_of a n) e (decide_accept (context_of run) (model run) (call_of a n) e (h s))));
        }

-- an effect on the task's own record and its place in the order
abbrev pub own_effect : Task → Bool → ℕ → Effect
own_effect t leaves w = record { task = t; edit = keep; made = []; leaves = leaves; weight = w }

small_sum : (a b : ℕ) → a ≤ 69632000 → b < 2 ^ 24 → (a + b) % 2 ^ 32 ≡ a + b
small_sum a b h k = omega arith

-- What `applied` comes to.
module _
    (run : Parts) (s : SoundRun run) (n : ℕ) (below : n < 128) (own : Record) (order : List ℕ) (left w : ℕ) (leaves : Bool)
    (same_weight : own.weight ≡ (record_of run n).weight) (light : w < 2 ^ 24)
    (spliced : take left order ≡ splice n (places n (own_effect (task_from own (row n run.modes)) leaves w)) (take run.left run.order))
  where
    light_own : own.weight ≤ 69632000
    light_own =
        let h = weights_most (context_of run) (model run) s.sound n in
        let q = ap (λ t. t.weight) (own_task run s n below) in
        omega (arith, h, q, same_weight)

    charged_own : task_from (heavier w own) (row n run.modes) ≡ charged w (task_from own (row n run.modes))
    charged_own =
        ap (λ x. record {
          state = own.state;
          body = own.body;
          pc = own.pc;
          registers = own.registers;
          modes = row n run.modes;
          steps = own.steps;
          fault = own.fault;
          weight = x;
        }) (small_sum own.weight w light_own light)

    few_calls : run.calls ≤ 4352
    unfolding model
    few_calls = calls_most (context_of run) 16000 (model run) s.sound

    small_weight : run.weight ≤ 69632000
    unfolding model
    small_weight = weight_most (context_of run) (model run) s.sound

    pub applied_model : model (applied n own order left w run) ≡ apply n (own_effect (task_from own (row n run.modes)) leaves w) (model run)
    unfolding model applied apply changes written edited
    applied_model =
        same_run (model (applied n own order left w run)) (apply n (own_effect (task_from own (row n run.modes)) leaves w) (model run))
        refl
        (tasks_set run.records run.modes n (heavier w own) ∙ ap (set (tasks_from 0 run.records run.modes) n) charged_own)
        spliced
        (omega (arith, few_calls))
        (small_sum run.weight w small_weight light)

    pub applied_whole : length order ≡ 128 → left ≤ 128 → Whole (applied n own order left w run)
    unfolding applied
    applied_whole o l =
        record {
          memory = s.memory;
          records = length-set run.records n (heavier w own) ∙ s.records;
          modes = s.modes;
          order = o;
          left = l;
        }

pub splice_self : (n : ℕ) (o : List ℕ) → splice n (n ∷ []) o ≡ o
unfolding splice
splice_self n [] = refl
splice_self n (k ∷ o) = sort (splice_self n o) (ℕ_discrete k n)
  where
    sort : splice n (n ∷ []) o ≡ o → Dec (k ≡ n) → splice n (n ∷ []) (k ∷ o) ≡ k ∷ o
    sort ih (yes q) = splice_same n k (n ∷ []) o q ∙ ap (λ l. n ∷ l) ih ∙ ap (λ x. x ∷ o) (sym q)
    sort ih (no q) = splice_other n k (n ∷ []) o q ∙ ap (λ l. k ∷ l) ih

-- A start that is accepted.
pub start_taken :
    (run : Parts) (n : ℕ) → n < 128 → (SoundRun run → decided run start n ≡ accept (start_effect run n))
    → CalledAs start run n (Ok tt) (started n run)
start_taken run n below h = called_taken start run n (start_effect run n) (started n run) (unfold applied in refl) (unfold applied in refl) h after_start
  where
    after_start : SoundRun run → (model (started n run) ≡ apply n (start_effect run n) (model run)) × Whole (started n run)
    after_start s =
        let own = with_state 2 (record_of run n) in
        let w = start_weight (context_of run) in
        let light : w < 2 ^ 24 = omega (arith, weights_light (context_of run) s.weights 0) in
        let same : take run.left run.order ≡ splice n (places n (own_effect (task_from own (row n run.modes)) false w)) (take run.left run.order) =
        unfold places stays in sym (splice_self n (take run.left run.order)) in
        let effect : own_effect (task_from own (row n run.modes)) false w ≡ start_effect run n =
        ap (λ t. own_effect (in_state 2 t) false w) (sym (own_task run s n below)) in (
          applied_model run s n below own run.order run.left w false refl light same ∙ ap (λ e. apply n e (model run)) effect,
          applied_whole run s n below own run.order run.left w false refl light same s.order s.left,
        )

left_out :
    (run : Parts) (n place : ℕ) → SoundRun run → Placed run n place
    → without place (take run.left run.order) ≡ splice n [] (take run.left run.order)
unfolding model
left_out run n place s p =
    without_splice n (take run.left run.order) place s.sound.valid.distinct
    (omega (arith, p.within, s.left, s.order, length-take run.left run.order)) p.here

-- An end that is accepted.
pub end_taken :
    (run : Parts) (n place : ℕ) (next : Parts) → n < 128
    → (SoundRun run → Placed run n place × (decided run «end» n ≡ accept (end_effect run n))) → EndedAs n place run next
    → CalledAs «end» run n (Ok tt) next
end_taken run n place next below h e =
    called_taken «end» run n (end_effect run n) next (ap (λ r. r.tables) e.run ∙ (unfold applied in refl))
    (ap (λ r. r.weights) e.run ∙ (unfold applied in refl)) (λ s. (h s).1) (λ s. after_end s (h s).0)
  where
    after_end : SoundRun run → Placed run n place → (model next ≡ apply n (end_effect run n) (model run)) × Whole next
    after_end s p =
        let own = with_state 3 (record_of run n) in
        let w = end_weight (context_of run) in
        let light : w < 2 ^ 24 = omega (arith, weights_light (context_of run) s.weights 1) in
        let out = e.order p.within s.left in
        let same : take next.left next.order ≡ splice n (places n (own_effect (task_from own (row n run.modes)) true w)) (take run.left run.order) =
        unfold places stays in out.1 ∙ left_out run n place s p in
        let effect : own_effect (task_from own (row n run.modes)) true w ≡ end_effect run n =
        ap (λ t. own_effect (in_state 3 t) true w) (sym (own_task run s n below)) in (
          ap model e.run ∙ applied_model run s n below own next.order next.left w true refl light same
              ∙ ap (λ x. apply n x (model run)) effect,
          subst Whole (sym e.run)
              (applied_whole run s n below own next.order next.left w true refl light same e.whole (omega (arith, s.left, out.0))),
        )
