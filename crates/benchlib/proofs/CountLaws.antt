-- The code's numbers are those of the model. Assumes nothing.
use Rattle.std.proofs.Common.{ℕ, ◌≡◌, refl, sym, ap, subst, ◌∙◌, List, arith, length}
use Rattle.std.specs.Prelude.{Result, Ok, Err, MatchResult}
use lib.Seq.{length-take-le}
use Rattle.tasklist.specs.TaskList.{TaskList}
use Rattle.tasklist.specs.Decode.{accepted, decode}
use Rattle.tasklist.specs.Tables.{list_of}
use Rattle.tasklist.proofs.Guarantees.{accepted_same}
use Rattle.semantics.specs.Run.{Context, context, initial}
use Rattle.semantics.specs.Run as Semantics
use Rattle.semantics.specs.Call.{Call, after_all}
use Rattle.semantics.specs.Operations.{Asked, denies, gives, with_list, open_asked}
use Rattle.semantics.proofs.Asked.{AskedCase, denied, given, asked_case}
use Rattle.plans.specs.View.{model as parts_model}
use Rattle.runtime.specs.declared.Run.{Run}
use Rattle.runtime.specs.declared.OpenRefusal.{OpenRefusal}
use Rattle.runtime.specs.View.{model, context_of, SoundRun}
use Rattle.runtime.specs.Calls.{CallsMade}
use Rattle.runtime.specs.Asked.{OpenedAs}
use Rattle.sequence.specs.Replays.{ReplayedAs}
use Rattle.benchlib.specs.Counts.{calls_in, left_in, replay_asked}

model_calls : (r : Run) → (model r).calls ≡ r.calls
unfolding parts_model
model_calls r = refl

order_length : (r : Run) → SoundRun r → length (model r).order ≡ r.order.left
unfolding parts_model
order_length r s = length-take-le r.order.left r.order.places (omega (arith, s.left, s.order))

-- n is this number of the run, or 0 where open refuses
abbrev pub Told : (Run → ℕ) → Result Run OpenRefusal → ℕ → Type 0
Told number o n = MatchResult o (λ r. n ≡ number r) (λ _. n ≡ 0)

-- what is asked under the weights of today
module _ (bytes weights today : List ℕ) (same : weights ≡ today) (asked : List ℕ → Asked Semantics.Run) (n : ℕ) where
  under_today : (o : Result Run OpenRefusal) → OpenedAs bytes weights (asked weights) o → OpenedAs bytes today (asked today) o
  under_today o h = subst (λ ws. OpenedAs bytes ws (asked ws) o) same h

  pub calls_told : (o : Result Run OpenRefusal) → Told (λ r. r.calls) o n → OpenedAs bytes weights (asked weights) o → n ≡ calls_in (asked today)
  unfolding calls_in
  calls_told o t h = by_answer o (asked today) t (under_today o h)
    where
      by_answer : (o : Result Run OpenRefusal) (a : Asked Semantics.Run) → Told (λ r. r.calls) o n → OpenedAs bytes today a o → n ≡ calls_in a
      by_answer (Ok r) (denies k) t h = absurd h
      by_answer (Ok r) (gives m) t h = t ∙ sym (model_calls r) ∙ ap (λ r. r.calls) h.run
      by_answer (Err e) (denies k) t h = t
      by_answer (Err e) (gives m) t h = absurd h

  pub left_told : (o : Result Run OpenRefusal) → Told (λ r. r.order.left) o n → OpenedAs bytes weights (asked weights) o → n ≡ left_in (asked today)
  unfolding left_in
  left_told o t h = by_answer o (asked today) t (under_today o h)
    where
      by_answer : (o : Result Run OpenRefusal) (a : Asked Semantics.Run) → Told (λ r. r.order.left) o n → OpenedAs bytes today a o → n ≡ left_in a
      by_answer (Ok r) (denies k) t h = absurd h
      by_answer (Ok r) (gives m) t h = t ∙ sym (order_length r h.sound) ∙ ap (λ r. length r.order) h.run
      by_answer (Err e) (denies k) t h = t
      by_answer (Err e) (gives m) t h = absurd h

module _ (bytes memory today : List ℕ) (calls : List Call) (n : ℕ) where
  abbrev after_calls : Context → Semantics.Run
  after_calls c = after_all c (initial c memory) calls

  -- by what open answers
  by_open :
      (As : Asked Semantics.Run → Type 0) → As (open_asked bytes memory today) → ((k : ℕ) → As (denies k) → n ≡ 0)
      → ((l : TaskList) → decode bytes ≡ accepted l → As (gives (initial (context l today) memory)) → n ≡ (after_calls (context l today)).calls)
      → n ≡ calls_in (replay_asked bytes memory today calls)
  unfolding open_asked replay_asked calls_in
  by_open As h none some = by_case (asked_case bytes memory today)
    where
      by_case : AskedCase bytes memory today → n ≡ calls_in (with_list (decode bytes) memory today after_calls)
      by_case (denied k least e) =
          none k (subst As (e Semantics.Run (λ c. initial c memory)) h) ∙ ap calls_in (sym (e Semantics.Run after_calls))
      by_case (given l q fits ok e) =
          some l q (subst As (e Semantics.Run (λ c. initial c memory)) h) ∙ ap calls_in (sym (e Semantics.Run after_calls))

  -- the list and the weights of a run that was opened
  opened_with :
      (r : Run) (l : TaskList) → decode bytes ≡ accepted (list_of r.tables) → r.weights ≡ today → decode bytes ≡ accepted l
      → context_of r ≡ context l today
  opened_with r l listed table q =
      let same : list_of r.tables ≡ l = accepted_same (list_of r.tables) l (sym listed ∙ q) in λ i. context (same i) (table i)

  module _ (weights : List ℕ) (same : weights ≡ today) where
    -- replay's calls are those of the run that was asked for
    pub replay_told :
        (o : Result Run OpenRefusal) → Told (λ r. r.calls) o n → ReplayedAs bytes memory weights calls (open_asked bytes memory weights) o
        → n ≡ calls_in (replay_asked bytes memory today calls)
    replay_told (Ok r) t h =
        by_open (λ a. ReplayedAs bytes memory today calls a (Ok r))
        (subst (λ ws. ReplayedAs bytes memory ws calls (open_asked bytes memory ws) (Ok r)) same h) (λ k z. absurd z)
        (λ l q w.
        t ∙ sym (model_calls r) ∙ ap (λ r. r.calls) w.run
        ∙ ap (λ c. (after_calls c).calls) (opened_with r l w.list w.table q))
    replay_told (Err e) t h =
        by_open (λ a. ReplayedAs bytes memory today calls a (Err e))
        (subst (λ ws. ReplayedAs bytes memory ws calls (open_asked bytes memory ws) (Err e)) same h) (λ k z. t) (λ l q z. absurd z)

    -- these calls were made on the run that was opened
    pub made_told :
        (o : Result Run OpenRefusal) → MatchResult o (λ from. (r : Run) × CallsMade calls from r × (n ≡ r.calls)) (λ _. n ≡ 0)
        → OpenedAs bytes weights (open_asked bytes memory weights) o → n ≡ calls_in (replay_asked bytes memory today calls)
    made_told (Ok from) (r, made, count) h =
        by_open (λ a. OpenedAs bytes today a (Ok from))
        (subst (λ ws. OpenedAs bytes ws (open_asked bytes memory ws) (Ok from)) same h) (λ k z. absurd z)
        (λ l q w.
        count ∙ sym (model_calls r) ∙ ap (λ m. m.calls) (made.run w.sound) ∙ ap (λ m. (after_all (context_of from) m calls).calls) w.run
        ∙ ap (λ c. (after_all c (initial (context l today) memory) calls).calls) (opened_with from l w.list w.table q))
    made_told (Err e) t h =
        by_open (λ a. OpenedAs bytes today a (Err e))
        (subst (λ ws. OpenedAs bytes ws (open_asked bytes memory ws) (Err e)) same h) (λ k z. t) (λ l q z. absurd z)

-- what follows in each case
pub in_each_case :
    {A E : Type 0} {P Q : A → Type 0} {N M : E → Type 0} (o : Result A E) → ((x : A) → P x → Q x) → ((e : E) → N e → M e) → MatchResult o P N → MatchResult o Q M
in_each_case (Ok x) f g h = f x h
in_each_case (Err e) f g h = g e h
