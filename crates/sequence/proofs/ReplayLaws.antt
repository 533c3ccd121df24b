-- What calls made one after the other come to, and demand 3 of the run that they leave. Assumes nothing.
use Rattle.std.proofs.Common.{◌≡◌, ℕ, List, [], ◌∷◌, length, sym, refl, ap, ◌∙◌, subst, inl, inr, ◌⊎◌, Result, Ok, Err}
use Rattle.std.specs.Prelude.{IsErrAnd}
use Rattle.tasklist.specs.Decode.{accepted, decode}
use Rattle.tasklist.specs.Tables.{list_of}
use Rattle.tasklist.proofs.Guarantees.{accepted_same}
use Rattle.semantics.specs.Run.{Context, context, initial}
use Rattle.semantics.specs.Run as Semantics
use Rattle.semantics.specs.Call.{Call, after_all}
use Rattle.semantics.specs.Operations.{Asked, denies, gives, with_list, open_asked}
use Rattle.semantics.proofs.Guarantee.{Guarantee}
use Rattle.semantics.proofs.Bytes.{guarantee_of_bytes}
use Rattle.semantics.proofs.Asked.{AskedCase, denied, given, asked_case}
use Rattle.runtime.specs.declared.Run.{Run}
use Rattle.runtime.specs.declared.OpenRefusal.{OpenRefusal}
use Rattle.runtime.specs.View.{model, context_of, SoundRun}
use Rattle.runtime.specs.Calls.{calls_of_kind, CallsMade}
use Rattle.runtime.specs.Asked.{open_number, OpenedAs}
use Rattle.runtime.proofs.ViewLaws.{same_context}
use Rattle.runtime.proofs.MadeLaws.{no_calls, calls_append}
use Rattle.sequence.specs.Replays.{calls_of, ReplayedAs}

no_kinds : (ns : List ℕ) → calls_of [] ns ≡ []
unfolding calls_of
no_kinds ns = refl

no_tasks : (ks : List ℕ) → calls_of ks [] ≡ []
unfolding calls_of
no_tasks [] = refl
no_tasks (k ∷ ks) = refl

-- whatever makes the calls that are left from here makes them all from the first run on
abbrev pub Left : List ℕ → List ℕ → Run → List ℕ → List ℕ → Run → Type 0
Left kinds tasks from ks ns r = (d : Run) → CallsMade (calls_of ks ns) r d → CallsMade (calls_of kinds tasks) from d

module _ (kinds tasks : List ℕ) (from : Run) (ks ns : List ℕ) (r : Run) (h : Left kinds tasks from ks ns r) where
  pub left_less :
      (k n : ℕ) (ks' ns' : List ℕ) (next : Run) → ks ≡ k ∷ ks' → ns ≡ n ∷ ns' → CallsMade (calls_of_kind k n) r next
      → Left kinds tasks from ks' ns' next
  unfolding calls_of
  left_less k n ks' ns' next p q one d rest =
      h d (rw (p, q) (calls_append (calls_of_kind k n) (calls_of ks' ns') r next d one rest))

  pub left_none : (ks ≡ []) ⊎ (ns ≡ []) → CallsMade (calls_of kinds tasks) from r
  left_none (inl p) = h r (rw (p, no_kinds ns) (no_calls r))
  left_none (inr p) = h r (rw (p, no_tasks ks) (no_calls r))

-- open gave a fresh run of the list that the bytes hold, under the weights
pub record Fresh (bytes memory weights : List ℕ) (r : Run) : Type 0 where
  pub run : model r ≡ initial (context_of r) memory
  pub fits : length memory ≡ (list_of r.tables).locations
  pub list : decode bytes ≡ accepted (list_of r.tables)
  pub table : r.weights ≡ weights
  pub sound : SoundRun r

module _ (bytes memory weights : List ℕ) where
  abbrev asked : (A : Type 0) → (Context → A) → Asked A
  asked A f = with_list (decode bytes) memory weights f

  -- open refused: the same of whatever else is asked of the list
  pub still_unopened :
      (k : OpenRefusal) → OpenedAs bytes weights (open_asked bytes memory weights) (Err k) → {A : Type 0} (f : Context → A)
      → asked A f ≡ denies (open_number k)
  unfolding open_asked
  still_unopened k h {A = A} f = sort (asked_case bytes memory weights)
    where
      sort : AskedCase bytes memory weights → asked A f ≡ denies (open_number k)
      sort (denied j some e) =
          let same = subst (λ a. OpenedAs bytes weights a (Err k)) (e Semantics.Run (λ c. initial c memory)) h in
          e A f ∙ ap denies (sym same)
      sort (given l q fits ok e) = elim (subst (λ a. OpenedAs bytes weights a (Err k)) (e Semantics.Run (λ c. initial c memory)) h) [ ]

  -- open gave a fresh run
  module _ (r : Run) (h : OpenedAs bytes weights (open_asked bytes memory weights) (Ok r)) where
    pub now_fresh : {A : Type 0} (f : Context → A) → Fresh bytes memory weights r × (asked A f ≡ gives (f (context_of r)))
    unfolding open_asked
    now_fresh {A = A} f = sort (asked_case bytes memory weights)
      where
        sort : AskedCase bytes memory weights → Fresh bytes memory weights r × (asked A f ≡ gives (f (context_of r)))
        sort (denied k some e) = elim (subst (λ a. OpenedAs bytes weights a (Ok r)) (e Semantics.Run (λ c. initial c memory)) h) [ ]
        sort (given l q fits ok e) =
            let given_run = subst (λ a. OpenedAs bytes weights a (Ok r)) (e Semantics.Run (λ c. initial c memory)) h in
            let same : list_of r.tables ≡ l = accepted_same (list_of r.tables) l (sym given_run.list ∙ q) in
            let under : context_of r ≡ context l weights = λ i. context (same i) (given_run.table i) in (
              record {
                run = given_run.run ∙ ap (λ c. initial c memory) (sym under);
                fits = fits ∙ ap (λ x. x.locations) (sym same);
                list = given_run.list;
                table = given_run.table;
                sound = given_run.sound;
              },
              e A f ∙ ap (λ c. gives (f c)) (sym under),
            )

  -- replay's two answers
  module _ (calls : List Call) where
    abbrev Answers : Result Run OpenRefusal → Type 0
    Answers r = ReplayedAs bytes memory weights calls (open_asked bytes memory weights) r

    pub replay_refused :
        (k : OpenRefusal) → OpenedAs bytes weights (open_asked bytes memory weights) (Err k) → (given : Result Run OpenRefusal)
        → IsErrAnd given (λ e. e ≡ k) → Answers given
    unfolding open_asked
    replay_refused k h (Ok _) q = elim q [ ]
    replay_refused k h (Err e) q =
        subst (λ a. ReplayedAs bytes memory weights calls a (Err e)) (sym (still_unopened k h (λ c. initial c memory))) (ap open_number q)

    pub replay_made :
        (o : Run) → OpenedAs bytes weights (open_asked bytes memory weights) (Ok o) → (r : Run) → CallsMade calls o r → Answers (Ok r)
    unfolding open_asked
    replay_made o h r made =
        subst (λ a. ReplayedAs bytes memory weights calls a (Ok r)) (sym w.1)
        (record {
          list = list_kept;
          table = made.weights ∙ w.0.table;
          run = run_after;
          guarantee =
              subst (Guarantee (context_of r) memory calls) (sym run_after)
              (guarantee_of_bytes bytes (list_of r.tables) list_kept r.weights (made.sound w.0.sound).weights memory
              (w.0.fits ∙ ap (λ t. (list_of t).locations) (sym made.list)) calls);
          sound = made.sound w.0.sound;
        })
      where
        w : Fresh bytes memory weights o × (asked Semantics.Run (λ c. initial c memory) ≡ gives (initial (context_of o) memory))
        w = now_fresh o h (λ c. initial c memory)

        list_kept : decode bytes ≡ accepted (list_of r.tables)
        list_kept = w.0.list ∙ ap (λ t. accepted (list_of t)) (sym made.list)

        run_after : model r ≡ after_all (context_of r) (initial (context_of r) memory) calls
        run_after =
            made.run w.0.sound
            ∙ ap (λ m. after_all (context_of o) m calls) w.0.run
            ∙ ap (λ c. after_all c (initial c memory) calls) (sym (same_context r o made.list made.weights))
