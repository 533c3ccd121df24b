-- What comes of a look, in the code's terms. Assumes nothing.
use Prim.Native.Nat.{ℕ, ◌<◌}
use mathlib.Core.Path.{◌≡◌, refl, sym, ap, ◌∙◌}
use mathlib.Core.List.{List, []}
use mathlib.Core.Bool.{Bool, true, false, not, ◌||◌, false≢true}
use native.Mathlib.Omega.{arith}
use lib.ListN.{length, take, length-take}
use lib.Seq.{take-take}
use lib.Dec.{leb, eqb}
use borrow.Author.Tests.{eq-eqb, ne_eqb, leb-false}
use Rattle.std.specs.Prelude.{Result, Ok, Err, Option, Some, None}
use Rattle.std.specs.Option.{ok_or}
use Rattle.tasklist.specs.TaskList.{body_of}
use Rattle.tasklist.specs.Tables.{list_of, blank_tables}
use Rattle.arrays.specs.declared.order.Order.{Order}
use Rattle.semantics.specs.declared.CallRefusal.{CallRefusal}
use Rattle.semantics.specs.declared.CallRefusal.TheVariants.{Absent, Started, Waiting, Finished, Unfinished}
use Rattle.semantics.specs.declared.Record.{Record}
use Rattle.semantics.specs.Run.{task_of}
use Rattle.semantics.specs.Access.{Access, every}
use Rattle.semantics.specs.Plan.{start, «end», at_end, needs_from, plan_start, plan_end, plan}
use Rattle.semantics.specs.Call.{refuse, accept, admit, settle}
use Rattle.semantics.proofs.Search.{start_asks}
use Rattle.arrays.specs.Rows.{row}
use Rattle.arrays.specs.Places.{unended, place_of}
use Rattle.ahead.specs.Ahead.{hold_ahead, past}
use Rattle.arrays.proofs.SpliceLaws.{placed, unplaced}
use Rattle.plans.specs.View.{Parts, model, context_of, SoundRun, Placed, record_of}
use Rattle.plans.specs.Calls.{decided}
use Rattle.looks.specs.Looks.{start_effect, end_effect, finished, BodySize, ordered, with_parts, LocatedIn, StartedIn, StartIn, EndIn, ReadyIn}
use Rattle.plans.proofs.DecideLaws.{not_listed, by_plan, own_task, looked_to, looks_ahead, own_state}
use Rattle.plans.proofs.StepLaws.{step_waiting, step_finished}

-- some parts: what holds of all holds of these
some_parts : Parts
some_parts = record { tables = blank_tables; memory = []; records = []; modes = []; order = []; left = 0; calls = 0; weight = 0; weights = [] }

-- The order holds no such task, or holds it at this place.
pub located :
    (order : Order) (n : ℕ) → n < 128 → (p : Option ℕ) → p ≡ place_of n (unended order)
    → LocatedIn order n (ok_or p Absent)
unfolding model
located order n below None found =
    λ run s a. not_listed (ordered order.places order.left run) n below a (unplaced n (unended order) (sym found))
located order n below (Some place) found =
    let there = placed n (unended order) place (sym found) in
    let inside : place < order.left = omega (arith, there.within, length-take order.left order.places) in
    λ run. (
      below,
      λ s.
          record {
            within = inside;
            here = there.there;
            listed = there.listed;
            ahead_of = sym there.before ∙ take-take place order.left order.places (omega arith);
          },
    )

-- Whether the task is at its end.
pub ends :
    (run : Parts) (n size : ℕ) (t : Record) → n < 128 → record_of run n ≡ t → BodySize size t run → SoundRun run
    → finished size t ≡ at_end (context_of run) (task_of (model run) n)
unfolding at_end
ends run n size t below q fits s =
    ap (λ k. leb k t.pc || not (eqb t.fault 0)) fits
    ∙ ap (λ (x : Record). leb (length (body_of (list_of run.tables) x.body)) x.pc || not (eqb x.fault 0)) (sym q)
    ∙ sym (ap (λ x. leb (length (body_of (list_of run.tables) x.body)) x.pc || not (eqb x.fault 0)) (own_task run s n below))

pub not_finished : (size : ℕ) (t : Record) → finished size t ≡ false → t.pc < size
not_finished size t h = leb-false size t.pc (left (leb size t.pc) (not (eqb t.fault 0)) h)
  where
    left : (a b : Bool) → (a || b) ≡ false → a ≡ false
    left true b q = absurd (false≢true (sym q))
    left false b q = refl

-- What is decided of a start and of an end, where the task has this place.
module _ (run : Parts) (n : ℕ) (below : n < 128) (place : ℕ) (p : Placed run n place) (s : SoundRun run) where
  in_state : (k : ℕ) → (record_of run n).state ≡ k → eqb (task_of (model run) n).state k ≡ true
  in_state k h = eq-eqb (task_of (model run) n).state k (own_state run n below s ∙ h)

  in_other_state : (k : ℕ) → ((record_of run n).state ≡ k → ⊥) → eqb (task_of (model run) n).state k ≡ false
  in_other_state k h = ne_eqb (task_of (model run) n).state k (λ q. h (sym (own_state run n below s) ∙ q))

  start_started : ((record_of run n).state ≡ 1 → ⊥) → decided run start n ≡ refuse 11
  unfolding plan plan_start settle
  start_started h = by_plan run n below p.listed start ∙ rw (in_other_state 1 h) refl

  -- what the look at the tasks ahead says of the task's accesses
  pub start_looked :
      (record_of run n).state ≡ 1 → (gs : List Access) → gs ≡ needs_from 0 (row n run.modes) → (r : Result Unit CallRefusal)
      → r ≡ past (hold_ahead run.modes (take place run.order) gs) → decided run start n ≡ looked_to r (start_effect run n)
  unfolding plan plan_start settle
  start_looked ready gs same r q =
      settled
      ∙ looks_ahead run s n place needs p (start_asks (model run) n) r
      (q ∙ ap (λ g. past (hold_ahead run.modes (take place run.order) g)) (same ∙ own_needs)) (start_effect run n)
    where
      needs : List Access
      needs = needs_from 0 (task_of (model run) n).modes

      settled : decided run start n ≡ admit (model run) n needs (start_effect run n)
      settled = by_plan run n below p.listed start ∙ rw (in_state 1 ready) refl

      own_needs : needs_from 0 (row n run.modes) ≡ needs
      own_needs = ap (needs_from 0) (sym (ap (λ t. t.modes) (own_task run s n below)))

  end_waiting : ((record_of run n).state ≡ 2 → ⊥) → decided run «end» n ≡ refuse 13
  unfolding plan plan_end settle
  end_waiting h = by_plan run n below p.listed «end» ∙ rw (in_other_state 2 h) refl

  module _ (going : (record_of run n).state ≡ 2) where
    end_free : at_end (context_of run) (task_of (model run) n) ≡ true → decided run «end» n ≡ accept (end_effect run n)
    unfolding plan plan_end settle admit every
    end_free h = by_plan run n below p.listed «end» ∙ rw (in_state 2 going, h) refl

    end_unfinished : at_end (context_of run) (task_of (model run) n) ≡ false → decided run «end» n ≡ refuse 15
    unfolding plan plan_end settle
    end_unfinished h = by_plan run n below p.listed «end» ∙ rw (in_state 2 going, h) refl

-- The tests of a start, an end and a step, in the order of their refusals, where the order holds the task at this place.
module _ (order : Order) (n place : ℕ) (own : Record) (at : LocatedIn order n (Ok place)) where
  below : n < 128
  below = (at some_parts).0

  -- a run with this order
  abbrev with_order : Parts → Parts
  with_order run = ordered order.places order.left run

  module _ (modes : List ℕ) where
    -- a run with these parts
    abbrev part : Parts → Parts
    part run = with_parts run.tables run.memory modes order.places order.left run

    there : (run : Parts) → SoundRun (part run) → Placed (part run) n place
    there run = (at (part run)).1

    pub start_again : (own.state ≡ 1 → ⊥) → StartIn order modes own n (Err Started)
    start_again h =
        λ run same s. start_started (part run) n below place (there run s) s (λ q. h (ap (λ t. t.state) (sym same) ∙ q))

    module _ (ready : own.state ≡ 1) (gs : List Access) (asked : n < 128 → gs ≡ needs_from 0 (row n modes))
        (r : Result Unit CallRefusal) (looked : r ≡ past (hold_ahead modes (take place order.places) gs))
      where
        looked_as :
            (x : Result Unit CallRefusal) → r ≡ x → (run : Parts) → record_of run n ≡ own → SoundRun (part run)
            → decided (part run) start n ≡ looked_to x (start_effect (part run) n)
        looked_as x q run same s =
            start_looked (part run) n below place (there run s) s (ap (λ t. t.state) same ∙ ready) gs (asked below) x (sym q ∙ looked)

        pub start_free : r ≡ Ok tt → StartIn order modes own n (Ok place)
        start_free q = λ run same. (below, λ s. (there run s, looked_as (Ok tt) q run same s))

        pub start_held : (k : CallRefusal) → r ≡ Err k → StartIn order modes own n (Err k)
        start_held k = looked_as (Err k)

  pub not_started : (own.state ≡ 2 → ⊥) → StartedIn order own n (Err Waiting)
  not_started h =
      λ run same s.
      let other = λ (q : (record_of run n).state ≡ 2). h (ap (λ t. t.state) (sym same) ∙ q) in (
        step_waiting (with_order run) n below s place ((at run).1 s) other,
        end_waiting (with_order run) n below place ((at run).1 s) s other,
      )

  module _ (size : ℕ) (going : own.state ≡ 2) where
    pub end_finished : finished size own ≡ true → EndIn order own size n (Ok place)
    end_finished h =
        λ run same fits. (
          below,
          λ s. (
            (at run).1 s,
            end_free (with_order run) n below place ((at run).1 s) s (ap (λ t. t.state) same ∙ going)
                (sym (ends (with_order run) n size own below same fits s) ∙ h),
          ),
        )

    pub end_early : finished size own ≡ false → EndIn order own size n (Err Unfinished)
    end_early h =
        λ run same fits s.
        end_unfinished (with_order run) n below place ((at run).1 s) s (ap (λ t. t.state) same ∙ going)
        (sym (ends (with_order run) n size own below same fits s) ∙ h)

    pub ready_finished : finished size own ≡ true → ReadyIn order own size n (Err Finished)
    ready_finished h =
        λ run same fits s.
        step_finished (with_order run) n below s place ((at run).1 s) (ap (λ t. t.state) same ∙ going) (finished size own)
        (ends (with_order run) n size own below same fits s) h

    pub ready_now : finished size own ≡ false → ReadyIn order own size n (Ok place)
    ready_now h = (below, going, h, λ run. (at run).1)
