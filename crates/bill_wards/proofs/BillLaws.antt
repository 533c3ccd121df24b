-- The answers to a bill, in their order. Assumes nothing.
use Rattle.std.proofs.Common.{◌≡◌, ℕ, ◌-◌, ◌<◌, ◌≤◌, true, false, eqb, List, ◌++◌, length, take, drop, replicate, sym, refl, ap, ◌∙◌, arith, length-take-le, take_at, drop_at, eq-eqb, ne_eqb, le-leb}
use borrow.Author.Tests.{lt-leb}
use Rattle.tasklist.specs.Answers as Listed
use Rattle.runtime.specs.declared.Run.{Run}
use Rattle.runtime.specs.View.{model, context_of, SoundRun}
use Rattle.runtime.specs.Asked.{queue_answer, queue_out}
use Rattle.bill_shares.specs.Shares.{shares}
use Rattle.bill_shares.proofs.ShareLaws.{shares_count}
use Rattle.model_bill.specs.Bill.{wards, ward_weights, shares_asked}
use Rattle.std.specs.Prelude.{Ok, Err}
use Rattle.bill_wards.specs.declared.BillRefusal.TheVariants as Billing
use Rattle.bill_wards.specs.declared.Wards.{Wards}
use Rattle.bill_wards.specs.Promises.{BilledAs, WardsOf}

module _ (run : Run) (bill : ℕ) (out : List ℕ) (left : ℕ) (counted : left ≡ length (model run).order) where
  pub billed_left : 0 < left → BilledAs run bill out out (Err Billing.Left)
  unfolding queue_answer queue_out shares_asked
  billed_left h =
      let some = ne_eqb (length (model run).order) 0 (λ z. omega (arith, counted, z)) in
      record { asked = λ s. record { answer = rw some refl; places = rw some refl }; others = refl; within = omega arith }

  module _ (none_left : left ≡ 0) (w : Wards) (f : WardsOf run w) where
    done : eqb (length (model run).order) 0 ≡ true
    done = eq-eqb (length (model run).order) 0 (sym counted ∙ none_left)

    how_many : SoundRun run → length (wards (context_of run) (model run)) ≡ w.count
    how_many s =
        ap length (sym (f.numbers s)) ∙ length-take-le w.count w.numbers (omega (arith, f.few, f.numbered))

    pub billed_none : w.count ≡ 0 → BilledAs run bill out out (Err Billing.NoWard)
    unfolding queue_answer queue_out shares_asked
    billed_none z =
        record {
          asked = λ s.
              let none = eq-eqb (length (wards (context_of run) (model run))) 0 (how_many s ∙ z) in
              record { answer = rw (done, none) refl; places = rw (done, none) refl };
          others = refl;
          within = omega arith;
        }

    module _ (some : w.count ≡ 0 → ⊥) where
      any : SoundRun run → eqb (length (wards (context_of run) (model run))) 0 ≡ false
      any s = ne_eqb (length (wards (context_of run) (model run))) 0 (λ z. some (sym (how_many s) ∙ z))

      pub billed_short : length out < w.count → BilledAs run bill out out (Err Billing.Short)
      unfolding queue_answer queue_out shares_asked
      billed_short h =
          record {
            asked = λ s.
                let short = lt-leb (length (wards (context_of run) (model run))) (length out) (omega (arith, how_many s)) in
                record { answer = rw (done, any s, short) refl; places = rw (done, any s, short) refl };
            others = refl;
            within = omega arith;
          }

      module _
          (given after : List ℕ) (room : w.count ≤ length out)
          (shared : given ≡ shares bill (take w.count w.weights) ++ replicate (128 - w.count) 0)
          (put : after ≡ take w.count given ++ drop w.count out)
        where
          abbrev front : List ℕ
          front = shares bill (take w.count w.weights)

          long : length front ≡ w.count
          long =
              shares_count bill (take w.count w.weights)
              ∙ length-take-le w.count w.weights (omega (arith, f.few, f.weighted))

          written : after ≡ front ++ drop (length front) out
          written =
              put
              ∙ ap (λ l. take w.count l ++ drop w.count out) shared
              ∙ ap (λ l. l ++ drop w.count out) (take_at front (replicate (128 - w.count) 0) w.count long)
              ∙ ap (λ k. front ++ drop k out) (sym long)

          pub billed_shared : BilledAs run bill out after (Ok w.count)
          unfolding queue_answer queue_out shares_asked
          billed_shared =
              record {
                asked = λ s.
                    let fits = le-leb (length (wards (context_of run) (model run))) (length out) (omega (arith, how_many s)) in
                    let same : front ≡ shares bill (ward_weights (context_of run) (model run)) = ap (shares bill) (f.weights s) in
                    record {
                      answer = rw (done, any s, fits) (ap Listed.gives (sym long ∙ ap length same));
                      places = rw (done, any s, fits) (written ∙ ap (λ l. l ++ drop (length l) out) same);
                    };
                others =
                    ap (drop w.count) written
                    ∙ drop_at front (drop (length front) out) w.count long
                    ∙ ap (λ k. drop k out) long;
                within = room;
              }
