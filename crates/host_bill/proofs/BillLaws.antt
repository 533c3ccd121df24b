-- What is printed of a run: the line of a refusal, or the lines of the bill, whose sums are those of the wards. Assumes nothing.
use Prim.Native.Nat.{ℕ, ◌+◌, ◌*◌, ◌^◌, ◌≤◌, ◌<◌}
use mathlib.Core.Path.{◌≡◌, refl, sym, ap, subst, ◌∙◌}
use mathlib.Core.List.{List, ◌++◌}
use mathlib.Core.Bool.{Bool, true, false, false≢true}
use native.Mathlib.Omega.{arith}
use Rattle.std.specs.Prelude.{Result, Ok, Err}
use native.Mathlib.Nat.{zero-add}
use lib.ListN.{length, take, drop, replicate, length-replicate, length-take}
use lib.Seq.{take_at, length-take-le}
use Rattle.tasklist.specs.Answers as Listed
use Rattle.tasklist.specs.Tables.{list_of}
use Rattle.tasklist.specs.Accepted.{Accepted}
use Rattle.tasklist.proofs.Guarantees.{accepted_list}
use Rattle.semantics.specs.Operations.{Asked, denies, gives}
use Rattle.semantics.proofs.Bounds.{weights_heavy, weight_most}
use Rattle.runtime.specs.declared.Run.{Run}
use Rattle.runtime.specs.declared.OpenRefusal.{OpenRefusal}
use Rattle.runtime.specs.View.{model, context_of, SoundRun}
use Rattle.runtime.specs.Asked.{open_number, queue_answer, queue_out}
use Rattle.wording.specs.Wording.{refused_line}
use Rattle.wording.specs.Promises.{Wrote, PutAt, given}
use Rattle.wording.proofs.WroteLaws.{no_room, with_room, wrote_none}
use Rattle.wording.proofs.PutLaws.{put_then, put_behind, put_wrote}
use Rattle.bill_shares.specs.Shares.{whole}
use Rattle.bill_shares.proofs.ShareLaws.{shares_count}
use Rattle.bill_shares.proofs.SharedLaw.{shared}
use Rattle.model_bill.specs.Bill.{wards, ward_weights, shares_asked}
use Rattle.model_bill.proofs.Weights.{some_weight, all_weighs}
use Rattle.model_bill.proofs.Given.{Given, asked_gives}
use Rattle.bill_wards.specs.declared.BillRefusal.{BillRefusal}
use Rattle.bill_wards.specs.declared.Wards.{Wards}
use Rattle.bill_wards.specs.Answers.{bill_refusal_number, billed}
use Rattle.bill_wards.specs.Promises.{BilledAs, WardsOf}
use Rattle.host_bill.specs.Lines.{wards_word, told, ward_lines, lines_of, bill_text, room}
use Rattle.host_bill.specs.Promises.{RunPrinted, BillPrinted}

-- by the answer
abbrev refused_with : Listed.Answer → ℕ
refused_with (Listed.gives n) = 0
refused_with (Listed.refuses k) = k

abbrev succeeds : Listed.Answer → Bool
succeeds (Listed.gives n) = true
succeeds (Listed.refuses k) = false

refused_by : (k : ℕ) (asked : Asked (List ℕ)) → Listed.refuses k ≡ queue_answer asked → asked ≡ denies k
unfolding queue_answer
refused_by k (denies j) e = ap denies (sym (ap refused_with e))
refused_by k (gives l) e = absurd (false≢true (ap succeeds e))

given_by : (n : ℕ) (asked : Asked (List ℕ)) → Listed.gives n ≡ queue_answer asked → (l : List ℕ) × (asked ≡ gives l)
unfolding queue_answer
given_by n (denies j) e = absurd (false≢true (sym (ap succeeds e)))
given_by n (gives l) e = (l, refl)

-- the lent array of pence: 128 places
abbrev pub none_yet : List ℕ
none_yet = replicate 128 0

module _
    (run : Run) (bill : ℕ) (b : Result ℕ BillRefusal) (pence : List ℕ) (h : BilledAs run bill none_yet pence b) (out : List ℕ)
    (wide : room ≤ length out)
  where
    answered : (s : SoundRun run) → billed b ≡ queue_answer (shares_asked (context_of run) (model run) bill 128)
    answered s =
        (h.asked s).answer
        ∙ ap (λ k. queue_answer (shares_asked (context_of run) (model run) bill k)) (length-replicate {A = ℕ} 128 0)

    -- a refusal
    pub printed_refused :
        (k : BillRefusal) → b ≡ Err k → (number : ℕ) → number ≡ bill_refusal_number k → (after : List ℕ) (n : ℕ)
        → PutAt (refused_line number) out 0 after n → n ≤ 19 → RunPrinted run bill out after n
    unfolding bill_text lines_of
    printed_refused k is number q after n p few =
        record {
          lines = λ s.
              let asked = refused_by (bill_refusal_number k) _ (ap billed (sym is) ∙ answered s) in
              subst (λ x. PutAt x out 0 after n)
              (sym (ap (lines_of (context_of run) (model run)) asked ∙ ap refused_line (sym q)))
              p;
          most = omega arith;
          long = p.long;
          rest = put_behind (refused_line number) out after n p (omega (arith, wide));
        }

    -- a bill that is shared
    module _
        (named : ℕ) (is_shared : b ≡ Ok named) (w : Wards) (f : WardsOf run w) (sum : ℕ)
        (sum_is_lem : whole (take w.count w.weights) < 2 ^ 32 → sum ≡ whole (take w.count w.weights))
      where
        module _ (s : SoundRun run) where
          accepted : Accepted (context_of run).list
          accepted = accepted_list s.bytes (list_of run.tables) s.list

          share : (l : List ℕ) × (shares_asked (context_of run) (model run) bill 128 ≡ gives l)
          share = given_by named (shares_asked (context_of run) (model run) bill 128) (ap billed (sym is_shared) ∙ answered s)

          g : Given (context_of run) (model run) bill share.0
          g = asked_gives (context_of run) (model run) bill 128 share.0 share.1

          above : 0 < whole (ward_weights (context_of run) (model run))
          above =
              some_weight (context_of run) accepted 16000 (model run) s.sound g.done (weights_heavy (context_of run) s.weights) g.some

          how_many : length share.0 ≡ w.count
          unfolding ward_weights
          how_many =
              ap length g.is
              ∙ shares_count bill (ward_weights (context_of run) (model run))
              ∙ ap length (sym (f.weights s))
              ∙ length-take-le w.count w.weights (omega (arith, f.few, f.weighted))

          pence_are : take w.count pence ≡ share.0
          unfolding queue_out
          pence_are =
              ap (take w.count)
              ((h.asked s).places
              ∙ ap (λ k. queue_out (shares_asked (context_of run) (model run) bill k) none_yet) (length-replicate {A = ℕ} 128 0)
              ∙ ap (λ a. queue_out a none_yet) share.1)
              ∙ take_at share.0 (drop (length share.0) none_yet) w.count how_many

          -- the sums
          pence_sum : whole share.0 ≡ bill
          pence_sum = ap whole g.is ∙ (shared bill (ward_weights (context_of run) (model run)) above).totals

          weight_sum : sum ≡ whole (ward_weights (context_of run) (model run))
          weight_sum =
              let same = ap whole (f.weights s) in
              sum_is_lem
              (omega (
                arith,
                same,
                all_weighs (context_of run) accepted 16000 (model run) s.sound,
                weight_most (context_of run) (model run) s.sound,
              ))
              ∙ same

          text :
              ward_lines (take w.count w.numbers) (take w.count w.weights) (take w.count pence) ++ told wards_word w.count sum bill
              ≡ bill_text (context_of run) (model run) bill
          unfolding bill_text lines_of
          text =
              let c = context_of run in
              let r = model run in
              ap (λ x. ward_lines x (take w.count w.weights) (take w.count pence) ++ told wards_word w.count sum bill) (f.numbers s)
              ∙ ap (λ x. ward_lines (wards c r) x (take w.count pence) ++ told wards_word w.count sum bill) (f.weights s)
              ∙ ap (λ x. ward_lines (wards c r) (ward_weights c r) x ++ told wards_word w.count sum bill) pence_are
              ∙ ap (λ k. ward_lines (wards c r) (ward_weights c r) share.0 ++ told wards_word k sum bill) (sym how_many)
              ∙ ap (λ k. ward_lines (wards c r) (ward_weights c r) share.0 ++ told wards_word (length share.0) k bill) weight_sum
              ∙ ap
              (λ k. ward_lines (wards c r) (ward_weights c r) share.0 ++ told wards_word (length share.0) (whole (ward_weights c r)) k)
              (sym pence_sum)
              ∙ ap (lines_of c r) (sym share.1)

        pub printed_shared :
            {after₁ : List ℕ} {at : ℕ}
            → PutAt (ward_lines (take w.count w.numbers) (take w.count w.weights) (take w.count pence)) out 0 after₁ at
            → at ≤ 50 * length (take w.count w.numbers) → (count : ℕ) → count ≡ w.count → (after : List ℕ) (n : ℕ)
            → PutAt (told wards_word count sum bill) after₁ at after n → n ≤ at + 52 → RunPrinted run bill out after n
        printed_shared {after₁} {at} p few count c after n q most =
            let both = put_then p (subst (λ k. PutAt (told wards_word k sum bill) after₁ at after n) c q) in
            let wards_few : length (take w.count w.numbers) ≤ 127 = omega (arith, length-take {A = ℕ} w.count w.numbers, f.few) in
            record {
              lines = λ s. subst (λ x. PutAt x out 0 after n) (text s) both;
              most = omega (arith, wards_few);
              long = both.long;
              rest = put_behind _ out after n both (omega (arith, wards_few, wide));
            }

-- what is printed of a run that was asked for
module _ (bill : ℕ) (out : List ℕ) where
  nothing : (bytes : List ℕ) → length out < room → Wrote (given room out bytes) out out 0
  nothing bytes h = wrote_none (given room out bytes) out (no_room room out bytes h)

  pub bill_short : (opened : Result Run OpenRefusal) → length out < room → BillPrinted opened bill out out 0
  bill_short (Ok run) h =
      record {
        refused = tt;
        lines = λ s. nothing (bill_text (context_of run) (model run) bill) h;
        within = omega arith;
        whole = refl;
        long = refl;
        rest = refl;
      }
  bill_short (Err k) h =
      record {
        refused = nothing (refused_line (open_number k)) h;
        lines = tt;
        within = omega arith;
        whole = refl;
        long = refl;
        rest = refl;
      }

  module _ (wide : room ≤ length out) (after : List ℕ) (n : ℕ) where
    with_all : (bytes : List ℕ) → PutAt bytes out 0 after n → n ≤ room → Wrote (given room out bytes) out after n
    with_all bytes p most =
        put_wrote (given room out bytes) bytes out after n (with_room room out bytes wide)
        (omega (arith, p.behind, zero-add (length bytes), wide))
        p

    pub bill_refused :
        (k : OpenRefusal) (number : ℕ) → number ≡ open_number k → PutAt (refused_line number) out 0 after n → n ≤ 19
        → BillPrinted (Err k) bill out after n
    bill_refused k number q p most =
        record {
          refused = subst (λ m. Wrote (given room out (refused_line m)) out after n) q (with_all (refused_line number) p (omega arith));
          lines = tt;
          within = omega (arith, p.long, wide);
          whole = sym (length-take-le n after (omega (arith, p.long, wide)));
          long = p.long;
          rest = put_behind (refused_line number) out after n p (omega (arith, wide));
        }

    pub bill_run : (run : Run) → RunPrinted run bill out after n → BillPrinted (Ok run) bill out after n
    bill_run run p =
        record {
          refused = tt;
          lines = λ s. with_all (bill_text (context_of run) (model run) bill) (p.lines s) p.most;
          within = omega (arith, p.long, p.most, wide);
          whole = sym (length-take-le n after (omega (arith, p.long, p.most, wide)));
          long = p.long;
          rest = p.rest;
        }
