-- Request 114, in one piece. Assumes nothing.
use Prim.Native.Nat.{ℕ, ◌*◌, ◌≤◌}
use mathlib.Core.Path.{◌≡◌, sym, ap, ◌∙◌}
use mathlib.Core.List.{List, []}
use Rattle.tasklist.specs.Accepted.{Accepted}
use Rattle.semantics.specs.Run.{Context, weight_of, initial}
use Rattle.semantics.specs.Call.{Call, after_all}
use Rattle.semantics.specs.Sequential.{sequential}
use Rattle.semantics.specs.Sound.{Sound}
use Rattle.semantics.proofs.Guarantee.{guarantee}
use Rattle.semantics.proofs.Sound.{sound}
use Rattle.semantics.proofs.Bounds.{weights_light, weights_heavy}
use Rattle.bill_shares.proofs.SharedLaw.{shared}
use Rattle.model_bill.specs.Bill.{ward_weights, shares_asked}
use Rattle.model_bill.specs.Statement.{BillTheorem}
use Rattle.model_bill.proofs.Made.{wards_made, wards_rise, wards_hold}
use Rattle.model_bill.proofs.Weights.{some_weight, all_weighs}

-- calls that leave no job lead to the hand run
hand_shares :
    (c : Context) → Accepted c.list → (memory : List ℕ) (calls : List Call) → (after_all c (initial c memory) calls).order ≡ []
    → (bill room : ℕ)
    → shares_asked c (after_all c (initial c memory) calls) bill room ≡ shares_asked c (sequential c memory) bill room
hand_shares c ok memory calls done bill room =
    ap (λ r. shares_asked c r bill room) ((guarantee c ok memory calls).whole done)

pub bill_holds : BillTheorem
bill_holds c ok weights memory lib calls =
    record {
      made = wards_made c ok 16000 light memory lib.fits lib.small calls;
      rising = wards_rise c ok 16000 light memory lib.fits lib.small calls;
      inside = wards_hold c ok 16000 light memory lib.fits lib.small calls;
      all = all_weighs c ok 16000 (after_all c (initial c memory) calls) sound_run;
      shared = λ done some bill.
          shared bill (ward_weights c (after_all c (initial c memory) calls))
          (some_weight c ok 16000 (after_all c (initial c memory) calls) sound_run done (weights_heavy c weights) some);
      hand = hand_shares c ok memory calls;
      same = λ others done gone bill room.
          hand_shares c ok memory calls done bill room ∙ sym (hand_shares c ok memory others gone bill room);
    }
  where
    light : (place : ℕ) → 16 * weight_of c place ≤ 16000
    light = weights_light c weights

    sound_run : Sound c 16000 (after_all c (initial c memory) calls)
    sound_run = sound c ok 16000 light memory lib.fits lib.small calls
