-- Number by number: the wards found and those still to come are all wards. Assumes nothing.
use Rattle.std.proofs.Common.{ℕ, replicate, sym, refl, ap, ◌∙◌, subst, add-one, arith}
use lib.ListN.{length-replicate}
use Rattle.bill_wards.specs.Promises.{Room, with_later}
use Rattle.bill_wards.proofs.TurnLaws.{walk_begins, walked}
use Rattle.bill_wards.proofs.wards_of.Goals as goal

pub loop-n-init : goal.loop-n-init
loop-n-init c = (
  record {
    numbered = length-replicate {A = ℕ} 128 0;
    weighted = length-replicate {A = ℕ} 128 0;
    few = omega arith;
    numbers_behind = refl;
    weights_behind = refl;
  },
  λ s. walk_begins c.args.run (replicate 128 0) (replicate 128 0),
  λ s. refl,
)

pub turned-walk-requires : goal.turned-walk-requires
turned-walk-requires c = c.loop-n.invariant.0

pub loop-n-preserved : goal.loop-n-preserved
loop-n-preserved c =
    let at = c.loop-n in
    let t = c.turned-walk in
    let run = c.args.run in (
      subst (Room t.result) (sym (add-one at.n)) t.ensures.room,
      λ s. ap (with_later run t.result) (add-one at.n) ∙ t.ensures.numbers s ∙ at.invariant.1 s,
      λ s. t.ensures.weights s (at.invariant.2 s),
    )

pub returns : goal.returns
returns c =
    let at = c.loop-n in
    walked c.args.run at.walk at.n (omega arith) at.invariant.0
    at.invariant.1 at.invariant.2
