use Rattle.std.proofs.Common.{◌≡◌}
use Rattle.runtime.specs.View.{model, context_of, SoundRun}
use Rattle.model_bill.specs.Bill.{wards}
use Rattle.bill_wards.specs.Promises.{Room, with_later, Weighed}
use Rattle.bill_wards.proofs.wards_of.Given as goal

abbrev pub invariant-loop-n : goal.invariant-loop-n
invariant-loop-n l =
    Room l.walk l.n × (SoundRun l.run → with_later l.run l.walk l.n ≡ wards (context_of l.run) (model l.run))
    × (SoundRun l.run → Weighed l.run l.walk.found)
