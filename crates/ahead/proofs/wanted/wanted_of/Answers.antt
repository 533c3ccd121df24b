-- The accesses at the first locations are collected.
use Rattle.std.proofs.Common.{◌≡◌, ◌∷◌, [], ◌++◌, ◌+◌, ◌<◌, ◌∙◌, length, length-set, take, get_or, refl, ap, arith, rules}
use Rattle.std.specs.List.{range_with_len}
use Rattle.std.proofs.lemmas.Iterator.{YieldsList-from_range, YieldsList-from_slice, YieldsList-from_zip}
use Rattle.std.proofs.lemmas.Iterator.Consumers.{YieldsList-turn, YieldsList-end}
use Rattle.std.proofs.lemmas.List.{length_push}
use Rattle.std.proofs.lemmas.List.FromFn.{length-range_with_len}
use Rattle.std.proofs.lemmas.Slice.Zip.{length-zip}
use Rattle.arrays.specs.Rows.{row}
use Rattle.ahead.proofs.SearchLaws.{collect_none, collect_skip, collect_set, collect_all, asked_there}
use Rattle.ahead.proofs.wanted.wanted_of.Goals as goal
use Rattle.ahead.proofs.wanted.wanted_of.Goals.{In-Some}

-- this turn's location and its mode
turn :
    (c : In-Some)
    → (length c.loop-location.yielded < 64)
    × (c.in-Some.location ≡ length c.loop-location.yielded)
    × (c.in-Some.field-0-1.now ≡ get_or c.row_of.result (length c.loop-location.yielded) 0)
turn c =
    let s = c.into_iter-location-iterator.result in
    let t =
    YieldsList-turn {s = s} (YieldsList-from_zip (YieldsList-from_range 0 64 64 (cc) refl) (YieldsList-from_slice c.row_of.result (cc)))
    c.loop-location.yielded c.loop-location.location-iterator c.loop-location.yielded_by c.next.result c.next.new.self
    (c.in-Some.location, c.in-Some.field-0-1) c.in-Some.is c.next.ensures.steps in
    asked_there c.row_of.result (length c.loop-location.yielded) c.in-Some.location c.in-Some.field-0-1.now (search rules) t.0 t.1

pub bounds-accesses-count : goal.bounds-accesses-count
bounds-accesses-count c = let t = turn (goal.at.bounds-accesses-count c).In-Some in omega (arith, t.0)

pub loop-location-init : goal.loop-location-init
loop-location-init c = (search rules, search rules, λ below. collect_none (row c.args.task c.args.modes.now))

pub loop-location-preserved : goal.loop-location-preserved
loop-location-preserved c =
    let at = c.loop-location in
    let held = row c.args.task c.args.modes.now in
    let i = length at.yielded in
    let t = turn (goal.at.loop-location-preserved c).In-Some in
    let more : length (at.yielded ++ (c.in-Some.location, c.in-Some.field-0-1) ∷ []) ≡ i + 1 =
    length_push at.yielded (c.in-Some.location, c.in-Some.field-0-1) in (
      omega (arith, more),
      at.invariant.1,
      λ below.
          rw more
          (collect_skip held (take at.count at.accesses) i c.in-Some.field-0-1.now
          (omega (arith, ap length (c.row_of.ensures below), t.0)) (t.2 ∙ ap (λ l. get_or l i 0) (c.row_of.ensures below))
          (at.invariant.2 below) (omega arith)),
    )

pub loop-location-preserved-then-asked-ne0 : goal.loop-location-preserved-then-asked-ne0
loop-location-preserved-then-asked-ne0 c =
    let at = c.loop-location in
    let held = row c.args.task c.args.modes.now in
    let i = length at.yielded in
    let t = turn (goal.at.loop-location-preserved-then-asked-ne0 c).In-Some in
    let more : length (at.yielded ++ (c.in-Some.location, c.in-Some.field-0-1) ∷ []) ≡ i + 1 =
    length_push at.yielded (c.in-Some.location, c.in-Some.field-0-1) in (
      omega (arith, more),
      length-set at.accesses at.count _ ∙ at.invariant.1,
      λ below.
          rw (more, t.1)
          (collect_set held at.accesses at.count i c.in-Some.field-0-1.now (omega arith)
          (omega (arith, ap length (c.row_of.ensures below), t.0)) (t.2 ∙ ap (λ l. get_or l i 0) (c.row_of.ensures below))
          (at.invariant.2 below) c.if-asked-ne0.true),
    )

pub invariant_of-result : goal.invariant_of-result
invariant_of-result c =
    let at = c.loop-location in
    let end =
    YieldsList-end {s = c.into_iter-location-iterator.result}
    (YieldsList-from_zip (YieldsList-from_range 0 64 64 (cc) refl) (YieldsList-from_slice c.row_of.result (cc)))
    at.yielded at.location-iterator at.yielded_by c.next.result c.next.new.self c.in-None.is c.next.ensures.steps in
    let size : length c.row_of.result ≡ 64 = search rules in
    record {
      few = omega (arith, at.invariant.0, end.1, length-zip (range_with_len 0 64) c.row_of.result, length-range_with_len 0 64, size);
      whole = at.invariant.1;
    }

pub returns : goal.returns
returns c =
    let at = c.loop-location in
    let end =
    YieldsList-end {s = c.into_iter-location-iterator.result}
    (YieldsList-from_zip (YieldsList-from_range 0 64 64 (cc) refl) (YieldsList-from_slice c.row_of.result (cc)))
    at.yielded at.location-iterator at.yielded_by c.next.result c.next.new.self c.in-None.is c.next.ensures.steps in
    let whole : length c.row_of.result ≡ 64 = search rules in
    λ below.
    collect_all (row c.args.task c.args.modes.now) (take at.count at.accesses) (length at.yielded)
    (omega (arith, end.1, length-zip (range_with_len 0 64) c.row_of.result, length-range_with_len 0 64, ap length (c.row_of.ensures below)))
    (at.invariant.2 below)
