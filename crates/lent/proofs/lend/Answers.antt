-- Call by call of the first bytes, until none is left. Assumes nothing.
use Rattle.std.proofs.Common.{◌≡◌, ◌∷◌, [], rules, ap, ◌∙◌, replicate, refl}
use Rattle.std.specs.Slice.Iter.{chunks_rest, chunks_size}
use Rattle.std.specs.Iterator.Adapters.{enumerate_source, enumerate_count}
use Rattle.lent.specs.Lines.{line_number}
use Rattle.lent.proofs.LendLaws.{first_turn, next_turn, last_turn}
use Rattle.lent.proofs.lend.Goals as goal

pub loop-turn-init : goal.loop-turn-init
loop-turn-init c =
    let is = c.into_iter-turn-iterator.ensures.into_iter_gives in
    let from = ap enumerate_source is ∙ c.enumerate-turn-items.ensures.source in
    first_turn c.args.input.now c.args.run (replicate 256 0) _ c.min.result _ _ c.min.ensures refl
    (ap enumerate_count is ∙ c.enumerate-turn-items.ensures.count) (ap chunks_size from ∙ c.chunks.ensures.size) (ap chunks_rest from ∙ c.chunks.ensures.rest)

pub loop-turn-preserved : goal.loop-turn-preserved
loop-turn-preserved c =
    let at = c.loop-turn in
    let steps = c.in-Some.ensures.steps in
    let n : c.map_or.result ≡ line_number c.line_of.result = search rules in
    next_turn c.args.input.now c.args.run at.run c.line_of.new.run at.answers _ c.in-Some.call.now _ _ _ _ _ c.in-Some.turn c.map_or.result
    at.invariant steps.0 steps.1 steps.2 c.line_of.ensures.made (λ s. ap (λ k. k ∷ []) n ∙ c.line_of.ensures.line s)

pub returns : goal.returns
returns c =
    let at = c.loop-turn in
    last_turn c.args.input.now c.args.run at.run at.answers _ c.min.result _ _ c.div_ceil.result c.min.ensures at.invariant
    c.in-None.ensures.steps.0.1.0 c.div_ceil.ensures
