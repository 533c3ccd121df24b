use Rattle.std.specs.Slice.Iter.{chunks_rest, chunks_size}
use Rattle.std.specs.Iterator.Adapters.{enumerate_source, enumerate_count}
use Rattle.lent.proofs.LendLaws.{Turns}
use Rattle.lent.proofs.lend.Given as goal

abbrev pub invariant-loop-turn : goal.invariant-loop-turn
invariant-loop-turn l =
    let left = enumerate_source l.turn-iterator in
    Turns l.fn.input l.fn.run l.run l.answers (chunks_rest left) (enumerate_count l.turn-iterator) (chunks_size left)
