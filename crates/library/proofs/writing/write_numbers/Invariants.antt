use Rattle.std.proofs.Common.{◌≡◌, ◌*◌, ◌++◌, take, drop}
use Rattle.library.specs.Library.{bytes_of}
use Rattle.library.proofs.writing.write_numbers.Given as goal

abbrev pub invariant-loop-i : goal.invariant-loop-i
invariant-loop-i l = l.out ≡ bytes_of (take l.i l.numbers) ++ drop (4 * l.i) l.initial.out
