use Rattle.std.proofs.Common.{◌≡◌, take}
use Rattle.casecheck.specs.File.{words_of}
use Rattle.casecheck.proofs.file.words.Given as goal

abbrev pub invariant-loop-i : goal.invariant-loop-i
invariant-loop-i l = take l.i l.room ≡ take l.i (words_of l.bytes)
