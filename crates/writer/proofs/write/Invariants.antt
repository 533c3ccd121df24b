use Rattle.std.proofs.Common.{◌+◌, length}
use Rattle.std.proofs.lemmas.List.Edits.{sets}
use Rattle.tasklist.specs.Encode.{joined, footprint_bytes, body_bytes}
use Rattle.tasklist.specs.Tables.{list_of}
use Rattle.tasklist.proofs.WriterLaws.{Put}
use Rattle.writer.proofs.write.Given as goal

-- the footprints from f on are still to be put
abbrev pub invariant-loop-f : goal.invariant-loop-f
invariant-loop-f l =
    let footprints = (list_of l.tables).footprints in
    Put footprint_bytes footprints (sets l.initial.out 5 (joined footprint_bytes footprints)) (5 + length (joined footprint_bytes footprints)) l.out l.at l.f

-- and the bodies from s on
abbrev pub invariant-loop-s : goal.invariant-loop-s
invariant-loop-s l =
    let bodies = (list_of l.tables).bodies in
    Put body_bytes bodies (sets l.initial.out l.initial.at (joined body_bytes bodies)) (l.initial.at + length (joined body_bytes bodies)) l.out l.at l.s
