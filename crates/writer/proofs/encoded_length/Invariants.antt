use Rattle.std.proofs.Common.{◌≡◌, ◌+◌, ◌*◌, ◌≤◌, length}
use Rattle.tasklist.specs.Encode.{joined, footprint_bytes, body_bytes}
use Rattle.tasklist.specs.Tables.{list_of}
use Rattle.tasklist.proofs.WriterLaws.{rest_from}
use Rattle.writer.proofs.encoded_length.Given as goal

-- what the footprints from f on still add
abbrev pub invariant-loop-f : goal.invariant-loop-f
invariant-loop-f l =
    let footprints = (list_of l.tables).footprints in
    record {
      whole : l.length + length (rest_from footprint_bytes footprints l.f) ≡ 5 + length (joined footprint_bytes footprints);
      most : l.length ≤ 5 + 19 * l.f;
    }

-- and the bodies from s on
abbrev pub invariant-loop-s : goal.invariant-loop-s
invariant-loop-s l =
    let bodies = (list_of l.tables).bodies in
    record {
      whole : l.length + length (rest_from body_bytes bodies l.s) ≡ l.initial.length + length (joined body_bytes bodies);
      most : l.length ≤ 613 + 131 * l.s;
    }
