-- Blank tables with one location and one body.
-- Assumes nothing.
use Rattle.reader.proofs.ReadingLaws.{empty_tabled}
use Rattle.reader.proofs.reader.read_empty.Goals as goal

pub returns : goal.returns
returns c = empty_tabled c.blank.result c.blank.ensures
