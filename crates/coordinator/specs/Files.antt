-- What open answers, by the two files.
use Rattle.std.specs.Prelude.{ℕ, List, take, Option, Some, None, Result}
use Rattle.library.specs.Library.{memory_of}
use Rattle.semantics.specs.Run.{fixed_weights}
use Rattle.semantics.specs.Operations.{open_asked}
use Rattle.runtime.specs.declared.Run.{Run}
use Rattle.runtime.specs.declared.OpenRefusal.{OpenRefusal}
use Rattle.runtime.specs.Asked.{Unopened, OpenedAs}

-- How much of jobs.bin was read into a buffer, and the bytes of library.bin. Request 101: "The coordinator still prints `refused 1`
-- where jobs.bin can't be read."
abbrev pub OpenedFrom : Option ℕ → List ℕ → List ℕ → Result Run OpenRefusal → Type 0
OpenedFrom None jobs library r = Unopened 1 r
OpenedFrom (Some n) jobs library r = OpenedAs (take n jobs) fixed_weights (open_asked (take n jobs) (memory_of library) fixed_weights) r
