-- What the coordinator prints: document 01, "Publishing examples", its last paragraph.
use Rattle.std.specs.Prelude.{ℕ, List, ◌++◌}
use Rattle.tasklist.specs.Decode.{decode}
use Rattle.tasklist.specs.Encode.{joined}
use Rattle.library.specs.Library.{memory_of}
use Rattle.semantics.specs.Run.{Run, Context, fixed_weights, initial}
use Rattle.semantics.specs.Call.{after_all}
use Rattle.semantics.specs.Operations.{with_list}
use Rattle.lent.specs.Lines.{calls_in, lines}
use Rattle.wording.specs.Wording.{line, closing, printed}

-- "one line per call, 0 or the refusal (another kind, or half a call: 18)", then what closes the transcript of the run that
-- the calls leave
unfoldable pub lines_from : Context → Run → List ℕ → List ℕ
lines_from c r input = joined line (lines c r input) ++ closing (after_all c r (calls_in input))

-- The whole output, by the bytes of jobs.bin, library.bin and standard input: open asks as ever, "as check, then 8". Request 105:
-- "Coordinator and preview pass today's numbers".
unfoldable pub transcript : List ℕ → List ℕ → List ℕ → List ℕ
transcript jobs library input =
    let memory = memory_of library in
    printed (with_list (decode jobs) memory fixed_weights (λ c. lines_from c (initial c memory) input))
