-- A hundred times the calls has 32 bits.
-- Assumes nothing.
use Rattle.host_rounds.proofs.LineLaws.{few_calls}
use Rattle.host_rounds.proofs.lines.percent_used.Goals as goal

pub overflow_mul-calls : goal.overflow_mul-calls
overflow_mul-calls c = record { fits = few_calls c.args.calls c.requires.0 }
