-- 11 where the look-up refuses. Assumes nothing.
use Rattle.std.proofs.Common.{sym}
use Rattle.calls.proofs.Called.{not_found}
use Rattle.start_call.proofs.under_size.Goals as goal

pub returns-in-Err : goal.returns-in-Err
returns-in-Err c = record { number = not_found c.args.part c.args.macros c.in-Err.refusal (sym c.in-Err.ensures.found) }
