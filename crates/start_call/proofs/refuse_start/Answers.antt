-- The session cleared, the refusal put. Assumes nothing.
use Rattle.std.proofs.Common.{◌∙◌}
use Rattle.calls.proofs.Called.{zero-session}
use Rattle.start_call.proofs.refuse_start.Goals as goal

pub returns-clause-bytes_after : goal.returns-clause-bytes_after
returns-clause-bytes_after c = c.clear.ensures.cleared ∙ zero-session c.args.bytes.now
