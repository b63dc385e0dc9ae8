-- As many as macro 0's for each macro below. Assumes nothing.
use Rattle.std.proofs.Common.{sym}
use Rattle.parts.proofs.Locks.{start-product}
use Rattle.parts.proofs.lock_start.Goals as goal

pub returns-clause-start : goal.returns-clause-start
returns-clause-start c = rw c.locks_in.ensures.size (sym (start-product c.args.g c.args.m))
