-- The most of a part of the table fits in 32 bits. Assumes nothing.
use Rattle.std.proofs.Common.{arith}
use Rattle.session.proofs.Limits.{most-small}
use Rattle.session.proofs.moving.capped.Goals as goal

pub overflow_cast-result : goal.overflow_cast-result
overflow_cast-result c =
    let h = c.args.held.now in
    omega (arith, c.min.ensures, c.most_transfers.ensures.most, most-small h.session.header.part h.session.header.macros h.lent.found)
