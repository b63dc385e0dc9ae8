-- By the busy reads left. Assumes nothing.
use Rattle.std.proofs.Common.{refl}
use Rattle.bench_board.proofs.Wording.{ended-there, still-busy}
use Rattle.bench_board.proofs.words.tick_busy.Goals as goal

pub returns-then-call-eq0 : goal.returns-then-call-eq0
returns-then-call-eq0 c =
    let a = c.args in
    ended-there a.g a.buffers.flash.now a.buffers.params.now a.r a.other a.call c.complete.result c.post_sysreq.result
    c.if-call-eq0.true c.complete.ensures.ended c.post_sysreq.ensures

pub returns : goal.returns
returns c =
    let a = c.args in
    rw c.ask.ensures (still-busy a.g a.buffers.flash.now a.buffers.params.now a.r a.other a.call c.if-call-eq0.false _ (rw c.one_less.ensures refl))
