-- The board, then the session, by their own promises. Assumes nothing.
use Rattle.bench_calls.specs.Board.{lent}
use Rattle.dry.specs.Playing.{moment}
use Rattle.dry.proofs.Turning.{turn-taken}
use Rattle.session.specs.Outcomes.{Ask}
use Rattle.dry.proofs.take_turn.Goals as goal

pub returns : goal.returns
returns c =
    let a = c.args in
    let l = c.meet-met.new.memory in
    turn-taken a.g a.image.now a.p (moment a.m.session (Ask a.p) a.m.registers (lent a.flash.now a.locks.now a.latch.now a.params.now)) (lent l.0 l.1.0 l.1.1.0 l.1.1.1.0)
    c.meet-met.result c.calm_event.ensures c.calm.ensures.calm c.meet-met.ensures.met c.step-given.ensures.given c.standing_after.ensures
