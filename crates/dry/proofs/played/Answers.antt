-- Demand 3 says how the turns end. Assumes nothing.
use Rattle.std.proofs.Common.{ap, arith}
use Rattle.std.specs.Prelude.{Ok}
use Rattle.session.specs.Told.{outcome_told}
use Rattle.dry.proofs.Playing.{first-turn, next-turn, report-planned, report-comes}
use Rattle.dry.proofs.played.Goals as goal

pub loop-init : goal.loop-init
loop-init c = first-turn c.requires.0

pub returns-in-Reported : goal.returns-in-Reported
returns-in-Reported c =
    let e = ap (λ o. outcome_told (Ok o)) c.in-Reported.is in
    rw e at (report-planned c.loop.invariant c.requires.1 e)

pub loop-preserved : goal.loop-preserved
loop-preserved c =
    let t = c.take_turn-m in
    next-turn c.loop.invariant (omega (arith, c.loop-test.true)) (ap (λ o. outcome_told (Ok o)) c.in-Ask.is) t.ensures t.auto.flash t.auto.locks t.auto.latch t.auto.params

pub returns : goal.returns
returns c = rw c.report_in.ensures (report-comes c.loop.invariant c.requires.1 (omega arith))
