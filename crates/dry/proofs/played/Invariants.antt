-- The board and the session keep what demand 3 speaks of. Assumes nothing.
use Rattle.std.specs.Prelude.{Ok}
use Rattle.bench_calls.specs.Board.{lent}
use Rattle.dry.specs.Playing.{moment}
use Rattle.dry.proofs.Playing.{Playing}
use Rattle.session.specs.Told.{outcome_told}
use Rattle.dry.proofs.played.Given as goal

abbrev pub invariant-loop : goal.invariant-loop
invariant-loop l =
    Playing l.g l.image
    (moment l.fn.first.session (outcome_told (Ok l.fn.first.stands)) l.fn.first.registers (lent l.fn.flash l.fn.locks l.fn.latch l.fn.params))
    (moment l.m.session (outcome_told (Ok l.m.stands)) l.m.registers (lent l.flash l.locks l.latch l.params)) l.counter
