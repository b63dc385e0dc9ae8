-- No macro, and one macro more. Assumes nothing.
use Rattle.std.proofs.Common.{sym, arith}
use Rattle.plan.proofs.Bounds.{none-planned, next-planned}
use Rattle.plan.proofs.lock_plan.Goals as goal

pub loop-m-init : goal.loop-m-init
loop-m-init c = record { summed = sym (none-planned c.args.g); small = omega arith }

pub loop-m-preserved : goal.loop-m-preserved
loop-m-preserved c = record {
  summed = omega (arith, next-planned c.args.g c.loop-m.m, c.locks_in.ensures.size, c.loop-m.invariant.summed);
  small = omega arith;
}
