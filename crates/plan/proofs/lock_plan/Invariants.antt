-- The sum up to macro m. Assumes nothing.
use Rattle.std.proofs.Common.{◌≡◌, ◌*◌, ◌≤◌}
use Rattle.flow.specs.Plan.{lock_plan}
use Rattle.plan.proofs.lock_plan.Given as goal

abbrev pub invariant-loop-m : goal.invariant-loop-m
invariant-loop-m l = record { summed : l.sum ≡ lock_plan l.g l.m; small : l.sum ≤ l.m * 10262 }
