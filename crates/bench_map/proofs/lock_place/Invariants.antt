-- The macros from m on decide. Assumes nothing.
use Rattle.std.proofs.Common.{◌≡◌, ◌-◌}
use Rattle.bench_map.proofs.Mapping.{locks_from}
use Rattle.bench_map.proofs.lock_place.Given as goal

abbrev pub invariant-loop-m : goal.invariant-loop-m
invariant-loop-m l = locks_from l.g l.m (l.g.macros - l.m) l.a ≡ locks_from l.g 0 l.g.macros l.a
