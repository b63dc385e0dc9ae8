-- The invariant: the number is at most `most`, and a turn took one byte at most. Assumes nothing.
use Rattle.std.proofs.Common.{◌≤◌}
use Rattle.cases.specs.Reads.{TakesAtMost}
use Rattle.cases.proofs.read_number.Given as goal

abbrev pub invariant-loop : goal.invariant-loop
invariant-loop g l = record {
  bounded : l.value ≤ l.most;
  taken : TakesAtMost l.counter (g.R.Read.remaining l.initial.input) (g.R.Read.remaining l.input);
}
