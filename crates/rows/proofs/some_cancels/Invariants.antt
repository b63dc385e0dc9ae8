-- The invariant: the rows left decide. Assumes nothing.
use Rattle.std.proofs.Common.{◌≡◌, ◌-◌}
use Rattle.rows.specs.Cancels.{some_cancels}
use Rattle.rows.proofs.some_cancels.Given as goal

abbrev pub invariant-rows : goal.invariant-rows
invariant-rows l = some_cancels l.size (l.n - l.counter) l.rest ≡ some_cancels l.size l.n l.bytes
