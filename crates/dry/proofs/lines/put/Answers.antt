-- What stands behind the bytes stays. Assumes nothing.
use Rattle.std.proofs.Common.{rules}
use Rattle.std.proofs.lemmas.Slice.{overwrites}
use Rattle.dry.proofs.lines.put.Goals as goal

pub returns-clause-line_unchanged : goal.returns-clause-line_unchanged
returns-clause-line_unchanged c = search (rules, overwrites)
