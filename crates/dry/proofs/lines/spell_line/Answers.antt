-- The word, the digits, the line end. Assumes nothing.
use Rattle.std.proofs.Common.{arith}
use Rattle.dry.proofs.Lining.{rest-kept}
use Rattle.dry.proofs.lines.spell_line.Goals as goal

pub returns-clause-line_unchanged : goal.returns-clause-line_unchanged
returns-clause-line_unchanged c =
    rest-kept c.args.line.now c.put-first.new.line c.put-second.new.line c.put.new.line c.put-first.result c.put-second.result c.put.result (omega arith) (omega arith)
    c.put-first.ensures.line_unchanged c.put-second.ensures.line_unchanged c.put.ensures.line_unchanged
