-- The loop adds the sections that are left. Assumes nothing.
use Rattle.std.proofs.Common.{arith}
use Rattle.hex_writer.proofs.Whole.{measure-start, measure-turn, measured}
use Rattle.hex_writer.proofs.text_length.Goals as goal

pub loop-k-init : goal.loop-k-init
loop-k-init c = measure-start _ c.requires

pub loop-k-preserved : goal.loop-k-preserved
loop-k-preserved c =
    let n = c.lines_length-sum.ensures in
    measure-turn c.loop-k.invariant (omega arith) _ c.section_at.ensures.section _ n.0 n.1

pub returns : goal.returns
returns c = measured c.loop-k.invariant (omega arith)
