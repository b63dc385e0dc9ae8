-- The loop adds the sections that are left. Assumes nothing.
use Rattle.hex_writer.proofs.Whole.{Measuring}
use Rattle.hex_writer.proofs.text_length.Given as goal

abbrev pub invariant-loop-k : goal.invariant-loop-k
invariant-loop-k l = Measuring l.g l.sum l.k
