-- The loop puts the sections that are left. Assumes nothing.
use Rattle.hex_writer.proofs.Whole.{Through, page}
use Rattle.hex_writer.proofs.put_sections.Given as goal

abbrev pub invariant-loop-k : goal.invariant-loop-k
invariant-loop-k l = Through (page l.fn.text l.fn.position) l.g l.h l.bytes (page l.text l.w) l.k
