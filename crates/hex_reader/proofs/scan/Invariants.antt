-- What the rest comes to after the bytes done, and those are laid where they belong.
use Rattle.std.proofs.Common.{length, ◌-◌}
use Rattle.hex_reader.proofs.Scans.{Here}
use Rattle.text.proofs.Scans.{buffers, filling}
use Rattle.hex_reader.proofs.scan.Given as goal

abbrev pub invariant-loop-next : goal.invariant-loop-next
invariant-loop-next l = Here l.g l.text (buffers l.fn.image l.fn.header) (filling l.image l.header l.due) l.at l.upper

abbrev pub decreases-loop-next : goal.decreases-loop-next
decreases-loop-next l = length l.text - l.at
