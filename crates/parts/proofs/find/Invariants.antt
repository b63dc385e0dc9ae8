-- The entries that are left decide the look-up. Assumes nothing.
use Rattle.std.proofs.Common.{◌≡◌, drop}
use Rattle.parts.specs.Parts.{look_in, part_table}
use Rattle.parts.proofs.find.Given as goal

abbrev pub invariant-loop-part : goal.invariant-loop-part
invariant-loop-part l = look_in (drop l.part-index part_table) l.number l.macros ≡ look_in part_table l.number l.macros
