-- How many moves parts of the sequence have. Assumes nothing.
use Rattle.std.specs.Prelude.{ℕ, length}
use Rattle.flow.specs.Sequence.{program}
use Rattle.flow.specs.Session.{bare}
use Rattle.parts.specs.declared.Geometry.{Geometry}

-- the moves of steps 4 to 9
abbrev pub program_count : Geometry → ℕ
program_count g = length (program (bare g))
