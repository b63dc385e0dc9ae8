-- How many bytes a latch call can be for. Assumes nothing.
use Rattle.std.specs.Prelude.{◌&&◌, cond, List, [], ℕ, leb, length}
use Rattle.flow.specs.declared.Move.{Move}

-- the moves for 1 to 1024 bytes, as every row and every macro's locks have; none for others, so that the end move is at every index
abbrev pub latched : (bytes : List ℕ) → List Move → List Move
latched bytes ms = cond (leb 1 (length bytes) && leb (length bytes) 1024) ms []
