-- The move at an index of the sequence. Assumes nothing.
use Rattle.std.specs.Prelude.{cond, ◌&&◌, List, ℕ, eqb, length}
use Rattle.flow.specs.Sequence.{end_move}
use Rattle.flow.specs.Session.{position, move_at}
use Rattle.flow.specs.declared.Entry.{Entry}
use Rattle.flow.specs.declared.Move.{Move}
use Rattle.image.specs.Image.{image_of}
use Rattle.image.specs.declared.Header.{Header}
use Rattle.moves.specs.Handled.{handles}
use Rattle.parts.specs.Sizes.{image_size}
use Rattle.parts.specs.declared.Geometry.{Geometry}

-- the sequence's move at an index where the geometry is handled and the image of exact size; else, and past the end, the end move
abbrev pub move_of : Geometry → Header → List ℕ → Entry → (index : ℕ) → Move
move_of g h bytes y n = cond (handles g && eqb (length bytes) (image_size g)) (move_at (image_of g h bytes) (position y n)) end_move
