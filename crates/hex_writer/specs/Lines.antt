-- What the functions that put lines leave. Assumes nothing.
use Rattle.std.specs.Prelude.{List, [], ◌∷◌, ℕ, ◌+◌, length}
use Rattle.hex_format.specs.Written.{lines_from, upper_of}
use Rattle.hex_writer.specs.declared.Position.{Position}
use Rattle.text.specs.Placing.{Piece}

abbrev pub one_piece : (address : ℕ) (bytes : List ℕ) → List Piece
one_piece a bs = record { address = a; bytes = bs } ∷ []

-- the upper half that the last of some pieces leaves
unfoldable pub upper_past : (upper : ℕ) → List Piece → ℕ
upper_past upper [] = upper
upper_past upper (p ∷ ps) = upper_past (upper_of p.address) ps

-- where the text goes on after the lines of some pieces
unfoldable pub position_after : Position → List Piece → Position
position_after w ps = record { at = w.at + length (lines_from w.upper ps); upper = upper_past w.upper ps }
