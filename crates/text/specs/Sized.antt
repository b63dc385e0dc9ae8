-- What the functions that read or write sections ask for: the sizes of an image of a part in the table, and where its sections lie. Assumes
-- nothing.
use Rattle.std.specs.Prelude.{List, ◌≡◌, ℕ, ◌+◌, ◌≤◌, ◌<◌, length, take, drop}
use Rattle.image.specs.declared.Header.{Header}
use Rattle.sections.specs.declared.Section.{Section}
use Rattle.parts.specs.Sizes.{flash_size, lock_total, image_size}
use Rattle.parts.specs.declared.Geometry.{Geometry}
use Rattle.text.specs.Placing.{Piece, cut, pieces_in}

-- the sizes of a part in the table
pub record TableSizes (g : Geometry) : Type 0 where
  pub flash-some : 0 < flash_size g
  pub flash-most : flash_size g ≤ 131072
  pub locks-some : 0 < lock_total g
  pub locks-most : lock_total g ≤ 128

-- an image of a geometry's sizes
pub record Sized (g : Geometry) (h : Header) (bytes : List ℕ) : Type 0 where
  pub sizes : TableSizes g
  pub metadata : length h.metadata ≡ 12
  pub exact : length bytes ≡ image_size g

-- a section's bytes are there, among those of its location, and its addresses have 32 bits
pub record Laid (part : List ℕ) (s : Section) : Type 0 where
  pub some : 0 < s.size
  pub small : s.offset + s.size ≤ 33554432
  pub high : s.address + s.size + 64 ≤ 0x100000000
  pub inside : s.offset + s.size ≤ length part

-- the pieces of a section, out of the bytes of its location
abbrev pub pieces_of : (part : List ℕ) → Section → List Piece
pieces_of part s = cut (pieces_in s) s.address (take s.size (drop s.offset part))
