-- What the private functions may rely on: the session's geometry and the lent image. Assumes nothing.
use Rattle.std.specs.Prelude.{List, ◌≡◌, ℕ, length, Ok}
use Rattle.parts.specs.Parts.{lookup_of}
use Rattle.parts.specs.Sizes.{image_size}
use Rattle.parts.specs.declared.Geometry.{Geometry}
use Rattle.session.specs.declared.Session.{Session}

-- the geometry is the session's, and the lent bytes are of its size
pub record Lent (g : Geometry) (s : Session) (bytes : List ℕ) : Type 0 where
  pub found : lookup_of s.header.part s.header.macros ≡ Ok g
  pub size : length bytes ≡ image_size g
