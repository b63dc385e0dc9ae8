-- Document 01, 'Parts': an image as a header beside lent bytes. Assumes nothing.
use Rattle.std.specs.Prelude.{List, ℕ, take, drop, replicate}
use Rattle.image.specs.declared.Header.{Header}
use Rattle.parts.specs.Sizes.{flash_size}
use Rattle.parts.specs.declared.Geometry.{Geometry}

-- an image of a part in the table; the header is document 01's 'record' ('part, M, 16-bit sum, 12 metadata bytes, level')
pub record Image : Type 0 where
  pub geometry : Geometry
  pub header : Header
  pub flash : List ℕ
  pub protection : List ℕ

-- 'The protection bytes (N / 8) follow the flash bytes (N × L) in it.'
abbrev pub flash_in : Geometry → List ℕ → List ℕ
flash_in g bytes = take (flash_size g) bytes

abbrev pub protection_in : Geometry → List ℕ → List ℕ
protection_in g bytes = drop (flash_size g) bytes

-- 'A record, session or length given with a refusal is all 0.'
abbrev pub no_header : Header
no_header = record { part = 0; macros = 0; sum = 0; metadata = replicate 12 0; level = 0 }

abbrev pub image_of : Geometry → Header → List ℕ → Image
image_of g h bytes = record { geometry = g; header = h; flash = flash_in g bytes; protection = protection_in g bytes }
