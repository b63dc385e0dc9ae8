-- The five sections of an image, for every text format: document 01, 'Hex text'. Assumes nothing.
use Rattle.std.specs.Prelude.{List, [], ◌∷◌, ◌++◌, ℕ, ◌/◌, ◌%◌, ◌+◌, ◌*◌, get_or, take, drop}
use Rattle.image.specs.Image.{flash_in, protection_in}
use Rattle.image.specs.declared.Header.{Header}
use Rattle.sections.specs.declared.Location.{Location}
use Rattle.sections.specs.declared.Location.TheVariants.{InFlash, InProtection, InHeader}
use Rattle.sections.specs.declared.Section.{Section}
use Rattle.parts.specs.Sizes.{flash_size, lock_total}
use Rattle.parts.specs.declared.Geometry.{Geometry}

-- 'flash at 0, sum (2 bytes, high first) at 0x90300000, protection at 0x90400000, metadata (12) at 0x90500000, level (1) at
-- 0x90600000', each with where its bytes lie
abbrev pub sections_of : Geometry → List Section
sections_of g =
    record { address = 0; size = flash_size g; location = InFlash; offset = 0 }
    ∷ record { address = 0x90300000; size = 2; location = InHeader; offset = 0 }
    ∷ record { address = 0x90400000; size = lock_total g; location = InProtection; offset = 0 }
    ∷ record { address = 0x90500000; size = 12; location = InHeader; offset = 2 }
    ∷ record { address = 0x90600000; size = 1; location = InHeader; offset = 14 }
    ∷ []

-- past the last section
abbrev pub no_section : Section
no_section = record { address = 0; size = 0; location = InFlash; offset = 0 }

-- what a text says of a header: the sum, high byte first, the metadata and the level
abbrev pub header_sections : Header → List ℕ
header_sections h = h.sum / 256 ∷ h.sum % 256 ∷ (h.metadata ++ (h.level ∷ []))

-- the header that such bytes make
abbrev pub header_of : (part macros : ℕ) → List ℕ → Header
header_of part macros bs = record {
  part = part;
  macros = macros;
  sum = 256 * get_or bs 0 0 + get_or bs 1 0;
  metadata = take 12 (drop 2 bs);
  level = get_or bs 14 0;
}

-- the bytes of a location, out of an image's bytes and a header's; 'The protection bytes (N / 8) follow the flash bytes (N × L) in it.'
abbrev pub location_bytes : Geometry → (image header : List ℕ) → Location → List ℕ
location_bytes g image header InFlash = flash_in g image
location_bytes g image header InProtection = protection_in g image
location_bytes g image header InHeader = header

-- the bytes of a section
abbrev pub section_bytes : Geometry → Header → (image : List ℕ) → Section → List ℕ
section_bytes g h image s = take s.size (drop s.offset (location_bytes g image (header_sections h) s.location))
