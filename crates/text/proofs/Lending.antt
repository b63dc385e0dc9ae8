-- What the section filler leaves of the three locations, by the part that it was lent. Assumes nothing.
use mathlib.Core.List.{List}
use mathlib.Core.Path.{◌≡◌}
use Prim.Native.Nat.{ℕ}
use Rattle.image.specs.Image.{flash_in, protection_in}
use Rattle.sections.specs.Sections.{location_bytes}
use Rattle.sections.specs.declared.Location.{Location}
use Rattle.sections.specs.declared.Location.TheVariants.{InFlash, InProtection, InHeader}
use Rattle.sections.specs.declared.Section.{Section}
use Rattle.parts.specs.declared.Geometry.{Geometry}
use Rattle.text.specs.Scanning.{filled_in}

-- what storing payload leaves of the parts, as the contract has it, and of every location
module _ (g : Geometry) (due : Section) (row : List ℕ) (from count : ℕ) (image header image' header' : List ℕ) where
  abbrev pub Stored : Type 0
  Stored =
      (flash_in g image' ≡ filled_in due row from count InFlash (flash_in g image))
      × ((protection_in g image' ≡ filled_in due row from count InProtection (protection_in g image)) × (header' ≡ filled_in due row from count InHeader header))

  pub everywhere : Stored → (l : Location) → location_bytes g image' header' l ≡ filled_in due row from count l (location_bytes g image header l)
  everywhere s InFlash = s.0
  everywhere s InProtection = s.1.0
  everywhere s InHeader = s.1.1
