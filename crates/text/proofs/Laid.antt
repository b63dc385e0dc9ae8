-- The sections of a part in the table have room, and those of an image of it have their bytes. Assumes nothing.
use mathlib.Core.List.{List, [], ◌∷◌}
use mathlib.Core.Path.{◌≡◌}
use Prim.Native.Nat.{ℕ, zero, suc, ◌+◌, ◌≤◌, ◌<◌}
use native.Mathlib.Omega.{arith}
use lib.ListN.{length, get_or, take, drop, length-append, length-take, length-drop}
use Rattle.sections.proofs.Sections.{location_size, location-length}
use Rattle.sections.specs.Sections.{sections_of, no_section, section_bytes, location_bytes, header_sections}
use Rattle.image.specs.declared.Header.{Header}
use Rattle.sections.specs.declared.Location.{Location}
use Rattle.sections.specs.declared.Section.{Section}
use Rattle.parts.specs.declared.Geometry.{Geometry}
use Rattle.text.proofs.Pieces.{Filled}
use Rattle.text.specs.Sized.{TableSizes, Sized, Laid}

-- a section that has room in its location, and whose addresses have 32 bits
pub record Roomy (g : Geometry) (s : Section) : Type 0 where
  pub room : s.offset + s.size ≤ location_size g s.location
  pub end : s.offset + s.size ≤ 131072
  pub addresses : s.address + s.size + 64 ≤ 0x100000000

module _ (g : Geometry) (z : TableSizes g) where
  pub roomy-at : (k : ℕ) → Roomy g (get_or (sections_of g) k no_section)
  roomy-at zero = record { room = omega arith; end = omega (arith, z.flash-most); addresses = omega (arith, z.flash-most) }
  roomy-at (suc zero) = record { room = omega arith; end = omega arith; addresses = omega arith }
  roomy-at (suc (suc zero)) = record { room = omega arith; end = omega (arith, z.locks-most); addresses = omega (arith, z.locks-most) }
  roomy-at (suc (suc (suc zero))) = record { room = omega arith; end = omega arith; addresses = omega arith }
  roomy-at (suc (suc (suc (suc zero)))) = record { room = omega arith; end = omega arith; addresses = omega arith }
  roomy-at (suc (suc (suc (suc (suc k))))) = record { room = omega arith; end = omega arith; addresses = omega arith }

  pub some_at : (k : ℕ) → k < 5 → 0 < (get_or (sections_of g) k no_section).size
  some_at zero i = z.flash-some
  some_at (suc zero) i = omega arith
  some_at (suc (suc zero)) i = z.locks-some
  some_at (suc (suc (suc zero))) i = omega arith
  some_at (suc (suc (suc (suc zero)))) i = omega arith
  some_at (suc (suc (suc (suc (suc k))))) i = absurd (omega arith)

section-size : (part : List ℕ) (s : Section) → Laid part s → length (take s.size (drop s.offset part)) ≡ s.size
section-size part s l = omega (arith, length-take s.size (drop s.offset part), length-drop s.offset part, l.inside)

module _ {g : Geometry} {h : Header} {bytes : List ℕ} (z : Sized g h bytes) where
  pub header-size : length (header_sections h) ≡ 15
  header-size = omega (arith, length-append h.metadata (h.level ∷ []), z.metadata)

  pub room_at : (l : Location) → length (location_bytes g bytes (header_sections h) l) ≡ location_size g l
  room_at l = location-length g bytes (header_sections h) l z.exact header-size

  pub laid-at : (k : ℕ) → k < 5 → Laid (location_bytes g bytes (header_sections h) (get_or (sections_of g) k no_section).location) (get_or (sections_of g) k no_section)
  laid-at k i =
      let r = roomy-at g z.sizes k in
      record {
        some = some_at g z.sizes k i;
        small = omega (arith, r.end);
        high = r.addresses;
        inside = omega (arith, r.room, room_at (get_or (sections_of g) k no_section).location);
      }

  pub size-at : (k : ℕ) → k < 5 → length (section_bytes g h bytes (get_or (sections_of g) k no_section)) ≡ (get_or (sections_of g) k no_section).size
  size-at k i = section-size _ (get_or (sections_of g) k no_section) (laid-at k i)

  -- sections with bytes
  pub all-filled : Filled (section_bytes g h bytes) (sections_of g)
  all-filled = (
    some_at g z.sizes 0 (omega arith),
    size-at 0 (omega arith),
    (
      omega arith,
      size-at 1 (omega arith),
      (some_at g z.sizes 2 (omega arith), size-at 2 (omega arith), (omega arith, size-at 3 (omega arith), (omega arith, size-at 4 (omega arith), tt))),
    ),
  )
