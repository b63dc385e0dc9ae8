-- Laws of sections and header bytes. Assumes nothing.
use mathlib.Core.List.{List, [], ◌∷◌}
use mathlib.Core.Path.{◌≡◌, refl, ap, ◌∙◌}
use Prim.Native.Nat.{ℕ, zero, suc, ◌+◌, ◌≤◌, ◌<◌}
use native.Mathlib.Omega.{arith}
use lib.ListN.{length, get_or, take, drop, length-drop}
use lib.Seq.{drop-cons, take_all, length-take-le}
use Rattle.sections.specs.Sections.{location_bytes}
use Rattle.image.specs.declared.Header.{Header}
use Rattle.sections.specs.declared.Location.{Location}
use Rattle.sections.specs.declared.Location.TheVariants.{InFlash, InProtection, InHeader}
use Rattle.parts.specs.Sizes.{flash_size, lock_total, image_size}
use Rattle.parts.specs.declared.Geometry.{Geometry}

-- n elements from i on, one by one
abbrev pub spread : (i n : ℕ) → List ℕ → List ℕ
spread i zero l = []
spread i (suc n) l = get_or l i 0 ∷ spread (suc i) n l

pub spread-part : (i n : ℕ) (l : List ℕ) → i + n ≤ length l → spread i n l ≡ take n (drop i l)
spread-part i zero l h = refl
spread-part i (suc n) l h =
    let first : i < length l = omega arith in
    rw (drop-cons l i 0 first) (ap (λ (r : List ℕ). get_or l i 0 ∷ r) (spread-part (suc i) n l (omega arith)))

pub spread-all : (n : ℕ) (l : List ℕ) → length l ≡ n → spread 0 n l ≡ l
spread-all n l e = spread-part 0 n l (omega arith) ∙ take_all n l (omega arith)

-- a header of its fields
abbrev pub header_with : (part macros sum : ℕ) → List ℕ → (level : ℕ) → Header
header_with p m s d l = record { part = p; macros = m; sum = s; metadata = d; level = l }

-- how many bytes each location of an image has
abbrev pub location_size : Geometry → Location → ℕ
location_size g InFlash = flash_size g
location_size g InProtection = lock_total g
location_size g InHeader = 15

pub location-length : (g : Geometry) (image header : List ℕ) (l : Location) → length image ≡ image_size g → length header ≡ 15
    → length (location_bytes g image header l) ≡ location_size g l
unfolding image_size
location-length g image header InFlash a b = length-take-le (flash_size g) image (omega arith)
location-length g image header InProtection a b = omega (arith, length-drop (flash_size g) image)
location-length g image header InHeader a b = b
