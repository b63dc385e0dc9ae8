-- A written text reads back, in every format that has the laws of writing. Assumes nothing.
use mathlib.Core.Bool.{Bool, cond}
use mathlib.Core.List.{List, [], ◌∷◌, ◌++◌, append-nil}
use mathlib.Core.Path.{◌≡◌, sym, ap, ◌∙◌}
use Prim.Native.Nat.{ℕ, ◌+◌, ◌*◌, ◌/◌, ◌%◌, ◌≤◌, ◌<◌}
use native.Mathlib.Omega.{arith}
use borrow.Author.Tests.{le-leb}
use lib.ListN.{length, get_or, take, drop, length-drop, take-append-drop}
use lib.Seq.{take_all, take_at, get_or_at, drop-drop}
use Rattle.sections.proofs.Sections.{header_with}
use Rattle.image.specs.Checks.{image_fault}
use Rattle.image.specs.Image.{flash_in, protection_in}
use Rattle.sections.specs.Sections.{sections_of, no_section, section_bytes, location_bytes, header_sections, header_of}
use Rattle.image.specs.declared.Header.{Header}
use Rattle.sections.specs.declared.Location.{Location}
use Rattle.sections.specs.declared.Location.TheVariants.{InFlash, InProtection, InHeader}
use Rattle.sections.specs.declared.Section.{Section}
use Rattle.parts.specs.Parts.{Lookup, lookup_of}
use Rattle.parts.specs.Sizes.{flash_size, lock_total, image_size}
use Rattle.parts.specs.declared.Geometry.{Geometry}
use Rattle.pairs.proofs.Capitals.{AllBytes, bytes-all, bytes-append, bytes_take, bytes_drop}
use Rattle.text.proofs.Formats.{WritingLaws, Aligned, pieces-fit}
use Rattle.text.proofs.Laid.{all-filled, header-size, room_at}
use Rattle.text.proofs.Pieces.{Filled, joined, placed, gathered-joined}
use Rattle.text.proofs.Entries as table
use Rattle.text.specs.Claims.{Takes, Typed}
use Rattle.text.specs.Formats.{Format, content_in, text_in}
use Rattle.text.specs.Placing.{Stream, pieces, gathered}
use Rattle.text.specs.Reading.{Untouched, image_in, judged, read_for}
use Rattle.std.specs.Prelude.{Ok}
use Rattle.text.specs.Sized.{Sized}

-- what a header says of itself makes it again
module _ (h : Header) (sum : h.sum < 0x10000) (twelve : length h.metadata ≡ 12) where
  pub header-again : header_of h.part h.macros (header_sections h) ≡ h
  header-again =
      let s : 256 * (h.sum / 256) + h.sum % 256 ≡ h.sum = omega arith in
      let m = take_at h.metadata (h.level ∷ []) 12 twelve in
      let l = get_or_at h.metadata h.level [] 0 12 twelve in
      ap (λ (x : ℕ). header_with h.part h.macros x (take 12 (h.metadata ++ (h.level ∷ []))) (get_or (h.metadata ++ (h.level ∷ [])) 12 0)) s
      ∙ ap (λ (x : List ℕ). header_with h.part h.macros h.sum x (get_or (h.metadata ++ (h.level ∷ [])) 12 0)) m
      ∙ ap (header_with h.part h.macros h.sum h.metadata) l

-- a list in one part, or in three
one-part : (l : List ℕ) (n : ℕ) → length l ≡ n → take n (drop 0 l) ++ [] ≡ l
one-part l n e = append-nil (take n l) ∙ take_all n l (omega arith)

three-parts : (l : List ℕ) → length l ≡ 15 → [] ++ (take 2 (drop 0 l) ++ ([] ++ (take 12 (drop 2 l) ++ (take 1 (drop 14 l) ++ [])))) ≡ l
three-parts l e =
    let d : drop 14 l ≡ drop 12 (drop 2 l) = sym (drop-drop 12 2 l) in
    rw (append-nil (take 1 (drop 14 l)), take_all 1 (drop 14 l) (omega (arith, length-drop 14 l)), d, take-append-drop 12 (drop 2 l)) (take-append-drop 2 l)

module _ {g : Geometry} {h : Header} {bytes : List ℕ} (found : lookup_of h.part h.macros ≡ Ok g) (t : Typed h bytes) (exact : length bytes ≡ image_size g) where
  pub sized : Sized g h bytes
  sized = record { sizes = table.sized h.part h.macros g found; metadata = t.metadata; exact = exact }

  abbrev f : Section → List ℕ
  f = section_bytes g h bytes

  filled : Filled f (sections_of g)
  filled = all-filled sized

  header-sections : AllBytes (header_sections h)
  header-sections =
      let s = t.sum in
      (omega arith, (omega arith, bytes-append h.metadata (h.level ∷ []) (bytes-all h.metadata t.metadata_bytes) (t.level, tt)))

  located-bytes : (l : Location) → AllBytes (location_bytes g bytes (header_sections h) l)
  located-bytes InFlash = bytes_take (flash_size g) bytes (bytes-all bytes t.image_bytes)
  located-bytes InProtection = bytes_drop (flash_size g) bytes (bytes-all bytes t.image_bytes)
  located-bytes InHeader = header-sections

  section-bytes : (s : Section) → AllBytes (f s)
  section-bytes s =
      bytes_take s.size (drop s.offset (location_bytes g bytes (header_sections h) s.location))
      (bytes_drop s.offset (location_bytes g bytes (header_sections h) s.location) (located-bytes s.location))

  abbrev nth : ℕ → Section
  nth k = get_or (sections_of g) k no_section

  aligned : Aligned f (sections_of g)
  aligned =
      let a = sized.sizes.flash-most in
      let b = sized.sizes.locks-most in (
        omega arith,
        omega arith,
        section-bytes (nth 0),
        (
          omega arith,
          omega arith,
          section-bytes (nth 1),
          (omega arith, omega arith, section-bytes (nth 2), (omega arith, omega arith, section-bytes (nth 3), (omega arith, omega arith, section-bytes (nth 4), tt))),
        ),
      )

  flash-is : gathered InFlash (sections_of g) (joined f (sections_of g)) ≡ flash_in g bytes
  flash-is = gathered-joined InFlash f (sections_of g) filled ∙ one-part (flash_in g bytes) (flash_size g) (room_at sized InFlash)

  protection-is : gathered InProtection (sections_of g) (joined f (sections_of g)) ≡ protection_in g bytes
  protection-is = gathered-joined InProtection f (sections_of g) filled ∙ one-part (protection_in g bytes) (lock_total g) (room_at sized InProtection)

  image-is : image_in g (joined f (sections_of g)) ≡ bytes
  image-is = rw (flash-is, protection-is) (take-append-drop (flash_size g) bytes)

  header_is : gathered InHeader (sections_of g) (joined f (sections_of g)) ≡ header_sections h
  header_is =
      gathered-joined InHeader f (sections_of g) filled
      ∙ three-parts (header_sections h) (header-size sized)

  module _ (F : Format) (laws : WritingLaws F) where
    content : content_in F (text_in F g h bytes) (sections_of g) ≡ Stream (joined f (sections_of g))
    content = placed f (sections_of g) _ filled (laws.says (pieces f (sections_of g)) (pieces-fit f (sections_of g) filled aligned))

    pub reads-back : (room : ℕ) → image_fault h bytes ≡ 0 → length bytes ≤ room → Takes F h.part h.macros (text_in F g h bytes) room h bytes
    reads-back room none fits =
        ap (λ (l : Lookup). read_for l h.part h.macros room (content_in F (text_in F g h bytes))) found
        ∙ ap (λ (b : Bool). cond b (judged g h.part h.macros (content_in F (text_in F g h bytes) (sections_of g))) (Untouched 12)) (le-leb (image_size g) room (omega arith))
        ∙ ap (judged g h.part h.macros) content
        ∙ rw (header_is, image-is, header-again h t.sum t.metadata, none)
