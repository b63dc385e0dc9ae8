-- Laws of the pieces of a section, and of the sections. Assumes nothing.
use mathlib.Core.List.{List, [], ◌++◌}
use mathlib.Core.Path.{◌≡◌, refl, sym, ap, ◌∙◌}
use Prim.Native.Nat.{ℕ, min, zero, suc, ◌+◌, ◌-◌, ◌*◌, ◌/◌, ◌≤◌, ◌<◌}
use native.Mathlib.Omega.{arith}
use lib.ListN.{length, take, drop, length-append, length-drop, length-take}
use lib.Seq.{sets, drop_at}
use Rattle.std.proofs.lemmas.List.{take_at}
use Rattle.hex_format.specs.Written.{lines_from}
use Rattle.hex_writer.specs.Lines.{one_piece, position_after}
use Rattle.text.specs.Sized.{Laid, pieces_of}
use Rattle.hex_writer.specs.declared.Position.{Position}
use Rattle.hex_writer.proofs.Lines as lines
use Rattle.sections.specs.Sections.{location_bytes, header_sections}
use Rattle.image.specs.declared.Header.{Header}
use Rattle.sections.specs.declared.Location.TheVariants.{InFlash, InProtection, InHeader}
use Rattle.sections.specs.declared.Section.{Section}
use Rattle.parts.specs.Sizes.{flash_size}
use Rattle.parts.specs.declared.Geometry.{Geometry}
use Rattle.lent.proofs.Lists.{take_min, drop_min}
use Rattle.lent.proofs.Lists.{tail-part}
use Rattle.text.specs.Placing.{Piece, cut, pieces_in}

-- some pieces were put, from a position on
abbrev pub Put : (text : List ℕ) → Position → (pieces : List Piece) (text' : List ℕ) → Position → Type 0
Put text w ps text' w' = (w' ≡ position_after w ps) × (text' ≡ sets text w.at (lines_from w.upper ps))

-- the first piece, and the rest
pub cut-turn : (n a : ℕ) (bs : List ℕ) → 0 < n → cut n a bs ≡ one_piece a (take 64 bs) ++ cut (n - 1) (a + 64) (drop 64 bs)
unfolding cut
cut-turn zero a bs h = absurd (omega arith)
cut-turn (suc n) a bs h = let e : suc n - 1 ≡ n = omega arith in rw e

pub cut-none : (n a : ℕ) (bs : List ℕ) → n ≡ 0 → cut n a bs ≡ []
unfolding cut
cut-none n a bs e = rw e

-- where the loop over a section's pieces writes, the next piece's address, and the bytes that are left
pub record Cursor : Type 0 where
  pub w : Position
  pub a : ℕ
  pub rest : List ℕ

abbrev pub cursor : Position → (a : ℕ) (rest : List ℕ) → Cursor
cursor w a rest = record { w = w; a = a; rest = rest }

-- how many pieces bytes have
abbrev pub count : List ℕ → ℕ
count bytes = (length bytes + 63) / 64

-- how far the loop over a section's pieces has come
pub record Piecing (text₀ : List ℕ) (w₀ : Position) (address : ℕ) (bytes text : List ℕ) (t : Cursor) : Type 0 where
  pub going : lines.Going text₀ w₀ (cut (count bytes) address bytes) text t.w (cut (count t.rest) t.a t.rest)
  pub high : t.a + 64 * count t.rest < 0x100000000

pub start : (text : List ℕ) (w : Position) (address : ℕ) (bytes : List ℕ) → address + length bytes + 64 ≤ 0x100000000
    → (position_after w (cut (count bytes) address bytes)).at ≤ length text → Piecing text w address bytes text (cursor w address bytes)
start text w address bytes h r = record { going = lines.start text w _ r; high = omega arith }

module _ {text₀ : List ℕ} {w₀ : Position} {address : ℕ} {bytes text : List ℕ} {w : Position} {a : ℕ} {rest : List ℕ} (v : Piecing text₀ w₀ address bytes text (cursor w a rest)) where
  -- a piece comes off the bytes that are left
  module _ (piece after : List ℕ) (parts : rest ≡ piece ++ after) (size : length piece ≡ min 64 (length rest)) (some : 0 < length rest) where
    sum : length rest ≡ length piece + length after
    sum = ap length parts ∙ length-append piece after

    first : take 64 rest ≡ piece
    first = sym (take_min 64 rest) ∙ ap (λ (n : ℕ). take n rest) (sym size) ∙ ap (take (length piece)) parts ∙ take_at piece after (length piece) refl

    others : drop 64 rest ≡ after
    others = sym (drop_min 64 rest) ∙ ap (λ (n : ℕ). drop n rest) (sym size) ∙ ap (drop (length piece)) parts ∙ drop_at piece after (length piece) refl

    fewer : count rest - 1 ≡ count after
    fewer = omega (arith, sum, size)

    splits : cut (count rest) a rest ≡ one_piece a piece ++ cut (count after) (a + 64) after
    splits =
        cut-turn (count rest) a rest (omega arith)
        ∙ ap (λ (l : List ℕ). one_piece a l ++ cut (count rest - 1) (a + 64) (drop 64 rest)) first
        ∙ ap (λ (l : List ℕ). one_piece a piece ++ cut (count rest - 1) (a + 64) l) others
        ∙ ap (λ (n : ℕ). one_piece a piece ++ cut n (a + 64) after) fewer

    pub piece-fits : (length piece ≤ 64) × (1 ≤ length piece) × ((position_after w (one_piece a piece)).at ≤ length text)
    piece-fits = (omega arith, omega arith, lines.fits v.going _ _ splits)

    pub turn : (text' : List ℕ) (w' : Position) → w' ≡ position_after w (one_piece a piece) → text' ≡ sets text w.at (lines_from w.upper (one_piece a piece))
        → Piecing text₀ w₀ address bytes text' (cursor w' (a + 64) after)
    turn text' w' ew et = record { going = lines.turn v.going _ _ splits text' w' ew et; high = omega (arith, v.high, fewer) }

  pub ended : length rest ≡ 0
      → (w ≡ position_after w₀ (cut (count bytes) address bytes)) × (text ≡ sets text₀ w₀.at (lines_from w₀.upper (cut (count bytes) address bytes)))
  ended e = lines.ended v.going (cut-none (count rest) a rest (omega arith))

-- a section's bytes, lent out of those of its location
module _ (part : List ℕ) (s : Section) (laid : Laid part s) where
  abbrev lent : List ℕ
  lent = take (s.offset + s.size - s.offset) (drop s.offset part)

  lent-size : length lent ≡ s.size
  lent-size = omega (arith, length-take (s.offset + s.size - s.offset) (drop s.offset part), length-drop s.offset part, laid.inside)

  cuts : cut ((length lent + 63) / 64) s.address lent ≡ pieces_of part s
  cuts =
      let n : s.offset + s.size - s.offset ≡ s.size = omega arith in
      ap (λ (k : ℕ). cut ((k + 63) / 64) s.address lent) lent-size
      ∙ ap (λ (k : ℕ). cut (pieces_in s) s.address (take k (drop s.offset part))) n

  module _ (text : List ℕ) (w : Position) where
    pub section-asks : (position_after w (pieces_of part s)).at ≤ length text
        → (s.address + length lent + 64 ≤ 0x100000000) × ((position_after w (cut ((length lent + 63) / 64) s.address lent)).at ≤ length text)
    section-asks room = (omega (arith, lent-size, laid.high), rw cuts room)

    pub section-put : (text' : List ℕ) (w' : Position) → Put text w (cut ((length lent + 63) / 64) s.address lent) text' w'
        → Put text w (pieces_of part s) text' w'
    section-put text' w' p = rw cuts at p

-- the bytes of a section's location, as they are lent
module _ (g : Geometry) (image header : List ℕ) (s : Section) (flash : ℕ) (is : flash ≡ flash_size g) where
  pub in-flash : s.location ≡ InFlash → take flash image ≡ location_bytes g image header s.location
  in-flash e = rw (e, is)

  pub in-protection : s.location ≡ InProtection → take (length image - flash) (drop flash image) ≡ location_bytes g image header s.location
  in-protection e = tail-part image flash ∙ rw (e, is)

pub in-header : (g : Geometry) (image header : List ℕ) (h : Header) (s : Section) → s.location ≡ InHeader → header ≡ header_sections h
    → header ≡ location_bytes g image (header_sections h) s.location
in-header g image header h s e d = rw e d

module _ (part located : List ℕ) (e : part ≡ located) (s : Section) (text : List ℕ) (w : Position) where
  pub located-asks : Laid located s → (position_after w (pieces_of located s)).at ≤ length text → Laid part s × ((position_after w (pieces_of part s)).at ≤ length text)
  located-asks l r = (rw e l, rw e r)

  pub located-put : (text' : List ℕ) (w' : Position) → Put text w (pieces_of part s) text' w' → Put text w (pieces_of located s) text' w'
  located-put text' w' p = rw e at p
