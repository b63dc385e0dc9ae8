-- Laws of all sections. Assumes nothing.
use mathlib.Core.List.{List, [], ◌∷◌, ◌++◌}
use mathlib.Core.Path.{◌≡◌, refl, sym, ap, ◌∙◌}
use Prim.Native.Nat.{ℕ, suc, ◌+◌, ◌*◌, ◌≤◌, ◌<◌}
use native.Mathlib.Omega.{arith}
use lib.ListN.{length, get_or, drop, length-append, drop_of_length-le}
use lib.Seq.{sets, length-sets, drop-cons}
use Rattle.hex_format.specs.Written.{extended_line, end_line, lines_from, written_text, text_of, uppers_in, written_length, text_length}
use Rattle.hex_lines.proofs.Lines.{extended-length, in-room, upper-room}
use Rattle.hex_lines.specs.Lines.{line_put}
use Rattle.hex_writer.specs.Lines.{position_after}
use Rattle.hex_writer.specs.declared.Position.{Position}
use Rattle.hex_writer.proofs.Lines as lines
use Rattle.sections.specs.Sections.{sections_of, no_section, section_bytes, location_bytes, header_sections}
use Rattle.image.specs.declared.Header.{Header}
use Rattle.sections.specs.declared.Section.{Section}
use Rattle.parts.specs.Sizes.{flash_size, image_size}
use Rattle.parts.specs.declared.Geometry.{Geometry}
use Rattle.text.proofs.Laid.{roomy-at, laid-at}
use Rattle.lent.proofs.Lists.{sets-append}
use Rattle.text.specs.Placing.{Piece, cut, pieces_in, pieces, overall}
use Rattle.text.specs.Sized.{TableSizes, Sized, Laid}

-- the length of a section's lines, where its first upper half is a new one
abbrev pub lines_length : Section → ℕ
lines_length s = 17 * uppers_in s + 13 * pieces_in s + 2 * s.size

-- a section's pieces come first, then those of the sections after it
pub pieces-turn : (f : Section → List ℕ) (ss : List Section) (k : ℕ) (d : Section) → k < length ss
    → pieces f (drop k ss) ≡ cut (pieces_in (get_or ss k d)) (get_or ss k d).address (f (get_or ss k d)) ++ pieces f (drop (k + 1) ss)
unfolding pieces
pieces-turn f ss k d h =
    let n : k + 1 ≡ suc k = omega arith in
    rw n (ap (pieces f) (drop-cons ss k d h))

pub pieces_none : (f : Section → List ℕ) (ss : List Section) (k : ℕ) → length ss ≤ k → pieces f (drop k ss) ≡ []
unfolding pieces
pieces_none f ss k h = ap (pieces f) (drop_of_length-le ss {i = k} h)

flash-inside : {g : Geometry} {h : Header} {bytes : List ℕ} → Sized g h bytes → flash_size g ≤ length bytes
unfolding image_size
flash-inside z = omega (arith, z.exact)

-- a text, and where the next line goes
pub record Page : Type 0 where
  pub text : List ℕ
  pub w : Position

abbrev pub page : List ℕ → Position → Page
page text w = record { text = text; w = w }

-- how far the loop over the sections has come
pub record Through (p₀ : Page) (g : Geometry) (h : Header) (bytes : List ℕ) (p : Page) (k : ℕ) : Type 0 where
  pub sized : Sized g h bytes
  pub going : lines.Going p₀.text p₀.w (pieces (section_bytes g h bytes) (sections_of g)) p.text p.w (pieces (section_bytes g h bytes) (drop k (sections_of g)))

pub start : (text : List ℕ) (w : Position) (g : Geometry) (h : Header) (bytes : List ℕ) → Sized g h bytes
    → (position_after w (pieces (section_bytes g h bytes) (sections_of g))).at ≤ length text
    → Through (page text w) g h bytes (page text w) 0
start text w g h bytes z r = record { sized = z; going = lines.start text w _ r }

module _ {text₀ : List ℕ} {w₀ : Position} {g : Geometry} {h : Header} {bytes text : List ℕ} {w : Position} {k : ℕ} (v : Through (page text₀ w₀) g h bytes (page text w) k) where
  module _ (some : k < 5) (s : Section) (is : s ≡ get_or (sections_of g) k no_section) where
    first : pieces (section_bytes g h bytes) (drop k (sections_of g))
        ≡ cut (pieces_in s) s.address (section_bytes g h bytes s) ++ pieces (section_bytes g h bytes) (drop (k + 1) (sections_of g))
    first = rw is (pieces-turn (section_bytes g h bytes) (sections_of g) k no_section some)

    pub asks : ((flash_size g ≤ length bytes) × Laid (location_bytes g bytes (header_sections h) s.location) s)
        × ((position_after w (cut (pieces_in s) s.address (section_bytes g h bytes s))).at ≤ length text)
    asks = ((flash-inside v.sized, rw is (laid-at v.sized k some)), lines.fits v.going _ _ first)

    pub turn : (text' : List ℕ) (w' : Position)
        → w' ≡ position_after w (cut (pieces_in s) s.address (section_bytes g h bytes s))
        → text' ≡ sets text w.at (lines_from w.upper (cut (pieces_in s) s.address (section_bytes g h bytes s)))
        → Through (page text₀ w₀) g h bytes (page text' w') (k + 1)
    turn text' w' ew et = record { sized = v.sized; going = lines.turn v.going _ _ first text' w' ew et }

  pub ended : 5 ≤ k
      → (w ≡ position_after w₀ (pieces (section_bytes g h bytes) (sections_of g)))
      × (text ≡ sets text₀ w₀.at (lines_from w₀.upper (pieces (section_bytes g h bytes) (sections_of g))))
  ended i = lines.ended v.going (pieces_none (section_bytes g h bytes) (sections_of g) k i)

-- the lengths of all sections' lines
pub overall-lines : (ss : List Section) → 17 * overall uppers_in ss + 13 * overall pieces_in ss + 2 * overall (λ s. s.size) ss ≡ overall lines_length ss
unfolding overall
overall-lines [] = refl
overall-lines (s ∷ ss) = let e = overall-lines ss in omega arith

pub text-lines : (g : Geometry) → text_length g ≡ 13 + overall lines_length (sections_of g)
unfolding written_length
text-lines g = omega (arith, overall-lines (sections_of g))

overall-turn : (f : Section → ℕ) (ss : List Section) (k : ℕ) (d : Section) → k < length ss → overall f (drop k ss) ≡ f (get_or ss k d) + overall f (drop (k + 1) ss)
unfolding overall
overall-turn f ss k d h =
    let n : k + 1 ≡ suc k = omega arith in
    rw n (ap (overall f) (drop-cons ss k d h))

overall-none : (f : Section → ℕ) (ss : List Section) (k : ℕ) → length ss ≤ k → overall f (drop k ss) ≡ 0
unfolding overall
overall-none f ss k h = ap (overall f) (drop_of_length-le ss {i = k} h)

-- how far the measuring has come
pub record Measuring (g : Geometry) (sum k : ℕ) : Type 0 where
  pub sizes : TableSizes g
  pub within : k ≤ 5
  pub small : sum ≤ 13 + 100000000 * k
  pub whole : text_length g ≡ sum + overall lines_length (drop k (sections_of g))

pub measure-start : (g : Geometry) → TableSizes g → Measuring g 13 0
measure-start g z = record { sizes = z; within = omega arith; small = omega arith; whole = text-lines g }

module _ {g : Geometry} {sum k : ℕ} (v : Measuring g sum k) where
  module _ (some : k < 5) (s : Section) (is : s ≡ get_or (sections_of g) k no_section) where
    pub measure-small : s.size ≤ 33554432
    measure-small = omega (arith, (roomy-at g v.sizes k).end, ap (λ (x : Section). x.size) is)

    pub measure-turn : (n : ℕ) → n ≡ lines_length s → n ≤ 100000000 → Measuring g (sum + n) (k + 1)
    measure-turn n e l = record {
      sizes = v.sizes;
      within = omega arith;
      small = omega (arith, v.small);
      whole = omega (arith, v.whole, overall-turn lines_length (sections_of g) k no_section some, e ∙ ap lines_length is);
    }

  pub measured : 5 ≤ k → sum ≡ text_length g
  measured h = omega (arith, v.whole, overall-none lines_length (sections_of g) k h)

-- the text of an image, put part by part
module _ (text : List ℕ) (g : Geometry) (h : Header) (bytes : List ℕ) where
  abbrev all : List Piece
  all = pieces (section_bytes g h bytes) (sections_of g)

  abbrev begin : Position
  begin = record { at = 17; upper = 0 }

  pub text-room : length (text_of g h bytes) ≡ (position_after begin all).at + 13
  unfolding written_text position_after
  text-room =
      omega (
        arith,
        length-append (extended_line 0) (lines_from 0 all ++ end_line),
        length-append (lines_from 0 all) end_line,
        extended-length 0,
      )

  after-begin : 17 ≤ (position_after begin all).at
  unfolding position_after
  after-begin = omega arith

  pub text-put : (t₁ t₂ t₃ : List ℕ) (w : Position)
      → length (text_of g h bytes) ≤ length text
      → t₁ ≡ line_put text 0 (extended_line 0)
      → w ≡ position_after begin all
      → t₂ ≡ sets t₁ 17 (lines_from 0 all)
      → t₃ ≡ line_put t₂ w.at end_line
      → t₃ ≡ sets text 0 (text_of g h bytes)
  unfolding written_text position_after
  text-put t₁ t₂ t₃ w fits e₁ ew e₂ e₃ =
      let first = e₁ ∙ sym (upper-room text 0 0 (omega (arith, text-room, after-begin))) in
      let kept = ap length e₂ ∙ length-sets t₁ 17 (lines_from 0 all) ∙ ap length first ∙ length-sets text 0 (extended_line 0) in
      let last = e₃ ∙ sym (in-room t₂ w.at end_line (omega (arith, text-room, kept, ap (λ (p : Position). p.at) ew))) in
      let n : 0 + length (extended_line 0) ≡ 17 = omega (arith, extended-length 0) in
      sym
      (sets-append text 0 (extended_line 0) (lines_from 0 all ++ end_line)
      ∙ rw (n, ← first, sets-append, ← e₂) (sym (last ∙ rw ew)))
