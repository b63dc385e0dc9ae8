-- The length of a text. Assumes nothing.
use mathlib.Core.List.{List, [], ◌∷◌, ◌++◌}
use mathlib.Core.Path.{◌≡◌, refl, ap, ◌∙◌}
use mathlib.Core.Bool.{Bool, true, false}
use Prim.Native.Nat.{ℕ, zero, suc, ◌+◌, ◌-◌, ◌*◌, ◌/◌, ◌%◌, ◌≤◌, ◌<◌}
use native.Mathlib.Omega.{arith}
use borrow.Author.Tests.{eqb-true, eqb-false}
use lib.Dec.{eqb}
use lib.ListN.{length, get_or, take, drop, length-append, length-take, length-drop}
use Rattle.hex_format.specs.Written.{data_line, new_upper, low_of, upper_of, lines_from, text_of, text_length}
use Rattle.hex_writer.specs.Lines.{upper_past, position_after}
use Rattle.hex_lines.proofs.Lines.{data-length, extended-length}
use Rattle.hex_writer.proofs.Lines.{upper-same, upper-new, lines-append}
use Rattle.hex_writer.proofs.Whole.{lines_length, text-lines, text-room}
use Rattle.sections.specs.Sections.{sections_of, no_section, section_bytes}
use Rattle.image.specs.declared.Header.{Header}
use Rattle.sections.specs.declared.Section.{Section}
use Rattle.parts.specs.Sizes.{flash_size}
use Rattle.parts.specs.declared.Geometry.{Geometry}
use Rattle.text.proofs.Laid.{size-at}
use Rattle.text.specs.Placing.{Piece, cut, pieces_in, pieces, overall}
use Rattle.text.specs.Sized.{Sized}

-- a type 4 record of the next upper half
stays : (u v : ℕ) → v ≡ u → length (new_upper u v) ≡ 0
stays u v e = ap length (upper-same u v e)

moves : (u v : ℕ) → (v ≡ u → ⊥) → length (new_upper u v) ≡ 17
moves u v e = ap length (upper-new u v e) ∙ extended-length v

steps : (u v : ℕ) → u ≤ v → v ≤ u + 1 → length (new_upper u v) + 17 * u ≡ 17 * v
steps u v h k = go (eqb v u) refl
  where
    go : (b : Bool) → eqb v u ≡ b → length (new_upper u v) + 17 * u ≡ 17 * v
    go true q = let e = eqb-true v u q in omega (arith, stays u v e)
    go false q = omega (arith, moves u v (eqb-false v u q), eqb-false v u q)

-- the lines of the first piece, and the rest
lines_cons : (u : ℕ) (p : Piece) (ps : List Piece)
    → length (lines_from u (p ∷ ps)) ≡ length (new_upper u (upper_of p.address)) + (13 + 2 * length p.bytes) + length (lines_from (upper_of p.address) ps)
unfolding lines_from
lines_cons u p ps =
    omega (
      arith,
      length-append (new_upper u (upper_of p.address)) (data_line (low_of p.address) p.bytes ++ lines_from (upper_of p.address) ps),
      length-append (data_line (low_of p.address) p.bytes) (lines_from (upper_of p.address) ps),
      data-length (low_of p.address) p.bytes,
    )

adds : (all new here rest next last u v n size : ℕ) → here ≡ 64 → all ≡ new + (13 + 2 * here) + rest → rest + 17 * v ≡ next + 17 * last + 13 * suc n + 2 * (size - 64)
    → next + 17 * u ≡ 17 * v
    → 64 < size
    → all + 17 * u ≡ new + 17 * last + 13 * suc (suc n) + 2 * size
adds all new here rest next last u v n size h a b c d = omega arith

-- the lines of a section's pieces, from a place on that 64 divides
pub cut-lines : (n a u size : ℕ) (bs : List ℕ) → length bs ≡ size → 0 < size → n ≡ (size + 63) / 64 → a % 64 ≡ 0
    → length (lines_from u (cut n a bs)) + 17 * (a / 0x10000) ≡ length (new_upper u (a / 0x10000)) + 17 * ((a + size - 1) / 0x10000) + 13 * n + 2 * size
unfolding cut lines_from
cut-lines zero a u size bs l some c d = absurd (omega arith)
cut-lines (suc zero) a u size bs l some c d =
    let e : (a + size - 1) / 0x10000 ≡ a / 0x10000 = omega arith in
    let t : length (take 64 bs) ≡ size = omega (arith, length-take 64 bs) in
    let z : length (lines_from (upper_of a) []) ≡ 0 = refl in
    omega (arith, lines_cons u (record { address = a; bytes = take 64 bs }) [])
cut-lines (suc (suc n)) a u size bs l some c d =
    let big : 64 < size = omega arith in
    let more = cut-lines (suc n) (a + 64) (a / 0x10000) (size - 64) (drop 64 bs) (omega (arith, length-drop 64 bs)) (omega arith) (omega arith) (omega arith) in
    let e : a + 64 + (size - 64) - 1 ≡ a + size - 1 = omega arith in
    adds _ _ _ _ _ _ (a / 0x10000) ((a + 64) / 0x10000) n size
    (length-take 64 bs ∙ omega arith)
    (lines_cons u (record { address = a; bytes = take 64 bs }) (cut (suc n) (a + 64) (drop 64 bs)))
    (rw e at more)
    (steps (a / 0x10000) ((a + 64) / 0x10000) (omega arith) (omega arith))
    big

pub cut-past : (n a u size : ℕ) (bs : List ℕ) → 0 < size → n ≡ (size + 63) / 64 → a % 64 ≡ 0 → upper_past u (cut n a bs) ≡ (a + size - 1) / 0x10000
unfolding cut upper_past
cut-past zero a u size bs some c d = absurd (omega arith)
cut-past (suc zero) a u size bs some c d = omega arith
cut-past (suc (suc n)) a u size bs some c d =
    let e : a + 64 + (size - 64) - 1 ≡ a + size - 1 = omega arith in
    rw e at (cut-past (suc n) (a + 64) (a / 0x10000) (size - 64) (drop 64 bs) (omega arith) (omega arith) (omega arith))

-- sections with bytes, each from a 64 KiB line on, none of which goes on in the upper half that the one before it leaves
abbrev pub Apart : (Section → List ℕ) → (upper : ℕ) → List Section → Type 0
Apart f u [] = Unit {0}
Apart f u (s ∷ ss) =
    (0 < s.size) × (length (f s) ≡ s.size) × (s.address % 0x10000 ≡ 0) × (s.address / 0x10000 ≡ u → ⊥) × Apart f ((s.address + s.size - 1) / 0x10000) ss

pub section-lines : (u a size : ℕ) (bs : List ℕ) → length bs ≡ size → 0 < size → a % 0x10000 ≡ 0
    → length (lines_from u (cut ((size + 63) / 64) a bs)) ≡ length (new_upper u (a / 0x10000)) + 17 * ((size - 1) / 0x10000) + 13 * ((size + 63) / 64) + 2 * size
section-lines u a size bs l some d =
    let c = cut-lines ((size + 63) / 64) a u size bs l some refl (omega arith) in
    let e : (a + size - 1) / 0x10000 ≡ a / 0x10000 + (size - 1) / 0x10000 = omega arith in
    omega arith

pub all_lines : (f : Section → List ℕ) (u : ℕ) (ss : List Section) → Apart f u ss → length (lines_from u (pieces f ss)) ≡ overall lines_length ss
unfolding pieces overall lines_from
all_lines f u [] a = refl
all_lines f u (s ∷ ss) a =
    let here = section-lines u s.address s.size (f s) a.1 a.0 a.2 in
    let past = cut-past (pieces_in s) s.address u s.size (f s) a.0 refl (omega (arith, a.2)) in
    let rest = all_lines f ((s.address + s.size - 1) / 0x10000) ss a.4 in
    let some = a.0 in
    omega (
      arith,
      here,
      moves u (s.address / 0x10000) a.3,
      rest,
      ap length (lines-append u (cut (pieces_in s) s.address (f s)) (pieces f ss)),
      length-append (lines_from u (cut (pieces_in s) s.address (f s))) (lines_from (upper_past u (cut (pieces_in s) s.address (f s))) (pieces f ss)),
      ap (λ (v : ℕ). length (lines_from v (pieces f ss))) past,
    )

-- 'a type 4 record first': the first section's upper half is written before it
pub first-lines : (f : Section → List ℕ) (s : Section) (ss : List Section) → 0 < s.size → length (f s) ≡ s.size → s.address ≡ 0
    → Apart f ((s.size - 1) / 0x10000) ss
    → 17 + length (lines_from 0 (pieces f (s ∷ ss))) ≡ overall lines_length (s ∷ ss)
unfolding pieces overall
first-lines f s ss some size begins rest =
    let here = section-lines 0 s.address s.size (f s) size some (omega arith) in
    let past : upper_past 0 (cut (pieces_in s) s.address (f s)) ≡ (s.size - 1) / 0x10000 =
    cut-past (pieces_in s) s.address 0 s.size (f s) some refl (omega arith) ∙ omega arith in
    omega (
      arith,
      here,
      stays 0 (s.address / 0x10000) (omega arith),
      all_lines f ((s.size - 1) / 0x10000) ss rest,
      ap length (lines-append 0 (cut (pieces_in s) s.address (f s)) (pieces f ss)),
      length-append (lines_from 0 (cut (pieces_in s) s.address (f s))) (lines_from (upper_past 0 (cut (pieces_in s) s.address (f s))) (pieces f ss)),
      ap (λ (v : ℕ). length (lines_from v (pieces f ss))) past,
    )

-- the text of an image has the length that the formula says
module _ {g : Geometry} {h : Header} {bytes : List ℕ} (z : Sized g h bytes) where
  all_apart : Apart (section_bytes g h bytes) ((flash_size g - 1) / 0x10000) (drop 1 (sections_of g))
  all_apart =
      let f = z.sizes.flash-most in
      let l = z.sizes.locks-most in
      let b = z.sizes.locks-some in (
        omega arith,
        size-at z 1 (omega arith),
        omega arith,
        (λ e. absurd (omega arith)),
        (
          b,
          size-at z 2 (omega arith),
          omega arith,
          (λ e. absurd (omega arith)),
          (
            omega arith,
            size-at z 3 (omega arith),
            omega arith,
            (λ e. absurd (omega arith)),
            (omega arith, size-at z 4 (omega arith), omega arith, (λ e. absurd (omega arith)), tt),
          ),
        ),
      )

  pub text-length : length (text_of g h bytes) ≡ text_length g
  unfolding position_after
  text-length =
      omega (
        arith,
        text-room [] g h bytes,
        text-lines g,
        first-lines (section_bytes g h bytes) (get_or (sections_of g) 0 no_section) (drop 1 (sections_of g)) z.sizes.flash-some (size-at z 0 (omega arith)) refl all_apart,
      )
