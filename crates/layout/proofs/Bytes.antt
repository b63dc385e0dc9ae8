-- Laws of numbers and flags as bytes. Assumes nothing.
use mathlib.Core.Bool.{Bool, true, false}
use mathlib.Core.List.{List}
use mathlib.Core.Path.{◌≡◌, refl, sym, ap, ◌∙◌}
use Prim.Native.Nat.{ℕ, ◌+◌, ◌*◌, ◌/◌, ◌%◌, ◌≤◌, ◌<◌}
use native.Mathlib.Omega.{arith}
use borrow.Author.Tests.{le-leb, lt-leb}
use lib.Dec.{eqb}
use lib.ListN.{length}
use lib.Seq.{sets, length-sets}
use Rattle.std.proofs.Common.{drop-drop, append_assoc}
use Rattle.std.proofs.Math.Nat.{div-div-eq-div-mul}
use Rattle.std.specs.Int.{to_le_bytes, w32}
use borrow.Rule.Slice.PartMut.{put_mid}
use lib.Seq.{sets-eq}
use Rattle.lent.specs.Words.{low_first}
use Rattle.layout.specs.Bytes.{flag_byte, word_put, Word}

-- what four bytes of a number come to
abbrev pub low32 : ℕ → ℕ
low32 v = v % 256 + 256 * (v / 256 % 256) + 0x10000 * (v / 256 / 256 % 256) + 0x1000000 * (v / 256 / 256 / 256 % 256)

pub low_same : (v : ℕ) → Word v → low32 v ≡ v
low_same v h = omega arith

pub low-less : (v : ℕ) → low32 v ≤ v
low-less v = omega arith

pub flag_same : (f : Bool) → eqb (flag_byte f) 1 ≡ f
flag_same true = refl
flag_same false = refl

-- the bytes of a word as the library has them
low_bytes : (w : ℕ) → to_le_bytes w32 w ≡ low_first 4 w
low_bytes w = simp div-div-eq-div-mul

pub no_room : (l : List ℕ) (at w : ℕ) → length l < at + 4 → l ≡ word_put l at w
unfolding word_put
no_room l at w h = rw (lt-leb (at + 4) (length l) h)

room : (l : List ℕ) (at w : ℕ) → at + 4 ≤ length l → sets l at (low_first 4 w) ≡ word_put l at w
unfolding word_put
room l at w h = rw (le-leb (at + 4) (length l) h)

-- four bytes that were written at an offset are a word put there
pub put_low : (l vs : List ℕ) (at w : ℕ) → at + 4 ≤ length l → vs ≡ to_le_bytes w32 w → put_mid at 4 l vs ≡ word_put l at w
put_low l vs at w h e =
    rw (e ∙ low_bytes w) (sym (sets-eq (low_first 4 w) l at h ∙ simp (append_assoc, drop-drop)) ∙ room l at w h)

-- a word put where there is room for it: what is stored, and that the length stays
pub put_in : (l m : List ℕ) (n at w : ℕ) → length l ≡ n → at + 4 ≤ n → m ≡ word_put l at w → (m ≡ sets l at (low_first 4 w)) × (length m ≡ n)
put_in l m n at w e h p =
    let q : m ≡ sets l at (low_first 4 w) = p ∙ sym (room l at w (omega arith)) in
    (q, ap length q ∙ length-sets l at (low_first 4 w) ∙ e)
