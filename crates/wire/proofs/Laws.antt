-- The parity of a word, computed. Assumes nothing.
use mathlib.Core.Path.{◌≡◌, ap, ◌∙◌}
use Prim.Native.Nat.{ℕ, zero, suc, ◌+◌, ◌/◌, ◌%◌, ◌^◌, ◌<◌}
use native.Mathlib.Numerals.{add-one}
use lib.Arith.{lt-one}
use lib.Count.{ones, ones_in, ones_step}
use lib.Pow.{shr_lt}
use Rattle.wire.specs.Wire.{parity}

-- the ones of a number of d binary digits, counted in d steps
pub ones-in : (d n : ℕ) → n < 2 ^ d → ones n ≡ ones_in d n
unfolding ones_in ones
ones-in zero n h = ap ones (lt-one h)
ones-in (suc d) n h = ones_step n ∙ ap (λ (x : ℕ). n % 2 + x) (ones-in d (n / 2) (shr_lt d 1 (rw add-one h)))

-- the parity of a word, computed
pub parity-word : (w : ℕ) → w < 2 ^ 32 → parity w ≡ ones_in 32 w % 2
parity-word w h = ap (λ (x : ℕ). x % 2) (ones-in 32 w h)
