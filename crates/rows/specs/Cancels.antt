-- Number 10 of an image's checks, of a row and of rows: document 01, 'Who brings a number about'. Assumes nothing.
use Rattle.std.specs.Prelude.{ℕ, zero, suc, ◌/◌, ◌%◌, Bool, false, not, ◌&&◌, ◌||◌, List, length, take, drop, ◌==◌}
use Rattle.lent.specs.Words.{total, all_zero, words_at}

-- 10 'a row whose 32-bit words add to 0 mod 2^32 without all being 0'
abbrev pub row_words : List ℕ → List ℕ
row_words row = words_at row 0 (length row / 4)

unfoldable pub cancels : List ℕ → Bool
cancels row = total (row_words row) % 0x100000000 == 0 && not (all_zero (row_words row))

-- one of n rows of size bytes, from the first on, cancels
unfoldable pub some_cancels : (size n : ℕ) → List ℕ → Bool
some_cancels size zero bytes = false
some_cancels size (suc n) bytes = cancels (take size bytes) || some_cancels size n (drop size bytes)
