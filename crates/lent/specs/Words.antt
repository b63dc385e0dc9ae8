-- Sums and 32-bit words of bytes. Assumes nothing.
use Rattle.std.specs.Prelude.{ℕ, zero, suc, ◌+◌, ◌*◌, ◌/◌, ◌%◌, Bool, true, ◌&&◌, List, [], ◌∷◌, take, drop, ◌==◌, slice_index}

unfoldable pub total : List ℕ → ℕ
total [] = 0
total (x ∷ xs) = x + total xs

unfoldable pub all_zero : List ℕ → Bool
all_zero [] = true
all_zero (x ∷ xs) = x == 0 && all_zero xs

-- 'Words have the low byte first': the word of the four bytes from offset o on
unfoldable pub word_at : List ℕ → (o : ℕ) → ℕ
word_at bytes o = slice_index bytes o + 256 * slice_index bytes (o + 1) + 0x10000 * slice_index bytes (o + 2) + 0x1000000 * slice_index bytes (o + 3)

-- a number in n bytes, the low byte first
abbrev pub low_first : (n value : ℕ) → List ℕ
low_first zero v = []
low_first (suc n) v = v % 256 ∷ low_first n (v / 256)

-- 'comparing each as read': whether the word at offset o is w
abbrev pub same_word : List ℕ → (o w : ℕ) → Bool
same_word bytes o w = w == word_at bytes o

-- n bytes from an offset on, as far as there are any
abbrev pub part_of : List ℕ → (from n : ℕ) → List ℕ
part_of bytes from n = take n (drop from bytes)

-- n words from offset o on
unfoldable pub words_at : List ℕ → (o n : ℕ) → List ℕ
words_at bytes o zero = []
words_at bytes o (suc n) = word_at bytes o ∷ words_at bytes (o + 4) n
