-- Numbers and flags as bytes. Assumes nothing.
use Rattle.std.specs.Prelude.{Bool, true, false, cond, List, ℕ, ◌+◌, ◌<◌, leb, length}
use Rattle.std.proofs.lemmas.List.Edits.{sets}
use Rattle.lent.specs.Words.{low_first}

abbrev pub flag_byte : Bool → ℕ
flag_byte true = 1
flag_byte false = 0

-- a word put into bytes at an offset; nothing where there is no room for it
unfoldable pub word_put : List ℕ → (at word : ℕ) → List ℕ
word_put bytes at word = cond (leb (at + 4) (length bytes)) (sets bytes at (low_first 4 word)) bytes

-- a number of 32 bits
abbrev pub Word : ℕ → Type 0
Word n = n < 0x100000000
