-- Whether a row is all zero, and how many of its bytes are read to say so: document 02, Three. Assumes nothing.
use Rattle.std.specs.Prelude.{ℕ, ◌+◌, cond, List, [], ◌∷◌, ◌==◌}
use Rattle.lent.specs.Words.{all_zero}
use Rattle.rows.specs.declared.ZeroRow.{ZeroRow}

-- 'it stops at the first byte that isn't zero, and says how many bytes it read'
unfoldable pub bytes_read : List ℕ → ℕ
bytes_read [] = 0
bytes_read (x ∷ xs) = 1 + cond (x == 0) (bytes_read xs) 0

-- L alone does not tell 'all zero' from 'only the last byte isn't': the answer has both
abbrev pub zero_row : List ℕ → ZeroRow
zero_row row = record { all = all_zero row; read = bytes_read row }
