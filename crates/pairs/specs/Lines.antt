-- The lines of a text: document 01, 'Hex text'. Assumes nothing.
use Rattle.std.specs.Prelude.{cond, List, [], ◌∷◌, ℕ, eqb}

-- 'then LF or CR LF, also after the last': the bytes before an LF (10), or those of a last line that has none
pub data Line : Type 0 where
  Ended : (bytes : List ℕ) → Line
  Open : (bytes : List ℕ) → Line

-- a byte put before the first line
unfoldable pub onto : ℕ → List Line → List Line
onto c [] = Open (c ∷ []) ∷ []
onto c (Ended l ∷ ls) = Ended (c ∷ l) ∷ ls
onto c (Open l ∷ ls) = Open (c ∷ l) ∷ ls

unfoldable pub lines_of : List ℕ → List Line
lines_of [] = []
lines_of (c ∷ s) = cond (eqb c 10) (Ended [] ∷ lines_of s) (onto c (lines_of s))

-- a line without the CR (13) that may stand before its LF
unfoldable pub without_cr : List ℕ → List ℕ
without_cr [] = []
without_cr (c ∷ []) = cond (eqb c 13) [] (c ∷ [])
without_cr (c ∷ d ∷ l) = c ∷ without_cr (d ∷ l)
