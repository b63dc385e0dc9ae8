-- What the functions that put a line leave. Assumes nothing.
use Rattle.std.specs.Prelude.{◌&&◌, cond, List, [], ◌∷◌, ℕ, zero, suc, ◌+◌, leb, length}
use Rattle.std.proofs.lemmas.List.Edits.{sets}
use Rattle.hex_format.specs.Written.{data_line}
use Rattle.pairs.specs.Digits.{capital}

-- the capitals of the n numbers from i on
unfoldable pub capitals_from : (i n : ℕ) → List ℕ
capitals_from i zero = []
capitals_from i (suc n) = capital i ∷ capitals_from (i + 1) n

-- a text with a line at a place; nothing is put where it has no room there
unfoldable pub line_put : (text : List ℕ) (at : ℕ) (line : List ℕ) → List ℕ
line_put text at line = cond (leb (at + length line) (length text)) (sets text at line) text

-- with the line of a data record: 'Types: 0 with 1 to 255 bytes'; nothing is put of any other
unfoldable pub data_put : (text : List ℕ) (at low : ℕ) (payload : List ℕ) → List ℕ
data_put text at low payload = cond (leb (length payload) 255 && leb 1 (length payload)) (line_put text at (data_line low payload)) text
