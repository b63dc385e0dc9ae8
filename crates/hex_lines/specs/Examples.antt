-- Data records at the limits of `data_put`, and one past each. Assumes nothing.
use Rattle.std.specs.Prelude.{List, [], ◌∷◌, ◌≡◌, ℕ, length}
use Rattle.std.proofs.lemmas.List.Edits.{sets}
use Rattle.hex_format.specs.Written.{data_line}
use Rattle.hex_lines.specs.Lines.{data_put}

pub record PutExamples : Type 0 where
  -- the line of 255 bytes is 523 long
  pub most : (text : List ℕ) (low : ℕ) (payload : List ℕ) → length payload ≡ 255 → length text ≡ 523 → data_put text 0 low payload ≡ sets text 0 (data_line low payload)
  pub too_many : (text : List ℕ) (at low : ℕ) (payload : List ℕ) → length payload ≡ 256 → data_put text at low payload ≡ text
  pub none : (text : List ℕ) (at low : ℕ) → data_put text at low [] ≡ text
  -- the line of one byte is 15 long
  pub fits : (text : List ℕ) (low b : ℕ) → length text ≡ 16 → data_put text 1 low (b ∷ []) ≡ sets text 1 (data_line low (b ∷ []))
  pub short : (text : List ℕ) (low b : ℕ) → length text ≡ 15 → data_put text 1 low (b ∷ []) ≡ text
