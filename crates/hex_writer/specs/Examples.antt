-- Lines of document 01 and READINGS 34, as they are written.
use Rattle.std.specs.Prelude.{[], ◌∷◌, ◌≡◌}
use Rattle.hex_format.specs.Written.{line_text, data_line, extended_line, end_line}

pub record LineExamples : Type 0 where
  -- 'the last record is :00000001FF exactly': the fixed string is the line of an end record
  pub last_line : line_text (0 ∷ 0 ∷ 0 ∷ 1 ∷ []) ≡ end_line
  -- 'a type 4 record first': :020000040000FA
  pub first-line : extended_line 0 ≡ 58 ∷ 48 ∷ 50 ∷ 48 ∷ 48 ∷ 48 ∷ 48 ∷ 48 ∷ 52 ∷ 48 ∷ 48 ∷ 48 ∷ 48 ∷ 70 ∷ 65 ∷ 13 ∷ 10 ∷ []
  -- P8's line, written: :0200000490303A
  pub upper-line : extended_line 0x9030 ≡ 58 ∷ 48 ∷ 50 ∷ 48 ∷ 48 ∷ 48 ∷ 48 ∷ 48 ∷ 52 ∷ 57 ∷ 48 ∷ 51 ∷ 48 ∷ 51 ∷ 65 ∷ 13 ∷ 10 ∷ []
  -- a data record of one byte, 0xAB, at low half 0x1234: :01123400AB0E
  pub data-line : data_line 0x1234 (0xAB ∷ []) ≡ 58 ∷ 48 ∷ 49 ∷ 49 ∷ 50 ∷ 51 ∷ 52 ∷ 48 ∷ 48 ∷ 65 ∷ 66 ∷ 48 ∷ 69 ∷ 13 ∷ 10 ∷ []
