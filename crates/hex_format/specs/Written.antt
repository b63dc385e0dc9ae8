-- The written form of an image: document 01, 'Hex text', its last sentence. Assumes nothing.
use Rattle.std.specs.Prelude.{cond, List, [], ◌∷◌, ◌++◌, ℕ, ◌+◌, ◌-◌, ◌*◌, ◌/◌, ◌%◌, eqb, length}
use Rattle.sections.specs.Sections.{sections_of, section_bytes}
use Rattle.lent.specs.Words.{total}
use Rattle.image.specs.declared.Header.{Header}
use Rattle.sections.specs.declared.Section.{Section}
use Rattle.parts.specs.declared.Geometry.{Geometry}
use Rattle.pairs.specs.Digits.{pairs_of}
use Rattle.text.specs.Placing.{Piece, pieces_in, pieces, overall}

-- the byte that makes the sum 0
abbrev pub sum_byte : List ℕ → ℕ
sum_byte bs = (256 - total bs % 256) % 256

-- 'capitals, CR LF': a line of these bytes and their sum byte
unfoldable pub line_text : List ℕ → List ℕ
line_text bs = 58 ∷ (pairs_of (bs ++ (sum_byte bs ∷ [])) ++ (13 ∷ 10 ∷ []))

abbrev pub data_line : (low : ℕ) (payload : List ℕ) → List ℕ
data_line low payload = line_text (length payload ∷ low / 256 ∷ low % 256 ∷ 0 ∷ payload)

abbrev pub extended_line : (upper : ℕ) → List ℕ
extended_line upper = line_text (2 ∷ 0 ∷ 0 ∷ 4 ∷ upper / 256 ∷ upper % 256 ∷ [])

-- 'the last record is :00000001FF exactly'
abbrev pub end_line : List ℕ
end_line = 58 ∷ 48 ∷ 48 ∷ 48 ∷ 48 ∷ 48 ∷ 48 ∷ 48 ∷ 49 ∷ 70 ∷ 70 ∷ 13 ∷ 10 ∷ []

-- the halves of an address
abbrev pub upper_of : ℕ → ℕ
upper_of a = a / 0x10000

abbrev pub low_of : ℕ → ℕ
low_of a = a % 0x10000

-- '.. and at each new upper half'
abbrev pub new_upper : (upper new : ℕ) → List ℕ
new_upper upper new = cond (eqb new upper) [] (extended_line new)

-- the lines of the pieces while the upper half is so
unfoldable pub lines_from : (upper : ℕ) → List Piece → List ℕ
lines_from upper [] = []
lines_from upper (p ∷ ps) =
    new_upper upper (upper_of p.address) ++ (data_line (low_of p.address) p.bytes ++ lines_from (upper_of p.address) ps)

-- 'a type 4 record first' and the end record last
unfoldable pub written_text : List Piece → List ℕ
written_text ps = extended_line 0 ++ (lines_from 0 ps ++ end_line)

-- the text's length: 17 bytes for each upper half, 13 for each data record and the end record, 2 for each byte of data
abbrev pub uppers_in : Section → ℕ
uppers_in s = (s.size + 0xFFFF) / 0x10000

unfoldable pub written_length : List Section → ℕ
written_length ss = 17 * overall uppers_in ss + 13 * (overall pieces_in ss + 1) + 2 * overall (λ s. s.size) ss

-- the text of an image, and its length
abbrev pub text_of : Geometry → Header → (bytes : List ℕ) → List ℕ
text_of g h bytes = written_text (pieces (section_bytes g h bytes) (sections_of g))

abbrev pub text_length : Geometry → ℕ
text_length g = written_length (sections_of g)
