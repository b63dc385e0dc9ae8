-- A text format: what its texts say, and how an image is written in it. What a text comes to, and what reading and writing it give, follow
-- from that in one way for every format (Placing.antt, Reading.antt, Writing.antt), and so do the promises (Claims.antt). Intel hex is one
-- (hex_format's specs/HexFormat.antt): document 01, 'Hex text'. Assumes nothing.
use Rattle.std.specs.Prelude.{List, ℕ}
use Rattle.sections.specs.Sections.{sections_of, section_bytes}
use Rattle.image.specs.declared.Header.{Header}
use Rattle.sections.specs.declared.Section.{Section}
use Rattle.parts.specs.declared.Geometry.{Geometry}
use Rattle.text.specs.Placing.{Event, Content, placing, Piece, pieces}
use Rattle.text.specs.Reading.{Reading, reading_of}

pub record Format : Type 0 where
  -- what the records of a text say, in their order
  pub events_of : (text : List ℕ) → List Event
  -- the payloads of its data records, in their order, whatever the addresses
  pub payloads_of : (text : List ℕ) → List ℕ
  -- the text whose data records are these pieces
  pub written : List Piece → List ℕ
  -- the length of the text of such sections
  pub length_of : List Section → ℕ

-- what a text comes to against the sections that are due
abbrev pub content_in : Format → (text : List ℕ) (due : List Section) → Content
content_in F text due = placing due (F.events_of text)

-- reading a text for part and M into a buffer of `room` bytes
abbrev pub reading_in : Format → (part macros : ℕ) (text : List ℕ) (room : ℕ) → Reading
reading_in F part macros text room = reading_of part macros room (content_in F text)

-- the text of an image, and its length
abbrev pub text_in : Format → Geometry → Header → (bytes : List ℕ) → List ℕ
text_in F g h bytes = F.written (pieces (section_bytes g h bytes) (sections_of g))

abbrev pub length_in : Format → Geometry → ℕ
length_in F g = F.length_of (sections_of g)
