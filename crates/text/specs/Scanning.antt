-- What is due while the records of a text are read one by one, and what they leave: in every format. Assumes nothing.
use Rattle.std.specs.Prelude.{cond, List, [], ◌∷◌, ◌≡◌, ℕ, ◌+◌, eqb, length, get_or, Result, Ok, Err}
use Rattle.refusals.specs.Refusals.{refusal_number}
use Rattle.refusals.specs.declared.Refusal.{Refusal as Reason}
use Rattle.sections.specs.Sections.{sections_of, no_section, location_bytes}
use Rattle.sections.specs.declared.Location.{Location}
use Rattle.sections.specs.declared.Section.{Section}
use Rattle.parts.specs.Sizes.{image_size}
use Rattle.parts.specs.declared.Geometry.{Geometry}
use Rattle.text.specs.Formats.{Format, content_in}
use Rattle.text.specs.Placing.{Refusal, Stream, rest_of, same_location, gathered}
use Rattle.text.specs.Sized.{TableSizes}
use Rattle.storing.specs.Storing.{stored_at}
use Rattle.text.specs.declared.Due.{Due}

-- a section and those after it; one of no bytes stands for none
abbrev pub dues : Section → List Section → List Section
dues s ss = cond (eqb s.size 0) [] (s ∷ ss)

-- what the reader fills: the bytes of an image of a part in the table, and a header's
pub record ToFill (g : Geometry) (image header : List ℕ) : Type 0 where
  pub table : TableSizes g
  pub image-size : length image ≡ image_size g
  pub header-size : length header ≡ 15

-- what is due after count bytes
abbrev pub advanced_of : Geometry → Due → (count : ℕ) → Due
advanced_of g d count =
    cond (eqb count d.section.size) (record { section = get_or (sections_of g) d.next no_section; next = d.next + 1 })
    (record { section = rest_of count d.section; next = d.next })

-- the bytes of a location after payload, in the row from `from` on, went into the section that is due: its own location has them, the
-- others stay
abbrev pub filled_in : Section → (row : List ℕ) (from count : ℕ) → Location → (part : List ℕ) → List ℕ
filled_in due row from count l part = cond (same_location l due.location) (stored_at part due.offset row from count) part

-- a text whose records all are in place: every location has the bytes of its sections
pub record Filled (F : Format) (text : List ℕ) (g : Geometry) (image header : List ℕ) : Type 0 where
  pub stream : List ℕ
  pub is : content_in F text (sections_of g) ≡ Stream stream
  pub has : (l : Location) → location_bytes g image header l ≡ gathered l (sections_of g) stream

-- what scanning a text came to: such a text, or the refusal of the first record that is out of place
abbrev pub ScannedAs : Format → (text : List ℕ) → Geometry → Result (Unit {0}) Reason → (image header : List ℕ) → Type 0
ScannedAs F text g (Ok _) image header = Filled F text g image header
ScannedAs F text g (Err r) image header = content_in F text (sections_of g) ≡ Refusal (refusal_number r)
