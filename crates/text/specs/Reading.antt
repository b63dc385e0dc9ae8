-- What reading a text gives, in every format: document 01, 'Who brings a number about'. Assumes nothing.
use Rattle.refusals.specs.Refusals.{refusal_number}
use Rattle.refusals.specs.declared.Refusal.{Refusal as Reason}
use Rattle.std.specs.Prelude.{cond, List, ◌++◌, ℕ, eqb, leb, length, drop, replicate, Result, Ok, Err}
use Rattle.image.specs.Checks.{image_fault}
use Rattle.image.specs.Image.{no_header}
use Rattle.sections.specs.Sections.{sections_of, header_of}
use Rattle.image.specs.declared.Header.{Header}
use Rattle.sections.specs.declared.Location.TheVariants.{InFlash, InProtection, InHeader}
use Rattle.sections.specs.declared.Section.{Section}
use Rattle.parts.specs.Parts.{Lookup, lookup_of}
use Rattle.parts.specs.Sizes.{image_size}
use Rattle.parts.specs.declared.Geometry.{Geometry}
use Rattle.text.specs.Placing.{Content, Refusal, Stream, gathered}

-- how a reading ends
pub data Reading : Type 0 where
  -- 11 and 12: 'Other refusals write nothing'
  Untouched : (number : ℕ) → Reading
  -- 'Reading with 1 to 10 zeroes the image's bytes'
  Cleared : (number size : ℕ) → Reading
  -- taken: the header and the image's bytes
  Taken : Header → (bytes : List ℕ) → Reading

-- '.. then 6 to 10'
abbrev pub checked : Geometry → Header → List ℕ → Reading
checked g h bytes = cond (eqb (image_fault h bytes) 0) (Taken h bytes) (Cleared (image_fault h bytes) (image_size g))

-- the bytes of an image, out of the bytes of its sections; 'The protection bytes (N / 8) follow the flash bytes (N × L) in it.'
abbrev pub image_in : Geometry → (stream : List ℕ) → List ℕ
image_in g bs = gathered InFlash (sections_of g) bs ++ gathered InProtection (sections_of g) bs

-- what the records came to, for part and M
abbrev pub judged : Geometry → (part macros : ℕ) → Content → Reading
judged g part macros (Refusal n) = Cleared n (image_size g)
judged g part macros (Stream bs) = checked g (header_of part macros (gathered InHeader (sections_of g) bs)) (image_in g bs)

-- '11 part or M; 12 the buffer to be written under size', then the text against the sections that are due
abbrev pub read_for : Lookup → (part macros room : ℕ) → (List Section → Content) → Reading
read_for (Err r) part macros room content = Untouched (refusal_number r)
read_for (Ok g) part macros room content =
    cond (leb (image_size g) room) (judged g part macros (content (sections_of g))) (Untouched 12)

-- 'Reading checks 11, 12, then 1 to 5 per record in that order, then 6 to 10'; room is the size of the lent buffer
abbrev pub reading_of : (part macros room : ℕ) → (List Section → Content) → Reading
reading_of part macros room content = read_for (lookup_of part macros) part macros room content

-- 0 and the image's header, or a refusal's number and a header of zeros; 'A record, session or length given with a refusal is all 0.'
pub record ReadAnswer : Type 0 where
  pub number : ℕ
  pub header : Header

abbrev pub answer_of : Reading → ReadAnswer
answer_of (Untouched n) = record { number = n; header = no_header }
answer_of (Cleared n size) = record { number = n; header = no_header }
answer_of (Taken h bytes) = record { number = 0; header = h }

-- what a header, or a refusal in its place, is as an answer
abbrev pub read_answer : Result Header Reason → ReadAnswer
read_answer (Ok h) = record { number = 0; header = h }
read_answer (Err r) = record { number = refusal_number r; header = no_header }

-- the lent buffer at the end; 'bytes past them .. never alter'
abbrev pub buffer_after : Reading → List ℕ → List ℕ
buffer_after (Untouched n) buffer = buffer
buffer_after (Cleared n size) buffer = replicate size 0 ++ drop size buffer
buffer_after (Taken h bytes) buffer = bytes ++ drop (length bytes) buffer
