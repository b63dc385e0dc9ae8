-- What writing a text gives, in every format: document 01, 'Who brings a number about'. Assumes nothing.
use Rattle.refusals.specs.Refusals.{refusal_number}
use Rattle.refusals.specs.declared.Refusal.{Refusal}
use Rattle.std.specs.Prelude.{cond, List, ◌∷◌, ◌++◌, ℕ, eqb, leb, length, drop, Result, Ok, Err}
use Rattle.image.specs.Checks.{content_checks}
use Rattle.image.specs.Refusals.{Check, ◌unless◌, first_refusal}
use Rattle.image.specs.declared.Header.{Header}
use Rattle.parts.specs.Parts.{Lookup, lookup_of}
use Rattle.parts.specs.Sizes.{image_size}
use Rattle.parts.specs.declared.Geometry.{Geometry}
use Rattle.text.specs.Formats.{Format, text_in, length_in}

-- how a writing ends
pub data Writing : Type 0 where
  -- 'Other refusals write nothing'
  Unwritten : (number : ℕ) → Writing
  Written : (text : List ℕ) → Writing

-- 'Writing and starting check 11, 12, 6 to 10'; 12 is 'an image lent for reading not of exact size', then 'the buffer to be written under size'
abbrev pub write_checks : Format → Geometry → Header → (bytes : List ℕ) (room : ℕ) → List Check
write_checks F g h bytes room =
    12 unless eqb (length bytes) (image_size g) ∷ 12 unless leb (length_in F g) room ∷ content_checks g h bytes

abbrev pub unless_refused : (number : ℕ) (text : List ℕ) → Writing
unless_refused n text = cond (eqb n 0) (Written text) (Unwritten n)

abbrev pub write_for : Format → Lookup → Header → (bytes : List ℕ) (room : ℕ) → Writing
write_for F (Err r) h bytes room = Unwritten (refusal_number r)
write_for F (Ok g) h bytes room = unless_refused (first_refusal (write_checks F g h bytes room)) (text_in F g h bytes)

-- an image's header and bytes, written into a buffer of `room` bytes
abbrev pub writing_in : Format → Header → (bytes : List ℕ) (room : ℕ) → Writing
writing_in F h bytes room = write_for F (lookup_of h.part h.macros) h bytes room

-- 0 and the text's length, or a refusal's number and 0
pub record WriteAnswer : Type 0 where
  pub number : ℕ
  pub length : ℕ

-- 'A record, session or length given with a refusal is all 0.'
abbrev pub answer_to : Writing → WriteAnswer
answer_to (Unwritten n) = record { number = n; length = 0 }
answer_to (Written text) = record { number = 0; length = length text }

-- what a length, or a refusal in its place, is as an answer
abbrev pub write_answer : Result ℕ Refusal → WriteAnswer
write_answer (Ok n) = record { number = 0; length = n }
write_answer (Err r) = record { number = refusal_number r; length = 0 }

-- 'bytes past them, or past a written text, never alter'
abbrev pub left_by : Writing → (buffer : List ℕ) → List ℕ
left_by (Unwritten n) buffer = buffer
left_by (Written text) buffer = text ++ drop (length text) buffer

-- the answer, and the buffer at the end
abbrev pub write_in : Format → Header → (bytes buffer : List ℕ) → WriteAnswer
write_in F h bytes buffer = answer_to (writing_in F h bytes (length buffer))

abbrev pub text_after_in : Format → Header → (bytes buffer : List ℕ) → List ℕ
text_after_in F h bytes buffer = left_by (writing_in F h bytes (length buffer)) buffer
