-- What the calls over bytes return, and what they leave in the bytes lent to them: document 01, 'Who brings a number about', last paragraph.
-- A header has 17 bytes, a session 45, an outcome and a length 8. What is lent for one may be longer. Assumes nothing.
use Rattle.std.specs.Prelude.{Bool, true, false, ◌&&◌, not, cond, List, [], ◌∷◌, ℕ, eqb, leb, length, Ok, Err}
use Rattle.encoding.specs.Buffers.{put_into}
use Rattle.encoding.specs.Outcomes.{outcome_bytes, number_of}
use Rattle.encoding.specs.Headers.{header_bytes, header_in}
use Rattle.encoding.specs.Sessions.{session_bytes, session_in, is_session}
use Rattle.flow.specs.declared.Answer.{Answer}
use Rattle.flow.specs.declared.Answer.TheVariants.{ResetDone, Transferred}
use Rattle.hex_format.specs.Texts.{hex_reading}
use Rattle.hex_writer.specs.Writing.{writing}
use Rattle.image.specs.Refusals.{◌unless◌, first_refusal}
use Rattle.lent.specs.Words.{low_first}
use Rattle.parts.specs.Parts.{Lookup, lookup_of}
use Rattle.session.specs.Given.{start_of, start_refused, step_with, refusing}
use Rattle.session.specs.Outcomes.{Given}
use Rattle.session.specs.Possible.{possible}
use Rattle.text.specs.Reading.{Reading, Untouched, answer_of, buffer_after}
use Rattle.text.specs.Writing.{Writing, Unwritten, answer_to, left_by}

-- the number that a call returns, and the two buffers lent to it for writing, in the order of its parameters, at its end
pub record CallResult : Type 0 where
  pub number : ℕ
  pub first : List ℕ
  pub second : List ℕ

abbrev pub call_result : ℕ → (first second : List ℕ) → CallResult
call_result n first second = record { number = n; first = first; second = second }

-- ---- the numbers that a call gives before the core is asked, in document 01's order; 0 where there is none

-- '12 the buffer to be written under size'; so is one that a header or a session is to be found in
abbrev pub holds : (size : ℕ) (buffer : List ℕ) → Bool
holds size buffer = leb size (length buffer)

-- '11 part or M'
abbrev pub is_found : Lookup → Bool
is_found (Ok g) = true
is_found (Err n) = false

abbrev pub in_table : (part macros : ℕ) → Bool
in_table part macros = is_found (lookup_of part macros)

-- 'Reading checks 11, 12, ..'
abbrev pub read_refusal : (part macros : ℕ) (header : List ℕ) → ℕ
read_refusal part macros header = first_refusal (11 unless in_table part macros ∷ 12 unless holds 17 header ∷ [])

-- 'Writing and starting check 11, 12, ..'; a header under size is 12 before 11, since no part can be read from it
abbrev pub write_refusal : (header length_bytes : List ℕ) → ℕ
write_refusal header length_bytes =
    first_refusal (12 unless holds 17 header ∷ 11 unless in_table (header_in header).part (header_in header).macros ∷ 12 unless holds 8 length_bytes ∷ [])

abbrev pub start_refusal : (header session outcome : List ℕ) → ℕ
start_refusal header session outcome =
    first_refusal
    (12 unless holds 17 header
    ∷ 11 unless in_table (header_in header).part (header_in header).macros
    ∷ 12 unless (holds 45 session && holds 8 outcome)
    ∷ [])

-- 'A step checks 13, 12, ..'; a session under size is 12 before 13, since there is none to look at
abbrev pub step_refusal : (session outcome : List ℕ) → ℕ
step_refusal session outcome =
    first_refusal (12 unless holds 45 session ∷ 13 unless (is_session session && possible (session_in session)) ∷ 12 unless holds 8 outcome ∷ [])

-- refused with that number, or what the core gives, which goes on with the image's 12 and what comes after it
abbrev pub refused_or : {A : Type 0} → (number : ℕ) (refusal : ℕ → A) (given : A) → A
refused_or number refusal given = cond (eqb number 0) given (refusal number)

-- ---- reading: the image's bytes, the header's bytes

abbrev pub read_into : Reading → (image header : List ℕ) → CallResult
read_into r image header = call_result (answer_of r).number (buffer_after r image) (put_into header (header_bytes (answer_of r).header))

unfoldable pub after_read_call : (part macros : ℕ) (text image header : List ℕ) → CallResult
after_read_call part macros text image header =
    read_into (refused_or (read_refusal part macros header) Untouched (hex_reading part macros text (length image))) image header

-- ---- writing: the text's bytes, the eight bytes of its length

abbrev pub write_into : Writing → (text length_bytes : List ℕ) → CallResult
write_into w text length_bytes = call_result (answer_to w).number (left_by w text) (put_into length_bytes (low_first 8 (answer_to w).length))

unfoldable pub after_write_call : (header image text length_bytes : List ℕ) → CallResult
after_write_call header image text length_bytes =
    write_into (refused_or (write_refusal header length_bytes) Unwritten (writing (header_in header) image (length text))) text length_bytes

-- ---- starting and stepping: the session's bytes, the outcome's bytes

abbrev pub start_into : Given → (session outcome : List ℕ) → CallResult
start_into g session outcome =
    call_result (number_of g.outcome) (put_into session (session_bytes g.session)) (put_into outcome (outcome_bytes g.outcome))

-- 0 is no, anything else yes
abbrev pub yes : ℕ → Bool
yes n = not (eqb n 0)

unfoldable pub after_start_call : (header image : List ℕ) (leave : ℕ) (session outcome : List ℕ) → CallResult
after_start_call header image leave session outcome =
    start_into (refused_or (start_refusal header session outcome) start_refused (start_of (header_in header) image (yes leave))) session outcome

-- 'reset done', or a transfer's acknowledgement, word and parity bit
abbrev pub answer_in : (reset ack word parity : ℕ) → Answer
answer_in reset ack word parity = cond (eqb reset 0) (Transferred (record { ack = ack; word = word; parity = parity })) ResetDone

-- 'refused, gives back the session it got': its bytes stay
abbrev pub step_into : Given → (session outcome : List ℕ) → CallResult
step_into g session outcome =
    call_result (number_of g.outcome) (cond (eqb (number_of g.outcome) 0) (put_into session (session_bytes g.session)) session)
    (put_into outcome (outcome_bytes g.outcome))

unfoldable pub after_step_call : (session image : List ℕ) → Answer → (outcome : List ℕ) → CallResult
after_step_call session image a outcome =
    step_into (refused_or (step_refusal session outcome) (refusing (session_in session)) (step_with (session_in session) image a)) session outcome
