-- What the bytes promise: nothing is lost either way, a refusal leaves zeros, numbers come in document 01's order, and a session that a call
-- wrote is never refused as none. Assumes nothing.
use Rattle.std.specs.Prelude.{true, false, ◌&&◌, List, ◌++◌, ◌≡◌, ℕ, ◌≤◌, ◌<◌, length, get_or, take, replicate, Ok}
use Rattle.calls.specs.Calls.{CallResult, in_table, yes, after_read_call, after_write_call, after_start_call, after_step_call}
use Rattle.encoding.specs.Buffers.{Kept}
use Rattle.encoding.specs.Outcomes.{outcome_bytes, outcome_in, number_of}
use Rattle.encoding.specs.Headers.{header_bytes, header_in}
use Rattle.encoding.specs.Sessions.{session_bytes, session_in, is_session}
use Rattle.encoding.specs.Values.{Bytes, Twelve, InWords, outcome_word}
use Rattle.flow.specs.declared.Answer.{Answer}
use Rattle.hex_format.specs.Texts.{hex_reading}
use Rattle.hex_format.specs.Written.{text_length}
use Rattle.hex_writer.specs.Writing.{write_of, text_after}
use Rattle.lent.specs.Words.{low_first}
use Rattle.image.specs.declared.Header.{Header}
use Rattle.layout.specs.Bytes.{Word}
use Rattle.parts.specs.Parts.{lookup_of}
use Rattle.parts.specs.Sizes.{image_size}
use Rattle.parts.specs.declared.Geometry.{Geometry}
use Rattle.session.specs.Given.{start_of, step_with}
use Rattle.session.specs.Outcomes.{Outcome, Refused}
use Rattle.session.specs.Possible.{possible}
use Rattle.session.specs.declared.Session.{Session}
use Rattle.text.specs.Reading.{answer_of, buffer_after}

-- ---- what a call leaves in an output of fixed size

-- 'A record, session or length given with a refusal is all 0', where it fits
abbrev pub Zeroed : (number size : ℕ) (before after : List ℕ) → Type 0
Zeroed number size before after = ¬ (number ≡ 0) → size ≤ length before → take size after ≡ replicate size 0

-- the outcome has the refusal, where it fits
abbrev pub Told : (number : ℕ) (before after : List ℕ) → Type 0
Told number before after = ¬ (number ≡ 0) → 8 ≤ length before → take 8 after ≡ outcome_bytes (Refused number)

-- no step refuses these bytes with 13, whatever else it is lent
abbrev pub Never13 : (session : List ℕ) → Type 0
Never13 session = (image : List ℕ) (a : Answer) (outcome : List ℕ) → ¬ ((after_step_call session image a outcome).number ≡ 13)

-- ---- of each call

pub record ReadClaims (part macros : ℕ) (text image header : List ℕ) (r : CallResult) : Type 0 where
  -- 'Reading checks 11, 12, ..': 11 whatever the lengths are; 'Other refusals write nothing'
  pub eleven : in_table part macros ≡ false → (r.number ≡ 11) × (r.first ≡ image)
  pub twelve : (g : Geometry) → lookup_of part macros ≡ Ok g → ¬ ((17 ≤ length header) × (image_size g ≤ length image)) → (r.number ≡ 12) × (r.first ≡ image)
  pub zeroed : Zeroed r.number 17 header r.second
  pub kept : Kept 17 header r.second
  -- with room for the header it is the core's reading
  pub core : 17 ≤ length header → (r.number ≡ (answer_of (hex_reading part macros text (length image))).number)
      × (r.first ≡ buffer_after (hex_reading part macros text (length image)) image)
      × (take 17 r.second ≡ header_bytes (answer_of (hex_reading part macros text (length image))).header)

pub record WriteClaims (header image text length_bytes : List ℕ) (r : CallResult) : Type 0 where
  -- no part can be read from a header under size
  pub partless : length header < 17 → r.number ≡ 12
  -- 'Writing and starting check 11, 12, 6 to 10'
  pub eleven : 17 ≤ length header → in_table (get_or header 0 0) (get_or header 1 0) ≡ false → r.number ≡ 11
  pub twelve : (g : Geometry) → 17 ≤ length header → lookup_of (get_or header 0 0) (get_or header 1 0) ≡ Ok g
      → ¬ ((8 ≤ length length_bytes) × (length image ≡ image_size g) × (text_length g ≤ length text))
      → r.number ≡ 12
  -- 'Other refusals write nothing'
  pub unwritten : ¬ (r.number ≡ 0) → r.first ≡ text
  pub zeroed : Zeroed r.number 8 length_bytes r.second
  pub kept : Kept 8 length_bytes r.second
  -- with a header and room for the length it is the core's writing
  pub core : 17 ≤ length header → 8 ≤ length length_bytes → (r.number ≡ (write_of (header_in header) image text).number)
      × (r.first ≡ text_after (header_in header) image text)
      × (take 8 r.second ≡ low_first 8 (write_of (header_in header) image text).length)

pub record StartClaims (header image : List ℕ) (leave : ℕ) (session outcome : List ℕ) (r : CallResult) : Type 0 where
  pub partless : length header < 17 → r.number ≡ 12
  -- 'Writing and starting check 11, 12, 6 to 10; starting then 15'
  pub eleven : 17 ≤ length header → in_table (get_or header 0 0) (get_or header 1 0) ≡ false → r.number ≡ 11
  pub twelve : (g : Geometry) → 17 ≤ length header → lookup_of (get_or header 0 0) (get_or header 1 0) ≡ Ok g
      → ¬ ((45 ≤ length session) × (8 ≤ length outcome) × (length image ≡ image_size g))
      → r.number ≡ 12
  pub zeroed : Zeroed r.number 45 session r.first
  pub told : Told r.number outcome r.second
  pub kept_session : Kept 45 session r.first
  pub kept_outcome : Kept 8 outcome r.second
  -- with a header and room for both it is the core's start
  pub core : 17 ≤ length header → 45 ≤ length session → 8 ≤ length outcome
      → (r.number ≡ number_of (start_of (header_in header) image (yes leave)).outcome)
      × (take 45 r.first ≡ session_bytes (start_of (header_in header) image (yes leave)).session)
      × (take 8 r.second ≡ outcome_bytes (start_of (header_in header) image (yes leave)).outcome)

pub record StepClaims (session image : List ℕ) (a : Answer) (outcome : List ℕ) (r : CallResult) : Type 0 where
  -- there is no session to look at
  pub sessionless : length session < 45 → r.number ≡ 12
  -- 'A step checks 13, 12, 14': 13 whatever outcome and image are
  pub thirteen : 45 ≤ length session → (is_session session && possible (session_in session)) ≡ false → r.number ≡ 13
  pub twelve : (g : Geometry) → 45 ≤ length session → lookup_of (get_or session 0 0) (get_or session 1 0) ≡ Ok g
      → (is_session session && possible (session_in session)) ≡ true
      → ¬ ((8 ≤ length outcome) × (length image ≡ image_size g))
      → r.number ≡ 12
  pub told : Told r.number outcome r.second
  pub kept_session : Kept 45 session r.first
  pub kept_outcome : Kept 8 outcome r.second
  -- with a session and room for the outcome it is the core's step
  pub core : 45 ≤ length session → 8 ≤ length outcome → is_session session ≡ true → Bytes session
      → (r.number ≡ number_of (step_with (session_in session) image a).outcome)
      × (take 45 r.first ≡ session_bytes (step_with (session_in session) image a).session)
      × (take 8 r.second ≡ outcome_bytes (step_with (session_in session) image a).outcome)

pub record ByteClaims : Type 0 where
  -- decoding what was encoded gives it back
  pub header_back : (h : Header) → Twelve h → header_in (header_bytes h) ≡ h
  pub session_back : (s : Session) → InWords s → session_in (session_bytes s) ≡ s
  pub outcome_back : (o : Outcome) → Word (outcome_word o) → outcome_in (outcome_bytes o) ≡ o
  -- and so does encoding what was decoded
  pub header_whole : (bs : List ℕ) → 17 ≤ length bs → Bytes bs → header_bytes (header_in bs) ≡ take 17 bs
  pub session_whole : (bs : List ℕ) → 45 ≤ length bs → Bytes bs → is_session bs ≡ true → session_bytes (session_in bs) ≡ take 45 bs
  -- bytes past a header or a session are not looked at
  pub header_front : (bs more : List ℕ) → length bs ≡ 17 → header_in (bs ++ more) ≡ header_in bs
  pub session_front : (bs more : List ℕ) → length bs ≡ 45 → (session_in (bs ++ more) ≡ session_in bs) × (is_session (bs ++ more) ≡ is_session bs)
  -- the four calls
  pub read : (part macros : ℕ) (text image header : List ℕ) → ReadClaims part macros text image header (after_read_call part macros text image header)
  pub write : (header image text length_bytes : List ℕ) → WriteClaims header image text length_bytes (after_write_call header image text length_bytes)
  pub start : (header image : List ℕ) (leave : ℕ) (session outcome : List ℕ)
      → StartClaims header image leave session outcome (after_start_call header image leave session outcome)
  pub step : (session image : List ℕ) (a : Answer) (outcome : List ℕ) → StepClaims session image a outcome (after_step_call session image a outcome)
  -- 'refused, gives back the session it got'
  pub refused : (session image : List ℕ) (a : Answer) (outcome : List ℕ) → ¬ ((after_step_call session image a outcome).number ≡ 0)
      → (after_step_call session image a outcome).first ≡ session
  -- '13 session impossible for its part (never one that starting or a step gave)'
  pub started : (header image : List ℕ) (leave : ℕ) (session outcome : List ℕ) → (after_start_call header image leave session outcome).number ≡ 0
      → Never13 (after_start_call header image leave session outcome).first
  pub stepped : (session image : List ℕ) (a : Answer) (outcome : List ℕ) → (after_step_call session image a outcome).number ≡ 0
      → Never13 (after_step_call session image a outcome).first
