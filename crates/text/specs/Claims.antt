-- What a caller may want to know of reading and writing, beside the definitions themselves: said of any format. A format has it where its
-- records have the laws of proofs/Formats.antt. Assumes nothing.
use Rattle.std.specs.Prelude.{List, ◌∷◌, ◌++◌, ◌≡◌, ℕ, ◌≤◌, ◌<◌, length, get_or, take, drop, Ok}
use Rattle.image.specs.Checks.{image_fault}
use Rattle.image.specs.declared.Header.{Header}
use Rattle.sections.specs.declared.Section.{Section}
use Rattle.parts.specs.Parts.{lookup_of}
use Rattle.parts.specs.Sizes.{image_size}
use Rattle.parts.specs.declared.Geometry.{Geometry}
use Rattle.text.specs.Formats.{Format, content_in, reading_in, text_in, length_in}
use Rattle.text.specs.Placing.{Refusal, Stream, overall}
use Rattle.text.specs.Reading.{Taken, answer_of, buffer_after}
use Rattle.text.specs.Writing.{Written, writing_in, write_in, text_after_in}

-- what the types say of a header (`u16`, `[u8; 12]`, `u8`) and of lent bytes (`&[u8]`)
pub record Typed (h : Header) (bytes : List ℕ) : Type 0 where
  pub sum : h.sum < 0x10000
  pub metadata : length h.metadata ≡ 12
  pub metadata_bytes : (j : ℕ) → get_or h.metadata j 0 < 256
  pub level : h.level < 256
  pub image_bytes : (j : ℕ) → get_or bytes j 0 < 256

module _ (F : Format) where
  -- a text that is taken into a buffer of `room` bytes gives this header and these image bytes
  abbrev pub Takes : (part macros : ℕ) (text : List ℕ) (room : ℕ) → Header → (bytes : List ℕ) → Type 0
  Takes part macros text room h bytes = reading_in F part macros text room ≡ Taken h bytes

  pub record ReadingClaims : Type 0 where
    -- one text is never taken for two images, whatever part and M it is read for and whatever the buffers
    pub one-image : (part macros part' macros' : ℕ) (text : List ℕ) (room room' : ℕ) (h h' : Header) (bytes bytes' : List ℕ) → Takes part macros text room h bytes
        → Takes part' macros' text room' h' bytes'
        → (h ≡ h') × (bytes ≡ bytes')
    -- what is taken passes the checks of writing and starting: 11, 12, 6 to 10
    pub sound : (part macros : ℕ) (text : List ℕ) (room : ℕ) (h : Header) (bytes : List ℕ) → Takes part macros text room h bytes → image_fault h bytes ≡ 0
    -- 'each byte once': the records in place have just the bytes of the sections
    pub each-once : (text : List ℕ) (due : List Section) (stream : List ℕ) → content_in F text due ≡ Stream stream → length stream ≡ overall (λ s. s.size) due
    -- no 'one image for every text': what a text comes to are the bytes of its own data records, in their order
    pub own-bytes : (text : List ℕ) (due : List Section) (stream : List ℕ) → content_in F text due ≡ Stream stream → stream ≡ F.payloads_of text
    -- 'anything after the end record is 5, unread'
    pub followed : (text : List ℕ) (due : List Section) (stream : List ℕ) (c : ℕ) (more : List ℕ) → content_in F text due ≡ Stream stream
        → content_in F (text ++ (c ∷ more)) due ≡ Refusal 5

  -- an image that the checks let pass is written as this text into a buffer of `room` bytes
  abbrev pub Writes : Header → (bytes : List ℕ) (room : ℕ) (text : List ℕ) → Type 0
  Writes h bytes room text = writing_in F h bytes room ≡ Written text

  -- the text that was left in a buffer
  abbrev pub left_text : Header → (bytes buffer : List ℕ) → List ℕ
  left_text h bytes buffer = take (write_in F h bytes buffer).length (text_after_in F h bytes buffer)

  -- what reading gives for it, into another buffer
  pub record ReadAgain (h : Header) (bytes buffer space : List ℕ) : Type 0 where
    pub answer : answer_of (reading_in F h.part h.macros (left_text h bytes buffer) (length space)) ≡ record { number = 0; header = h }
    pub filled : buffer_after (reading_in F h.part h.macros (left_text h bytes buffer) (length space)) space ≡ bytes ++ drop (length bytes) space

  -- a text written again: its written form, and what that reads as
  pub record WrittenAgain (part macros : ℕ) (h : Header) (bytes : List ℕ) (room : ℕ) : Type 0 where
    pub form : List ℕ
    pub writes : Writes h bytes room form
    pub takes : Takes part macros form (length bytes) h bytes

  pub record WritingClaims : Type 0 where
    -- the text's length is known before it is written
    pub length-known : (g : Geometry) (h : Header) (bytes : List ℕ) → lookup_of h.part h.macros ≡ Ok g → Typed h bytes → length bytes ≡ image_size g
        → length (text_in F g h bytes) ≡ length_in F g
    -- a written text reads back as the same header and bytes
    pub reads-back : (h : Header) (bytes : List ℕ) (room : ℕ) (text : List ℕ) (space : ℕ) → Typed h bytes → Writes h bytes room text → length bytes ≤ space
        → Takes h.part h.macros text space h bytes
    -- the same as the two calls have it
    pub calls : (h : Header) (bytes buffer space : List ℕ) → Typed h bytes → (write_in F h bytes buffer).number ≡ 0 → length bytes ≤ length space
        → ReadAgain h bytes buffer space
    -- written texts of different images are different
    pub different : (h h' : Header) (bytes bytes' : List ℕ) (room room' : ℕ) (text : List ℕ) → Typed h bytes → Typed h' bytes' → Writes h bytes room text
        → Writes h' bytes' room' text
        → (h ≡ h') × (bytes ≡ bytes')
    -- two texts of one image are written alike
    pub alike : (h : Header) (bytes : List ℕ) (room room' : ℕ) (text text' : List ℕ) → Writes h bytes room text → Writes h bytes room' text' → text ≡ text'
    -- a taken text, written again, is the written form of its image, which reads as that image
    pub again : (part macros : ℕ) (g : Geometry) (text : List ℕ) (space : ℕ) (h : Header) (bytes : List ℕ) (room : ℕ) → lookup_of part macros ≡ Ok g
        → Takes part macros text space h bytes
        → length_in F g ≤ room
        → WrittenAgain part macros h bytes room
