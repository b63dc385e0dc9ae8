-- A whole Intel hex text: document 01, 'Hex text' and 'Who brings a number about'. Assumes nothing.
use Rattle.std.specs.Prelude.{cond, List, [], ◌∷◌, ℕ, ◌+◌, ◌*◌, leb, length}
use Rattle.hex_records.specs.Records.{Record, BadRecord, DataRecord, ExtendedAddress, EndRecord, line_record}
use Rattle.sections.specs.declared.Section.{Section}
use Rattle.pairs.specs.Lines.{Line, lines_of}
use Rattle.text.specs.Placing.{Event, Bad, Other, Data, End, Content, placing}
use Rattle.text.specs.Reading.{Reading, reading_of}

-- the upper half after a record
unfoldable pub upper_after : (upper : ℕ) → Record → ℕ
upper_after upper (BadRecord n) = upper
upper_after upper (DataRecord low bs) = upper
upper_after upper (ExtendedAddress new) = new
upper_after upper EndRecord = upper

-- what a record says while the upper half is so; 'a record crosses neither its section's end nor a 64 KiB line' (4)
unfoldable pub event_of : (upper : ℕ) → Record → Event
event_of upper (BadRecord n) = Bad n
event_of upper (DataRecord low bs) = cond (leb (low + length bs) 0x10000) (Data (0x10000 * upper + low) bs) (Bad 4)
event_of upper (ExtendedAddress new) = Other
event_of upper EndRecord = End

unfoldable pub events : (upper : ℕ) → List Line → List Event
events upper [] = []
events upper (l ∷ ls) = event_of upper (line_record l) ∷ events (upper_after upper (line_record l)) ls

-- what a text comes to against the sections that are due; 'The upper address half starts at 0'
abbrev pub content_of : (text : List ℕ) (due : List Section) → Content
content_of text due = placing due (events 0 (lines_of text))

-- reading a text for part and M into a buffer of `room` bytes; text's specs/Reading.antt has its answer and the buffer after it
abbrev pub hex_reading : (part macros : ℕ) (text : List ℕ) (room : ℕ) → Reading
hex_reading part macros text room = reading_of part macros room (content_of text)
