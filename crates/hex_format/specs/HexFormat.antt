-- Intel hex as a format: document 01, 'Hex text'. What reading and writing promise of every format, and so of this one, is text's
-- specs/Claims.antt. Assumes nothing.
use Rattle.std.specs.Prelude.{List, [], ◌∷◌, ◌++◌, ℕ}
use Rattle.hex_records.specs.Records.{Record, BadRecord, DataRecord, ExtendedAddress, EndRecord, line_record}
use Rattle.hex_format.specs.Texts.{events}
use Rattle.hex_format.specs.Written.{written_text, written_length}
use Rattle.text.specs.Formats.{Format}
use Rattle.pairs.specs.Lines.{Line, lines_of}

-- the payloads of the data records among some lines, in their order
abbrev pub payload_of : Record → List ℕ
payload_of (BadRecord n) = []
payload_of (DataRecord low payload) = payload
payload_of (ExtendedAddress upper) = []
payload_of EndRecord = []

unfoldable pub payloads : List Line → List ℕ
payloads [] = []
payloads (l ∷ ls) = payload_of (line_record l) ++ payloads ls

-- 'The upper address half starts at 0'; `content_of`, `hex_reading`, `text_of` and `text_length` are `content_in`, `reading_in`, `text_in` and
-- `length_in` of it
abbrev pub intel_hex : Format
intel_hex = record {
  events_of = λ text. events 0 (lines_of text);
  payloads_of = λ text. payloads (lines_of text);
  written = written_text;
  length_of = written_length;
}
