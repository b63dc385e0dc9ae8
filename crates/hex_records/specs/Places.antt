-- The line at a position of the text, as the reader finds it; `read`'s own contract needs none of it. Assumes nothing.
use Rattle.std.specs.Prelude.{◌&&◌, cond, List, ◌∷◌, ◌≡◌, ℕ, ◌+◌, ◌*◌, ◌%◌, ◌≤◌, ◌<◌, eqb, leb, length, get_or, take, drop, Option, Some, None, Result, Ok, Err}
use Rattle.hex_records.specs.Records.{Record, BadRecord, DataRecord, ExtendedAddress, EndRecord, line_record, record_of}
use Rattle.hex_records.specs.declared.Found.{Found}
use Rattle.hex_records.specs.declared.Found.TheVariants.{Payload, Extended, Ended}
use Rattle.hex_records.specs.declared.Frame.{Frame}
use Rattle.hex_records.specs.declared.Located.{Located}
use Rattle.lent.specs.Words.{total}
use Rattle.pairs.specs.Lines.{Line, lines_of}
use Rattle.pairs.specs.Spelling.{pair_run_of, row_after, line_end}
use Rattle.refusals.specs.Refusals.{refusal_number}
use Rattle.refusals.specs.declared.Refusal.{Refusal}
use Rattle.refusals.specs.declared.Refusal.TheVariants.{LineForm, RecordSum, RecordType}

-- the first line at a position is such a record
pub record LineAt (text : List ℕ) (at : ℕ) (r : Record) : Type 0 where
  pub line : Line
  pub rest : List Line
  pub is : lines_of (drop at text) ≡ line ∷ rest
  pub says : line_record line ≡ r

-- and the next line begins at `next`
pub record LineTo (text : List ℕ) (at next : ℕ) (r : Record) : Type 0 where
  pub line : Line
  pub is : lines_of (drop at text) ≡ line ∷ lines_of (drop next text)
  pub says : line_record line ≡ r
  pub more : at < next
  pub inside : next ≤ length text

-- a line's bytes are in the row: the count, and four and as many as it says
pub record Spelled (row : List ℕ) (count sum : ℕ) : Type 0 where
  pub small : count ≤ 255
  pub counts : get_or row 0 0 ≡ count
  pub sums : total (take (count + 5) row) ≡ sum

abbrev pub FrameAt : (text : List ℕ) (at : ℕ) → Option Frame → (row : List ℕ) → Type 0
FrameAt text at None row = LineAt text at (BadRecord 1)
FrameAt text at (Some f) row = LineTo text at f.next (record_of (take (f.count + 5) row)) × Spelled row f.count f.sum

-- ---- what is found, and the row that is left: this follows the code, position by position; `FoundAt` adds what `lines_of` and `line_record` say there

-- the frame of a line whose count is in the row: as many pairs as it says, then a line end
unfoldable pub frame_on : (text : List ℕ) (at : ℕ) (row : List ℕ) → Option Frame
frame_on text at row =
    cond (pair_run_of text (at + 1) (get_or row 0 0 + 5) (length row)).good
    (cond (eqb (line_end text (at + 11 + 2 * get_or row 0 0)) 0) None
    (Some (record {
      count = get_or row 0 0;
      sum = (pair_run_of text (at + 1) (get_or row 0 0 + 5) (length row)).sum;
      next = at + 11 + 2 * get_or row 0 0 + line_end text (at + 11 + 2 * get_or row 0 0);
    })))
    None

-- a colon, the pair of the count, the rest
unfoldable pub frame_of : (text : List ℕ) (at : ℕ) (row : List ℕ) → Option Frame
frame_of text at row =
    cond (eqb (get_or text at 0) 58 && (pair_run_of text (at + 1) 1 (length row)).good) (frame_on text at (row_after row text (at + 1) 1)) None

-- the row with all pairs, with the pair of the count, or as it was
unfoldable pub frame_row : (text : List ℕ) (at : ℕ) (row : List ℕ) → List ℕ
frame_row text at row =
    cond (eqb (get_or text at 0) 58)
    (cond (pair_run_of text (at + 1) 1 (length row)).good
    (row_after (row_after row text (at + 1) 1) text (at + 1) (get_or (row_after row text (at + 1) 1) 0 0 + 5))
    (row_after row text (at + 1) 1))
    row

-- a record by its type, size and address; '3 type, or its length or address'
unfoldable pub found_of : (kind low count upper : ℕ) → Result Found Refusal
found_of kind low count upper =
    cond (eqb kind 0) (cond (leb 1 count) (Ok (Payload low count)) (Err RecordType))
    (cond (eqb kind 4) (cond (eqb count 2 && eqb low 0) (Ok (Extended upper)) (Err RecordType))
    (cond (eqb kind 1) (cond (eqb count 0 && eqb low 0) (Ok Ended) (Err RecordType))
    (Err RecordType)))

abbrev pub found_in : (row : List ℕ) (count : ℕ) → Result Found Refusal
found_in row count = found_of (get_or row 3 0) (256 * get_or row 1 0 + get_or row 2 0) count (256 * get_or row 4 0 + get_or row 5 0)

abbrev pub located : Result Found Refusal → (next : ℕ) → Located
located (Ok f) next = record { found = Ok (Some f); next = next }
located (Err r) next = record { found = Err r; next = next }

-- '1 line form' for a broken frame, '2 record sum' for a sum that is not 0, else the record
abbrev pub located_in : Option Frame → (row : List ℕ) → Located
located_in None row = located (Err LineForm) 0
located_in (Some f) row = cond (eqb (f.sum % 256) 0) (located (found_in row f.count) f.next) (located (Err RecordSum) 0)

unfoldable pub located_of : (text : List ℕ) (at : ℕ) (row : List ℕ) → Located
located_of text at row = cond (leb (length text) at) (record { found = Ok None; next = 0 }) (located_in (frame_of text at row) (frame_row text at row))

unfoldable pub located_row : (text : List ℕ) (at : ℕ) (row : List ℕ) → List ℕ
located_row text at row = cond (leb (length text) at) row (frame_row text at row)

-- ---- what the text has there

-- a record, and the next line after it
abbrev pub FoundTo : (text : List ℕ) (at next : ℕ) → Found → (row : List ℕ) → Type 0
FoundTo text at next (Payload low count) row =
    LineTo text at next (DataRecord low (take count (drop 4 row))) × (1 ≤ count) × (count ≤ 255) × (4 + count ≤ length row)
FoundTo text at next (Extended upper) row = LineTo text at next (ExtendedAddress upper)
FoundTo text at next Ended row = LineTo text at next EndRecord

-- what is found at a position: no line, or its record, or 1, 2 or 3
abbrev pub FoundAt : (text : List ℕ) (at next : ℕ) → Result (Option Found) Refusal → (row : List ℕ) → Type 0
FoundAt text at next (Ok None) row = length text ≤ at
FoundAt text at next (Ok (Some f)) row = FoundTo text at next f row
FoundAt text at next (Err r) row = LineAt text at (BadRecord (refusal_number r))
