-- What `turn_at` and the functions below it give, at a position of the text; `read`'s own contract needs none of it. Assumes nothing.
use Rattle.std.specs.Prelude.{◌&&◌, cond, List, [], ◌∷◌, ◌≡◌, ℕ, ◌+◌, ◌*◌, ◌≤◌, ◌<◌, eqb, leb, length, take, drop, Option, Some, None, Result, Ok, Err}
use Rattle.hex_format.specs.Texts.{events}
use Rattle.hex_format.specs.declared.Turn.{Turn}
use Rattle.hex_format.specs.declared.Turn.TheVariants.{Done, Moved, Store}
use Rattle.hex_records.specs.Places.{located_of}
use Rattle.hex_records.specs.declared.Found.{Found}
use Rattle.hex_records.specs.declared.Found.TheVariants.{Payload, Extended, Ended}
use Rattle.pairs.specs.Lines.{lines_of}
use Rattle.refusals.specs.Refusals.{refusal_number}
use Rattle.refusals.specs.declared.Refusal.{Refusal}
use Rattle.refusals.specs.declared.Refusal.TheVariants.{DataPlace, EndRecord}
use Rattle.sections.specs.declared.Section.{Section}
use Rattle.text.specs.Placing.{Content, Refusal as Refused, Stream, placing, prepend, due_after}
use Rattle.text.specs.Scanning.{dues}

-- what the lines from a position on come to
abbrev pub content_at : (text : List ℕ) (at upper : ℕ) (due : List Section) → Content
content_at text at upper due = placing due (events upper (lines_of (drop at text)))

-- '4 data not the next due, or crossing'
unfoldable pub data_turn : Section → (upper low count next : ℕ) → Result Turn Refusal
data_turn due upper low count next =
    cond (leb (low + count) 0x10000 && (eqb (0x10000 * upper + low) due.address && leb count due.size)) (Ok (Store count next)) (Err DataPlace)

-- '5 end record missing, early or followed'
unfoldable pub end_turn : Section → (next len : ℕ) → Result Turn Refusal
end_turn due next len = cond (eqb due.size 0 && eqb next len) (Ok Done) (Err EndRecord)

-- where what is found leads, in a text of so many bytes
abbrev pub turn_to : Section → (upper len next : ℕ) → Found → Result Turn Refusal
turn_to due upper len next (Payload low count) = data_turn due upper low count next
turn_to due upper len next (Extended new) = Ok (Moved next new)
turn_to due upper len next Ended = end_turn due next len

-- no line is left: '5 end record missing'
abbrev pub turn_on : Section → (upper len next : ℕ) → Result (Option Found) Refusal → Result Turn Refusal
turn_on due upper len next (Ok None) = Err EndRecord
turn_on due upper len next (Ok (Some f)) = turn_to due upper len next f
turn_on due upper len next (Err r) = Err r

unfoldable pub turn_of : (text : List ℕ) (at upper : ℕ) → Section → (row : List ℕ) → Result Turn Refusal
turn_of text at upper due row = turn_on due upper (length text) (located_of text at row).next (located_of text at row).found

-- what a turn does to the content, whatever sections follow the one that is due
abbrev pub TurnAt : (text : List ℕ) (at upper : ℕ) → Section → Result Turn Refusal → (row : List ℕ) → Type 0
TurnAt text at upper due (Err r) row = (ss : List Section) → content_at text at upper (dues due ss) ≡ Refused (refusal_number r)
TurnAt text at upper due (Ok Done) row = ((ss : List Section) → content_at text at upper (dues due ss) ≡ Stream []) × (due.size ≡ 0)
TurnAt text at upper due (Ok (Moved next new)) row =
    ((ss : List Section) → content_at text at upper ss ≡ content_at text next new ss) × (at < next) × (next ≤ length text)
TurnAt text at upper due (Ok (Store count next)) row =
    ((ss : List Section) → content_at text at upper (due ∷ ss) ≡ prepend (take count (drop 4 row)) (content_at text next upper (due_after count due ss)))
    × (at < next)
    × (next ≤ length text)
    × (1 ≤ count)
    × (count ≤ 255)
    × (4 + count ≤ length row)
    × (count ≤ due.size)
