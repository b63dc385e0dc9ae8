-- A text of part 1 is refused with a number of 1 or more, or gives an image that passes. Assumes nothing.
use mathlib.Core.Bool.{Bool, true, false, ◌&&◌, cond}
use mathlib.Core.List.{List, [], ◌∷◌}
use mathlib.Core.Path.{◌≡◌, refl}
use Prim.Native.Nat.{ℕ, ◌+◌, ◌*◌, ◌%◌, ◌≤◌}
use native.Mathlib.Omega.{arith}
use borrow.Author.Tests.{eqb-true, eqb-false}
use lib.Dec.{eqb, leb}
use lib.ListN.{length, get_or, take, drop}
use Rattle.dry.specs.Runs.{room}
use Rattle.flow.specs.Examples.{part_one}
use Rattle.hex_records.specs.Records.{Record, BadRecord, DataRecord, ExtendedAddress, EndRecord, high_first, typed, record_of, of_spelt, of_body, line_record}
use Rattle.hex_format.specs.Texts.{upper_after, event_of, events, content_of, hex_reading}
use Rattle.image.specs.Checks.{image_fault}
use Rattle.sections.specs.Sections.{sections_of, header_of}
use Rattle.lent.specs.Words.{total}
use Rattle.image.specs.declared.Header.{Header}
use Rattle.sections.specs.declared.Location.TheVariants.{InHeader}
use Rattle.sections.specs.declared.Section.{Section}
use Rattle.parts.specs.Parts.{look_in}
use Rattle.parts.specs.Sizes.{rows_of, flash_size, lock_total, image_size}
use Rattle.pairs.proofs.Capitals.{AllBytes, bytes-append, bytes_take, bytes_drop, bytes-spelt}
use Rattle.text.proofs.Pieces.{gathered-bytes, image-bytes}
use Rattle.pairs.specs.Digits.{Spelt, Unreadable, Spells, spelt}
use Rattle.pairs.specs.Lines.{Line, Ended, Open, without_cr, lines_of}
use Rattle.text.specs.Placing.{Event, Bad, Other, Data, End, Content, Refusal, Stream, prepend, fits, due_after, placing, gathered}
use Rattle.text.specs.Reading.{Reading, Untouched, Cleared, Taken, image_in, judged}

-- ---- a record has bytes, or a number

abbrev GoodRecord : Record → Type 0
GoodRecord (BadRecord n) = 1 ≤ n
GoodRecord (DataRecord low bs) = AllBytes bs
GoodRecord (ExtendedAddress u) = Unit {0}
GoodRecord EndRecord = Unit {0}

either : (t : Bool) (x y : Record) → GoodRecord x → GoodRecord y → GoodRecord (cond t x y)
either true x y h k = h
either false x y h k = k

record-good : (bs : List ℕ) → AllBytes bs → GoodRecord (record_of bs)
unfolding record_of typed
record-good [] a = omega arith
record-good (count ∷ bs) a =
    let payload = take count (drop 3 bs) in
    let kind = get_or bs 2 0 in
    let low = high_first bs in
    either (eqb (length bs) (count + 4)) _ (BadRecord 1)
    (either (eqb (total (count ∷ bs) % 256) 0) _ (BadRecord 2)
    (either (eqb kind 0) _ _ (either (leb 1 (length payload)) (DataRecord low payload) (BadRecord 3) (bytes_take count (drop 3 bs) (bytes_drop 3 bs a.1)) (omega arith))
    (either (eqb kind 4) _ _ (either (eqb (length payload) 2 && eqb low 0) (ExtendedAddress (high_first payload)) (BadRecord 3) tt (omega arith))
    (either (eqb kind 1) _ (BadRecord 3) (either (eqb (length payload) 0 && eqb low 0) EndRecord (BadRecord 3) tt (omega arith)) (omega arith))))
    (omega arith))
    (omega arith)

spelt-good : (m : List ℕ) (s : Spelt) → spelt m ≡ s → GoodRecord (of_spelt s)
unfolding of_spelt
spelt-good m Unreadable e = omega arith
spelt-good m (Spells bs) e = record-good bs (bytes-spelt m bs e)

body-good : (m : List ℕ) → GoodRecord (of_body m)
unfolding of_body
body-good [] = omega arith
body-good (c ∷ m) = either (eqb c 58) (of_spelt (spelt m)) (BadRecord 1) (spelt-good m (spelt m) refl) (omega arith)

line-good : (l : Line) → GoodRecord (line_record l)
unfolding line_record
line-good (Open l) = omega arith
line-good (Ended l) = body-good (without_cr l)

-- ---- a text comes to bytes, or a number

abbrev GoodEvent : Event → Type 0
GoodEvent (Bad n) = 1 ≤ n
GoodEvent Other = Unit {0}
GoodEvent (Data a bs) = AllBytes bs
GoodEvent End = Unit {0}

abbrev GoodContent : Content → Type 0
GoodContent (Refusal n) = 1 ≤ n
GoodContent (Stream bs) = AllBytes bs

event-good : (u : ℕ) (r : Record) → GoodRecord r → GoodEvent (event_of u r)
unfolding event_of
event-good u (BadRecord n) h = h
event-good u (DataRecord low bs) h = by (leb (low + length bs) 65536)
  where
    by : (t : Bool) → GoodEvent (cond t (Data (65536 * u + low) bs) (Bad 4))
    by true = h
    by false = omega arith
event-good u (ExtendedAddress n) h = tt
event-good u EndRecord h = tt

prepend-good : (bs : List ℕ) (o : Content) → AllBytes bs → GoodContent o → GoodContent (prepend bs o)
unfolding prepend
prepend-good bs (Refusal n) a h = h
prepend-good bs (Stream cs) a h = bytes-append bs cs a h

text-good : (ls : List Line) (u : ℕ) (due : List Section) → GoodContent (placing due (events u ls))
unfolding events placing
text-good [] u due = omega arith
text-good (l ∷ ls) u due =
    go (event_of u (line_record l)) (event-good u (line_record l) (line-good l)) due (λ d. text-good ls (upper_after u (line_record l)) d)
  where
    go : (e : Event) → GoodEvent e → (d : List Section) → ((d' : List Section) → GoodContent (placing d' (events (upper_after u (line_record l)) ls)))
        → GoodContent (placing d (e ∷ events (upper_after u (line_record l)) ls))
    go (Bad n) h d ih = h
    go Other h d ih = ih d
    go (Data a bs) h [] ih = omega arith
    go (Data a bs) h (s ∷ ss) ih = by (fits a (length bs) s)
      where
        by : (t : Bool) → GoodContent (cond t (prepend bs (placing (due_after (length bs) s ss) (events (upper_after u (line_record l)) ls))) (Refusal 4))
        by true = prepend-good bs (placing (due_after (length bs) s ss) (events (upper_after u (line_record l)) ls)) h (ih (due_after (length bs) s ss))
        by false = omega arith
    go End h (s ∷ ss) ih = omega arith
    go End h [] ih = last (events (upper_after u (line_record l)) ls)
      where
        last : (es : List Event) → GoodContent (placing [] (End ∷ es))
        last [] = tt
        last (e ∷ es) = omega arith

-- ---- a reading

-- a taken header, beside the image's bytes
pub record TakenWell (h : Header) (bytes : List ℕ) : Type 0 where
  pub part : h.part ≡ 1
  pub macros : h.macros ≡ 1
  pub checked : image_fault h bytes ≡ 0
  pub image : AllBytes bytes
  pub metadata : AllBytes h.metadata

abbrev pub GoodReading : Reading → Type 0
GoodReading (Untouched n) = 1 ≤ n
GoodReading (Cleared n size) = 1 ≤ n
GoodReading (Taken h bytes) = TakenWell h bytes

judged-good : (o : Content) → GoodContent o → GoodReading (judged part_one 1 1 o)
judged-good (Refusal n) h = h
judged-good (Stream bs) a =
    let i = gathered InHeader (sections_of part_one) bs in
    let ia = gathered-bytes InHeader (sections_of part_one) bs a in
    by (header_of 1 1 i) (image_in part_one bs) (eqb (image_fault (header_of 1 1 i) (image_in part_one bs)) 0) refl refl refl (image-bytes part_one bs a)
    (bytes_take 12 (drop 2 i) (bytes_drop 2 i ia))
  where
    by : (h : Header) (image : List ℕ) (t : Bool) → eqb (image_fault h image) 0 ≡ t → h.part ≡ 1 → h.macros ≡ 1 → AllBytes image → AllBytes h.metadata
        → GoodReading (cond t (Taken h image) (Cleared (image_fault h image) (image_size part_one)))
    by h image true e p m x y = record { part = p; macros = m; checked = eqb-true (image_fault h image) 0 e; image = x; metadata = y }
    by h image false e p m x y = let f = eqb-false (image_fault h image) 0 e in omega arith

pub reading-good : (text : List ℕ) → GoodReading (hex_reading 1 1 text room)
unfolding look_in image_size flash_size lock_total rows_of
reading-good text = judged-good (content_of text (sections_of part_one)) (text-good (lines_of text) 0 (sections_of part_one))
