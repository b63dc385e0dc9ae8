-- What the record at a position does to the content. Assumes nothing.
use mathlib.Core.Bool.{Bool, true, false, ◌&&◌, cond}
use mathlib.Core.List.{List, [], ◌∷◌}
use mathlib.Core.Path.{◌≡◌, refl, ap, ◌∙◌}
use Prim.Native.Nat.{ℕ, suc, ◌+◌, ◌*◌, ◌≤◌}
use native.Mathlib.Omega.{arith}
use borrow.Author.Tests.{eqb-true, eqb-false, leb-true}
use lib.Dec.{eqb, leb}
use lib.ListN.{length, get_or, drop, drop_of_length-le}
use lib.Seq.{drop-cons}
use Rattle.hex_records.specs.Records.{Record, BadRecord, DataRecord, ExtendedAddress, EndRecord}
use Rattle.hex_format.specs.Turns.{content_at, data_turn, end_turn, turn_on, turn_of, TurnAt}
use Rattle.hex_records.specs.Places.{LineAt, LineTo, located_of}
use Rattle.hex_format.specs.Texts.{upper_after, event_of, events}
use Rattle.hex_records.specs.declared.Located.{Located}
use Rattle.hex_format.specs.declared.Turn.TheVariants.{Done, Store}
use Rattle.refusals.specs.declared.Refusal.TheVariants.{DataPlace, EndRecord}
use Rattle.std.specs.Prelude.{Ok, Err}
use Rattle.sections.specs.declared.Section.{Section}
use Rattle.pairs.specs.Lines.{Line, lines_of}
use Rattle.text.specs.Placing.{Event, Data, Refusal, Stream, placing}
use Rattle.text.specs.Scanning.{dues}
use Rattle.pairs.proofs.Lines.{some-line}
use Rattle.hex_records.proofs.Bodies.{payload_in, payload-length}

-- what is found leads where the definition says
pub turned : (s : List ℕ) (at u : ℕ) (due : Section) (row : List ℕ) (l : Located) → l ≡ located_of s at row
    → turn_on due u (length s) l.next l.found ≡ turn_of s at u due row
unfolding turn_of
turned s at u due row l is = ap (λ (x : Located). turn_on due u (length s) x.next x.found) is

-- nothing is left
no_lines : (s : List ℕ) (at : ℕ) → length s ≤ at → lines_of (drop at s) ≡ []
unfolding lines_of
no_lines s at h = ap lines_of (drop_of_length-le s {i = at} h)

pub at-end : (s : List ℕ) (at u : ℕ) (ds : List Section) → length s ≤ at → content_at s at u ds ≡ Refusal 5
unfolding events placing
at-end s at u ds h = rw (no_lines s at h)

-- a record that is refused
pub stopped : (s : List ℕ) (at u n : ℕ) (ds : List Section) → LineAt s at (BadRecord n) → content_at s at u ds ≡ Refusal n
unfolding events event_of placing
stopped s at u n ds l = rw l.is (rw l.says)

-- a record, and the lines after it
onward : (s : List ℕ) (at next u : ℕ) (r : Record) (ds : List Section) → LineTo s at next r
    → content_at s at u ds ≡ placing ds (event_of u r ∷ events (upper_after u r) (lines_of (drop next s)))
unfolding events
onward s at next u r ds l =
    ap (λ (ls : List Line). placing ds (events u ls)) l.is
    ∙ ap (λ (x : Record). placing ds (event_of u x ∷ events (upper_after u x) (lines_of (drop next s)))) l.says

pub moved : (s : List ℕ) (at next u new : ℕ) (ds : List Section) → LineTo s at next (ExtendedAddress new) → content_at s at u ds ≡ content_at s next new ds
unfolding event_of upper_after placing
moved s at next u new ds l = onward s at next u (ExtendedAddress new) ds l

-- payload
module _ (s : List ℕ) (at next u low count : ℕ) (due : Section) (row : List ℕ) (l : LineTo s at next (DataRecord low (payload_in row count)))
    (some : 1 ≤ count) (small : count ≤ 255) (room : 4 + count ≤ length row) where
  size : length (payload_in row count) ≡ count
  size = payload-length row count room

  rest : List Event
  rest = events u (lines_of (drop next s))

  crosses : leb (low + count) 0x10000 ≡ false → (ds : List Section) → content_at s at u ds ≡ Refusal 4
  unfolding event_of upper_after placing
  crosses h ds = onward s at next u (DataRecord low (payload_in row count)) ds l ∙ rw (size, h)

  fits_line : leb (low + count) 0x10000 ≡ true → (ds : List Section) → content_at s at u ds ≡ placing ds (Data (0x10000 * u + low) (payload_in row count) ∷ rest)
  unfolding event_of upper_after rest
  fits_line h ds = onward s at next u (DataRecord low (payload_in row count)) ds l ∙ rw (size, h)

  no_place : (b : Bool) → (eqb (0x10000 * u + low) due.address && leb count due.size) ≡ false → (ss : List Section)
      → placing (cond b [] (due ∷ ss)) (Data (0x10000 * u + low) (payload_in row count) ∷ rest) ≡ Refusal 4
  unfolding placing
  no_place true h ss = refl
  no_place false h ss = rw size (rw h)

  by_tests : (a b c : Bool) → leb (low + count) 0x10000 ≡ a → eqb (0x10000 * u + low) due.address ≡ b → leb count due.size ≡ c
      → TurnAt s at u due (cond (a && (b && c)) (Ok (Store count next)) (Err DataPlace)) row
  unfolding placing rest
  by_tests true true true p q r =
      (λ ss. fits_line p (due ∷ ss) ∙ rw size (rw (q, r)), l.more, l.inside, some, small, room, leb-true count due.size r)
  by_tests true true false p q r = λ ss. fits_line p (dues due ss) ∙ no_place (eqb due.size 0) (rw (q, r)) ss
  by_tests true false c p q r = λ ss. fits_line p (dues due ss) ∙ no_place (eqb due.size 0) (rw q) ss
  by_tests false b c p q r = λ ss. crosses p (dues due ss)

  pub data-turn : TurnAt s at u due (data_turn due u low count next) row
  unfolding data_turn
  data-turn = by_tests (leb (low + count) 0x10000) (eqb (0x10000 * u + low) due.address) (leb count due.size) refl refl refl

-- the end record
module _ (s : List ℕ) (at next u : ℕ) (due : Section) (row : List ℕ) (l : LineTo s at next EndRecord) where
  ends : (ds : List Section) → content_at s at u ds ≡ placing ds (event_of u EndRecord ∷ events u (lines_of (drop next s)))
  unfolding upper_after
  ends ds = onward s at next u EndRecord ds l

  last : next ≡ length s → content_at s at u [] ≡ Stream []
  unfolding event_of events placing
  last h = ends [] ∙ rw (no_lines s next (omega arith))

  followed : (next ≡ length s → ⊥) → content_at s at u [] ≡ Refusal 5
  unfolding event_of events placing
  followed h =
      let f = some-line (get_or s next 0) (drop (suc next) s) in
      let i = l.inside in
      let e : lines_of (drop next s) ≡ f.0 ∷ f.1 = ap lines_of (drop-cons s next 0 (omega arith)) ∙ f.2 in
      ends [] ∙ rw e

  early : (ss : List Section) → content_at s at u (due ∷ ss) ≡ Refusal 5
  unfolding event_of placing
  early ss = ends (due ∷ ss)

  by_end : (a b : Bool) → eqb due.size 0 ≡ a → eqb next (length s) ≡ b → TurnAt s at u due (cond (a && b) (Ok Done) (Err EndRecord)) row
  by_end true true p q =
      ((λ ss. ap (λ (t : Bool). content_at s at u (cond t [] (due ∷ ss))) p ∙ last (eqb-true next (length s) q)), eqb-true due.size 0 p)
  by_end true false p q = λ ss. ap (λ (t : Bool). content_at s at u (cond t [] (due ∷ ss))) p ∙ followed (eqb-false next (length s) q)
  by_end false b p q = λ ss. ap (λ (t : Bool). content_at s at u (cond t [] (due ∷ ss))) p ∙ early ss

  pub end-turn : TurnAt s at u due (end_turn due next (length s)) row
  unfolding end_turn
  end-turn = by_end (eqb due.size 0) (eqb next (length s)) refl refl
