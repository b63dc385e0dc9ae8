-- What a format owes, so that the claims of specs/Claims.antt hold of it: the laws of reading and of writing, at the end, each with the
-- claims that rest on it. `sound`, `each-once` and `alike` rest on none, and so does `one-image`. Two records, because the crate that reads
-- a format gives the first without the crate that writes it. Assumes nothing.
use mathlib.Core.List.{List, [], ◌∷◌, ◌++◌}
use mathlib.Core.Path.{◌≡◌, refl}
use Prim.Native.Nat.{ℕ, zero, suc, ◌+◌, ◌-◌, ◌/◌, ◌%◌, ◌≤◌, ◌<◌}
use native.Mathlib.Omega.{arith}
use lib.ListN.{length, drop, length-take, length-drop}
use Rattle.image.specs.declared.Header.{Header}
use Rattle.sections.specs.declared.Section.{Section}
use Rattle.parts.specs.declared.Geometry.{Geometry}
use Rattle.pairs.proofs.Capitals.{AllBytes, bytes_take, bytes_drop}
use Rattle.text.proofs.Pieces.{Says, Filled}
use Rattle.text.specs.Formats.{Format, content_in, text_in, length_in}
use Rattle.text.specs.Placing.{Event, Stream, Piece, cut, pieces_in, pieces}
use Rattle.text.specs.Sized.{Sized}

-- a piece that a record may have: 1 to 64 bytes, within a 64 KiB line (which Intel hex needs)
pub record FitsRecord (p : Piece) : Type 0 where
  pub some : 0 < length p.bytes
  pub most : length p.bytes ≤ 64
  pub high : p.address < 0x100000000
  pub inside : p.address % 0x10000 + length p.bytes ≤ 0x10000
  pub bytes : AllBytes p.bytes

abbrev pub AllFitRecords : List Piece → Type 0
AllFitRecords [] = Unit {0}
AllFitRecords (p ∷ ps) = FitsRecord p × AllFitRecords ps

-- a written record never crosses a 64 KiB line
pub cut_fits : (n a size : ℕ) (bs : List ℕ) → length bs ≡ size → 0 < size → n ≡ (size + 63) / 64 → a % 64 ≡ 0 → a + size ≤ 0x100000000 → AllBytes bs
    → AllFitRecords (cut n a bs)
unfolding cut
cut_fits zero a size bs l some c d h all = tt
cut_fits (suc zero) a size bs l some c d h all =
    let t = length-take 64 bs in
    (record { some = omega arith; most = omega arith; high = omega arith; inside = omega arith; bytes = bytes_take 64 bs all }, tt)
cut_fits (suc (suc n)) a size bs l some c d h all =
    let t = length-take 64 bs in (
      record { some = omega arith; most = omega arith; high = omega arith; inside = omega arith; bytes = bytes_take 64 bs all },
      cut_fits (suc n) (a + 64) (size - 64) (drop 64 bs) (omega (arith, length-drop 64 bs)) (omega arith) (omega arith) (omega arith) (omega arith) (bytes_drop 64 bs all),
    )

pub fits-append : (ps qs : List Piece) → AllFitRecords ps → AllFitRecords qs → AllFitRecords (ps ++ qs)
fits-append [] qs h k = k
fits-append (p ∷ ps) qs h k = (h.0, fits-append ps qs h.1 k)

-- sections whose pieces are neat
abbrev pub Aligned : (Section → List ℕ) → List Section → Type 0
Aligned f [] = Unit {0}
Aligned f (s ∷ ss) = (s.address % 64 ≡ 0) × (s.address + s.size ≤ 0x100000000) × AllBytes (f s) × Aligned f ss

pub pieces-fit : (f : Section → List ℕ) (ss : List Section) → Filled f ss → Aligned f ss → AllFitRecords (pieces f ss)
unfolding pieces
pieces-fit f [] fill aligned = tt
pieces-fit f (s ∷ ss) fill aligned =
    fits-append (cut (pieces_in s) s.address (f s)) (pieces f ss)
    (cut_fits (pieces_in s) s.address s.size (f s) fill.1 fill.0 refl aligned.0 aligned.1 aligned.2)
    (pieces-fit f ss fill.2 aligned.3)

pub record ReadingLaws (F : Format) : Type 0 where
  -- what a text comes to are the payloads of its own data records: `own-bytes`
  pub own : (text : List ℕ) (due : List Section) (stream : List ℕ) → content_in F text due ≡ Stream stream → stream ≡ F.payloads_of text
  -- payloads are bytes: `again`
  pub bytes : (text : List ℕ) → AllBytes (F.payloads_of text)
  -- more text after one that is taken is more records: `followed`
  pub follows : (text : List ℕ) (due : List Section) (stream : List ℕ) (c : ℕ) (more : List ℕ) → content_in F text due ≡ Stream stream
      → (e : Event) × (es : List Event) × (F.events_of (text ++ (c ∷ more)) ≡ F.events_of text ++ (e ∷ es))

pub record WritingLaws (F : Format) : Type 0 where
  -- written pieces read as these pieces: `reads-back`, `calls`, `different`, `again`
  pub says : (ps : List Piece) → AllFitRecords ps → Says ps (F.events_of (F.written ps))
  -- the length: `length-known`
  pub measures : (g : Geometry) (h : Header) (bytes : List ℕ) → Sized g h bytes → length (text_in F g h bytes) ≡ length_in F g
