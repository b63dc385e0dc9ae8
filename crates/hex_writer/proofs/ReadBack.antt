-- Written lines read back as the records that they were written for. Assumes nothing.
use mathlib.Core.Bool.{Bool, true, false}
use mathlib.Core.List.{List, [], ◌∷◌, ◌++◌, append_assoc}
use mathlib.Core.Path.{◌≡◌, refl, sym, ap, ◌∙◌, subst}
use Prim.Native.Nat.{ℕ, ◌+◌, ◌*◌, ◌/◌, ◌%◌, ◌<◌}
use native.Mathlib.Omega.{arith}
use borrow.Author.Tests.{eq-eqb, le-leb, eqb-true, eqb-false}
use lib.Dec.{eqb}
use lib.ListN.{length, length-append}
use lib.Seq.{take_at}
use Rattle.hex_records.specs.Records.{Record, DataRecord, ExtendedAddress, typed, record_of, of_spelt, of_body, line_record}
use Rattle.hex_format.specs.Texts.{upper_after, event_of, events}
use Rattle.hex_format.specs.Written.{sum_byte, line_text, data_line, extended_line, end_line, new_upper, upper_of, low_of, lines_from, written_text}
use Rattle.hex_lines.proofs.Pairs.{total-append}
use Rattle.hex_writer.proofs.Lines.{upper-same, upper-new}
use Rattle.lent.specs.Words.{total}
use Rattle.pairs.proofs.Capitals.{AllBytes, bytes-append, pairs-digits, spelt-pairs}
use Rattle.text.proofs.Formats.{FitsRecord, AllFitRecords}
use Rattle.pairs.proofs.Lines.{lines_cut, digits-no-lf, no-lf-append, cr-bare}
use Rattle.text.proofs.Pieces.{Says}
use Rattle.pairs.specs.Digits.{pairs_of, digit_of, spelt, with_byte}
use Rattle.pairs.specs.Lines.{Ended, lines_of, onto, without_cr}
use Rattle.text.specs.Placing.{Other, Data, End, Piece}

abbrev with_sum : List ℕ → List ℕ
with_sum bs = bs ++ (sum_byte bs ∷ [])

-- the sum byte makes the sum 0
sums-to-zero : (bs : List ℕ) → total (with_sum bs) % 256 ≡ 0
unfolding total
sums-to-zero bs = omega (arith, total-append bs (sum_byte bs ∷ []))

-- a line reads as the record of its bytes
module _ (bs rest : List ℕ) (all : AllBytes bs) where
  line : List ℕ
  line = 58 ∷ (pairs_of (with_sum bs) ++ (13 ∷ []))

  bytes : AllBytes (with_sum bs)
  bytes = bytes-append bs (sum_byte bs ∷ []) all (omega arith, tt)

  first-line : lines_of (line_text bs ++ rest) ≡ (Ended line ∷ lines_of rest)
  unfolding line_text line
  first-line =
      let m = pairs_of (with_sum bs) in
      ap (λ (x : List ℕ). lines_of (58 ∷ x)) (append_assoc m (13 ∷ 10 ∷ []) rest ∙ sym (append_assoc m (13 ∷ []) (10 ∷ rest)))
      ∙ lines_cut (58 ∷ (m ++ (13 ∷ []))) rest (refl, no-lf-append m (13 ∷ []) (digits-no-lf m (pairs-digits (with_sum bs) bytes)) (refl, tt))

  its-record : line_record (Ended line) ≡ record_of (with_sum bs)
  unfolding line line_record of_body of_spelt
  its-record = rw (cr-bare 58 (pairs_of (with_sum bs)), spelt-pairs (with_sum bs) bytes)

  line-events : (u : ℕ) (r : Record) → record_of (with_sum bs) ≡ r
      → events u (lines_of (line_text bs ++ rest)) ≡ event_of u r ∷ events (upper_after u r) (lines_of rest)
  unfolding events
  line-events u r e = rw first-line (rw (its-record ∙ e))

-- the records of the three kinds of lines
module _ (low : ℕ) (payload : List ℕ) (small : low < 0x10000) (some : 0 < length payload) where
  abbrev head : List ℕ
  head = length payload ∷ low / 256 ∷ low % 256 ∷ 0 ∷ []

  data-record : record_of (with_sum (head ++ payload)) ≡ DataRecord low payload
  unfolding record_of typed
  data-record =
      let n : length (low / 256 ∷ low % 256 ∷ 0 ∷ (payload ++ (sum_byte (head ++ payload) ∷ []))) ≡ length payload + 4 =
      omega (arith, length-append payload (sum_byte (head ++ payload) ∷ [])) in
      let z = sums-to-zero (head ++ payload) in
      let l : 256 * (low / 256) + low % 256 ≡ low = omega arith in
      let t = take_at payload (sum_byte (head ++ payload) ∷ []) (length payload) refl in
      rw (eq-eqb _ _ n, eq-eqb _ _ z, t, le-leb 1 (length payload) some, l)

extended-record : (upper : ℕ) → upper < 0x10000 → record_of (with_sum (2 ∷ 0 ∷ 0 ∷ 4 ∷ upper / 256 ∷ upper % 256 ∷ [])) ≡ ExtendedAddress upper
unfolding record_of typed
extended-record upper h =
    let z = sums-to-zero (2 ∷ 0 ∷ 0 ∷ 4 ∷ upper / 256 ∷ upper % 256 ∷ []) in
    let u : 256 * (upper / 256) + upper % 256 ≡ upper = omega arith in
    rw (eq-eqb _ _ z, u)

-- 'the last record is :00000001FF exactly': it is the end record
pub end-events : (u : ℕ) → events u (lines_of end_line) ≡ End ∷ []
unfolding events lines_of onto line_record of_body of_spelt record_of typed total digit_of spelt with_byte without_cr event_of upper_after
end-events u = refl

extended-events : (u v : ℕ) (rest : List ℕ) → v < 0x10000 → events u (lines_of (extended_line v ++ rest)) ≡ Other ∷ events v (lines_of rest)
unfolding event_of upper_after
extended-events u v rest h =
    line-events (2 ∷ 0 ∷ 0 ∷ 4 ∷ v / 256 ∷ v % 256 ∷ []) rest (omega arith, (omega arith, (omega arith, (omega arith, (omega arith, (omega arith, tt)))))) u (ExtendedAddress v) (extended-record v h)

data-events : (p : Piece) (rest : List ℕ) → FitsRecord p
    → events (upper_of p.address) (lines_of (data_line (low_of p.address) p.bytes ++ rest))
    ≡ Data (0x10000 * upper_of p.address + low_of p.address) p.bytes ∷ events (upper_of p.address) (lines_of rest)
unfolding event_of upper_after
data-events p rest n =
    let low = low_of p.address in
    let small : low < 0x10000 = omega arith in
    let most = n.most in
    line-events (length p.bytes ∷ low / 256 ∷ low % 256 ∷ 0 ∷ p.bytes) rest (omega arith, (omega arith, (omega arith, (omega arith, n.bytes)))) (upper_of p.address) (DataRecord low p.bytes)
    (data-record low p.bytes small n.some)
    ∙ rw (le-leb (low + length p.bytes) 0x10000 n.inside)

-- the lines of pieces say these pieces
module _ (u : ℕ) (p : Piece) (ps : List Piece) (n : FitsRecord p) where
  abbrev tail : List ℕ
  tail = lines_from (upper_of p.address) ps ++ end_line

  abbrev body : List ℕ
  body = data_line (low_of p.address) p.bytes ++ tail

  begins : lines_from u (p ∷ ps) ++ end_line ≡ new_upper u (upper_of p.address) ++ body
  unfolding lines_from
  begins = simp append_assoc

  module _ (more : Says ps (events (upper_of p.address) (lines_of tail))) where
    here : Says (p ∷ ps) (events (upper_of p.address) (lines_of body))
    here = rw (data-events p tail n) (omega arith, refl, more)

    from : (b : Bool) → eqb (upper_of p.address) u ≡ b → Says (p ∷ ps) (events u (lines_of (new_upper u (upper_of p.address) ++ body)))
    from true q =
        let e = eqb-true (upper_of p.address) u q in
        rw (upper-same u (upper_of p.address) e) (subst (λ (w : ℕ). Says (p ∷ ps) (events w (lines_of body))) e here)
    from false q =
        let high = n.high in
        rw (upper-new u (upper_of p.address) (eqb-false (upper_of p.address) u q)) (rw (extended-events u (upper_of p.address) body (omega arith)) here)

    piece-says : Says (p ∷ ps) (events u (lines_of (lines_from u (p ∷ ps) ++ end_line)))
    piece-says = rw begins (from (eqb (upper_of p.address) u) refl)

pub lines-say : (u : ℕ) (ps : List Piece) → AllFitRecords ps → Says ps (events u (lines_of (lines_from u ps ++ end_line)))
unfolding lines_from
lines-say u [] a = rw (end-events u) tt
lines-say u (p ∷ ps) a = piece-says u p ps a.0 (lines-say (upper_of p.address) ps a.1)

-- 'a type 4 record first'
pub text_says : (ps : List Piece) → AllFitRecords ps → Says ps (events 0 (lines_of (written_text ps)))
unfolding written_text
text_says ps a = rw (extended-events 0 0 (lines_from 0 ps ++ end_line) (omega arith)) (lines-say 0 ps a)
