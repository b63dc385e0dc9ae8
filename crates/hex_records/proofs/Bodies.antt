-- The bytes of a line in the row, as a record. Assumes nothing.
use mathlib.Core.Bool.{Bool, true, false, ◌&&◌, cond}
use mathlib.Core.List.{List, [], ◌∷◌}
use mathlib.Core.Path.{◌≡◌, refl, sym, ap, ◌∙◌}
use Prim.Native.Nat.{ℕ, suc, ◌+◌, ◌*◌, ◌%◌, ◌≤◌}
use native.Mathlib.Omega.{arith}
use borrow.Author.Tests.{eq-eqb, ne_eqb, eqb-true, leb-true}
use lib.Dec.{eqb, leb}
use lib.ListN.{length, get_or, take, drop, length-drop}
use lib.Seq.{length-take-le, take-take, get_or-take, get_or-drop}
use Rattle.hex_records.specs.Records.{Record, BadRecord, DataRecord, ExtendedAddress, EndRecord, high_first, typed, record_of}
use Rattle.hex_records.specs.Places.{LineAt, LineTo, Spelled, FrameAt, found_of, found_in, located, FoundAt}
use Rattle.hex_records.specs.declared.Found.{Found}
use Rattle.hex_records.specs.declared.Found.TheVariants.{Payload, Extended, Ended}
use Rattle.hex_records.specs.declared.Frame.{Frame}
use Rattle.refusals.specs.declared.Refusal.{Refusal}
use Rattle.refusals.specs.declared.Refusal.TheVariants.{RecordType}
use Rattle.std.specs.Prelude.{Option, Some, None, Result, Ok, Err}
use Rattle.lent.specs.Words.{total}

-- the low half of a record's address, and its payload
abbrev pub low_in : List ℕ → ℕ
low_in row = 256 * get_or row 1 0 + get_or row 2 0

abbrev pub payload_in : List ℕ → (count : ℕ) → List ℕ
payload_in row count = take count (drop 4 row)

pub payload-length : (row : List ℕ) (n : ℕ) → 4 + n ≤ length row → length (payload_in row n) ≡ n
payload-length row n h = length-take-le n (drop 4 row) (omega (arith, length-drop 4 row))

-- the first bytes of a row that has them
spread : (row : List ℕ) (n sum : ℕ) → length row ≡ 260 → Spelled row n sum
    → record_of (take (suc (suc (suc (suc (suc n))))) row) ≡ cond (eqb (total (take (n + 5) row) % 256) 0) (typed (get_or row 3 0) (low_in row) (payload_in row n)) (BadRecord 2)
unfolding record_of
spread [] n sum w h = absurd (omega arith)
spread (x ∷ []) n sum w h = absurd (omega arith)
spread (x ∷ a ∷ []) n sum w h = absurd (omega arith)
spread (x ∷ a ∷ b ∷ []) n sum w h = absurd (omega arith)
spread (x ∷ a ∷ b ∷ k ∷ l) n sum w h =
    let e : x ≡ n = h.counts in
    let z : suc (suc (suc (suc (suc n)))) ≡ n + 5 = omega arith in
    let i : length (take (suc n) l) ≡ suc n = length-take-le (suc n) l (omega (arith, h.small)) in
    let j : suc (suc (suc (length (take (suc n) l)))) ≡ x + 4 = omega arith in
    rw (eq-eqb (suc (suc (suc (length (take (suc n) l))))) (x + 4) j)
    (rw (ap (λ (y : ℕ). total (take y (x ∷ a ∷ b ∷ k ∷ l))) z)
    (ap
    (λ (p : List ℕ). cond (eqb (total (take (n + 5) (x ∷ a ∷ b ∷ k ∷ l)) % 256) 0) (typed k (256 * a + b) p) (BadRecord 2))
    (ap (λ (y : ℕ). take y (take (suc n) l)) e ∙ take-take n (suc n) l (omega arith))))

module _ (row : List ℕ) (n sum : ℕ) (wide : length row ≡ 260) (h : Spelled row n sum) where
  body : record_of (take (n + 5) row) ≡ cond (eqb (sum % 256) 0) (typed (get_or row 3 0) (low_in row) (payload_in row n)) (BadRecord 2)
  body =
      let z : n + 5 ≡ suc (suc (suc (suc (suc n)))) = omega arith in
      ap (λ (k : ℕ). record_of (take k row)) z
      ∙ spread row n sum wide h
      ∙ ap (λ (k : ℕ). cond (eqb (k % 256) 0) (typed (get_or row 3 0) (low_in row) (payload_in row n)) (BadRecord 2)) h.sums

  -- '2 record sum', and a record of right sum
  pub bad_sum : (sum % 256 ≡ 0 → ⊥) → record_of (take (n + 5) row) ≡ BadRecord 2
  bad_sum i = body ∙ rw (ne_eqb (sum % 256) 0 i)

  pub right-sum : sum % 256 ≡ 0 → record_of (take (n + 5) row) ≡ typed (get_or row 3 0) (low_in row) (payload_in row n)
  right-sum i = body ∙ rw i

pub line_at : (s : List ℕ) (at next : ℕ) (r : Record) → LineTo s at next r → LineAt s at r
line_at s at next r l = record { line = l.line; rest = _; is = l.is; says = l.says }

-- the upper half is the payload of a type 4 record
upper_in : (row : List ℕ) → high_first (payload_in row 2) ≡ 256 * get_or row 4 0 + get_or row 5 0
upper_in row =
    let a : get_or (payload_in row 2) 0 0 ≡ get_or row 4 0 = get_or-take 2 (drop 4 row) 0 0 (omega arith) ∙ get_or-drop 4 row 0 0 in
    let b : get_or (payload_in row 2) 1 0 ≡ get_or row 5 0 = get_or-take 2 (drop 4 row) 1 0 (omega arith) ∙ get_or-drop 4 row 1 0 in
    rw (a, b)

-- a record by its type, as the code finds it
module _ (s : List ℕ) (at next : ℕ) (row : List ℕ) (kind low count upper : ℕ)
    (small : count ≤ 255) (room : 4 + count ≤ length row)
    (eu : upper ≡ 256 * get_or row 4 0 + get_or row 5 0)
  where
    by-type : (a b c d e f g : Bool) → leb 1 count ≡ b → eqb count 2 ≡ d
        → LineTo s at next
        (cond a (cond b (DataRecord low (payload_in row count)) (BadRecord 3))
        (cond c (cond (d && e) (ExtendedAddress (high_first (payload_in row count))) (BadRecord 3))
        (cond f (cond (g && e) EndRecord (BadRecord 3)) (BadRecord 3))))
        → FoundAt s at next
        (located
        (cond a (cond b (Ok (Payload low count)) (Err RecordType))
        (cond c (cond (d && e) (Ok (Extended upper)) (Err RecordType)) (cond f (cond (g && e) (Ok Ended) (Err RecordType)) (Err RecordType)))) next).found row
    by-type true true c d e f g p q l = (l, leb-true 1 count p, small, room)
    by-type true false c d e f g p q l = line_at s at next (BadRecord 3) l
    by-type false b true true true f g p q l =
        let two : count ≡ 2 = eqb-true count 2 q in
        let i : high_first (payload_in row count) ≡ upper = ap (λ (n : ℕ). high_first (payload_in row n)) two ∙ upper_in row ∙ sym eu in
        rw i at l
    by-type false b true true false f g p q l = line_at s at next (BadRecord 3) l
    by-type false b true false e f g p q l = line_at s at next (BadRecord 3) l
    by-type false b false d true true true p q l = l
    by-type false b false d false true true p q l = line_at s at next (BadRecord 3) l
    by-type false b false d e true false p q l = line_at s at next (BadRecord 3) l
    by-type false b false d e false g p q l = line_at s at next (BadRecord 3) l

    pub found_at : LineTo s at next (typed kind low (payload_in row count)) → FoundAt s at next (located (found_of kind low count upper) next).found row
    unfolding typed found_of
    found_at l =
        by-type (eqb kind 0) (leb 1 count) (eqb kind 4) (eqb count 2) (eqb low 0) (eqb kind 1) (eqb count 0) refl refl (rw (payload-length row count room) at l)

-- what a frame says of the line
module _ (s : List ℕ) (at : ℕ) (f : Option Frame) (row : List ℕ) (h : FrameAt s at f row) where
  pub frame-broken : f ≡ None → LineAt s at (BadRecord 1)
  frame-broken e = rw e at h

  module _ (fr : Frame) (e : f ≡ Some fr) (wide : length row ≡ 260) where
    line : LineTo s at fr.next (record_of (take (fr.count + 5) row)) × Spelled row fr.count fr.sum
    line = rw e at h

    pub frame-sum : (fr.sum % 256 ≡ 0 → ⊥) → LineAt s at (BadRecord 2)
    frame-sum i = line_at s at fr.next (BadRecord 2) (rw (bad_sum row fr.count fr.sum wide line.1 i) at line.0)

    pub frame_found : (r : Result Found Refusal) → r ≡ found_in row fr.count → fr.sum % 256 ≡ 0 → FoundAt s at fr.next (located r fr.next).found row
    frame_found r er i =
        rw er
        (found_at s at fr.next row (get_or row 3 0) (low_in row) fr.count (256 * get_or row 4 0 + get_or row 5 0) line.1.small
        (omega (arith, line.1.small)) refl (rw (right-sum row fr.count fr.sum wide line.1 i) at line.0))
