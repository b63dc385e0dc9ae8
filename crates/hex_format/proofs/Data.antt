-- The payload of a line is bytes. Assumes nothing.
use mathlib.Core.Bool.{Bool, true, false, ◌&&◌, cond}
use mathlib.Core.List.{List, [], ◌∷◌}
use mathlib.Core.Path.{◌≡◌, refl}
use Prim.Native.Nat.{ℕ, ◌+◌, ◌%◌}
use lib.Dec.{eqb, leb}
use lib.ListN.{length, get_or, take, drop}
use Rattle.hex_format.specs.HexFormat.{payload_of}
use Rattle.hex_records.specs.Records.{Record, BadRecord, DataRecord, ExtendedAddress, EndRecord, high_first, typed, record_of, of_spelt, of_body, line_record}
use Rattle.lent.specs.Words.{total}
use Rattle.pairs.proofs.Capitals.{AllBytes, bytes-spelt, bytes_take, bytes_drop}
use Rattle.pairs.specs.Digits.{Spelt, Unreadable, Spells, spelt}
use Rattle.pairs.specs.Lines.{Line, Ended, Open, without_cr}

-- a record whose payload, if it has one, is bytes
abbrev PayloadBytes : Record → Type 0
PayloadBytes r = AllBytes (payload_of r)

either : (b : Bool) (x y : Record) → PayloadBytes x → PayloadBytes y → PayloadBytes (cond b x y)
either true x y h k = h
either false x y h k = k

payload-typed : (kind low : ℕ) (payload : List ℕ) → AllBytes payload → PayloadBytes (typed kind low payload)
unfolding typed
payload-typed kind low payload a =
    either (eqb kind 0) _ _ (either (leb 1 (length payload)) (DataRecord low payload) (BadRecord 3) a tt)
    (either (eqb kind 4) _ _ (either (eqb (length payload) 2 && eqb low 0) (ExtendedAddress (high_first payload)) (BadRecord 3) tt tt)
    (either (eqb kind 1) _ (BadRecord 3) (either (eqb (length payload) 0 && eqb low 0) EndRecord (BadRecord 3) tt tt) tt))

payload-record : (bs : List ℕ) → AllBytes bs → PayloadBytes (record_of bs)
unfolding record_of
payload-record [] a = tt
payload-record (count ∷ bs) a =
    either (eqb (length bs) (count + 4)) _ (BadRecord 1)
    (either (eqb (total (count ∷ bs) % 256) 0) (typed (get_or bs 2 0) (high_first bs) (take count (drop 3 bs))) (BadRecord 2)
    (payload-typed (get_or bs 2 0) (high_first bs) (take count (drop 3 bs)) (bytes_take count (drop 3 bs) (bytes_drop 3 bs a.1))) tt)
    tt

payload-spelt : (m : List ℕ) (t : Spelt) → spelt m ≡ t → PayloadBytes (of_spelt t)
unfolding of_spelt
payload-spelt m Unreadable e = tt
payload-spelt m (Spells bs) e = payload-record bs (bytes-spelt m bs e)

payload-body : (l : List ℕ) → PayloadBytes (of_body l)
unfolding of_body
payload-body [] = tt
payload-body (c ∷ s) = either (eqb c 58) (of_spelt (spelt s)) (BadRecord 1) (payload-spelt s (spelt s) refl) tt

pub line-bytes : (l : Line) → AllBytes (payload_of (line_record l))
unfolding line_record
line-bytes (Open l) = tt
line-bytes (Ended l) = payload-body (without_cr l)
