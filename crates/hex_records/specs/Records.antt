-- Intel hex lines as records: document 01, 'Hex text', and numbers 1 to 3. Assumes nothing.
use Rattle.std.specs.Prelude.{◌&&◌, cond, List, [], ◌∷◌, ℕ, ◌+◌, ◌*◌, ◌%◌, eqb, leb, length, get_or, take, drop}
use Rattle.lent.specs.Words.{total}
use Rattle.pairs.specs.Digits.{Spelt, Unreadable, Spells, spelt}
use Rattle.pairs.specs.Lines.{Line, Ended, Open, without_cr}

-- what a line is
pub data Record : Type 0 where
  -- refused, with 1, 2 or 3
  BadRecord : (number : ℕ) → Record
  -- a payload for the address whose low half is given
  DataRecord : (low : ℕ) (payload : List ℕ) → Record
  -- the upper half of the addresses that follow (Intel's extended linear address)
  ExtendedAddress : (upper : ℕ) → Record
  EndRecord : Record

-- a number of two bytes, 'high first'
abbrev pub high_first : List ℕ → ℕ
high_first bs = 256 * get_or bs 0 0 + get_or bs 1 0

-- 'Types: 0 with 1 to 255 bytes; 4 with 2 bytes at address 0; 1 with none at address 0'; '3 type, or its length or address'
unfoldable pub typed : (kind low : ℕ) (payload : List ℕ) → Record
typed kind low payload =
    cond (eqb kind 0) (cond (leb 1 (length payload)) (DataRecord low payload) (BadRecord 3))
    (cond (eqb kind 4) (cond (eqb (length payload) 2 && eqb low 0) (ExtendedAddress (high_first payload)) (BadRecord 3))
    (cond (eqb kind 1) (cond (eqb (length payload) 0 && eqb low 0) EndRecord (BadRecord 3))
    (BadRecord 3)))

-- a line's bytes: the count of the payload, the address (high first), the type, the payload, and the byte that makes the sum 0;
-- '1 .. a byte count that isn't the line's; 2 record sum'
unfoldable pub record_of : List ℕ → Record
record_of [] = BadRecord 1
record_of (count ∷ bs) =
    cond (eqb (length bs) (count + 4))
    (cond (eqb (total (count ∷ bs) % 256) 0) (typed (get_or bs 2 0) (high_first bs) (take count (drop 3 bs))) (BadRecord 2))
    (BadRecord 1)

unfoldable pub of_spelt : Spelt → Record
of_spelt Unreadable = BadRecord 1
of_spelt (Spells bs) = record_of bs

-- 'Lines are a colon, digit pairs of either case'; '1 line form'; a colon is 58
unfoldable pub of_body : List ℕ → Record
of_body [] = BadRecord 1
of_body (c ∷ s) = cond (eqb c 58) (of_spelt (spelt s)) (BadRecord 1)

-- 'then LF or CR LF, also after the last'
unfoldable pub line_record : Line → Record
line_record (Open l) = BadRecord 1
line_record (Ended l) = of_body (without_cr l)
