-- What the functions on digit pairs and line ends give, at a position of a text. Assumes nothing.
use Rattle.std.specs.Prelude.{Bool, true, false, ◌&&◌, cond, List, [], ◌∷◌, ℕ, zero, suc, ◌+◌, ◌*◌, eqb, leb, length, get_or, take, drop, Result, Ok, Err}
use Rattle.std.proofs.lemmas.List.Edits.{sets}
use Rattle.lent.specs.Words.{total}
use Rattle.pairs.specs.Digits.{digit_of, is_digit}

-- the values of the n bytes from i on, as digits
unfoldable pub digits_from : (i n : ℕ) → List ℕ
digits_from i zero = []
digits_from i (suc n) = digit_of i ∷ digits_from (i + 1) n

-- the bytes that the digit pairs at the front of a run spell
unfoldable pub front : List ℕ → List ℕ
front [] = []
front (a ∷ []) = []
front (a ∷ b ∷ s) = cond (is_digit a && is_digit b) ((16 * digit_of a + digit_of b) ∷ front s) []

-- the characters of k pairs from p on
abbrev pub pairs_at : (text : List ℕ) (p k : ℕ) → List ℕ
pairs_at text p k = take (2 * k) (drop p text)

-- k pairs, at most 260, have room in the text and in a row of so many bytes
abbrev pub has_pairs : (text : List ℕ) (p k room : ℕ) → Bool
has_pairs text p k room = leb k 260 && leb k room && leb (p + 2 * k) (length text)

-- what a run of pairs comes to: whether they all are digit pairs, and the sum of those before the first that is none
pub record PairRun : Type 0 where
  pub good : Bool
  pub sum : ℕ

abbrev pub run_of : (text : List ℕ) (p k : ℕ) → PairRun
run_of text p k = record { good = eqb (length (front (pairs_at text p k))) k; sum = total (front (pairs_at text p k)) }

-- and none of them where they have no room
unfoldable pub pair_run_of : (text : List ℕ) (p k room : ℕ) → PairRun
pair_run_of text p k room = cond (has_pairs text p k room) (run_of text p k) (record { good = false; sum = 0 })

-- a result as a run: `Ok` where all are pairs
abbrev pub run_told : Result ℕ ℕ → PairRun
run_told (Ok s) = record { good = true; sum = s }
run_told (Err s) = record { good = false; sum = s }

-- the row with what they spell from its start on
unfoldable pub row_after : (row text : List ℕ) (p k : ℕ) → List ℕ
row_after row text p k = cond (has_pairs text p k (length row)) (sets row 0 (front (pairs_at text p k))) row

-- how many characters the line end at a position has: LF 1, CR LF 2, none 0
unfoldable pub line_end : (text : List ℕ) (at : ℕ) → ℕ
line_end text at =
    cond (eqb (get_or text at 0) 10) 1 (cond (eqb (get_or text at 0) 13 && eqb (get_or text (at + 1) 0) 10) 2 0)
