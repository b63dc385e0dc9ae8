-- Hex digits and digit pairs, for every text format: document 01, 'Hex text'. Assumes nothing.
use Rattle.std.specs.Prelude.{Bool, ◌&&◌, cond, List, [], ◌∷◌, ℕ, ◌+◌, ◌-◌, ◌*◌, ◌/◌, ◌%◌, leb, ltb}

abbrev pub within : (first last c : ℕ) → Bool
within first last c = leb first c && leb c last

-- the value of a digit 'of either case' (0 to 9 are the bytes 48 to 57, A to F 65 to 70, a to f 97 to 102), and 16 for another byte
unfoldable pub digit_of : ℕ → ℕ
digit_of c = cond (within 48 57 c) (c - 48) (cond (within 65 70 c) (c - 55) (cond (within 97 102 c) (c - 87) 16))

abbrev pub is_digit : ℕ → Bool
is_digit c = ltb (digit_of c) 16

-- what a run of characters spells, as 'digit pairs of either case', the high digit first
pub data Spelt : Type 0 where
  Unreadable : Spelt
  Spells : (bytes : List ℕ) → Spelt

unfoldable pub with_byte : ℕ → Spelt → Spelt
with_byte b Unreadable = Unreadable
with_byte b (Spells bs) = Spells (b ∷ bs)

unfoldable pub spelt : List ℕ → Spelt
spelt [] = Spells []
spelt (a ∷ []) = Unreadable
spelt (a ∷ b ∷ s) = cond (is_digit a && is_digit b) (with_byte (16 * digit_of a + digit_of b) (spelt s)) Unreadable

-- 'Written: capitals'
unfoldable pub capital : ℕ → ℕ
capital n = cond (ltb n 10) (48 + n) (55 + n)

unfoldable pub pairs_of : List ℕ → List ℕ
pairs_of [] = []
pairs_of (b ∷ bs) = capital (b / 16) ∷ capital (b % 16) ∷ pairs_of bs
