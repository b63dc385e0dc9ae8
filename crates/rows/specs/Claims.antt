-- What a caller may want to know of the test whether a row is all zero: document 02, Three, on the definition. Assumes nothing.
use Rattle.std.specs.Prelude.{◌≡◌, ℕ, ◌+◌, ◌-◌, ◌*◌, ◌/◌, ◌<◌, true, false, List, length, take, slice_index, slice_index_or}
use Rattle.rows.specs.Cancels.{row_words}
use Rattle.lent.specs.Words.{all_zero}
use Rattle.rows.specs.Zeros.{zero_row}

-- the first n bytes of a row are 0
abbrev pub ZeroBefore : (row : List ℕ) (n : ℕ) → Type 0
ZeroBefore row n = (k : ℕ) → k < n → slice_index row k ≡ 0

-- its first byte that isn't zero stands at this place
pub record FirstAt (row : List ℕ) (place : ℕ) : Type 0 where
  pub before : ZeroBefore row place
  pub filled : slice_index_or row place 0 ≡ 0 → ⊥

pub record ZeroClaims : Type 0 where
  -- 'or L where all are zero'
  pub blank : (row : List ℕ) → ZeroBefore row (length row) → zero_row row ≡ record { all = true; read = length row }
  -- 'that byte's place in the row plus one'
  pub filled : (row : List ℕ) (place : ℕ) → FirstAt row place → zero_row row ≡ record { all = false; read = place + 1 }
  -- and back, so that every row is one of the two: what the answer says of the row
  pub blank_back : (row : List ℕ) → (zero_row row).all ≡ true → ZeroBefore row (length row)
  pub filled_back : (row : List ℕ) → (zero_row row).all ≡ false → FirstAt row ((zero_row row).read - 1)
  -- 'it stops': what is not read does not matter
  pub unread : (row other : List ℕ) → length other ≡ length row → take (zero_row row).read other ≡ take (zero_row row).read row → zero_row other ≡ zero_row row
  -- 'Nothing else .. changes': the bytes of a row's whole words are all 0 exactly where the words are (number 10)
  pub words : (row : List ℕ) → (zero_row (take (4 * (length row / 4)) row)).all ≡ all_zero (row_words row)
