-- The test whether a row is all zero, worked out on rows at the limits of what it says, and number 10 beside it.
use Rattle.std.specs.Prelude.{◌≡◌, true, false, [], ◌∷◌, ◌++◌, replicate}
use Rattle.rows.specs.Cancels.{cancels}
use Rattle.rows.specs.Zeros.{zero_row}

pub record ZeroExamples : Type 0 where
  -- L, where all are zero and where only the last byte isn't
  pub blank : zero_row (replicate 64 0) ≡ record { all = true; read = 64 }
  pub last : zero_row (replicate 63 0 ++ (1 ∷ [])) ≡ record { all = false; read = 64 }
  -- the byte before it, and the first; bytes after the one that stops it are any
  pub place62 : zero_row (replicate 62 0 ++ (128 ∷ 0 ∷ [])) ≡ record { all = false; read = 63 }
  pub first : zero_row (1 ∷ replicate 63 0) ≡ record { all = false; read = 1 }
  pub second : zero_row (0 ∷ 1 ∷ 7 ∷ replicate 61 0) ≡ record { all = false; read = 2 }
  -- rows of no byte, and of one
  pub none : zero_row [] ≡ record { all = true; read = 0 }
  pub one : zero_row (0 ∷ []) ≡ record { all = true; read = 1 }
  -- a byte past the whole words is read; number 10 goes by the words alone
  pub five : zero_row (replicate 4 0 ++ (1 ∷ [])) ≡ record { all = false; read = 5 }
  pub five_taken : cancels (replicate 4 0 ++ (1 ∷ [])) ≡ false
  pub nine_cancels : cancels (1 ∷ 0 ∷ 0 ∷ 0 ∷ 255 ∷ 255 ∷ 255 ∷ 255 ∷ 1 ∷ []) ≡ true
