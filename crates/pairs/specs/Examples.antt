-- Digit pairs at the limits of `has_pairs`, and one past each; 49 65 is 1A. Assumes nothing.
use Rattle.std.specs.Prelude.{true, false, List, [], ◌∷◌, ◌≡◌, ℕ, length}
use Rattle.pairs.specs.Spelling.{has_pairs, pair_run_of}

pub record PairExamples : Type 0 where
  -- one pair, in a row of one byte
  pub fits : has_pairs (49 ∷ 65 ∷ []) 0 1 1 ≡ true
  pub spelt : pair_run_of (49 ∷ 65 ∷ []) 0 1 1 ≡ record { good = true; sum = 26 }
  -- a character too few, or no row
  pub text_short : has_pairs (49 ∷ 65 ∷ []) 1 1 1 ≡ false
  pub row_short : has_pairs (49 ∷ 65 ∷ []) 0 1 0 ≡ false
  -- at most 260 pairs
  pub most : (text : List ℕ) → length text ≡ 520 → has_pairs text 0 260 260 ≡ true
  pub too_many : (text : List ℕ) → has_pairs text 0 261 261 ≡ false
