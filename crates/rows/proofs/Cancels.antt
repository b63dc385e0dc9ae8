-- Laws of the search for a row that cancels. Assumes nothing.
use Rattle.std.proofs.Common.{◌≡◌, ℕ, suc, ◌-◌, ◌<◌, min, true, false, ◌||◌, List, length, take, drop, ap, ◌∙◌, arith}
use Rattle.lent.proofs.Lists.{take_min, drop_min}
use Rattle.rows.specs.Cancels.{cancels, some_cancels}

-- the search with n rows left, of which the first may be cut by the end of the bytes: that row decides, or the rest does
module _ (rest : List ℕ) (size n end : ℕ) (more : 0 < n) (ends : end ≡ min size (length rest)) where
  some_turn : some_cancels size n rest ≡ (cancels (take end rest) || some_cancels size (n - 1) (drop end rest))
  unfolding some_cancels
  some_turn =
      let e : n ≡ suc (n - 1) = omega arith in
      ap (λ (k : ℕ). some_cancels size k rest) e ∙ rw (ends, take_min, drop_min)

  pub some-hit : cancels (take end rest) ≡ true → some_cancels size n rest ≡ true
  some-hit t = some_turn ∙ simp t

  pub some-miss : cancels (take end rest) ≡ false → some_cancels size n rest ≡ some_cancels size (n - 1) (drop end rest)
  some-miss t = some_turn ∙ simp t

pub some_end : (size n : ℕ) (bytes : List ℕ) → n ≡ 0 → some_cancels size n bytes ≡ false
unfolding some_cancels
some_end size n bytes e = rw e
