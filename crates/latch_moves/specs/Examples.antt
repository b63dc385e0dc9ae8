-- The fewest and the most bytes that a latch call can be for, and one past each. Assumes nothing.
use Rattle.std.specs.Prelude.{List, [], ◌∷◌, ◌≡◌, ℕ, length}
use Rattle.flow.specs.declared.Move.{Move}
use Rattle.latch_moves.specs.Latched.{latched}

pub record LatchExamples : Type 0 where
  pub none : (ms : List Move) → latched [] ms ≡ []
  pub one : (b : ℕ) (ms : List Move) → latched (b ∷ []) ms ≡ ms
  pub most : (bytes : List ℕ) (ms : List Move) → length bytes ≡ 1024 → latched bytes ms ≡ ms
  pub too_many : (bytes : List ℕ) (ms : List Move) → length bytes ≡ 1025 → latched bytes ms ≡ []
