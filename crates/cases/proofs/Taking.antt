-- Laws of what reading takes from an input. Assumes nothing.
use Rattle.std.proofs.Common.{ℕ, ◌+◌, ◌≤◌, List, ◌++◌, length-append, arith, Option}
use Rattle.std.proofs.KnownBytes.{Consumes-trans}
use Rattle.cases.specs.Reads.{TakesAtMost}

-- one taking after another
pub takes-more : (a b c : Option (List ℕ)) (m k n : ℕ) → m + k ≤ n → TakesAtMost m a b → TakesAtMost k b c → TakesAtMost n a c
takes-more a b c m k n h p q = (p.0 ++ q.0, omega (arith, h, length-append p.0 q.0, p.1, q.1), Consumes-trans a b c p.0 q.0 p.2 q.2)

-- what was taken of a few is taken of more
pub takes-less : (a b : Option (List ℕ)) (m n : ℕ) → m ≤ n → TakesAtMost m a b → TakesAtMost n a b
takes-less a b m n h p = (p.0, omega (arith, p.1), p.2)
