-- Where SYSARG has room behind SYSREQ. Assumes nothing.
use mathlib.Core.Path.{◌≡◌}
use Prim.Native.Nat.{ℕ, ◌≤◌}
use borrow.Author.Tests.{le-leb}
use Rattle.call_moves.specs.MoveAt.{in_reach}
use Rattle.flow.specs.declared.Move.{Move}

pub in_reach_lem : (q : ℕ) (m : Move) → q ≤ 0x7FFFFFFF → in_reach q m ≡ m
in_reach_lem q m h = rw (le-leb q 0x7FFFFFFF h)
