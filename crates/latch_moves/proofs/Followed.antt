-- The latch call's moves, and those that follow them. Assumes nothing.
use mathlib.Core.List.{List, ◌++◌}
use mathlib.Core.Path.{◌≡◌}
use Prim.Native.Nat.{ℕ, ◌+◌, ◌-◌, ◌*◌, ◌<◌, ◌≤◌}
use native.Mathlib.Omega.{arith}
use lib.ListN.{length, get_or}
use Rattle.call_moves.proofs.Lengths.{length-listed}
use Rattle.flow.proofs.Counting.{length-words}
use Rattle.flow.specs.Sequence.{listed, end_move}
use Rattle.flow.specs.declared.Move.{Move}
use Rattle.parts.specs.declared.Geometry.{Geometry}
use Rattle.std.proofs.lemmas.List.{get_or_append_left, get_or-append_right}

module _ (g : Geometry) (s c : ℕ) (ws : List ℕ) (ys : List Move) (j : ℕ) where
  pub listed-first : j < 2 * length ws + 10 → get_or (listed g s c ws ++ ys) j end_move ≡ get_or (listed g s c ws) j end_move
  listed-first h = get_or_append_left (listed g s c ws) ys end_move j (omega (arith, length-listed g s c ws))

  pub listed-second : 2 * length ws + 10 ≤ j → get_or (listed g s c ws ++ ys) j end_move ≡ get_or ys (j - (2 * length ws + 10)) end_move
  listed-second l = get_or-append_right (listed g s c ws) ys (2 * length ws + 10) j end_move (length-listed g s c ws) l

pub ruleset followed = (listed-first, listed-second, length-words)
