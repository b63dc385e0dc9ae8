-- The last SYSREQ behind which SYSARG has room, and the one past it. Assumes nothing.
use Rattle.std.specs.Prelude.{◌≡◌}
use Rattle.call_moves.specs.MoveAt.{in_reach}
use Rattle.flow.specs.Sequence.{end_move}
use Rattle.flow.specs.declared.Move.{Move}

pub record ReachExamples : Type 0 where
  pub last : (m : Move) → in_reach 0x7FFFFFFF m ≡ m
  pub past : (m : Move) → in_reach 0x80000000 m ≡ end_move
