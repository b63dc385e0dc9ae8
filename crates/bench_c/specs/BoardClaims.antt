-- What the bench board's bytes promise: nothing of a board is lost from call to call, and none that a call wrote is refused. Assumes nothing.
use Rattle.std.specs.Prelude.{true, ◌≡◌, ◌<◌, Some}
use Rattle.bench_calls.specs.Board.{Buffers, ResidueBytes, target_of}
use Rattle.bench_calls.specs.declared.Call.{Call}
use Rattle.bench_calls.specs.declared.Registers.{Registers}
use Rattle.bench_c.specs.BoardBytes.{registers_in, is_board, board_bytes}
use Rattle.flow.specs.Target.{Target}
use Rattle.layout.specs.Bytes.{Word}

-- registers whose words have 32 bits, and the level four
pub record RegistersInWords (r : Registers) : Type 0 where
  pub idcode : Word r.silicon.idcode
  pub sum : Word r.silicon.privileged_sum
  pub stored : r.stored < 16
  pub sysarg : Word r.sysarg
  pub sysreq : Word r.sysreq
  pub mode : Word r.test_mode
  pub tar : Word r.tar
  pub posted : Word r.posted
  pub call : (k : Call) → r.running ≡ Some k → Word k.outcome.busy_reads × Word k.outcome.sysarg

pub record BoardClaims : Type 0 where
  -- the next call finds the registers that this one put
  pub back : (r : Registers) → RegistersInWords r → (x : ResidueBytes) (b : Buffers) → registers_in (board_bytes (target_of x r b)) ≡ r
  -- and doesn't refuse them
  pub written : (t : Target) → is_board (board_bytes t) ≡ true
