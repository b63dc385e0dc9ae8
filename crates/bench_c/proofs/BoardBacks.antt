-- The claims on the bench board's bytes hold. Assumes nothing.
use mathlib.Core.Bool.{Bool, true, false, ◌&&◌}
use mathlib.Core.Path.{◌≡◌, refl}
use Prim.Native.Nat.{ℕ, ◌%◌, ◌<◌}
use native.Mathlib.Omega.{arith}
use lib.Dec.{leb}
use Rattle.bench_calls.specs.Board.{Buffers, ResidueBytes, target_of}
use Rattle.bench_calls.specs.declared.Registers.{Registers}
use Rattle.bench_calls.specs.declared.Call.{Call}
use Rattle.std.specs.Prelude.{Option, None, Some}
use Rattle.bench_c.specs.BoardBytes.{registers_in, running_in, is_board, board_bytes}
use Rattle.bench_c.specs.BoardClaims.{RegistersInWords, BoardClaims}
use Rattle.flow.specs.Target as Flow
use Rattle.flow.specs.Target.{Target, idle, busy}
use Rattle.lent.specs.Words.{word_at}
use Rattle.layout.proofs.Bytes.{low_same, flag_same}
use Rattle.layout.specs.Bytes.{flag_byte}

small : (n : ℕ) → n < 16 → n % 16 ≡ n
small n h = omega arith

-- registers with this under way
abbrev running : Registers → Option Call → Registers
running r k = record {
  silicon = r.silicon;
  stored = r.stored;
  effect = r.effect;
  sysarg = r.sysarg;
  sysreq = r.sysreq;
  test_mode = r.test_mode;
  tar = r.tar;
  posted = r.posted;
  running = k;
}

-- each word's low 32 bits are the word, the level's low four the level
module _ (r : Registers) (w : RegistersInWords r) (x : ResidueBytes) (b : Buffers) where
  call_back : (k : Option Call) → r.running ≡ k → running_in (board_bytes (target_of x (running r k) b)) ≡ k
  unfolding board_bytes word_at
  call_back None e = refl
  call_back (Some k) e =
      let o = k.outcome in
      let h = w.call k e in
      rw (low_same o.busy_reads h.0, flag_same o.succeeds, low_same o.sysarg h.1, flag_same o.new_level)

  board-back : registers_in (board_bytes (target_of x r b)) ≡ r
  unfolding registers_in board_bytes word_at
  board-back =
      rw (
        call_back r.running refl,
        low_same r.silicon.idcode w.idcode,
        low_same r.silicon.privileged_sum w.sum,
        small r.stored w.stored,
        low_same r.sysarg w.sysarg,
        low_same r.sysreq w.sysreq,
        low_same r.test_mode w.mode,
        low_same r.tar w.tar,
        low_same r.posted w.posted,
      )

both-flags : (s l : Bool) → (leb (flag_byte s) 1 && leb (flag_byte l) 1) ≡ true
both-flags true true = refl
both-flags true false = refl
both-flags false true = refl
both-flags false false = refl

abbrev with_run : Target → Flow.Running → Target
with_run t k = record {
  silicon = t.silicon;
  memory = t.memory;
  effect = t.effect;
  params = t.params;
  sysarg = t.sysarg;
  sysreq = t.sysreq;
  test_mode = t.test_mode;
  tar = t.tar;
  posted = t.posted;
  running = k;
}

is-written : (t : Target) (k : Flow.Running) → is_board (board_bytes (with_run t k)) ≡ true
unfolding board_bytes
is-written t idle = refl
is-written t (busy n s r c) = both-flags s r.new_level

pub board-claims : BoardClaims
board-claims = record { back = board-back; written = λ t. is-written t t.running }
