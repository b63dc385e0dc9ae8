-- The board's registers and lent buffers as flow's target, and what is handed in with a packet. Assumes nothing.
use Rattle.std.specs.Prelude.{◌%◌, Option, None, Some}
use Rattle.bench_calls.specs.declared.Call.{Call}
use Rattle.bench_calls.specs.declared.CallOutcome.{CallOutcome}
use Rattle.bench_calls.specs.declared.Registers.{Registers}
use Rattle.flow.specs.Target.{Target, Residue, idle, busy}
use Rattle.flow.specs.Target as Flow
-- the lent buffers and the residue lent for them stand in bench_effects
pub use Rattle.bench_effects.specs.Lent.{Buffers, ResidueBytes, lent, residue_bytes, memory_of}

abbrev pub residue_of : ResidueBytes → CallOutcome → Residue
residue_of x o = record { flash = x.flash; locks = x.locks; latch = x.latch; sysarg = o.sysarg; new_level = o.new_level }

abbrev pub call_outcome_of : ResidueBytes → CallOutcome → Flow.CallOutcome
call_outcome_of x o = record { busy_reads = o.busy_reads; succeeds = o.succeeds; residue = residue_of x o }

abbrev pub running_of : ResidueBytes → Option Call → Flow.Running
running_of x None = idle
running_of x (Some k) = busy k.outcome.busy_reads k.outcome.succeeds (residue_of x k.outcome) k.number

-- of the stored level the low four bits count
abbrev pub target_of : ResidueBytes → Registers → Buffers → Target
target_of x r b = record {
  silicon = r.silicon;
  memory = memory_of b (r.stored % 16);
  effect = r.effect;
  params = b.params;
  sysarg = r.sysarg;
  sysreq = r.sysreq;
  test_mode = r.test_mode;
  tar = r.tar;
  posted = r.posted;
  running = running_of x r.running;
}
