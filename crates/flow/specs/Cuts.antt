-- A cut of the power: document 02, Eleven, 'the running call ends as a failed one'. Assumes nothing.
use Rattle.std.specs.Prelude.{◌≡◌, ℕ, length}
use Rattle.flow.specs.Calls.{after_failure}
use Rattle.flow.specs.Target.{Memory, Residue, Running, idle, busy, Target}

-- what a cut leaves of the memory while this is under way: of a call, what its failure leaves, with any residue; the one that the
-- call's list entry holds is what it would have left with the power on
abbrev pub cut_by : Running → (sysarg : ℕ) → Residue → Memory → Memory
cut_by idle arg r m = m
cut_by (busy left succeeds entry c) arg r m = after_failure c arg r m

abbrev pub cut_memory : Target → Residue → Memory
cut_memory b r = cut_by b.running b.sysarg r b.memory

-- the target b, cut off where it stands, may be b' when the power is back; what has no charge is anything then: all that is not
-- named here (level in effect, SYSARG, SYSREQ, TEST_MODE, TAR, posted word), and what the latch and PARAMS hold
pub record CutTo (b b' : Target) : Type 0 where
  -- flash, locks and stored level: what is left by the call that ran, or as they were
  pub residue : Residue
  pub flash : b'.memory.flash ≡ (cut_memory b residue).flash
  pub locks : b'.memory.locks ≡ (cut_memory b residue).locks
  pub stored : b'.memory.stored ≡ (cut_memory b residue).stored
  -- nothing runs on
  pub quiet : b'.running ≡ idle
  -- it is the same chip: IDs and sizes
  pub silicon : b'.silicon ≡ b.silicon
  pub latch : length b'.memory.latch ≡ length b.memory.latch
  pub params : length b'.params ≡ length b.params
