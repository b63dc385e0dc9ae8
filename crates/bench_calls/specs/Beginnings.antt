-- A blank board, and a call without mishap: document 01, 'The dry run program'. Assumes nothing.
use Rattle.std.specs.Prelude.{List, true, false, ℕ, None, get_or}
use Rattle.bench_calls.specs.declared.CallOutcome.{CallOutcome}
use Rattle.bench_calls.specs.declared.Registers.{Registers}

-- the IDs are an image's: its metadata's bytes 2 to 5; the level is stored and in effect
abbrev pub blank : (metadata : List ℕ) → (level privileged_sum : ℕ) → Registers
blank m l s = record {
  silicon = record {
    idcode = 0x0BB11477;
    high = get_or m 2 0;
    low = get_or m 3 0;
    revision = get_or m 4 0;
    family = get_or m 5 0;
    privileged_sum = s;
  };
  stored = l;
  effect = l;
  sysarg = 0;
  sysreq = 0;
  test_mode = 0;
  tar = 0;
  posted = 0;
  running = None;
}

-- no busy reads, then success
abbrev pub calm : (sysarg : ℕ) → CallOutcome
calm a = record { busy_reads = 0; succeeds = true; sysarg = a; new_level = false }
