-- The state of the target, the plain board of document 01, and the two free lists that drive it. Assumes nothing.
use Rattle.std.specs.Prelude.{Bool, true, false, List, [], ◌∷◌, ◌++◌, ℕ, length, take, replicate}
use Rattle.flow.specs.declared.LineEvent.{LineEvent}
use Rattle.flow.specs.declared.Silicon.{Silicon}
use Rattle.flow.specs.declared.TransferOutcome.TheVariants.{Clean}

-- `Silicon`, `TransferOutcome` and `LineEvent` are declared in src/lib.rt, since the bench board has them too

-- what calls alter: 'flash, locks, stored level, .. latch'
pub record Memory : Type 0 where
  pub flash : List ℕ
  pub locks : List ℕ
  pub latch : List ℕ
  pub stored : ℕ

-- what a failed call leaves: 'any flash, locks and latch', a SYSARG, and whether a failed 0x0D stored the level sent
pub record Residue : Type 0 where
  pub flash : List ℕ
  pub locks : List ℕ
  pub latch : List ℕ
  pub sysarg : ℕ
  pub new_level : Bool

-- 'Per call: how many DRW reads of SYSREQ post it busy (bit 31 set), then success or failure, which takes effect there.'
pub record CallOutcome : Type 0 where
  pub busy_reads : ℕ
  pub succeeds : Bool
  pub residue : Residue

-- a call under way: the busy reads left, its outcome and its number
pub data Running : Type 0 where
  idle : Running
  busy : (left : ℕ) → (succeeds : Bool) → Residue → (c : ℕ) → Running

pub record Target : Type 0 where
  pub silicon : Silicon
  pub memory : Memory
  pub effect : ℕ
  pub params : List ℕ
  pub sysarg : ℕ
  pub sysreq : ℕ
  pub test_mode : ℕ
  pub tar : ℕ
  pub posted : ℕ
  pub running : Running

-- 'Two free lists drive it; past a list's end it is OK, and success without busy reads.'
pub record Lists : Type 0 where
  pub line : List LineEvent
  pub calls : List CallOutcome

abbrev pub next_event : List LineEvent → LineEvent
next_event [] = record { outcome = Clean; filler = record { ack = 0; word = 0; parity = 0 }; other = 0 }
next_event (e ∷ es) = e

abbrev pub next_outcome : List CallOutcome → CallOutcome
next_outcome [] =
    record { busy_reads = 0; succeeds = true; residue = record { flash = []; locks = []; latch = []; sysarg = 0; new_level = false } }
next_outcome (o ∷ os) = o

abbrev pub rest : {A : Type 0} → List A → List A
rest [] = []
rest (x ∷ xs) = xs

-- any bytes, cut or filled to the size of a list
abbrev pub sized : List ℕ → List ℕ → List ℕ
sized l x = take (length l) (x ++ replicate (length l) 0)

-- ---- updates of one piece of memory

abbrev pub with_flash : List ℕ → Memory → Memory
with_flash x m = record { flash = x; locks = m.locks; latch = m.latch; stored = m.stored }

abbrev pub with_locks : List ℕ → Memory → Memory
with_locks x m = record { flash = m.flash; locks = x; latch = m.latch; stored = m.stored }

abbrev pub with_latch : List ℕ → Memory → Memory
with_latch x m = record { flash = m.flash; locks = m.locks; latch = x; stored = m.stored }

abbrev pub with_level : ℕ → Memory → Memory
with_level l m = record { flash = m.flash; locks = m.locks; latch = m.latch; stored = l }

-- ---- updates of one piece of state

abbrev pub set_tar : ℕ → Target → Target
set_tar a b = record {
  silicon = b.silicon;
  memory = b.memory;
  effect = b.effect;
  params = b.params;
  sysarg = b.sysarg;
  sysreq = b.sysreq;
  test_mode = b.test_mode;
  tar = a;
  posted = b.posted;
  running = b.running;
}

abbrev pub set_posted : ℕ → Target → Target
set_posted w b = record {
  silicon = b.silicon;
  memory = b.memory;
  effect = b.effect;
  params = b.params;
  sysarg = b.sysarg;
  sysreq = b.sysreq;
  test_mode = b.test_mode;
  tar = b.tar;
  posted = w;
  running = b.running;
}

abbrev pub set_params : List ℕ → Target → Target
set_params ps b = record {
  silicon = b.silicon;
  memory = b.memory;
  effect = b.effect;
  params = ps;
  sysarg = b.sysarg;
  sysreq = b.sysreq;
  test_mode = b.test_mode;
  tar = b.tar;
  posted = b.posted;
  running = b.running;
}

abbrev pub set_sysarg : ℕ → Target → Target
set_sysarg w b = record {
  silicon = b.silicon;
  memory = b.memory;
  effect = b.effect;
  params = b.params;
  sysarg = w;
  sysreq = b.sysreq;
  test_mode = b.test_mode;
  tar = b.tar;
  posted = b.posted;
  running = b.running;
}

abbrev pub set_test_mode : ℕ → Target → Target
set_test_mode w b = record {
  silicon = b.silicon;
  memory = b.memory;
  effect = b.effect;
  params = b.params;
  sysarg = b.sysarg;
  sysreq = b.sysreq;
  test_mode = w;
  tar = b.tar;
  posted = b.posted;
  running = b.running;
}

-- SYSREQ, with what is under way
abbrev pub set_sysreq : ℕ → Running → Target → Target
set_sysreq w r b = record {
  silicon = b.silicon;
  memory = b.memory;
  effect = b.effect;
  params = b.params;
  sysarg = b.sysarg;
  sysreq = w;
  test_mode = b.test_mode;
  tar = b.tar;
  posted = b.posted;
  running = r;
}

-- a call's end
abbrev pub set_ended : Memory → (sysarg sysreq : ℕ) → Target → Target
set_ended m a q b = record {
  silicon = b.silicon;
  memory = m;
  effect = b.effect;
  params = b.params;
  sysarg = a;
  sysreq = q;
  test_mode = b.test_mode;
  tar = b.tar;
  posted = b.posted;
  running = idle;
}

-- XRES, once nothing is under way
abbrev pub set_reset : Target → Target
set_reset b = record {
  silicon = b.silicon;
  memory = b.memory;
  effect = b.memory.stored;
  params = b.params;
  sysarg = b.sysarg;
  sysreq = 0;
  test_mode = b.test_mode;
  tar = b.tar;
  posted = b.posted;
  running = idle;
}
