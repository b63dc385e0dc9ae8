-- The board of the dry run, and how a session plays on it: document 01, 'plays an OPEN board with the image's IDs, KILL allowed,
-- without mishap'. Assumes nothing.
use Rattle.std.specs.Prelude.{true, false, List, [], ◌≡◌, ℕ, ◌<◌, None}
use Rattle.bench_calls.specs.Board.{Buffers, ResidueBytes, residue_bytes, target_of}
use Rattle.bench_calls.specs.declared.CallOutcome.{CallOutcome}
use Rattle.flow.specs.declared.LineEvent.{LineEvent}
use Rattle.flow.specs.declared.TransferOutcome.TheVariants.{Clean}
use Rattle.bench_calls.specs.declared.Registers.{Registers}
use Rattle.flow.specs.Terms.{Passes, Startable, RightPart}
use Rattle.flow.specs.Examples.{part_one}
use Rattle.flow.specs.Exchange.{Met, meet}
use Rattle.flow.specs.Plan.{plan}
use Rattle.flow.specs.Target.{Lists, Target}
use Rattle.flow.specs.declared.Entry.TheVariants.{FromOpen}
use Rattle.flow.specs.declared.Packet.{Packet}
use Rattle.image.specs.Checks.{metadata_at}
use Rattle.image.specs.Image.{image_of}
use Rattle.image.specs.declared.Header.{Header}
use Rattle.parts.specs.declared.Geometry.{Geometry}
use Rattle.session.specs.Calls.{standing}
use Rattle.session.specs.Given.{start_of, step_with}
use Rattle.session.specs.Outcomes.{Outcome, Refused, Ask, Reported}
use Rattle.session.specs.declared.Report.{Report}
use Rattle.session.specs.declared.Session.{Session}

-- 'without mishap': both free lists are at their end
abbrev pub no_lists : Lists
no_lists = record { line = []; calls = [] }

-- no call fails, so none leaves anything
abbrev pub nothing : ResidueBytes
nothing = residue_bytes [] [] []

-- past a list's end: 'it is OK, and success without busy reads'
abbrev pub calm_event : LineEvent
calm_event = record { outcome = Clean; filler = record { ack = 0; word = 0; parity = 0 }; other = 0 }

abbrev pub calm_outcome : CallOutcome
calm_outcome = record { busy_reads = 0; succeeds = true; sysarg = 0; new_level = false }

-- 'an OPEN board with the image's IDs'
abbrev pub open_for : Header → Registers
open_for h = record {
  silicon = record {
    idcode = 0x0BB11477;
    high = metadata_at h 2;
    low = metadata_at h 3;
    revision = metadata_at h 4;
    family = metadata_at h 5;
    privileged_sum = 0;
  };
  stored = 1;
  effect = 1;
  sysarg = 0;
  sysreq = 0;
  test_mode = 0;
  tar = 0;
  posted = 0;
  running = None;
}

-- between two turns: the session, what stands, and the board
pub record Moment : Type 0 where
  pub session : Session
  pub stands : Outcome
  pub registers : Registers
  pub buffers : Buffers

abbrev pub moment : Session → Outcome → Registers → Buffers → Moment
moment s o r b = record { session = s; stands = o; registers = r; buffers = b }

abbrev pub board_at : Moment → Target
board_at m = target_of nothing m.registers m.buffers

-- how the board meets a packet without mishap
abbrev pub meets : Geometry → Packet → Moment → Met
meets g p m = meet g p no_lists (board_at m)

-- the board meets the packet, the session steps on its answer, and this then stands
pub record Turns (g : Geometry) (bytes : List ℕ) (p : Packet) (before after : Moment) : Type 0 where
  pub target : board_at after ≡ (meets g p before).target
  pub session : after.session ≡ (step_with before.session bytes (meets g p before).answer).session
  pub stands : after.stands ≡ standing (Ask p) (step_with before.session bytes (meets g p before).answer).outcome

-- an image of part 1 that passes, with metadata of bytes
pub record Playable (h : Header) (bytes : List ℕ) : Type 0 where
  pub passes : Passes part_one h bytes
  pub ids : (k : ℕ) → metadata_at h k < 256

-- what starting gave on an image that passes, and a board of the right part that may be started on
pub record Started (bytes : List ℕ) (first : Moment) : Type 0 where
  pub header : Header
  pub passes : Passes part_one header bytes
  pub session : first.session ≡ (start_of header bytes true).session
  pub stands : first.stands ≡ (start_of header bytes true).outcome
  pub startable : Startable part_one (board_at first)
  pub stored : first.registers.stored ≡ 1
  pub right : RightPart (image_of part_one header bytes) (board_at first).silicon

-- the report that stands
abbrev pub report_in : Outcome → Report
report_in (Refused n) = record { number = n; step = 0; transfers = 0 }
report_in (Ask p) = record { number = 0; step = 0; transfers = 0 }
report_in (Reported r) = r

-- 'without mishap': done, with the plan
pub record DoneAsPlanned (r : Report) : Type 0 where
  pub number : r.number ≡ 0
  pub transfers : r.transfers ≡ plan part_one FromOpen
