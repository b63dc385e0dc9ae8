-- Document 01's count, and the counts of a list of moves. Assumes nothing.
use Rattle.std.specs.Prelude.{List, [], ◌∷◌, ℕ, zero, suc, ◌+◌, ◌*◌, ◌/◌}
use Rattle.flow.specs.Packets.{packet_of}
use Rattle.flow.specs.declared.Entry.{Entry}
use Rattle.flow.specs.declared.Entry.TheVariants.{FromOpen, FromProtected}
use Rattle.flow.specs.declared.Move.{Move}
use Rattle.flow.specs.declared.Packet.{Packet}
use Rattle.flow.specs.declared.Packet.TheVariants.{Xres, LineReset, Read, Write}
use Rattle.flow.specs.declared.Purpose.{Purpose}
use Rattle.flow.specs.declared.Purpose.TheVariants.{Sent, Idcode, TestBit, Poll, Status, Keep, EntryLevel, Reopened, FlashWord, LockWord, StoredLevel, LastSum}
use Rattle.flow.specs.declared.Request.{Request}
use Rattle.parts.specs.Sizes.{row_bytes_of, macros_of, rows_of, locks_in, imo_of}
use Rattle.parts.specs.declared.Geometry.{Geometry}

-- what a request is to the count: 'the reads and writes handed out, repeats included, resets not', XRES, line resets
pub record Traffic : Type 0 where
  pub transfers : ℕ
  pub xresets : ℕ
  pub line_resets : ℕ

abbrev pub no_traffic : Traffic
no_traffic = record { transfers = 0; xresets = 0; line_resets = 0 }

-- one packet more that is handed out
abbrev pub counting_packet : Packet → Traffic → Traffic
counting_packet Xres t = record { transfers = t.transfers; xresets = suc t.xresets; line_resets = t.line_resets }
counting_packet LineReset t = record { transfers = t.transfers; xresets = t.xresets; line_resets = suc t.line_resets }
counting_packet (Read b) t = record { transfers = suc t.transfers; xresets = t.xresets; line_resets = t.line_resets }
counting_packet (Write b w p) t = record { transfers = suc t.transfers; xresets = t.xresets; line_resets = t.line_resets }

abbrev pub counting : Request → Traffic → Traffic
counting q t = counting_packet (packet_of q) t

-- the requests of a list of moves, and its loops: the polls
unfoldable pub traffic_in : List Move → Traffic
traffic_in [] = no_traffic
traffic_in (m ∷ ms) = counting m.request (traffic_in ms)

abbrev pub is_poll : Purpose → ℕ
is_poll Sent = 0
is_poll Idcode = 0
is_poll TestBit = 0
is_poll Poll = 1
is_poll Status = 0
is_poll Keep = 0
is_poll EntryLevel = 0
is_poll Reopened = 0
is_poll (FlashWord r o) = 0
is_poll (LockWord m o) = 0
is_poll StoredLevel = 0
is_poll LastSum = 0

unfoldable pub polls_in : List Move → ℕ
polls_in [] = 0
polls_in (m ∷ ms) = is_poll m.purpose + polls_in ms

abbrev pub from_protected : Entry → (more : ℕ) → ℕ
from_protected FromOpen more = 0
from_protected FromProtected more = more

-- '24 + 5PB / 4' of each of the n macros from 0 on, PB being the locks of that macro
unfoldable pub lock_plan : Geometry → (n : ℕ) → ℕ
lock_plan g zero = 0
lock_plan g (suc m) = 24 + 5 * locks_in g m / 4 + lock_plan g m

-- 'plan = 69 + 10 × IMO + N × (26 + 5L / 4) + M × (24 + 5PB / 4), and from PROTECTED 26 + 10 × IMO more'; the locks
-- are summed over the macros, which is the paper's product (`PlanMultiplied`, Totals.antt)
unfoldable pub plan : Geometry → Entry → ℕ
plan g y =
    69 + 10 * imo_of g + rows_of g * (26 + 5 * row_bytes_of g / 4) + lock_plan g (macros_of g) + from_protected y (26 + 10 * imo_of g)

-- 'loops = 5 + IMO + 2N + 2M, and from PROTECTED 2 + IMO more'
unfoldable pub loops : Geometry → Entry → ℕ
loops g y = 5 + imo_of g + 2 * rows_of g + 2 * macros_of g + from_protected y (2 + imo_of g)

-- 'A acquisitions (1, or 2 from PROTECTED)'
abbrev pub acquisitions : Entry → ℕ
acquisitions FromOpen = 1
acquisitions FromProtected = 2

-- 'A report comes within 17 × (plan + 29997 × loops + 29 × A) transfers, A XRES and 30 × A line resets'
unfoldable pub most_traffic : Geometry → Entry → Traffic
most_traffic g y = record {
  transfers = 17 * (plan g y + 29997 * loops g y + 29 * acquisitions y);
  xresets = acquisitions y;
  line_resets = 30 * acquisitions y;
}
