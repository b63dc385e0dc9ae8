-- What the bench board's call returns, and what it leaves in the bytes and words lent to it. Assumes nothing.
use Rattle.refusals.specs.Refusals.{refusal_number}
use Rattle.std.specs.Prelude.{Bool, ◌&&◌, cond, List, ℕ, eqb, length, Ok, Err}
use Rattle.bench_calls.specs.Board.{Buffers, ResidueBytes, target_of}
use Rattle.bench_board.specs.Meets.{lists_of}
use Rattle.bench_calls.specs.declared.CallOutcome.{CallOutcome}
use Rattle.flow.specs.declared.LineEvent.{LineEvent}
use Rattle.bench_c.specs.BoardBytes.{registers_in, is_board, event_in, is_event, call_outcome_at, is_call_outcome, packet_in, is_packet, board_bytes, answer_bytes, used_in}
use Rattle.flow.specs.Exchange as Flow
use Rattle.flow.specs.declared.Packet.{Packet}
use Rattle.parts.specs.Parts.{Lookup, lookup_of}
use Rattle.parts.specs.declared.Geometry.{Geometry}

-- what is lent for writing
pub record Bench : Type 0 where
  pub board : List ℕ
  pub flash : List ℕ
  pub locks : List ℕ
  pub latch : List ℕ
  pub params : List ℕ
  pub answer : List ℕ

abbrev pub bench_of : (board flash locks latch params answer : List ℕ) → Bench
bench_of b f l t p a = record { board = b; flash = f; locks = l; latch = t; params = p; answer = a }

abbrev pub buffers_of : Bench → Buffers
buffers_of b = record { flash = b.flash; locks = b.locks; latch = b.latch; params = b.params }

-- what is handed in with a packet, lent for reading
pub record Handed : Type 0 where
  pub event : List ℕ
  pub call : List ℕ
  pub packet : List ℕ

abbrev pub handed : (event call packet : List ℕ) → Handed
handed e c q = record { event = e; call = c; packet = q }

-- the number that the call returns, and what was lent to it at its end
pub record Benched : Type 0 where
  pub number : ℕ
  pub bench : Bench

abbrev pub benched : ℕ → Bench → Benched
benched n b = record { number = n; bench = b }

-- what flow's board has and gives after a packet
unfoldable pub bench_after : Flow.Met → Bench
bench_after m =
    bench_of (board_bytes m.target) m.target.memory.flash m.target.memory.locks m.target.memory.latch m.target.params
    (answer_bytes m.answer (used_in m.lists))

-- a packet met, as flow's board meets it
abbrev pub meet_into : Geometry → Packet → LineEvent → CallOutcome → ResidueBytes → Bench → Bench
meet_into g p e o x b = bench_after (Flow.meet g p (lists_of x e o) (target_of x (registers_in b.board) (buffers_of b)))

-- bytes that a board, an event, a call and a packet have
abbrev pub is_bench : (board : List ℕ) → Handed → Bool
is_bench b h = is_board b && (is_event h.event && (is_call_outcome h.call 0 && is_packet h.packet))

-- 12: bytes of a wrong length
abbrev pub sizes_fit : (board : List ℕ) → Handed → (answer : List ℕ) → Bool
sizes_fit b h a =
    eqb (length b) 46
    && (eqb (length h.event) 11 && (eqb (length h.call) 10 && (eqb (length h.packet) 8 && eqb (length a) 8)))

-- 11 for what is not in the table, then 13: nothing is written
abbrev pub meet_for : Lookup → Handed → ResidueBytes → Bench → Benched
meet_for (Err r) h x b = benched (refusal_number r) b
meet_for (Ok g) h x b =
    cond (is_bench b.board h) (benched 0 (meet_into g (packet_in h.packet) (event_in h.event) (call_outcome_at h.call 0) x b)) (benched 13 b)

unfoldable pub meet_call : (part macros : ℕ) → Handed → ResidueBytes → Bench → Benched
meet_call part macros h x b = cond (sizes_fit b.board h b.answer) (meet_for (lookup_of part macros) h x b) (benched 12 b)
