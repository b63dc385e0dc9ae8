-- The plain board by example: transfers, resets and calls on a board of four bytes of flash, locks and latch. Assumes nothing.
use Rattle.std.specs.Prelude.{Bool, true, false, List, [], ◌∷◌, ◌≡◌, ℕ, ◌+◌, ◌-◌, Some, None}
use Rattle.flow.specs.Calls.{finish}
use Rattle.flow.specs.Examples.{part_one}
use Rattle.flow.specs.Exchange.{Met, meet, decode}
use Rattle.flow.specs.Mishaps.{answer, okay_with, SYSREQ, SYSARG}
use Rattle.flow.specs.Packets.{packet_of}
use Rattle.flow.specs.Target.{Memory, Residue, CallOutcome, Running, idle, busy, Target, Lists}
use Rattle.flow.specs.declared.Answer.{Answer}
use Rattle.flow.specs.declared.Answer.TheVariants.{ResetDone}
use Rattle.flow.specs.declared.Packet.TheVariants as Packets
use Rattle.flow.specs.declared.Request.{Request}
use Rattle.flow.specs.declared.Request.TheVariants.{Xres, LineReset, ReadIdcode, ReadDrw, WriteTar, WriteDrw}
use Rattle.flow.specs.declared.TransferOutcome.{TransferOutcome}
use Rattle.flow.specs.declared.TransferOutcome.TheVariants.{Clean, Waits, Faults, WrongParity, Silent, Noisy}
use Rattle.parts.specs.Sizes.{PARAMS, TEST-MODE, locks_at, level_at}
use Rattle.wire.specs.Wire.{parity}

-- ---- boards

abbrev pub memory_with : (flash locks latch : List ℕ) → (stored : ℕ) → Memory
memory_with f k t l = record { flash = f; locks = k; latch = t; stored = l }

abbrev pub small : (stored : ℕ) → Memory
small l = memory_with (1 ∷ 2 ∷ 3 ∷ 4 ∷ []) (5 ∷ 6 ∷ 7 ∷ 8 ∷ []) (9 ∷ 10 ∷ 11 ∷ 12 ∷ []) l

-- the words in TAR, posted, and in the two registers of a call
pub record Held : Type 0 where
  pub tar : ℕ
  pub posted : ℕ
  pub sysarg : ℕ
  pub sysreq : ℕ

abbrev pub board_with : Memory → (effect : ℕ) → Held → (params : List ℕ) → Running → Target
board_with m e h ps r = record {
  silicon = record { idcode = 0x0BB11477; high = 0x0A; low = 0x23; revision = 0x45; family = 0x9A; privileged_sum = 0x0FFFFFFE };
  memory = m;
  effect = e;
  params = ps;
  sysarg = h.sysarg;
  sysreq = h.sysreq;
  test_mode = 0x80000000;
  tar = h.tar;
  posted = h.posted;
  running = r;
}

-- OPEN stored, this level in effect, TAR here, this word posted
abbrev pub board : (effect tar posted : ℕ) → Target
board e a w = board_with (small 1) e (record { tar = a; posted = w; sysarg = 0x51; sysreq = 0x52 }) (0x61 ∷ 0x62 ∷ 0x63 ∷ []) idle

abbrev pub with_params : (effect tar posted : ℕ) → List ℕ → Target
with_params e a w ps = board_with (small 1) e (record { tar = a; posted = w; sysarg = 0x51; sysreq = 0x52 }) ps idle

-- ---- lists

abbrev pub none : Lists
none = record { line = []; calls = [] }

-- one event, with a word, a parity bit and an acknowledgement where these are free, and a word for elsewhere
abbrev pub on_line_with : (ack : ℕ) → TransferOutcome → Lists
on_line_with n f = record { line = record { outcome = f; filler = record { ack = n; word = 13; parity = 1 }; other = 0xFEDCBA98 } ∷ []; calls = [] }

abbrev pub on_line : TransferOutcome → Lists
on_line f = on_line_with 5 f

-- what a failed call leaves: these bytes, this SYSARG, and the level sent or not
abbrev pub residue : (sysarg : ℕ) → (new_level : Bool) → Residue
residue a y = record { flash = 21 ∷ 22 ∷ []; locks = 23 ∷ []; latch = 24 ∷ []; sysarg = a; new_level = y }

abbrev pub outcome : (busy_reads : ℕ) → (succeeds : Bool) → CallOutcome
outcome n s = record { busy_reads = n; succeeds = s; residue = residue 0 false }

abbrev pub on_call : CallOutcome → Lists
on_call o = record { line = []; calls = o ∷ [] }

-- the board after a request, its answer, and the lists used up
abbrev pub becomes : Target → Answer → Met
becomes b r = record { target = b; answer = r; lists = none }

abbrev pub after : Request → Lists → Target → Met
after q l b = meet part_one (packet_of q) l b

-- 'A DRW read gives the posted word, then posts the word at TAR', and what an event makes of a transfer
pub record TransferExamples : Type 0 where
  pub idcode : after ReadIdcode none (board 1 0 7) ≡ becomes (board 1 0 7) (okay_with 0x0BB11477)
  -- 'flash, locks, the stored level as step 8 reads it, registers, PARAMS, elsewhere any word'
  pub flash : after ReadDrw none (board 1 0 7) ≡ becomes (board 1 0 0x04030201) (okay_with 7)
  pub locks : after ReadDrw none (board 1 (locks_at part_one 0) 7) ≡ becomes (board 1 (locks_at part_one 0) 0x08070605) (okay_with 7)
  pub level : after ReadDrw (on_line Clean) (board 1 (level_at part_one) 7) ≡ becomes (board 1 (level_at part_one) 0xF0DCBA98) (okay_with 7)
  pub sysarg : after ReadDrw none (board 1 SYSARG 7) ≡ becomes (board 1 SYSARG 0x51) (okay_with 7)
  pub sysreq : after ReadDrw none (board 1 SYSREQ 7) ≡ becomes (board 1 SYSREQ 0x52) (okay_with 7)
  pub test_mode : after ReadDrw none (board 1 TEST-MODE 7) ≡ becomes (board 1 TEST-MODE 0x80000000) (okay_with 7)
  pub params : after ReadDrw none (board 1 (PARAMS + 4) 7) ≡ becomes (board 1 (PARAMS + 4) 0x62) (okay_with 7)
  pub past_params : after ReadDrw (on_line Clean) (board 1 (PARAMS + 72) 7) ≡ becomes (board 1 (PARAMS + 72) 0xFEDCBA98) (okay_with 7)
  pub elsewhere : after ReadDrw (on_line Clean) (board 1 0x30000000 7) ≡ becomes (board 1 0x30000000 0xFEDCBA98) (okay_with 7)
  -- a write of PARAMS alters the word there, one of flash, locks or the level nothing; its answer's word and parity are free
  pub stores_params : after (WriteDrw 5) none (board 1 (PARAMS + 8) 7)
      ≡ becomes (with_params 1 (PARAMS + 8) 7 (0x61 ∷ 0x62 ∷ 5 ∷ [])) (answer 1 0 0)
  pub stores_flash : after (WriteDrw 5) (on_line Clean) (board 1 0 7) ≡ becomes (board 1 0 7) (answer 1 13 1)
  pub stores_locks : after (WriteDrw 5) none (board 1 (locks_at part_one 0) 7) ≡ becomes (board 1 (locks_at part_one 0) 7) (answer 1 0 0)
  pub stores_level : after (WriteDrw 5) none (board 1 (level_at part_one) 7) ≡ becomes (board 1 (level_at part_one) 7) (answer 1 0 0)
  -- 'OK; WAIT or FAULT, not carried out; silence, carried out or not; wrong parity on a read, carried out'
  pub waited : after ReadDrw (on_line Waits) (board 1 0 7) ≡ becomes (board 1 0 7) (answer 2 13 1)
  pub faulted : after ReadDrw (on_line Faults) (board 1 0 7) ≡ becomes (board 1 0 7) (answer 4 13 1)
  pub silent_done : after ReadDrw (on_line (Silent true)) (board 1 0 7) ≡ becomes (board 1 0 0x04030201) (answer 7 13 1)
  pub silent_not : after ReadDrw (on_line (Silent false)) (board 1 0 7) ≡ becomes (board 1 0 7) (answer 7 13 1)
  pub wrong_parity_read : after ReadDrw (on_line WrongParity) (board 1 0 7) ≡ becomes (board 1 0 0x04030201) (answer 1 13 (1 - parity 13))
  pub wrong_parity_write : after (WriteTar 4) (on_line WrongParity) (board 1 0 7) ≡ becomes (board 1 4 7) (answer 1 13 1)
  -- 'PROTECTED in effect answers FAULT for flash and PARAMS; KILL is silent.'
  pub protected_flash : after ReadDrw (on_line Clean) (board 2 0 7) ≡ becomes (board 2 0 7) (answer 4 13 1)
  pub protected_params : after (WriteDrw 5) (on_line Clean) (board 2 PARAMS 7) ≡ becomes (board 2 PARAMS 7) (answer 4 13 1)
  pub protected_silent : after ReadDrw (on_line (Silent true)) (board 2 0 7) ≡ becomes (board 2 0 7) (answer 7 13 1)
  pub protected_wrong_parity : after ReadDrw (on_line WrongParity) (board 2 0 7) ≡ becomes (board 2 0 7) (answer 4 13 1)
  pub protected_locks : after ReadDrw none (board 2 (locks_at part_one 0) 7) ≡ becomes (board 2 (locks_at part_one 0) 0x08070605) (okay_with 7)
  pub protected_tar : after (WriteTar 0) none (board 2 4 7) ≡ becomes (board 2 0 7) (answer 1 0 0)
  pub killed : after (WriteTar 4) (on_line Clean) (board 4 0 7) ≡ becomes (board 4 0 7) (answer 7 13 1)
  pub killed_idcode : after ReadIdcode none (board 4 0 7) ≡ becomes (board 4 0 7) (answer 7 0 0)

-- an entry's acknowledgement, and the one that a noise with it is answered by, carried out or not
pub record NoisyWith (entry ack : ℕ) : Type 0 where
  pub read_done : after ReadDrw (on_line_with entry (Noisy true)) (board 1 0 7) ≡ becomes (board 1 0 0x04030201) (answer ack 13 1)
  pub read_not : after ReadDrw (on_line_with entry (Noisy false)) (board 1 0 7) ≡ becomes (board 1 0 7) (answer ack 13 1)
  pub write_done : after (WriteTar 4) (on_line_with entry (Noisy true)) (board 1 0 7) ≡ becomes (board 1 4 7) (answer ack 13 1)
  pub write_not : after (WriteTar 4) (on_line_with entry (Noisy false)) (board 1 0 7) ≡ becomes (board 1 0 7) (answer ack 13 1)
  -- 'PROTECTED in effect answers FAULT for flash and PARAMS; KILL is silent.'
  pub barred : after ReadDrw (on_line_with entry (Noisy true)) (board 2 0 7) ≡ becomes (board 2 0 7) (answer ack 13 1)
  pub not_barred : after (WriteTar 4) (on_line_with entry (Noisy true)) (board 2 0 7) ≡ becomes (board 2 4 7) (answer ack 13 1)
  pub killed : after (WriteTar 4) (on_line_with entry (Noisy true)) (board 4 0 7) ≡ becomes (board 4 0 7) (answer 7 13 1)

-- 'For the plain board a noisy transfer, like a silent one, may have been carried out or not according to its list.'
pub record NoiseExamples : Type 0 where
  pub noise0 : NoisyWith 0 0
  pub noise3 : NoisyWith 3 3
  pub noise5 : NoisyWith 5 5
  pub noise6 : NoisyWith 6 6
  pub noise8 : NoisyWith 8 8
  pub noise255 : NoisyWith 255 255
  -- an entry with a number that is no noise
  pub okay : NoisyWith 1 0
  pub wait : NoisyWith 2 0
  pub fault : NoisyWith 4 0
  pub silence : NoisyWith 7 0

-- request bytes that the target knows, and such as it answers by silence
pub record PacketExamples : Type 0 where
  pub idcode : decode (Packets.Read 0xA5) ≡ Some ReadIdcode
  pub tar : decode (Packets.Write 0x8B 3 0) ≡ Some (WriteTar 3)
  pub start_bit : decode (Packets.Read 0xA4) ≡ None
  pub parity_bit : decode (Packets.Read 0x85) ≡ None
  pub stop_bit : decode (Packets.Read 0xE5) ≡ None
  pub park_bit : decode (Packets.Read 0x25) ≡ None
  -- 0xA5 asks for a read, 0x8B for a write
  pub not_write : decode (Packets.Write 0xA5 3 0) ≡ None
  pub not_read : decode (Packets.Read 0x8B) ≡ None
  -- a write whose parity bit is not its word's
  pub word_parity : decode (Packets.Write 0x8B 3 1) ≡ None
  pub met : meet part_one (Packets.Write 0x8B 3 1) (on_line Clean) (board 1 0 7) ≡ becomes (board 1 0 7) (answer 7 13 1)

-- 'XRES puts the stored level in effect, clears SYSREQ and drops a running call as failed.'
pub record ResetExamples : Type 0 where
  pub xres : after Xres none (board 2 4 7) ≡ becomes (board_with (small 1) 1 (record { tar = 4; posted = 7; sysarg = 0x51; sysreq = 0 }) (0x61 ∷ 0x62 ∷ 0x63 ∷ []) idle) ResetDone
  pub restores : after Xres none (board_with (small 2) 4 (record { tar = 4; posted = 7; sysarg = 0x51; sysreq = 0x52 }) [] idle)
      ≡ becomes (board_with (small 2) 2 (record { tar = 4; posted = 7; sysarg = 0x51; sysreq = 0 }) [] idle) ResetDone
  -- a call that would have succeeded: 'any flash, locks and latch' are left, filled to size
  pub drops : after Xres none (board_with (small 1) 1 (record { tar = 4; posted = 7; sysarg = PARAMS; sysreq = 0x80000006 }) [] (busy 3 true (residue 0x51234567 false) 6))
      ≡ becomes (board_with (memory_with (21 ∷ 22 ∷ 0 ∷ 0 ∷ []) (23 ∷ 0 ∷ 0 ∷ 0 ∷ []) (24 ∷ 0 ∷ 0 ∷ 0 ∷ []) 1) 1 (record { tar = 4; posted = 7; sysarg = 0x51234567; sysreq = 0 }) [] idle) ResetDone
  -- a dropped 0x0D that had stored its level: that level comes into effect
  pub drops_level : (after Xres none (board_with (small 1) 1 (record { tar = 4; posted = 7; sysarg = 0x2E0B6; sysreq = 0x8000000D }) [] (busy 0 true (residue 0 true) 0x0D))).target.effect ≡ 2
  -- no reset takes an entry
  pub takes_none : (after Xres (on_line Faults) (board 1 4 7)).lists ≡ on_line Faults
  pub line_reset : after LineReset none (board 2 4 7) ≡ becomes (board 2 4 7) ResetDone

-- call c on a board with this level in effect, this word in SYSARG and these words from PARAMS on
abbrev pub succeeding : (c effect sysarg : ℕ) → List ℕ → Target
succeeding c e a ps = finish part_one true (residue 0 false) c (board_with (small 2) e (record { tar = SYSREQ; posted = 7; sysarg = a; sysreq = 0x80000000 + c }) ps (busy 0 true (residue 0 false) c))

abbrev pub failing : (c sysarg : ℕ) → Residue → Target
failing c a r = finish part_one false r c (board_with (small 1) 1 (record { tar = SYSREQ; posted = 7; sysarg = a; sysreq = 0x80000000 + c }) [] (busy 0 false r c))

-- a call from its write of SYSREQ to what it leaves; the keys of the words are not looked at
pub record CallExamples : Type 0 where
  -- 'Per call: how many DRW reads of SYSREQ post it busy (bit 31 set), then success or failure, which takes effect there.'
  pub begins : after (WriteDrw 0x80000015) (on_call (outcome 2 true)) (board 1 SYSREQ 7)
      ≡ becomes (board_with (small 1) 1 (record { tar = SYSREQ; posted = 7; sysarg = 0x51; sysreq = 0x80000015 }) (0x61 ∷ 0x62 ∷ 0x63 ∷ []) (busy 2 true (residue 0 false) 0x15)) (answer 1 0 0)
  pub no_call : (after (WriteDrw 0x15) (on_call (outcome 2 true)) (board 1 SYSREQ 7)).lists ≡ on_call (outcome 2 true)
  pub no_call_stores : (after (WriteDrw 0x15) none (board 1 SYSREQ 7)).target.sysreq ≡ 0x15
  pub busy_read : after ReadDrw (on_line Clean) (board_with (small 1) 1 (record { tar = SYSREQ; posted = 7; sysarg = 0x51; sysreq = 0x80000015 }) [] (busy 1 true (residue 0 false) 0x15))
      ≡ becomes (board_with (small 1) 1 (record { tar = SYSREQ; posted = 0xFEDCBA98; sysarg = 0x51; sysreq = 0x80000015 }) [] (busy 0 true (residue 0 false) 0x15)) (okay_with 7)
  pub takes_effect : after ReadDrw none (board_with (small 1) 1 (record { tar = SYSREQ; posted = 7; sysarg = 0x51; sysreq = 0x80000015 }) [] (busy 0 true (residue 0 false) 0x15))
      ≡ becomes (board_with (small 1) 1 (record { tar = SYSREQ; posted = 0; sysarg = 0xA0000000; sysreq = 0 }) [] idle) (okay_with 7)
  pub fails : after ReadDrw none (board_with (small 1) 1 (record { tar = SYSREQ; posted = 7; sysarg = 0x51; sysreq = 0x80000015 }) [] (busy 0 false (residue 0xB0000000 false) 0x15))
      ≡ becomes (board_with (small 1) 1 (record { tar = SYSREQ; posted = 0; sysarg = 0xB0000000; sysreq = 0 }) [] idle) (okay_with 7)
  -- past the list's end 'success without busy reads'
  pub past : (after (WriteDrw 0x80000015) none (board 1 SYSREQ 7)).target.running
      ≡ busy 0 true (record { flash = []; locks = []; latch = []; sysarg = 0; new_level = false }) 0x15
  -- '0 puts in IDs and level as step 2 reads them', the level in effect
  pub ids : (succeeding 0 1 0xD3B6 []).sysarg ≡ 0xA0450A23
  pub ids_level : (succeeding 0 1 0xD3B6 []).sysreq ≡ 0x109A
  -- '0x0B adds (S + all flash bytes) mod 2^28': 0x0FFFFFFE and 1 + 2 + 3 + 4
  pub sum : (succeeding 0x0B 1 0x8000DEB6 []).sysarg ≡ 0xA0000008
  pub others : (succeeding 4 1 PARAMS []).sysarg ≡ 0xA0000000
  pub others_done : (succeeding 4 1 PARAMS []).sysreq ≡ 0
  -- '0x0A zeroes flash and locks.'
  pub erase : (succeeding 0x0A 1 PARAMS []).memory ≡ memory_with (0 ∷ 0 ∷ 0 ∷ 0 ∷ []) (0 ∷ 0 ∷ 0 ∷ 0 ∷ []) (9 ∷ 10 ∷ 11 ∷ 12 ∷ []) 2
  -- '4 fills the latch from byte 0, keeping the rest.'
  pub latch : (succeeding 4 1 PARAMS (0xD7B6 ∷ 2 ∷ 0x44332211 ∷ [])).memory
      ≡ memory_with (1 ∷ 2 ∷ 3 ∷ 4 ∷ []) (5 ∷ 6 ∷ 7 ∷ 8 ∷ []) (0x11 ∷ 0x22 ∷ 0x33 ∷ 12 ∷ []) 2
  -- '6 makes the row the latch.': row 0; the board has no row 1
  pub row : (succeeding 6 1 PARAMS (0xD9B6 ∷ [])).memory ≡ memory_with (9 ∷ 10 ∷ 11 ∷ 12 ∷ []) (5 ∷ 6 ∷ 7 ∷ 8 ∷ []) (9 ∷ 10 ∷ 11 ∷ 12 ∷ []) 2
  pub other_row : (succeeding 6 1 PARAMS (0x1D9B6 ∷ [])).memory ≡ small 2
  -- '0x0D makes the macro's locks the latch's first PB bytes and, on macro 0 only, stores the level'
  pub lock : (succeeding 0x0D 1 0x4E0B6 []).memory ≡ memory_with (1 ∷ 2 ∷ 3 ∷ 4 ∷ []) (9 ∷ 10 ∷ 11 ∷ 12 ∷ []) (9 ∷ 10 ∷ 11 ∷ 12 ∷ []) 4
  pub other_macro : (succeeding 0x0D 1 0x104E0B6 []).memory ≡ small 2
  -- 'with PROTECTED in effect and OPEN sent it instead zeroes flash and locks and stores OPEN'
  pub reopen : (succeeding 0x0D 2 0x1E0B6 []).memory ≡ memory_with (0 ∷ 0 ∷ 0 ∷ 0 ∷ []) (0 ∷ 0 ∷ 0 ∷ 0 ∷ []) (9 ∷ 10 ∷ 11 ∷ 12 ∷ []) 1
  pub not_reopen : (succeeding 0x0D 2 0x4E0B6 []).memory.flash ≡ 1 ∷ 2 ∷ 3 ∷ 4 ∷ []
  pub imo : (succeeding 0x15 1 0xE8B6 []).memory ≡ small 2
  -- 'A failed call leaves 0 in SYSREQ, a SYSARG of another top digit'
  pub failed_digit : (failing 4 PARAMS (residue 0xA1234567 false)).sysarg ≡ 0
  pub failed_arg : (failing 4 PARAMS (residue 0x5A000000 false)).sysarg ≡ 0x5A000000
  pub failed_done : (failing 0 0xD3B6 (residue 0 false)).sysreq ≡ 0
  -- 'and, unless it is 0, 0x0B or 0x15, any flash, locks and latch'
  pub failed0 : (failing 0 0xD3B6 (residue 0 true)).memory ≡ small 1
  pub failed_sum : (failing 0x0B 0x8000DEB6 (residue 0 true)).memory ≡ small 1
  pub failed_imo : (failing 0x15 0xE8B6 (residue 0 true)).memory ≡ small 1
  pub failed_row : (failing 6 PARAMS (residue 0 true)).memory ≡ memory_with (21 ∷ 22 ∷ 0 ∷ 0 ∷ []) (23 ∷ 0 ∷ 0 ∷ 0 ∷ []) (24 ∷ 0 ∷ 0 ∷ 0 ∷ []) 1
  -- 'a failed 0x0D on macro 0 stores the old level or the one sent'
  pub failed_level : (failing 0x0D 0x4E0B6 (residue 0 true)).memory.stored ≡ 4
  pub old_level : (failing 0x0D 0x4E0B6 (residue 0 false)).memory.stored ≡ 1
  pub failed_macro1 : (failing 0x0D 0x104E0B6 (residue 0 true)).memory.stored ≡ 1
