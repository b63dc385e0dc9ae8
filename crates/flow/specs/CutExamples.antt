-- A cut of the power by example, on the board of four bytes: on each limit what a cut leaves beside what it does not. Assumes nothing.
use Rattle.std.specs.Prelude.{Bool, true, false, List, [], ◌∷◌, ◌≡◌, ℕ, ◌+◌, length}
use Rattle.flow.specs.BoardExamples.{memory_with, small, board_with, residue}
use Rattle.flow.specs.Cuts.{cut_memory, CutTo}
use Rattle.flow.specs.Mishaps.{SYSREQ}
use Rattle.flow.specs.Sequence.{key}
use Rattle.flow.specs.Target.{Memory, Residue, Running, idle, busy, Target, with_latch}
use Rattle.parts.specs.Sizes.{PARAMS}

-- a board with this level stored and in effect, this word in SYSARG, and this under way
abbrev pub during : (level sysarg : ℕ) → Running → Target
during l a x = board_with (small l) l (record { tar = SYSREQ; posted = 7; sysarg = a; sysreq = 0 }) (0x61 ∷ 0x62 ∷ 0x63 ∷ []) x

-- call c, which with the power on would be busy three times more and then succeed
abbrev pub under_way : (c : ℕ) → Running
under_way c = busy 3 true (residue 0 false) c

-- the bytes that `residue` leaves
abbrev pub scrambled : (stored : ℕ) → Memory
scrambled l = memory_with (21 ∷ 22 ∷ 0 ∷ 0 ∷ []) (23 ∷ 0 ∷ 0 ∷ 0 ∷ []) (24 ∷ 0 ∷ 0 ∷ 0 ∷ []) l

abbrev pub left : (level sysarg c : ℕ) → Residue → Memory
left l a c r = cut_memory (during l a (under_way c)) r

pub record CutMemoryExamples : Type 0 where
  -- with nothing under way all stays
  pub at_rest : cut_memory (during 1 PARAMS idle) (residue 0 true) ≡ small 1
  -- 'unless it is 0, 0x0B or 0x15, any flash, locks and latch'
  pub ids : left 1 0xD3B6 0 (residue 0 true) ≡ small 1
  pub sum : left 1 0x8000DEB6 0x0B (residue 0 true) ≡ small 1
  pub imo : left 1 0xE8B6 0x15 (residue 0 true) ≡ small 1
  pub erase : left 1 PARAMS 0x0A (residue 0 true) ≡ scrambled 1
  pub load : left 1 PARAMS 4 (residue 0 true) ≡ scrambled 1
  pub row : left 1 PARAMS 6 (residue 0 true) ≡ scrambled 1
  -- 'a failed 0x0D on macro 0 stores the old level or the one sent', here KILL; on macro 1 it stores none
  pub new_level : left 1 0x4E0B6 0x0D (residue 0 true) ≡ scrambled 4
  pub old_level : left 1 0x4E0B6 0x0D (residue 0 false) ≡ scrambled 1
  pub other_macro : left 1 0x104E0B6 0x0D (residue 0 true) ≡ scrambled 1
  -- reopening: OPEN is sent where PROTECTED is stored
  pub reopened : left 2 0x1E0B6 0x0D (residue 0 true) ≡ scrambled 1
  pub not_reopened : left 2 0x1E0B6 0x0D (residue 0 false) ≡ scrambled 2

-- a cut can fall into 'PROTECTED: call 0x0D with k + 0x10000': it runs on b
pub record Reopening (b : Target) : Type 0 where
  pub left : ℕ
  pub succeeds : Bool
  pub entry : Residue
  pub runs : b.running ≡ busy left succeeds entry 0x0D
  pub sent : b.sysarg ≡ key 0x0D + 0x10000
  pub effect : b.effect ≡ 2

-- what the cut of b with this residue leaves, where the latch, PARAMS and the registers have come to hold this
abbrev pub powered_up : Target → Residue → (latch params : List ℕ) → (register : ℕ) → Target
powered_up b r latch params w = record {
  silicon = b.silicon;
  memory = with_latch latch (cut_memory b r);
  effect = w;
  params = params;
  sysarg = w + 1;
  sysreq = w + 2;
  test_mode = w + 3;
  tar = w + 4;
  posted = w + 5;
  running = idle;
}

-- the board at rest with this memory, PARAMS and state
abbrev pub other : Memory → (params : List ℕ) → Running → Target
other m ps x = board_with m 1 (record { tar = SYSREQ; posted = 7; sysarg = PARAMS; sysreq = 0 }) ps x

pub record CutExamples : Type 0 where
  -- any residue; and what has no charge is anything of its size
  pub free : (b : Target) (r : Residue) (latch params : List ℕ) (register : ℕ)
      → length latch ≡ length b.memory.latch → length params ≡ length b.params → CutTo b (powered_up b r latch params register)
  -- of a board at rest, no other flash, locks or level
  pub other_flash : ¬ CutTo (during 1 PARAMS idle) (other (memory_with (1 ∷ 2 ∷ 3 ∷ 5 ∷ []) (5 ∷ 6 ∷ 7 ∷ 8 ∷ []) (9 ∷ 10 ∷ 11 ∷ 12 ∷ []) 1) (0x61 ∷ 0x62 ∷ 0x63 ∷ []) idle)
  pub other_locks : ¬ CutTo (during 1 PARAMS idle) (other (memory_with (1 ∷ 2 ∷ 3 ∷ 4 ∷ []) (5 ∷ 6 ∷ 7 ∷ 9 ∷ []) (9 ∷ 10 ∷ 11 ∷ 12 ∷ []) 1) (0x61 ∷ 0x62 ∷ 0x63 ∷ []) idle)
  pub other_level : ¬ CutTo (during 1 PARAMS idle) (other (small 2) (0x61 ∷ 0x62 ∷ 0x63 ∷ []) idle)
  -- of a row's call any flash and locks of their sizes, and the level that was
  pub row_flash : CutTo (during 1 PARAMS (under_way 6)) (other (memory_with (31 ∷ 32 ∷ 33 ∷ 34 ∷ []) (35 ∷ 36 ∷ 37 ∷ 38 ∷ []) (0 ∷ 0 ∷ 0 ∷ 0 ∷ []) 1) (0 ∷ 0 ∷ 0 ∷ []) idle)
  pub row_longer : ¬ CutTo (during 1 PARAMS (under_way 6)) (other (memory_with (31 ∷ 32 ∷ 33 ∷ 34 ∷ 35 ∷ []) (5 ∷ 6 ∷ 7 ∷ 8 ∷ []) (9 ∷ 10 ∷ 11 ∷ 12 ∷ []) 1) (0x61 ∷ 0x62 ∷ 0x63 ∷ []) idle)
  pub row_level : ¬ CutTo (during 1 PARAMS (under_way 6)) (other (small 4) (0x61 ∷ 0x62 ∷ 0x63 ∷ []) idle)
  -- nothing runs on, and sizes and IDs stay
  pub quiet : ¬ CutTo (during 1 PARAMS (under_way 6)) (during 1 PARAMS (under_way 6))
  pub latch : ¬ CutTo (during 1 PARAMS idle) (other (memory_with (1 ∷ 2 ∷ 3 ∷ 4 ∷ []) (5 ∷ 6 ∷ 7 ∷ 8 ∷ []) (9 ∷ 10 ∷ 11 ∷ []) 1) (0x61 ∷ 0x62 ∷ 0x63 ∷ []) idle)
  pub params : ¬ CutTo (during 1 PARAMS idle) (other (small 1) (0x61 ∷ 0x62 ∷ []) idle)
  pub silicon : (b b' : Target) → CutTo b b' → b'.silicon ≡ b.silicon
