-- When step 7's call for macro 0 has succeeded, by example, each beside one that just has not. Assumes nothing.
use Rattle.std.specs.Prelude.{Bool, true, false, List, [], ◌∷◌, ◌≡◌, ℕ}
use Rattle.flow.specs.BoardExamples.{small, memory_with, board_with, none, on_line, residue, after}
use Rattle.flow.specs.CutExamples.{under_way}
use Rattle.flow.specs.Examples.{part_one}
use Rattle.flow.specs.Mishaps.{SYSREQ}
use Rattle.flow.specs.Sealing.{seals, HoldsImage, HoldsThroughCut}
use Rattle.flow.specs.Target.{Target, Running, idle, busy, Lists}
use Rattle.flow.specs.declared.Request.{Request}
use Rattle.flow.specs.declared.Request.TheVariants.{Xres, ReadDrw, WriteTar}
use Rattle.flow.specs.declared.TransferOutcome.TheVariants.{Silent, Noisy}
use Rattle.image.specs.Image.{Image}

-- call 0x0D under way with this level in effect, this word in SYSARG and so many busy reads left
abbrev pub locking : (effect sysarg busy_reads : ℕ) → (succeeds : Bool) → Target
locking e a n y = board_with (small 1) e (record { tar = SYSREQ; posted = 7; sysarg = a; sysreq = 0x8000000D }) [] (busy n y (residue 0 false) 0x0D)

abbrev pub sealed_by : Request → Lists → Target → Bool
sealed_by q l b = seals b (after q l b).target

-- an image of four bytes of flash and of locks, its level PROTECTED
abbrev pub image : Image
image = record { geometry = part_one; header = record { part = 1; macros = 1; sum = 10; metadata = []; level = 2 }; flash = 1 ∷ 2 ∷ 3 ∷ 4 ∷ []; protection = 5 ∷ 6 ∷ 7 ∷ 8 ∷ [] }

abbrev pub latch : List ℕ
latch = 9 ∷ 10 ∷ 11 ∷ 12 ∷ []

-- the board of that image with this under way
abbrev pub holding : Running → Target
holding x = board_with (memory_with (1 ∷ 2 ∷ 3 ∷ 4 ∷ []) (5 ∷ 6 ∷ 7 ∷ 8 ∷ []) latch 2) 1 (record { tar = SYSREQ; posted = 7; sysarg = 0; sysreq = 0 }) [] x

pub record SealingExamples : Type 0 where
  -- PROTECTED sent to macro 0, OPEN in effect
  pub succeeds : sealed_by ReadDrw none (locking 1 0x2E0B6 0 true) ≡ true
  -- also where the session hears nothing of it
  pub unheard : sealed_by ReadDrw (on_line (Silent true)) (locking 1 0x2E0B6 0 true) ≡ true
  pub not_carried : sealed_by ReadDrw (on_line (Silent false)) (locking 1 0x2E0B6 0 true) ≡ false
  pub noisy : sealed_by ReadDrw (on_line (Noisy true)) (locking 1 0x2E0B6 0 true) ≡ true
  pub noisy_not : sealed_by ReadDrw (on_line (Noisy false)) (locking 1 0x2E0B6 0 true) ≡ false
  pub busy_still : sealed_by ReadDrw none (locking 1 0x2E0B6 1 true) ≡ false
  pub fails : sealed_by ReadDrw none (locking 1 0x2E0B6 0 false) ≡ false
  pub dropped : sealed_by Xres none (locking 1 0x2E0B6 0 true) ≡ false
  pub other_macro : sealed_by ReadDrw none (locking 1 0x102E0B6 0 true) ≡ false
  -- step 3's call reopens; step 7's may send OPEN too
  pub reopens : sealed_by ReadDrw none (locking 2 0x1E0B6 0 true) ≡ false
  pub sends_open : sealed_by ReadDrw none (locking 1 0x1E0B6 0 true) ≡ true
  pub tar : sealed_by (WriteTar 0) none (locking 1 0x2E0B6 0 true) ≡ false
  -- the image's flash, locks and level, all three; the latch may hold anything
  pub holds : HoldsImage image (memory_with (1 ∷ 2 ∷ 3 ∷ 4 ∷ []) (5 ∷ 6 ∷ 7 ∷ 8 ∷ []) latch 2)
  pub other_flash : ¬ HoldsImage image (memory_with (1 ∷ 2 ∷ 3 ∷ 5 ∷ []) (5 ∷ 6 ∷ 7 ∷ 8 ∷ []) latch 2)
  pub other_locks : ¬ HoldsImage image (memory_with (1 ∷ 2 ∷ 3 ∷ 4 ∷ []) (5 ∷ 6 ∷ 7 ∷ 9 ∷ []) latch 2)
  pub other_level : ¬ HoldsImage image (memory_with (1 ∷ 2 ∷ 3 ∷ 4 ∷ []) (5 ∷ 6 ∷ 7 ∷ 8 ∷ []) latch 1)
  -- through a cut: not where a row's call runs, which may leave other flash; where nothing runs, or step 9's sum does
  pub in_row : ¬ HoldsThroughCut image (holding (under_way 6))
  pub at_rest : HoldsThroughCut image (holding idle)
  pub in_sum : HoldsThroughCut image (holding (under_way 0x0B))
