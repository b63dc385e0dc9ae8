-- Document 02, One: 'a board on which step 7's call 0x0D for macro 0 succeeded has the image's flash, level and all its locks, whatever
-- the line did before or does after, even where the session reports a failure.' We say that such a board is sealed. Assumes nothing.
use Rattle.std.specs.Prelude.{Bool, true, false, ◌&&◌, not, ◌≡◌, ℕ, eqb}
use Rattle.flow.specs.Calls.{level_sent, macro_sent}
use Rattle.flow.specs.Cuts.{CutTo}
use Rattle.flow.specs.Target.{Target, Memory, Running, idle, busy}
use Rattle.image.specs.Image.{Image}
use Rattle.flow.specs.Words.{succeeded}

abbrev pub is_idle : Running → Bool
is_idle idle = true
is_idle (busy left succeeds entry c) = false

-- a 'call 0x0D for macro 0' is under way
abbrev pub on_macro0 : Running → (sysarg : ℕ) → Bool
on_macro0 idle a = false
on_macro0 (busy left succeeds entry c) a = eqb c 0x0D && eqb (macro_sent a) 0

-- it 'succeeded': under way on b and over on b', where SYSARG says success; what the session heard of it doesn't count
abbrev pub succeeds0 : (b b' : Target) → Bool
succeeds0 b b' = on_macro0 b.running b.sysarg && (is_idle b'.running && succeeded b'.sysarg)

-- step 3's is sent OPEN with PROTECTED in effect, and reopens
abbrev pub reopens : Target → Bool
reopens b = eqb b.effect 2 && eqb (level_sent b.sysarg) 1

-- the other is step 7's
abbrev pub seals : (b b' : Target) → Bool
seals b b' = succeeds0 b b' && not (reopens b)

-- 'the image's flash, level and all its locks'
pub record HoldsImage (i : Image) (m : Memory) : Type 0 where
  pub flash : m.flash ≡ i.flash
  pub locks : m.locks ≡ i.protection
  pub level : m.stored ≡ i.header.level

-- the board has them, and has them also if the power is cut now
pub record HoldsThroughCut (i : Image) (b : Target) : Type 0 where
  pub now : HoldsImage i b.memory
  pub cut : (b' : Target) → CutTo b b' → HoldsImage i b'.memory
