-- The examples of a cut of the power and of step 7's call for macro 0 hold. Assumes nothing.
use mathlib.Core.Bool.{Bool, true, false}
use mathlib.Core.List.{List, [], ◌∷◌}
use mathlib.Core.Path.{◌≡◌, refl, ap, ◌∙◌}
use Prim.Native.Nat.{ℕ}
use native.Mathlib.Omega.{arith}
use lib.ListN.{length, get_or}
use borrow.Author.Rules.{rules}
use Rattle.flow.specs.BoardExamples.{none, on_line, residue}
use Rattle.flow.specs.Calls.{effect_of, sysarg_after, sysreq_after, after_failure, finish, reset}
use Rattle.flow.specs.CutExamples.{during, under_way, left, CutMemoryExamples, CutExamples, powered_up}
use Rattle.flow.specs.Examples.{part_one}
use Rattle.flow.specs.Exchange.{Met, decode, carry, barred, transferred, meet}
use Rattle.flow.specs.Map as Maps
use Rattle.flow.specs.Map.{regions, lock_regions}
use Rattle.flow.specs.Sealing.{seals, HoldsImage}
use Rattle.flow.specs.SealingExamples.{locking, sealed_by, image, latch, holding, SealingExamples}
use Rattle.flow.specs.Target.{Target, Lists, Residue, idle}
use Rattle.flow.specs.Words.{succeeded}
use Rattle.flow.specs.declared.Request.TheVariants.{ReadDrw, WriteTar}
use Rattle.flow.specs.declared.TransferOutcome.TheVariants.{Silent, Noisy}
use Rattle.flow.proofs.Decoding.{plain, a_tar, a_read, meets}
use Rattle.flow.proofs.Keeping.{cut_keeps}
use Rattle.parts.specs.Sizes.{rows_of, locks_in, flash_size, lock_start, PARAMS}

pub cut-memory-examples : CutMemoryExamples
unfolding after_failure
cut-memory-examples = search rules

-- a row's call stores no level, whatever it leaves
row-level : (r : Residue) → (left 1 PARAMS 6 r).stored ≡ 1
unfolding after_failure
row-level r = by r.new_level refl
  where
    by : (y : Bool) → r.new_level ≡ y → (left 1 PARAMS 6 r).stored ≡ 1
    by true e = rw e
    by false e = rw e

pub cut-examples : CutExamples
unfolding after_failure
cut-examples = record {
  free = λ b r latch params w hl hp. record { residue = r; flash = refl; locks = refl; stored = refl; quiet = refl; silicon = refl; latch = hl; params = hp };
  other_flash = λ c. omega (arith, ap (λ (l : List ℕ). get_or l 3 0) c.flash);
  other_locks = λ c. omega (arith, ap (λ (l : List ℕ). get_or l 3 0) c.locks);
  other_level = λ c. omega (arith, c.stored);
  row_flash = record {
    residue = record { flash = 31 ∷ 32 ∷ 33 ∷ 34 ∷ []; locks = 35 ∷ 36 ∷ 37 ∷ 38 ∷ []; latch = []; sysarg = 0; new_level = true };
    flash = refl;
    locks = refl;
    stored = refl;
    quiet = refl;
    silicon = refl;
    latch = refl;
    params = refl;
  };
  row_longer = λ c. omega (arith, ap length c.flash ∙ (cut_keeps (during 1 PARAMS (under_way 6)) c.residue).flash);
  row_level = λ c. omega (arith, c.stored ∙ row-level c.residue);
  quiet = λ c. let no : under_way 6 ≡ idle = c.quiet in let z : ◌≡◌ {A = ℕ} 0 1 = cc in omega arith;
  latch = λ c. omega (arith, c.latch);
  params = λ c. omega (arith, c.params);
  silicon = λ b b' c. c.silicon;
}

seals_read : (l : Lists) (b : Target) (y : Bool) → seals b (transferred part_one ReadDrw l b).target ≡ y → sealed_by ReadDrw l b ≡ y
seals_read l b y e = ap (λ (m : Met). seals b m.target) (meets part_one (plain a_read) l b) ∙ e

seals_tar : (a : ℕ) (l : Lists) (b : Target) (y : Bool) → seals b (transferred part_one (WriteTar a) l b).target ≡ y → sealed_by (WriteTar a) l b ≡ y
seals_tar a l b y e = ap (λ (m : Met). seals b m.target) (meets part_one (plain a_tar) l b) ∙ e

image-held : HoldsImage image (holding idle).memory
image-held = record { flash = refl; locks = refl; level = refl }

-- what a cut in a row's call may leave
abbrev row_cut : Target
row_cut = powered_up (holding (under_way 6)) (residue 0 false) latch [] 0

pub sealing-examples : SealingExamples
unfolding transferred carry barred Maps.search regions lock_regions rows_of locks_in lock_start flash_size finish effect_of sysarg_after sysreq_after after_failure reset meet decode succeeded
sealing-examples = record {
  succeeds = seals_read none (locking 1 0x2E0B6 0 true) true refl;
  unheard = seals_read (on_line (Silent true)) (locking 1 0x2E0B6 0 true) true refl;
  not_carried = seals_read (on_line (Silent false)) (locking 1 0x2E0B6 0 true) false refl;
  noisy = seals_read (on_line (Noisy true)) (locking 1 0x2E0B6 0 true) true refl;
  noisy_not = seals_read (on_line (Noisy false)) (locking 1 0x2E0B6 0 true) false refl;
  busy_still = seals_read none (locking 1 0x2E0B6 1 true) false refl;
  fails = seals_read none (locking 1 0x2E0B6 0 false) false refl;
  dropped = refl;
  other_macro = seals_read none (locking 1 0x102E0B6 0 true) false refl;
  reopens = seals_read none (locking 2 0x1E0B6 0 true) false refl;
  sends_open = seals_read none (locking 1 0x1E0B6 0 true) true refl;
  tar = seals_tar 0 none (locking 1 0x2E0B6 0 true) false refl;
  holds = image-held;
  other_flash = λ h. omega (arith, ap (λ (l : List ℕ). get_or l 3 0) h.flash);
  other_locks = λ h. omega (arith, ap (λ (l : List ℕ). get_or l 3 0) h.locks);
  other_level = λ h. omega (arith, h.level);
  in_row = λ h. omega (arith, ap (λ (l : List ℕ). get_or l 0 0) (h.cut row_cut (cut-examples.free (holding (under_way 6)) (residue 0 false) latch [] 0 refl refl)).flash);
  at_rest = record { now = image-held; cut = λ b' c. record { flash = c.flash; locks = c.locks; level = c.stored } };
  in_sum = record { now = image-held; cut = λ b' c. record { flash = c.flash; locks = c.locks; level = c.stored } };
}
