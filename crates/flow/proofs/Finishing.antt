-- Steps 4 to 9. Assumes nothing.
use mathlib.Core.Bool.{Bool, true, false}
use mathlib.Core.List.{List, [], ◌++◌}
use mathlib.Core.Logic.{inl}
use mathlib.Core.Path.{◌≡◌, refl, ap, sym, subst, ◌∙◌}
use Prim.Native.Nat.{ℕ, suc, ◌+◌, ◌-◌, ◌/◌, ◌%◌}
use native.Mathlib.Nat.{zero-mul}
use native.Mathlib.Omega.{arith}
use borrow.Author.Tests.{eq-eqb}
use Rattle.flow.specs.Calls.{sysarg_after, sysreq_after}
use Rattle.flow.specs.Judge.{judge}
use Rattle.flow.specs.Monitor.{no_waits, watching, notice_read}
use Rattle.flow.specs.Run.{Run}
use Rattle.flow.specs.Sealing.{HoldsImage}
use Rattle.flow.specs.Sequence.{key, call, read, privileged, in_turn, program_row, verify_row, macro_down, lock_and_verify, program}
use Rattle.flow.specs.Session.{position}
use Rattle.flow.specs.Target.{Target, Memory}
use Rattle.flow.specs.Words.{free, succeeded, sums_fit}
use Rattle.flow.specs.declared.Entry.{Entry}
use Rattle.flow.specs.declared.Move.{Move}
use Rattle.flow.specs.declared.Place.TheVariants.{AtSysarg}
use Rattle.flow.specs.declared.Position.{Position}
use Rattle.flow.specs.declared.Next.{Next}
use Rattle.flow.specs.declared.Purpose.{Purpose}
use Rattle.flow.specs.declared.Purpose.TheVariants.{Keep, StoredLevel, LastSum}
use Rattle.flow.specs.declared.Silicon.{Silicon}
use Rattle.flow.proofs.Access.{admits-open, read-still}
use Rattle.flow.proofs.Calling.{sums, still-call}
use Rattle.flow.proofs.Legs.{Core, core, Leg, halt}
use Rattle.flow.proofs.Phases.{Valid, Opened, Sized, Wrote, Locked, wrote-all, all_held, none-locked, first-level}
use Rattle.flow.proofs.Table.{place-sysarg, Facts}
use Rattle.flow.proofs.Polling.{idle_at}
use Rattle.flow.proofs.Writing.{rows-leg}
use Rattle.flow.proofs.Reaches.{Allowance, with_transfer, with_moves, Env, sync, Frame, at_rest, OnPlan, OnPlanFor, split, Reaches, here, tally, seen, after}
use Rattle.flow.proofs.Verifying.{flash-leg, macros-leg, level-leg}
use Rattle.image.specs.Image.{Image}
use Rattle.lent.specs.Words.{total}
use Rattle.parts.specs.Sizes.{row_bytes_of, macros_of, rows_of, sysarg_of, level_at}

free-B : (x : Silicon) (l : ℕ) → free (sysreq_after 0x0B x l) ≡ true
unfolding free sysreq_after
free-B x l = refl

-- the privileged sum
abbrev sum_of : Silicon → Memory → ℕ
sum_of x m = (x.privileged_sum + total m.flash) % 0x10000000

sysarg-B : (x : Silicon) (m : Memory) → sysarg_after 0x0B x m ≡ 0xA0000000 + sum_of x m
unfolding sysarg_after
sysarg-B x m = refl

good-B : (x : Silicon) (m : Memory) → succeeded (sysarg_after 0x0B x m) ≡ true
unfolding succeeded
good-B x m = rw (sysarg-B x m) (eq-eqb ((0xA0000000 + sum_of x m) / 0x10000000 % 16) 0xA (omega arith))

low-28 : (x : Silicon) (m : Memory) → sysarg_after 0x0B x m % 0x10000000 ≡ sum_of x m
low-28 x m = rw (sysarg-B x m) (omega arith)

-- the difference of the two sums is the flash's own sum
sums-fit : (i : Image) (x : Silicon) (m : Memory) (k : ℕ) → k % 0x10000000 ≡ x.privileged_sum % 0x10000000 → m.flash ≡ i.flash → total i.flash % 65536 ≡ i.header.sum
    → sums_fit i.header (sysarg_after 0x0B x m) k ≡ true
unfolding sums_fit
sums-fit i x m k hk hf hs = eq-eqb ((sysarg_after 0x0B x m % 0x10000000 + 0x10000000 - k % 0x10000000) % 65536) i.header.sum (rw (low-28 x m, hk, hf) (omega arith))

-- an erased target, OPEN in effect
pub record Blank {i : Image} (f : Frame i) (k : ℕ) (c : Core) : Type 0 where
  pub opened : Opened f c
  pub sized : Sized f c.memory
  pub level : c.memory.stored ≡ 1
  pub erased : total c.memory.flash ≡ 0

unfoldable pub nothing : Allowance
nothing = record { due = 0; room = 0; xres = 0; lines = 0 }

module _ {i : Image} (f : Frame i) (fx : Facts i.geometry) (v : Valid i) where
  abbrev sum_word : ℕ
  sum_word = key 0x0B + 0x80000000

  -- the run after the Read of SYSARG
  abbrev summed : Next → (s : ℕ) → Position → Target → Env → Run
  summed x s o b e = after x o s b (watching (seen no_waits 0 0 (idle_at (sysarg_of i.geometry)) e.delays)) e

  sum-reaches : (s : ℕ) (u : Purpose) {z : Bool} {y : Entry} {n x k : ℕ} {ms : List Move} {κ : Allowance} {e : Env} {b : Target} → Opened f (core b) → f.Safe z b.memory
      → OnPlanFor f (position y n) (call i.geometry s 0x0B sum_word) (read s (sysarg_of i.geometry) u ++ ms) (with_transfer (with_transfer (with_transfer κ))) e
      → (next : (b' : Target) → core b' ≡ core b → (n' : ℕ) (e' : Env) → OnPlan f y (suc n') ms κ e' → Reaches f z (summed (judge i u (tally 0 0 k) (sysarg_after 0x0B f.silicon b.memory)) s (position y n') b' e'))
      → Reaches f z (sync (position y n) (tally 0 0 k) b (idle_at x) e)
  unfolding notice_read
  sum-reaches s u {z = z} {b = b} p safe st next =
      still-call f fx s sum_word {b = b} sums st (inl p.effect) p.quiet safe (free-B _ _) (good-B _ _) λ b₁ ret same n₁ e₁ st₁.
      let arg : b₁.sysarg ≡ sysarg_after 0x0B f.silicon b.memory = ret.sysarg ∙ rw p.silicon in
      read-still f s (sysarg_of i.geometry) u st₁ AtSysarg (place-sysarg i.geometry fx) (admits-open b₁.effect AtSysarg (ret.effect ∙ p.effect))
      (at_rest (f.Safe z) b₁ ret.ended (rw (ap (λ (c : Core). c.memory) same) safe)) (λ o. sysarg_after 0x0B f.silicon b.memory) (λ o z. rw arg) λ _ _ e₂ _ st₂.
      next _ same _ e₂ st₂

  -- step 4
  first-leg : (y : Entry) → Leg f y (privileged i.geometry 4 Keep) (halt false (Blank f)) (halt false (Wrote f 0))
  unfolding privileged read with_moves judge
  first-leg y = record {
    along = λ n x k later κ e b p st next.
        sum-reaches 4 Keep p.opened (f.safe_open p.opened.right _ p.level) (split (call i.geometry 4 0x0B sum_word) (read 4 (sysarg_of i.geometry) Keep) later κ st) λ b' same n' e' st'.
        next (sysarg_after 0x0B f.silicon b.memory) b' (subst (Wrote f 0 _) (sym same) (wrote k b p)) (suc n') _ e' st';
  }
    where
      wrote : (k : ℕ) (b : Target) → Blank f k (core b) → Wrote f 0 (sysarg_after 0x0B f.silicon b.memory) (core b)
      wrote k b p = record {
        opened = p.opened;
        sized = p.sized;
        done = rw (zero-mul (row_bytes_of i.geometry));
        level = p.level;
        kept = rw (low-28 f.silicon b.memory, p.erased) (omega arith);
      }

  -- what follows each step
  abbrev after8 : List Move
  after8 = read 8 (level_at i.geometry) StoredLevel ++ privileged i.geometry 9 LastSum

  abbrev after6 : List Move
  after6 = in_turn (λ k. lock_and_verify i (macro_down i.geometry k)) 0 (macros_of i.geometry) ++ after8

  abbrev after5 : List Move
  after5 = in_turn (verify_row i.geometry) 0 (rows_of i.geometry) ++ after6

  abbrev after4 : List Move
  after4 = in_turn (program_row i) 0 (rows_of i.geometry) ++ after5

  -- the locks are still to come
  unlocked : {k : ℕ} {c : Core} → Wrote f (rows_of i.geometry) k c → Locked f (macros_of i.geometry) k c
  unlocked {c = c} w = record {
    opened = w.opened;
    flash = wrote-all v w;
    sized = w.sized;
    done = none-locked i c.memory.locks fx v w.sized.locks;
    level = w.level ∙ sym (first-level i (macros_of i.geometry) fx.any);
    kept = w.kept;
  }

  -- step 9
  last-reaches : {y : Entry} {n x k : ℕ} {e : Env} {b : Target} → Locked f 0 k (core b)
      → OnPlanFor f (position y n) (privileged i.geometry 9 LastSum) [] nothing e → Reaches f true (sync (position y n) (tally 0 0 k) b (idle_at x) e)
  unfolding privileged read with_moves judge nothing
  last-reaches {k = k} {b = b} p st =
      sum-reaches 9 LastSum {κ = nothing} p.opened (f.safe_sealed p.opened.right true b.memory (all_held p))
      (split (call i.geometry 9 0x0B sum_word) (read 9 (sysarg_of i.geometry) LastSum) [] nothing st) λ b' same n' e' st'.
      rw (sums-fit i f.silicon b.memory k p.kept p.flash v.sum) (
      here (f.finished b' e'.lists (idle_at (sysarg_of i.geometry)) e'.delays e'.traffic p.opened.right (ap (λ (c : Core). c.running) same ∙ p.opened.quiet) (holds-image b' same) (omega (arith, st'.accounted)) (λ still. (st'.calm still).none)))
    where
      holds-image : (b' : Target) → core b' ≡ core b → HoldsImage i b'.memory
      holds-image b' same =
          let m : b'.memory ≡ b.memory = ap (λ (c : Core). c.memory) same in
          rw m (all_held p)

  pub program-reaches : {y : Entry} {n x k : ℕ} {e : Env} {b : Target} → Blank f k (core b) → OnPlanFor f (position y n) (program i) [] nothing e
      → Reaches f false (sync (position y n) (tally 0 0 k) b (idle_at x) e)
  unfolding program
  program-reaches {y} blank st =
      (first-leg y).along _ _ _ _ _ _ _ blank (split (privileged i.geometry 4 Keep) after4 [] nothing st) λ k₁ b₁ w₁ n₁ x₁ e₁ st₁.
      (rows-leg f fx v y).along _ _ _ _ _ _ _ w₁ (split (in_turn (program_row i) 0 (rows_of i.geometry)) after5 [] nothing st₁) λ k₂ b₂ w₂ n₂ x₂ e₂ st₂.
      (flash-leg f y fx v).along _ _ _ _ _ _ _ w₂ (split (in_turn (verify_row i.geometry) 0 (rows_of i.geometry)) after6 [] nothing st₂) λ k₃ b₃ w₃ n₃ x₃ e₃ st₃.
      (macros-leg f y fx v).along _ _ _ _ _ _ _ (unlocked w₃) (split (in_turn (λ k. lock_and_verify i (macro_down i.geometry k)) 0 (macros_of i.geometry)) after8 [] nothing st₃) λ k₅ b₅ w₅ n₅ x₅ e₅ st₅.
      (level-leg f y fx v).along _ _ _ _ _ _ _ w₅ (split (read 8 (level_at i.geometry) StoredLevel) (privileged i.geometry 9 LastSum) [] nothing st₅) λ k₆ b₆ w₆ n₆ x₆ e₆ st₆.
      last-reaches w₆ st₆
