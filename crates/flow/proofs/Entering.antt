-- Step 3 by both entries, and the whole way from the start. Assumes nothing.
use mathlib.Core.Bool.{Bool, true, false, ◌&&◌, cond}
use mathlib.Core.List.{List, [], ◌∷◌, ◌++◌, append-nil}
use mathlib.Core.Logic.{inl, inr}
use mathlib.Core.Path.{◌≡◌, refl, ap, sym, subst, ◌∙◌}
use Prim.Native.Nat.{ℕ, suc, ◌+◌, ◌-◌, ◌≤◌, ◌<◌}
use native.Mathlib.Omega.{arith}
use lib.Dec.{eqb}
use lib.ListN.{length, drop, length-append, length-drop, length-replicate}
use lib.Seq.{drop_at}
use borrow.Author.Tests.{eq-eqb}
use Rattle.flow.specs.Calls.{finish, effect_of, after_failure, zeroed, macro_sent, sysarg_after}
use Rattle.flow.specs.Judge.{entry_by, judge}
use Rattle.flow.specs.Monitor.{no_waits, watching}
use Rattle.flow.specs.Sequence.{key, write, writes, read, call, listed, acquire, silicon, program, opening, afterwards, sequence}
use Rattle.flow.specs.Session.{position}
use Rattle.flow.specs.Target.{Target, Memory, Residue}
use Rattle.flow.specs.declared.Entry.{Entry}
use Rattle.flow.specs.declared.Entry.TheVariants.{FromOpen, FromProtected}
use Rattle.flow.specs.declared.Move.{Move}
use Rattle.flow.specs.declared.Next.TheVariants.{Stop}
use Rattle.flow.specs.declared.Purpose.TheVariants.{Keep, EntryLevel, Reopened}
use Rattle.flow.proofs.Access.{Answering}
use Rattle.flow.proofs.Acquiring.{Fresh, Acquired, acquired-with, acquire-leg, Bytes, ids-read, level-read, silicon-reaches}
use Rattle.flow.proofs.Calling.{Returned, unlocking, calling}
use Rattle.flow.proofs.Finishing.{Blank, nothing, program-reaches}
use Rattle.flow.proofs.Legs.{Core, core}
use Rattle.flow.proofs.Listing.{listing}
use Rattle.flow.proofs.Lists.{total-zero}
use Rattle.flow.proofs.Phases.{Valid, Opened, Sized, plain-call, call_d}
use Rattle.flow.proofs.Polling.{idle_at}
use Rattle.flow.proofs.Reaches.{with_moves, Env, sync, right_silicon, RightIds, Frame, at_rest, OnPlan, OnPlanFor, at_place, split, Reaches, stop, tally, seen, after}
use Rattle.flow.proofs.Table.{Facts}
use Rattle.image.specs.Image.{Image}
use Rattle.parts.specs.Sizes.{sysarg_of, sysreq_of}
use Rattle.parts.specs.declared.Geometry.{Geometry}

effect-A : (g : Geometry) (l a : ℕ) (ps : List ℕ) (m : Memory) → effect_of g 0x0A l a ps m ≡ zeroed m.stored m
unfolding effect_of
effect-A g l a ps m = refl

-- the word that reopens a PROTECTED target
abbrev pub reopen_word : ℕ
reopen_word = key 0x0D + 0x10000

effect-reopen : (g : Geometry) (l : ℕ) (ps : List ℕ) (m : Memory) → l ≡ 2 → effect_of g 0x0D l reopen_word ps m ≡ zeroed 1 m
unfolding effect_of
effect-reopen g l ps m e = rw e

safe-reopen : {i : Image} (f : Frame i) → RightIds i f.silicon → (y : Bool) (r : Residue) (b : Target) → b.effect ≡ 2 → b.sysarg ≡ reopen_word → f.Safe false b.memory
    → f.Safe false (finish i.geometry y r 0x0D b).memory
unfolding finish after_failure
safe-reopen {i} f right true r b he ha safe = rw (ha, effect-reopen i.geometry b.effect [] b.memory he) (f.safe_open right _ refl)
safe-reopen f right false r b he ha safe = by (r.new_level && true && eqb (macro_sent b.sysarg) 0) refl
  where
    by : (y : Bool) → r.new_level && true && eqb (macro_sent b.sysarg) 0 ≡ y → f.Safe false (after_failure 0x0D b.sysarg r b.memory)
    by true e = f.safe_open right _ (rw (e, ha))
    by false e = f.safe_same right b.memory _ (rw e) safe

zeroed-sized : {i : Image} {f : Frame i} (l : ℕ) (m : Memory) → Sized f m → Sized f (zeroed l m)
zeroed-sized l m s = record {
  flash = length-replicate (length m.flash) 0 ∙ s.flash;
  locks = length-replicate (length m.locks) 0 ∙ s.locks;
  latch = s.latch;
}

-- where the level leads to
pub data Goes (m : Memory) : Entry → Type 0 where
  by_open : m.stored ≡ 1 → Goes m FromOpen
  by_protected : m.stored ≡ 2 → Goes m FromProtected

pub answering-of : {m : Memory} {y : Entry} → Goes m y → Answering m.stored
answering-of (by_open e) = inl e
answering-of (by_protected e) = inr e

-- the end of the opening is where either entry goes on
pub seam : (a b c : List Move) (n : ℕ) → drop n (a ++ b) ≡ b → 1 ≤ length b → drop n (a ++ c) ≡ c
seam a b c n e some =
    let h : length (a ++ b) - n ≡ length b = sym (length-drop n (a ++ b)) ∙ ap length e in
    let k : length a ≡ n = omega (arith, length-append a b) in
    drop_at a c n k

pub some-moves : (i : Image) → 1 ≤ length (afterwards i FromOpen)
unfolding afterwards listed writes write
some-moves i = omega arith

module _ {i : Image} (f : Frame i) (fx : Facts i.geometry) (v : Valid i) (hb : Bytes f.silicon) (m : Memory) (sz : Sized f m) (safe : f.Safe false m) where
  -- erased, and OPEN in effect
  blank : {k : ℕ} (c : Core) → Opened f c → c.memory ≡ zeroed 1 m → Blank f k c
  blank c o e = record { opened = o; sized = rw e (zeroed-sized 1 m sz); level = ap (λ (z : Memory). z.stored) e; erased = rw e (total-zero (length m.flash)) }

  -- OPEN: erase, then steps 4 to 9
  open-reaches : {n x k : ℕ} {e : Env} {b : Target} → RightIds i f.silicon → m.stored ≡ 1 → Acquired f m k (core b) → OnPlanFor f (position FromOpen n) (afterwards i FromOpen) [] nothing e
      → Reaches f false (sync (position FromOpen n) (tally 0 0 k) b (idle_at x) e)
  unfolding afterwards
  open-reaches {b = b} right one p st =
      listing f fx 3 0x0A (key 0x0A ∷ []) (plain-call 0x0A (omega arith) refl refl) refl (omega arith) (split (listed i.geometry 3 0x0A (key 0x0A ∷ [])) (program i) [] nothing st)
      (record { right = right; silicon = p.fresh.silicon; effect = p.effect ∙ one; room = p.fresh.room; quiet = p.fresh.quiet }) (rw p.fresh.memory one) λ b₁ r₁ n₁ e₁ st₁.
      program-reaches f fx v (blank (core b₁) r₁.opened (r₁.memory ∙ effect-A _ _ _ _ _ ∙ rw (p.fresh.memory, one))) st₁

  -- PROTECTED: reopen, steps 1 and 2 again, then 4 to 9
  protected-reaches : {n x k : ℕ} {e : Env} {b : Target} → RightIds i f.silicon → m.stored ≡ 2 → Acquired f m k (core b)
      → OnPlanFor f (position FromProtected n) (afterwards i FromProtected) [] nothing e → Reaches f false (sync (position FromProtected n) (tally 0 0 k) b (idle_at x) e)
  unfolding afterwards silicon read with_moves judge
  protected-reaches {b = b} right two p st =
      calling f fx 3 0x0D reopen_word call_d.command (split (call i.geometry 3 0x0D reopen_word) (acquire i.geometry ++ (silicon i.geometry Reopened ++ program i)) [] nothing st)
      (inr (p.effect ∙ two)) p.fresh.quiet (rw p.fresh.memory safe) (λ r. safe-reopen f right true r _ (p.effect ∙ two) refl (rw p.fresh.memory safe)) (λ r. safe-reopen f right false r _ (p.effect ∙ two) refl (rw p.fresh.memory safe)) (unlocking (rw (p.effect, two)) refl) (call_d.ready _ _) (call_d.good _ _) λ b₁ ret n₁ e₁ st₁.
      (acquire-leg f fx FromProtected (zeroed 1 m) (inl refl) (f.safe_open right _ refl)).along _ _ _ _ _ _ _ (fresh b₁ ret)
      (split (acquire i.geometry) (silicon i.geometry Reopened ++ program i) [] nothing st₁) λ k₂ b₂ a₂ n₂ x₂ e₂ st₂.
      silicon-reaches f fx (zeroed 1 m) (inl refl) (f.safe_open right _ refl) hb (omega arith) Reopened a₂
      (split (call i.geometry 2 0 (key 0)) (read 2 (sysarg_of i.geometry) Keep ++ read 2 (sysreq_of i.geometry) Reopened) (program i ++ []) (with_moves (program i) nothing)
      (split (silicon i.geometry Reopened) (program i) [] nothing st₂)) λ b₃ same n₃ e₃ st₃.
      rw (ids-read i f.silicon (zeroed 1 m) 1 hb, right.silicon, level-read f.silicon 1 hb (omega arith)) (
      program-reaches f fx v (subst (Blank f _) (sym same) (
      blank (core b₂) (record { right = right; silicon = a₂.fresh.silicon; effect = a₂.effect; room = a₂.fresh.room; quiet = a₂.fresh.quiet }) a₂.fresh.memory)) st₃)
    where
      erased : (b₁ : Target) → Returned i.geometry 0x0D reopen_word b b₁ → b₁.memory ≡ zeroed 1 m
      erased b₁ ret = ret.memory ∙ effect-reopen _ _ _ _ (p.effect ∙ two) ∙ rw p.fresh.memory

      fresh : (b₁ : Target) → Returned i.geometry 0x0D reopen_word b b₁ → {k : ℕ} → Fresh f (zeroed 1 m) k (core b₁)
      fresh b₁ ret = record { silicon = ret.silicon ∙ p.fresh.silicon; memory = erased b₁ ret; room = rw ret.params p.fresh.room; quiet = ret.ended }

  -- the entry that the level decides, or another part
  decided : {y : Entry} → Goes m y → (z : Bool) → right_silicon i f.silicon ≡ z → (k : ℕ) {k₁ n : ℕ} {e : Env} {b : Target} → Acquired f m k₁ (core b)
      → OnPlan f FromOpen (suc n) (afterwards i FromOpen) (with_moves (afterwards i y) nothing) e
      → Reaches f false (after (cond z (entry_by m.stored (tally 0 0 k)) (Stop 20)) (position FromOpen n) 2 b (watching (seen no_waits 0 0 (idle_at (sysreq_of i.geometry)) e.delays)) e)
  unfolding sequence
  decided goes false h k {b = b} p st = stop {z = false} (f.wrong_part 2 b _ _ _ (at_rest (f.Safe false) b p.fresh.quiet (rw p.fresh.memory safe)) h)
  decided (by_open one) true h k p st =
      rw (eq-eqb m.stored 1 one) (
      open-reaches (record { idcode = p.idcode; silicon = h }) one (acquired-with p)
      (at_place st (st.at ∙ sym (append-nil (afterwards i FromOpen)))))
  decided (by_protected two) true h k {n = n} p st =
      rw two (
      protected-reaches (record { idcode = p.idcode; silicon = h }) two (acquired-with p)
      (at_place st (seam (opening i) (afterwards i FromOpen) (afterwards i FromProtected) (suc n) st.at (some-moves i) ∙ sym (append-nil (afterwards i FromProtected)))))

  -- the whole way
  pub start-reaches : {y : Entry} → Goes m y → {e : Env} {b : Target} → Fresh f m 0 (core b)
      → OnPlanFor f (position FromOpen 0) (opening i) (afterwards i FromOpen) (with_moves (afterwards i y) nothing) e → Reaches f false (sync (position FromOpen 0) (tally 0 0 0) b (idle_at 0) e)
  unfolding opening silicon read with_moves judge
  start-reaches {y} goes p st =
      (acquire-leg f fx FromOpen m (answering-of goes) safe).along _ _ _ _ _ _ _ p
      (split (acquire i.geometry) (silicon i.geometry EntryLevel) (afterwards i FromOpen) (with_moves (afterwards i y) nothing) st) λ k₁ b₁ a₁ n₁ x₁ e₁ st₁.
      silicon-reaches f fx m (answering-of goes) safe hb (small goes) EntryLevel a₁
      (split (call i.geometry 2 0 (key 0)) (read 2 (sysarg_of i.geometry) Keep ++ read 2 (sysreq_of i.geometry) EntryLevel) (afterwards i FromOpen) (with_moves (afterwards i y) nothing) st₁) λ b₂ same n₂ e₂ st₂.
      rw (ids-read i f.silicon m m.stored hb, level-read f.silicon m.stored hb (small goes)) (
      decided goes (right_silicon i f.silicon) refl (sysarg_after 0 f.silicon m) (subst (Acquired f m k₁) (sym same) a₁) st₂)
    where
      small : {y : Entry} → Goes m y → m.stored < 16
      small (by_open e) = omega arith
      small (by_protected e) = omega arith
