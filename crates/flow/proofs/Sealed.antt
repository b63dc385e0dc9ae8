-- Once step 7's call for macro 0 has succeeded the board has the image, at every later step and after a cut; and in every session that says
-- done it has. Assumes nothing.
use mathlib.Core.Bool.{Bool, true, false, false≢true, cond}
use mathlib.Core.Path.{◌≡◌, refl, ap, sym, ◌∙◌}
use Prim.Native.Nat.{ℕ, zero, suc, ◌+◌}
use native.Mathlib.Omega.{arith}
use Rattle.flow.specs.Cuts.{CutTo}
use Rattle.flow.specs.Run.{Run, advance, run_after, started}
use Rattle.flow.specs.SealedRuns.{step_at, SealsAtStep7, SealedHolds, SealedWithin, DoneSealed}
use Rattle.flow.specs.Sealing.{succeeds0, seals, HoldsImage}
use Rattle.flow.specs.Session.{reported}
use Rattle.flow.specs.Target.{Target, Lists}
use Rattle.flow.proofs.Demand.{stays, finished-ends, stopped-ends, not-zero, way}
use Rattle.flow.proofs.Frames.{Held, Stopped, Finished, frame}
use Rattle.flow.proofs.Phases.{valid, Level}
use Rattle.flow.proofs.Reaches.{Frame, Lasting, at_rest, going, without, reopening, sealing, same-running, no-seal, seal-succeeds, Course, arrived, stopped, onward}
use Rattle.image.specs.Image.{Image, image_of}

module _ (i : Image) (lv : Level i.header.level) (b : Target) (l : Lists) where
  abbrev ours : Frame i
  ours = frame i lv b l

  abbrev finishes : {r : Run} → Finished i b l r → going r.session ≡ false
  finishes g = finished-ends i lv b l g

  abbrev stops : {z : Bool} {r : Run} → Stopped i b.silicon l z r → going r.session ≡ false
  stops s = stopped-ends i lv b l s

  -- in a session that has ended no call succeeds, and so none seals
  none-succeeds : (n : ℕ) (r : Run) → going r.session ≡ false → succeeds0 (run_after i n r).target (run_after i (suc n) r).target ≡ true → ⊥
  none-succeeds n r e h =
      let same : succeeds0 (run_after i n r).target (run_after i (suc n) r).target ≡ succeeds0 r.target r.target =
      ap (λ (x : Run). succeeds0 x.target (run_after i (suc n) r).target) (stays i n r e) ∙ ap (λ (x : Run). succeeds0 r.target x.target) (stays i (suc n) r e) in
      false≢true (sym (same-running r.target r.target refl) ∙ sym same ∙ h)

  none-seals : (n : ℕ) (r : Run) → going r.session ≡ false → seals (run_after i n r).target (run_after i (suc n) r).target ≡ true → ⊥
  none-seals n r e h = none-succeeds n r e (seal-succeeds (run_after i n r).target (run_after i (suc n) r).target h)

  held : {z : Bool} (b' : Target) → Lasting (Held i z) b' → z ≡ true → Lasting (HoldsImage i) b'
  held b' s q = record { now = s.now.1 q; cut = λ r. (s.cut r).1 q }

  later : (k : ℕ) {z : Bool} (r : Run) → Course ours z r → z ≡ true → Lasting (HoldsImage i) (run_after i k r).target
  unfolding run_after frame
  later k r (arrived g) q = rw (stays i k r (finishes g.1)) (at_rest (HoldsImage i) r.target g.1.quiet g.1.holds-image)
  later k r (stopped s) q = rw (stays i k r (stops s)) (held r.target s.sound q)
  later zero r (onward w turn more) q = held r.target w.safe q
  later (suc k) r (onward w (without h) more) q = later k (advance i r) more q
  later (suc k) r (onward w (reopening h at) more) q = absurd (false≢true q)
  later (suc k) r (onward w (sealing h at) more) q = later k (advance i r) more refl

  after-seal : (n k : ℕ) {z : Bool} (r : Run) → Course ours z r → seals (run_after i n r).target (run_after i (suc n) r).target ≡ true
      → Lasting (HoldsImage i) (run_after i (suc n + k) r).target
  unfolding run_after frame
  after-seal n k r (arrived g) h = absurd (none-seals n r (finishes g.1) h)
  after-seal n k r (stopped s) h = absurd (none-seals n r (stops s) h)
  after-seal zero k r (onward w (without q) more) h = absurd (false≢true (sym (no-seal r.target (advance i r).target q) ∙ h))
  after-seal zero k r (onward w (reopening q at) more) h = absurd (false≢true (sym q ∙ h))
  after-seal zero k r (onward w (sealing q at) more) h = let e : suc 0 + k ≡ suc k = omega arith in rw e (later k (advance i r) more refl)
  after-seal (suc n) k r (onward w turn more) h =
      let e : suc (suc n) + k ≡ suc (suc n + k) = omega arith in
      rw e (after-seal n k (advance i r) more h)

  -- one step sooner
  sooner : (n : ℕ) (r : Run) → SealedWithin i (advance i r) n → SealedWithin i r (suc n)
  unfolding run_after
  sooner n r w = record { before = suc w.before; within = omega (arith, w.within); seals = w.seals }

  not_done : {z : Bool} (r : Run) (t h : ℕ) → Stopped i b.silicon l z r → r.session ≡ reported 0 t h → ⊥
  not_done r t h s e = not-zero i lv b l s.number r.monitor s.why (same s.number s.step r.traffic.transfers (sym s.is ∙ e))
    where
      same : (x y w : ℕ) → reported x y w ≡ reported 0 t h → x ≡ 0
      same x y w q = cc

  on-the-way : (n : ℕ) {z : Bool} (r : Run) (t h : ℕ) → Course ours z r → z ≡ false → (run_after i n r).session ≡ reported 0 t h → SealedWithin i r n
  unfolding run_after frame
  on-the-way n r t h (arrived g) q e = absurd (false≢true (sym q ∙ g.0))
  on-the-way n r t h (stopped s) q e = absurd (not_done r t h s (sym (ap (λ (x : Run). x.session) (stays i n r (stops s))) ∙ e))
  on-the-way zero r t h (onward w turn more) q e = absurd (false≢true (sym (ap going e) ∙ w.goes))
  on-the-way (suc n) r t h (onward w (without u) more) q e = sooner n r (on-the-way n (advance i r) t h more q e)
  on-the-way (suc n) r t h (onward w (reopening u at) more) q e = sooner n r (on-the-way n (advance i r) t h more refl e)
  on-the-way (suc n) r t h (onward w (sealing u at) more) q e = record { before = 0; within = omega arith; seals = u }

  -- the step of a call for macro 0 that succeeds
  step_of : (n : ℕ) {z : Bool} (r : Run) → Course ours z r → succeeds0 (run_after i n r).target (run_after i (suc n) r).target ≡ true
      → step_at i (run_after i n r).session ≡ cond (seals (run_after i n r).target (run_after i (suc n) r).target) 7 3
  unfolding run_after frame
  step_of n r (arrived g) h = absurd (none-succeeds n r (finishes g.1) h)
  step_of n r (stopped s) h = absurd (none-succeeds n r (stops s) h)
  step_of zero r (onward w (without q) more) h = absurd (false≢true (sym q ∙ h))
  step_of zero r (onward w (reopening q at) more) h = at ∙ ap (λ (y : Bool). cond y 7 3) (sym q)
  step_of zero r (onward w (sealing q at) more) h = at ∙ ap (λ (y : Bool). cond y 7 3) (sym q)
  step_of (suc n) r (onward w turn more) h = step_of n (advance i r) more h

-- what a cut leaves is what the failed call left
through-cut : (i : Image) (b b' : Target) → Lasting (HoldsImage i) b → CutTo b b' → HoldsImage i b'.memory
through-cut i b b' k c =
    let m = k.cut c.residue in
    record { flash = c.flash ∙ m.flash; locks = c.locks ∙ m.locks; level = c.stored ∙ m.level }

-- whatever the line did before or does after, and whatever is reported
pub sealed-holds : SealedHolds
sealed-holds g h bytes p b s l n k e =
    let i = image_of g h bytes in
    let lv = (valid g h bytes p).level in
    let held : Lasting (HoldsImage i) (run_after i (suc n + k) (started b l)).target = after-seal i lv b l n k (started b l) (way g h bytes p b s l) e in
    record { now = held.now; cut = λ b' c. through-cut i _ b' held c }

-- and every session that says done was sealed on its way
pub done-sealed : DoneSealed
done-sealed g h bytes p b s l n t sent e =
    on-the-way (image_of g h bytes) (valid g h bytes p).level b l n (started b l) t sent (way g h bytes p b s l) refl e

-- a call 0x0D for macro 0 that succeeds is step 7's where it seals, and step 3's where it doesn't
pub seals-at-step-7 : SealsAtStep7
seals-at-step-7 g h bytes p b s l n e = step_of (image_of g h bytes) (valid g h bytes p).level b l n (started b l) (way g h bytes p b s l) e
