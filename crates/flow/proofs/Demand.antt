-- Demand 3 on the definitions. Assumes nothing.
use mathlib.Core.Bool.{Bool, true, false, false≢true, ◌&&◌}
use mathlib.Core.List.{List}
use mathlib.Core.Logic.{◌⊎◌, inl, inr, ◌↔◌}
use mathlib.Core.Path.{◌≡◌, refl, ap, sym, subst, ◌∙◌}
use Prim.Native.Nat.{ℕ, zero, suc, ◌+◌, ◌≤◌}
use native.Mathlib.Omega.{arith}
use lib.Dec.{eqb}
use borrow.Author.Tests.{eq-eqb, eqb-true}
use Rattle.flow.specs.Claim.{RunDemand3, RunDemand3Holds}
use Rattle.flow.specs.Terms.{Passes, Startable, RightPart, NoError, Calm, entry_of}
use Rattle.flow.specs.Monitor.{Monitor, link_error}
use Rattle.flow.specs.Plan.{Traffic, plan, most_traffic}
use Rattle.flow.specs.Run.{Run, advance_by, advance, run_after, started, handed_out_by, handed_out}
use Rattle.flow.specs.Session.{SessionState, running, reported, move_at}
use Rattle.flow.specs.Target.{Target, Lists}
use Rattle.flow.specs.declared.Silicon.{Silicon}
use Rattle.flow.proofs.Counting.{total, one_more}
use Rattle.flow.proofs.Entering.{Goes, by_open, by_protected, start-reaches}
use Rattle.flow.proofs.Frames.{Sound, not-virgin, Held, Why, mishap, other_id, other_part, Stopped, Finished, frame, start-on-plan}
use Rattle.flow.proofs.Phases.{table-facts, valid, Level, is_open, is_protected}
use Rattle.flow.proofs.Reaches.{right_silicon, RightIds, Frame, Lasting, at_rest, Bounded, going, Course, arrived, stopped, onward}
use Rattle.parts.proofs.Table.{both}
use Rattle.image.specs.Checks.{metadata_at}
use Rattle.image.specs.Image.{Image, image_of}
use Rattle.image.specs.declared.Header.{Header}
use Rattle.parts.specs.declared.Geometry.{Geometry}
use Rattle.parts.specs.Parts.{low_fits}

-- ---- the right part, as tests and as a record

pub right-part : (i : Image) (x : Silicon) → RightIds i x → RightPart i x
unfolding right_silicon
right-part i x r =
    let s = both (eqb x.high (metadata_at i.header 2) && eqb x.family (metadata_at i.header 5)) (low_fits i.geometry.part x.low) r.silicon in
    let t = both (eqb x.high (metadata_at i.header 2)) (eqb x.family (metadata_at i.header 5)) s.0 in
    record { idcode = eqb-true _ _ r.idcode; high = eqb-true _ _ t.0; family = eqb-true _ _ t.1; low = s.1 }

pub right-ids : (i : Image) (x : Silicon) → RightPart i x → RightIds i x
unfolding right_silicon
right-ids i x r = record {
  idcode = eq-eqb x.idcode 0x0BB11477 r.idcode;
  silicon = rw (eq-eqb x.high (metadata_at i.header 2) r.high, eq-eqb x.family (metadata_at i.header 5) r.family, r.low);
}

-- ---- one request at a time

module _ (i : Image) where
  -- what stood is then met
  pub met-traffic : (r : Run) → going r.session ≡ true → (advance i r).traffic ≡ handed_out i r
  unfolding advance
  met-traffic r = by r.session
    where
      by : (s : SessionState) → going s ≡ true → (advance_by i s r).traffic ≡ handed_out_by i s r.traffic
      by (running o c h) e = refl
      by (reported x s h) e = absurd (false≢true e)

  stands_one : (s : SessionState) (t : Traffic) → going s ≡ true → total (handed_out_by i s t) ≡ suc (total t)
  stands_one (running o c h) t e = one_more (move_at i o).request t
  stands_one (reported x s h) t e = absurd (false≢true e)

  stands-none : (s : SessionState) (t : Traffic) → going s ≡ false → handed_out_by i s t ≡ t
  stands-none (running o c h) t e = absurd (false≢true (sym e))
  stands-none (reported x s h) t e = refl

  -- after the report nothing changes
  advance-ended : (r : Run) → going r.session ≡ false → advance i r ≡ r
  unfolding advance
  advance-ended r = by r.session
    where
      by : (s : SessionState) → going s ≡ false → advance_by i s r ≡ r
      by (running o c h) e = absurd (false≢true (sym e))
      by (reported x s h) e = refl

  pub stays : (n : ℕ) (r : Run) → going r.session ≡ false → run_after i n r ≡ r
  unfolding run_after
  stays zero r e = refl
  stays (suc n) r e = rw (advance-ended r e) (stays n r e)

-- ---- from Course to every number of steps

module _ (i : Image) (lv : Level i.header.level) (b : Target) (l : Lists) where
  abbrev ours : Frame i
  ours = frame i lv b l

  -- what is held is sound
  soundly : {z : Bool} (b' : Target) → Lasting (Held i z) b' → Lasting Sound b'
  soundly b' s = record { now = s.now.0; cut = λ r. (s.cut r).0 }

  -- on the way, done, or stopped for a reason
  data Fair (r : Run) : Type 0 where
    on_way : going r.session ≡ true → Lasting Sound r.target → NoError r.monitor → Fair r
    done : Finished i b l r → Fair r
    ended : {z : Bool} → Stopped i b.silicon l z r → Fair r

  pub finished-ends : {r : Run} → Finished i b l r → going r.session ≡ false
  finished-ends g = ap going g.is

  pub stopped-ends : {z : Bool} {r : Run} → Stopped i b.silicon l z r → going r.session ≡ false
  stopped-ends s = ap going s.is

  fair : (n : ℕ) {z : Bool} (r : Run) → Course ours z r → Fair (run_after i n r)
  unfolding run_after frame
  fair n r (arrived g) = rw (stays i n r (finished-ends g.1)) (done g.1)
  fair n r (stopped s) = rw (stays i n r (stopped-ends s)) (ended s)
  fair zero r (onward w turn more) = on_way w.goes (soundly r.target w.safe) w.clear
  fair (suc n) r (onward w turn more) = fair n (advance i r) more

  bounded : (n : ℕ) {z : Bool} (r : Run) → Course ours z r → (going r.session ≡ false → Bounded ours r.traffic) → Bounded ours (handed_out i (run_after i n r))
  unfolding run_after frame
  bounded n r (arrived g) h = let e = finished-ends g.1 in rw (stays i n r e, stands-none i r.session r.traffic e) (h e)
  bounded n r (stopped s) h = let e = stopped-ends s in rw (stays i n r e, stands-none i r.session r.traffic e) (h e)
  bounded zero r (onward w turn more) h = w.most
  bounded (suc n) r (onward w turn more) h = bounded n (advance i r) more (λ _. rw (met-traffic i r w.goes) w.most)

  comes : (n : ℕ) {z : Bool} (r : Run) → Course ours z r → total ours.most ≤ n + total r.traffic → going (run_after i n r).session ≡ false
  unfolding run_after frame
  comes n r (arrived g) h = rw (stays i n r (finished-ends g.1)) (finished-ends g.1)
  comes n r (stopped s) h = rw (stays i n r (stopped-ends s)) (stopped-ends s)
  comes zero r (onward w turn more) h =
      absurd (omega (arith, stands_one i r.session r.traffic w.goes, w.most.transfers, w.most.xresets, w.most.line_resets))
  comes (suc n) r (onward w turn more) h =
      comes n (advance i r) more (omega (arith, ap total (met-traffic i r w.goes), stands_one i r.session r.traffic w.goes))

  -- a reported session, taken apart
  as-report : (s : SessionState) → going s ≡ false → record { number : ℕ; step : ℕ; sent : ℕ; is : s ≡ reported number step sent }
  as-report (running o c h) e = absurd (false≢true (sym e))
  as-report (reported x s h) e = record { number = x; step = s; sent = h; is = refl }

  not_going : (s : SessionState) (x t h : ℕ) → s ≡ reported x t h → going s ≡ true → ⊥
  not_going s x t h e g = false≢true (sym (ap going e) ∙ g)

  -- why it has no reason to stop
  no-reason : (x : ℕ) (m : Monitor) → Why i b.silicon l x m → RightPart i b.silicon → NoError m → ⊥
  no-reason x m (mishap n some bad) right none = none n refl
  no-reason x m (other_id c e) right none = false≢true (sym e ∙ (right-ids i b.silicon right).idcode)
  no-reason x m (other_part c e) right none = false≢true (sym e ∙ (right-ids i b.silicon right).silicon)

  no-calm-reason : (x : ℕ) (m : Monitor) → Why i b.silicon l x m → RightPart i b.silicon → Calm l → ⊥
  no-calm-reason x m (mishap n some bad) right calm = bad calm
  no-calm-reason x m (other_id c e) right calm = false≢true (sym e ∙ (right-ids i b.silicon right).idcode)
  no-calm-reason x m (other_part c e) right calm = false≢true (sym e ∙ (right-ids i b.silicon right).silicon)

  pub not-zero : (x : ℕ) (m : Monitor) → Why i b.silicon l x m → x ≡ 0 → ⊥
  not-zero x m (mishap n some bad) e = omega arith
  not-zero x m (other_id c h) e = omega arith
  not-zero x m (other_part c h) e = omega arith

  quiet-reason : (x : ℕ) (m : Monitor) → Why i b.silicon l x m → Calm l → NoError m
  quiet-reason x m (mishap n some bad) calm = absurd (bad calm)
  quiet-reason x m (other_id c e) calm = c
  quiet-reason x m (other_part c e) calm = c

  the_number : (x : ℕ) (m : Monitor) → Why i b.silicon l x m → (m ≡ link_error x) ⊎ ((¬ RightPart i b.silicon) × ((x ≡ 16) ⊎ (x ≡ 20)))
  the_number x m (mishap n some bad) = inl refl
  the_number x m (other_id c e) = inr ((λ right. false≢true (sym e ∙ (right-ids i b.silicon right).idcode)), inl refl)
  the_number x m (other_part c e) = inr ((λ right. false≢true (sym e ∙ (right-ids i b.silicon right).silicon)), inr refl)

  -- ---- the claim of a run that is fair

  same_number : (x t h x' t' h' : ℕ) → reported x t h ≡ reported x' t' h' → x ≡ x'
  same_number x t h x' t' h' e = cc

  same_step : (x t h x' t' h' : ℕ) → reported x t h ≡ reported x' t' h' → t ≡ t'
  same_step x t h x' t' h' e = cc

  same_sent : (x t h x' t' h' : ℕ) → reported x t h ≡ reported x' t' h' → h ≡ h'
  same_sent x t h x' t' h' e = cc

  sound-of : {r : Run} → Fair r → Lasting Sound r.target
  sound-of (on_way g safe clean) = safe
  sound-of {r} (done d) = at_rest Sound r.target d.quiet (subst Level (sym d.holds-image.level) lv)
  sound-of {r} (ended s) = soundly r.target s.sound

  provoked-of : {r : Run} → Fair r → Calm l → NoError r.monitor
  provoked-of (on_way g safe clean) calm = clean
  provoked-of (done d) calm = d.clean
  provoked-of {r} (ended s) calm = quiet-reason s.number r.monitor s.why calm

  -- what a report is
  data Report (r : Run) (x t h : ℕ) : Type 0 where
    is_done : x ≡ 0 → t ≡ 9 → h ≡ r.traffic.transfers → Finished i b l r → Report r x t h
    is_stopped : h ≡ r.traffic.transfers → Why i b.silicon l x r.monitor → Report r x t h

  report-of : {r : Run} (x t h : ℕ) → Fair r → r.session ≡ reported x t h → Report r x t h
  report-of {r} x t h (on_way g safe clean) e = absurd (not_going r.session x t h e g)
  report-of {r} x t h (done d) e =
      let z : reported x t h ≡ reported 0 9 r.traffic.transfers = sym e ∙ d.is in
      is_done (same_number x t h _ _ _ z) (same_step x t h _ _ _ z) (same_sent x t h _ _ _ z) d
  report-of {r} x t h (ended s) e =
      let z : reported x t h ≡ reported s.number s.step r.traffic.transfers = sym e ∙ s.is in
      is_stopped (same_sent x t h _ _ _ z) (rw (same_number x t h _ _ _ z) s.why)

  exactly-of : {r : Run} {x t h : ℕ} → Report r x t h → (x ≡ 0) ↔ (RightPart i b.silicon × NoError r.monitor)
  exactly-of (is_done e e' e'' d) = ((λ _. (right-part i b.silicon d.right, d.clean)), (λ _. e))
  exactly-of {r} {x} (is_stopped e w) = ((λ z. absurd (not-zero x r.monitor w z)), (λ g. absurd (no-reason x r.monitor w g.0 g.1)))

  number-of : {r : Run} {x t h : ℕ} → Report r x t h
      → (x ≡ 0) ⊎ ((r.monitor ≡ link_error x) ⊎ ((¬ RightPart i b.silicon) × ((x ≡ 16) ⊎ (x ≡ 20))))
  number-of (is_done e e' e'' d) = inl e
  number-of {r} {x} (is_stopped e w) = inr (the_number x r.monitor w)

  calm_of : {r : Run} {x t h : ℕ} → Report r x t h → Calm l → RightPart i b.silicon → (x ≡ 0) × (h ≡ plan i.geometry (entry_of b))
  calm_of (is_done e e' e'' d) calm right = (e, omega (arith, d.count, d.calm calm))
  calm_of {r} {x} (is_stopped e w) calm right = absurd (no-calm-reason x r.monitor w right calm)

  sent-of : {r : Run} {x t h : ℕ} → r.session ≡ reported x t h → Report r x t h → h ≡ (handed_out i r).transfers
  sent-of {r} s (is_done e e' e'' d) = e'' ∙ ap (λ (z : Traffic). z.transfers) (sym (stands-none i r.session r.traffic (ap going s)))
  sent-of {r} s (is_stopped e w) = e ∙ ap (λ (z : Traffic). z.transfers) (sym (stands-none i r.session r.traffic (ap going s)))

  done-of : {r : Run} {t h : ℕ} → Report r 0 t h → (t ≡ 9) × (h ≡ r.traffic.transfers) × Finished i b l r
  done-of (is_done e e' e'' d) = (e', e'', d)
  done-of {r} (is_stopped e w) = absurd (not-zero 0 r.monitor w refl)

  claim : (n : ℕ) (r : Run) → Fair r → Bounded ours (handed_out i r)
      → (total (most_traffic i.geometry (entry_of b)) ≤ n → going r.session ≡ false) → RunDemand3 i b l n r
  unfolding frame
  claim n r f most late = record {
    never_virgin = not-virgin (sound-of f).now;
    transfers = most.transfers;
    xresets = most.xresets;
    line_resets = most.line_resets;
    comes = λ h. as-report r.session (late h);
    counted = λ x t h e. sent-of e (report-of x t h f e);
    exactly = λ x t h e. exactly-of (report-of x t h f e);
    number = λ x t h e. number-of (report-of x t h f e);
    done = λ t h e.
        let d = done-of (report-of 0 t h f e) in
        record {
          at_end = d.0;
          flash = d.2.holds-image.flash;
          locks = d.2.holds-image.locks;
          level = d.2.holds-image.level;
          planned = d.1 ∙ d.2.count;
        };
    provoked = provoked-of f;
    calm = λ c right x t h e. calm_of (report-of x t h f e) c right;
  }

-- ---- the start

pub goes : (b : Target) → (b.memory.stored ≡ 1) ⊎ (b.memory.stored ≡ 2) → Goes b.memory (entry_of b)
goes b (inl e) = rw e (by_open refl)
goes b (inr e) = rw e (by_protected refl)

level-sound : (b : Target) → (b.memory.stored ≡ 1) ⊎ (b.memory.stored ≡ 2) → Sound b.memory
level-sound b (inl e) = subst Level (sym e) is_open
level-sound b (inr e) = subst Level (sym e) is_protected

-- from the start on, for an image that passes and a target that may start
module _ (g : Geometry) (h : Header) (bytes : List ℕ) (p : Passes g h bytes) (b : Target) (s : Startable g b) (l : Lists) where
  abbrev i : Image
  i = image_of g h bytes

  abbrev lv : Level h.level
  lv = (valid g h bytes p).level

  pub way : Course (frame i lv b l) false (started b l)
  unfolding frame
  way =
      (start-reaches (frame i lv b l) (table-facts g h bytes p) (valid g h bytes p) (record { high = s.high; low = s.low; revision = s.revision; family = s.family }) b.memory
      (record { flash = s.flash; locks = s.locks; latch = s.latch }) (level-sound b s.level, (λ q. absurd (false≢true q))) (goes b s.level)
      (record { silicon = refl; memory = refl; room = s.params; quiet = s.quiet }) (start-on-plan i (table-facts g h bytes p) (frame i lv b l) b l refl refl (λ c. c))).course

  fair-after : (n : ℕ) → Fair i lv b l (run_after i n (started b l))
  fair-after n = fair i lv b l n (started b l) way

-- demand 3 of every image that passes, every target that may start, both free lists, every number of steps
pub run-demand3-holds : RunDemand3Holds
unfolding frame
run-demand3-holds g h bytes p b s l n =
    let i = image_of g h bytes in
    let lv = (valid g h bytes p).level in
    let w = way g h bytes p b s l in
    claim i lv b l n (run_after i n (started b l)) (fair-after g h bytes p b s l n) (bounded i lv b l n (started b l) w (λ e. absurd (false≢true (sym e))))
    (λ late. comes i lv b l n (started b l) w (omega arith))

-- at every step the stored level is OPEN, PROTECTED or KILL, and so is what a cut would leave
pub run_sound : (g : Geometry) (h : Header) (bytes : List ℕ) → Passes g h bytes → (b : Target) → Startable g b → (l : Lists) (n : ℕ)
    → Lasting Sound (run_after (image_of g h bytes) n (started b l)).target
run_sound g h bytes p b s l n = sound-of (image_of g h bytes) (valid g h bytes p).level b l (fair-after g h bytes p b s l n)
