-- A run of turns is a list of steps, and demand 3 says how it ends. Assumes nothing.
use mathlib.Core.Bool.{true, false, false≢true}
use mathlib.Core.List.{List}
use mathlib.Core.Path.{◌≡◌, refl, sym, ap, subst, ◌∙◌}
use Prim.Native.Nat.{ℕ, suc, ◌+◌, ◌≤◌, ◌<◌}
use native.Mathlib.Omega.{arith}
use lib.ListN.{length}
use Rattle.dry.specs.Playing.{no_lists, Moment, moment, board_at, meets, Turns, Started, report_in, DoneAsPlanned}
use Rattle.dry.proofs.Meets.{same_met}
use Rattle.flow.proofs.Undisturbed.{calm-used}
use Rattle.flow.specs.Terms.{entry_of}
use Rattle.flow.specs.Examples.{part_one}
use Rattle.flow.specs.Exchange.{Met, meet}
use Rattle.flow.specs.Plan.{plan, lock_plan, loops, most_traffic}
use Rattle.flow.specs.Target.{Target, Lists}
use Rattle.flow.specs.declared.Entry.TheVariants.{FromOpen}
use Rattle.flow.specs.declared.Packet.{Packet}
use Rattle.image.specs.Image.{image_of}
use Rattle.image.specs.declared.Header.{Header}
use Rattle.parts.specs.Sizes.{rows_of, locks_in}
use Rattle.parts.specs.declared.Geometry.{Geometry}
use Rattle.session.proofs.Demand.{demand3}
use Rattle.session.proofs.Possibility.{granted}
use Rattle.session.specs.Calls.{State, Steps, none, answer, refusal, later, begun, answered, reaction, standing}
use Rattle.session.specs.Claim.{most, Demand3}
use Rattle.session.specs.Given.{start_of, step_with}
use Rattle.session.specs.Outcomes.{Given, Outcome, Refused, Ask, Reported}
use Rattle.session.specs.declared.Report.{Report}
use Rattle.session.specs.declared.Session.{Session}

-- an answer more at the end of a list of steps
snoc : {g : Geometry} {bytes : List ℕ} {n k : ℕ} {s t : State} → Steps g bytes n k s t → (p : Packet) → t.stands ≡ Ask p
    → Steps g bytes (suc n) k s (answered g p (reaction g p t) (step_with t.session bytes (reaction g p t).answer) t)
snoc none p e = answer p e none
snoc (answer q f steps) p e = answer q f (snoc steps p e)
snoc (refusal l a k f steps) p e = refusal l a k f (snoc steps p e)
snoc (later a r f steps) p e = later a r f (snoc steps p e)

-- a refusal never stands
no-refusal : (before now : Outcome) → ((n : ℕ) → ¬ (before ≡ Refused n)) → (n : ℕ) → ¬ (standing before now ≡ Refused n)
no-refusal before (Refused x) h n e = h n e
no-refusal before (Ask p) h n e = let t : false ≡ true = cc in false≢true t
no-refusal before (Reported r) h n e = let t : false ≡ true = cc in false≢true t

stands-unrefused : {g : Geometry} {bytes : List ℕ} {n k : ℕ} {s t : State} → Steps g bytes n k s t → ((x : ℕ) → ¬ (s.stands ≡ Refused x)) → (x : ℕ) → ¬ (t.stands ≡ Refused x)
stands-unrefused none h = h
stands-unrefused {g} {bytes} {s = s} (answer q f steps) h = stands-unrefused steps (no-refusal s.stands (step_with s.session bytes (reaction g q s).answer).outcome h)
stands-unrefused {s = s} (refusal l a x f steps) h = stands-unrefused steps (no-refusal s.stands (step_with s.session l a).outcome h)
stands-unrefused {bytes = bytes} {s = s} (later a r f steps) h = stands-unrefused steps (no-refusal s.stands (step_with s.session bytes a).outcome h)

-- after n answers the session, what stands and the board are these, the lists at their end
pub record PlayedTo (h : Header) (bytes : List ℕ) (b₀ : Target) (n : ℕ) (m : Moment) : Type 0 where
  pub state : State
  pub steps : Steps part_one bytes n 0 (begun (start_of h bytes true) b₀ no_lists) state
  pub session : state.session ≡ m.session
  pub stands : state.stands ≡ m.stands
  pub target : state.target ≡ board_at m
  pub lists : state.lists ≡ no_lists

module _ (bytes : List ℕ) (m₀ : Moment) (w : Started bytes m₀) where
  abbrev At : ℕ → Moment → Type 0
  At n m = PlayedTo w.header bytes (board_at m₀) n m

  pub at-start : At 0 m₀
  at-start = record {
    state = begun (start_of w.header bytes true) (board_at m₀) no_lists;
    steps = none;
    session = sym w.session;
    stands = sym w.stands;
    target = refl;
    lists = refl;
  }

  module _ (n : ℕ) (m : Moment) (v : At n m) where
    pub turned : (p : Packet) (m' : Moment) → m.stands ≡ Ask p → Turns part_one bytes p m m' → At (suc n) m'
    turned p m' e u =
        let x = v.state in
        let asked = v.stands ∙ e in
        let r : reaction part_one p x ≡ meets part_one p m = ap (λ (l : Lists). meet part_one p l x.target) v.lists ∙ ap (meet part_one p no_lists) v.target in
        let g : step_with x.session bytes (reaction part_one p x).answer ≡ step_with m.session bytes (meets part_one p m).answer
        = ap (λ (y : Session). step_with y bytes (reaction part_one p x).answer) v.session ∙ ap (λ (y : Met). step_with m.session bytes y.answer) r in
        record {
          state = answered part_one p (reaction part_one p x) (step_with x.session bytes (reaction part_one p x).answer) x;
          steps = snoc v.steps p asked;
          session = ap (λ (y : Given). y.session) g ∙ sym u.session;
          stands = ap (λ (y : Outcome). standing y (step_with x.session bytes (reaction part_one p x).answer).outcome) asked
              ∙ ap (λ (y : Given). standing (Ask p) y.outcome) g ∙ sym u.stands;
          target = ap (λ (y : Met). y.target) r ∙ sym u.target;
          lists = ap (λ (y : Met). y.lists) r ∙ (same_met part_one (board_at m) p).lists;
        }

    not-started : (x : ℕ) → ¬ ((start_of w.header bytes true).outcome ≡ Refused x)
    not-started = granted w.header bytes w.passes.checked

    claim : Demand3 (image_of part_one w.header bytes) (board_at m₀) no_lists n v.state
    claim = demand3 part_one w.header bytes true w.passes not-started (board_at m₀) w.startable no_lists n 0 v.state v.steps

    from-open : entry_of (board_at m₀) ≡ FromOpen
    from-open = rw w.stored refl

    pub done-planned : (x : Report) → m.stands ≡ Reported x → DoneAsPlanned x
    done-planned x e =
        let d = claim.calm (calm-used claim.used) w.right x (v.stands ∙ e) in
        record { number = d.0; transfers = d.1 ∙ ap (plan part_one) from-open }

    pub not-refused : (k : ℕ) → m.stands ≡ Refused k → ⊥
    not-refused k e = stands-unrefused v.steps not-started k (v.stands ∙ e)

    most-turns : 265637747 ≤ n
        → (most (image_of part_one w.header bytes) (board_at m₀)).transfers + (most (image_of part_one w.header bytes) (board_at m₀)).xresets
        + (most (image_of part_one w.header bytes) (board_at m₀)).line_resets ≤ n
    unfolding most_traffic plan lock_plan loops rows_of locks_in
    most-turns h = rw from-open h

    -- once so many packets were met, a report stands
    pub at-end : 265637747 ≤ n → DoneAsPlanned (report_in m.stands)
    at-end h =
        let e = claim.comes (most-turns h) in
        let f : m.stands ≡ Reported e.report = sym v.stands ∙ e.is in
        subst (λ (y : Outcome). DoneAsPlanned (report_in y)) (sym f) (done-planned e.report f)

-- what a loop of turns keeps: the buffers' lengths, and what stands after so many
pub record Playing (g : Geometry) (bytes : List ℕ) (m₀ m : Moment) (n : ℕ) : Type 0 where
  pub flash : length m.buffers.flash ≡ length m₀.buffers.flash
  pub locks : length m.buffers.locks ≡ length m₀.buffers.locks
  pub latch : length m.buffers.latch ≡ length m₀.buffers.latch
  pub params : length m.buffers.params ≡ length m₀.buffers.params
  pub few : n ≤ 265637747
  pub is : g ≡ part_one
  pub stands : (w : Started bytes m₀) → PlayedTo w.header bytes (board_at m₀) n m

module _ {g : Geometry} {bytes : List ℕ} {m₀ : Moment} where
  pub first-turn : g ≡ part_one → Playing g bytes m₀ m₀ 0
  first-turn e = record { flash = refl; locks = refl; latch = refl; params = refl; few = omega arith; is = e; stands = λ w. at-start bytes m₀ w }

  module _ {m : Moment} {n : ℕ} (v : Playing g bytes m₀ m n) where
    -- while p stands
    abbrev asking : Packet → Moment
    asking p = moment m.session (Ask p) m.registers m.buffers

    pub next-turn : {p : Packet} {m' : Moment} → n < 265637747 → m.stands ≡ Ask p → Turns g bytes p (asking p) m'
        → length m'.buffers.flash ≡ length m.buffers.flash → length m'.buffers.locks ≡ length m.buffers.locks
        → length m'.buffers.latch ≡ length m.buffers.latch → length m'.buffers.params ≡ length m.buffers.params
        → Playing g bytes m₀ m' (n + 1)
    next-turn {p} {m'} h e u f k l t = record {
      flash = f ∙ v.flash;
      locks = k ∙ v.locks;
      latch = l ∙ v.latch;
      params = t ∙ v.params;
      few = omega arith;
      is = v.is;
      stands = λ w.
          subst (λ (k : ℕ). PlayedTo w.header bytes (board_at m₀) k m') (omega arith)
          (turned bytes m₀ w n m (v.stands w) p m' e (rw (e, ← v.is) u));
    }

    module _ (w : Started bytes m₀) where
      pub report-planned : {x : Report} → m.stands ≡ Reported x → DoneAsPlanned (report_in m.stands)
      report-planned {x} e = subst (λ (y : Outcome). DoneAsPlanned (report_in y)) (sym e) (done-planned bytes m₀ w n m (v.stands w) x e)

      pub none-refused : {k : ℕ} → m.stands ≡ Refused k → DoneAsPlanned (report_in m.stands)
      none-refused {k} e = absurd (not-refused bytes m₀ w n m (v.stands w) k e)

      pub report-comes : 265637747 ≤ n → DoneAsPlanned (report_in m.stands)
      report-comes h = at-end bytes m₀ w n m (v.stands w) h
