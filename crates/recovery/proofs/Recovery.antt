-- A board that was cut off may be started on again, unless KILL is stored. Assumes nothing.
use mathlib.Core.Logic.{◌⊎◌, inl, inr}
use mathlib.Core.Path.{◌≡◌, refl, sym, ap, subst, ◌∙◌}
use Prim.Native.Nat.{ℕ, ◌+◌}
use native.Mathlib.Nat.{le_refl}
use native.Mathlib.Omega.{arith}
use lib.ListN.{length}
use Rattle.flow.proofs.Demand.{run-demand3-holds, run_sound}
use Rattle.flow.proofs.Frames.{Sound}
use Rattle.flow.proofs.Keeping.{Keeps, run-keeps, cut_keeps}
use Rattle.flow.proofs.Phases.{Level, is_open, is_protected, is_kill}
use Rattle.flow.proofs.Reaches.{Lasting}
use Rattle.flow.specs.Cuts.{cut_memory, CutTo}
use Rattle.flow.specs.Plan.{most_traffic}
use Rattle.flow.specs.Run.{run_after, started}
use Rattle.flow.specs.Target.{Memory, idle, Target, Lists}
use Rattle.flow.specs.Terms.{Startable, entry_of}
use Rattle.parts.specs.declared.Geometry.{Geometry}
use Rattle.recovery.specs.Recovery.{Start, image_in, Leads, Interrupted, never, cut, CutsLeave, Killed, KillStays, Ended, RecoveryHolds}
use Rattle.recovery.proofs.Killed.{session-silent}
use Rattle.recovery.proofs.Walking.{walked}
use Rattle.session.proofs.Demand.{demand3, followed}
use Rattle.session.specs.Calls.{State}
use Rattle.session.specs.Claim.{Demand3}
use Rattle.session.specs.Given.{outcome_at}

-- ---- one cut

level-of : {n : ℕ} → Level n → ¬ (n ≡ 4) → (n ≡ 1) ⊎ (n ≡ 2)
level-of is_open h = inl refl
level-of is_protected h = inr refl
level-of is_kill h = absurd (h refl)

-- what one cut leaves: nothing runs, the level is one that an image can have, sizes and IDs stay
record Once (g : Geometry) (b₀ b : Target) : Type 0 where
  pub silicon : b.silicon ≡ b₀.silicon
  pub quiet : b.running ≡ idle
  pub sound : Sound b.memory
  pub startable : ¬ (b.memory.stored ≡ 4) → Startable g b

module _ {g : Geometry} (x : Start g) (b b' : Target) (l : Lists) (n k : ℕ) (s : State) (leads : Leads x b l n k s) (c : CutTo s.target b') where
  -- of a board that could be started on
  cut-once : Startable g b → Once g b b'
  cut-once may =
      let i = image_in x in
      let as-run : s.target ≡ (run_after i n (started b l)).target
      = (followed g x.header x.bytes x.leave x.passes x.unrefused b may l n k s leads).target in
      let kept : Keeps b s.target = subst (Keeps b) (sym as-run) (run-keeps i n (started b l)) in
      let sound : Lasting Sound s.target = subst (Lasting Sound) (sym as-run) (run_sound g x.header x.bytes x.passes b may l n) in
      let sizes = cut_keeps s.target c.residue in
      let level : Sound b'.memory = subst Level (sym c.stored) (sound.cut c.residue) in
      let same = c.silicon ∙ kept.silicon in
      record {
        silicon = same;
        quiet = c.quiet;
        sound = level;
        startable = λ no-kill. record {
          flash = ap length c.flash ∙ sizes.flash ∙ kept.memory.flash ∙ may.flash;
          locks = ap length c.locks ∙ sizes.locks ∙ kept.memory.locks ∙ may.locks;
          latch = c.latch ∙ kept.memory.latch ∙ may.latch;
          params = omega (arith, c.params, kept.params, may.params);
          high = rw same may.high;
          low = rw same may.low;
          revision = rw same may.revision;
          family = rw same may.family;
          level = level-of level no-kill;
          quiet = c.quiet;
        };
      }

  -- of a board with KILL stored
  cut-killed : b.memory.stored ≡ 4 → b.running ≡ idle → record { silicon : b'.silicon ≡ b.silicon; quiet : b'.running ≡ idle; killed : Killed b b' }
  cut-killed kill quiet =
      let same = session-silent x b kill quiet l n k s leads in
      let as-was : cut_memory s.target c.residue ≡ b.memory = rw same.quiet same.memory in
      record {
        silicon = c.silicon ∙ same.silicon;
        quiet = c.quiet;
        killed = record {
          level = c.stored ∙ ap (λ (m : Memory). m.stored) as-was ∙ kill;
          flash = c.flash ∙ ap (λ (m : Memory). m.flash) as-was;
          locks = c.locks ∙ ap (λ (m : Memory). m.locks) as-was;
        };
      }

-- ---- any number of cuts

-- demand 3 allows it, or KILL is stored
data AfterCut (g : Geometry) (b : Target) : Type 0 where
  awake : Startable g b → AfterCut g b
  dead : b.memory.stored ≡ 4 → b.running ≡ idle → AfterCut g b

after-once : (g : Geometry) (b b' : Target) → Once g b b' → AfterCut g b'
after-once g b b' o = by b'.memory.stored refl o.sound
  where
    by : (l : ℕ) → b'.memory.stored ≡ l → Level l → AfterCut g b'
    by l e is_open = awake (o.startable (λ h. omega arith))
    by l e is_protected = awake (o.startable (λ h. omega arith))
    by l e is_kill = dead e o.quiet

-- where a chain of cuts has come to
record Come (g : Geometry) (b₀ b : Target) : Type 0 where
  pub silicon : b.silicon ≡ b₀.silicon
  pub board : AfterCut g b

one_more : {g : Geometry} (b₀ b b' : Target) (x : Start g) (l : Lists) (n k : ℕ) (s : State) → Leads x b l n k s → CutTo s.target b' → Come g b₀ b → Come g b₀ b'
one_more {g} b₀ b b' x l n k s leads c come = by come.board
  where
    by : AfterCut g b → Come g b₀ b'
    by (awake may) =
        let o = cut-once x b b' l n k s leads c may in
        record { silicon = o.silicon ∙ come.silicon; board = after-once g b b' o }
    by (dead kill quiet) =
        let d = cut-killed x b b' l n k s leads c kill quiet in
        record { silicon = d.silicon ∙ come.silicon; board = dead d.killed.level d.quiet }

comes : (g : Geometry) (b₀ b : Target) → Startable g b₀ → Interrupted g b₀ b → Come g b₀ b
comes g b₀ b may never = record { silicon = refl; board = awake may }
comes g b₀ b may (cut {b = b₁} before x l n k s leads c) = one_more b₀ b₁ b x l n k s leads c (comes g b₀ b₁ may before)

pub cuts-leave : CutsLeave
cuts-leave g b₀ b may cuts =
    let c = comes g b₀ b may cuts in
    record { silicon = c.silicon; quiet = at_rest c.board; never_virgin = never-virgin c.board; startable = startable c.board }
  where
    at_rest : AfterCut g b → b.running ≡ idle
    at_rest (awake may) = may.quiet
    at_rest (dead kill quiet) = quiet

    never-virgin : AfterCut g b → b.memory.stored ≡ 0 → ⊥
    never-virgin (awake may) e = by may.level
      where
        by : (b.memory.stored ≡ 1) ⊎ (b.memory.stored ≡ 2) → ⊥
        by (inl h) = omega arith
        by (inr h) = omega arith
    never-virgin (dead kill quiet) e = omega arith

    startable : AfterCut g b → ¬ (b.memory.stored ≡ 4) → Startable g b
    startable (awake may) no-kill = may
    startable (dead kill quiet) no-kill = absurd (no-kill kill)

-- and KILL stays
pub kill-stays : KillStays
kill-stays g b₀ b kill quiet cuts = (by b cuts).killed
  where
    by : (b : Target) → Interrupted g b₀ b → record { quiet : b.running ≡ idle; killed : Killed b₀ b }
    by b never = record { quiet = quiet; killed = record { level = kill; flash = refl; locks = refl } }
    by b (cut {b = b₁} before x l n k s leads c) =
        let e = by b₁ before in
        let d = cut-killed x b₁ b l n k s leads c e.killed.level e.quiet in
        record {
          quiet = d.quiet;
          killed = record { level = d.killed.level; flash = d.killed.flash ∙ e.killed.flash; locks = d.killed.locks ∙ e.killed.locks };
        }

-- ---- the fresh session

ended : {g : Geometry} (x : Start g) (b : Target) → Startable g b → (l : Lists) → Ended x b l
ended {g} x b may l =
    let i = image_in x in
    let most = most_traffic g (entry_of b) in
    let n = most.transfers + most.xresets + most.line_resets in
    let r = (run-demand3-holds g x.header x.bytes x.passes b may l n).comes (le_refl n) in
    let w = walked g x.header x.bytes x.leave x.passes x.unrefused b may l n in
    record {
      answers = w.answers;
      state = w.state;
      leads = w.steps;
      report = record { number = r.number; step = r.step; transfers = r.sent };
      stands = w.follows.stands ∙ ap (outcome_at i) r.is;
    }

pub recovery-holds : RecoveryHolds
recovery-holds g x b₀ b may right cuts no-kill l =
    let left = cuts-leave g b₀ b may cuts in
    let again-may = left.startable no-kill in
    let d : (n k : ℕ) (s : State) → Leads x b l n k s → Demand3 (image_in x) b l n s = λ n k s leads. demand3 g x.header x.bytes x.leave x.passes x.unrefused b again-may l n k s leads in
    record {
      again = d;
      loaded = λ n k s leads r e none.
          let done = ((d n k s leads).exactly r e).1 (rw left.silicon right, none) in
          let f = (d n k s leads).done r e done in
          record { done = done; step = f.at_end; flash = f.flash; locks = f.locks; level = f.level };
      ends = ended x b again-may l;
    }
