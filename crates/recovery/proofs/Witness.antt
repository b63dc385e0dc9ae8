-- A cut can fall into the reopening call, for every part and M, and the board is loaded after it. Assumes nothing.
use mathlib.Core.Bool.{Bool, true, false}
use mathlib.Core.List.{[]}
use mathlib.Core.Path.{◌≡◌, refl, sym, ap, subst, ◌∙◌}
use Prim.Native.Nat.{ℕ}
use native.Mathlib.Omega.{arith}
use Rattle.flow.proofs.CutExamples.{cut-examples}
use Rattle.flow.proofs.Undisturbed.{calm-used}
use Rattle.flow.proofs.Reopening.{Reopens, comes-to-reopen}
use Rattle.flow.proofs.Witness.{witness}
use Rattle.flow.specs.BoardExamples.{none}
use Rattle.flow.specs.Calls.{after_failure}
use Rattle.flow.specs.Claim.{Achieved}
use Rattle.flow.specs.CutExamples.{Reopening, powered_up}
use Rattle.flow.specs.Cuts.{cut_memory, CutTo}
use Rattle.flow.specs.Target.{Memory, Residue, Target}
use Rattle.flow.specs.Terms.{Startable, RightPart}
use Rattle.parts.specs.Parts.{lookup_of}
use Rattle.parts.specs.declared.Geometry.{Geometry}
use Rattle.recovery.specs.Recovery.{Start, image_in, Leads, Interrupted, never, cut}
use Rattle.recovery.specs.Witness.{FreeCuts, Reloaded, ReopeningCut}
use Rattle.recovery.proofs.Recovery.{recovery-holds}
use Rattle.recovery.proofs.Walking.{walked}
use Rattle.session.proofs.Possibility.{granted}
use Rattle.std.specs.Prelude.{Ok}
use Rattle.session.specs.Calls.{State}

pub free-cuts : FreeCuts
free-cuts = record {
  start = λ g h bytes leave p free. record { x = record { header = h; bytes = bytes; leave = leave; passes = p; unrefused = free }; header = refl; bytes = refl; leave = refl };
  once = λ g b b' x l n k s leads c. cut never x l n k s leads c;
  joined = λ g b₀ b b' before after. join before after;
}
  where
    join : {g : Geometry} {b₀ b b' : Target} → Interrupted g b₀ b → Interrupted g b b' → Interrupted g b₀ b'
    join before never = before
    join before (cut after x l n k s leads c) = cut (join before after) x l n k s leads c

-- what a cut leaves: all flash and locks zero, and the level sent or not
abbrev leaving : Bool → Residue
leaving y = record { flash = []; locks = []; latch = []; sysarg = 0; new_level = y }

module _ {g : Geometry} (x : Start g) (b : Target) (may : Startable g b) (right : RightPart (image_in x) b.silicon) (n : ℕ) (s : State) (leads : Leads x b none n 0 s) where
  abbrev after : Bool → Target
  after y = powered_up s.target (leaving y) s.target.memory.latch s.target.params 7

  reloaded : (y : Bool) (level : ℕ) → (cut_memory s.target (leaving y)).stored ≡ level → ¬ (level ≡ 4) → Reloaded x b s level
  reloaded y level is no-kill =
      let c : CutTo s.target (after y) = cut-examples.free s.target (leaving y) _ _ 7 refl refl in
      let i : Interrupted g b (after y) = cut never x none n 0 s leads c in
      let r = recovery-holds g x b (after y) may right i (λ h. no-kill (sym is ∙ h)) none in
      let e = r.ends in
      let d = r.again e.answers 0 e.state e.leads in
      record {
        board = after y;
        cut = c;
        stored = is;
        interrupted = i;
        ended = e;
        loaded = r.loaded e.answers 0 e.state e.leads e.report e.stands (d.provoked (calm-used d.used));
      }

-- ---- from a PROTECTED board on which done can be reached

-- the level that the cut leaves
new-level : (b : Target) → Reopening b → (cut_memory b (leaving true)).stored ≡ 1
unfolding after_failure
new-level b r = rw (r.runs, r.sent)

old-level : (b : Target) → Reopening b → (cut_memory b (leaving false)).stored ≡ b.memory.stored
unfolding after_failure
old-level b r = rw r.runs

reopening-cut : (g : Geometry) → Achieved g 2 → ReopeningCut g
reopening-cut g a =
    let x : Start g = record { header = a.header; bytes = a.bytes; leave = true; passes = a.passes; unrefused = granted a.header a.bytes a.passes.checked } in
    let n = comes-to-reopen g a.header a.bytes a.passes a.target a.startable a.stored a.right in
    let w = walked g a.header a.bytes true a.passes x.unrefused a.target a.startable none n.n in
    let r : Reopens a.target.memory w.state.target = subst (Reopens a.target.memory) (sym w.follows.target) n.is in
    record {
      start = x;
      board = a.target;
      startable = a.startable;
      protected = a.stored;
      right = a.right;
      answers = w.answers;
      state = w.state;
      leads = w.steps;
      reopening = r.reopening;
      left_open = reloaded x a.target a.startable a.right w.answers w.state w.steps true 1 (new-level w.state.target r.reopening) (λ h. omega arith);
      left_protected = reloaded x a.target a.startable a.right w.answers w.state w.steps false 2
          (old-level w.state.target r.reopening ∙ ap (λ (m : Memory). m.stored) r.memory ∙ a.stored) (λ h. omega arith);
    }

-- every part and M
pub reopening : (part macros : ℕ) (g : Geometry) → lookup_of part macros ≡ Ok g → ReopeningCut g
reopening part macros g e = reopening-cut g (witness part macros g e).from_protected
