-- Whole sessions that seal their board, for every part and M: with the success heard, and not. Assumes nothing.
use mathlib.Core.Bool.{Bool, true, false≢true, cond}
use mathlib.Core.Path.{◌≡◌, refl, sym, ap, subst, ◌∙◌}
use Prim.Native.Nat.{ℕ, zero, suc, ◌≤◌}
use native.Mathlib.Omega.{arith}
use Rattle.flow.proofs.Reaches.{same-running, no-seal, seal-succeeds}
use Rattle.flow.proofs.Sealed.{seals-at-step-7, done-sealed}
use Rattle.flow.proofs.Unheard.{unheard}
use Rattle.flow.proofs.Witness.{witness}
use Rattle.flow.specs.BoardExamples.{none}
use Rattle.flow.specs.Claim.{Achieved}
use Rattle.flow.specs.Packets.{packet_of}
use Rattle.flow.specs.Plan.{plan}
use Rattle.flow.specs.Run.{Run, advance, run_after, started}
use Rattle.flow.specs.SealedRuns.{step_at, SealedUnheard}
use Rattle.flow.specs.Sealing.{seals}
use Rattle.flow.specs.Session.{SessionState, running, reported, move_at}
use Rattle.flow.specs.Target.{Target, Lists}
use Rattle.flow.specs.Terms.{Startable, entry_of}
use Rattle.flow.specs.declared.Packet.{Packet}
use Rattle.image.specs.Image.{Image}
use Rattle.parts.specs.Parts.{lookup_of}
use Rattle.parts.specs.declared.Geometry.{Geometry}
use Rattle.recovery.proofs.Walking.{Walked, walked}
use Rattle.session.proofs.Possibility.{granted}
use Rattle.recovery.specs.Recovery.{Start, image_in, Leads}
use Rattle.sealing.specs.Sealed.{onward, Sealed}
use Rattle.sealing.specs.Witness.{SealedSession, SealedSessions}
use Rattle.sealing.proofs.Sealed.{joined, done-sealed-calls}
use Rattle.session.proofs.Counted.{count_in}
use Rattle.session.proofs.Demand.{all, low}
use Rattle.session.proofs.Following.{Follows, follow-answer}
use Rattle.session.specs.Calls.{State, begun, answer}
use Rattle.session.specs.Calls as Calls
use Rattle.session.specs.Given.{start_of, outcome_at}
use Rattle.session.specs.Outcomes.{Ask, Reported}
use Rattle.session.specs.Sessions.{most_of}
use Rattle.std.specs.Prelude.{Ok}
use Rattle.session.specs.declared.Report.{Report}

-- a step more, at the end
one_more : (i : Image) (n : ℕ) (r : Run) → run_after i (suc n) r ≡ advance i (run_after i n r)
unfolding run_after
one_more i zero r = refl
one_more i (suc n) r = one_more i n (advance i r)

module _ {g : Geometry} (x : Start g) (b : Target) (may : Startable g b) (l : Lists) (n : ℕ) where
  abbrev i : Image
  i = image_in x

  abbrev run : Run
  run = run_after i n (started b l)

  -- a list of calls that follows the run so far
  abbrev w : Walked g x.header x.bytes x.passes.found (all g x.header x.bytes x.passes.found x.passes.checked).size n (begun (start_of x.header x.bytes x.leave) b l) (started b l)
  w = walked g x.header x.bytes x.leave x.passes x.unrefused b may l n

  -- the call that seals is step 7's
  at-step-7 : seals run.target (run_after i (suc n) (started b l)).target ≡ true → step_at i run.session ≡ 7
  at-step-7 e =
      seals-at-step-7 g x.header x.bytes x.passes b may l n (seal-succeeds run.target (run_after i (suc n) (started b l)).target e)
      ∙ ap (λ (y : Bool). cond y 7 3) e

  module _ (seal : seals run.target (advance i run).target ≡ true) where
    -- a session that has reported seals nothing more
    asks : record { packet : Packet; stands : w.state.stands ≡ Ask packet }
    unfolding advance
    asks = by run.session refl
      where
        by : (z : SessionState) → run.session ≡ z → record { packet : Packet; stands : w.state.stands ≡ Ask packet }
        by (running o d h) is = record { packet = packet_of (move_at i o).request; stands = w.follows.stands ∙ ap (outcome_at i) is }
        by (reported v t h) is =
            let same : (advance i run).target ≡ run.target = rw is in
            absurd (false≢true (sym (no-seal run.target run.target (same-running run.target run.target refl)) ∙ subst (λ (z : Target). seals run.target z ≡ true) same seal))

    abbrev u : State
    u = onward x asks.packet w.state

    abbrev followed-on : Follows g x.header x.bytes x.passes.found (all g x.header x.bytes x.passes.found x.passes.checked).size u (advance i run)
    followed-on =
        follow-answer g x.header x.bytes x.passes.found (all g x.header x.bytes x.passes.found x.passes.checked).size w.state run asks.packet w.follows asks.stands
        (subst (λ (z : Run). count_in z.session ≤ most_of g) (one_more i n (started b l)) (low g x.header x.bytes x.passes b may l n (suc n)))

    leads-on : Leads x b l (suc w.answers) 0 u
    leads-on = joined g x.bytes w.answers 0 1 0 (suc w.answers) 0 (omega arith) refl w.steps (answer asks.packet asks.stands Calls.none)

    sealed-on : Sealed x b l (suc w.answers) u
    sealed-on = record {
      answers = w.answers;
      others = 0;
      state = w.state;
      before = w.steps;
      succeeds = record {
        packet = asks.packet;
        stands = asks.stands;
        seals = subst (λ (z : Target). seals z u.target ≡ true) (sym w.follows.target) (subst (λ (z : Target). seals run.target z ≡ true) (sym followed-on.target) seal);
      };
      answers_after = 0;
      others_after = 0;
      after = Calls.none;
      counted = omega arith;
    }

module _ (g : Geometry) (level : ℕ) (a : Achieved g level) where
  -- with leave, so that any level may start
  abbrev start : Start g
  start = record { header = a.header; bytes = a.bytes; leave = true; passes = a.passes; unrefused = granted a.header a.bytes a.passes.checked }

  done_session : SealedSession g level 0 9
  done_session =
      let w = walked g a.header a.bytes true a.passes start.unrefused a.target a.startable none a.steps in
      let is : w.state.stands ≡ Reported (record { number = 0; step = 9; transfers = plan g (entry_of a.target) }) = w.follows.stands ∙ ap (outcome_at (image_in start)) a.done in
      record {
        start = start;
        board = a.target;
        startable = a.startable;
        stored = a.stored;
        lists = none;
        answers = w.answers;
        state = w.state;
        leads = w.steps;
        report = record { number = 0; step = 9; transfers = plan g (entry_of a.target) };
        stands = is;
        says = refl;
        at = refl;
        sealed = done-sealed-calls g start a.target a.startable none w.answers 0 w.state w.steps _ is refl;
      }

  -- the step of that session in which its board is sealed
  abbrev before : ℕ
  before = (done-sealed g a.header a.bytes a.passes a.target a.startable none a.steps 9 (plan g (entry_of a.target)) a.done).before

  abbrev missed : SealedUnheard (image_in start) a.target before
  missed = unheard (image_in start) a.target before (done-sealed g a.header a.bytes a.passes a.target a.startable none a.steps 9 (plan g (entry_of a.target)) a.done).seals

  silent_session : SealedSession g level 29 7
  silent_session =
      let l = missed.lists in
      let later : run_after (image_in start) (suc before) (started a.target l) ≡ advance (image_in start) (run_after (image_in start) before (started a.target l)) = one_more (image_in start) before (started a.target l) in
      let seal = subst (λ (z : Run). seals (run_after (image_in start) before (started a.target l)).target z.target ≡ true) later missed.seals in
      let report : Report = record { number = 29; step = step_at (image_in start) (run_after (image_in start) before (started a.target l)).session; transfers = missed.sent } in
      record {
        start = start;
        board = a.target;
        startable = a.startable;
        stored = a.stored;
        lists = l;
        answers = _;
        state = u start a.target a.startable l before seal;
        leads = leads-on start a.target a.startable l before seal;
        report = report;
        stands = (followed-on start a.target a.startable l before seal).stands ∙ ap (outcome_at (image_in start)) (sym (ap (λ (z : Run). z.session) later) ∙ missed.reports);
        says = refl;
        at = at-step-7 start a.target a.startable l before missed.seals;
        sealed = sealed-on start a.target a.startable l before seal;
      }

-- every part and M
pub sealed-sessions : (part macros : ℕ) (g : Geometry) → lookup_of part macros ≡ Ok g → SealedSessions g
sealed-sessions part macros g e =
    let w = witness part macros g e in
    record {
      open_done = done_session g 1 w.from_open;
      protected_done = done_session g 2 w.from_protected;
      open_silent = silent_session g 1 w.from_open;
      protected_silent = silent_session g 2 w.from_protected;
    }
