-- Sessions that end in step 1: with KILL stored the thirty attempts and 26; with a FAULT to the second transfer 28, after one XRES.
-- Assumes nothing.
use mathlib.Core.Bool.{false}
use mathlib.Core.List.{[], ◌∷◌}
use mathlib.Core.Path.{◌≡◌, refl, ap, ◌∙◌}
use Prim.Native.Nat.{ℕ, zero, suc, ◌+◌, ◌*◌, ◌-◌}
use native.Mathlib.Omega.{arith}
use lib.Dec.{ltb, eqb}
use borrow.Author.Tests.{eq-eqb, lt-ltb, le-ltb}
use Rattle.flow.specs.Calls.{reset}
use Rattle.flow.specs.Exchange.{decode, transferred, meet, carry}
use Rattle.flow.specs.Judge.{judge}
use Rattle.flow.specs.Mishaps.{answer, okay_with}
use Rattle.flow.specs.Monitor.{Monitor, watch, nothing_seen}
use Rattle.flow.specs.Packets.{verdict, heard}
use Rattle.flow.specs.Plan.{Traffic}
use Rattle.flow.specs.Run.{Run, advance_by, advance, run_after, started}
use Rattle.flow.specs.Sequence.{sequence, opening, acquire}
use Rattle.flow.specs.Session.{SessionState, running, reported, position, try_again, stand_after, step_of, first_session, no_counts}
use Rattle.flow.specs.Target.{idle, Target, next_event, Lists, set_reset}
use Rattle.flow.specs.declared.Answer.TheVariants.{ResetDone}
use Rattle.flow.specs.declared.Entry.TheVariants.{FromOpen}
use Rattle.flow.specs.declared.LineEvent.{LineEvent}
use Rattle.flow.specs.declared.Request.TheVariants.{ReadIdcode, LineReset, WriteSetup}
use Rattle.flow.specs.declared.TransferOutcome.{TransferOutcome}
use Rattle.flow.specs.declared.TransferOutcome.TheVariants.{Clean, Faults}
use Rattle.flow.proofs.Access.{barred-off}
use Rattle.flow.proofs.Decoding.{attempt, meets, plain, a_ctrl}
use Rattle.flow.proofs.Hearing.{silence-heard}
use Rattle.flow.proofs.Mishaps.{right-idcode}
use Rattle.flow.proofs.Reaches.{tally}
use Rattle.image.specs.Image.{Image}
use Rattle.wire.specs.declared.Register.TheVariants.{CtrlStat}

-- at one of the moves of step 1, with a attempts failed
abbrev attempting : (at a : ℕ) → SessionState
attempting n a = running (position FromOpen n) (tally 0 a 0) a

-- where a session stands with such a target, m requests from its end: before its XRES, at the line reset or the read of attempt a with c
-- attempts after it, or at its end
pub data Attempting (b : Target) (m : ℕ) : SessionState → Type 0 where
  at_xres : m ≡ 61 → b.memory.stored ≡ 4 → b.running ≡ idle → Attempting b m first_session
  at_line_reset : (a c : ℕ) → a + suc c ≡ 30 → m ≡ 2 + 2 * c → b.effect ≡ 4 → Attempting b m (attempting 1 a)
  at_idcode : (a c : ℕ) → a + suc c ≡ 30 → m ≡ 1 + 2 * c → b.effect ≡ 4 → Attempting b m (attempting 2 a)
  at_report : m ≡ 0 → Attempting b m (reported 26 1 30)

-- one more attempt, or the last
missed : (b : Target) (m a c : ℕ) → a + suc c ≡ 30 → m ≡ 2 * c → b.effect ≡ 4 → Attempting b m (stand_after (try_again (ltb (suc a) 30) (tally 0 a 0)) (position FromOpen 2) 1 (suc a))
missed b m a zero h e dark =
    let last : a ≡ 29 = omega arith in
    let over : ltb (suc a) 30 ≡ false = le-ltb (suc a) 30 (omega arith) in
    rw (over, last) (at_report (omega arith))
missed b m a (suc c) h e dark = rw (lt-ltb (suc a) 30 (omega arith)) (at_line_reset (suc a) c (omega arith) (omega arith) dark)

-- what the standing request leads to
module _ (i : Image) (r : Run) where
  abbrev On : ℕ → SessionState → Type 0
  On m s = Attempting (advance_by i s r).target m (advance_by i s r).session

  on-xres : r.target.memory.stored ≡ 4 → r.target.running ≡ idle → On 60 first_session
  unfolding step_of meet decode reset sequence opening acquire
  on-xres kill quiet = rw quiet (at_line_reset 0 29 refl refl kill)

  on-line-reset : (m a c : ℕ) → a + suc c ≡ 30 → m ≡ 1 + 2 * c → r.target.effect ≡ 4 → On m (attempting 1 a)
  unfolding step_of meet decode sequence opening acquire
  on-line-reset m a c h e dark = at_idcode a c h e dark

  on-idcode : (m a c : ℕ) → a + suc c ≡ 30 → m ≡ 2 * c → r.target.effect ≡ 4 → On m (attempting 2 a)
  unfolding step_of sequence opening acquire transferred
  on-idcode m a c h e dark =
      rw (meets i.geometry attempt r.lists r.target, eq-eqb r.target.effect 4 dark, silence-heard ReadIdcode (next_event r.lists.line).filler)
      (missed r.target m a c h e dark)

  advance-attempting : (m : ℕ) → Attempting r.target m r.session → Attempting (advance i r).target (m - 1) (advance i r).session
  unfolding advance
  advance-attempting m = by r.session refl
    where
      by : (s : SessionState) → r.session ≡ s → Attempting r.target m s → On (m - 1) s
      by s e (at_xres h kill quiet) = rw h (on-xres kill quiet)
      by s e (at_line_reset a c h left dark) = on-line-reset (m - 1) a c h (omega arith) dark
      by s e (at_idcode a c h left dark) = on-idcode (m - 1) a c h (omega arith) dark
      by s e (at_report h) = rw e (at_report (omega arith))

pub run-attempting : (i : Image) (n m : ℕ) (r : Run) → Attempting r.target m r.session → Attempting (run_after i n r).target (m - n) (run_after i n r).session
unfolding run_after
run-attempting i zero m r k = let same : m - 0 ≡ m = omega arith in rw same k
run-attempting i (suc n) m r k = let less : m - suc n ≡ m - 1 - n = omega arith in rw less (run-attempting i n (m - 1) (advance i r) (advance-attempting i r m k))

-- at the end
pub at-end : {b : Target} (s : SessionState) → Attempting b 0 s → s ≡ reported 26 1 30
at-end s (at_xres h kill quiet) = absurd (omega arith)
at-end s (at_line_reset a c h left dark) = absurd (omega arith)
at-end s (at_idcode a c h left dark) = absurd (omega arith)
at-end s (at_report h) = refl

abbrev event : TransferOutcome → LineEvent
event f = record { outcome = f; filler = record { ack = 7; word = 13; parity = 1 }; other = 5 }

abbrev pub second_faults : Lists
second_faults = record { line = event Clean ∷ event Faults ∷ []; calls = [] }

abbrev traffic : (transfers xresets line_resets : ℕ) → Traffic
traffic t x l = record { transfers = t; xresets = x; line_resets = l }

-- at one of the first moves, with so many transfers answered
abbrev under : (at transfers : ℕ) → SessionState
under n h = running (position FromOpen n) no_counts h

module _ (i : Image) (b : Target) (quiet : b.running ≡ idle) (awake : eqb b.memory.stored 4 ≡ false) (own : b.silicon.idcode ≡ 0x0BB11477) where
  abbrev at : SessionState → Target → Lists → Monitor → Traffic → Run
  at s c l m t = record { session = s; target = c; lists = l; monitor = m; traffic = t }

  xres : advance i (started b second_faults) ≡ at (under 1 0) (set_reset b) second_faults nothing_seen (traffic 0 1 0)
  unfolding advance step_of watch meet decode reset sequence opening acquire
  xres = rw quiet

  line-reset : (m : Monitor) → advance i (at (under 1 0) (set_reset b) second_faults m (traffic 0 1 0))
      ≡ at (under 2 0) (set_reset b) second_faults (watch i.geometry LineReset ResetDone m) (traffic 0 1 1)
  unfolding advance step_of meet decode sequence opening acquire
  line-reset m = refl

  abbrev fault_next : Lists
  fault_next = record { line = event Faults ∷ []; calls = [] }

  idcode : (m : Monitor) → advance i (at (under 2 0) (set_reset b) second_faults m (traffic 0 1 1))
      ≡ at (under 3 1) (set_reset b) fault_next (watch i.geometry ReadIdcode (okay_with b.silicon.idcode) m) (traffic 1 1 1)
  unfolding advance step_of sequence opening acquire transferred carry judge
  idcode m = rw (meets i.geometry attempt second_faults (set_reset b), awake, barred-off i.geometry ReadIdcode (set_reset b) refl, right-idcode b.silicon.idcode, own)

  setup : (m : Monitor) → advance i (at (under 3 1) (set_reset b) fault_next m (traffic 1 1 1))
      ≡ at (reported 28 1 2) (set_reset b) (record { line = []; calls = [] }) (watch i.geometry (WriteSetup CtrlStat 0x54000000) (answer 4 13 1) m) (traffic 2 1 1)
  unfolding advance step_of sequence opening acquire transferred verdict heard
  setup m = rw (meets i.geometry (plain (a_ctrl {w = 0x54000000})) fault_next (set_reset b), awake, barred-off i.geometry (WriteSetup CtrlStat 0x54000000) (set_reset b) refl)

  pub faulted : ((run_after i 4 (started b second_faults)).session ≡ reported 28 1 2) × ((run_after i 4 (started b second_faults)).traffic.xresets ≡ 1)
  unfolding run_after
  faulted =
      let whole = ap (advance i) (ap (advance i) (ap (advance i) xres ∙ line-reset nothing_seen) ∙ idcode _) ∙ setup _ in
      (ap (λ (r : Run). r.session) whole, ap (λ (r : Run). r.traffic.xresets) whole)
