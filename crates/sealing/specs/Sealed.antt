-- Document 02, One: 'a board on which step 7's call 0x0D for macro 0 succeeded has the image's flash, level and all its locks, whatever
-- the line did before or does after, even where the session reports a failure.' The sessions are lists of calls as demand 3 has them.
-- Assumes nothing.
use Rattle.std.specs.Prelude.{true, ◌≡◌, ℕ, suc, ◌+◌}
use Rattle.flow.specs.Sealing.{seals, HoldsThroughCut}
use Rattle.flow.specs.Target.{Target, Lists}
use Rattle.flow.specs.Terms.{Startable}
use Rattle.flow.specs.declared.Packet.{Packet}
use Rattle.parts.specs.declared.Geometry.{Geometry}
use Rattle.recovery.specs.Recovery.{Start, image_in, Leads}
use Rattle.session.specs.Calls.{State, Steps, reaction, answered}
use Rattle.session.specs.Given.{step_with}
use Rattle.session.specs.Outcomes.{Ask, Reported}
use Rattle.session.specs.declared.Report.{Report}

-- a packet stands in s, and in the board's answer to it step 7's call 0x0D for macro 0 succeeds; what the session makes of the answer
-- doesn't count
pub record Succeeds (g : Geometry) (s : State) : Type 0 where
  pub packet : Packet
  pub stands : s.stands ≡ Ask packet
  pub seals : seals s.target (reaction g packet s).target ≡ true

-- the session takes that answer
abbrev pub onward : {g : Geometry} → Start g → Packet → State → State
onward {g} x p s = answered g p (reaction g p s) (step_with s.session x.bytes (reaction g p s).answer) s

-- the start x on the board b: any list of calls to s, the answer in which the call succeeds, then any list of calls to u
abbrev pub SealedCallsHold : Type 0
SealedCallsHold =
    (g : Geometry) (x : Start g) (b : Target) → Startable g b → (l : Lists) (n k : ℕ) (s : State) → Leads x b l n k s → (y : Succeeds g s)
    → (n' k' : ℕ) (u : State) → Steps g x.bytes n' k' (onward x y.packet s) u → HoldsThroughCut (image_in x) u.target

-- n answers of the board lead to u, and in one of them it succeeds; which they are is the board's and its lists' doing alone
pub record Sealed {g : Geometry} (x : Start g) (b : Target) (l : Lists) (n : ℕ) (u : State) : Type 0 where
  pub answers : ℕ
  pub others : ℕ
  pub state : State
  pub before : Leads x b l answers others state
  pub succeeds : Succeeds g state
  pub answers_after : ℕ
  pub others_after : ℕ
  pub after : Steps g x.bytes answers_after others_after (onward x succeeds.packet state) u
  pub counted : answers + suc answers_after ≡ n

-- so it is in every list of calls after which the report says done
abbrev pub DoneSealedCalls : Type 0
DoneSealedCalls =
    (g : Geometry) (x : Start g) (b : Target) → Startable g b → (l : Lists) (n k : ℕ) (u : State) → Leads x b l n k u
    → (r : Report) → u.stands ≡ Reported r → r.number ≡ 0 → Sealed x b l n u
