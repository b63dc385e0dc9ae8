-- What One speaks of occurs in whole sessions: some that say done, and some that report a failure. Assumes nothing.
use Rattle.std.specs.Prelude.{◌≡◌, ℕ}
use Rattle.flow.specs.Target.{Target, Lists}
use Rattle.flow.specs.Terms.{Startable}
use Rattle.parts.specs.declared.Geometry.{Geometry}
use Rattle.recovery.specs.Recovery.{Start, Leads}
use Rattle.sealing.specs.Sealed.{Sealed}
use Rattle.session.specs.Calls.{State}
use Rattle.session.specs.Outcomes.{Reported}
use Rattle.session.specs.declared.Report.{Report}

-- a session on a board with this level stored that seals it, and reports this number at this step
pub record SealedSession (g : Geometry) (level number step : ℕ) : Type 0 where
  pub start : Start g
  pub board : Target
  pub startable : Startable g board
  pub stored : board.memory.stored ≡ level
  pub lists : Lists
  pub answers : ℕ
  pub state : State
  pub leads : Leads start board lists answers 0 state
  pub report : Report
  pub stands : state.stands ≡ Reported report
  pub says : report.number ≡ number
  pub at : report.step ≡ step
  pub sealed : Sealed start board lists answers state

-- from OPEN and from PROTECTED: the session says done; and where the success goes unheard, it reports 29 at step 7
pub record SealedSessions (g : Geometry) : Type 0 where
  pub open_done : SealedSession g 1 0 9
  pub protected_done : SealedSession g 2 0 9
  pub open_silent : SealedSession g 1 29 7
  pub protected_silent : SealedSession g 2 29 7
