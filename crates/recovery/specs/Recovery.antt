-- Document 02, 'Eleven. Picked up after a cut.' The sessions are lists of calls as demand 3 has them, and what a call gives is what
-- its contract says. Assumes nothing.
use Rattle.std.specs.Prelude.{Bool, List, ◌≡◌, ℕ, suc}
use Rattle.flow.specs.Calls.{dropped}
use Rattle.flow.specs.Cuts.{CutTo}
use Rattle.flow.specs.Target.{idle, Target, Lists}
use Rattle.flow.specs.Terms.{Passes, Startable, RightPart, NoError}
use Rattle.image.specs.Image.{Image, image_of}
use Rattle.image.specs.declared.Header.{Header}
use Rattle.parts.specs.declared.Geometry.{Geometry}
use Rattle.session.specs.Calls.{State, Steps, begun}
use Rattle.session.specs.Claim.{Demand3}
use Rattle.session.specs.Given.{start_of}
use Rattle.session.specs.Outcomes.{Refused, Reported}
use Rattle.session.specs.declared.Report.{Report}

-- 'an unrefused start on an image that document 01's checks let pass', of this part and M
pub record Start (g : Geometry) : Type 0 where
  pub header : Header
  pub bytes : List ℕ
  pub leave : Bool
  pub passes : Passes g header bytes
  pub unrefused : (number : ℕ) → ¬ ((start_of header bytes leave).outcome ≡ Refused number)

abbrev pub image_in : {g : Geometry} → Start g → Image
image_in {g} x = image_of g x.header x.bytes

-- the state s comes of the start x on the board b with these lists: after n answered steps and k others
abbrev pub Leads : {g : Geometry} → Start g → Target → Lists → (n k : ℕ) → State → Type 0
Leads {g} x b l n k s = Steps g x.bytes n k (begun (start_of x.header x.bytes x.leave) b l) s

-- 'Any number of cuts': a board that was b₀, after sessions that were each 'cut after any transfer', or before the first or after
-- the report; each on any image of the part and M. 'XRES follows': it is the next session's first request
pub data Interrupted (g : Geometry) (b₀ : Target) : Target → Type 0 where
  never : Interrupted g b₀ b₀
  cut : {b b' : Target} → Interrupted g b₀ b → (x : Start g) (l : Lists) (n k : ℕ) (s : State) → Leads x b l n k s → CutTo s.target b'
      → Interrupted g b₀ b'

-- a session that was carried to its report
pub record Ended {g : Geometry} (x : Start g) (b : Target) (l : Lists) : Type 0 where
  pub answers : ℕ
  pub state : State
  pub leads : Leads x b l answers 0 state
  pub report : Report
  pub stands : state.stands ≡ Reported report

-- ---- what the cuts leave

-- VIRGIN is never stored, and unless KILL is, the board is again one that demand 3 allows, with its own IDs
pub record AfterCuts (g : Geometry) (b₀ b : Target) : Type 0 where
  pub silicon : b.silicon ≡ b₀.silicon
  pub quiet : b.running ≡ idle
  pub never_virgin : ¬ (b.memory.stored ≡ 0)
  pub startable : ¬ (b.memory.stored ≡ 4) → Startable g b

-- 'The board may have started as anything demand 3 allows.'
abbrev pub CutsLeave : Type 0
CutsLeave = (g : Geometry) (b₀ b : Target) → Startable g b₀ → Interrupted g b₀ b → AfterCuts g b₀ b

-- ---- the fresh session

-- done, and the board bears the image
pub record Loaded (i : Image) (s : State) (r : Report) : Type 0 where
  pub done : r.number ≡ 0
  pub step : r.step ≡ 9
  pub flash : s.target.memory.flash ≡ i.flash
  pub locks : s.target.memory.locks ≡ i.protection
  pub level : s.target.memory.stored ≡ i.header.level

-- of the start x on the board b with these lists
pub record Recovered {g : Geometry} (x : Start g) (b : Target) (l : Lists) : Type 0 where
  -- all of demand 3, once more
  pub again : (n k : ℕ) (s : State) → Leads x b l n k s → Demand3 (image_in x) b l n s
  -- 'a fresh session .. without mishap reports done'
  pub loaded : (n k : ℕ) (s : State) → Leads x b l n k s → (r : Report) → s.stands ≡ Reported r → NoError s.monitor → Loaded (image_in x) s r
  -- and it does report: its requests answered, it comes to an end
  pub ends : Ended x b l

-- 'a board of the right part .. can be loaded again .. unless KILL had been stored'
abbrev pub RecoveryHolds : Type 0
RecoveryHolds =
    (g : Geometry) (x : Start g) (b₀ b : Target) → Startable g b₀ → RightPart (image_in x) b₀.silicon → Interrupted g b₀ b
    → ¬ (b.memory.stored ≡ 4) → (l : Lists) → Recovered x b l

-- ---- KILL

-- KILL stays, with the flash and the locks: 'unless KILL had been stored' is 'unless KILL is stored in the end'
pub record Killed (b₀ b : Target) : Type 0 where
  pub level : b.memory.stored ≡ 4
  pub flash : b.memory.flash ≡ b₀.memory.flash
  pub locks : b.memory.locks ≡ b₀.memory.locks

abbrev pub KillStays : Type 0
KillStays = (g : Geometry) (b₀ b : Target) → b₀.memory.stored ≡ 4 → b₀.running ≡ idle → Interrupted g b₀ b → Killed b₀ b

-- and then no session is done: it leaves the memory as it was, and comes to its report, which is 26 at step 1, after thirty transfers
pub record Closed {g : Geometry} (x : Start g) (b : Target) (l : Lists) : Type 0 where
  pub memory : (n k : ℕ) (s : State) → Leads x b l n k s → s.target.memory ≡ b.memory
  pub told : (n k : ℕ) (s : State) → Leads x b l n k s → (r : Report) → s.stands ≡ Reported r → (r.number ≡ 26) × (r.step ≡ 1) × (r.transfers ≡ 30)
  pub ends : Ended x b l

abbrev pub KillCloses : Type 0
KillCloses = (g : Geometry) (x : Start g) (b : Target) → b.memory.stored ≡ 4 → b.running ≡ idle → (l : Lists) → Closed x b l

-- ---- no cut, but a call that still runs

-- a session begun while a call runs, say because the clip has slipped: its XRES drops the call as failed. From its first answer on it is one
-- begun on what the drop leaves, which is what a cut may leave: so all of the above holds of it
pub record Retried (g : Geometry) (b : Target) : Type 0 where
  pub cut : CutTo b (dropped g b.running b)
  pub same : (x : Start g) (l : Lists) (n k : ℕ) (s : State) → Leads x b l (suc n) k s → Leads x (dropped g b.running b) l (suc n) k s

abbrev pub RetriesHold : Type 0
RetriesHold = (g : Geometry) (b : Target) → Retried g b
