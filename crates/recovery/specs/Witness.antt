-- What Eleven speaks of occurs: cuts anywhere, a cut inside the call that reopens a PROTECTED board, and done after it. Assumes nothing.
use Rattle.std.specs.Prelude.{Bool, List, ◌≡◌, ℕ}
use Rattle.flow.specs.BoardExamples.{none}
use Rattle.flow.specs.CutExamples.{Reopening}
use Rattle.flow.specs.Cuts.{CutTo}
use Rattle.flow.specs.Target.{Target, Lists}
use Rattle.flow.specs.Terms.{Passes, Startable, RightPart}
use Rattle.image.specs.declared.Header.{Header}
use Rattle.parts.specs.declared.Geometry.{Geometry}
use Rattle.recovery.specs.Recovery.{Start, image_in, Leads, Interrupted, Loaded, Ended}
use Rattle.session.specs.Calls.{State}
use Rattle.session.specs.Given.{start_of}
use Rattle.session.specs.Outcomes.{Refused}

-- whoever asks more of a start or of the cuts breaks these: any image that passes, any lists, any list of calls, and cuts after cuts
pub record FreeCuts : Type 0 where
  pub start : (g : Geometry) (h : Header) (bytes : List ℕ) (leave : Bool) → Passes g h bytes → ((number : ℕ) → ¬ ((start_of h bytes leave).outcome ≡ Refused number))
      → record { x : Start g; header : x.header ≡ h; bytes : x.bytes ≡ bytes; leave : x.leave ≡ leave }
  pub once : (g : Geometry) (b b' : Target) (x : Start g) (l : Lists) (n k : ℕ) (s : State) → Leads x b l n k s → CutTo s.target b' → Interrupted g b b'
  pub joined : (g : Geometry) (b₀ b b' : Target) → Interrupted g b₀ b → Interrupted g b b' → Interrupted g b₀ b'

-- the board b₀, cut off once, has this level, and the same image can be loaded again
pub record Reloaded {g : Geometry} (x : Start g) (b₀ : Target) (s : State) (level : ℕ) : Type 0 where
  pub board : Target
  pub cut : CutTo s.target board
  pub stored : board.memory.stored ≡ level
  pub interrupted : Interrupted g b₀ board
  pub ended : Ended x board none
  pub loaded : Loaded (image_in x) ended.state ended.report

pub record ReopeningCut (g : Geometry) : Type 0 where
  pub start : Start g
  pub board : Target
  pub startable : Startable g board
  pub protected : board.memory.stored ≡ 2
  pub right : RightPart (image_in start) board.silicon
  pub answers : ℕ
  pub state : State
  pub leads : Leads start board none answers 0 state
  pub reopening : Reopening state.target
  -- the cut stores the level sent, or leaves the old one
  pub left_open : Reloaded start board state 1
  pub left_protected : Reloaded start board state 2
