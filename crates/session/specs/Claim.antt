-- Demand 3: one claim about a start, any list of steps after it, and the plain board with its free lists. Assumes nothing.
use Rattle.std.specs.Prelude.{Bool, List, ◌++◌, ◌⊎◌, ◌↔◌, ◌≡◌, ℕ, ◌+◌, ◌≤◌}
use Rattle.flow.specs.Terms.{Passes, Startable, RightPart, NoError, Calm, entry_of, delays_in, Used, entries}
use Rattle.flow.specs.Monitor.{link_error}
use Rattle.flow.specs.Plan.{Traffic, plan, most_traffic}
use Rattle.flow.specs.Target.{Target, Lists}
use Rattle.flow.specs.declared.Answer.{Answer}
use Rattle.flow.specs.declared.Packet.{Packet}
use Rattle.image.specs.Image.{Image, image_of}
use Rattle.image.specs.declared.Header.{Header}
use Rattle.parts.specs.declared.Geometry.{Geometry}
use Rattle.session.specs.Calls.{Gives, State, Steps, begun, reaction}
use Rattle.session.specs.Given.{start_of, step_with}
use Rattle.session.specs.Outcomes.{Refused, Ask, Reported}
use Rattle.session.specs.declared.Report.{Report}

-- the image as it is lent: 'The protection bytes (N / 8) follow the flash bytes'
abbrev pub lent : Image → List ℕ
lent i = i.flash ++ i.protection

-- the most that document 01's count allows for this target
abbrev pub most : Image → Target → Traffic
most i b = most_traffic i.geometry (entry_of b)

-- the image i, the target b and the lists l at the start; the state s after a list of steps, n of them answers
pub record Demand3 (i : Image) (b : Target) (l : Lists) (n : ℕ) (s : State) : Type 0 where
  -- 'it isn't in VIRGIN after any such list, whether the session is done, failed or under way'
  pub never_virgin : ¬ (s.target.memory.stored ≡ 0)
  -- 'no list of demand 3 hands out more than the count'
  pub transfers : s.traffic.transfers ≤ (most i b).transfers
  pub xresets : s.traffic.xresets ≤ (most i b).xresets
  pub line_resets : s.traffic.line_resets ≤ (most i b).line_resets
  -- 'Each step not refused gives a request or the report': one that carries the board's answer, with the image lent, is not refused
  pub gives : (p : Packet) → s.stands ≡ Ask p → Gives (step_with s.session (lent i) (reaction i.geometry p s).answer).outcome
  -- and after the report 'any answer' gives the report again
  pub repeats : (a : Answer) (r : Report) → s.stands ≡ Reported r → (step_with s.session (lent i) a).outcome ≡ Reported r
  -- 'A report comes within document 01's count of transfers and resets.'
  pub comes : (most i b).transfers + (most i b).xresets + (most i b).line_resets ≤ n → record { report : Report; is : s.stands ≡ Reported report }
  -- 'The report's transfers are those handed out in the list.'
  pub counted : (r : Report) → s.stands ≡ Reported r → r.transfers ≡ s.traffic.transfers
  -- 'It says done exactly when the board is the right part and nothing in document 01's list of mishaps has occurred.'
  pub exactly : (r : Report) → s.stands ≡ Reported r → (r.number ≡ 0) ↔ (RightPart i b.silicon × NoError s.monitor)
  -- any other report has the mishap's number, or is 16 or 20 on another part
  pub number : (r : Report) → s.stands ≡ Reported r
      → (r.number ≡ 0) ⊎ ((s.monitor ≡ link_error r.number) ⊎ ((¬ RightPart i b.silicon) × ((r.number ≡ 16) ⊎ (r.number ≡ 20))))
  -- 'Once it says done, at the end of document 01's flow, the board's every flash byte, row lock and chip level are the image's.'
  pub done : (r : Report) → s.stands ≡ Reported r → r.number ≡ 0
      → record {
        at_end : r.step ≡ 9;
        flash : s.target.memory.flash ≡ i.flash;
        locks : s.target.memory.locks ≡ i.protection;
        level : s.target.memory.stored ≡ i.header.level;
        planned : r.transfers ≡ plan i.geometry (entry_of b) + delays_in s.monitor;
      }
  -- the list entries that were used; where these were calm nothing went wrong, and the right part is done with 'exactly plan'
  pub used : Used l s.lists
  pub provoked : Calm (entries used) → NoError s.monitor
  pub calm : Calm (entries used) → RightPart i b.silicon → (r : Report) → s.stands ≡ Reported r
      → (r.number ≡ 0) × (r.transfers ≡ plan i.geometry (entry_of b))

-- 'Take an unrefused start on an image that document 01's checks let pass, then any list of steps'
abbrev pub Demand3Holds : Type 0
Demand3Holds =
    (g : Geometry) (h : Header) (bytes : List ℕ) (leave : Bool) → Passes g h bytes
    → ((number : ℕ) → ¬ ((start_of h bytes leave).outcome ≡ Refused number))
    → (b : Target) → Startable g b → (l : Lists) (n k : ℕ) (s : State)
    → Steps g bytes n k (begun (start_of h bytes leave) b l) s → Demand3 (image_of g h bytes) b l n s
