-- What a session leaves alone: a promise beside demand 3, which the papers do not ask for. Assumes nothing.
use Rattle.std.specs.Prelude.{Bool, List, ◌≡◌, ℕ, ◌≤◌}
use Rattle.flow.specs.Target.{Target, Lists}
use Rattle.flow.specs.Terms.{Passes, Startable, RightPart}
use Rattle.image.specs.Image.{Image, image_of}
use Rattle.image.specs.declared.Header.{Header}
use Rattle.parts.specs.declared.Geometry.{Geometry}
use Rattle.session.specs.Calls.{State, Steps, begun}
use Rattle.session.specs.Given.{start_of}
use Rattle.session.specs.Outcomes.{Refused, Reported}
use Rattle.session.specs.declared.Report.{Report}

-- the image i and the target b at the start; the state s after a list of steps
pub record Spared (i : Image) (b : Target) (s : State) : Type 0 where
  -- a board of another part is left as it was: its flash, locks, latch and stored level
  pub other_part : ¬ RightPart i b.silicon → s.target.memory ≡ b.memory
  -- and so is any board where the report has step 1 or 2 and step 3 has not begun: after step 3 these steps come with a second XRES
  pub early : (r : Report) → s.stands ≡ Reported r → r.step ≤ 2 → s.traffic.xresets ≤ 1 → s.target.memory ≡ b.memory

-- of the same lists as demand 3
abbrev pub SparedHolds : Type 0
SparedHolds =
    (g : Geometry) (h : Header) (bytes : List ℕ) (leave : Bool) → Passes g h bytes
    → ((number : ℕ) → ¬ ((start_of h bytes leave).outcome ≡ Refused number))
    → (b : Target) → Startable g b → (l : Lists) (n k : ℕ) (s : State)
    → Steps g bytes n k (begun (start_of h bytes leave) b l) s → Spared (image_of g h bytes) b s
