-- What holds of every session that a call gave, forged ones stepped on included. Assumes nothing.
use Rattle.std.specs.Prelude.{Bool, true, List, ◌≡◌, ℕ, ◌≤◌, Ok}
use Rattle.flow.specs.declared.Answer.{Answer}
use Rattle.image.specs.declared.Header.{Header}
use Rattle.parts.specs.Parts.{lookup_of}
use Rattle.parts.specs.declared.Geometry.{Geometry}
use Rattle.session.specs.Given.{start_of, step_with}
use Rattle.session.specs.Outcomes.{Given, Refused, Reported}
use Rattle.session.specs.Possible.{possible}
use Rattle.session.specs.Sessions.{most_of}
use Rattle.session.specs.declared.Report.{Report}
use Rattle.session.specs.declared.Session.{Session}

abbrev pub Unrefused : Given → Type 0
Unrefused r = (number : ℕ) → ¬ (r.outcome ≡ Refused number)

pub record SessionClaims : Type 0 where
  -- '13 session impossible for its part (never one that starting or a step gave)'
  pub started : (h : Header) (bytes : List ℕ) (leave : Bool) → Unrefused (start_of h bytes leave) → possible (start_of h bytes leave).session ≡ true
  pub stepped : (s : Session) (bytes : List ℕ) (a : Answer) → Unrefused (step_with s bytes a) → possible (step_with s bytes a).session ≡ true
  -- 'refused, gives back the session it got'
  pub refused : (s : Session) (bytes : List ℕ) (a : Answer) (number : ℕ) → (step_with s bytes a).outcome ≡ Refused number
      → (step_with s bytes a).session ≡ s
  -- every report's count is within document 01's formula
  pub counted : (s : Session) (bytes : List ℕ) (a : Answer) (g : Geometry) (r : Report) → lookup_of s.header.part s.header.macros ≡ Ok g
      → (step_with s bytes a).outcome ≡ Reported r
      → r.transfers ≤ most_of g
