-- What starting and a step give, a refusal by its number: document 01, 'Who brings a number about'. Assumes nothing.
use Rattle.std.specs.Prelude.{ℕ}
use Rattle.flow.specs.declared.Packet.{Packet}
use Rattle.session.specs.declared.Report.{Report}
use Rattle.session.specs.declared.Session.{Session}

-- what a call gives beside the session
pub data Outcome : Type 0 where
  Refused : (number : ℕ) → Outcome
  Ask : Packet → Outcome
  Reported : Report → Outcome

pub record Given : Type 0 where
  pub session : Session
  pub outcome : Outcome
