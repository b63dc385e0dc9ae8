-- What the code's answers say, in the definitions' words. Assumes nothing.
use Rattle.std.specs.Prelude.{Result, Ok, Err}
use Rattle.refusals.specs.Refusals.{refusal_number}
use Rattle.refusals.specs.declared.Refusal.{Refusal}
use Rattle.session.specs.Outcomes.{Outcome, Refused, Ask, Reported, Given}
use Rattle.session.specs.declared.Given.{Given as CodeGiven}
use Rattle.session.specs.declared.Outcome.{Outcome as CodeOutcome}
use Rattle.session.specs.declared.Outcome.TheVariants as Codes

-- a refusal is told by its number
abbrev pub outcome_told : Result CodeOutcome Refusal → Outcome
outcome_told (Ok (Codes.Ask p)) = Ask p
outcome_told (Ok (Codes.Reported r)) = Reported r
outcome_told (Err r) = Refused (refusal_number r)

abbrev pub given_told : CodeGiven → Given
given_told r = record { session = r.session; outcome = outcome_told r.outcome }
