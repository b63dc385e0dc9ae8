-- What starting or a step gives beside the session, as 8 bytes. Assumes nothing.
use Rattle.std.specs.Prelude.{cond, List, ◌∷◌, ℕ, eqb, get_or, Result, Ok, Err}
use Rattle.flow.specs.declared.Packet.{Packet}
use Rattle.flow.specs.declared.Packet.TheVariants.{Xres, LineReset, Read, Write}
use Rattle.lent.specs.Words.{word_at, low_first}
use Rattle.session.specs.Outcomes.{Outcome, Refused, Ask, Reported}
use Rattle.session.specs.declared.Outcome.{Outcome as CodeOutcome}
use Rattle.session.specs.declared.Outcome.TheVariants as Codes

-- kind at 0, a number or a request byte at 1, a parity bit or a flow step at 2, 0 at 3, a word at 4
abbrev pub eight_bytes : (kind first second word : ℕ) → List ℕ
eight_bytes kind first second word = kind ∷ first ∷ second ∷ 0 ∷ low_first 4 word

-- 1 XRES, 2 line reset, 3 read, 4 write
abbrev pub packet_bytes : Packet → List ℕ
packet_bytes Xres = eight_bytes 1 0 0 0
packet_bytes LineReset = eight_bytes 2 0 0 0
packet_bytes (Read request) = eight_bytes 3 request 0 0
packet_bytes (Write request word parity) = eight_bytes 4 request parity word

-- 0 refused, 5 report
abbrev pub outcome_bytes : Outcome → List ℕ
outcome_bytes (Refused n) = eight_bytes 0 n 0 0
outcome_bytes (Ask p) = packet_bytes p
outcome_bytes (Reported r) = eight_bytes 5 r.number r.step r.transfers

-- what the code's outcome is in these words; a refusal's number may be any
abbrev pub outcome_numbered : Result CodeOutcome ℕ → Outcome
outcome_numbered (Ok (Codes.Ask p)) = Ask p
outcome_numbered (Ok (Codes.Reported r)) = Reported r
outcome_numbered (Err n) = Refused n

-- what a caller finds in the bytes
abbrev pub outcome_by : (kind first second word : ℕ) → Outcome
outcome_by kind first second word =
    cond (eqb kind 1) (Ask Xres)
    (cond (eqb kind 2) (Ask LineReset)
    (cond (eqb kind 3) (Ask (Read first))
    (cond (eqb kind 4) (Ask (Write first word second))
    (cond (eqb kind 5) (Reported (record { number = first; step = second; transfers = word })) (Refused first)))))

abbrev pub outcome_in : List ℕ → Outcome
outcome_in bs = outcome_by (get_or bs 0 0) (get_or bs 1 0) (get_or bs 2 0) (word_at bs 4)

-- 0, or the refusal's number: what every call returns
abbrev pub number_of : Outcome → ℕ
number_of (Refused n) = n
number_of (Ask p) = 0
number_of (Reported r) = 0

-- the same of whatever else is given; a refusal's number may be any
abbrev pub number_given : {T : Type 0} → Result T ℕ → ℕ
number_given (Ok _) = 0
number_given (Err n) = n
