-- The headers, sessions and outcomes that bytes can hold. Assumes nothing.
use Rattle.std.specs.Prelude.{List, ◌≡◌, ℕ, ◌<◌, length, get_or}
use Rattle.flow.specs.Packets.{word_in}
use Rattle.image.specs.declared.Header.{Header}
use Rattle.layout.specs.Bytes.{Word}
use Rattle.session.specs.Outcomes.{Outcome, Refused, Ask, Reported}
use Rattle.session.specs.declared.Session.{Session}

-- each element is a byte
abbrev pub Bytes : List ℕ → Type 0
Bytes bs = (k : ℕ) → get_or bs k 0 < 256

-- a header has twelve metadata bytes
abbrev pub Twelve : Header → Type 0
Twelve h = length h.metadata ≡ 12

-- a session whose words have 32 bits
pub record InWords (s : Session) : Type 0 where
  pub twelve : Twelve s.header
  pub at : Word s.position.at
  pub waits : Word s.counters.waits
  pub polls : Word s.counters.polls
  pub attempts : Word s.counters.attempts
  pub kept : Word s.counters.kept
  pub transfers : Word s.transfers

-- the word of an outcome, where it has one
abbrev pub outcome_word : Outcome → ℕ
outcome_word (Refused n) = 0
outcome_word (Ask p) = word_in p
outcome_word (Reported r) = r.transfers
