-- What a list of demand 3 may hold: none of document 01's steps is left out, and what each of them changes. Assumes nothing.
use Rattle.std.specs.Prelude.{List, ◌≡◌, ℕ, ◌-◌}
use Rattle.flow.specs.Exchange.{decode, meet}
use Rattle.flow.specs.Monitor.{link_error, nothing_seen}
use Rattle.flow.specs.Plan.{no_traffic, counting_packet}
use Rattle.flow.specs.declared.Answer.{Answer}
use Rattle.flow.specs.declared.Packet.{Packet}
use Rattle.flow.specs.declared.Packet.TheVariants.{Xres, LineReset, Read, Write}
use Rattle.parts.specs.declared.Geometry.{Geometry}
use Rattle.session.specs.Calls.{State, Steps, watch_packet}
use Rattle.session.specs.Given.{step_with}
use Rattle.session.specs.Outcomes.{Refused, Ask, Reported}
use Rattle.session.specs.declared.Report.{Report}

-- a list of one step, which carries the board's answer or not, leads from a state to one with this session and this board
pub record Reached (g : Geometry) (bytes : List ℕ) (answers : ℕ) (s : State) (Session Board : State → Type 0) : Type 0 where
  pub state : State
  pub steps : Steps g bytes answers (1 - answers) s state
  pub session : Session state
  pub board : Board state

pub record ListExamples : Type 0 where
  -- 'a step carries the board's answer to the last request'; 'The board meets every request once'
  pub answer : (g : Geometry) (bytes : List ℕ) (s : State) (p : Packet) → s.stands ≡ Ask p
      → Reached g bytes 1 s
      (λ t. t.session ≡ (step_with s.session bytes (meet g p s.lists s.target).answer).session)
      (λ t. t.target ≡ (meet g p s.lists s.target).target)
  -- 'or anything that 12 or 14 refuses, after which the request still stands': any image and any answer, and nothing has changed
  pub refusal : (g : Geometry) (bytes : List ℕ) (s : State) (lent : List ℕ) (a : Answer) (number : ℕ)
      → (step_with s.session lent a).outcome ≡ Refused number
      → Steps g bytes 0 1 s s
  -- 'after the report, any answer': the board meets nothing
  pub later : (g : Geometry) (bytes : List ℕ) (s : State) (a : Answer) (r : Report) → s.stands ≡ Reported r
      → Reached g bytes 0 s (λ t. t.session ≡ (step_with s.session bytes a).session) (λ t. t.target ≡ s.target)
  -- a packet that is no request, here 0xFF, is met by silence and so is a mishap, unless there was one before
  pub unknown : (g : Geometry) (a : Answer) → watch_packet g (decode (Read 0xFF)) a nothing_seen ≡ link_error 29
  pub first : (g : Geometry) (a : Answer) (number : ℕ) → watch_packet g (decode (Read 0xFF)) a (link_error number) ≡ link_error number
  -- 'the reads and writes handed out, repeats included, resets not', and the resets
  pub counted : (byte word parity_bit : ℕ)
      → counting_packet (Write byte word parity_bit) (counting_packet (Read byte) (counting_packet LineReset (counting_packet Xres no_traffic))) ≡ record { transfers = 2; xresets = 1; line_resets = 1 }
