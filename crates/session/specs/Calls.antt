-- Any list of calls on one target: document 01, 'In such a list a step carries the board's answer to the last request, or anything
-- that 12 or 14 refuses, after which the request still stands; after the report, any answer.' Assumes nothing.
use Rattle.std.specs.Prelude.{List, ◌≡◌, ℕ, suc, Option, Some, None}
use Rattle.flow.specs.Exchange.{decode, Met, meet}
use Rattle.flow.specs.Monitor.{Monitor, watching, link_error, nothing_seen, watch}
use Rattle.flow.specs.Plan.{Traffic, no_traffic, counting_packet}
use Rattle.flow.specs.Target.{Target, Lists}
use Rattle.flow.specs.declared.Answer.{Answer}
use Rattle.flow.specs.declared.Packet.{Packet}
use Rattle.flow.specs.declared.Request.{Request}
use Rattle.parts.specs.declared.Geometry.{Geometry}
use Rattle.session.specs.Given.{step_with}
use Rattle.session.specs.Outcomes.{Given, Outcome, Refused, Ask, Reported}
use Rattle.session.specs.declared.Report.{Report}
use Rattle.session.specs.declared.Session.{Session}

-- what a call hands out, counted
abbrev pub handing : Outcome → Traffic → Traffic
handing (Refused n) t = t
handing (Ask p) t = counting_packet p t
handing (Reported r) t = t

-- 'a request or the report'
pub data Gives : Outcome → Type 0 where
  asks : (p : Packet) → Gives (Ask p)
  reports : (r : Report) → Gives (Reported r)

-- a refused step hands out nothing: what stood still stands
abbrev pub standing : (before now : Outcome) → Outcome
standing before (Refused n) = before
standing before (Ask p) = Ask p
standing before (Reported r) = Reported r

-- a packet that is no request is met by silence (29); the first mishap stays
abbrev pub unanswered : Monitor → Monitor
unanswered (watching x) = link_error 29
unanswered (link_error n) = link_error n

-- the mishaps are told by what is on the wire
abbrev pub watch_packet : Geometry → Option Request → Answer → Monitor → Monitor
watch_packet g (Some q) a m = watch g q a m
watch_packet g None a m = unanswered m

-- the session that the last call gave, the request or report that stands, the target, what is left of its free lists, what the
-- monitor has seen, and the requests handed out, the standing one included
pub record State : Type 0 where
  pub session : Session
  pub stands : Outcome
  pub target : Target
  pub lists : Lists
  pub monitor : Monitor
  pub traffic : Traffic

-- after a start that gave this
abbrev pub begun : Given → Target → Lists → State
begun r b l = record {
  session = r.session;
  stands = r.outcome;
  target = b;
  lists = l;
  monitor = nothing_seen;
  traffic = handing r.outcome no_traffic;
}

-- how the target meets the standing packet
abbrev pub reaction : Geometry → Packet → State → Met
reaction g p s = meet g p s.lists s.target

-- after a step that gave this on the target's answer
abbrev pub answered : Geometry → Packet → Met → Given → State → State
answered g p m r s = record {
  session = r.session;
  stands = standing s.stands r.outcome;
  target = m.target;
  lists = m.lists;
  monitor = watch_packet g (decode p) m.answer s.monitor;
  traffic = handing r.outcome s.traffic;
}

-- after any other step: the target meets nothing
abbrev pub called : Given → State → State
called r s = record {
  session = r.session;
  stands = standing s.stands r.outcome;
  target = s.target;
  lists = s.lists;
  monitor = s.monitor;
  traffic = handing r.outcome s.traffic;
}

-- lists of n steps that carry the target's answer and k others; each has the session that the call before it gave, and what a step
-- gives is what its contract says
pub data Steps (g : Geometry) (bytes : List ℕ) : (n k : ℕ) → State → State → Type 0 where
  none : {s : State} → Steps g bytes 0 0 s s
  -- the image lent, and the target's answer to the standing packet
  answer : {n k : ℕ} {s s' : State} (p : Packet) → s.stands ≡ Ask p
      → Steps g bytes n k (answered g p (reaction g p s) (step_with s.session bytes (reaction g p s).answer) s) s'
      → Steps g bytes (suc n) k s s'
  -- any bytes and any answer, if the step is refused
  refusal : {n k : ℕ} {s s' : State} (lent : List ℕ) (a : Answer) (number : ℕ) → (step_with s.session lent a).outcome ≡ Refused number
      → Steps g bytes n k (called (step_with s.session lent a) s) s' → Steps g bytes n (suc k) s s'
  -- after the report, the image lent and any answer
  later : {n k : ℕ} {s s' : State} (a : Answer) (r : Report) → s.stands ≡ Reported r
      → Steps g bytes n k (called (step_with s.session bytes a) s) s' → Steps g bytes n (suc k) s s'
