-- A session's fields as the session of the flow, and the session of zeros. Assumes nothing.
use Rattle.std.specs.Prelude.{true, false, cond, ℕ, min}
use Rattle.flow.specs.Plan.{most_traffic}
use Rattle.flow.specs.Session.{running, reported, position, at_start, no_counts}
use Rattle.flow.specs.Session as Flow
use Rattle.flow.specs.declared.Counters.{Counters}
use Rattle.flow.specs.declared.Entry.TheVariants.{FromProtected}
use Rattle.flow.specs.declared.Position.{Position}
use Rattle.image.specs.Image.{no_header}
use Rattle.image.specs.declared.Header.{Header}
use Rattle.parts.specs.declared.Geometry.{Geometry}
use Rattle.session.specs.declared.Session.{Session}

-- where the session stands in the flow
abbrev pub stand_of : Session → Flow.SessionState
stand_of s =
    cond s.finished (reported s.number s.step s.transfers)
    (running s.position s.counters s.transfers)

-- 'A record, session or length given with a refusal is all 0.'
abbrev pub no_session : Session
no_session = record { header = no_header; position = at_start; counters = no_counts; transfers = 0; finished = false; number = 0; step = 0 }

-- the session that starting gives: XRES stands
abbrev pub first_for : Header → Session
first_for h = record { header = h; position = at_start; counters = no_counts; transfers = 0; finished = false; number = 0; step = 0 }

-- the most transfers that document 01's count allows for the part and M: those from PROTECTED
abbrev pub most_of : Geometry → ℕ
most_of g = (most_traffic g FromProtected).transfers

-- a session of the same image that goes on so, and one that has reported
abbrev pub running_at : Session → Position → Counters → (transfers : ℕ) → Session
running_at s p c t = record { header = s.header; position = p; counters = c; transfers = t; finished = false; number = 0; step = 0 }

abbrev pub reported_at : Session → (number step transfers : ℕ) → Session
reported_at s x r t = record {
  header = s.header;
  position = position s.position.entry 0;
  counters = no_counts;
  transfers = t;
  finished = true;
  number = x;
  step = r;
}

-- a session of the same image that stands so; the count stops at document 01's formula, which no run from a start goes past
unfoldable pub resumed : Geometry → Session → Flow.SessionState → Session
resumed g s (running p c h) = running_at s p c (min h (most_of g))
resumed g s (reported x t h) = reported_at s x t (min h (most_of g))
