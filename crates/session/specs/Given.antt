-- What starting and a step give: document 01, 'Who brings a number about', last paragraph. Assumes nothing.
use Rattle.std.specs.Prelude.{Bool, ◌&&◌, not, cond, List, ℕ, eqb, length, Ok, Err}
use Rattle.flow.specs.Packets.{answers, packet_of}
use Rattle.flow.specs.Session.{running, reported, move_at, step_of}
use Rattle.flow.specs.Session as Flow
use Rattle.flow.specs.declared.Answer.{Answer}
use Rattle.flow.specs.declared.Packet as Packets
use Rattle.image.specs.Checks.{image_fault}
use Rattle.image.specs.Image.{Image, image_of}
use Rattle.image.specs.declared.Header.{Header}
use Rattle.parts.specs.Parts.{Lookup, lookup_of}
use Rattle.parts.specs.Sizes.{image_size}
use Rattle.parts.specs.declared.Geometry.{Geometry}
use Rattle.session.specs.Possible.{possible_in}
use Rattle.session.specs.Sessions.{stand_of, no_session, first_for, resumed}
use Rattle.session.specs.Outcomes as Outcomes
use Rattle.session.specs.Outcomes.{Given, Outcome}
use Rattle.session.specs.declared.Session.{Session}

-- ---- starting

-- 'Starting gives the session and its first request, XRES.'
abbrev pub started_on : Header → Given
started_on h = record { session = first_for h; outcome = Outcomes.Ask Packets.TheVariants.Xres }

abbrev pub start_refused : (number : ℕ) → Given
start_refused n = record { session = no_session; outcome = Outcomes.Refused n }

-- '15 KILL without leave'
abbrev pub wants_leave : Header → (leave : Bool) → Bool
wants_leave h leave = eqb h.level 4 && not leave

-- 'Writing and starting check 11, 12, 6 to 10; starting then 15.'
unfoldable pub start_of : Header → List ℕ → (leave : Bool) → Given
start_of h bytes leave =
    cond (eqb (image_fault h bytes) 0) (cond (wants_leave h leave) (start_refused 15) (started_on h)) (start_refused (image_fault h bytes))

-- ---- stepping

-- 'refused, gives back the session it got and no request'
abbrev pub refusing : Session → (number : ℕ) → Given
refusing s n = record { session = s; outcome = Outcomes.Refused n }

-- what stands: a request, or the report
abbrev pub outcome_at : Image → Flow.SessionState → Outcome
outcome_at i (running p c h) = Outcomes.Ask (packet_of (move_at i p).request)
outcome_at i (reported x t h) = Outcomes.Reported (record { number = x; step = t; transfers = h })

-- an unrefused step: what stands in the session that it gives
abbrev pub giving : Image → Session → Given
giving i s = record { session = s; outcome = outcome_at i (stand_of s) }

-- '14 reset answered by an acknowledgement or the reverse' (`answers`); 'a finished session that passes 13 and 12 repeats its report for any answer, without 14'
abbrev pub step_on : Geometry → Session → List ℕ → Answer → Given
step_on g s bytes a =
    cond s.finished (giving (image_of g s.header bytes) s)
    (cond (answers (move_at (image_of g s.header bytes) s.position).request a)
    (giving (image_of g s.header bytes) (resumed g s (step_of (image_of g s.header bytes) (stand_of s) a)))
    (refusing s 14))

-- 'A step checks 13, 12, 14'
abbrev pub step_for : Lookup → Session → List ℕ → Answer → Given
step_for (Err n) s bytes a = refusing s 13
step_for (Ok g) s bytes a =
    cond (possible_in g s) (cond (eqb (length bytes) (image_size g)) (step_on g s bytes a) (refusing s 12)) (refusing s 13)

unfoldable pub step_with : Session → List ℕ → Answer → Given
step_with s bytes a = step_for (lookup_of s.header.part s.header.macros) s bytes a
