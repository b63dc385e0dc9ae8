-- The session as an index into the sequence, and counters; how one answer moves it on. Assumes nothing.
use Rattle.std.specs.Prelude.{Bool, true, false, cond, [], ℕ, suc, ◌-◌, ltb, length, get_or}
use Rattle.flow.specs.Judge.{with_waits, with_attempts, judge}
use Rattle.flow.specs.Packets.{is_reset, is_attempt, Verdict, okay, again, broken, verdict}
use Rattle.flow.specs.Sequence.{sequence, end_move}
use Rattle.flow.specs.declared.Answer.{Answer}
use Rattle.flow.specs.declared.Counters.{Counters}
use Rattle.flow.specs.declared.Entry.{Entry}
use Rattle.flow.specs.declared.Entry.TheVariants.{FromOpen}
use Rattle.flow.specs.declared.Move.{Move}
use Rattle.flow.specs.declared.Next.{Next}
use Rattle.flow.specs.declared.Next.TheVariants.{Go, Stop}
use Rattle.flow.specs.declared.Position.{Position}
use Rattle.flow.specs.declared.Purpose.{Purpose}
use Rattle.flow.specs.declared.Request.{Request}
use Rattle.flow.specs.declared.Way.{Way}
use Rattle.flow.specs.declared.Way.TheVariants.{Onward, Stay, ToReset, ToPoll, Enter}
use Rattle.image.specs.Image.{Image, image_of, no_header}
use Rattle.parts.specs.declared.Geometry.{Geometry}

-- where a session stands in the flow; the `Session` of crate session has it beside the image's header (`stand_of` there).
-- transfers: the reads and writes answered. 'A report carries number (0 done), the flow step then running .. and transfers'
pub data SessionState : Type 0 where
  running : Position → Counters → (transfers : ℕ) → SessionState
  reported : (number step transfers : ℕ) → SessionState

abbrev pub position : Entry → (at : ℕ) → Position
position y n = record { entry = y; at = n }

abbrev pub move_at : Image → Position → Move
move_at i p = get_or (sequence i p.entry) p.at end_move

-- how many moves there are; the geometry alone decides it, so an image without bytes tells
abbrev pub bare : Geometry → Image
bare g = image_of g no_header []

abbrev pub move_count : Geometry → Entry → ℕ
move_count g y = length (sequence (bare g) y)

-- ---- where an answer leads, wherever the session stands

-- 'up to 30 attempts of line reset and read IDCODE'; 'any mishap ends the attempt only'
abbrev pub try_again : (within : Bool) → Counters → Next
try_again true c = Go ToReset (with_waits 0 (with_attempts (suc c.attempts) c))
try_again false c = Stop 26

-- 'WAIT repeats the transfer, 16 times running at most.'
abbrev pub wait_again : (within : Bool) → Counters → Next
wait_again true c = Go Stay (with_waits (suc c.waits) c)
wait_again false c = Stop 27

-- an OK ends the run of WAITs, and an attempt's the attempts
abbrev pub settled : (attempt : Bool) → Counters → Counters
settled t c = record { waits = 0; polls = c.polls; attempts = cond t 0 c.attempts; kept = c.kept }

-- 'Attempts in step 1 aren't repeated for WAIT'
abbrev pub heard_by : (attempt : Bool) → Image → Purpose → Verdict → Counters → Next
heard_by t i u (okay x) c = judge i u (settled t c) x
heard_by t i u again c = cond t (try_again (ltb (suc c.attempts) 30) c) (wait_again (ltb c.waits 16) c)
heard_by t i u (broken x) c = cond t (try_again (ltb (suc c.attempts) 30) c) (Stop x)

-- the move m, answered; a reset's answer says nothing
abbrev pub next_of : Image → Move → Answer → Counters → Next
next_of i m r c = cond (is_reset m.request) (Go Onward c) (heard_by (is_attempt m.request) i m.purpose (verdict m.request r) c)

-- ---- the position that it leads to

-- every position that an answer leads on to is made here
abbrev pub arrive : Way → Position → Position
arrive Onward p = position p.entry (suc p.at)
arrive Stay p = p
arrive ToReset p = position p.entry (p.at - 1)
arrive ToPoll p = position p.entry (p.at - 2)
arrive (Enter y) p = position y (suc p.at)

abbrev pub stand_after : Next → Position → (step transfers : ℕ) → SessionState
stand_after (Go w c) p s h = running (arrive w p) c h
stand_after (Stop x) p s h = reported x s h

-- the transfers answered, after this one
abbrev pub counted : Request → (transfers : ℕ) → ℕ
counted q h = cond (is_reset q) h (suc h)

-- the standing move m, answered
abbrev pub act : Image → Move → Answer → Position → Counters → (transfers : ℕ) → SessionState
act i m r p c h = stand_after (next_of i m r c) p m.step (counted m.request h)

unfoldable pub step_of : Image → SessionState → Answer → SessionState
step_of i (running p c h) r = act i (move_at i p) r p c h
step_of i (reported x s h) r = reported x s h

-- XRES stands
abbrev pub at_start : Position
at_start = position FromOpen 0

abbrev pub no_counts : Counters
no_counts = record { waits = 0; polls = 0; attempts = 0; kept = 0 }

abbrev pub first_session : SessionState
first_session = running at_start no_counts 0
