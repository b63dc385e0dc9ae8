-- How an answer moves a session on, by example: on each limit the answer that just goes on beside the one that ends it. Assumes nothing.
use Rattle.std.specs.Prelude.{true, false, ◌≡◌, ℕ, get_or}
use Rattle.flow.specs.Examples.{two_macros}
use Rattle.flow.specs.Judgements.{open_image}
use Rattle.flow.specs.Mishaps.{answer, okay_with, wait}
use Rattle.flow.specs.Packets.{answers}
use Rattle.flow.specs.Sequence.{move, lock_macro, verify_macro, afterwards, end_move}
use Rattle.flow.specs.Session.{SessionState, running, reported, position, move_at, step_of}
use Rattle.flow.specs.declared.Answer.{Answer}
use Rattle.flow.specs.declared.Answer.TheVariants.{ResetDone}
use Rattle.flow.specs.declared.Counters.{Counters}
use Rattle.flow.specs.declared.Entry.TheVariants.{FromOpen, FromProtected}
use Rattle.flow.specs.declared.Position.{Position}
use Rattle.flow.specs.declared.Purpose.TheVariants.{Sent, Idcode, Poll, Status}
use Rattle.flow.specs.declared.Request.TheVariants.{Xres, LineReset, ReadIdcode, ReadDrw, WriteTar, WriteDrw, WriteSetup}
use Rattle.wire.specs.declared.Register.TheVariants.{CtrlStat}

abbrev pub from_open : (at : ℕ) → Position
from_open n = position FromOpen n

abbrev pub counting : (waits polls attempts : ℕ) → Counters
counting w p a = record { waits = w; polls = p; attempts = a; kept = 7 }

-- a session on an image of part 1 at the index `at`, with 7 kept and 40 transfers counted
abbrev pub standing : (at waits polls attempts : ℕ) → SessionState
standing n w p a = running (from_open n) (counting w p a) 40

-- after one more transfer
abbrev pub onto : (at waits polls attempts : ℕ) → SessionState
onto n w p a = running (from_open n) (counting w p a) 41

abbrev pub after : SessionState → Answer → SessionState
after s a = step_of open_image s a

-- some moves, at their indices
pub record MoveExamples : Type 0 where
  pub xres : move_at open_image (from_open 0) ≡ move 1 Xres Sent
  pub idcode : move_at open_image (from_open 2) ≡ move 1 ReadIdcode Idcode
  pub setup : move_at open_image (from_open 3) ≡ move 1 (WriteSetup CtrlStat 0x54000000) Sent
  pub test_mode : move_at open_image (from_open 7) ≡ move 1 (WriteDrw 0x80000000) Sent
  pub stale : move_at open_image (from_open 12) ≡ move 1 ReadDrw Sent
  pub poll : move_at open_image (from_open 13) ≡ move 1 ReadDrw Poll
  -- the calls of steps 1 and 2, 0x15 and 0, alter nothing; 0x0A, which erases, comes in step 3
  pub imo : move_at open_image (from_open 17) ≡ move 1 (WriteDrw 0x80000015) Sent
  pub identify : move_at open_image (from_open 27) ≡ move 2 (WriteDrw 0x80000000) Sent
  pub erase : move_at open_image (from_open 45) ≡ move 3 (WriteDrw 0x8000000A) Sent
  pub reopened : get_or (afterwards open_image FromProtected) 37 end_move ≡ move 2 (WriteDrw 0x80000000) Sent
  -- the last move of row 0, and the first word of row 1's list
  pub row : move_at open_image (from_open 122) ≡ move 5 ReadDrw Status
  pub next_row : move_at open_image (from_open 124) ≡ move 5 (WriteDrw 0x0000D7B6) Sent
  -- step 7 sends the image's level, here OPEN, for macro 0; step 8 reads macro 1's locks at their own address
  pub lock : get_or (lock_macro open_image 0) 31 end_move ≡ move 7 (WriteDrw 0x0001E0B6) Sent
  pub locks : get_or (verify_macro two_macros 1) 0 end_move ≡ move 8 (WriteTar 0x0FFFF400) Sent

-- which answers are ones to a request (14): 'reset done' to a reset alone, and to a transfer every acknowledgement, silence too
pub record AnswerExamples : Type 0 where
  pub xres : answers Xres ResetDone ≡ true
  pub line_reset : answers LineReset ResetDone ≡ true
  pub acknowledged : answers Xres (answer 1 0 0) ≡ false
  pub read : answers ReadDrw (answer 7 0 0) ≡ true
  pub attempt : answers ReadIdcode (answer 0 0 0) ≡ true
  pub written : answers (WriteTar 5) (answer 2 0 0) ≡ true
  pub reset_done : answers (WriteDrw 5) ResetDone ≡ false

-- an acknowledgement that ends the session with this number: at a stale read, at one whose word counts, at a write; not in an attempt
pub record Ends (ack number : ℕ) : Type 0 where
  pub stale : after (standing 12 0 0 0) (answer ack 0 0) ≡ reported number 1 41
  pub counted : after (standing 13 0 0 0) (answer ack 0 0) ≡ reported number 1 41
  pub written : after (standing 3 0 0 0) (answer ack 0 0) ≡ reported number 1 41
  pub attempt29 : after (standing 2 0 0 28) (answer ack 0 0) ≡ onto 1 0 0 29
  pub attempt30 : after (standing 2 0 0 29) (answer ack 0 0) ≡ reported 26 1 41

pub record SessionExamples : Type 0 where
  -- a reset is no transfer; a transfer answered OK leads to the next move and is counted
  pub reset : after (standing 0 0 0 0) ResetDone ≡ standing 1 0 0 0
  pub next : after (standing 3 0 0 0) (answer 1 0 0) ≡ onto 4 0 0 0
  pub next_row : after (standing 122 0 0 0) (okay_with 0xA0000000) ≡ onto 123 0 0 0
  -- 'up to 30 attempts of line reset and read IDCODE'; 'any mishap ends the attempt only'
  pub attempt29 : after (standing 2 0 0 28) wait ≡ onto 1 0 0 29
  pub attempt30 : after (standing 2 0 0 29) wait ≡ reported 26 1 41
  pub attempt_okay : after (standing 2 0 0 29) (okay_with 0x0BB11477) ≡ onto 3 0 0 0
  -- 'WAIT repeats the transfer, 16 times running at most.'; the run starts afresh with each transfer
  pub wait16 : after (standing 3 15 0 0) wait ≡ onto 3 16 0 0
  pub wait17 : after (standing 3 16 0 0) wait ≡ reported 27 1 41
  pub waited : after (standing 3 16 0 0) (answer 1 0 0) ≡ onto 4 0 0 0
  -- 'A poll loop has at most 10,000 polls': a busy poll goes back to its Read's first transfer
  pub poll9999 : after (standing 13 0 9998 0) (okay_with 0x80000000) ≡ onto 11 0 9999 0
  pub poll10000 : after (standing 13 0 9999 0) (okay_with 0x80000000) ≡ reported 18 1 41
  pub polled : after (standing 13 0 9999 0) (okay_with 0) ≡ onto 14 0 0 0
  -- 'FAULT (28), silence (29), wrong parity on a read answered OK (30)'
  pub fault : Ends 4 28
  pub silence : Ends 7 29
  pub wrong_parity : after (standing 13 0 0 0) (answer 1 0 1) ≡ reported 30 1 41
  -- 'an acknowledgement other than 1, 2, 4 and 7' (33)
  pub noise0 : Ends 0 33
  pub noise3 : Ends 3 33
  pub noise5 : Ends 5 33
  pub noise6 : Ends 6 33
  pub noise8 : Ends 8 33
  pub noise255 : Ends 255 33
  -- 'the flow step then running': here 5, the last move of row 0
  pub fault_at5 : after (standing 122 0 0 0) (answer 4 0 0) ≡ reported 28 5 41
  pub status_at5 : after (standing 122 0 0 0) (okay_with 0xF0000000) ≡ reported 19 5 41
  -- the report stays
  pub stays : (number step transfers : ℕ) (a : Answer) → after (reported number step transfers) a ≡ reported number step transfers
