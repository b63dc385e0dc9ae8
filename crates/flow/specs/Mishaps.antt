-- The mishaps by example: on each limit the answer that brings a number about, and beside it one that just does not. Assumes nothing.
use Rattle.std.specs.Prelude.{Bool, true, false, ◌≡◌, ℕ}
use Rattle.flow.specs.Examples.{part_one}
use Rattle.flow.specs.Monitor.{Delays, no_delays, Watch, no_waits, waits_on, Seen, Monitor, watching, link_error, watch}
use Rattle.flow.specs.declared.Answer.{Answer}
use Rattle.flow.specs.declared.Answer.TheVariants.{ResetDone, Transferred}
use Rattle.flow.specs.declared.Request.{Request}
use Rattle.flow.specs.declared.Request.TheVariants.{Xres, LineReset, ReadIdcode, ReadDrw, WriteTar, WriteDrw}
use Rattle.parts.specs.Sizes.{sysreq_of, sysarg_of, PARAMS, TEST-MODE, locks_at, level_at}
use Rattle.wire.specs.Wire.{parity}

-- ---- answers

abbrev pub answer : (ack word parity_bit : ℕ) → Answer
answer k w p = Transferred (record { ack = k; word = w; parity = p })

-- OK, with the word's own parity
abbrev pub okay_with : (word : ℕ) → Answer
okay_with w = answer 1 w (parity w)

abbrev pub wait : Answer
wait = answer 2 0 0

-- ---- what the monitor has seen

-- TAR at an address, the next DRW read's word counts; in a poll loop, with a call's SYSARG Read due
abbrev pub counting_at : (address : ℕ) → (polling due : Bool) → Watch
counting_at a y u = record { tar = a; counts = true; polling = y; due = u }

-- after that word
abbrev pub read_at : (address : ℕ) → (polling due : Bool) → Watch
read_at a y u = record { tar = a; counts = false; polling = y; due = u }

-- polls of this loop, attempts running; no transfer waits
abbrev pub seen_with : Delays → (polls attempts : ℕ) → Watch → Monitor
seen_with d p a t = watching (record { waits = no_waits; polls = p; attempts = a; watch = t; delays = d })

-- nothing has been delayed
abbrev pub seen : (polls attempts : ℕ) → Watch → Monitor
seen p a t = seen_with no_delays p a t

-- one busy poll, one failed attempt more than that
abbrev pub polled_busy : (polls attempts : ℕ) → Watch → Monitor
polled_busy p a t = seen_with (record { waits = 0; busy_polls = 1; missed = 0 }) p a t

abbrev pub missed_one : (polls attempts : ℕ) → Watch → Monitor
missed_one p a t = seen_with (record { waits = 0; busy_polls = 0; missed = 1 }) p a t

-- a request has been answered by WAIT so often, `all` WAITs in all
abbrev pub waited : Request → (times all : ℕ) → Monitor
waited q n k =
    watching (record { waits = waits_on q n; polls = 0; attempts = 0; watch = read_at 0 false false; delays = record { waits = k; busy_polls = 0; missed = 0 } })

-- all that was seen but for the transfer that waits
abbrev pub unwaiting : Seen → Seen
unwaiting x = record { waits = no_waits; polls = x.polls; attempts = x.attempts; watch = x.watch; delays = x.delays }

-- a DRW read, and an attempt's read of IDCODE
abbrev pub after_read : Answer → Monitor → Monitor
after_read r m = watch part_one ReadDrw r m

abbrev pub after_attempt : Answer → Monitor → Monitor
after_attempt r m = watch part_one ReadIdcode r m

abbrev pub SYSREQ : ℕ
SYSREQ = sysreq_of part_one

abbrev pub SYSARG : ℕ
SYSARG = sysarg_of part_one

abbrev pub LOCKS : ℕ
LOCKS = locks_at part_one 0

abbrev pub LEVEL : ℕ
LEVEL = level_at part_one

-- 17 to 19: what the words say
pub record WordMishaps : Type 0 where
  -- 'a Read of TEST_MODE that gives a word without bit 31 (17)'; with it the poll loop of step 1 begins
  pub test_bit_clear : after_read (okay_with 0x7FFFFFFF) (seen 0 0 (counting_at TEST-MODE false false)) ≡ link_error 17
  pub test_bit_set : after_read (okay_with 0x80000000) (seen 0 0 (counting_at TEST-MODE false false)) ≡ seen 0 0 (read_at TEST-MODE true false)
  -- the stale word before it is not judged
  pub stale : after_read (okay_with 0x7FFFFFFF) (seen 0 0 (read_at TEST-MODE false false)) ≡ seen 0 0 (counting_at TEST-MODE false false)
  -- 'a poll loop's 10,000th poll with bit 31 or 28 still set (18)': not the 9,999th, not with any other bit
  pub poll10000 : after_read (okay_with 0x80000000) (seen 9999 0 (counting_at SYSREQ true true)) ≡ link_error 18
  pub bit28 : after_read (okay_with 0x10000000) (seen 9999 0 (counting_at SYSREQ true true)) ≡ link_error 18
  pub poll9999 : after_read (okay_with 0x10000000) (seen 9998 0 (counting_at SYSREQ true true)) ≡ polled_busy 9999 0 (read_at SYSREQ true true)
  pub other_bits : after_read (okay_with 0x6FFFFFFF) (seen 9999 0 (counting_at SYSREQ true true)) ≡ seen 0 0 (read_at SYSREQ false true)
  -- a Read of SYSREQ after the loop's end is no poll, and a Read of another place ends a loop
  pub no_poll : after_read (okay_with 0x80000000) (seen 9999 0 (counting_at SYSREQ false false)) ≡ seen 9999 0 (read_at SYSREQ false false)
  pub loop_left : after_read (okay_with 0) (seen 9999 0 (counting_at 0 true true)) ≡ seen 0 0 (read_at 0 false true)
  pub loop_left_locks : after_read (okay_with 0) (seen 9999 0 (counting_at LOCKS true true)) ≡ seen 0 0 (read_at LOCKS false true)
  pub loop_left_params : after_read (okay_with 0) (seen 9999 0 (counting_at PARAMS true true)) ≡ seen 0 0 (read_at PARAMS false true)
  pub loop_left_level : after_read (okay_with 0) (seen 9999 0 (counting_at LEVEL true true)) ≡ seen 0 0 (read_at LEVEL false true)
  pub loop_left_elsewhere : after_read (okay_with 0) (seen 9999 0 (counting_at 0x30000000 true true)) ≡ seen 0 0 (read_at 0x30000000 false true)
  -- 'a call after which the Read of SYSARG gives a top digit other than 0xA (19)': the first Read after the call alone
  pub digit_b : after_read (okay_with 0xB0000000) (seen 0 0 (counting_at SYSARG false true)) ≡ link_error 19
  pub digit2 : after_read (okay_with 0x2A000000) (seen 0 0 (counting_at SYSARG false true)) ≡ link_error 19
  pub digit_a : after_read (okay_with 0xAFFFFFFF) (seen 0 0 (counting_at SYSARG false true)) ≡ seen 0 0 (read_at SYSARG false false)
  pub second_read : after_read (okay_with 0xB0000000) (seen 0 0 (counting_at SYSARG false false)) ≡ seen 0 0 (read_at SYSARG false false)
  -- a call is a write of SYSREQ with bit 31; neither another word there nor that word elsewhere
  pub call : watch part_one (WriteDrw 0x80000004) (answer 1 0 0) (seen 3 0 (read_at SYSREQ false false)) ≡ seen 0 0 (read_at SYSREQ true true)
  pub no_call : watch part_one (WriteDrw 0x7FFFFFFF) (answer 1 0 0) (seen 3 0 (read_at SYSREQ false false)) ≡ seen 3 0 (read_at SYSREQ false false)
  pub list_word : watch part_one (WriteDrw 0x80000004) (answer 1 0 0) (seen 3 0 (read_at PARAMS false false)) ≡ seen 3 0 (read_at PARAMS false false)

-- an acknowledgement that is this mishap: at a stale read, at one whose word counts, at a write; an attempt it only ends
pub record Breaks (ack number : ℕ) : Type 0 where
  pub stale : after_read (answer ack 0 0) (seen 0 0 (read_at 0 false false)) ≡ link_error number
  pub counted : after_read (answer ack 0 0) (seen 0 0 (counting_at 0 false false)) ≡ link_error number
  pub written : watch part_one (WriteDrw 5) (answer ack 0 0) (seen 0 0 (read_at 0 false false)) ≡ link_error number
  pub attempt29 : after_attempt (answer ack 0 0) (seen 0 28 (read_at 0 false false)) ≡ missed_one 0 29 (read_at 0 false false)
  pub attempt30 : after_attempt (answer ack 0 0) (seen 0 29 (read_at 0 false false)) ≡ link_error 26

-- 26 to 30, and 33: what the line does
pub record LineMishaps : Type 0 where
  -- 'thirty attempts running without an OK of right parity (26)'; 'Inside the IDCODE attempts only 26 counts.'
  pub attempt30 : after_attempt (answer 2 0 0) (seen 0 29 (read_at 0 false false)) ≡ link_error 26
  pub attempt29 : after_attempt (answer 1 0 1) (seen 0 28 (read_at 0 false false)) ≡ missed_one 0 29 (read_at 0 false false)
  pub attempt_okay : after_attempt (answer 1 0 0) (seen 0 29 (read_at 0 false false)) ≡ seen 0 0 (read_at 0 false false)
  -- 'one transfer's seventeenth WAIT running (27)'
  pub wait17 : after_read wait (waited ReadDrw 16 16) ≡ link_error 27
  pub wait16 : after_read wait (waited ReadDrw 15 15) ≡ waited ReadDrw 16 16
  -- the run starts afresh with an OK, with another register, with another word, and after a reset
  pub afresh : after_read (answer 1 0 0) (waited ReadDrw 16 0) ≡ seen 0 0 (counting_at 0 false false)
  pub other_register : watch part_one (WriteTar 5) wait (waited (WriteDrw 5) 16 16) ≡ waited (WriteTar 5) 1 17
  pub other_word : watch part_one (WriteDrw 5) wait (waited (WriteDrw 6) 16 16) ≡ waited (WriteDrw 5) 1 17
  pub same_word : watch part_one (WriteDrw 5) wait (waited (WriteDrw 5) 16 16) ≡ link_error 27
  pub xres_between : watch part_one Xres ResetDone (waited ReadDrw 16 0) ≡ seen 0 0 (read_at 0 false false)
  pub line_reset_between : watch part_one LineReset ResetDone (waited ReadDrw 16 0) ≡ seen 0 0 (read_at 0 false false)
  -- 'FAULT (28), silence (29), wrong parity on a read answered OK (30)'; on a write word and parity say nothing
  pub fault : Breaks 4 28
  pub silence : Breaks 7 29
  pub wrong_parity : after_read (answer 1 0 1) (seen 0 0 (read_at 0 false false)) ≡ link_error 30
  pub written_parity : watch part_one (WriteDrw 0) (answer 1 0 1) (seen 0 0 (read_at 0 false false)) ≡ seen 0 0 (read_at 0 false false)
  -- 'an acknowledgement other than 1, 2, 4 and 7' (33)
  pub noise0 : Breaks 0 33
  pub noise3 : Breaks 3 33
  pub noise5 : Breaks 5 33
  pub noise6 : Breaks 6 33
  pub noise8 : Breaks 8 33
  pub noise255 : Breaks 255 33
  -- the first mishap stays; a reset is none, and changes nothing else of what has been seen
  pub first : (q : Request) (r : Answer) (number : ℕ) → watch part_one q r (link_error number) ≡ link_error number
  pub xres : (x : Seen) → watch part_one Xres ResetDone (watching x) ≡ watching (unwaiting x)
  pub line_reset : (x : Seen) → watch part_one LineReset ResetDone (watching x) ≡ watching (unwaiting x)
