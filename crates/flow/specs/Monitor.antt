-- The mishaps (link errors), told by requests and answers alone: document 01, 'The mishaps, numbered as below'. Assumes nothing.
use Rattle.std.specs.Prelude.{Bool, true, false, cond, ℕ, suc, ◌+◌, ◌*◌, ltb, leb}
use Rattle.flow.specs.Map.{place}
use Rattle.flow.specs.Packets.{is_reset, is_attempt, Verdict, okay, again, broken, verdict, same_request}
use Rattle.flow.specs.Words.{test_bit_set, free, succeeded}
use Rattle.flow.specs.declared.Answer.{Answer}
use Rattle.flow.specs.declared.Place.{Place}
use Rattle.flow.specs.declared.Place.TheVariants.{InFlash, InLocks, InParams, AtLevel, AtSysreq, AtSysarg, AtTestMode, Elsewhere}
use Rattle.flow.specs.declared.Request.{Request}
use Rattle.flow.specs.declared.Request.TheVariants.{Xres, LineReset, ReadIdcode, ReadDrw, WriteTar, WriteDrw, WriteSetup}
use Rattle.parts.specs.declared.Geometry.{Geometry}

-- ---- what has been seen, each part changed by its name

-- what delays a session: WAITs, polls that find the call still busy, attempts that fail
pub record Delays : Type 0 where
  pub waits : ℕ
  pub busy_polls : ℕ
  pub missed : ℕ

abbrev pub no_delays : Delays
no_delays = record { waits = 0; busy_polls = 0; missed = 0 }

-- a WAIT and a failed attempt are repeated by one transfer, a poll by three
abbrev pub delayed : Delays → ℕ
delayed d = d.waits + 3 * d.busy_polls + d.missed

abbrev pub one_wait : Delays → Delays
one_wait d = record { waits = suc d.waits; busy_polls = d.busy_polls; missed = d.missed }

abbrev pub one_busy : Delays → Delays
one_busy d = record { waits = d.waits; busy_polls = suc d.busy_polls; missed = d.missed }

abbrev pub one_missed : Delays → Delays
one_missed d = record { waits = d.waits; busy_polls = d.busy_polls; missed = suc d.missed }

-- TAR as written last; whether the next DRW read's word counts; whether a poll loop runs; whether a call's SYSARG Read is due
pub record Watch : Type 0 where
  pub tar : ℕ
  pub counts : Bool
  pub polling : Bool
  pub due : Bool

-- TAR is written: the next DRW read's word is stale
abbrev pub aimed : (tar : ℕ) → Watch → Watch
aimed a t = record { tar = a; counts = false; polling = t.polling; due = t.due }

abbrev pub with_counts : (counts : Bool) → Watch → Watch
with_counts c t = record { tar = t.tar; counts = c; polling = t.polling; due = t.due }

abbrev pub with_polling : (polling : Bool) → Watch → Watch
with_polling p t = record { tar = t.tar; counts = t.counts; polling = p; due = t.due }

abbrev pub with_due : (due : Bool) → Watch → Watch
with_due u t = record { tar = t.tar; counts = t.counts; polling = t.polling; due = u }

-- 'one transfer's .. WAIT running': no transfer waits, or this request has been answered so often by WAIT and by nothing else
pub data Waits : Type 0 where
  no_waits : Waits
  waits_on : Request → (times : ℕ) → Waits

-- the transfer waiting, polls of this loop, attempts running
pub record Seen : Type 0 where
  pub waits : Waits
  pub polls : ℕ
  pub attempts : ℕ
  pub watch : Watch
  pub delays : Delays

abbrev pub waits_are : Waits → Seen → Seen
waits_are w x = record { waits = w; polls = x.polls; attempts = x.attempts; watch = x.watch; delays = x.delays }

abbrev pub polls_are : ℕ → Seen → Seen
polls_are n x = record { waits = x.waits; polls = n; attempts = x.attempts; watch = x.watch; delays = x.delays }

abbrev pub attempts_are : ℕ → Seen → Seen
attempts_are n x = record { waits = x.waits; polls = x.polls; attempts = n; watch = x.watch; delays = x.delays }

abbrev pub with_watch : Watch → Seen → Seen
with_watch t x = record { waits = x.waits; polls = x.polls; attempts = x.attempts; watch = t; delays = x.delays }

abbrev pub delays_are : Delays → Seen → Seen
delays_are d x = record { waits = x.waits; polls = x.polls; attempts = x.attempts; watch = x.watch; delays = d }

-- the run of WAITs is over
abbrev pub none_waits : Seen → Seen
none_waits x = waits_are no_waits x

-- a poll loop begins or ends: its polls are counted afresh
abbrev pub in_loop : (polling : Bool) → Seen → Seen
in_loop p x = polls_are 0 (with_watch (with_polling p x.watch) x)

abbrev pub due_is : Bool → Seen → Seen
due_is u x = with_watch (with_due u x.watch) x

-- ---- what an answer adds

abbrev pub busy_poll : Seen → Seen
busy_poll x = polls_are (suc x.polls) (delays_are (one_busy x.delays) x)

abbrev pub attempt_missed : Seen → Seen
attempt_missed x = none_waits (attempts_are (suc x.attempts) (delays_are (one_missed x.delays) x))

abbrev pub attempt_okay : Seen → Seen
attempt_okay x = attempts_are 0 x

-- the WAITs of a transfer so far: another request starts afresh
abbrev pub waits_of : Request → Waits → ℕ
waits_of q no_waits = 0
waits_of q (waits_on q' n) = cond (same_request q q') n 0

abbrev pub waited : Request → Seen → Seen
waited q x = waits_are (waits_on q (suc (waits_of q x.waits))) (delays_are (one_wait x.delays) x)

-- ---- the first mishap

pub data Monitor : Type 0 where
  watching : Seen → Monitor
  link_error : (number : ℕ) → Monitor

-- before the first request
abbrev pub nothing_seen : Monitor
nothing_seen =
    watching (record { waits = no_waits; polls = 0; attempts = 0; watch = record { tar = 0; counts = false; polling = false; due = false }; delays = no_delays })

-- within the limit, or a mishap
abbrev pub within_limit : Bool → (number : ℕ) → Seen → Monitor
within_limit true n x = watching x
within_limit false n x = link_error n

-- 'a poll loop's 10,000th poll with bit 31 or 28 still set (18)'
abbrev pub notice_poll : (polling free : Bool) → Seen → Monitor
notice_poll false y x = watching x
notice_poll true true x = watching (in_loop false x)
notice_poll true false x = within_limit (ltb (suc x.polls) 10000) 18 (busy_poll x)

-- 'a call after which the Read of SYSARG gives a top digit other than 0xA (19)': the first such Read
abbrev pub notice_status : (due : Bool) → (word : ℕ) → Seen → Monitor
notice_status false w x = watching (due_is false (in_loop false x))
notice_status true w x = within_limit (succeeded w) 19 (due_is false (in_loop false x))

-- 'a Read of TEST_MODE that gives a word without bit 31 (17)'; a poll loop begins after the TEST_MODE Read; any Read elsewhere ends one:
-- in READINGS 27 it is 'the run of SYSREQ Reads'
unfoldable pub notice_read : Place → (word : ℕ) → Seen → Monitor
notice_read (InFlash o) w x = watching (in_loop false x)
notice_read (InLocks o) w x = watching (in_loop false x)
notice_read (InParams o) w x = watching (in_loop false x)
notice_read AtLevel w x = watching (in_loop false x)
notice_read AtSysreq w x = notice_poll x.watch.polling (free w) x
notice_read AtSysarg w x = notice_status x.watch.due w x
notice_read AtTestMode w x = within_limit (test_bit_set w) 17 (in_loop true x)
notice_read Elsewhere w x = watching (in_loop false x)

-- DRW reads come in turn: the stale word, then the one that counts
abbrev pub notice_drw : (counts : Bool) → Geometry → (word : ℕ) → Seen → Monitor
notice_drw false g w x = watching (with_watch (with_counts true x.watch) x)
notice_drw true g w x = notice_read (place g x.watch.tar) w (with_watch (with_counts false x.watch) x)

-- a call's write of SYSREQ: a poll loop begins, and a Read of SYSARG is due
abbrev pub notice_store : (call : Bool) → Place → Seen → Monitor
notice_store false c x = watching x
notice_store true (InFlash o) x = watching x
notice_store true (InLocks o) x = watching x
notice_store true (InParams o) x = watching x
notice_store true AtLevel x = watching x
notice_store true AtSysreq x = watching (due_is true (in_loop true x))
notice_store true AtSysarg x = watching x
notice_store true AtTestMode x = watching x
notice_store true Elsewhere x = watching x

-- a transfer answered OK, a read with right parity
unfoldable pub noticed : Geometry → Request → (word : ℕ) → Seen → Monitor
noticed g Xres w x = watching x
noticed g LineReset w x = watching x
noticed g ReadIdcode w x = watching (attempt_okay x)
noticed g ReadDrw w x = notice_drw x.watch.counts g w x
noticed g (WriteTar a) w x = watching (with_watch (aimed a x.watch) x)
noticed g (WriteDrw v) w x = notice_store (leb 0x80000000 v) (place g x.watch.tar) x
noticed g (WriteSetup r v) w x = watching x

-- 'thirty attempts running without an OK of right parity (26); one transfer's seventeenth WAIT running (27); FAULT (28), silence
-- (29), wrong parity on a read answered OK (30). Inside the IDCODE attempts only 26 counts.'; document 02, Five: 'Noise joins the
-- mishaps.' (33)
abbrev pub watch_by : (attempt : Bool) → Geometry → Request → Verdict → Seen → Monitor
watch_by tries g q (okay w) x = noticed g q w (none_waits x)
watch_by true g q again x = within_limit (ltb (suc x.attempts) 30) 26 (attempt_missed x)
watch_by true g q (broken n) x = within_limit (ltb (suc x.attempts) 30) 26 (attempt_missed x)
watch_by false g q again x = within_limit (ltb (waits_of q x.waits) 16) 27 (waited q x)
watch_by false g q (broken n) x = link_error n

-- a reset is no transfer: what waited starts afresh
unfoldable pub watch : Geometry → Request → Answer → Monitor → Monitor
watch g q a (watching x) = cond (is_reset q) (watching (none_waits x)) (watch_by (is_attempt q) g q (verdict q a) x)
watch g q a (link_error n) = link_error n
