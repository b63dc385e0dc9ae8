-- 13 is closed under steps: what an answer makes of a possible session is possible, also of one that nobody's start gave.
-- Assumes nothing.
use mathlib.Core.Bool.{Bool, true, false, ◌&&◌, ◌||◌, false≢true, cond}
use mathlib.Core.Path.{◌≡◌, refl, sym, ap, ◌∙◌}
use Prim.Native.Nat.{ℕ, suc, ◌≤◌, ◌<◌}
use native.Mathlib.Omega.{arith}
use borrow.Author.Tests.{le-leb, eq-eqb, ltb-true}
use lib.Dec.{eqb, ltb, lit≤}
use lib.ListN.{length}
use Rattle.flow.specs.Judge.{go_if, polled, entry_by, row_in, macro_locks, judge}
use Rattle.flow.specs.Packets.{is_reset, is_attempt, Verdict, okay, again, broken, heard, verdict, is_read, reply_in}
use Rattle.flow.specs.Sequence.{opening}
use Rattle.flow.specs.Session.{running, reported, move_at, try_again, wait_again, settled, heard_by, next_of, arrive, stand_after, counted, step_of}
use Rattle.flow.specs.Session as Flow
use Rattle.flow.specs.Words.{free, test_bit_set, succeeded, ids_fit, level_in, level_shown, sums_fit}
use Rattle.flow.specs.declared.Answer.{Answer}
use Rattle.flow.specs.declared.Counters.{Counters}
use Rattle.flow.specs.declared.Entry.{Entry}
use Rattle.flow.specs.declared.Entry.TheVariants.{FromOpen, FromProtected}
use Rattle.flow.specs.declared.Move.{Move}
use Rattle.flow.specs.declared.Next.{Next}
use Rattle.flow.specs.declared.Next.TheVariants.{Go, Stop}
use Rattle.flow.specs.declared.Position.{Position}
use Rattle.flow.specs.declared.Purpose.{Purpose}
use Rattle.flow.specs.declared.Purpose.TheVariants.{Sent, Idcode, TestBit, Poll, Status, Keep, EntryLevel, Reopened, FlashWord, LockWord, StoredLevel, LastSum}
use Rattle.flow.specs.declared.Request.{Request}
use Rattle.flow.specs.declared.Way.TheVariants.{Onward, Enter}
use Rattle.lent.specs.Words.{same_word}
use Rattle.image.specs.Image.{Image}
use Rattle.session.specs.Possible.{is_failure, report_fits}
use Rattle.flow.proofs.Moves.{Proper, proper-at}
use Rattle.flow.specs.Session.{move_count}
use Rattle.session.proofs.Places.{has-next, opening-in}
use Rattle.wire.specs.Wire.{parity, ack_of}
use Rattle.wire.specs.declared.Ack.{Ack}
use Rattle.wire.specs.declared.Ack.TheVariants.{Okay, Wait, Fault, Silence, Noise}

pub record Within (i : Image) (p : Position) (c : Counters) : Type 0 where
  pub at : p.at < move_count i.geometry p.entry
  pub waits : c.waits ≤ 16
  pub polls : c.polls < 10000
  pub attempts : c.attempts < 30

-- what 13 asks of where a session stands
abbrev pub Stands : Image → Flow.SessionState → Type 0
Stands i (running p c h) = Within i p c
Stands i (reported x t h) = report_fits x t ≡ true

or-true : (b : Bool) → b || true ≡ true
or-true true = refl
or-true false = refl

failed : (x t : ℕ) → is_failure x ≡ true → 1 ≤ t → t ≤ 9 → report_fits x t ≡ true
failed x t h low high = simp (h, le-leb 1 t low, le-leb t 9 high) (or-true (eqb x 0 && eqb t 9))

at-nine : (t : ℕ) → t ≡ 9 → report_fits 0 t ≡ true
at-nine t e = simp (eq-eqb t 9 e)

abbrev is_last : Purpose → Bool
is_last Sent = false
is_last Idcode = false
is_last TestBit = false
is_last Poll = false
is_last Status = false
is_last Keep = false
is_last EntryLevel = false
is_last Reopened = false
is_last (FlashWord r o) = false
is_last (LockWord m o) = false
is_last StoredLevel = false
is_last LastSum = true

-- the numbers of a broken transfer
abbrev Line : Verdict → Type 0
Line (okay x) = Unit {0}
Line again = Unit {0}
Line (broken x) = is_failure x ≡ true

line-heard : (b : Bool) (a : Ack) (w p : ℕ) → Line (heard b a w p)
unfolding heard
line-heard false Okay w p = tt
line-heard true Okay w p = either (eqb p (parity w))
  where
    either : (c : Bool) → Line (cond c (okay w) (broken 30))
    either true = tt
    either false = refl
line-heard false Wait w p = tt
line-heard true Wait w p = tt
line-heard false Fault w p = refl
line-heard true Fault w p = refl
line-heard false Silence w p = refl
line-heard true Silence w p = refl
line-heard false Noise w p = refl
line-heard true Noise w p = refl

line-verdict : (q : Request) (r : Answer) → Line (verdict q r)
unfolding verdict
line-verdict q r = line-heard (is_read q) (ack_of (reply_in r).ack) (reply_in r).word (reply_in r).parity

module _ (i : Image) (p : Position) (c : Counters) (h : Within i p c) where
  abbrev m : Move
  m = move_at i p

  fits : Proper (suc p.at ≡ length (opening i)) 1 m
  fits = proper-at i p.entry p.at

  -- where an answer leads: to a position and counters that 13 allows, or to a report that it allows
  abbrev Allowed : Next → Type 0
  Allowed (Go w d) = Within i (arrive w p) d
  Allowed (Stop x) = report_fits x m.step ≡ true

  fails : (x : ℕ) → is_failure x ≡ true → Allowed (Stop x)
  fails x e = failed x m.step e fits.low fits.high

  next-of : is_last m.purpose ≡ false → suc p.at < move_count i.geometry p.entry
  next-of e = has-next i p.entry p.at h.at (λ q. false≢true (sym e ∙ ap (λ (x : Move). is_last x.purpose) q))

  -- a word, with counters that 13 allows
  module _ (d : Counters) (waits : d.waits ≤ 16) (polls : d.polls < 10000) (attempts : d.attempts < 30) where
    onward : is_last m.purpose ≡ false → Allowed (Go Onward d)
    onward e = record { at = next-of e; waits = waits; polls = polls; attempts = attempts }

    allow-if : is_last m.purpose ≡ false → (b : Bool) (x : ℕ) → is_failure x ≡ true → Allowed (go_if b x d)
    allow-if l true x e = onward l
    allow-if l false x e = fails x e

    allow-poll : is_last m.purpose ≡ false → (b t : Bool) → ltb (suc d.polls) 10000 ≡ t → Allowed (polled b t d)
    allow-poll l true t e = record { at = next-of l; waits = waits; polls = lit≤ tt; attempts = attempts }
    allow-poll l false true e = record { at = omega (arith, h.at); waits = waits; polls = ltb-true (suc d.polls) 10000 e; attempts = attempts }
    allow-poll l false false e = fails 18 refl

    enters : suc p.at ≡ length (opening i) → (y : Entry) → Allowed (Go (Enter y) d)
    enters last y = record { at = omega (arith, last, opening-in i y); waits = waits; polls = polls; attempts = attempts }

    allow-either : (b : Bool) (x x' : Next) → Allowed x → Allowed x' → Allowed (cond b x x')
    allow-either true x x' a a' = a
    allow-either false x x' a a' = a'

    allowed : (u : Purpose) → m.purpose ≡ u → (w : ℕ) → Allowed (judge i u d w)
    unfolding judge
    allowed Sent e w = onward (ap is_last e)
    allowed Idcode e w = allow-if (ap is_last e) (eqb w 0x0BB11477) 16 refl
    allowed TestBit e w = allow-if (ap is_last e) (test_bit_set w) 17 refl
    allowed Poll e w = allow-poll (ap is_last e) (free w) (ltb (suc d.polls) 10000) refl
    allowed Status e w = allow-if (ap is_last e) (succeeded w) 19 refl
    allowed Keep e w = record { at = next-of (ap is_last e); waits = waits; polls = polls; attempts = attempts }
    allowed EntryLevel e w =
        let last : suc p.at ≡ length (opening i) = rw e at fits.reports in
        allow-either (ids_fit i.geometry i.header d.kept w) (entry_by (level_in w) d) (Stop 20)
        (allow-either (eqb (level_in w) 1) (Go (Enter FromOpen) d) (cond (eqb (level_in w) 2) (Go (Enter FromProtected) d) (Stop 21)) (enters last FromOpen)
        (allow-either (eqb (level_in w) 2) (Go (Enter FromProtected) d) (Stop 21) (enters last FromProtected) (fails 21 refl)))
        (fails 20 refl)
    allowed Reopened e w =
        allow-either (ids_fit i.geometry i.header d.kept w) (go_if (eqb (level_in w) 1) 21 d) (Stop 20) (allow-if (ap is_last e) (eqb (level_in w) 1) 21 refl) (fails 20 refl)
    allowed (FlashWord r o) e w = allow-if (ap is_last e) (same_word (row_in i r) o w) 22 refl
    allowed (LockWord n o) e w = allow-if (ap is_last e) (same_word (macro_locks i n) o w) 23 refl
    allowed StoredLevel e w = allow-if (ap is_last e) (eqb (level_shown w) i.header.level) 24 refl
    allowed LastSum e w =
        let nine : m.step ≡ 9 = rw e at fits.reports in
        allow-either (sums_fit i.header w d.kept) (Stop 0) (Stop 25) (at-nine m.step nine) (fails 25 refl)

  try-in : (b : Bool) → ltb (suc c.attempts) 30 ≡ b → Allowed (try_again b c)
  try-in true e = record { at = omega (arith, h.at); waits = lit≤ tt; polls = h.polls; attempts = ltb-true (suc c.attempts) 30 e }
  try-in false e = fails 26 refl

  wait-in : (b : Bool) → ltb c.waits 16 ≡ b → Allowed (wait_again b c)
  wait-in true e = record { at = h.at; waits = ltb-true c.waits 16 e; polls = h.polls; attempts = h.attempts }
  wait-in false e = fails 27 refl

  fewer : (t : Bool) → cond t 0 c.attempts < 30
  fewer true = lit≤ tt
  fewer false = h.attempts

  heard-in : (t : Bool) (v : Verdict) → Line v → Allowed (heard_by t i m.purpose v c)
  heard-in t (okay x) l = allowed (settled t c) (lit≤ tt) h.polls (fewer t) m.purpose refl x
  heard-in true again l = try-in (ltb (suc c.attempts) 30) refl
  heard-in false again l = wait-in (ltb c.waits 16) refl
  heard-in true (broken x) l = try-in (ltb (suc c.attempts) 30) refl
  heard-in false (broken x) l = fails x l

  next-in : (r : Answer) → Allowed (next_of i m r c)
  next-in r = by (is_reset m.request) refl
    where
      by : (t : Bool) → is_reset m.request ≡ t → Allowed (cond t (Go Onward c) (heard_by (is_attempt m.request) i m.purpose (verdict m.request r) c))
      by true e =
          record { at = has-next i p.entry p.at h.at (λ q. false≢true (ap (λ (x : Move). is_reset x.request) (sym q) ∙ e)); waits = h.waits; polls = h.polls; attempts = h.attempts }
      by false e = heard-in (is_attempt m.request) (verdict m.request r) (line-verdict m.request r)

  settle : (x : Next) (t : ℕ) → Allowed x → Stands i (stand_after x p m.step t)
  settle (Go w d) t a = a
  settle (Stop x) t a = a

-- a step keeps what 13 asks
pub step-stands : (i : Image) (x : Flow.SessionState) (r : Answer) → Stands i x → Stands i (step_of i x r)
unfolding step_of
step-stands i (running p c t) r h = settle i p c h (next_of i (move_at i p) r c) (counted (move_at i p).request t) (next-in i p c h r)
step-stands i (reported x s t) r h = h
