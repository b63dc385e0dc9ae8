-- The ways that an answer to a move can lead, whatever it says. Assumes nothing.
use mathlib.Core.Bool.{Bool, true, false, cond}
use mathlib.Core.Path.{◌≡◌, refl}
use Prim.Native.Nat.{ℕ, suc}
use lib.Dec.{eqb, ltb}
use Rattle.flow.specs.Judge.{go_if, polled, row_in, macro_locks, judge}
use Rattle.flow.specs.Packets.{is_reset, is_attempt, Verdict, okay, again, broken, verdict}
use Rattle.flow.specs.Session.{try_again, wait_again, settled, heard_by, next_of}
use Rattle.flow.specs.Words.{free, test_bit_set, succeeded, ids_fit, level_in, level_shown, sums_fit}
use Rattle.flow.specs.declared.Answer.{Answer}
use Rattle.flow.specs.declared.Counters.{Counters}
use Rattle.flow.specs.declared.Entry.{Entry}
use Rattle.flow.specs.declared.Move.{Move}
use Rattle.flow.specs.declared.Next.{Next}
use Rattle.flow.specs.declared.Next.TheVariants.{Go, Stop}
use Rattle.flow.specs.declared.Purpose.{Purpose}
use Rattle.flow.specs.declared.Purpose.TheVariants.{Sent, Idcode, TestBit, Poll, Status, Keep, EntryLevel, Reopened, FlashWord, LockWord, StoredLevel, LastSum}
use Rattle.flow.specs.declared.Way.TheVariants.{Onward, Stay, ToReset, ToPoll, Enter}
use Rattle.image.specs.Image.{Image}
use Rattle.lent.specs.Words.{same_word}

-- back only from a poll or an attempt, by an entry only where the level is read, to a report only from a transfer
pub data Leads (m : Move) : Next → Type 0 where
  onward : {c : Counters} → Leads m (Go Onward c)
  stays : {c : Counters} → Leads m (Go Stay c)
  retries : {c : Counters} → is_attempt m.request ≡ true → Leads m (Go ToReset c)
  polls : {c : Counters} → m.purpose ≡ Poll → Leads m (Go ToPoll c)
  enters : {y : Entry} {c : Counters} → m.purpose ≡ EntryLevel → Leads m (Go (Enter y) c)
  stops : {x : ℕ} → is_reset m.request ≡ false → Leads m (Stop x)

module _ (i : Image) (m : Move) (some : is_reset m.request ≡ false) where
  goes : (t : Bool) (x : ℕ) (c : Counters) → Leads m (go_if t x c)
  goes true x c = onward
  goes false x c = stops some

  either : (t : Bool) {x x' : Next} → Leads m x → Leads m x' → Leads m (cond t x x')
  either true h h' = h
  either false h h' = h'

  by-poll : m.purpose ≡ Poll → (t t' : Bool) (c : Counters) → Leads m (polled t t' c)
  by-poll e true t c = onward
  by-poll e false true c = polls e
  by-poll e false false c = stops some

  judged : (u : Purpose) → m.purpose ≡ u → (c : Counters) (w : ℕ) → Leads m (judge i u c w)
  unfolding judge
  judged Sent e c w = onward
  judged Idcode e c w = goes (eqb w 0x0BB11477) 16 c
  judged TestBit e c w = goes (test_bit_set w) 17 c
  judged Poll e c w = by-poll e (free w) (ltb (suc c.polls) 10000) c
  judged Status e c w = goes (succeeded w) 19 c
  judged Keep e c w = onward
  judged EntryLevel e c w =
      either (ids_fit i.geometry i.header c.kept w) (either (eqb (level_in w) 1) (enters e) (either (eqb (level_in w) 2) (enters e) (stops some))) (stops some)
  judged Reopened e c w = either (ids_fit i.geometry i.header c.kept w) (goes (eqb (level_in w) 1) 21 c) (stops some)
  judged (FlashWord r o) e c w = goes (same_word (row_in i r) o w) 22 c
  judged (LockWord n o) e c w = goes (same_word (macro_locks i n) o w) 23 c
  judged StoredLevel e c w = goes (eqb (level_shown w) i.header.level) 24 c
  judged LastSum e c w = either (sums_fit i.header w c.kept) (stops some) (stops some)

  tries : (t : Bool) (c : Counters) → is_attempt m.request ≡ true → Leads m (try_again t c)
  tries true c e = retries e
  tries false c e = stops some

  waits : (t : Bool) (c : Counters) → Leads m (wait_again t c)
  waits true c = stays
  waits false c = stops some

  heard : (t : Bool) → is_attempt m.request ≡ t → (v : Verdict) (c : Counters) → Leads m (heard_by t i m.purpose v c)
  heard t e (okay x) c = judged m.purpose refl (settled t c) x
  heard true e again c = tries (ltb (suc c.attempts) 30) c e
  heard true e (broken x) c = tries (ltb (suc c.attempts) 30) c e
  heard false e again c = waits (ltb c.waits 16) c
  heard false e (broken x) c = stops some

pub leads : (i : Image) (m : Move) (r : Answer) (c : Counters) → Leads m (next_of i m r c)
leads i m r c = by (is_reset m.request) refl
  where
    by : (t : Bool) → is_reset m.request ≡ t → Leads m (cond t (Go Onward c) (heard_by (is_attempt m.request) i m.purpose (verdict m.request r) c))
    by true e = onward
    by false e = heard i m e (is_attempt m.request) refl (verdict m.request r) c
