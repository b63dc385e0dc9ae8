-- Where a word leads: document 01, 'Flow', and the numbers 16 to 25. Assumes nothing.
use Rattle.std.specs.Prelude.{Bool, true, false, cond, List, ℕ, suc, ◌*◌, eqb, ltb}
use Rattle.flow.specs.Words.{test_bit_set, free, succeeded, ids_fit, level_in, level_shown, sums_fit}
use Rattle.flow.specs.declared.Counters.{Counters}
use Rattle.flow.specs.declared.Entry.TheVariants.{FromOpen, FromProtected}
use Rattle.flow.specs.declared.Next.{Next}
use Rattle.flow.specs.declared.Next.TheVariants.{Go, Stop}
use Rattle.flow.specs.declared.Purpose.{Purpose}
use Rattle.flow.specs.declared.Purpose.TheVariants.{Sent, Idcode, TestBit, Poll, Status, Keep, EntryLevel, Reopened, FlashWord, LockWord, StoredLevel, LastSum}
use Rattle.flow.specs.declared.Way.TheVariants.{Onward, ToPoll, Enter}
use Rattle.image.specs.Image.{Image}
use Rattle.lent.specs.Words.{same_word, part_of}
use Rattle.image.specs.declared.Header.{Header}
use Rattle.parts.specs.Sizes.{row_bytes_of, locks_in, lock_start}
use Rattle.parts.specs.declared.Geometry.{Geometry}

-- ---- counters, each changed by its name

abbrev pub with_waits : (waits : ℕ) → Counters → Counters
with_waits w c = record { waits = w; polls = c.polls; attempts = c.attempts; kept = c.kept }

abbrev pub with_polls : (polls : ℕ) → Counters → Counters
with_polls p c = record { waits = c.waits; polls = p; attempts = c.attempts; kept = c.kept }

abbrev pub with_attempts : (attempts : ℕ) → Counters → Counters
with_attempts a c = record { waits = c.waits; polls = c.polls; attempts = a; kept = c.kept }

abbrev pub with_kept : (word : ℕ) → Counters → Counters
with_kept k c = record { waits = c.waits; polls = c.polls; attempts = c.attempts; kept = k }

-- ---- where a word leads

abbrev pub go_if : Bool → (number : ℕ) → Counters → Next
go_if true n c = Go Onward c
go_if false n c = Stop n

-- 'A poll loop has at most 10,000 polls'; a busy one goes back to its Read's first transfer
abbrev pub polled : (free within : Bool) → Counters → Next
polled true y c = Go Onward (with_polls 0 c)
polled false true c = Go ToPoll (with_polls (suc c.polls) c)
polled false false c = Stop 18

-- '21 level not OPEN or PROTECTED'
abbrev pub entry_by : (level : ℕ) → Counters → Next
entry_by l c = cond (eqb l 1) (Go (Enter FromOpen) c) (cond (eqb l 2) (Go (Enter FromProtected) c) (Stop 21))

-- '20 is judged before 21': step 2's IDs and level, and the same after reopening
abbrev pub identified : Geometry → Header → Counters → (word : ℕ) → Next
identified g h c w = cond (ids_fit g h c.kept w) (entry_by (level_in w) c) (Stop 20)

abbrev pub reopened : Geometry → Header → Counters → (word : ℕ) → Next
reopened g h c w = cond (ids_fit g h c.kept w) (go_if (eqb (level_in w) 1) 21 c) (Stop 20)

-- the last sum: done, or 25
abbrev pub summed : Header → Counters → (word : ℕ) → Next
summed h c w = cond (sums_fit h w c.kept) (Stop 0) (Stop 25)

-- 'The row's bytes start at row × L in the image.'
abbrev pub row_in : Image → (row : ℕ) → List ℕ
row_in i r = part_of i.flash (r * row_bytes_of i.geometry) (row_bytes_of i.geometry)

-- a macro's protection bytes
abbrev pub macro_locks : Image → (m : ℕ) → List ℕ
macro_locks i m = part_of i.protection (lock_start i.geometry m) (locks_in i.geometry m)

-- the word w, by the purpose of the move that it answers
unfoldable pub judge : Image → Purpose → Counters → (word : ℕ) → Next
judge i Sent c w = Go Onward c
judge i Idcode c w = go_if (eqb w 0x0BB11477) 16 c
judge i TestBit c w = go_if (test_bit_set w) 17 c
judge i Poll c w = polled (free w) (ltb (suc c.polls) 10000) c
judge i Status c w = go_if (succeeded w) 19 c
judge i Keep c w = Go Onward (with_kept w c)
judge i EntryLevel c w = identified i.geometry i.header c w
judge i Reopened c w = reopened i.geometry i.header c w
judge i (FlashWord r o) c w = go_if (same_word (row_in i r) o w) 22 c
judge i (LockWord m o) c w = go_if (same_word (macro_locks i m) o w) 23 c
judge i StoredLevel c w = go_if (eqb (level_shown w) i.header.level) 24 c
judge i LastSum c w = summed i.header c w
