-- How many moves steps 3 to 9 have, and the sequence: decided by the geometry alone. Assumes nothing.
use mathlib.Core.List.{[], ◌∷◌}
use mathlib.Core.Path.{◌≡◌, sym, ap, ◌∙◌}
use Prim.Native.Nat.{ℕ, ◌+◌, ◌*◌, ◌/◌}
use native.Mathlib.Omega.{arith}
use lib.ListN.{length, length-append}
use Rattle.call_moves.proofs.Joined.{length-pieces}
use Rattle.call_moves.proofs.Lengths.{length-call, length-read, length-listed, length-latch, length-privileged, length-silicon, opening-counted}
use Rattle.call_moves.specs.MoveAt.{opening_count}
use Rattle.flow.specs.Sequence.{key, call, listed, in_turn, latch_list, program_row, compare_word, compare_words, verify_row, lock_macro, verify_macro, macro_down, lock_and_verify, program, opening, afterwards, sequence}
use Rattle.flow.specs.Session.{move_count, bare}
use Rattle.flow.specs.declared.Entry.{Entry}
use Rattle.flow.specs.declared.Entry.TheVariants.{FromOpen, FromProtected}
use Rattle.flow.specs.declared.Purpose.{Purpose}
use Rattle.flow.specs.declared.Purpose.TheVariants.{FlashWord, LockWord, Keep, EntryLevel, Reopened, LastSum, StoredLevel}
use Rattle.image.specs.Image.{Image}
use Rattle.move_counts.specs.Counts.{program_count}
use Rattle.parts.proofs.Locks.{locks-alike}
use Rattle.parts.specs.Sizes.{row_bytes_of, macros_of, rows_per_macro_of, rows_of, locks_in, lock_start, locks_at, level_at}
use Rattle.parts.specs.declared.Geometry.{Geometry}

pub length-compared : (s a : ℕ) (u : ℕ → Purpose) (n : ℕ) → length (compare_words s a u n) ≡ n * 3
length-compared s a u n = length-pieces (compare_word s a u) 3 (λ j. length-read s _ _) 0 n

module _ (i : Image) where
  abbrev g : Geometry
  g = i.geometry

  abbrev words : ℕ
  words = row_bytes_of g / 4

  abbrev locks : (m : ℕ) → ℕ
  locks m = locks_in g m / 4

  pub length-row : (r : ℕ) → length (program_row i r) ≡ 26 + 2 * words
  unfolding program_row
  length-row r =
      length-append (listed g 5 4 (latch_list (r / rows_per_macro_of g) (row_bytes_of g) i.flash (r * row_bytes_of g))) (listed g 5 6 ((key 6 + r * 0x10000) ∷ []))
      ∙ omega (arith, length-latch g 5 (r / rows_per_macro_of g) (row_bytes_of g) i.flash (r * row_bytes_of g), length-listed g 5 6 ((key 6 + r * 0x10000) ∷ []))

  pub length-lock : (m : ℕ) → length (lock_macro i m) ≡ 24 + 2 * locks m
  unfolding lock_macro
  length-lock m =
      length-append (listed g 7 4 (latch_list m (locks_in g m) i.protection (lock_start g m))) (call g 7 0x0D (key 0x0D + i.header.level * 0x10000 + m * 0x1000000))
      ∙ omega (arith, length-latch g 7 m (locks_in g m) i.protection (lock_start g m), length-call g 7 0x0D (key 0x0D + i.header.level * 0x10000 + m * 0x1000000))

  pub length-rows : length (in_turn (program_row i) 0 (rows_of g)) ≡ rows_of g * (26 + 2 * words)
  length-rows = length-pieces (program_row i) (26 + 2 * words) length-row 0 (rows_of g)

  pub length-verify : length (in_turn (verify_row g) 0 (rows_of g)) ≡ rows_of g * (words * 3)
  unfolding verify_row
  length-verify = length-pieces (verify_row g) (words * 3) (λ r. length-compared 6 (r * row_bytes_of g) (FlashWord r) words) 0 (rows_of g)

  length-check : (m : ℕ) → length (verify_macro g m) ≡ locks m * 3
  unfolding verify_macro
  length-check m = length-compared 8 (locks_at g m) (LockWord m) (locks m)

  pub length-macro : (m : ℕ) → length (lock_and_verify i m) ≡ 24 + 5 * locks m
  length-macro m = length-append (lock_macro i m) (verify_macro g m) ∙ omega (arith, length-lock m, length-check m)

  -- as many as macro 0
  pub length-alike : (m : ℕ) → length (lock_and_verify i m) ≡ 24 + 5 * locks 0
  length-alike m = length-macro m ∙ ap (λ (n : ℕ). 24 + 5 * (n / 4)) (locks-alike g m)

  pub length-macros : length (in_turn (λ k. lock_and_verify i (macro_down g k)) 0 (macros_of g)) ≡ macros_of g * (24 + 5 * locks 0)
  length-macros = length-pieces (λ k. lock_and_verify i (macro_down g k)) (24 + 5 * locks 0) (λ k. length-alike (macro_down g k)) 0 (macros_of g)

  pub length-program : length (program i) ≡ 29 + rows_of g * (26 + 5 * words) + macros_of g * (24 + 5 * locks 0)
  unfolding program
  length-program =
      simp length-append
      (omega (
        arith,
        length-privileged g 4 Keep,
        length-rows,
        length-verify,
        length-macros,
        length-read 8 (level_at g) StoredLevel,
        length-privileged g 9 LastSum,
      ))

  pub length-sequence : (y : Entry) → length (sequence i y) ≡ length (opening i) + (length (afterwards i y))
  unfolding sequence
  length-sequence y = length-append (opening i) (afterwards i y)

  pub length-open : length (afterwards i FromOpen) ≡ 12 + length (program i)
  unfolding afterwards
  length-open =
      length-append (listed g 3 0x0A (key 0x0A ∷ [])) (program i) ∙ omega (arith, length-listed g 3 0x0A (key 0x0A ∷ []))

  pub length-reopen : length (afterwards i FromProtected) ≡ 10 + length (opening i) + length (program i)
  unfolding afterwards opening
  length-reopen =
      simp length-append
      (omega (arith, length-call g 3 0x0D (key 0x0D + 0x10000), length-silicon g EntryLevel, length-silicon g Reopened))

pub program_length : (g : Geometry) → program_count g ≡ 29 + rows_of g * (26 + 5 * (row_bytes_of g / 4)) + macros_of g * (24 + 5 * (locks_in g 0 / 4))
program_length g = length-program (bare g)

-- an image's sequence has as many moves as its geometry's
pub program-counted : (i : Image) → length (program i) ≡ program_count i.geometry
program-counted i = length-program i ∙ sym (length-program (bare i.geometry))

pub count-open : (g : Geometry) → move_count g FromOpen ≡ opening_count g + 12 + program_count g
count-open g = omega (arith, length-sequence (bare g) FromOpen, length-open (bare g))

pub count-reopen : (g : Geometry) → move_count g FromProtected ≡ opening_count g + 10 + opening_count g + program_count g
count-reopen g = omega (arith, length-sequence (bare g) FromProtected, length-reopen (bare g))

pub counted : (i : Image) (y : Entry) → length (sequence i y) ≡ move_count i.geometry y
counted i FromOpen = omega (arith, length-sequence i FromOpen, length-open i, count-open i.geometry, opening-counted i, program-counted i)
counted i FromProtected = omega (arith, length-sequence i FromProtected, length-reopen i, count-reopen i.geometry, opening-counted i, program-counted i)

pub ruleset counts = (count-open, count-reopen)
