-- What is at an index of steps 5 to 8, for a handled geometry and an image of exact size. Assumes nothing.
use mathlib.Core.List.{List, [], ◌∷◌, ◌++◌}
use mathlib.Core.Path.{◌≡◌, sym, ap, ◌∙◌}
use Prim.Native.Nat.{ℕ, ◌+◌, ◌-◌, ◌*◌, ◌/◌, ◌%◌, ◌<◌, ◌≤◌}
use native.Mathlib.Nat.{mul-le-mul, mul-le-mul_right, mod-lt, div-lt_iff_lt-mul}
use native.Mathlib.Omega.{arith}
use lib.ListN.{length, get_or, take, drop}
use Rattle.flow.specs.Sequence.{key, read, call, listed, in_turn, latch_list, program_row, compare_word, compare_words, verify_row, lock_macro, verify_macro, macro_down, lock_and_verify, end_move}
use Rattle.flow.specs.declared.Move.{Move}
use Rattle.flow.specs.declared.Purpose.{Purpose}
use Rattle.flow.specs.declared.Purpose.TheVariants.{FlashWord, LockWord}
use Rattle.image.specs.Image.{Image, image_of}
use Rattle.image.specs.declared.Header.{Header}
use Rattle.move_counts.proofs.Counts.{length-row, length-lock, length-alike, length-compared}
use Rattle.call_moves.proofs.Joined.{at_piece, div-low, part-ends}
use Rattle.std.proofs.lemmas.List.{get_or_append_left, get_or-append_right}
use Rattle.call_moves.proofs.Lengths.{length-read}
use Rattle.call_moves.proofs.Reach.{in_reach_lem}
use Rattle.call_moves.specs.MoveAt.{in_reach}
use Rattle.latch_moves.proofs.Words.{part-latched, front-latch, back-latch}
use Rattle.latch_moves.specs.Latched.{latched}
use Rattle.moves.specs.Handled.{Handled}
use Rattle.parts.proofs.Locks.{locks-most, locks-some, locks-alike, locks-end}
use Rattle.parts.specs.Sizes.{row_bytes_of, macros_of, rows_per_macro_of, rows_of, flash_size, locks_in, lock_start, lock_total, image_size, locks_at, sysreq_of}
use Rattle.parts.specs.declared.Geometry.{Geometry}

-- ---- sizes

module _ (g : Geometry) (ok : Handled g) where
  pub rows_few : rows_of g ≤ 65536
  unfolding rows_of
  rows_few = omega (arith, mul-le-mul ok.macros ok.macro_high)

  rows-per : rows_of g ≤ 16 * rows_per_macro_of g
  unfolding rows_of
  rows-per = mul-le-mul_right (rows_per_macro_of g) ok.macros

  pub flash-small : flash_size g ≤ 67108864
  unfolding flash_size
  flash-small = omega (arith, mul-le-mul rows_few ok.row_high)

  pub rows-small : rows_of g * (26 + 2 * (row_bytes_of g / 4)) ≤ 35258368
  rows-small =
      let l : 26 + 2 * (row_bytes_of g / 4) ≤ 538 = omega (arith, ok.row_high) in
      omega (arith, mul-le-mul rows_few l)

  pub words_small : rows_of g * (row_bytes_of g / 4 * 3) ≤ 50331648
  words_small =
      let l : row_bytes_of g / 4 * 3 ≤ 768 = omega (arith, ok.row_high) in
      omega (arith, mul-le-mul rows_few l)

  pub macros-small : macros_of g * (24 + 5 * (locks_in g 0 / 4)) ≤ 10624
  macros-small =
      let l : 24 + 5 * (locks_in g 0 / 4) ≤ 664 = omega (arith, ok.macro_high, locks-most g 0) in
      omega (arith, mul-le-mul ok.macros l)

  pub lock-address : (m : ℕ) → m < macros_of g → g.part.locks + m * g.part.locks_step ≤ 2415919087
  lock-address m h = omega (arith, ok.locks, mul-le-mul {n₁ = m} {n₂ = 16} (omega (arith, ok.macros)) ok.locks_step)

pub ruleset sizes = (rows-small, words_small, macros-small)

-- a macro's locks end in the image
pub locks_inside : (g : Geometry) (m : ℕ) → m < macros_of g → flash_size g + lock_start g m + locks_in g m ≤ image_size g
unfolding image_size lock_total
locks_inside g m l = omega (arith, locks-end g m l)

-- where the row is that an index of step 5 is in
module _ (g : Geometry) (ok : Handled g) (j : ℕ) (low : j < rows_of g * (26 + 2 * (row_bytes_of g / 4))) where
  abbrev row : ℕ
  row = j / (26 + 2 * (row_bytes_of g / 4))

  row-low : row < rows_of g
  row-low = div-low (rows_of g) (26 + 2 * (row_bytes_of g / 4)) j (omega arith) low

  pub row-few : row < 65536
  row-few = omega (arith, row-low, rows_few g ok)

  pub row-macro : row / rows_per_macro_of g < 256
  row-macro =
      let m : row < 256 * rows_per_macro_of g = omega (arith, row-low, ok.macro_low, rows-per g ok) in
      (div-lt_iff_lt-mul {k = rows_per_macro_of g} {x = row} {y = 256} (omega (arith, ok.macro_low))).1 m

  pub row-fits : row * row_bytes_of g + row_bytes_of g ≤ flash_size g
  unfolding flash_size
  row-fits = part-ends (rows_of g) (row_bytes_of g) row row-low

pub flash-inside : (g : Geometry) → flash_size g ≤ image_size g
unfolding image_size
flash-inside g = omega arith

pub ruleset row_place = (row-few, row-macro, row-fits, flash-inside)

-- what is sent of a row in step 5, of a macro's locks in step 7
abbrev row_sent : Geometry → (row : ℕ) → List ℕ → List Move
row_sent g r bs = listed g 5 4 (latch_list (r / rows_per_macro_of g) (length bs) bs 0) ++ listed g 5 6 ((key 6 + r * 0x10000) ∷ [])

abbrev locks_sent : Geometry → (m level : ℕ) → List ℕ → List Move
locks_sent g m level bs = listed g 7 4 (latch_list m (length bs) bs 0) ++ call g 7 0x0D (key 0x0D + level * 0x10000 + m * 0x1000000)

-- ---- step 5

module _ (g : Geometry) (ok : Handled g) (h : Header) (bytes : List ℕ) (exact : length bytes ≡ image_size g) where
  abbrev i : Image
  i = image_of g h bytes

  module _ (j : ℕ) (low : j < rows_of g * (26 + 2 * (row_bytes_of g / 4))) where
    abbrev each_row : ℕ
    each_row = 26 + 2 * (row_bytes_of g / 4)

    abbrev row_start : ℕ
    row_start = j / each_row * row_bytes_of g

    pub rows_at : (bs : List ℕ) → bs ≡ take (row_start + row_bytes_of g - row_start) (drop row_start bytes)
        → {t : Move} → t ≡ in_reach (sysreq_of g) (get_or (latched bs (row_sent g (j / each_row) bs)) (j % each_row) end_move) → t ≡ get_or (in_turn (program_row i) 0 (rows_of g)) j end_move
    unfolding program_row
    rows_at bs is has =
        let fits = row-fits g ok j low in
        let inside : row_start + row_bytes_of g ≤ length bytes = omega (arith, fits, flash-inside g) in
        has
        ∙ in_reach_lem (sysreq_of g) (get_or (latched bs (row_sent g (j / each_row) bs)) (j % each_row) end_move) ok.sysreq
        ∙ ap (λ (l : List Move). get_or l (j % each_row) end_move) (part-latched bytes bs row_start (row_bytes_of g) is inside (row_sent g (j / each_row) bs) (omega (arith, ok.row_low)) ok.row_high)
        ∙ rw (front-latch bytes bs row_start (row_bytes_of g) is inside (flash_size g) (j / each_row / rows_per_macro_of g) fits)
        (sym (at_piece (program_row i) each_row (length-row i) end_move (rows_of g) j (omega arith) low))

  -- ---- steps 7 and 8 of a macro

  module _ (m j : ℕ) where
    abbrev lock_count : ℕ
    lock_count = 24 + 2 * (locks_in g m / 4)

    pub lock-at : (start size : ℕ) → start ≡ flash_size g + lock_start g m → size ≡ locks_in g m → m < macros_of g → (bs : List ℕ)
        → bs ≡ take (start + size - start) (drop start bytes)
        → j < lock_count
        → {t : Move} → t ≡ in_reach (sysreq_of g) (get_or (latched bs (locks_sent g m h.level bs)) j end_move) → t ≡ get_or (lock_and_verify i m) j end_move
    unfolding lock_macro
    lock-at start size s z room bs is low has =
        let fits : start + size ≤ length bytes = rw (s, z, exact) (locks_inside g m room) in
        let some : 1 ≤ size = omega (arith, z, locks-some g m room (omega (arith, ok.macro_low))) in
        has
        ∙ in_reach_lem (sysreq_of g) (get_or (latched bs (locks_sent g m h.level bs)) j end_move) ok.sysreq
        ∙ ap (λ (l : List Move). get_or l j end_move) (part-latched bytes bs start size is fits (locks_sent g m h.level bs) some (omega (arith, z, ok.macro_high, locks-most g m)))
        ∙ rw (back-latch bytes bs start size is fits (flash_size g) m (lock_start g m) s, z)
        (sym (get_or_append_left (lock_macro i m) (verify_macro g m) end_move j (rw (length-lock i m) low)))

  -- ---- steps 7 and 8 but for the level: the k-th macro from above

  module _ (j : ℕ) (low : j < macros_of g * (24 + 5 * (locks_in g 0 / 4))) where
    abbrev each_macro : ℕ
    each_macro = 24 + 5 * (locks_in g 0 / 4)

    pub macro-inside : (m : ℕ) → j % each_macro < 24 + 5 * (locks_in g m / 4)
    macro-inside m = let l : j % each_macro < each_macro = mod-lt j (omega arith) in omega (arith, locks-alike g m)

    pub macros-at : (top : ℕ) → top ≡ macros_of g → {t : Move} → t ≡ get_or (lock_and_verify i (top - 1 - j / each_macro)) (j % each_macro) end_move → t ≡ get_or (in_turn (λ k. lock_and_verify i (macro_down g k)) 0 (macros_of g)) j end_move
    macros-at top e has =
        let r : j / each_macro < macros_of g = div-low (macros_of g) each_macro j (omega arith) low in
        let t : top - 1 - j / each_macro ≡ macro_down g (j / each_macro) = omega arith in
        has
        ∙ ap (λ (m : ℕ). get_or (lock_and_verify i m) (j % each_macro) end_move) t
        ∙ sym (at_piece (λ k. lock_and_verify i (macro_down g k)) each_macro (λ k. length-alike i (macro_down g k)) end_move (macros_of g) j (omega arith) low)

-- the index in step 8, after step 7
pub check-at : (i : Image) (m j : ℕ) → 24 + 2 * (locks_in i.geometry m / 4) ≤ j → get_or (verify_macro i.geometry m) (j - (24 + 2 * (locks_in i.geometry m / 4))) end_move ≡ get_or (lock_and_verify i m) j end_move
check-at i m j high = sym (get_or-append_right (lock_macro i m) (verify_macro i.geometry m) (24 + 2 * (locks_in i.geometry m / 4)) j end_move (length-lock i m) high)

-- ---- steps 6 and 8: a word of some, and of n pieces of as many

word_at : (s a : ℕ) (u : ℕ → Purpose) (words j : ℕ) → j < words * 3
    → get_or (compare_words s a u words) j end_move ≡ get_or (read s (a + 4 * (j / 3)) (u (4 * (j / 3)))) (j % 3) end_move
word_at s a u words j low = at_piece (compare_word s a u) 3 (λ i. length-read s _ _) end_move words j (omega arith) low

module _ (g : Geometry) (ok : Handled g) (j : ℕ) where
  module _ (low : j < rows_of g * (row_bytes_of g / 4 * 3)) where
    abbrev each : ℕ
    each = row_bytes_of g / 4 * 3

    some : 0 < each
    some = omega (arith, ok.row_low)

    inside : j % each < each
    inside = mod-lt j some

    pub verify-start : j / each * row_bytes_of g ≤ 67108864
    unfolding flash_size
    verify-start = omega (arith, part-ends (rows_of g) (row_bytes_of g) (j / each) (div-low (rows_of g) each j some low), flash-small g ok)

    pub verify-inside : j % each / 3 < 256
    verify-inside = omega (arith, ok.row_high, inside)

    pub verify-at : get_or (in_turn (verify_row g) 0 (rows_of g)) j end_move ≡ get_or (read 6 (j / each * row_bytes_of g + 4 * (j % each / 3)) (FlashWord (j / each) (4 * (j % each / 3)))) (j % each % 3) end_move
    unfolding verify_row
    verify-at =
        at_piece (verify_row g) each (λ r. length-compared 6 (r * row_bytes_of g) (FlashWord r) (row_bytes_of g / 4)) end_move (rows_of g) j some low
        ∙ word_at 6 (j / each * row_bytes_of g) (FlashWord (j / each)) (row_bytes_of g / 4) (j % each) inside

  pub lock-word-at : (m : ℕ) → j < locks_in g m / 4 * 3
      → get_or (verify_macro g m) j end_move ≡ get_or (read 8 (locks_at g m + 4 * (j / 3)) (LockWord m (4 * (j / 3)))) (j % 3) end_move
  unfolding verify_macro
  lock-word-at m low = word_at 8 (locks_at g m) (LockWord m) (locks_in g m / 4) j low

pub ruleset verifying = (verify-at, verify-start, verify-inside)

pub ruleset checking = (lock-word-at, lock-address, locks-most)
