-- What is at an index of steps 4 to 9, and of the whole sequence. Assumes nothing.
use mathlib.Core.List.{List, [], ◌∷◌, ◌++◌, append_assoc}
use mathlib.Core.Path.{◌≡◌, sym, ap, ◌∙◌}
use Prim.Native.Nat.{ℕ, ◌+◌, ◌-◌, ◌*◌, ◌/◌, ◌<◌, ◌≤◌}
use native.Mathlib.Omega.{arith}
use lib.ListN.{length, get_or, length-append}
use Rattle.flow.specs.Sequence.{key, read, call, listed, in_turn, acquire, silicon, privileged, program_row, verify_row, macro_down, lock_and_verify, program, opening, afterwards, sequence, end_move}
use Rattle.flow.specs.declared.Entry.{Entry}
use Rattle.flow.specs.declared.Entry.TheVariants.{FromOpen, FromProtected}
use Rattle.flow.specs.declared.Move.{Move}
use Rattle.flow.specs.declared.Purpose.TheVariants.{Keep, EntryLevel, Reopened, StoredLevel, LastSum}
use Rattle.image.specs.Image.{Image}
use Rattle.move_counts.proofs.Counts.{length-rows, length-verify, length-macros}
use Rattle.call_moves.proofs.Joined.{within, onward}
use Rattle.std.proofs.lemmas.List.{get_or_append_left, get_or-append_right}
use Rattle.call_moves.proofs.Lengths.{length-call, length-read, length-listed, length-privileged, length-silicon, opening-counted}
use Rattle.call_moves.specs.MoveAt.{opening_count}
use Rattle.parts.specs.Sizes.{row_bytes_of, macros_of, rows_of, locks_in, level_at}
use Rattle.parts.specs.declared.Geometry.{Geometry}

module _ (i : Image) where
  abbrev g : Geometry
  g = i.geometry

  abbrev words : ℕ
  words = row_bytes_of g / 4

  abbrev quads : ℕ
  quads = locks_in g 0 / 4

  abbrev rows : List Move
  rows = in_turn (program_row i) 0 (rows_of g)

  abbrev verify : List Move
  verify = in_turn (verify_row g) 0 (rows_of g)

  abbrev macros : List Move
  macros = in_turn (λ k. lock_and_verify i (macro_down g k)) 0 (macros_of g)

  abbrev level : List Move
  level = read 8 (level_at g) StoredLevel

  abbrev sum : List Move
  sum = privileged g 9 LastSum

  pub program-sum : (j : ℕ) → j < 13 → get_or (program i) j end_move ≡ get_or (privileged g 4 Keep) j end_move
  unfolding program
  program-sum j h = get_or_append_left (privileged g 4 Keep) (rows ++ (verify ++ (macros ++ (level ++ sum)))) end_move j (rw (length-privileged g 4 Keep) h)

  after-sum : (j : ℕ) → 13 ≤ j → get_or (program i) j end_move ≡ get_or (rows ++ (verify ++ (macros ++ (level ++ sum)))) (j - 13) end_move
  unfolding program
  after-sum j h = get_or-append_right (privileged g 4 Keep) (rows ++ (verify ++ (macros ++ (level ++ sum)))) 13 j end_move (length-privileged g 4 Keep) h

  -- where the rows end, the flash's words, and the macros
  abbrev rows_end : ℕ
  rows_end = 13 + rows_of g * (26 + 2 * words)

  abbrev words_end : ℕ
  words_end = rows_end + rows_of g * (words * 3)

  abbrev macros_end : ℕ
  macros_end = words_end + macros_of g * (24 + 5 * quads)

  module _ (j : ℕ) where
    pub program-rows : 13 ≤ j → j < rows_end → get_or (program i) j end_move ≡ get_or rows (j - 13) end_move
    program-rows l h =
        after-sum j l ∙ within rows (verify ++ (macros ++ (level ++ sum))) end_move 13 rows_end j (omega (arith, length-rows i)) l h

    after-rows : rows_end ≤ j → get_or (program i) j end_move ≡ get_or (verify ++ (macros ++ (level ++ sum))) (j - rows_end) end_move
    after-rows l =
        after-sum j (omega arith) ∙ onward rows (verify ++ (macros ++ (level ++ sum))) end_move 13 rows_end j (omega (arith, length-rows i)) l

    pub program-verify : rows_end ≤ j → j < words_end → get_or (program i) j end_move ≡ get_or verify (j - rows_end) end_move
    program-verify l h =
        after-rows l ∙ within verify (macros ++ (level ++ sum)) end_move rows_end words_end j (omega (arith, length-verify i)) l h

    after-verify : words_end ≤ j → get_or (program i) j end_move ≡ get_or (macros ++ (level ++ sum)) (j - words_end) end_move
    after-verify l =
        after-rows (omega arith) ∙ onward verify (macros ++ (level ++ sum)) end_move rows_end words_end j (omega (arith, length-verify i)) l

    pub program-macros : words_end ≤ j → j < macros_end → get_or (program i) j end_move ≡ get_or macros (j - words_end) end_move
    program-macros l h = after-verify l ∙ within macros (level ++ sum) end_move words_end macros_end j (omega (arith, length-macros i)) l h

    after-macros : macros_end ≤ j → get_or (program i) j end_move ≡ get_or (level ++ sum) (j - macros_end) end_move
    after-macros l = after-verify (omega arith) ∙ onward macros (level ++ sum) end_move words_end macros_end j (omega (arith, length-macros i)) l

    pub program-level : macros_end ≤ j → j < macros_end + 3 → get_or (program i) j end_move ≡ get_or level (j - macros_end) end_move
    program-level l h = after-macros l ∙ within level sum end_move macros_end (macros_end + 3) j (omega (arith, length-read 8 (level_at g) StoredLevel)) l h

    pub program-last : macros_end + 3 ≤ j → get_or (program i) j end_move ≡ get_or sum (j - macros_end - 3) end_move
    program-last l =
        let t : j - macros_end - 3 ≡ j - (macros_end + 3) = omega arith in
        after-macros (omega arith)
        ∙ onward level sum end_move macros_end (macros_end + 3) j (omega (arith, length-read 8 (level_at g) StoredLevel)) l
        ∙ ap (λ (x : ℕ). get_or sum x end_move) (sym t)

  -- ---- step 3 and what follows

  module _ (j : ℕ) where
    pub open-call : j < 12 → get_or (afterwards i FromOpen) j end_move ≡ get_or (listed g 3 0x0A (key 0x0A ∷ [])) j end_move
    unfolding afterwards
    open-call h = get_or_append_left (listed g 3 0x0A (key 0x0A ∷ [])) (program i) end_move j (rw (length-listed g 3 0x0A (key 0x0A ∷ [])) h)

    pub open-rest : 12 ≤ j → get_or (afterwards i FromOpen) j end_move ≡ get_or (program i) (j - 12) end_move
    unfolding afterwards
    open-rest h = get_or-append_right (listed g 3 0x0A (key 0x0A ∷ [])) (program i) 12 j end_move (length-listed g 3 0x0A (key 0x0A ∷ [])) h

    abbrev again : List Move
    again = acquire g ++ silicon g Reopened

    length-again : length again ≡ opening_count g
    unfolding opening
    length-again =
        let e : length again ≡ length (acquire g) + 16 = length-append (acquire g) (silicon g Reopened) ∙ omega (arith, length-silicon g Reopened) in
        let o : length (opening i) ≡ length (acquire g) + 16 = length-append (acquire g) (silicon g EntryLevel) ∙ omega (arith, length-silicon g EntryLevel) in
        e ∙ sym o ∙ opening-counted i

    pub reopen-call : j < 10 → get_or (afterwards i FromProtected) j end_move ≡ get_or (call g 3 0x0D (key 0x0D + 0x10000)) j end_move
    unfolding afterwards
    reopen-call h =
        get_or_append_left (call g 3 0x0D (key 0x0D + 0x10000)) (acquire g ++ (silicon g Reopened ++ program i)) end_move j (rw (length-call g 3 0x0D (key 0x0D + 0x10000)) h)

    reopened : 10 ≤ j → get_or (afterwards i FromProtected) j end_move ≡ get_or (again ++ program i) (j - 10) end_move
    unfolding afterwards
    reopened h =
        get_or-append_right (call g 3 0x0D (key 0x0D + 0x10000)) (acquire g ++ (silicon g Reopened ++ program i)) 10 j end_move (length-call g 3 0x0D (key 0x0D + 0x10000)) h
        ∙ rw append_assoc

    pub reopen-again : 10 ≤ j → j < 10 + opening_count g → get_or (afterwards i FromProtected) j end_move ≡ get_or again (j - 10) end_move
    reopen-again l h = reopened l ∙ within again (program i) end_move 10 (10 + opening_count g) j (omega (arith, length-again)) l h

    pub reopen-rest : 10 + opening_count g ≤ j → get_or (afterwards i FromProtected) j end_move ≡ get_or (program i) (j - (10 + opening_count g)) end_move
    reopen-rest l = reopened (omega arith) ∙ onward again (program i) end_move 10 (10 + opening_count g) j (omega (arith, length-again)) l

    module _ (y : Entry) where
      pub sequence-opening : j < opening_count g → get_or (sequence i y) j end_move ≡ get_or (acquire g ++ silicon g EntryLevel) j end_move
      unfolding sequence opening
      sequence-opening h = get_or_append_left (opening i) (afterwards i y) end_move j (rw (opening-counted i) h)

      pub sequence-rest : opening_count g ≤ j → get_or (sequence i y) j end_move ≡ get_or (afterwards i y) (j - opening_count g) end_move
      unfolding sequence
      sequence-rest h = get_or-append_right (opening i) (afterwards i y) (opening_count g) j end_move (opening-counted i) h

pub ruleset steps = (open-call, open-rest, reopen-call, reopen-again, reopen-rest, sequence-opening, sequence-rest)

pub ruleset sections = (program-sum, program-rows, program-verify, program-macros, program-level, program-last)
