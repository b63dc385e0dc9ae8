-- Where moves stand in the sequence: its last move, and that each other has a next. Assumes nothing.
use mathlib.Core.Bool.{Bool, true, false}
use mathlib.Core.List.{List, [], ◌∷◌, ◌++◌, append_assoc}
use mathlib.Core.Path.{◌≡◌, refl, sym, ap, ◌∙◌}
use Prim.Native.Nat.{ℕ, suc, ◌+◌, ◌<◌}
use native.Mathlib.Omega.{arith}
use borrow.Author.Tests.{ltb-true, ltb-false}
use lib.Dec.{ltb}
use lib.ListN.{length, get_or, length-append}
use lib.Seq.{get_or_at}
use Rattle.flow.specs.Sequence.{move, read, call, listed, in_turn, privileged, program_row, verify_row, macro_down, lock_and_verify, acquire, silicon, program, opening, afterwards, sequence, end_move, key}
use Rattle.flow.specs.Session.{position, move_at, move_count}
use Rattle.flow.specs.declared.Entry.{Entry}
use Rattle.flow.specs.declared.Entry.TheVariants.{FromOpen, FromProtected}
use Rattle.flow.specs.declared.Move.{Move}
use Rattle.flow.specs.declared.Purpose.TheVariants.{Sent, Keep, Reopened, StoredLevel, LastSum}
use Rattle.flow.specs.declared.Request.TheVariants.{ReadDrw, WriteTar}
use Rattle.image.specs.Image.{Image}
use Rattle.call_moves.proofs.Lengths.{opening-counted}
use Rattle.move_counts.proofs.Counts.{counted, count-open, count-reopen}
use Rattle.parts.specs.Sizes.{macros_of, rows_of, sysarg_of, level_at}
use Rattle.parts.specs.declared.Geometry.{Geometry}

pub record Ends (m : Move) (ms : List Move) : Type 0 where
  pub front : List Move
  pub is : ms ≡ front ++ (m ∷ [])

after : {m : Move} (a : List Move) {b : List Move} → Ends m b → Ends m (a ++ b)
after a e = record { front = a ++ e.front; is = ap (λ (l : List Move). a ++ l) e.is ∙ sym (append_assoc a e.front _) }

abbrev pub last_move : Move
last_move = move 9 ReadDrw LastSum

ends_read : (a : ℕ) → Ends last_move (read 9 a LastSum)
unfolding read
ends_read a = record { front = move 9 (WriteTar a) Sent ∷ move 9 ReadDrw Sent ∷ []; is = refl }

ends-privileged : (g : Geometry) → Ends last_move (privileged g 9 LastSum)
unfolding privileged
ends-privileged g = after (call g 9 0x0B (key 0x0B + 0x80000000)) (ends_read (sysarg_of g))

ends-program : (i : Image) → Ends last_move (program i)
unfolding program
ends-program i =
    let g = i.geometry in
    after (privileged g 4 Keep)
    (after (in_turn (program_row i) 0 (rows_of g))
    (after (in_turn (verify_row g) 0 (rows_of g))
    (after (in_turn (λ k. lock_and_verify i (macro_down g k)) 0 (macros_of g)) (after (read 8 (level_at g) StoredLevel) (ends-privileged g)))))

ends-sequence : (i : Image) (y : Entry) → Ends last_move (sequence i y)
unfolding sequence afterwards
ends-sequence i FromOpen = after (opening i) (after (listed i.geometry 3 0x0A (key 0x0A ∷ [])) (ends-program i))
ends-sequence i FromProtected =
    after (opening i)
    (after (call i.geometry 3 0x0D (key 0x0D + 0x10000))
    (after (acquire i.geometry) (after (silicon i.geometry Reopened) (ends-program i))))

-- ---- places

module _ (i : Image) where
  -- steps 1 and 2 are not all, whatever the entry
  pub opening-in : (e : Entry) → length (opening i) < move_count i.geometry e
  opening-in FromOpen = omega (arith, opening-counted i, count-open i.geometry)
  opening-in FromProtected = omega (arith, opening-counted i, count-reopen i.geometry)

  -- a move that is not the last has a next
  pub has-next : (y : Entry) (n : ℕ) → n < move_count i.geometry y → ¬ (move_at i (position y n) ≡ last_move) → suc n < move_count i.geometry y
  has-next y n h not_last = by (ltb (suc n) (move_count i.geometry y)) refl
    where
      e : Ends last_move (sequence i y)
      e = ends-sequence i y

      by : (t : Bool) → ltb (suc n) (move_count i.geometry y) ≡ t → suc n < move_count i.geometry y
      by true q = ltb-true _ _ q
      by false q =
          let l : length e.front ≡ n =
          omega (arith, counted i y, ap length e.is, length-append e.front (last_move ∷ []), ltb-false (suc n) (move_count i.geometry y) q) in
          absurd (not_last (ap (λ (ms : List Move). get_or ms n end_move) e.is ∙ get_or_at e.front last_move [] end_move n l))
