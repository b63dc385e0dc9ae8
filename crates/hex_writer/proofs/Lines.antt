-- Laws of lines and of the lines of pieces. Assumes nothing.
use mathlib.Core.List.{List, [], ◌∷◌, ◌++◌, append_assoc, append-nil}
use mathlib.Core.Path.{◌≡◌, refl, sym, ap, ◌∙◌}
use Prim.Native.Nat.{ℕ, ◌+◌, ◌*◌, ◌≤◌}
use native.Mathlib.Omega.{arith}
use borrow.Author.Tests.{eq-eqb, ne_eqb}
use lib.ListN.{length, length-append}
use lib.Seq.{sets, length-sets}
use Rattle.hex_format.specs.Written.{data_line, extended_line, new_upper, upper_of, low_of, lines_from}
use Rattle.hex_writer.specs.Lines.{one_piece, upper_past, position_after}
use Rattle.hex_writer.specs.declared.Position.{Position}
use Rattle.hex_lines.proofs.Lines.{data-length, extended-length, data-room, upper-room as extended-room}
use Rattle.hex_lines.specs.Lines.{line_put, data_put}
use Rattle.lent.proofs.Lists.{sets-append}
use Rattle.text.specs.Placing.{Piece}

-- the type 4 record: none while the upper half stays, else one
pub upper-same : (u v : ℕ) → v ≡ u → new_upper u v ≡ []
upper-same u v e = rw (eq-eqb v u e)

pub upper-new : (u v : ℕ) → (v ≡ u → ⊥) → new_upper u v ≡ extended_line v
upper-new u v e = rw (ne_eqb v u e)

-- the lines of pieces, one after the other
pub lines-append : (u : ℕ) (ps qs : List Piece) → lines_from u (ps ++ qs) ≡ lines_from u ps ++ lines_from (upper_past u ps) qs
unfolding lines_from upper_past
lines-append u [] qs = refl
lines-append u (p ∷ ps) qs = rw (lines-append (upper_of p.address) ps qs) (simp append_assoc)

pub past-append : (u : ℕ) (ps qs : List Piece) → upper_past u (ps ++ qs) ≡ upper_past (upper_past u ps) qs
unfolding upper_past
past-append u [] qs = refl
past-append u (p ∷ ps) qs = past-append (upper_of p.address) ps qs

abbrev position : (at upper : ℕ) → Position
position a u = record { at = a; upper = u }

pub after-append : (w : Position) (ps qs : List Piece) → position_after w (ps ++ qs) ≡ position_after (position_after w ps) qs
unfolding position_after
after-append w ps qs =
    let e : w.at + length (lines_from w.upper (ps ++ qs)) ≡ w.at + length (lines_from w.upper ps) + length (lines_from (upper_past w.upper ps) qs) =
    omega (arith, ap length (lines-append w.upper ps qs), length-append (lines_from w.upper ps) (lines_from (upper_past w.upper ps) qs)) in
    ap (λ (a : ℕ). position a (upper_past w.upper (ps ++ qs))) e ∙ ap (position _) (past-append w.upper ps qs)

-- one piece
pub one-lines : (u a : ℕ) (bs : List ℕ) → lines_from u (one_piece a bs) ≡ new_upper u (upper_of a) ++ data_line (low_of a) bs
unfolding lines_from
one-lines u a bs = ap (λ (l : List ℕ). new_upper u (upper_of a) ++ l) (append-nil (data_line (low_of a) bs))

pub one-after : (w : Position) (a : ℕ) (bs : List ℕ)
    → position_after w (one_piece a bs) ≡ position (w.at + length (new_upper w.upper (upper_of a)) + 13 + 2 * length bs) (upper_of a)
unfolding position_after upper_past
one-after w a bs =
    ap (λ (n : ℕ). position n (upper_of a))
    (omega (
      arith,
      ap length (one-lines w.upper a bs),
      length-append (new_upper w.upper (upper_of a)) (data_line (low_of a) bs),
      data-length (low_of a) bs,
    ))

-- what `put_upper` leaves
module _ (text : List ℕ) (w : Position) (u : ℕ) where
  abbrev Past : (at : ℕ) (text' : List ℕ) → Type 0
  Past at text' = (at ≡ w.at + length (new_upper w.upper u)) × (text' ≡ sets text w.at (new_upper w.upper u))

  pub upper-stays : u ≡ w.upper → Past w.at text
  upper-stays e = let n = upper-same w.upper u e in (rw n (omega arith), rw n)

  module _ (e : u ≡ w.upper → ⊥) where
    pub upper-room : w.at + length (new_upper w.upper u) ≤ length text → w.at + 17 ≤ length text
    upper-room h = omega (arith, ap length (upper-new w.upper u e), extended-length u)

    pub upper-put : (text' : List ℕ) → w.at + length (new_upper w.upper u) ≤ length text → text' ≡ line_put text w.at (extended_line u) → Past (w.at + 17) text'
    upper-put text' h p =
        let n = upper-new w.upper u e in
        (omega (arith, ap length n, extended-length u), p ∙ sym (extended-room text w.at u (upper-room h)) ∙ ap (sets text w.at) (sym n))

-- what `put_piece` leaves
module _ (text : List ℕ) (w : Position) (a : ℕ) (bs : List ℕ) where
  pub one-room : (position_after w (one_piece a bs)).at ≤ length text → w.at + length (new_upper w.upper (upper_of a)) + 13 + 2 * length bs ≤ length text
  one-room h = omega (arith, ap (λ (p : Position). p.at) (one-after w a bs))

  pub one-put : (at : ℕ) (text₁ text₂ : List ℕ) → length bs ≤ 64 → 1 ≤ length bs → at + 13 + 2 * length bs ≤ length text₁ → Past text w (upper_of a) at text₁
      → text₂ ≡ data_put text₁ at (low_of a) bs
      → (position (at + 13 + 2 * length bs) (upper_of a) ≡ position_after w (one_piece a bs)) × (text₂ ≡ sets text w.at (lines_from w.upper (one_piece a bs)))
  one-put at text₁ text₂ few some h p e = (
    rw p.0 (sym (one-after w a bs)),
    e ∙ sym (data-room text₁ at (low_of a) bs (omega arith) some h) ∙ rw (p.1, p.0) (sym (ap (sets text w.at) (one-lines w.upper a bs) ∙ sets-append text w.at (new_upper w.upper (upper_of a)) (data_line (low_of a) bs))),
  )

-- how far the text has come: the pieces that are left put the rest
pub record Going (text₀ : List ℕ) (w₀ : Position) (all : List Piece) (text : List ℕ) (w : Position) (rest : List Piece) : Type 0 where
  pub put : sets text₀ w₀.at (lines_from w₀.upper all) ≡ sets text w.at (lines_from w.upper rest)
  pub after : position_after w₀ all ≡ position_after w rest
  pub kept : length text ≡ length text₀
  pub room : (position_after w rest).at ≤ length text

pub start : (text : List ℕ) (w : Position) (all : List Piece) → (position_after w all).at ≤ length text → Going text w all text w all
start text w all h = record { put = refl; after = refl; kept = refl; room = h }

module _ {text₀ : List ℕ} {w₀ : Position} {all : List Piece} {text : List ℕ} {w : Position} {rest : List Piece} (v : Going text₀ w₀ all text w rest) where
  module _ (ps qs : List Piece) (e : rest ≡ ps ++ qs) where
    abbrev next : List ℕ
    next = sets text w.at (lines_from w.upper ps)

    stands : position_after w rest ≡ position_after (position_after w ps) qs
    stands = ap (position_after w) e ∙ after-append w ps qs

    pub fits : (position_after w ps).at ≤ length text
    unfolding position_after
    fits = omega (arith, v.room, ap (λ (p : Position). p.at) stands)

    puts : sets text w.at (lines_from w.upper rest) ≡ sets next (position_after w ps).at (lines_from (position_after w ps).upper qs)
    unfolding position_after
    puts = ap (λ (l : List Piece). sets text w.at (lines_from w.upper l)) e ∙ rw (lines-append, sets-append)

    on : Going text₀ w₀ all next (position_after w ps) qs
    on = record {
      put = v.put ∙ puts;
      after = v.after ∙ stands;
      kept = length-sets text w.at (lines_from w.upper ps) ∙ v.kept;
      room = omega (arith, v.room, ap (λ (p : Position). p.at) stands, length-sets text w.at (lines_from w.upper ps));
    }

    -- after the lines of some pieces
    pub turn : (text' : List ℕ) (w' : Position) → w' ≡ position_after w ps → text' ≡ sets text w.at (lines_from w.upper ps)
        → Going text₀ w₀ all text' w' qs
    turn text' w' ew et = rw (ew, et) on

  pub ended : rest ≡ [] → (w ≡ position_after w₀ all) × (text ≡ sets text₀ w₀.at (lines_from w₀.upper all))
  unfolding position_after upper_past lines_from
  ended e = (sym (v.after ∙ ap (position_after w) e ∙ ap (λ (n : ℕ). position n w.upper) (omega arith)), sym (v.put ∙ rw e))
