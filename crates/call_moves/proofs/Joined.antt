-- What is at an index of lists joined one after another. Assumes nothing.
use mathlib.Core.List.{List, ◌++◌}
use mathlib.Core.Path.{◌≡◌, sym, ap, ◌∙◌}
use Prim.Native.Nat.{ℕ, zero, suc, ◌+◌, ◌-◌, ◌*◌, ◌/◌, ◌%◌, ◌<◌, ◌≤◌}
use native.Mathlib.Nat.{suc-mul, add-zero, zero-mul, zero-add, not-suc-le-zero, le_of_suc-le-suc, div-add-mod', mod-lt, div-lt_iff_lt-mul, mul-le-mul_right}
use native.Mathlib.Omega.{arith}
use lib.ListN.{length, get_or, length-append, get_or-append}
use lib.Seq.{get_or-append-add}
use Rattle.flow.specs.Sequence.{in_turn}
use Rattle.flow.specs.declared.Move.{Move}

-- the first of two joined lists, and the second, where a came before the first, and the first ends at b
module _ {A : Type 0} (xs ys : List A) (d : A) (a b i : ℕ) (e : a + length xs ≡ b) where
  pub within : a ≤ i → i < b → get_or (xs ++ ys) (i - a) d ≡ get_or xs (i - a) d
  within l h = get_or-append xs ys d (i - a) (omega arith)

  pub onward : b ≤ i → get_or (xs ++ ys) (i - a) d ≡ get_or ys (i - b) d
  onward l =
      let s : i - a ≡ length xs + (i - b) = omega arith in
      ap (λ (x : ℕ). get_or (xs ++ ys) x d) s ∙ get_or-append-add xs ys (i - b) d

-- pieces of one length b
module _ (f : ℕ → List Move) (b : ℕ) (len : (k : ℕ) → length (f k) ≡ b) where
  pub length-pieces : (k n : ℕ) → length (in_turn f k n) ≡ n * b
  unfolding in_turn
  length-pieces k zero = sym (zero-mul b)
  length-pieces k (suc n) = length-append (f k) (in_turn f (suc k) n) ∙ omega (arith, len k, length-pieces (suc k) n, suc-mul n b)

  in_pieces : (d : Move) (i n k j : ℕ) → k < n → j < b → get_or (in_turn f i n) (k * b + j) d ≡ get_or (f (i + k)) j d
  unfolding in_turn
  in_pieces d i zero k j h g = absurd (not-suc-le-zero h)
  in_pieces d i (suc n) zero j h g =
      rw (zero-mul, zero-add, add-zero) (get_or-append (f i) (in_turn f (suc i) n) d j (rw len g))
  in_pieces d i (suc n) (suc k) j h g =
      let e : suc k * b + j ≡ length (f i) + (k * b + j) = omega (arith, len i, suc-mul k b) in
      let s : i + suc k ≡ suc i + k = omega arith in
      rw (e, get_or-append-add, s) (in_pieces d (suc i) n k j (le_of_suc-le-suc h) g)

  pub at_piece : (d : Move) (n j : ℕ) → 0 < b → j < n * b → get_or (in_turn f 0 n) j d ≡ get_or (f (j / b)) (j % b) d
  at_piece d n j some h =
      ap (λ (x : ℕ). get_or (in_turn f 0 n) x d) (sym (div-add-mod' j b))
      ∙ in_pieces d 0 n (j / b) (j % b) ((div-lt_iff_lt-mul {k = b} {x = j} {y = n} some).1 h) (mod-lt j some)
      ∙ ap (λ (x : ℕ). get_or (f x) (j % b) d) (zero-add (j / b))

pub div-low : (n b j : ℕ) → 0 < b → j < n * b → j / b < n
div-low n b j some h = (div-lt_iff_lt-mul {k = b} {x = j} {y = n} some).1 h

-- the r-th of n equal parts ends in them
pub part-ends : (n s r : ℕ) → r < n → r * s + s ≤ n * s
part-ends n s r h = let l : suc r * s ≤ n * s = mul-le-mul_right s h in omega (arith, suc-mul r s)
