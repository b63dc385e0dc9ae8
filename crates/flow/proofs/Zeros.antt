-- Lists of zeros: their sums, and that none of their rows cancels. Assumes nothing.
use mathlib.Core.Bool.{Bool, true, false, ◌&&◌, not}
use mathlib.Core.List.{List, [], ◌∷◌}
use mathlib.Core.Path.{◌≡◌, refl, ◌∙◌}
use Prim.Native.Nat.{ℕ, zero, suc, ◌+◌, ◌/◌, ◌%◌, ◌≤◌}
use native.Mathlib.Omega.{arith}
use lib.Dec.{eqb, ltb}
use lib.ListN.{length, get_or, take, drop, replicate, length-take, get_or-eq_default}
use lib.Seq.{get_or-take, get_or-drop}
use borrow.Author.Tests.{ltb-true, ltb-false}
use Rattle.rows.specs.Cancels.{row_words, cancels, some_cancels}
use Rattle.lent.specs.Words.{total, all_zero, word_at, words_at}

abbrev pub Zeros : List ℕ → Type 0
Zeros l = (j : ℕ) → get_or l j 0 ≡ 0

pub zeros : (n : ℕ) → Zeros (replicate n 0)
zeros zero j = refl
zeros (suc n) zero = refl
zeros (suc n) (suc j) = zeros n j

pub zeros-take : (n : ℕ) (l : List ℕ) → Zeros l → Zeros (take n l)
zeros-take n l z j = by (ltb j n) refl
  where
    by : (y : Bool) → ltb j n ≡ y → get_or (take n l) j 0 ≡ 0
    by true e = get_or-take n l j 0 (ltb-true j n e) ∙ z j
    by false e =
        let le = ltb-false j n e in
        let out : length (take n l) ≤ j = rw (length-take n l) (omega arith) in
        get_or-eq_default (take n l) 0 out

pub zeros-drop : (n : ℕ) (l : List ℕ) → Zeros l → Zeros (drop n l)
zeros-drop n l z j = get_or-drop n l j 0 ∙ z (n + j)

pub total-zeros : (l : List ℕ) → Zeros l → total l ≡ 0
unfolding total
total-zeros [] z = refl
total-zeros (x ∷ xs) z = let h : x ≡ 0 = z 0 in let k = total-zeros xs (λ j. z (suc j)) in omega arith

words-zero : (l : List ℕ) → Zeros l → (o n : ℕ) → all_zero (words_at l o n) ≡ true
unfolding all_zero words_at word_at
words-zero l z o zero = refl
words-zero l z o (suc n) = rw (z o, z (o + 1), z (o + 2), z (o + 3)) (words-zero l z (o + 4) n)

and-not : (a b : Bool) → b ≡ true → a && not b ≡ false
and-not true b h = rw h
and-not false b h = refl

pub none-cancels : (size n : ℕ) (l : List ℕ) → Zeros l → some_cancels size n l ≡ false
unfolding some_cancels cancels
none-cancels size zero l z = refl
none-cancels size (suc n) l z =
    rw (and-not (eqb (total (row_words (take size l)) % 0x100000000) 0) (all_zero (row_words (take size l))) (words-zero (take size l) (zeros-take size l z) 0 (length (take size l) / 4)))
    (none-cancels size n (drop size l) (zeros-drop size l z))
