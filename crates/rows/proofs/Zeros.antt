-- Laws of the test whether a row is all zero. Assumes nothing.
use Rattle.std.proofs.Common.{◌≡◌, ℕ, zero, suc, ◌+◌, ◌*◌, ◌/◌, ◌%◌, ◌≤◌, Bool, true, false, not, ◌&&◌, cond, eqb, List, [], ◌∷◌, length, get_or, take, drop, sym, refl, ap, ◌∙◌, zero-add, arith, drop-cons, ne_eqb, eqb-true}
use Rattle.std.proofs.Common.{◌<◌, fold, add-zero, mod-eq_of_lt, drop-drop, get_or-drop, get_or-take}
use Rattle.std.specs.Int.{from_le_bytes, w32}
use Rattle.std.specs.Simd.{first_chunks}
use Rattle.lent.proofs.Words.{carry-in}
use mathlib.Core.Bool.{and-true, and-false}
use borrow.Author.Tests.{eqb-false}
use Rattle.rows.specs.Cancels.{row_words, cancels}
use Rattle.lent.specs.Words.{total, all_zero, word_at, words_at}
use Rattle.rows.specs.Zeros.{bytes_read, zero_row}
use Rattle.rows.specs.declared.ZeroRow.{ZeroRow}

-- what is said of a row, from what is said of its rest after n bytes that are 0
abbrev pub after : ℕ → ZeroRow → ZeroRow
after n z = record { all = z.all; read = n + z.read }

-- a byte stops the test, or the rest decides
pub zero-stop : {bytes rest : List ℕ} {b : ℕ} → bytes ≡ b ∷ rest → eqb b 0 ≡ false → zero_row bytes ≡ record { all = false; read = 1 }
unfolding bytes_read all_zero
zero-stop e t = rw (e, t)

pub zero-next : {bytes rest : List ℕ} {b : ℕ} → bytes ≡ b ∷ rest → eqb b 0 ≡ true → zero_row bytes ≡ after 1 (zero_row rest)
unfolding bytes_read all_zero
zero-next e t = rw (e, t)

pub zero-none : {bytes : List ℕ} → bytes ≡ [] → zero_row bytes ≡ record { all = true; read = 0 }
unfolding bytes_read all_zero
zero-none e = rw e

-- a word is 0 exactly when its four bytes are, whatever follows
module _ (a b c d : ℕ) (rest : Bool) where
  abbrev w : ℕ
  w = a + 256 * b + 0x10000 * c + 0x1000000 * d

  by : (p q r s : Bool) → eqb a 0 ≡ p → eqb b 0 ≡ q → eqb c 0 ≡ r → eqb d 0 ≡ s
      → (eqb a 0 && (eqb b 0 && (eqb c 0 && (eqb d 0 && rest)))) ≡ (eqb w 0 && rest)
  by true true true true p q r s = rw (eqb-true a 0 p, eqb-true b 0 q, eqb-true c 0 r, eqb-true d 0 s)
  by false x y z p q r s = simp (p, ne_eqb w 0 (λ (e : w ≡ 0). eqb-false a 0 p (omega arith)))
  by true false y z p q r s = simp (p, q, ne_eqb w 0 (λ (e : w ≡ 0). eqb-false b 0 q (omega arith)))
  by true true false z p q r s = simp (p, q, r, ne_eqb w 0 (λ (e : w ≡ 0). eqb-false c 0 r (omega arith)))
  by true true true false p q r s = simp (p, q, r, s, ne_eqb w 0 (λ (e : w ≡ 0). eqb-false d 0 s (omega arith)))

  word-zero : (eqb a 0 && (eqb b 0 && (eqb c 0 && (eqb d 0 && rest)))) ≡ (eqb w 0 && rest)
  word-zero = by (eqb a 0) (eqb b 0) (eqb c 0) (eqb d 0) refl refl refl refl

-- four bytes of a row, and its word
four-turn : (row : List ℕ) (o n : ℕ) → o + 4 ≤ length row
    → all_zero (take (4 * suc n) (drop o row)) ≡ (eqb (word_at row o) 0 && all_zero (take (4 * n) (drop (o + 4) row)))
unfolding all_zero word_at
four-turn row o n h =
    let e : 4 * suc n ≡ suc (suc (suc (suc (4 * n)))) = omega arith in
    let one : o + 1 ≡ suc o = omega arith in
    let two : o + 2 ≡ suc (suc o) = omega arith in
    let three : o + 3 ≡ suc (suc (suc o)) = omega arith in
    let four : o + 4 ≡ suc (suc (suc (suc o))) = omega arith in
    rw (
      e,
      one,
      two,
      three,
      four,
      drop-cons row o 0 (omega arith),
      drop-cons row (suc o) 0 (omega arith),
      drop-cons row (suc (suc o)) 0 (omega arith),
      drop-cons row (suc (suc (suc o))) 0 (omega arith),
    )
    (word-zero (get_or row o 0) (get_or row (suc o) 0) (get_or row (suc (suc o)) 0) (get_or row (suc (suc (suc o))) 0)
    (all_zero (take (4 * n) (drop (suc (suc (suc (suc o)))) row))))

-- the bytes of whole words are all 0 exactly where the words are
pub bytes-zero : (row : List ℕ) (o n : ℕ) → o + 4 * n ≤ length row → all_zero (take (4 * n) (drop o row)) ≡ all_zero (words_at row o n)
unfolding all_zero words_at
bytes-zero row o zero h = refl
bytes-zero row o (suc n) h = four-turn row o n (omega arith) ∙ ap (λ rest. eqb (word_at row o) 0 && rest) (bytes-zero row (o + 4) n (omega arith))

-- the words of a row as four bytes each, summed by a fold that is kept below 2^32
four-word : (row : List ℕ) (o : ℕ) → from_le_bytes w32 (take 4 (drop o row)) ≡ word_at row o
unfolding word_at
four-word row o =
    let z : get_or (take 4 (drop o row)) 0 0 ≡ get_or row o 0 = simp add-zero at (byte 0 (omega arith)) in
    omega (arith, byte 1 (omega arith), byte 2 (omega arith), byte 3 (omega arith))
  where
    byte : (k : ℕ) → k < 4 → get_or (take 4 (drop o row)) k 0 ≡ get_or row (o + k) 0
    byte k h = get_or-take 4 (drop o row) k 0 h ∙ get_or-drop o row k 0

abbrev add_word : ℕ → List ℕ → ℕ
add_word a w = (a + from_le_bytes w32 w) % 0x100000000

fold-words : (row : List ℕ) (o n s : ℕ) → s < 0x100000000 → fold add_word s (first_chunks 4 n (drop o row)) ≡ (s + total (words_at row o n)) % 0x100000000
unfolding total words_at
fold-words row o zero s h = rw (add-zero, mod-eq_of_lt h)
fold-words row o (suc n) s h =
    ap (λ (v : ℕ). fold add_word ((s + v) % 0x100000000) (first_chunks 4 n (drop 4 (drop o row)))) (four-word row o)
    ∙ ap (λ (l : List ℕ). fold add_word ((s + word_at row o) % 0x100000000) (first_chunks 4 n l)) (drop-drop 4 o row)
    ∙ fold-words row (o + 4) n ((s + word_at row o) % 0x100000000) (omega arith)
    ∙ carry-in s (word_at row o) (total (words_at row (o + 4) n)) 0x100000000

pub sum_words : (row : List ℕ) → fold add_word 0 (first_chunks 4 (length row / 4) row) ≡ total (row_words row) % 0x100000000
sum_words row = rw zero-add at (fold-words row 0 (length row / 4) 0 (omega arith))

-- the two ways of number 10's test, by the bytes of a row's whole words
module _ (row : List ℕ) where
  abbrev Whole : List ℕ
  Whole = take (4 * (length row / 4)) row

  abbrev adds : Bool
  adds = eqb (total (row_words row) % 0x100000000) 0

  pub whole-zero : all_zero Whole ≡ all_zero (row_words row)
  whole-zero = bytes-zero row 0 (length row / 4) (omega arith)

  pub cancels-blank : all_zero Whole ≡ true → cancels row ≡ false
  unfolding cancels
  cancels-blank t = ap (λ (z : Bool). adds && not z) (sym whole-zero ∙ t) ∙ and-false adds

  pub cancels-filled : all_zero Whole ≡ false → cancels row ≡ adds
  unfolding cancels
  cancels-filled t = ap (λ (z : Bool). adds && not z) (sym whole-zero ∙ t) ∙ and-true adds

  -- both at once, for the function that tests a row
  pub cancels_by : cancels row ≡ cond (all_zero Whole) false adds
  cancels_by = go (all_zero Whole) refl
    where
      go : (b : Bool) → all_zero Whole ≡ b → cancels row ≡ cond b false adds
      go true t = cancels-blank t
      go false t = cancels-filled t
