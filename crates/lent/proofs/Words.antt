-- Laws of words and sums. Assumes nothing.
use Rattle.std.proofs.Common.{◌≡◌, ℕ, ◌+◌, ◌-◌, ◌*◌, ◌%◌, ◌<◌, ◌≤◌, List, [], ◌∷◌, length, get_or, take, drop, fold, sym, ap, ◌∙◌, zero-add, add-zero, add_assoc, mod-eq_of_lt, arith, length-drop, get_or-drop, take_all, get_or-take}
use native.Mathlib.Nat.{mod-add-mod}
use lib.ListN.{get_or-eq_default}
use Rattle.lent.specs.Words.{total, word_at, part_of}

-- past the end every byte, and so the word, is 0
pub word_none : (bytes : List ℕ) (o : ℕ) → length bytes ≤ o → word_at bytes o ≡ 0
unfolding word_at
word_none bytes o h = simp (past 1 (omega arith), past 2 (omega arith), past 3 (omega arith), get_or-eq_default bytes 0 h)
  where
    past : (k : ℕ) → length bytes ≤ o + k → get_or bytes (o + k) 0 ≡ 0
    past k l = get_or-eq_default bytes 0 l

-- a word is that of its four bytes
pub word_same : (xs ys : List ℕ) (o p : ℕ) → ((k : ℕ) → k < 4 → get_or xs (o + k) 0 ≡ get_or ys (p + k) 0) → word_at xs o ≡ word_at ys p
unfolding word_at
word_same xs ys o p h =
    let z : get_or xs o 0 ≡ get_or ys p 0 = simp add-zero at (h 0 (omega arith)) in
    rw (z, h 1 (omega arith), h 2 (omega arith), h 3 (omega arith))

-- a word by the bytes from its offset on, as they are lent
pub word_rest : (bytes rest : List ℕ) (o : ℕ) → rest ≡ take (length bytes - o) (drop o bytes)
    → word_at bytes o ≡ get_or rest 0 0 + 256 * get_or rest 1 0 + 0x10000 * get_or rest 2 0 + 0x1000000 * get_or rest 3 0
unfolding word_at
word_rest bytes rest o e =
    let z : get_or bytes o 0 ≡ get_or rest 0 0 = simp add-zero at (same 0) in
    rw (z, same 1, same 2, same 3)
  where
    whole : take (length bytes - o) (drop o bytes) ≡ drop o bytes
    whole = take_all (length bytes - o) (drop o bytes) (omega (arith, length-drop o bytes))

    same : (k : ℕ) → get_or bytes (o + k) 0 ≡ get_or rest k 0
    same k = sym (ap (λ (l : List ℕ). get_or l k 0) (e ∙ whole) ∙ get_or-drop o bytes k 0)

-- a word inside a part of bytes
pub part-word : (bytes : List ℕ) (from n o : ℕ) → o + 4 ≤ n → word_at (part_of bytes from n) o ≡ word_at bytes (from + o)
part-word bytes from n o h =
    word_same (part_of bytes from n) bytes o (from + o)
    (λ k b.
    let e : from + (o + k) ≡ from + o + k = omega arith in
    get_or-take n (drop from bytes) (o + k) 0 (omega arith) ∙ get_or-drop from bytes (o + k) 0 ∙ ap (λ (x : ℕ). get_or bytes x 0) e)

-- a term of a sum taken into an accumulator that is kept below m
pub carry-in : (s b t m : ℕ) → ((s + b) % m + t) % m ≡ (s + (b + t)) % m
carry-in s b t m = rw (mod-add-mod, add_assoc)

-- a sum by a fold that is kept below 2^32
fold-total : (xs : List ℕ) (s : ℕ) → s < 0x100000000 → fold (λ a x. (a + x) % 0x100000000) s xs ≡ (s + total xs) % 0x100000000
unfolding total
fold-total [] s h = rw (add-zero, mod-eq_of_lt h)
fold-total (x ∷ xs) s h = fold-total xs ((s + x) % 0x100000000) (omega arith) ∙ carry-in s x (total xs) 0x100000000

pub total_fold : (xs : List ℕ) → fold (λ a x. (a + x) % 0x100000000) 0 xs ≡ total xs % 0x100000000
total_fold xs = rw zero-add at (fold-total xs 0 (omega arith))
