-- Laws of digit pairs that are put. Assumes nothing.
use mathlib.Core.List.{List, [], ◌∷◌, ◌++◌, append_assoc}
use mathlib.Core.Path.{◌≡◌, refl, sym, ap, ◌∙◌}
use Prim.Native.Nat.{ℕ, zero, suc, ◌+◌, ◌-◌, ◌*◌, ◌/◌, ◌%◌, ◌<◌}
use native.Mathlib.Omega.{arith}
use lib.ListN.{length, get_or, set, take}
use lib.Seq.{sets}
use Rattle.std.proofs.lemmas.List.{take_more, length-take-le}
use Rattle.hex_lines.specs.Lines.{capitals_from}
use Rattle.hex_format.specs.Written.{sum_byte, line_text}
use Rattle.lent.specs.Words.{total}
use Rattle.lent.proofs.Lists.{sets-append}
use Rattle.pairs.specs.Digits.{capital, pairs_of}

-- the table's entry is the capital
pub capitals-at : (n i k : ℕ) → k < n → get_or (capitals_from i n) k 0 ≡ capital (i + k)
unfolding capitals_from
capitals-at zero i k h = absurd (omega arith)
capitals-at (suc n) i zero h = ap capital (omega arith)
capitals-at (suc n) i (suc k) h = capitals-at n (i + 1) k (omega arith) ∙ ap capital (omega arith)

pub total-append : (a b : List ℕ) → total (a ++ b) ≡ total a + total b
unfolding total
total-append [] b = omega arith
total-append (x ∷ a) b = let e = total-append a b in omega arith

pub pairs-append : (a b : List ℕ) → pairs_of (a ++ b) ≡ pairs_of a ++ pairs_of b
unfolding pairs_of
pairs-append [] b = refl
pairs-append (x ∷ a) b = ap (λ (l : List ℕ). capital (x / 16) ∷ capital (x % 16) ∷ l) (pairs-append a b)

pub length_pairs : (a : List ℕ) → length (pairs_of a) ≡ 2 * length a
unfolding pairs_of
length_pairs [] = refl
length_pairs (x ∷ a) = let e = length_pairs a in omega arith

-- a turn of the loop: a byte's pair after the pairs before it
pub pairs-more : (text₀ text : List ℕ) (at i : ℕ) (bytes : List ℕ) → (h l : ℕ) → i < length bytes → text ≡ sets text₀ at (pairs_of (take i bytes))
    → h ≡ capital (get_or bytes i 0 / 16) → l ≡ capital (get_or bytes i 0 % 16)
    → set (set text (at + 2 * i) h) (at + 2 * i + 1) l ≡ sets text₀ at (pairs_of (take (i + 1) bytes))
unfolding pairs_of
pairs-more text₀ text at i bytes h l some e eh el =
    let n : at + length (pairs_of (take i bytes)) ≡ at + 2 * i = omega (arith, length_pairs (take i bytes), length-take-le i bytes (omega arith)) in
    let m : at + 2 * i + 1 ≡ suc (at + 2 * i) = omega arith in
    rw (e, eh, el, m) (sym (rw (take_more bytes i 0 some, pairs-append, sets-append, n) refl))

-- and its value in the sum
pub total-more : (i : ℕ) (bytes : List ℕ) → i < length bytes → total (take (i + 1) bytes) ≡ total (take i bytes) + get_or bytes i 0
unfolding total
total-more i bytes some = rw (take_more bytes i 0 some, total-append) (omega arith)

pub sum_is : (head payload : List ℕ) (a b c : ℕ) → a ≡ total head → b ≡ total payload → c ≡ (256 - (a + b) % 256) % 256 → c ≡ sum_byte (head ++ payload)
sum_is head payload a b c ea eb e = e ∙ rw (total-append, ea, eb)

-- a line put part by part
module _ (text : List ℕ) (at : ℕ) (head payload : List ℕ) (four : length head ≡ 4) where
  abbrev end : ℕ
  end = at + 9 + 2 * length payload

  parts : (c : ℕ) → pairs_of ((head ++ payload) ++ (c ∷ [])) ++ (13 ∷ 10 ∷ []) ≡ pairs_of head ++ (pairs_of payload ++ (pairs_of (c ∷ []) ++ (13 ∷ 10 ∷ [])))
  parts c = simp (pairs-append, append_assoc)

  pub line-put : (c : ℕ) → c ≡ sum_byte (head ++ payload)
      → sets text at (line_text (head ++ payload))
      ≡ set (set (sets (sets (sets (set text at 58) (at + 1) (pairs_of head)) (at + 9) (pairs_of payload)) end (pairs_of (c ∷ []))) (end + 2) 13) (end + 3) 10
  unfolding line_text
  line-put c e =
      let n : suc at ≡ at + 1 = omega arith in
      let h : at + 1 + length (pairs_of head) ≡ at + 9 = omega (arith, length_pairs head) in
      let p : at + 9 + length (pairs_of payload) ≡ end = omega (arith, length_pairs payload) in
      let k : end + length (pairs_of (c ∷ [])) ≡ end + 2 = omega (arith, length_pairs (c ∷ [])) in
      let m : suc (end + 2) ≡ end + 3 = omega arith in
      ap (λ (x : ℕ). sets (set text at 58) (suc at) (pairs_of ((head ++ payload) ++ (x ∷ [])) ++ (13 ∷ 10 ∷ []))) (sym e)
      ∙ rw (parts c, n, sets-append, h, sets-append, p, sets-append, k, m)
