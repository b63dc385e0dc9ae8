-- A line grows at its end. Assumes nothing.
use mathlib.Core.Bool.{Bool, true, false}
use mathlib.Core.List.{List, [], ◌∷◌, ◌++◌}
use mathlib.Core.Path.{◌≡◌, refl, sym, ap, ◌∙◌}
use Prim.Native.Nat.{ℕ, ◌+◌, ◌-◌, ◌^◌, ◌≤◌, ◌<◌}
use native.Mathlib.Nat.{le_trans, zero-lt-suc, pow-le-pow_right}
use native.Mathlib.Omega.{arith}
use borrow.Author.Tests.{leb-true, leb-false}
use lib.Dec.{leb}
use lib.ListN.{take, drop}
use lib.Seq.{drop-drop}
use Rattle.dry.specs.Runs.{Spells}
use Rattle.io.specs.Digits.{last_digits, IsDigitCount}

-- lists that agree from a place on agree from any later one on
rest-later : (l m : List ℕ) (a c : ℕ) → a ≤ c → drop a l ≡ drop a m → drop c l ≡ drop c m
rest-later l m a c h e =
    let k : a + (c - a) ≡ c = omega arith in
    ap (λ (n : ℕ). drop n l) (sym k) ∙ sym (drop-drop (c - a) a l) ∙ ap (drop (c - a)) e ∙ drop-drop (c - a) a m ∙ ap (λ (n : ℕ). drop n m) k

pub rest-kept : (line₀ line₁ line₂ line₃ : List ℕ) (first second third : ℕ) → first ≤ second → second ≤ third → drop first line₁ ≡ drop first line₀
    → drop second line₂ ≡ drop second line₁ → drop third line₃ ≡ drop third line₂ → drop third line₃ ≡ drop third line₀
rest-kept line₀ line₁ line₂ line₃ first second third h k e f g =
    g ∙ rest-later line₂ line₁ second third k f ∙ rest-later line₁ line₀ first third (le_trans h k) e

-- a number of 64 bits has at most 20 digits
pub few-places : (n k : ℕ) → n < 2 ^ 64 → IsDigitCount 10 1 n k → k ≤ 20
few-places n k h f = by (leb k 20) refl
  where
    by : (t : Bool) → leb k 20 ≡ t → k ≤ 20
    by true e = leb-true k 20 e
    by false e =
        let o : 20 < k = leb-false k 20 e in
        let p : 20 ≤ k - 1 = omega arith in
        let q : 10 ^ 20 ≤ 10 ^ (k - 1) = pow-le-pow_right (zero-lt-suc 9) p in
        let a : 100000000000000000000 ≤ n = le_trans q (f.2 (omega arith)) in
        absurd (omega arith)

-- the word, the digits and the line feed, one after the other
pub spelled : (word digs line₀ line₁ line₂ line₃ : List ℕ) (n k first second third : ℕ) → IsDigitCount 10 1 n k → digs ≡ last_digits 10 k n
    → take first line₁ ≡ take 0 line₀ ++ word
    → take second line₂ ≡ take first line₁ ++ digs
    → take third line₃ ≡ take second line₂ ++ (10 ∷ [])
    → Spells word n (take third line₃)
spelled word digs line₀ line₁ line₂ line₃ n k first second third few d e f g = record {
  places = k;
  fewest = few;
  is = g ∙ ap (λ (l : List ℕ). l ++ (10 ∷ [])) (f ∙ ap (λ (l : List ℕ). l ++ digs) e ∙ ap (λ (l : List ℕ). word ++ l) d);
}
