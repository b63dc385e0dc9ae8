-- Laws of digit pairs at a position of a text. Assumes nothing.
use mathlib.Core.List.{List, [], ◌∷◌}
use Rattle.std.specs.Prelude.{true, false, Some, None, Result, Ok, Err}
use Rattle.std.specs.Result.{result_ok}
use mathlib.Core.Path.{◌≡◌, refl, sym, ap, ◌∙◌}
use Prim.Native.Nat.{ℕ, zero, suc, ◌+◌, ◌-◌, ◌*◌, ◌≤◌, ◌<◌}
use native.Mathlib.Omega.{arith}
use native.Mathlib.Nat.{add-zero}
use borrow.Author.Tests.{lt-ltb, le-ltb, eq-eqb, ne_eqb}
use lib.ListN.{length, get_or, take, drop, set, length-set}
use lib.Seq.{sets, drop-cons}
use Rattle.lent.specs.Words.{total}
use Rattle.pairs.specs.Digits.{digit_of}
use Rattle.pairs.specs.Spelling.{PairRun, digits_from, front, pairs_at, run_of, run_told}

-- the table's entry is the digit's value
pub digits-at : (n i k : ℕ) → k < n → get_or (digits_from i n) k 0 ≡ digit_of (i + k)
unfolding digits_from
digits-at zero i k h = absurd (omega arith)
digits-at (suc n) i zero h = ap digit_of (omega arith)
digits-at (suc n) i (suc k) h = digits-at n (i + 1) k (omega arith) ∙ ap digit_of (omega arith)

-- two characters off the front
pub drop-two : (s : List ℕ) (q : ℕ) → q + 2 ≤ length s → drop q s ≡ get_or s q 0 ∷ get_or s (q + 1) 0 ∷ drop (q + 2) s
drop-two s q h =
    let e : suc q ≡ q + 1 = omega arith in
    let f : suc (q + 1) ≡ q + 2 = omega arith in
    drop-cons s q 0 (omega arith)
    ∙ ap (λ (n : ℕ). get_or s q 0 ∷ drop n s) e
    ∙ ap (λ (l : List ℕ). get_or s q 0 ∷ l) (drop-cons s (q + 1) 0 (omega arith))
    ∙ ap (λ (n : ℕ). get_or s q 0 ∷ get_or s (q + 1) 0 ∷ drop n s) f

-- the pairs that are left begin with the two characters at q
pub pairs-turn : (s : List ℕ) (q k : ℕ) → 0 < k → q + 2 * k ≤ length s
    → pairs_at s q k ≡ get_or s q 0 ∷ get_or s (q + 1) 0 ∷ pairs_at s (q + 2) (k - 1)
pairs-turn s q k h r =
    let e : 2 * k ≡ suc (suc (2 * (k - 1))) = omega arith in
    ap (λ (l : List ℕ). take (2 * k) l) (drop-two s q (omega arith))
    ∙ ap (λ (n : ℕ). take n (get_or s q 0 ∷ get_or s (q + 1) 0 ∷ drop (q + 2) s)) e

module _ (s : List ℕ) (q k h l : ℕ) (some : 0 < k) (inside : q + 2 * k ≤ length s) (eh : h ≡ digit_of (get_or s q 0)) (el : l ≡ digit_of (get_or s (q + 1) 0)) where
  -- a pair: its byte, then what the rest spells
  pub front-more : h ≤ 15 → l ≤ 15 → front (pairs_at s q k) ≡ (16 * h + l) ∷ front (pairs_at s (q + 2) (k - 1))
  unfolding front
  front-more i j =
      rw (pairs-turn s q k some inside) (rw (← eh, ← el, lt-ltb h 16 (omega arith), lt-ltb l 16 (omega arith)))

  -- no pair: nothing
  pub front-high : 15 < h → front (pairs_at s q k) ≡ []
  unfolding front
  front-high i = rw (pairs-turn s q k some inside) (rw (← eh, le-ltb h 16 (omega arith)))

  pub front_low : h ≤ 15 → 15 < l → front (pairs_at s q k) ≡ []
  unfolding front
  front_low i j = rw (pairs-turn s q k some inside) (rw (← eh, ← el, lt-ltb h 16 (omega arith), le-ltb l 16 (omega arith)))

-- how far the loop has come after i pairs: what is left spells the rest
pub record Spelling (text row₀ row : List ℕ) (i sum : ℕ) : Type 0 where
  pub inside : 2 * length row₀ ≤ length text
  pub kept : length row ≡ length row₀
  pub done : i ≤ length row₀
  pub small : sum + 255 * (length row₀ - i) ≤ 66300
  pub spelt : length (front (pairs_at text 0 (length row₀))) ≡ i + length (front (pairs_at text (2 * i) (length row₀ - i)))
  pub summed : total (front (pairs_at text 0 (length row₀))) ≡ sum + total (front (pairs_at text (2 * i) (length row₀ - i)))
  pub written : sets row₀ 0 (front (pairs_at text 0 (length row₀))) ≡ sets row i (front (pairs_at text (2 * i) (length row₀ - i)))

module _ {text row₀ row : List ℕ} {i sum : ℕ} (v : Spelling text row₀ row i sum) where
  module _ (nil : front (pairs_at text (2 * i) (length row₀ - i)) ≡ []) where
    come : length (front (pairs_at text 0 (length row₀))) ≡ i
    come = v.spelt ∙ ap (λ (x : List ℕ). i + length x) nil ∙ add-zero i

    added : total (front (pairs_at text 0 (length row₀))) ≡ sum
    unfolding total
    added = v.summed ∙ ap (λ (x : List ℕ). sum + total x) nil ∙ add-zero sum

    pub row-then : row ≡ sets row₀ 0 (front (pairs_at text 0 (length row₀)))
    row-then = sym (v.written ∙ ap (sets row i) nil)

    -- it stops before the last pair, or after it
    pub stops : i < length row₀ → record { good = false; sum = sum } ≡ run_of text 0 (length row₀)
    stops h = rw (come, added, ne_eqb i (length row₀) (λ e. absurd (omega arith)))

    pub ends : i ≡ length row₀ → record { good = true; sum = sum } ≡ run_of text 0 (length row₀)
    ends h = rw (come, added, eq-eqb i (length row₀) h)

  -- one turn
  pub turn : (h l : ℕ) → h ≡ digit_of (get_or text (2 * i) 0) → l ≡ digit_of (get_or text (2 * i + 1) 0) → i < length row₀ → h ≤ 15 → l ≤ 15
      → Spelling text row₀ (set row i (16 * h + l)) (i + 1) (sum + (16 * h + l))
  unfolding total
  turn h l eh el some x y =
      let q : 2 * i + 2 ≡ 2 * (i + 1) = omega arith in
      let e : length row₀ - i - 1 ≡ length row₀ - (i + 1) = omega arith in
      let m = rw (q, e) at (front-more text (2 * i) (length row₀ - i) h l (omega arith) (omega (arith, v.inside)) eh el x y) in
      let n : i + 1 ≡ suc i = omega arith in
      record {
        inside = v.inside;
        kept = simp length-set v.kept;
        done = omega arith;
        small = omega (arith, v.small);
        spelt = omega (arith, v.spelt, ap length m);
        summed = omega (arith, v.summed, ap total m);
        written = v.written ∙ ap (sets row i) m ∙ rw n;
      }

pub start : (text row : List ℕ) → 2 * length row ≤ length text → length row ≤ 260 → Spelling text row row 0 0
start text row a c =
    let q : 2 * 0 ≡ 0 = omega arith in
    let k : length row - 0 ≡ length row = omega arith in
    record {
      inside = a;
      kept = refl;
      done = omega arith;
      small = omega arith;
      spelt = rw (q, k) (omega arith);
      summed = rw (q, k) (omega arith);
      written = rw (q, k) refl;
    }

pub none_left : (text : List ℕ) (q left : ℕ) → left ≡ 0 → front (pairs_at text q left) ≡ []
unfolding front
none_left text q left h = rw h

-- the run of a result that is no sum, and of one that is
pub none-run : (q : Result ℕ ℕ) (r : PairRun) → None ≡ result_ok q → run_told q ≡ r → r.good ≡ false
none-run (Ok s) r n e = absurd (cc n)
none-run (Err s) r n e = sym (ap (λ (x : PairRun). x.good) e)

pub some-run : (q : Result ℕ ℕ) (r : PairRun) (sum : ℕ) → Some sum ≡ result_ok q → run_told q ≡ r → (r.good ≡ true) × (sum ≡ r.sum)
some-run (Ok s) r sum n e = let is : sum ≡ s = cc n in (sym (ap (λ (x : PairRun). x.good) e), is ∙ ap (λ (x : PairRun). x.sum) e)
some-run (Err s) r sum n e = absurd (cc n)
