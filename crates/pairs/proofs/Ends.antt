-- Laws of pairs that have no room, and of those that have. Assumes nothing.
use mathlib.Core.Bool.{Bool, true, false, ◌&&◌, cond}
use mathlib.Core.List.{List, [], ◌∷◌, ◌++◌}
use mathlib.Core.Path.{◌≡◌, refl, sym, ap, ◌∙◌}
use Prim.Native.Nat.{ℕ, zero, suc, ◌+◌, ◌-◌, ◌*◌, ◌≤◌, ◌<◌}
use native.Mathlib.Omega.{arith}
use borrow.Author.Tests.{le-leb, lt-leb}
use lib.ListN.{length, take, drop, set, length-set, length-drop, take-append-drop}
use lib.Seq.{sets, set-append_left, length-take-le, take_all}
use Rattle.pairs.specs.Digits.{digit_of, is_digit}
use Rattle.pairs.specs.Spelling.{PairRun, front, pairs_at, run_of, pair_run_of, row_after}

-- so many characters spell half as many bytes at most
front-length : (m : List ℕ) (k : ℕ) → length m ≤ 2 * k → length (front m) ≤ k
unfolding front
front-length [] k h = omega arith
front-length (a ∷ []) k h = omega arith
front-length (a ∷ b ∷ m) zero h = absurd (omega arith)
front-length (a ∷ b ∷ m) (suc k) h = go (is_digit a && is_digit b) (front-length m k (omega arith))
  where
    go : (t : Bool) → length (front m) ≤ k → length (cond t ((16 * digit_of a + digit_of b) ∷ front m) []) ≤ suc k
    go true i = omega arith
    go false i = omega arith

-- bytes put into the front of a list
sets-left : (vs xs ys : List ℕ) (i : ℕ) → i + length vs ≤ length xs → sets (xs ++ ys) i vs ≡ sets xs i vs ++ ys
sets-left [] xs ys i h = refl
sets-left (v ∷ vs) xs ys i h =
    ap (λ (l : List ℕ). sets l (suc i) vs) (set-append_left xs ys i v (omega arith)) ∙ sets-left vs (set xs i v) ys (suc i) (simp length-set (omega arith))

-- k pairs from p on that have no room in the text or the row, and those that have
module _ (row text : List ℕ) (p k : ℕ) where
  abbrev Nothing : Type 0
  Nothing = (record { good = false; sum = 0 } ≡ pair_run_of text p k (length row)) × (row ≡ row_after row text p k)

  pub too_many : 260 < k → Nothing
  unfolding pair_run_of row_after
  too_many h = let e = lt-leb k 260 h in (rw e, rw e)

  pub row-short : k ≤ 260 → length row < k → Nothing
  unfolding pair_run_of row_after
  row-short h i = let e = le-leb k 260 h in let f = lt-leb k (length row) i in (rw (e, f), rw (e, f))

  pub text-short : k ≤ 260 → k ≤ length row → length text < p + 2 * k → Nothing
  unfolding pair_run_of row_after
  text-short h i j =
      let e = le-leb k 260 h in
      let f = le-leb k (length row) i in
      let g = lt-leb (p + 2 * k) (length text) j in (rw (e, f, g), rw (e, f, g))

  pub has_room : k ≤ 260 → k ≤ length row → p + 2 * k ≤ length text
      → (pair_run_of text p k (length row) ≡ run_of text p k) × (row_after row text p k ≡ sets row 0 (front (pairs_at text p k)))
  unfolding pair_run_of row_after
  has_room h i j =
      let e = le-leb k 260 h in
      let f = le-leb k (length row) i in
      let g = le-leb (p + 2 * k) (length text) j in (rw (e, f, g), rw (e, f, g))

  -- so the loop gives what is wanted, from the part of the text and of the row that it has
  pub all-spelt : k ≤ 260 → k ≤ length row → p + 2 * k ≤ length text → (r : PairRun) (row' : List ℕ)
      → r ≡ run_of (take (length text - p) (drop p text)) 0 (length (take k row))
      → row' ≡ sets (take k row) 0 (front (pairs_at (take (length text - p) (drop p text)) 0 (length (take k row))))
      → (r ≡ pair_run_of text p k (length row)) × (row' ++ drop k row ≡ row_after row text p k)
  all-spelt h i j r row' er ew =
      let n : length (take k row) ≡ k = length-take-le k row i in
      let t : take (length text - p) (drop p text) ≡ drop p text = take_all (length text - p) (drop p text) (omega (arith, length-drop p text)) in
      let e = has_room h i j in
      let vs = front (pairs_at text p k) in
      let few = front-length (pairs_at text p k) k (omega (arith, length-take-le (2 * k) (drop p text) (omega (arith, length-drop p text)))) in (
        rw (t, n) at er ∙ sym e.0,
        ap (λ (l : List ℕ). l ++ drop k row) (rw (t, n) at ew)
            ∙ sym (sets-left vs (take k row) (drop k row) 0 (omega arith))
            ∙ ap (λ (l : List ℕ). sets l 0 vs) (take-append-drop k row)
            ∙ sym e.1,
      )
