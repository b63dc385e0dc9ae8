-- From the front of what is left of a text to positions in it. Assumes nothing.
use mathlib.Core.Bool.{Bool, true, false, false≢true, ◌&&◌, cond}
use mathlib.Core.List.{List, [], ◌∷◌, ◌++◌}
use mathlib.Core.Logic.{◌⊎◌, inl, inr}
use mathlib.Core.Path.{◌≡◌, refl, sym, ap, ◌∙◌}
use Prim.Native.Nat.{ℕ, suc, ◌+◌, ◌-◌, ◌*◌, ◌≤◌, ◌<◌}
use native.Mathlib.Omega.{arith}
use borrow.Author.Tests.{eqb-true, ltb-true, ltb-false, leb-true}
use lib.Dec.{eqb, leb, ltb}
use lib.ListN.{length, get_or, take, drop, get_or-eq_default}
use lib.Seq.{get_or-drop, drop-drop, drop-cons, sets, sets-eq, take_at}
use Rattle.pairs.specs.Digits.{digit_of, is_digit}
use Rattle.pairs.specs.Spelling.{front, pairs_at, run_of, pair_run_of, line_end}
use Rattle.pairs.proofs.Spelling.{pairs-turn}

pub head_at : (s : List ℕ) (p x : ℕ) (t : List ℕ) → drop p s ≡ x ∷ t → get_or s p 0 ≡ x
head_at s p x t e =
    let z : p ≡ p + 0 = omega arith in
    ap (λ (n : ℕ). get_or s n 0) z ∙ sym (get_or-drop p s 0 0) ∙ ap (λ (l : List ℕ). get_or l 0 0) e

pub tail_at : (s : List ℕ) (p x : ℕ) (t : List ℕ) → drop p s ≡ x ∷ t → drop (p + 1) s ≡ t
tail_at s p x t e = sym (drop-drop 1 p s) ∙ ap (λ (l : List ℕ). drop 1 l) e

pub drop_more : (m s : List ℕ) (p : ℕ) (rest : List ℕ) → drop p s ≡ m ++ rest → drop (p + length m) s ≡ rest
drop_more [] s p rest e = let z : p + 0 ≡ p = omega arith in rw z e
drop_more (x ∷ m) s p rest e =
    let z : p + suc (length m) ≡ p + 1 + length m = omega arith in
    rw z (drop_more m s (p + 1) rest (tail_at s p x (m ++ rest) e))

-- a byte other than 0 lies inside the text
pub inside : (s : List ℕ) (p x : ℕ) → get_or s p 0 ≡ x → 0 < x → p < length s
inside s p x e h = go (ltb p (length s)) refl
  where
    go : (b : Bool) → ltb p (length s) ≡ b → p < length s
    go true q = ltb-true p (length s) q
    go false q = absurd (omega (arith, get_or-eq_default s 0 (ltb-false p (length s) q)))

pub drop_at : (s : List ℕ) (p x : ℕ) → get_or s p 0 ≡ x → 0 < x → drop p s ≡ x ∷ drop (p + 1) s
drop_at s p x e h =
    let z : suc p ≡ p + 1 = omega arith in
    drop-cons s p 0 (inside s p x e h) ∙ ap (λ (y : ℕ). y ∷ drop (suc p) s) e ∙ ap (λ (n : ℕ). x ∷ drop n s) z

-- line ends, from the grammar and back
pub lf-at : (s : List ℕ) (e : ℕ) (rest : List ℕ) → drop e s ≡ 10 ∷ rest → 0 < line_end s e
unfolding line_end
lf-at s e rest h = rw (head_at s e 10 rest h) (omega arith)

pub cr-at : (s : List ℕ) (e : ℕ) (rest : List ℕ) → drop e s ≡ 13 ∷ 10 ∷ rest → 0 < line_end s e
unfolding line_end
cr-at s e rest h = rw (head_at s e 13 (10 ∷ rest) h, head_at s (e + 1) 10 rest (tail_at s e 13 (10 ∷ rest) h)) (omega arith)

pub ended : (s : List ℕ) (e w : ℕ) → w ≡ line_end s e → (w ≡ 0 → ⊥)
    → ((w ≡ 1) × (drop e s ≡ 10 ∷ drop (e + w) s)) ⊎ ((w ≡ 2) × (drop e s ≡ 13 ∷ 10 ∷ drop (e + w) s))
unfolding line_end
ended s e w h some = go (eqb (get_or s e 0) 10) (eqb (get_or s e 0) 13) (eqb (get_or s (e + 1) 0) 10) refl refl refl h
  where
    go : (a b c : Bool) → eqb (get_or s e 0) 10 ≡ a → eqb (get_or s e 0) 13 ≡ b → eqb (get_or s (e + 1) 0) 10 ≡ c
        → w ≡ cond a 1 (cond (b && c) 2 0)
        → ((w ≡ 1) × (drop e s ≡ 10 ∷ drop (e + w) s)) ⊎ ((w ≡ 2) × (drop e s ≡ 13 ∷ 10 ∷ drop (e + w) s))
    go true b c p q r i =
        inl (i, drop_at s e 10 (eqb-true (get_or s e 0) 10 p) (omega arith) ∙ ap (λ (n : ℕ). 10 ∷ drop (e + n) s) (sym i))
    go false true true p q r i =
        let z : e + 1 + 1 ≡ e + w = omega arith in
        inr (
          i,
          drop_at s e 13 (eqb-true (get_or s e 0) 13 q) (omega arith)
              ∙ ap (λ (l : List ℕ). 13 ∷ l) (drop_at s (e + 1) 10 (eqb-true (get_or s (e + 1) 0) 10 r) (omega arith))
              ∙ ap (λ (n : ℕ). 13 ∷ 10 ∷ drop n s) z,
        )
    go false true false p q r i = absurd (some i)
    go false false c p q r i = absurd (some i)

-- the first byte of a run: it is one byte, and the same in a run of one pair
front-two : (t : Bool) (x : ℕ) (f g : List ℕ) → get_or (cond t (x ∷ f) []) 0 0 ≡ get_or (cond t (x ∷ g) []) 0 0
front-two true x f g = refl
front-two false x f g = refl

module _ (s : List ℕ) (q k : ℕ) (some : 0 < k) (room : q + 2 * k ≤ length s) where
  pub first-same : get_or (front (pairs_at s q k)) 0 0 ≡ get_or (front (pairs_at s q 1)) 0 0
  unfolding front
  first-same =
      rw (pairs-turn s q k some room, pairs-turn s q 1 (omega arith) (omega arith))
      (front-two (is_digit (get_or s q 0) && is_digit (get_or s (q + 1) 0)) (16 * digit_of (get_or s q 0) + digit_of (get_or s (q + 1) 0)) (front (pairs_at s (q + 2) (k - 1))) [])

  pub first_one : (n : ℕ) (bs : List ℕ) → front (pairs_at s q k) ≡ n ∷ bs → (front (pairs_at s q 1) ≡ n ∷ []) × (n ≤ 255)
  unfolding front
  first_one n bs e =
      go (is_digit (get_or s q 0)) (is_digit (get_or s (q + 1) 0)) refl refl (sym (ap front (pairs-turn s q k some room)) ∙ e)
    where
      go : (t u : Bool) → is_digit (get_or s q 0) ≡ t → is_digit (get_or s (q + 1) 0) ≡ u → cond (t && u) ((16 * digit_of (get_or s q 0) + digit_of (get_or s (q + 1) 0)) ∷ front (pairs_at s (q + 2) (k - 1))) [] ≡ n ∷ bs
          → (front (pairs_at s q 1) ≡ n ∷ []) × (n ≤ 255)
      go true true h i f =
          let x : 16 * digit_of (get_or s q 0) + digit_of (get_or s (q + 1) 0) ≡ n = cc f in
          (rw (pairs-turn s q 1 (omega arith) (omega arith)) (rw (h, i, x)), omega (arith, ltb-true (digit_of (get_or s q 0)) 16 h, ltb-true (digit_of (get_or s (q + 1) 0)) 16 i))
      go true false h i f = let z : false ≡ true = cc f in absurd (false≢true z)
      go false u h i f = let z : false ≡ true = cc f in absurd (false≢true z)

-- a row after a run
pub row-front : (row vs : List ℕ) → length vs ≤ length row → take (length vs) (sets row 0 vs) ≡ vs
row-front row vs h =
    ap (take (length vs)) (sets-eq vs row 0 (omega arith)) ∙ take_at vs (drop (0 + length vs) row) (length vs) refl

pub row_first : (row vs : List ℕ) → length vs ≤ length row → 0 < length vs → get_or (sets row 0 vs) 0 0 ≡ get_or vs 0 0
row_first row [] h i = absurd (omega arith)
row_first row (v ∷ vs) h i = ap (λ (l : List ℕ). get_or l 0 0) (sets-eq (v ∷ vs) row 0 (omega arith))

-- a good run, and what it takes
pub record Good (text : List ℕ) (p k room : ℕ) : Type 0 where
  pub few : k ≤ 260
  pub roomy : k ≤ room
  pub within : p + 2 * k ≤ length text
  pub all : length (front (pairs_at text p k)) ≡ k

pub good-run : (text : List ℕ) (p k room : ℕ) → (pair_run_of text p k room).good ≡ true → Good text p k room
unfolding pair_run_of
good-run text p k room = go (leb k 260) (leb k room) (leb (p + 2 * k) (length text)) refl refl refl
  where
    go : (a b c : Bool) → leb k 260 ≡ a → leb k room ≡ b → leb (p + 2 * k) (length text) ≡ c
        → (cond (a && b && c) (run_of text p k) (record { good = false; sum = 0 })).good ≡ true
        → Good text p k room
    go true true true x y z h = record {
      few = leb-true k 260 x;
      roomy = leb-true k room y;
      within = leb-true (p + 2 * k) (length text) z;
      all = eqb-true (length (front (pairs_at text p k))) k h;
    }
    go true true false x y z h = absurd (false≢true h)
    go true false c x y z h = absurd (false≢true h)
    go false b c x y z h = absurd (false≢true h)
