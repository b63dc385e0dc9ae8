-- Laws of lists that speak of no part of ours: cuts past the end, runs that are stored, a part up to the end. Assumes nothing.
use Rattle.std.proofs.Common.{◌≡◌, ℕ, zero, suc, ◌+◌, ◌-◌, ◌≤◌, min, Bool, true, false, leb, List, [], ◌∷◌, ◌++◌, length, take, drop, set, sym, refl, ap, ◌∙◌, append-nil, arith, length-drop, drop_of_length-le, take_all, leb-false, leb-true}
use borrow.Rule.Slice.PartMut.{put_mid}
use lib.Seq.{sets, sets-eq}

-- a cut past the end is one at the end
pub take_min : (n : ℕ) (l : List ℕ) → take (min n (length l)) l ≡ take n l
take_min n l = go (leb n (length l)) refl
  where
    go : (b : Bool) → leb n (length l) ≡ b → take (min n (length l)) l ≡ take n l
    go true q = let h = leb-true n (length l) q in let e : min n (length l) ≡ n = omega arith in rw e
    go false q = let h = leb-false n (length l) q in take_all (min n (length l)) l (omega arith) ∙ sym (take_all n l (omega arith))

pub drop_min : (n : ℕ) (l : List ℕ) → drop (min n (length l)) l ≡ drop n l
drop_min n l = go (leb n (length l)) refl
  where
    go : (b : Bool) → leb n (length l) ≡ b → drop (min n (length l)) l ≡ drop n l
    go true q = let h = leb-true n (length l) q in let e : min n (length l) ≡ n = omega arith in rw e
    go false q = let h = leb-false n (length l) q in drop_of_length-le l {i = min n (length l)} (omega arith) ∙ sym (drop_of_length-le l {i = n} (omega arith))

pub sets-cons : (y : ℕ) (l : List ℕ) (i : ℕ) (vs : List ℕ) → sets (y ∷ l) (suc i) vs ≡ y ∷ sets l i vs
sets-cons y l i [] = refl
sets-cons y l i (v ∷ vs) = sets-cons y (set l i v) (suc i) vs

-- a store past the first part of a list
pub sets-past : (a b : List ℕ) (n k : ℕ) (vs : List ℕ) → length a ≡ n → n ≤ k → sets (a ++ b) k vs ≡ a ++ sets b (k - n) vs
sets-past [] b n k vs e h = let e' : k - n ≡ k = omega arith in rw e'
sets-past (y ∷ a) b n zero vs e h = absurd (omega arith)
sets-past (y ∷ a) b n (suc k) vs e h =
    let e' : suc k - n ≡ k - length a = omega arith in
    rw e' (sets-cons y (a ++ b) k vs ∙ ap (λ (l : List ℕ). y ∷ l) (sets-past a b (length a) k vs refl (omega arith)))

-- two stores, one after the other
pub sets-append : (l : List ℕ) (i : ℕ) (vs ws : List ℕ) → sets l i (vs ++ ws) ≡ sets (sets l i vs) (i + length vs) ws
sets-append l i [] ws = let e : i + 0 ≡ i = omega arith in rw e
sets-append l i (v ∷ vs) ws =
    let e : i + suc (length vs) ≡ suc i + length vs = omega arith in
    rw e (sets-append (set l i v) (suc i) vs ws)

-- a store of as many elements as the list has
pub sets-whole : (l vs : List ℕ) → length vs ≡ length l → sets l 0 vs ≡ vs
sets-whole l vs h = sets-eq vs l 0 (omega arith) ∙ rw (drop_of_length-le l {i = 0 + length vs} (omega arith)) (append-nil vs)

-- a part from a to the end of a list, and the list after the part came back
module _ (xs : List ℕ) (a : ℕ) where
  pub tail-part : take (length xs - a) (drop a xs) ≡ drop a xs
  tail-part = take_all (length xs - a) (drop a xs) (omega (arith, length-drop a xs))

  pub put-tail : (ys : List ℕ) → put_mid a (length xs - a) xs ys ≡ take a xs ++ ys
  put-tail ys = rw (drop_of_length-le (drop a xs) {i = length xs - a} (omega (arith, length-drop a xs)), append-nil)
