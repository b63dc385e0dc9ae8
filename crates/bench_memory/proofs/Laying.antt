-- Laws of bytes laid over a list, at once or one by one. Assumes nothing.
use mathlib.Core.List.{List, [], ◌∷◌, ◌++◌}
use mathlib.Core.Path.{◌≡◌, refl, sym, ap, ◌∙◌}
use Prim.Native.Nat.{ℕ, zero, suc, ◌+◌, ◌-◌, ◌*◌, ◌/◌, ◌%◌, ◌≤◌, ◌<◌, min}
use native.Mathlib.Omega.{arith}
use lib.ListN.{length, get_or, set, take, drop, replicate, length-set}
use lib.Seq.{sets, sets-eq, length-take-le}
use borrow.Rule.Slice.PartMut.{put_mid}
use Rattle.std.proofs.Common.{append-nil, w32}
use Rattle.std.proofs.lemmas.List.{drop-drop, drop_all, drop_at, take_at, take-replicate}
use Rattle.std.specs.Int.{to_le_bytes}
use Rattle.flow.specs.Calls.{bytes_in}
use Rattle.flow.specs.Target.{sized}
use Rattle.lent.proofs.Lists.{sets-cons}
use Rattle.lent.specs.Words.{low_first}

-- a store past the end does nothing
sets-out : (l : List ℕ) (o : ℕ) (x : List ℕ) → length l ≤ o → sets l o x ≡ l
sets-out l o [] h = refl
sets-out [] o (v ∷ x) h = sets-out [] (suc o) x (omega arith)
sets-out (y ∷ l) zero (v ∷ x) h = absurd (omega arith)
sets-out (y ∷ l) (suc o) (v ∷ x) h = sets-cons y l o (v ∷ x) ∙ ap (λ (r : List ℕ). y ∷ r) (sets-out l o (v ∷ x) (omega arith))

-- ---- a loop that lays xs from the front

-- one turn, of a loop that has laid i of them and stores v at j
pub sets-turn : (d₀ : List ℕ) (a i j v : ℕ) (xs d : List ℕ) → d ≡ sets d₀ a (take i xs) → j ≡ a + i → v ≡ get_or xs i 0 → i < length xs
    → set d j v ≡ sets d₀ a (take (i + 1) xs)
sets-turn d₀ a i j v xs d e p q h = rw (e, p, q) (go d₀ a i xs h)
  where
    go : (d : List ℕ) (a i : ℕ) (xs : List ℕ) → i < length xs → set (sets d a (take i xs)) (a + i) (get_or xs i 0) ≡ sets d a (take (i + 1) xs)
    go d a i [] h = absurd (omega arith)
    go d a zero (x ∷ xs) h = let e : a + 0 ≡ a = omega arith in rw e
    go d a (suc i) (x ∷ xs) h =
        let e : a + suc i ≡ suc a + i = omega arith in
        let f : suc i + 1 ≡ suc (i + 1) = omega arith in
        rw (e, f) (go (set d a x) (suc a) i xs (omega arith))

-- the end: n bytes are laid, or all of xs, or there is no more room
pub sets_end : (d : List ℕ) (a i n : ℕ) (xs : List ℕ) → i ≡ min (min n (length xs)) (length d - a) → sets d a (take i xs) ≡ sets d a (take n xs)
sets_end d a zero zero xs h = refl
sets_end d a (suc i) zero xs h = absurd (omega arith)
sets_end d a zero (suc n) [] h = refl
sets_end d a (suc i) (suc n) [] h = refl
sets_end d a zero (suc n) (x ∷ xs) h = sym (sets-out d a (x ∷ take n xs) (omega arith))
sets_end d a (suc i) (suc n) (x ∷ xs) h = sets_end (set d a x) (suc a) i n xs (rw (length-set d a x) (omega arith))

-- where there is no room nothing is laid
pub sets-none : (d : List ℕ) (a : ℕ) (xs : List ℕ) → length d ≤ a → d ≡ sets d a xs
sets-none d a xs h = sym (sets-out d a xs h)

-- ---- a part laid, and the rest filled

-- src, as far as there is room, and zeros
pub fitted : (d src v w : List ℕ) (n k m : ℕ) → n ≡ min (length src) (length d) → v ≡ sets d 0 (take n src) → w ≡ replicate k 0 → k ≡ length d - n → m ≡ k
    → put_mid n m v w ≡ sized d src
fitted d src v w n k m e f g h o =
    let l : length (take n src) ≡ n = length-take-le n src (omega arith) in
    let z : 0 + n ≡ n = omega arith in
    let p : v ≡ take n src ++ drop n d = f ∙ rw z at (rw l at (sets-eq (take n src) d 0 (omega arith))) in
    rw (p, take_at (take n src) (drop n d) n l, drop_at (take n src) (drop n d) n l, drop-drop m n d, drop_all (n + m) d (omega arith), append-nil, g)
    (sym (go src (length d) (length d) n k (omega arith) e h))
  where
    go : (s : List ℕ) (l t n k : ℕ) → l ≤ t → n ≡ min (length s) l → k ≡ l - n → take l (s ++ replicate t 0) ≡ take n s ++ replicate k 0
    go [] l t zero k h e f = let f' : l ≡ k = omega arith in rw (take-replicate {X = ℕ} l t 0 h, f')
    go [] l t (suc n) k h e f = absurd (omega arith)
    go (x ∷ s) zero t zero zero h e f = refl
    go (x ∷ s) zero t zero (suc k) h e f = absurd (omega arith)
    go (x ∷ s) zero t (suc n) k h e f = absurd (omega arith)
    go (x ∷ s) (suc l) t zero k h e f = absurd (omega arith)
    go (x ∷ s) (suc l) t (suc n) k h e f = ap (λ (r : List ℕ). x ∷ r) (go s l t n k (omega arith) (omega arith) (omega arith))

-- ---- the bytes of words

-- as `to_le_bytes` gives them
pub bytes-of : (w : ℕ) → to_le_bytes w32 w ≡ low_first 4 w
bytes-of w =
    let e : w / 0x10000 ≡ w / 256 / 256 = omega arith in
    let f : w / 0x1000000 ≡ w / 256 / 256 / 256 = omega arith in
    rw (e, f)

pub bytes-length : (ws : List ℕ) → length (bytes_in ws) ≡ 4 * length ws
unfolding bytes_in
bytes-length [] = refl
bytes-length (w ∷ ws) = let ih = bytes-length ws in omega arith

pub bytes-at : (ws : List ℕ) (i : ℕ) → get_or (bytes_in ws) i 0 ≡ get_or (low_first 4 (get_or ws (i / 4) 0)) (i % 4) 0
unfolding bytes_in
bytes-at [] i = go (i % 4) (omega arith)
  where
    go : (k : ℕ) → k < 4 → 0 ≡ get_or (low_first 4 0) k 0
    go zero h = refl
    go (suc zero) h = refl
    go (suc (suc zero)) h = refl
    go (suc (suc (suc zero))) h = refl
    go (suc (suc (suc (suc k)))) h = absurd (omega arith)
bytes-at (w ∷ ws) zero = refl
bytes-at (w ∷ ws) (suc zero) = refl
bytes-at (w ∷ ws) (suc (suc zero)) = refl
bytes-at (w ∷ ws) (suc (suc (suc zero))) = refl
bytes-at (w ∷ ws) (suc (suc (suc (suc i)))) =
    let e : suc (suc (suc (suc i))) / 4 ≡ suc (i / 4) = omega arith in
    let f : suc (suc (suc (suc i))) % 4 ≡ i % 4 = omega arith in
    rw (e, f) (bytes-at ws i)

-- the end of a loop that lays them
pub list-end : (d ps ws : List ℕ) (i n : ℕ) → ws ≡ drop 2 ps → i ≡ min (min n (length d)) (4 * length ws)
    → sets d 0 (take i (bytes_in ws)) ≡ sets d 0 (take n (bytes_in (drop 2 ps)))
list-end d ps ws i n e f = rw (← e) (sets_end d 0 i n (bytes_in ws) (rw (bytes-length ws) (omega arith)))

-- a list with no second word
pub list-none : (d ps : List ℕ) (n : ℕ) → length ps < 2 → d ≡ sets d 0 (take n (bytes_in (drop 2 ps)))
unfolding bytes_in
list-none d ps n h = rw (drop_all 2 ps (omega arith)) (go n)
  where
    go : (n : ℕ) → d ≡ sets d 0 (take n [])
    go zero = refl
    go (suc n) = refl
