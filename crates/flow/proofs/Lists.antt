-- Words and bytes; bytes laid over a list. Assumes nothing.
use mathlib.Core.List.{List, [], ◌∷◌, ◌++◌, append_assoc}
use mathlib.Core.Path.{◌≡◌, refl, ap, ◌∙◌, sym}
use Prim.Native.Nat.{ℕ, zero, suc, ◌+◌, ◌*◌, ◌-◌, ◌/◌, ◌%◌, ◌≤◌, ◌<◌}
use native.Mathlib.Numerals.{towards_suc}
use native.Mathlib.Omega.{arith}
use lib.ListN.{length, get_or, set, take, drop, replicate, length-append, length-take, length-drop, take-append-drop}
use lib.Seq.{sets, sets-eq, drop-cons, drop-drop, drop_at, get_or-drop, append_snoc, set-append_seam, length-take-le, take_at}
use Rattle.flow.specs.Calls.{bytes_in}
use Rattle.lent.specs.Words.{total, word_at, low_first, words_at}

-- every element is a byte
abbrev pub Small : List ℕ → Type 0
Small l = (j : ℕ) → get_or l j 0 < 256

bytes_word : (a b c d : ℕ) → a < 256 → b < 256 → c < 256 → d < 256 → low_first 4 (a + 256 * b + 0x10000 * c + 0x1000000 * d) ≡ a ∷ b ∷ c ∷ d ∷ []
bytes_word a b c d ha hb hc hd = rw (e₀, e₁, e₂, e₃)
  where
    e₀ : (a + 256 * b + 0x10000 * c + 0x1000000 * d) % 256 ≡ a
    e₀ = omega arith

    e₁ : (a + 256 * b + 0x10000 * c + 0x1000000 * d) / 256 % 256 ≡ b
    e₁ = omega arith

    e₂ : (a + 256 * b + 0x10000 * c + 0x1000000 * d) / 256 / 256 % 256 ≡ c
    e₂ = omega arith

    e₃ : (a + 256 * b + 0x10000 * c + 0x1000000 * d) / 256 / 256 / 256 % 256 ≡ d
    e₃ = omega arith

take-four : (l : List ℕ) (o m : ℕ) → o + 4 ≤ length l
    → take (suc (suc (suc (suc m)))) (drop o l) ≡ get_or l o 0 ∷ get_or l (o + 1) 0 ∷ get_or l (o + 2) 0 ∷ get_or l (o + 3) 0 ∷ take m (drop (o + 4) l)
take-four l o m h =
    rw (drop-cons l o 0 (omega arith), drop-cons l (suc o) 0 (omega arith), drop-cons l (suc (suc o)) 0 (omega arith), drop-cons l (suc (suc (suc o))) 0 (omega arith))
    (simp towards_suc)

pub bytes-words : (l : List ℕ) (o n : ℕ) → Small l → o + 4 * n ≤ length l → bytes_in (words_at l o n) ≡ take (4 * n) (drop o l)
unfolding bytes_in words_at word_at
bytes-words l o zero small h = refl
bytes-words l o (suc n) small h =
    let e : 4 * suc n ≡ suc (suc (suc (suc (4 * n)))) = omega arith in
    ap (λ (y : List ℕ). y ++ bytes_in (words_at l (o + 4) n))
    (bytes_word (get_or l o 0) (get_or l (o + 1) 0) (get_or l (o + 2) 0) (get_or l (o + 3) 0) (small o) (small (o + 1)) (small (o + 2)) (small (o + 3)))
    ∙ rw (bytes-words l (o + 4) n small (omega arith), e, take-four l o (4 * n) (omega arith))

bytes-append : (a b : List ℕ) → bytes_in (a ++ b) ≡ bytes_in a ++ bytes_in b
unfolding bytes_in
bytes-append [] b = refl
bytes-append (w ∷ a) b = ap (λ (y : List ℕ). low_first 4 w ++ y) (bytes-append a b)

pub length_part : (n o : ℕ) (l : List ℕ) → o + n ≤ length l → length (take n (drop o l)) ≡ n
length_part n o l h = simp (length-take, length-drop) (omega arith)

-- n bytes sent as words come back as bytes
pub sent-bytes : (n o : ℕ) (l behind : List ℕ) → 4 * (n / 4) ≡ n → 1 ≤ n → Small l → o + n ≤ length l
    → take (n - 1 + 1) (bytes_in (words_at l o (n / 4) ++ behind)) ≡ take n (drop o l)
sent-bytes n o l behind hq hn small room =
    let e : n - 1 + 1 ≡ n = omega arith in
    rw (e, bytes-append, bytes-words l o (n / 4) small (omega arith), hq) (take_at (take n (drop o l)) (bytes_in behind) n (length_part n o l room))

-- ---- bytes laid over a list

-- where they fit
pub take-sets : (l x : List ℕ) (o : ℕ) → o + length x ≤ length l → take (o + length x) (sets l o x) ≡ take o l ++ x
take-sets l x o h =
    ap (take (o + length x)) (sets-eq x l o h)
    ∙ take_at (take o l ++ x) (drop (o + length x) l) (o + length x) (simp (length-append, length-take) (omega arith))

pub drop-sets : (l x : List ℕ) (o : ℕ) → o + length x ≤ length l → drop o (sets l o x) ≡ x ++ drop (o + length x) l
drop-sets l x o h =
    ap (drop o) (sets-eq x l o h ∙ append_assoc (take o l) x (drop (o + length x) l))
    ∙ drop_at (take o l) (x ++ drop (o + length x) l) o (length-take-le o l (omega arith))

-- a list from o on: its next n elements, then the rest
pub drop-parts : (n o : ℕ) (l : List ℕ) → take n (drop o l) ++ drop (o + n) l ≡ drop o l
drop-parts n o l = ap (λ (y : List ℕ). take n (drop o l) ++ y) (sym (drop-drop n o l)) ∙ take-append-drop n (drop o l)

-- words of lists that are alike from o on
pub same_word_lem : (a b : List ℕ) (o k : ℕ) → drop o a ≡ drop o b → word_at a (o + k) ≡ word_at b (o + k)
unfolding word_at
same_word_lem a b o k h = rw (at k, at' 1, at' 2, at' 3)
  where
    at : (j : ℕ) → get_or a (o + j) 0 ≡ get_or b (o + j) 0
    at j = sym (get_or-drop o a j 0) ∙ ap (λ (l : List ℕ). get_or l j 0) h ∙ get_or-drop o b j 0

    at' : (j : ℕ) → get_or a (o + k + j) 0 ≡ get_or b (o + k + j) 0
    at' j = let e : o + k + j ≡ o + (k + j) = omega arith in rw e (at (k + j))

-- one word behind those of `pre`
pub set_next : (pre tl : List ℕ) (w : ℕ) → 1 ≤ length tl → set (pre ++ tl) (length pre) w ≡ (pre ++ (w ∷ [])) ++ drop 1 tl
set_next pre [] w h = absurd (omega arith)
set_next pre (y ∷ tl) w h = set-append_seam pre y tl w ∙ sym (append_snoc pre w tl)

pub total-zero : (n : ℕ) → total (replicate n 0) ≡ 0
unfolding total
total-zero zero = refl
total-zero (suc n) = let ih = total-zero n in omega arith
