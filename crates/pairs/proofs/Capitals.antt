-- Capitals are digits: written pairs spell the bytes that they were written from. Assumes nothing.
use mathlib.Core.Bool.{Bool, true, false, ◌&&◌, cond}
use mathlib.Core.List.{List, [], ◌∷◌, ◌++◌}
use mathlib.Core.Path.{◌≡◌, refl}
use Prim.Native.Nat.{ℕ, zero, suc, ◌+◌, ◌*◌, ◌/◌, ◌%◌, ◌<◌}
use native.Mathlib.Omega.{arith}
use borrow.Author.Tests.{lt-ltb, le-leb, lt-leb, ltb-true, ltb-false}
use lib.Dec.{ltb}
use lib.ListN.{get_or, take, drop}
use Rattle.pairs.specs.Digits.{Spelt, Unreadable, Spells, spelt, with_byte, digit_of, is_digit, capital, pairs_of}
use Rattle.pairs.proofs.Lines.{Digits}

-- numbers that are bytes
abbrev pub AllBytes : List ℕ → Type 0
AllBytes [] = Unit {0}
AllBytes (b ∷ bs) = (b < 256) × AllBytes bs

pub bytes-all : (bs : List ℕ) → ((j : ℕ) → get_or bs j 0 < 256) → AllBytes bs
bytes-all [] h = tt
bytes-all (b ∷ bs) h = (h 0, bytes-all bs (λ j. h (suc j)))

pub all-bytes : (bs : List ℕ) → AllBytes bs → (j : ℕ) → get_or bs j 0 < 256
all-bytes [] h j = omega arith
all-bytes (b ∷ bs) h zero = h.0
all-bytes (b ∷ bs) h (suc j) = all-bytes bs h.1 j

pub bytes-append : (a b : List ℕ) → AllBytes a → AllBytes b → AllBytes (a ++ b)
bytes-append [] b h k = k
bytes-append (x ∷ a) b h k = (h.0, bytes-append a b h.1 k)

pub bytes_take : (n : ℕ) (l : List ℕ) → AllBytes l → AllBytes (take n l)
bytes_take zero l h = tt
bytes_take (suc n) [] h = tt
bytes_take (suc n) (x ∷ l) h = (h.0, bytes_take n l h.1)

pub bytes_drop : (n : ℕ) (l : List ℕ) → AllBytes l → AllBytes (drop n l)
bytes_drop zero l h = h
bytes_drop (suc n) [] h = tt
bytes_drop (suc n) (x ∷ l) h = bytes_drop n l h.1

pub capital-digit : (n : ℕ) → n < 16 → digit_of (capital n) ≡ n
unfolding capital digit_of
capital-digit n h = go (ltb n 10) refl
  where
    go : (b : Bool) → ltb n 10 ≡ b → digit_of (cond b (48 + n) (55 + n)) ≡ n
    go true q =
        let i = ltb-true n 10 q in
        rw (le-leb 48 (48 + n) (omega arith), le-leb (48 + n) 57 (omega arith)) (omega arith)
    go false q =
        let i = ltb-false n 10 q in
        rw (le-leb 48 (55 + n) (omega arith), lt-leb (55 + n) 57 (omega arith), le-leb 65 (55 + n) (omega arith), le-leb (55 + n) 70 (omega arith)) (omega arith)

capital-is : (n : ℕ) → n < 16 → is_digit (capital n) ≡ true
capital-is n h = rw (capital-digit n h) (lt-ltb n 16 h)

pub pairs-digits : (bs : List ℕ) → AllBytes bs → Digits (pairs_of bs)
unfolding pairs_of
pairs-digits [] h = tt
pairs-digits (b ∷ bs) h =
    let k = h.0 in
    (capital-is (b / 16) (omega arith), (capital-is (b % 16) (omega arith), pairs-digits bs h.1))

pub spelt-pairs : (bs : List ℕ) → AllBytes bs → spelt (pairs_of bs) ≡ Spells bs
unfolding pairs_of spelt with_byte
spelt-pairs [] h = refl
spelt-pairs (b ∷ bs) h =
    let k = h.0 in
    let x = capital-digit (b / 16) (omega arith) in
    let y = capital-digit (b % 16) (omega arith) in
    let z : 16 * (b / 16) + b % 16 ≡ b = omega arith in
    rw (capital-is (b / 16) (omega arith), capital-is (b % 16) (omega arith), spelt-pairs bs h.1, x, y, z)

-- what is spelt are bytes
abbrev AllSpelt : Spelt → Type 0
AllSpelt Unreadable = Unit {0}
AllSpelt (Spells bs) = AllBytes bs

spelt-bytes : (m : List ℕ) → AllSpelt (spelt m)
unfolding spelt with_byte
spelt-bytes [] = tt
spelt-bytes (a ∷ []) = tt
spelt-bytes (a ∷ b ∷ m) = go (is_digit a) (is_digit b) refl refl (spelt m) (spelt-bytes m)
  where
    go : (x y : Bool) → is_digit a ≡ x → is_digit b ≡ y → (t : Spelt) → AllSpelt t → AllSpelt (cond (x && y) (with_byte (16 * digit_of a + digit_of b) t) Unreadable)
    go true true p q Unreadable h = tt
    go true true p q (Spells bs) h = (omega (arith, ltb-true (digit_of a) 16 p, ltb-true (digit_of b) 16 q), h)
    go true false p q t h = tt
    go false y p q t h = tt

pub bytes-spelt : (m bs : List ℕ) → spelt m ≡ Spells bs → AllBytes bs
bytes-spelt m bs e = rw e at (spelt-bytes m)
