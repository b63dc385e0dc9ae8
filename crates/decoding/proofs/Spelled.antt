-- Laws of bytes that spell numbers. Assumes nothing.
use mathlib.Core.Bool.{Bool, true, false, false≢true, ◌&&◌, cond}
use mathlib.Core.List.{List, [], ◌∷◌, ◌++◌}
use mathlib.Core.Path.{◌≡◌, refl, sym, ap, subst, ◌∙◌}
use Prim.Native.Nat.{ℕ, ◌+◌, ◌*◌, ◌/◌, ◌%◌, ◌≤◌, ◌<◌}
use native.Mathlib.Omega.{arith}
use borrow.Author.Tests.{eqb-true, eqb-false, leb-true, le-leb}
use lib.Dec.{eqb, leb}
use lib.ListN.{length, get_or, take}
use Rattle.std.proofs.Common.{drop, get_or-take}
use Rattle.std.proofs.lemmas.List.{drop-take, take-take}
use Rattle.encoding.specs.Values.{Bytes}
use Rattle.encoding.specs.Headers.{header_bytes, header_in, header_found}
use Rattle.encoding.specs.Sessions.{entry_byte, entry_in, singles, standing_bytes, counters_in, session_bytes, session_of, session_in, session_found, is_session}
use Rattle.flow.specs.declared.Entry.{Entry}
use Rattle.flow.specs.declared.Entry.TheVariants.{FromOpen, FromProtected}
use Rattle.image.specs.declared.Header.{Header}
use Rattle.sections.proofs.Sections.{spread, spread-part, spread-all, header_with}
use Rattle.lent.specs.Words.{word_at, low_first}
use Rattle.layout.specs.Bytes.{flag_byte}

pub sum_same : (v : ℕ) → v % 256 + 256 * (v / 256) ≡ v
sum_same v = omega arith

pub entry-same : (y : Entry) → entry_in (entry_byte y) ≡ y
entry-same FromOpen = refl
entry-same FromProtected = refl

-- a byte of 0 or 1 is the entry's or the flag's own
entry-byte : (n : ℕ) → n ≤ 1 → entry_byte (entry_in n) ≡ n
entry-byte n h = by (eqb n 0) refl
  where
    by : (t : Bool) → eqb n 0 ≡ t → entry_byte (cond t FromOpen FromProtected) ≡ n
    by true e = sym (eqb-true n 0 e)
    by false e = let z = eqb-false n 0 e in omega arith

flag-byte : (n : ℕ) → n ≤ 1 → flag_byte (eqb n 1) ≡ n
flag-byte n h = by (eqb n 1) refl
  where
    by : (t : Bool) → eqb n 1 ≡ t → flag_byte t ≡ n
    by true e = sym (eqb-true n 1 e)
    by false e = let z = eqb-false n 1 e in omega arith

module _ (a b c d : ℕ) (ha : a < 256) (hb : b < 256) (hc : c < 256) (hd : d < 256) where
  four : low_first 4 (a + 256 * b + 0x10000 * c + 0x1000000 * d) ≡ a ∷ b ∷ c ∷ d ∷ []
  four =
      let w = a + 256 * b + 0x10000 * c + 0x1000000 * d in
      let e : w % 256 ≡ a = omega arith in
      let rest : w / 256 ≡ b + 256 * c + 0x10000 * d = omega arith in
      let f : (b + 256 * c + 0x10000 * d) % 256 ≡ b = omega arith in
      let rest₂ : (b + 256 * c + 0x10000 * d) / 256 ≡ c + 256 * d = omega arith in
      let g : (c + 256 * d) % 256 ≡ c = omega arith in
      let rest₃ : (c + 256 * d) / 256 ≡ d = omega arith in
      let h : d % 256 ≡ d = omega arith in
      rw (e, rest, f, rest₂, g, rest₃, h)

-- a word's bytes, found where it was
pub word-whole : (bs : List ℕ) (o : ℕ) → Bytes bs → low_first 4 (word_at bs o) ≡ get_or bs o 0 ∷ get_or bs (o + 1) 0 ∷ get_or bs (o + 2) 0 ∷ get_or bs (o + 3) 0 ∷ []
unfolding word_at
word-whole bs o h = four (get_or bs o 0) (get_or bs (o + 1) 0) (get_or bs (o + 2) 0) (get_or bs (o + 3) 0) (h o) (h (o + 1)) (h (o + 2)) (h (o + 3))

-- the header of the first 17 bytes, as they are lent
pub header-chunk : (bs row m : List ℕ) (sum : ℕ) → row ≡ take 17 bs → sum ≡ get_or row 2 0 + get_or row 3 0 * 256 → m ≡ take 12 (drop 4 row)
    → header_with (get_or row 0 0) (get_or row 1 0) sum m (get_or row 16 0) ≡ header_in bs
unfolding header_in
header-chunk bs row m sum e f g =
    let n : sum ≡ get_or bs 2 0 + 256 * get_or bs 3 0 = omega (arith, f, byte 2 (omega arith), byte 3 (omega arith)) in
    rw (n, twelve, byte 0 (omega arith), byte 1 (omega arith), byte 16 (omega arith))
  where
    byte : (k : ℕ) → k < 17 → get_or row k 0 ≡ get_or bs k 0
    byte k h = ap (λ (l : List ℕ). get_or l k 0) e ∙ get_or-take 17 bs k 0 h

    twelve : m ≡ take 12 (drop 4 bs)
    twelve = g ∙ ap (λ (l : List ℕ). take 12 (drop 4 l)) e ∙ ap (take 12) (drop-take 4 13 bs) ∙ take-take 12 13 (drop 4 bs) (omega arith)

-- a header's bytes, found at the start
header-start : (bs : List ℕ) → 17 ≤ length bs → Bytes bs → header_bytes (header_in bs) ≡ spread 0 17 bs
unfolding header_bytes header_in
header-start bs n h =
    let row : (x y : ℕ) → List ℕ → List ℕ = λ x y m. get_or bs 0 0 ∷ get_or bs 1 0 ∷ x ∷ y ∷ (m ++ (get_or bs 16 0 ∷ [])) in
    let e : (get_or bs 2 0 + 256 * get_or bs 3 0) % 256 ≡ get_or bs 2 0 = omega (arith, h 2, h 3) in
    let f : (get_or bs 2 0 + 256 * get_or bs 3 0) / 256 ≡ get_or bs 3 0 = omega (arith, h 2, h 3) in
    ap (λ (m : List ℕ). row ((get_or bs 2 0 + 256 * get_or bs 3 0) % 256) ((get_or bs 2 0 + 256 * get_or bs 3 0) / 256) m) (sym (spread-part 4 12 bs (omega arith)))
    ∙ ap (λ (x : ℕ). row x ((get_or bs 2 0 + 256 * get_or bs 3 0) / 256) (spread 4 12 bs)) e
    ∙ ap (λ (y : ℕ). row (get_or bs 2 0) y (spread 4 12 bs)) f

pub header-whole : (bs : List ℕ) → 17 ≤ length bs → Bytes bs → header_bytes (header_in bs) ≡ take 17 bs
header-whole bs n h = header-start bs n h ∙ spread-part 0 17 bs n

-- what follows a header or a session is not looked at
pub header-front : (bs more : List ℕ) → length bs ≡ 17 → header_in (bs ++ more) ≡ header_in bs
unfolding header_in
header-front bs more n = subst (λ (l : List ℕ). header_in (l ++ more) ≡ header_in l) (spread-all 17 bs n) refl

pub session-front : (bs more : List ℕ) → length bs ≡ 45 → (session_in (bs ++ more) ≡ session_in bs) × (is_session (bs ++ more) ≡ is_session bs)
unfolding session_in header_in word_at
session-front bs more n =
    subst (λ (l : List ℕ). (session_in (l ++ more) ≡ session_in l) × (is_session (l ++ more) ≡ is_session l)) (spread-all 45 bs n) (refl, refl)

both : {a a' b b' : List ℕ} → a ≡ a' → b ≡ b' → a ++ b ≡ a' ++ b'
both {a} {a'} {b} {b'} e f = ap (λ (x : List ℕ). x ++ b) e ∙ ap (λ (y : List ℕ). a' ++ y) f

-- the bytes that a session has
module _ (bs : List ℕ) (n : 45 ≤ length bs) (h : Bytes bs) (is : is_session bs ≡ true) where
  first_two : (get_or bs 17 0 ≤ 1) × (get_or bs 18 0 ≤ 1)
  first_two = by (leb (get_or bs 17 0) 1) (leb (get_or bs 18 0) 1) refl refl is
    where
      by : (t u : Bool) → leb (get_or bs 17 0) 1 ≡ t → leb (get_or bs 18 0) 1 ≡ u → (t && u) ≡ true → (get_or bs 17 0 ≤ 1) × (get_or bs 18 0 ≤ 1)
      by true true e f q = (leb-true (get_or bs 17 0) 1 e, leb-true (get_or bs 18 0) 1 f)
      by true false e f q = absurd (false≢true q)
      by false u e f q = absurd (false≢true q)

  single-bytes : singles (session_in bs) ≡ spread 17 4 bs
  unfolding session_in
  single-bytes =
      ap (λ (x : ℕ). x ∷ flag_byte (eqb (get_or bs 18 0) 1) ∷ get_or bs 19 0 ∷ get_or bs 20 0 ∷ []) (entry-byte (get_or bs 17 0) first_two.0)
      ∙ ap (λ (x : ℕ). get_or bs 17 0 ∷ x ∷ get_or bs 19 0 ∷ get_or bs 20 0 ∷ []) (flag-byte (get_or bs 18 0) first_two.1)

  standing-bytes : standing_bytes (word_at bs 21) (counters_in bs) ≡ spread 21 20 bs
  standing-bytes =
      both (word-whole bs 21 h) (both (word-whole bs 25 h) (both (word-whole bs 29 h) (both (word-whole bs 33 h) (word-whole bs 37 h))))

  pub session-whole : session_bytes (session_in bs) ≡ take 45 bs
  unfolding session_bytes session_in
  session-whole =
      both (header-start bs (omega arith) h) (both single-bytes (both standing-bytes (word-whole bs 41 h)))
      ∙ spread-part 0 45 bs n

-- where bytes are enough, what is found is what they hold
pub header-found : (bs : List ℕ) → 17 ≤ length bs → header_found bs ≡ header_in bs
header-found bs h = rw (le-leb 17 (length bs) h)

pub session-found : (bs : List ℕ) → 45 ≤ length bs → session_found bs ≡ session_in bs
unfolding session_in
session-found bs h = ap (λ (r : Header). session_of r bs) (header-found bs (omega arith))
