-- The claims of the test whether a row is all zero. Assumes nothing.
use Rattle.std.proofs.Common.{◌≡◌, ℕ, zero, suc, ◌+◌, ◌-◌, Bool, true, false, eqb, ◌⊎◌, List, [], ◌∷◌, length, get_or, take, drop, sym, refl, ap, ◌∙◌, subst, inl, inr, add_comm, arith, eq-eqb, ne_eqb, eqb-true}
use mathlib.Core.Bool.{false≢true}
use borrow.Author.Tests.{eqb-false}
use Rattle.rows.specs.Claims.{ZeroBefore, FirstAt, ZeroClaims}
use Rattle.rows.specs.Zeros.{bytes_read, zero_row}
use Rattle.rows.specs.declared.ZeroRow.{ZeroRow}
use Rattle.rows.proofs.Zeros.{after, zero-none, zero-next, zero-stop, whole-zero}

before-rest : (b : ℕ) (rest : List ℕ) (n : ℕ) → ZeroBefore (b ∷ rest) (suc n) → ZeroBefore rest n
before-rest b rest n h k less = h (suc k) (omega arith)

-- one more byte in front
one_more : (n : ℕ) → 1 + n ≡ suc n
one_more n = omega arith

blank : (row : List ℕ) → ZeroBefore row (length row) → zero_row row ≡ record { all = true; read = length row }
blank [] h = zero-none refl
blank (b ∷ rest) h =
    rw (← one_more (length rest))
    (zero-next refl (eq-eqb b 0 (h 0 (omega arith))) ∙ ap (after 1) (blank rest (before-rest b rest (length rest) h)))

first_rest : (b : ℕ) (rest : List ℕ) (place : ℕ) → FirstAt (b ∷ rest) (suc place) → FirstAt rest place
first_rest b rest place f = record { before = before-rest b rest place f.before; filled = f.filled }

filled : (row : List ℕ) (place : ℕ) → FirstAt row place → zero_row row ≡ record { all = false; read = 1 + place }
filled [] place f = absurd (f.filled refl)
filled (b ∷ rest) zero f = zero-stop refl (ne_eqb b 0 f.filled)
filled (b ∷ rest) (suc place) f =
    rw (← one_more place)
    (zero-next refl (eq-eqb b 0 (f.before 0 (omega arith))) ∙ ap (after 1) (filled rest place (first_rest b rest place f)))

-- every row is blank, or has a first byte that isn't zero
abbrev Either : List ℕ → Type 0
Either row = ZeroBefore row (length row) ⊎ ((place : ℕ) × FirstAt row place)

before_more : (b : ℕ) (rest : List ℕ) (n : ℕ) → b ≡ 0 → ZeroBefore rest n → ZeroBefore (b ∷ rest) (suc n)
before_more b rest n e h zero less = e
before_more b rest n e h (suc k) less = h k (omega arith)

either-more : (b : ℕ) (rest : List ℕ) → b ≡ 0 → Either rest → Either (b ∷ rest)
either-more b rest e (inl h) = inl (before_more b rest (length rest) e h)
either-more b rest e (inr f) = inr (suc f.0, record { before = before_more b rest f.0 e f.1.before; filled = f.1.filled })

either : (row : List ℕ) → Either row
either [] = inl (λ k less. absurd (omega arith))
either (b ∷ rest) = by (eqb b 0) refl (either rest)
  where
    by : (t : Bool) → eqb b 0 ≡ t → Either rest → Either (b ∷ rest)
    by true t x = either-more b rest (eqb-true b 0 t) x
    by false t x = inr (0, record { before = λ k less. absurd (omega arith); filled = eqb-false b 0 t })

-- the answer says which of the two
blank-back : (row : List ℕ) → Either row → (zero_row row).all ≡ true → ZeroBefore row (length row)
blank-back row (inl h) e = h
blank-back row (inr f) e = absurd (false≢true (sym (ap (λ (z : ZeroRow). z.all) (filled row f.0 f.1)) ∙ e))

filled-back : (row : List ℕ) → Either row → (zero_row row).all ≡ false → FirstAt row ((zero_row row).read - 1)
filled-back row (inl h) e = absurd (false≢true (sym e ∙ ap (λ (z : ZeroRow). z.all) (blank row h)))
filled-back row (inr f) e =
    let r = ap (λ (z : ZeroRow). z.read) (filled row f.0 f.1) in
    let p : (zero_row row).read - 1 ≡ f.0 = omega arith in
    subst (FirstAt row) (sym p) f.1

-- two rows that begin with the same byte: it stops both, or the rests decide
alike : (b : ℕ) (xs ys : List ℕ) → (eqb b 0 ≡ true → zero_row xs ≡ zero_row ys) → zero_row (b ∷ xs) ≡ zero_row (b ∷ ys)
alike b xs ys h = by (eqb b 0) refl
  where
    by : (t : Bool) → eqb b 0 ≡ t → zero_row (b ∷ xs) ≡ zero_row (b ∷ ys)
    by true t = zero-next refl t ∙ ap (after 1) (h t) ∙ sym (zero-next refl t)
    by false t = zero-stop refl t ∙ sym (zero-stop refl t)

unread : (row other : List ℕ) → length other ≡ length row → take (bytes_read row) other ≡ take (bytes_read row) row → zero_row other ≡ zero_row row
unfolding bytes_read
unread [] [] l e = refl
unread [] (y ∷ ys) l e = absurd (omega arith)
unread (b ∷ rest) [] l e = absurd (omega arith)
unread (b ∷ rest) (y ∷ ys) l e =
    let same = simp one_more at e in
    let head : y ≡ b = ap (λ (r : List ℕ). get_or r 0 0) same in
    let tail = ap (drop 1) same in
    ap (λ (x : ℕ). zero_row (x ∷ ys)) head ∙ alike b ys rest (λ t. unread rest ys (omega arith) (simp t at tail))

pub zero-claims : ZeroClaims
zero-claims = record {
  blank = blank;
  filled = λ row place f. rw (add_comm place 1) (filled row place f);
  blank_back = λ row. blank-back row (either row);
  filled_back = λ row. filled-back row (either row);
  unread = unread;
  words = whole-zero;
}
