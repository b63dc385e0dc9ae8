-- Laws of putting headers, sessions and outcomes into bytes. Assumes nothing.
use mathlib.Core.Bool.{Bool, true, false, cond}
use mathlib.Core.List.{List, ◌++◌}
use mathlib.Core.Path.{◌≡◌, refl, sym, ap, ◌∙◌}
use Prim.Native.Nat.{ℕ, ◌+◌, ◌≤◌, ◌<◌}
use native.Mathlib.Omega.{arith}
use Rattle.std.proofs.Math.Nat.{div-div-eq-div-mul}
use Rattle.std.specs.Int.{to_le_bytes, w32, w64}
use borrow.Author.Tests.{le-leb, lt-leb, leb-true, leb-false}
use lib.Dec.{leb}
use lib.ListN.{length, take, drop, length-append, length-drop}
use lib.Seq.{sets, sets-eq, take_all, take_at, drop_at}
use Rattle.encoding.specs.Buffers.{put_into}
use Rattle.encoding.specs.Buffers.{Kept}
use Rattle.lent.specs.Words.{low_first}
use Rattle.storing.proofs.Storing.{stored, part-short}
use Rattle.storing.specs.Storing.{stored_at}

-- bytes that fit are stored from the start on, and others are not
pub put_front : (b vs : List ℕ) → length vs ≤ length b → put_into b vs ≡ vs ++ drop (length vs) b
unfolding put_into
put_front b vs h = rw (le-leb (length vs) (length b) h)

pub put-fits : (b vs : List ℕ) → length vs ≤ length b → sets b 0 vs ≡ put_into b vs
put-fits b vs h =
    let e : 0 + length vs ≡ length vs = omega arith in
    sets-eq vs b 0 (omega arith) ∙ ap (λ (k : ℕ). vs ++ drop k b) e ∙ sym (put_front b vs h)

pub put_under : (b vs : List ℕ) → length b < length vs → b ≡ put_into b vs
unfolding put_into
put_under b vs h = rw (lt-leb (length vs) (length b) h)

-- what a buffer that bytes were put into is
put-to : (P : List ℕ → Type 0) (b vs : List ℕ) → (length vs ≤ length b → P (vs ++ drop (length vs) b)) → (length b < length vs → P b) → P (put_into b vs)
unfolding put_into
put-to P b vs f g = by (leb (length vs) (length b)) refl
  where
    by : (t : Bool) → leb (length vs) (length b) ≡ t → P (cond t (vs ++ drop (length vs) b) b)
    by true e = f (leb-true (length vs) (length b) e)
    by false e = g (leb-false (length vs) (length b) e)

module _ (size : ℕ) (b vs : List ℕ) (n : length vs ≡ size) where
  pub put-kept : Kept size b (put_into b vs)
  put-kept = record {
    past = put-to (λ (l : List ℕ). drop size l ≡ drop size b) b vs (λ h. drop_at vs (drop (length vs) b) size n ∙ ap (λ (k : ℕ). drop k b) n) (λ h. refl);
    under = λ h. sym (put_under b vs (omega arith));
    sized = put-to (λ (l : List ℕ). length l ≡ length b) b vs (λ h. simp (length-append, length-drop) (omega arith)) (λ h. refl);
  }

  pub put-found : size ≤ length b → take size (put_into b vs) ≡ vs
  put-found h = put-to (λ (l : List ℕ). take size l ≡ vs) b vs (λ k. take_at vs (drop (length vs) b) size n) (λ k. absurd (omega arith))

-- a row that holds bytes, put from the start on
pub fill-put : (b row vs out : List ℕ) (n : ℕ) → row ≡ vs → length vs ≡ n → out ≡ stored_at b 0 row 0 n → out ≡ put_into b vs
fill-put b row vs out n q e s = s ∙ put (leb n (length b)) refl ∙ ap (put_into b) q
  where
    sized : length row ≡ n
    sized = ap length q ∙ e

    put : (t : Bool) → leb n (length b) ≡ t → stored_at b 0 row 0 n ≡ put_into b row
    put true f =
        let room = leb-true n (length b) f in
        sym (stored b 0 row 0 n (omega (arith, sized)) (omega arith)) ∙ ap (sets b 0) (take_all n row (omega (arith, sized))) ∙ put-fits b row (omega (arith, sized))
    put false f =
        let none = leb-false n (length b) f in
        sym (part-short b 0 row 0 n (omega (arith, sized)) (omega arith)) ∙ put_under b row (omega (arith, sized))

-- the bytes of a number as the library has them
pub four-bytes : (v : ℕ) → to_le_bytes w32 v ≡ low_first 4 v
four-bytes v = simp div-div-eq-div-mul

pub all-bytes : (v : ℕ) → to_le_bytes w64 v ≡ low_first 8 v
all-bytes v = simp div-div-eq-div-mul
