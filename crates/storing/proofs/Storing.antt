-- Laws of storing runs of bytes. Assumes nothing.
use mathlib.Core.Bool.{Bool, true, false, ◌&&◌, cond}
use mathlib.Core.List.{List}
use mathlib.Core.Path.{◌≡◌, refl}
use Prim.Native.Nat.{ℕ, ◌+◌, ◌≤◌, ◌<◌}
use native.Mathlib.Omega.{arith}
use borrow.Author.Tests.{le-leb, lt-leb}
use lib.Dec.{leb}
use lib.ListN.{length, take, drop}
use lib.Seq.{sets, length-sets}
use Rattle.std.proofs.Common.{append_assoc, drop-drop}
use borrow.Rule.Slice.PartMut.{put_mid}
use lib.Seq.{sets-eq}
use Rattle.storing.specs.Storing.{stored_at}

-- a part of a list that was written whole, as a store
pub put_stored : (l vs : List ℕ) (a k : ℕ) → length vs ≡ k → a + k ≤ length l → put_mid a k l vs ≡ sets l a vs
put_stored l vs a k e h =
    let fits : a + length vs ≤ length l = omega arith in
    rw (sets-eq vs l a fits) (simp (append_assoc, drop-drop, e))

-- n bytes of a row, put at an offset
module _ (part : List ℕ) (to : ℕ) (row : List ℕ) (from n : ℕ) where
  pub row-short : length row < from + n → part ≡ stored_at part to row from n
  unfolding stored_at
  row-short h = rw (lt-leb (from + n) (length row) h)

  pub part-short : from + n ≤ length row → length part < to + n → part ≡ stored_at part to row from n
  unfolding stored_at
  part-short h i = rw (le-leb (from + n) (length row) h, lt-leb (to + n) (length part) i)

  pub stored : from + n ≤ length row → to + n ≤ length part → sets part to (take n (drop from row)) ≡ stored_at part to row from n
  unfolding stored_at
  stored h i = rw (le-leb (from + n) (length row) h, le-leb (to + n) (length part) i)

  pub stored-length : length (stored_at part to row from n) ≡ length part
  unfolding stored_at
  stored-length = go (leb (from + n) (length row) && leb (to + n) (length part))
    where
      go : (b : Bool) → length (cond b (sets part to (take n (drop from row))) part) ≡ length part
      go true = length-sets part to (take n (drop from row))
      go false = refl
