-- The address map as the code searches it. Assumes nothing.
use mathlib.Core.Bool.{Bool, true, false, ◌&&◌}
use mathlib.Core.Path.{◌≡◌}
use Prim.Native.Nat.{ℕ, suc, ◌+◌, ◌-◌}
use native.Mathlib.Numerals.{add-one}
use lib.Dec.{leb, ltb}
use Rattle.flow.specs.Map.{search, lock_regions}
use Rattle.flow.specs.declared.Place.{Place}
use Rattle.flow.specs.declared.Place.TheVariants.{InLocks, Elsewhere}
use Rattle.parts.specs.Sizes.{locks_in, lock_start, locks_at}
use Rattle.parts.specs.declared.Geometry.{Geometry}

abbrev covering : (s k a : ℕ) → Bool
covering s k a = leb s a && ltb a (s + k)

-- flow's search in the locks of n macros from macro m on
abbrev pub locks_from : Geometry → (m n a : ℕ) → Place
locks_from g m n a = search (lock_regions g m n) a

-- where macro m's locks are looked at, k being their number
module _ (g : Geometry) (a m k : ℕ) (sizes : k ≡ locks_in g m) where
  pub lock-hit : (n n' f : ℕ) → n ≡ suc n' → f ≡ lock_start g m → covering (locks_at g m) k a ≡ true → InLocks (f + (a - locks_at g m)) ≡ locks_from g m n a
  unfolding search lock_regions
  lock-hit n n' f e from t =
      let here : covering (locks_at g m) (locks_in g m) a ≡ true = rw sizes at t in
      rw (e, from, here)

  pub lock-miss : (n n' : ℕ) → n ≡ suc n' → covering (locks_at g m) k a ≡ false → locks_from g m n a ≡ locks_from g (m + 1) n' a
  unfolding search lock_regions
  lock-miss n n' e t =
      let here : covering (locks_at g m) (locks_in g m) a ≡ false = rw sizes at t in
      rw (e, here, add-one)

pub lock-none : (g : Geometry) (a m n : ℕ) → n ≡ 0 → locks_from g m n a ≡ Elsewhere
unfolding search lock_regions
lock-none g a m n e = rw e
