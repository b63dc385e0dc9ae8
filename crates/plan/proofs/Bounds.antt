-- The plan's terms, for any geometry. Assumes nothing.
use mathlib.Core.Path.{◌≡◌, refl}
use Prim.Native.Nat.{ℕ, ◌+◌, ◌*◌, ◌/◌, ◌≤◌}
use native.Mathlib.Nat.{mul-le-mul}
use native.Mathlib.Numerals.{add-one}
use native.Mathlib.Omega.{arith}
use Rattle.flow.specs.Plan.{lock_plan}
use Rattle.parts.specs.Sizes.{locks_in}
use Rattle.parts.specs.declared.Geometry.{Geometry}

pub rows_bound : (n l : ℕ) → n ≤ 0xFFFFFFFF → l ≤ 65535 → n * (26 + 5 * l / 4) ≤ 0xFFFFFFFF * 81944
rows_bound n l a b = let c : 26 + 5 * l / 4 ≤ 81944 = omega arith in mul-le-mul a c

pub none-planned : (g : Geometry) → lock_plan g 0 ≡ 0
unfolding lock_plan
none-planned g = refl

pub next-planned : (g : Geometry) (m : ℕ) → lock_plan g (m + 1) ≡ 24 + 5 * locks_in g m / 4 + lock_plan g m
unfolding lock_plan
next-planned g m = rw add-one
