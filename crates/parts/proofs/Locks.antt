-- A macro's locks: the one place that knows how many they are. What is above `parts` cites these laws. Assumes nothing.
use mathlib.Core.Bool.{Bool, true, false, ◌&&◌}
use mathlib.Core.Path.{◌≡◌, refl, sym, ◌∙◌}
use Prim.Native.Nat.{ℕ, zero, suc, ◌+◌, ◌*◌, ◌/◌, ◌<◌, ◌≤◌}
use native.Mathlib.Nat.{zero-mul, suc-mul, mul-le-mul_left, mul-le-mul_right}
use native.Mathlib.Omega.{arith}
use borrow.Author.Tests.{eqb-true, leb-true, eqb-false}
use lib.Dec.{eqb, leb}
use Rattle.parts.specs.LockExamples.{LockExamples}
use Rattle.parts.specs.Parts.{part_table, lookup_of}
use Rattle.parts.specs.Sizes.{row_bytes_of, macros_of, rows_per_macro_of, rows_of, locks_in, lock_start, lock_total}
use Rattle.parts.specs.declared.Geometry.{Geometry}
use Rattle.std.specs.Prelude.{Ok}
use Rattle.parts.proofs.Table.{both, everywhere, at-found}

-- ---- of every geometry

module _ (g : Geometry) where
  -- a bit for each row of the macro
  pub locks-most : (m : ℕ) → 8 * locks_in g m ≤ rows_per_macro_of g
  unfolding locks_in
  locks-most m = omega arith

  pub locks-some : (m : ℕ) → m < macros_of g → 8 ≤ rows_per_macro_of g → 1 ≤ locks_in g m
  unfolding locks_in
  locks-some m low h = omega arith

  -- all macros have as many
  pub locks-alike : (m : ℕ) → locks_in g m ≡ locks_in g 0
  unfolding locks_in
  locks-alike m = refl

  pub start_first : lock_start g 0 ≡ 0
  unfolding lock_start
  start_first = refl

  pub start-next : (m : ℕ) → lock_start g (suc m) ≡ lock_start g m + locks_in g m
  unfolding lock_start
  start-next m = refl

  pub start-product : (m : ℕ) → lock_start g m ≡ m * locks_in g 0
  start-product zero = start_first ∙ sym (zero-mul (locks_in g 0))
  start-product (suc m) = omega (arith, start-next m, locks-alike m, start-product m, suc-mul m (locks_in g 0))

  -- every macro's locks are among the protection bytes
  pub locks-end : (m : ℕ) → m < macros_of g → lock_start g m + locks_in g m ≤ lock_total g
  unfolding lock_total rows_of
  locks-end m low =
      let up = mul-le-mul_right (locks_in g 0) low in
      let most = mul-le-mul_left (macros_of g) (locks-most 0) in
      let a : macros_of g * (8 * locks_in g 0) ≡ 8 * (macros_of g * locks_in g 0) = omega arith in
      omega (arith, start-next m, start-product (suc m))

-- ---- of every geometry of the table

-- the test at the n macros from 0 on
abbrev each_macro : (ℕ → Bool) → (n : ℕ) → Bool
each_macro test zero = true
each_macro test (suc n) = test n && each_macro test n

at-macro : (test : ℕ → Bool) (n m : ℕ) → each_macro test n ≡ true → m < n → test m ≡ true
at-macro test zero m h low = absurd (omega arith)
at-macro test (suc n) m h low = by (λ t l. at-macro test n m t l) (eqb m n) refl
  where
    t : (test n ≡ true) × (each_macro test n ≡ true)
    t = both (test n) (each_macro test n) h

    by : (each_macro test n ≡ true → m < n → test m ≡ true) → (y : Bool) → eqb m n ≡ y → test m ≡ true
    by rec true e = rw (eqb-true m n e) t.0
    by rec false e = rec t.1 (omega (arith, eqb-false m n e))

-- a macro's locks are whole words, some, and no more than a row
abbrev macro_fits : Geometry → ℕ → Bool
macro_fits g m = eqb (4 * (locks_in g m / 4)) (locks_in g m) && leb 1 (locks_in g m) && leb (locks_in g m) (row_bytes_of g)

abbrev locks_fit : Geometry → Bool
locks_fit g = eqb (lock_start g (macros_of g)) (lock_total g) && each_macro (macro_fits g) (macros_of g)

table_fits : everywhere locks_fit part_table ≡ true
unfolding locks_in lock_start lock_total rows_of
table_fits = refl

pub record MacroLocks (g : Geometry) (m : ℕ) : Type 0 where
  pub quads : 4 * (locks_in g m / 4) ≡ locks_in g m
  pub some : 1 ≤ locks_in g m
  pub fit : locks_in g m ≤ row_bytes_of g

pub record Locks (g : Geometry) : Type 0 where
  -- together they are the protection bytes
  pub all : lock_start g (macros_of g) ≡ lock_total g
  pub each : (m : ℕ) → m < macros_of g → MacroLocks g m

pub table-locks : (n m : ℕ) (g : Geometry) → lookup_of n m ≡ Ok g → Locks g
table-locks n m g e = record { all = eqb-true _ _ t.0; each = λ k low. of-macro k (at-macro (macro_fits g) (macros_of g) k t.1 low) }
  where
    t : (eqb (lock_start g (macros_of g)) (lock_total g) ≡ true) × (each_macro (macro_fits g) (macros_of g) ≡ true)
    t = both _ _ (at-found locks_fit table_fits n m e)

    of-macro : (k : ℕ) → macro_fits g k ≡ true → MacroLocks g k
    of-macro k h =
        let h₁ = both _ (leb (locks_in g k) (row_bytes_of g)) h in
        let h₀ = both _ (leb 1 (locks_in g k)) h₁.0 in
        record { quads = eqb-true _ _ h₀.0; some = leb-true _ _ h₀.1; fit = leb-true _ _ h₁.1 }

pub lock-examples : LockExamples
unfolding locks_in lock_start
lock-examples = record { small = refl; large = refl; first = refl; second = refl; past = refl }
