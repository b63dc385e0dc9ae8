-- What calls do to the memory, over plain variables. Assumes nothing.
use mathlib.Core.Bool.{Bool, true, false, ◌&&◌, cond}
use mathlib.Core.List.{List}
use mathlib.Core.Path.{◌≡◌, refl}
use Prim.Native.Nat.{ℕ, ◌+◌, ◌*◌, ◌/◌, ◌%◌, ◌<◌}
use native.Mathlib.Omega.{arith}
use borrow.Author.Tests.{ne_eqb}
use lib.Dec.{eqb}
use lib.ListN.{get_or, take, drop}
use Rattle.bench_effects.specs.Acts.{call_inputs, Effects, Protects}
use Rattle.bench_effects.specs.declared.Act.TheVariants.{Keep, Erase, FillLatch, ProgramRow, WriteLocks}
use Rattle.bench_effects.specs.declared.Effect.{Effect}
use Rattle.flow.specs.Calls.{bytes_in, level_sent, macro_sent, list_at, effect_of}
use Rattle.parts.specs.Sizes.{row_bytes_of, locks_in, lock_start}
use Rattle.parts.specs.declared.Geometry.{Geometry}

-- call 0x0D
module _ (g : Geometry) (v a st : ℕ) where
  pub reopened : (eqb v 2 && eqb (level_sent a) 1) ≡ true → Protects g v a st (record { act = Erase; stored = 1 })
  unfolding effect_of
  reopened t ps x b e = (rw t, refl)

  pub protected : (eqb v 2 && eqb (level_sent a) 1) ≡ false → (s : ℕ)
      → s ≡ cond (eqb (macro_sent a) 0) (level_sent a) (st % 16) → (o n : ℕ) → o ≡ lock_start g (macro_sent a) → n ≡ locks_in g (macro_sent a)
      → Protects g v a st (record { act = WriteLocks o n; stored = s })
  unfolding effect_of
  protected t s e o n starts sizes ps x b f = (rw (t, e, starts, sizes, low (eqb (macro_sent a) 0)), refl)
    where
      low : (z : Bool) → cond z (level_sent a) (st % 16) % 16 ≡ cond z (level_sent a) (st % 16)
      low true = omega arith
      low false = omega arith

-- one of two small levels
pub either-small : (z : Bool) (l s r : ℕ) → r ≡ cond z l s → l < 16 → s < 16 → r < 16
either-small true l s r e p q = omega (arith, e, p)
either-small false l s r e p q = omega (arith, e, q)

-- a successful call's effect, by its number
module _ (g : Geometry) (v a st : ℕ) (ps : List ℕ) (c : ℕ) where
  twice : st % 16 % 16 ≡ st % 16
  twice = omega arith

  pub erasing : c ≡ 0x0A → Effects g (call_inputs v a st ps) c (record { act = Erase; stored = st % 16 })
  unfolding effect_of
  erasing e x b p = (rw (e, twice), refl)

  pub filling : c ≡ 4 → (n : ℕ)
      → take n (bytes_in (drop 2 ps)) ≡ take (get_or (list_at a ps) 1 0 + 1) (bytes_in (drop 2 (list_at a ps)))
      → Effects g (call_inputs v a st ps) c (record { act = FillLatch n; stored = st % 16 })
  unfolding effect_of
  filling e n f x b p = (rw (e, p, f, twice), refl)

  pub programming : c ≡ 6 → (w n : ℕ) → w ≡ get_or (list_at a ps) 0 0 → n ≡ row_bytes_of g
      → Effects g (call_inputs v a st ps) c (record { act = ProgramRow (w / 0x10000 * n); stored = st % 16 })
  unfolding effect_of
  programming e w n f h x b p = (rw (e, p, f, h, twice), refl)

  pub protecting : c ≡ 0x0D → (t : Effect) → Protects g v a st t → Effects g (call_inputs v a st ps) c t
  protecting e t f x b p = rw e (f ps x b p)

  pub idling : ¬ (c ≡ 0x0A) → ¬ (c ≡ 4) → ¬ (c ≡ 6) → ¬ (c ≡ 0x0D) → Effects g (call_inputs v a st ps) c (record { act = Keep; stored = st % 16 })
  unfolding effect_of
  idling n1 n2 n3 n4 x b p = (rw (ne_eqb _ _ n1, ne_eqb _ _ n2, ne_eqb _ _ n3, ne_eqb _ _ n4, twice), refl)
