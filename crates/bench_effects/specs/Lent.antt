-- The lent buffers, and the residue that a failed call leaves in them. Assumes nothing.
use Rattle.std.specs.Prelude.{List, ℕ}
use Rattle.flow.specs.Target.{Memory}

-- the lent buffers: flash, locks and latch as bytes, PARAMS as words
pub record Buffers : Type 0 where
  pub flash : List ℕ
  pub locks : List ℕ
  pub latch : List ℕ
  pub params : List ℕ

-- a residue's flash, locks and latch, what a failed call leaves there, lent beside the buffers
pub record ResidueBytes : Type 0 where
  pub flash : List ℕ
  pub locks : List ℕ
  pub latch : List ℕ

abbrev pub memory_of : Buffers → (stored : ℕ) → Memory
memory_of b l = record { flash = b.flash; locks = b.locks; latch = b.latch; stored = l }

abbrev pub lent : (flash locks latch params : List ℕ) → Buffers
lent f l t p = record { flash = f; locks = l; latch = t; params = p }

abbrev pub residue_bytes : (flash locks latch : List ℕ) → ResidueBytes
residue_bytes f l t = record { flash = f; locks = l; latch = t }
