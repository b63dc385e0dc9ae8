-- A macro's locks, by example: part 1's one macro has 256 rows, part 3's two have 512 each. Assumes nothing.
use Rattle.std.specs.Prelude.{◌≡◌, ℕ}
use Rattle.parts.specs.Parts.{part1, part3}
use Rattle.parts.specs.Sizes.{locks_in, lock_start}
use Rattle.parts.specs.declared.Geometry.{Geometry}
use Rattle.parts.specs.declared.Part.{Part}

-- a part with rows of l bytes, r of them in a macro, and at most n macros, all else as it is: flow's examples of the order have three macros
abbrev pub resized : (l r n : ℕ) → Part → Part
resized l r n p = record {
  number = p.number;
  row_bytes = l;
  rows_per_macro = r;
  most_macros = n;
  sysreq = p.sysreq;
  imo = p.imo;
  id_high = p.id_high;
  id_family = p.id_family;
  id_low = p.id_low;
  id_low_or = p.id_low_or;
  locks = p.locks;
  locks_step = p.locks_step;
  level_word = p.level_word;
}

-- part 1 and M 1, as P11 and the dry run have them; part 3 with both macros
abbrev pub part_one : Geometry
part_one = record { part = part1; macros = 1 }

abbrev pub two_macros : Geometry
two_macros = record { part = part3; macros = 2 }

pub record LockExamples : Type 0 where
  pub small : locks_in part_one 0 ≡ 32
  pub large : locks_in two_macros 1 ≡ 64
  pub first : lock_start two_macros 0 ≡ 0
  pub second : lock_start two_macros 1 ≡ 64
  pub past : lock_start two_macros 2 ≡ 128
