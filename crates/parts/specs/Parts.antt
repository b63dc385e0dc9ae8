-- Document 01, 'Parts': the part table and the look-up in it (refusal 11). Assumes nothing.
use Rattle.std.specs.Prelude.{Bool, ◌&&◌, ◌||◌, cond, List, [], ◌∷◌, ℕ, ◌+◌, ◌*◌, ◌-◌, eqb, leb, Result, Ok, Err}
use Rattle.parts.specs.declared.ByteRange.{ByteRange}
use Rattle.parts.specs.declared.Geometry.{Geometry}
use Rattle.parts.specs.declared.Part.{Part}
use Rattle.refusals.specs.declared.Refusal.{Refusal}
use Rattle.refusals.specs.declared.Refusal.TheVariants.{PartOrMacros}

-- 'other parts' low bytes .. fit'
abbrev pub any_byte : ByteRange
any_byte = record { first = 0x00; last = 0xFF }

-- 'Macro m's locks start at 0x0FFFF000 + m × 0x400.'
abbrev LOCKS : ℕ
LOCKS = 0x0FFFF000

-- '| 1 | 4000 | 64 | 256 | 1 | 0x40100004 | 1 | 0x0A, 0x9A |'; the level word is '0x0FFFF000 + 2L - 4 for part 1'
abbrev pub part1 : Part
part1 = record {
  number = 1;
  row_bytes = 64;
  rows_per_macro = 256;
  most_macros = 1;
  sysreq = 0x40100004;
  imo = 1;
  id_high = 0x0A;
  id_family = 0x9A;
  id_low = any_byte;
  id_low_or = any_byte;
  locks = LOCKS;
  locks_step = 0x400;
  level_word = LOCKS + 2 * 64 - 4;
}

-- '| 2 | 4100/4200 | 128 | 256 | 1 | 0x40000004 | 0 | 0x04, 0x93 |'; 'Part 2's low ID byte is 0x00 to 0x7F or 0xA0 to 0xFF';
-- the level word is '+ L - 4 otherwise'
abbrev pub part2 : Part
part2 = record {
  number = 2;
  row_bytes = 128;
  rows_per_macro = 256;
  most_macros = 1;
  sysreq = 0x40000004;
  imo = 0;
  id_high = 0x04;
  id_family = 0x93;
  id_low = record { first = 0x00; last = 0x7F };
  id_low_or = record { first = 0xA0; last = 0xFF };
  locks = LOCKS;
  locks_step = 0x400;
  level_word = LOCKS + 128 - 4;
}

-- '| 3 | 4100M/4200M | 128 | 512 | 1 or 2 | 0x40100004 | 0 | 0x11, 0xA1 |'
abbrev pub part3 : Part
part3 = record {
  number = 3;
  row_bytes = 128;
  rows_per_macro = 512;
  most_macros = 2;
  sysreq = 0x40100004;
  imo = 0;
  id_high = 0x11;
  id_family = 0xA1;
  id_low = any_byte;
  id_low_or = any_byte;
  locks = LOCKS;
  locks_step = 0x400;
  level_word = LOCKS + 128 - 4;
}

abbrev pub part_table : List Part
part_table = part1 ∷ part2 ∷ part3 ∷ []

-- the part has this number and may have this many macros
abbrev pub offers : Part → ℕ → ℕ → Bool
offers p n m = eqb p.number n && leb 1 m && leb m p.most_macros

-- what a part number and M are in the table: a part with its macros, or a refusal
abbrev pub Lookup : Type 0
Lookup = Result Geometry Refusal

-- the table's entry for a part number and M; '11 part or M'
unfoldable pub look_in : List Part → ℕ → ℕ → Lookup
look_in [] n m = Err PartOrMacros
look_in (p ∷ ps) n m = cond (offers p n m) (Ok (record { part = p; macros = m })) (look_in ps n m)

abbrev pub lookup_of : ℕ → ℕ → Lookup
lookup_of n m = look_in part_table n m

abbrev pub in_range : ByteRange → ℕ → Bool
in_range r b = leb r.first b && leb b r.last

-- a low ID byte that fits the part
abbrev pub low_fits : Part → ℕ → Bool
low_fits p b = in_range p.id_low b || in_range p.id_low_or b

-- high and family byte are the part's, and the low byte fits it; the revision is not asked
abbrev pub id_fits : Part → (high low family : ℕ) → Bool
id_fits p h l f = eqb h p.id_high && eqb f p.id_family && low_fits p l
