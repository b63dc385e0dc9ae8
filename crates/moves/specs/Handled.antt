-- The geometries that moves are found for: every one of the part table is among them (proofs/Table). Assumes nothing.
use Rattle.std.specs.Prelude.{Bool, ◌&&◌, ◌≡◌, ◌%◌, ◌≤◌, eqb, leb}
use Rattle.parts.specs.Sizes.{row_bytes_of, macros_of, rows_per_macro_of, sysreq_of}
use Rattle.parts.specs.declared.Geometry.{Geometry}

-- rows of 4 to 1024 bytes that are whole words, macros of 32 to 4096 rows, at most 16 of them
abbrev pub sizes_handled : Geometry → Bool
sizes_handled g =
    leb 4 (row_bytes_of g) && leb (row_bytes_of g) 1024 && eqb (row_bytes_of g % 4) 0 && leb 32 (rows_per_macro_of g) && leb (rows_per_macro_of g) 4096 && leb (macros_of g) 16

-- addresses with room for the words behind them
abbrev pub addresses_handled : Geometry → Bool
addresses_handled g = leb (sysreq_of g) 0x7FFFFFFF && leb g.part.locks 0x7FFFFFFF && leb g.part.locks_step 0xFFFFFF

abbrev pub handles : Geometry → Bool
handles g = sizes_handled g && addresses_handled g

-- the same as facts, which the functions below the public call ask for
pub record Handled (g : Geometry) : Type 0 where
  pub row_low : 4 ≤ row_bytes_of g
  pub row_high : row_bytes_of g ≤ 1024
  pub row_words : row_bytes_of g % 4 ≡ 0
  pub macro_low : 32 ≤ rows_per_macro_of g
  pub macro_high : rows_per_macro_of g ≤ 4096
  pub macros : macros_of g ≤ 16
  pub sysreq : sysreq_of g ≤ 0x7FFFFFFF
  pub locks : g.part.locks ≤ 0x7FFFFFFF
  pub locks_step : g.part.locks_step ≤ 0xFFFFFF
