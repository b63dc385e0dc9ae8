-- Where the sections of steps 4 to 9 end. Assumes nothing.
use Rattle.std.specs.Prelude.{◌≡◌, ◌+◌, ◌*◌, ◌/◌, ◌≤◌}
use Rattle.moves.specs.declared.Ends.{Ends}
use Rattle.parts.specs.Sizes.{row_bytes_of, macros_of, rows_of, locks_in}
use Rattle.parts.specs.declared.Geometry.{Geometry}

-- each section from the end of the one before: 13 moves of step 4, then 5, 6, and 7 with the locks of 8
pub record Ended (g : Geometry) (e : Ends) : Type 0 where
  pub rows : e.rows ≡ 13 + rows_of g * (26 + 2 * (row_bytes_of g / 4))
  pub words : e.words ≡ e.rows + rows_of g * (row_bytes_of g / 4 * 3)
  pub macros : e.macros ≡ e.words + macros_of g * (24 + 5 * (locks_in g 0 / 4))
  pub small : e.macros ≤ 100000000
