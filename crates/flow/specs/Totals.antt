-- The counts of the sequence are document 01's. Assumes nothing.
use Rattle.std.specs.Prelude.{List, ◌≡◌, ℕ, ◌+◌, ◌*◌, ◌/◌, length, Ok}
use Rattle.flow.specs.Plan.{traffic_in, polls_in, from_protected, plan, loops, acquisitions}
use Rattle.flow.specs.Sequence.{sequence}
use Rattle.flow.specs.Session.{move_count}
use Rattle.flow.specs.declared.Entry.{Entry}
use Rattle.image.specs.Image.{Image, image_of}
use Rattle.image.specs.declared.Header.{Header}
use Rattle.parts.specs.Parts.{lookup_of}
use Rattle.parts.specs.Sizes.{row_bytes_of, macros_of, rows_of, locks_in, imo_of}
use Rattle.parts.specs.declared.Geometry.{Geometry}

-- the reads and writes of an image's sequence are the plan, its polls the loops, its resets one of each kind for an acquisition
pub record SequenceCounted (i : Image) (y : Entry) : Type 0 where
  pub transfers : (traffic_in (sequence i y)).transfers ≡ plan i.geometry y
  pub polls : polls_in (sequence i y) ≡ loops i.geometry y
  pub xresets : (traffic_in (sequence i y)).xresets ≡ acquisitions y
  pub line_resets : (traffic_in (sequence i y)).line_resets ≡ acquisitions y
  -- its moves, within which 13 holds a session, are these and no more
  pub moves : length (sequence i y) ≡ plan i.geometry y + 2 * acquisitions y
  pub counted : move_count i.geometry y ≡ length (sequence i y)

-- 'plan = 69 + 10 × IMO + N × (26 + 5L / 4) + M × (24 + 5PB / 4), and from PROTECTED 26 + 10 × IMO more': the sum over macros is the product
abbrev pub PlanMultiplied : Type 0
PlanMultiplied =
    (g : Geometry) (y : Entry)
    → plan g y ≡ 69 + 10 * imo_of g + rows_of g * (26 + 5 * row_bytes_of g / 4) + macros_of g * (24 + 5 * locks_in g 0 / 4) + from_protected y (26 + 10 * imo_of g)

-- for every part and M that the table offers, whatever the header and the bytes
abbrev pub SequenceCounts : Type 0
SequenceCounts =
    (part macros : ℕ) (g : Geometry) → lookup_of part macros ≡ Ok g → (h : Header) (bytes : List ℕ) (y : Entry)
    → SequenceCounted (image_of g h bytes) y
