-- The lengths of the written texts, worked out.
use Rattle.std.specs.Prelude.{List, [], ◌∷◌}
use Rattle.hex_format.specs.Written.{text_length}
use Rattle.parts.specs.Parts.{part1, part2, part3}
use Rattle.wire.specs.Examples.{Example, ◌gives◌}

-- the lengths of the written texts, for each part and M
abbrev pub length_examples : List Example
length_examples =
    text_length (record { part = part1; macros = 1 }) gives 36340
    ∷ text_length (record { part = part2; macros = 1 }) gives 72436
    ∷ text_length (record { part = part3; macros = 1 }) gives 144692
    ∷ text_length (record { part = part3; macros = 2 }) gives 289234
    ∷ []
