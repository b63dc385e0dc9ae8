-- The lines are as written. Assumes nothing.
use mathlib.Core.Path.{refl}
use Rattle.hex_format.specs.Written.{line_text}
use Rattle.hex_writer.specs.Examples.{LineExamples}
use Rattle.lent.specs.Words.{total}
use Rattle.pairs.specs.Digits.{capital, pairs_of}

pub line-examples : LineExamples
unfolding line_text total capital pairs_of
line-examples = record { last_line = refl; first-line = refl; upper-line = refl; data-line = refl }
