-- The lengths of the written texts are as stated. Assumes nothing.
use mathlib.Core.Path.{refl}
use Rattle.hex_format.specs.Examples.{length_examples}
use Rattle.hex_format.specs.Written.{written_length}
use Rattle.parts.specs.Sizes.{rows_of, flash_size, lock_total}
use Rattle.text.specs.Placing.{overall}
use Rattle.wire.specs.Examples.{Each, none, more}

pub length-examples : Each length_examples
unfolding written_length overall rows_of flash_size lock_total
length-examples = more refl (more refl (more refl (more refl none)))
