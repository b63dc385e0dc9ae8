-- P5, P6 and P7 of document 01, which pin the key words here too; all twelve stand in one table in the crate examples. Assumes nothing.
use Rattle.std.specs.Prelude.{List, [], ℕ, get_or}
use Rattle.flow.specs.Sequence.{privileged, program_row, end_move}
use Rattle.flow.specs.declared.Move.{Move}
use Rattle.flow.specs.declared.Purpose.TheVariants.{Keep}
use Rattle.flow.specs.declared.Request.{Request}
use Rattle.flow.specs.declared.Request.TheVariants.{Xres, LineReset, ReadIdcode, ReadDrw, WriteTar, WriteDrw, WriteSetup}
use Rattle.image.specs.Image.{Image}
pub use Rattle.parts.specs.LockExamples.{part_one, two_macros}
use Rattle.wire.specs.Examples.{Example, ◌gives◌}

-- any image of part 3 and M 2 will do
abbrev pub an_image : Image
an_image = record { geometry = two_macros; header = record { part = 3; macros = 2; sum = 0; metadata = []; level = 1 }; flash = []; protection = [] }

-- the word that a move writes
abbrev pub word_of : Request → ℕ
word_of Xres = 0
word_of LineReset = 0
word_of ReadIdcode = 0
word_of ReadDrw = 0
word_of (WriteTar w) = w
word_of (WriteDrw w) = w
word_of (WriteSetup r w) = w

abbrev pub word_at_move : List Move → ℕ → ℕ
word_at_move ms n = word_of (get_or ms n end_move).request

-- 'P5 sum word 0x8000DEB6.': the DRW write of step 4's call
abbrev pub p5 : Example
p5 = word_at_move (privileged part_one 4 Keep) 1 gives 0x8000DEB6

-- 'P6 program row 0x0123: 0x0123D9B6.': the DRW write of call 6's list, after the 78 transfers of call 4
abbrev pub p6 : Example
p6 = word_at_move (program_row an_image 0x0123) 79 gives 0x0123D9B6

-- 'P7 latch, macro 1: 0x0100D7B6.': the first DRW write of row 512
abbrev pub p7 : Example
p7 = word_at_move (program_row an_image 512) 1 gives 0x0100D7B6
