-- P1 to P12 of document 01: 'proved as a table under one joint theorem on the definitions'. Assumes nothing.
use Rattle.std.specs.Prelude.{cond, List, [], ◌∷◌, ℕ, ◌%◌, get_or, replicate}
use Rattle.flow.specs.Examples.{part_one, two_macros, an_image, word_at_move}
use Rattle.flow.specs.Plan.{plan}
use Rattle.flow.specs.Sequence.{privileged, program_row}
use Rattle.flow.specs.declared.Entry.TheVariants.{FromOpen}
use Rattle.flow.specs.declared.Purpose.TheVariants.{Keep}
use Rattle.hex_format.specs.HexFormat.{payload_of}
use Rattle.hex_records.specs.Records.{line_record}
use Rattle.hex_format.specs.Texts.{upper_after}
use Rattle.lent.specs.Words.{total}
use Rattle.parts.specs.Levels.{is_level}
use Rattle.parts.specs.declared.Level.TheVariants.{Open}
use Rattle.pairs.specs.Lines.{Ended}
use Rattle.wire.specs.Examples.{Example, ◌gives◌}
use Rattle.wire.specs.Wire.{parity, request_byte}
use Rattle.wire.specs.declared.Access.TheVariants.{Read, Write}
use Rattle.wire.specs.declared.Register.TheVariants.{Idcode, Tar, Drw}

-- :0200000490303A
abbrev pub p8-line : List ℕ
p8-line = 58 ∷ 48 ∷ 50 ∷ 48 ∷ 48 ∷ 48 ∷ 48 ∷ 48 ∷ 52 ∷ 57 ∷ 48 ∷ 51 ∷ 48 ∷ 51 ∷ 65 ∷ []

-- :0100000001FE
abbrev pub p9-line : List ℕ
p9-line = 58 ∷ 48 ∷ 49 ∷ 48 ∷ 48 ∷ 48 ∷ 48 ∷ 48 ∷ 48 ∷ 48 ∷ 49 ∷ 70 ∷ 69 ∷ []

abbrev pub paper_examples : List Example
paper_examples =
    -- 'P1 read IDCODE 0xA5.'
    request_byte Idcode Read gives 0xA5
    -- 'P2 write TAR 0x8B.'
    ∷ request_byte Tar Write gives 0x8B
    -- 'P3 read DRW 0x9F.'
    ∷ request_byte Drw Read gives 0x9F
    -- 'P4 parity of 0x54000000 is 1.'
    ∷ parity 0x54000000 gives 1
    -- P5 to P7, as flow/specs/Examples.antt has them too, so that a wrong key word is refused there
    -- 'P5 sum word 0x8000DEB6.': the DRW write of step 4's call
    ∷ word_at_move (privileged part_one 4 Keep) 1 gives 0x8000DEB6
    -- 'P6 program row 0x0123: 0x0123D9B6.': the DRW write of call 6's list, after the 78 transfers of call 4
    ∷ word_at_move (program_row an_image 0x0123) 79 gives 0x0123D9B6
    -- 'P7 latch, macro 1: 0x0100D7B6.': the first DRW write of row 512
    ∷ word_at_move (program_row an_image 512) 1 gives 0x0100D7B6
    -- 'P8 :0200000490303A sets 0x9030.'
    ∷ upper_after 0 (line_record (Ended p8-line)) gives 0x9030
    -- 'P9 :0100000001FE is OPEN.'
    ∷ cond (is_level Open (get_or (payload_of (line_record (Ended p9-line))) 0 0)) 1 0 gives 1
    -- 'P10 16,384 bytes of 0xFF sum to 0xC000.'
    ∷ (total (replicate 16384 0xFF) % 65536) gives 0xC000
    -- 'P11 part 1, OPEN, plan 27279.'
    ∷ plan part_one FromOpen gives 27279
    -- 'P12 part 3, M 2, OPEN, plan 190741.'
    ∷ plan two_macros FromOpen gives 190741
    ∷ []
