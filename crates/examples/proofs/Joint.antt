-- P1 to P12 of document 01 hold. Assumes nothing.
use mathlib.Core.Path.{refl}
use lib.Count.{ones, ones_in}
use lib.Dec.{lit<}
use Rattle.examples.specs.Table.{paper_examples}
use Rattle.flow.specs.Plan.{plan, lock_plan}
use Rattle.flow.specs.Sequence.{write, read, call, writes, listed, privileged, program_row}
use Rattle.hex_records.specs.Records.{line_record, of_body, of_spelt, record_of, typed}
use Rattle.hex_format.specs.Texts.{upper_after}
use Rattle.lent.specs.Words.{total, word_at, words_at}
use Rattle.parts.specs.Sizes.{rows_of, locks_in}
use Rattle.pairs.specs.Digits.{digit_of, spelt, with_byte}
use Rattle.pairs.specs.Lines.{without_cr}
use Rattle.wire.proofs.Laws.{parity-word}
use Rattle.wire.specs.Examples.{Each, none, more}

pub paper-examples : Each paper_examples
unfolding ones ones_in plan lock_plan rows_of locks_in write read call writes listed privileged program_row word_at words_at line_record of_body of_spelt record_of typed upper_after total digit_of spelt with_byte without_cr
paper-examples =
    more refl (more refl (more refl (more (parity-word 0x54000000 (lit< tt))
    (more refl (more refl (more refl
    (more refl (more refl
    (more refl
    (more refl (more refl none)))))))))))
