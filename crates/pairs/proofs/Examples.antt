-- The examples hold. Assumes nothing.
use mathlib.Core.Path.{refl}
use Rattle.lent.specs.Words.{total}
use Rattle.pairs.specs.Digits.{digit_of}
use Rattle.pairs.specs.Examples.{PairExamples}
use Rattle.pairs.specs.Spelling.{front, pair_run_of}

pub pair-examples : PairExamples
unfolding pair_run_of front digit_of total
pair-examples = record { fits = refl; spelt = refl; text_short = refl; row_short = refl; most = λ text e. rw e; too_many = λ text. refl }
