-- The examples of the test whether a row is all zero are as stated. Assumes nothing.
use Rattle.std.proofs.Common.{refl}
use Rattle.rows.specs.Cancels.{cancels}
use Rattle.rows.specs.Examples.{ZeroExamples}
use Rattle.lent.specs.Words.{total, all_zero, word_at, words_at}
use Rattle.rows.specs.Zeros.{bytes_read}

pub zero-examples : ZeroExamples
unfolding bytes_read all_zero cancels total words_at word_at
zero-examples = record {
  blank = refl;
  last = refl;
  place62 = refl;
  first = refl;
  second = refl;
  none = refl;
  one = refl;
  five = refl;
  five_taken = refl;
  nine_cancels = refl;
}
