-- The examples hold. Assumes nothing.
use mathlib.Core.Path.{refl}
use Rattle.latch_moves.specs.Examples.{LatchExamples}

pub latch-examples : LatchExamples
latch-examples = record { none = λ ms. refl; one = λ b ms. refl; most = λ bytes ms e. rw e; too_many = λ bytes ms e. rw e }
