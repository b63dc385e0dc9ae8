-- The examples hold. Assumes nothing.
use mathlib.Core.Path.{refl}
use Rattle.call_moves.specs.Examples.{ReachExamples}

pub reach-examples : ReachExamples
reach-examples = record { last = λ m. refl; past = λ m. refl }
