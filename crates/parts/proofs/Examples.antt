-- The examples of the look-up hold. Assumes nothing.
use mathlib.Core.Path.{refl}
use Rattle.parts.specs.LookupExamples.{LookupExamples}
use Rattle.parts.specs.Parts.{look_in}

pub lookup-examples : LookupExamples
unfolding look_in
lookup-examples = record {
  first = refl;
  second = refl;
  third = refl;
  both = refl;
  none = refl;
  first_two = refl;
  second_two = refl;
  third_three = refl;
  zeroth = refl;
  fourth = refl;
}
