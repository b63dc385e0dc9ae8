-- Every refusal has a number of 1 to 15. Assumes nothing.
use Prim.Native.Nat.{◌≤◌}
use native.Mathlib.Omega.{arith}
use Rattle.refusals.specs.Refusals.{refusal_number}
use Rattle.refusals.specs.declared.Refusal.{Refusal}
use Rattle.refusals.specs.declared.Refusal.TheVariants.{LineForm, RecordSum, RecordType, DataPlace, EndRecord, Version, ImageId, Level, FlashSum, CancellingRow, PartOrMacros, Size, ImpossibleSession, WrongAnswer, KillWithoutLeave}

pub some_number : (r : Refusal) → 1 ≤ refusal_number r
some_number LineForm = omega arith
some_number RecordSum = omega arith
some_number RecordType = omega arith
some_number DataPlace = omega arith
some_number EndRecord = omega arith
some_number Version = omega arith
some_number ImageId = omega arith
some_number Level = omega arith
some_number FlashSum = omega arith
some_number CancellingRow = omega arith
some_number PartOrMacros = omega arith
some_number Size = omega arith
some_number ImpossibleSession = omega arith
some_number WrongAnswer = omega arith
some_number KillWithoutLeave = omega arith
