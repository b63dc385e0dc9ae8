-- The refusals' numbers: document 01, 'Who brings a number about'. Assumes nothing.
use Rattle.std.specs.Prelude.{ℕ, Result, Ok, Err}
use Rattle.refusals.specs.declared.Refusal.{Refusal}
use Rattle.refusals.specs.declared.Refusal.TheVariants.{LineForm, RecordSum, RecordType, DataPlace, EndRecord, Version, ImageId, Level, FlashSum, CancellingRow, PartOrMacros, Size, ImpossibleSession, WrongAnswer, KillWithoutLeave}

abbrev pub refusal_number : Refusal → ℕ
-- 'Whoever made the file: 1 line form, or a byte count that isn't the line's; 2 record sum; 3 type, or its length or address; 4 data not
-- the next due, or crossing; 5 end record missing, early or followed; 6 version; 7 image ID not the part's; 8 level not 1, 2, 4; 9 flash
-- sum; 10 a row whose 32-bit words add to 0 mod 2^32 without all being 0'
refusal_number LineForm = 1
refusal_number RecordSum = 2
refusal_number RecordType = 3
refusal_number DataPlace = 4
refusal_number EndRecord = 5
refusal_number Version = 6
refusal_number ImageId = 7
refusal_number Level = 8
refusal_number FlashSum = 9
refusal_number CancellingRow = 10
-- 'The host: 11 part or M; 12 the buffer to be written under size, or an image lent for reading not of exact size; 13 session impossible
-- for its part; 14 reset answered by an acknowledgement or the reverse; 15 KILL without leave.'
refusal_number PartOrMacros = 11
refusal_number Size = 12
refusal_number ImpossibleSession = 13
refusal_number WrongAnswer = 14
refusal_number KillWithoutLeave = 15

-- 0, or the number of the refusal
abbrev pub number_in : {T : Type 0} → Result T Refusal → ℕ
number_in (Ok _) = 0
number_in (Err r) = refusal_number r
