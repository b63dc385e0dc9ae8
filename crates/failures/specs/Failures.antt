-- The failures' numbers: document 01, 'Who brings a number about', and document 02, Five. Assumes nothing.
use Rattle.std.specs.Prelude.{ℕ}
use Rattle.failures.specs.declared.Failure.{Failure}
use Rattle.failures.specs.declared.Failure.TheVariants.{Idcode, TestMode, PollLimit, CallFailed, SiliconId, Level, Flash, Locks, StoredLevel, Sum}
use Rattle.failures.specs.declared.Failure.TheVariants.{ThirtyAttempts, SeventeenWaits, Fault, Silence, Parity, Noise}

abbrev pub failure_number : Failure → ℕ
-- 'The board: 16 IDCODE; 17 TEST_MODE bit; 18 poll limit; 19 call failed; 20 silicon ID; 21 level not OPEN or PROTECTED, or not OPEN
-- after reopening; 22 flash; 23 locks; 24 level; 25 sum.'
failure_number Idcode = 16
failure_number TestMode = 17
failure_number PollLimit = 18
failure_number CallFailed = 19
failure_number SiliconId = 20
failure_number Level = 21
failure_number Flash = 22
failure_number Locks = 23
failure_number StoredLevel = 24
failure_number Sum = 25
-- 'The line: 26 thirty attempts; 27 seventeenth WAIT; 28 FAULT; 29 silence; 30 parity.'
failure_number ThirtyAttempts = 26
failure_number SeventeenWaits = 27
failure_number Fault = 28
failure_number Silence = 29
failure_number Parity = 30
-- 'Refused: 33, an acknowledgement other than 1, 2, 4 and 7, a report, checked where 29 is; 29 is left with 7.'
failure_number Noise = 33
