-- What is put where reading or writing gave something, and zeros where it refused. Assumes nothing.
use mathlib.Core.Path.{◌≡◌, refl}
use Prim.Native.Nat.{ℕ}
use Rattle.std.specs.Prelude.{Result, Ok, Err}
use Rattle.std.specs.Result.{result_unwrap_or}
use Rattle.image.specs.Image.{no_header}
use Rattle.image.specs.declared.Header.{Header}
use Rattle.refusals.specs.Refusals.{number_in}
use Rattle.refusals.specs.declared.Refusal.{Refusal}
use Rattle.text.specs.Reading.{read_answer}
use Rattle.text.specs.Writing.{write_answer}

pub header_given : (r : Result Header Refusal) → result_unwrap_or r no_header ≡ (read_answer r).header
header_given (Ok h) = refl
header_given (Err e) = refl

pub read_number : (r : Result Header Refusal) → number_in r ≡ (read_answer r).number
read_number (Ok h) = refl
read_number (Err e) = refl

pub length_given : (r : Result ℕ Refusal) → result_unwrap_or r 0 ≡ (write_answer r).length
length_given (Ok n) = refl
length_given (Err e) = refl

pub write_number : (r : Result ℕ Refusal) → number_in r ≡ (write_answer r).number
write_number (Ok n) = refl
write_number (Err e) = refl
