-- The examples hold. Assumes nothing.
use mathlib.Core.List.{[], ◌∷◌}
use mathlib.Core.Path.{refl, sym}
use native.Mathlib.Omega.{arith}
use Rattle.hex_lines.proofs.Lines.{data-none, data-many, data-short, data-room}
use Rattle.hex_lines.specs.Examples.{PutExamples}

pub put-examples : PutExamples
put-examples = record {
  most = λ text low payload e r. sym (data-room text 0 low payload (omega arith) (omega arith) (omega arith));
  too_many = λ text at low payload e. sym (data-many text at low payload (omega arith));
  none = λ text at low. sym (data-none text at low [] refl);
  fits = λ text low b r. sym (data-room text 1 low (b ∷ []) (omega arith) (omega arith) (omega arith));
  short = λ text low b r. sym (data-short text 1 low (b ∷ []) (omega arith) (omega arith) (omega arith));
}
