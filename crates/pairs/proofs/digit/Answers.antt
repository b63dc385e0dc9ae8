-- The table's entry is the digit. Assumes nothing.
use Rattle.std.proofs.Common.{ℕ, List, get_or, ap, ◌∙◌, arith, rules}
use Rattle.pairs.specs.Digits.{digit_of}
use Rattle.pairs.proofs.Spelling.{digits-at}
use Rattle.pairs.proofs.digit.Goals as goal

pub returns : goal.returns
returns c =
    let k = c.args.c in
    rw c.from.ensures (ap (λ (t : List ℕ). get_or t k 0) c.requires ∙ digits-at 256 0 k (search rules) ∙ ap digit_of (omega arith))
