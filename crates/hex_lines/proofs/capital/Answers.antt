-- The table's entry. Assumes nothing.
use Rattle.std.proofs.Common.{ℕ, List, get_or, ap, ◌∙◌, arith}
use Rattle.hex_lines.proofs.Pairs.{capitals-at}
use Rattle.pairs.specs.Digits.{capital as capital_of}
use Rattle.hex_lines.proofs.capital.Goals as goal

pub returns : goal.returns
returns c =
    ap (λ (t : List ℕ). get_or t c.from.result 0) c.requires.0 ∙ capitals-at 16 0 c.from.result (omega (arith, c.requires.1)) ∙ ap capital_of (omega arith)
