-- The sum as a fold. Assumes nothing.
use Rattle.std.proofs.Common.{◌≡◌, ◌+◌, ◌%◌, fold, ◌∙◌, rules}
use Rattle.lent.proofs.Words.{total_fold}
use Rattle.lent.proofs.whole_sum.Goals as goal

pub returns : goal.returns
returns c =
    let folded : c.fold.result ≡ fold (λ a x. (a + x) % 0x100000000) 0 c.args.bytes.now = search rules in
    record { sum = folded ∙ total_fold c.args.bytes.now }
