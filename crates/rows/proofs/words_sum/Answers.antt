-- The sum as a fold over the words. Assumes nothing.
use Rattle.std.proofs.Common.{◌≡◌, ◌+◌, ◌%◌, ◌/◌, fold, length, ◌∙◌, rules}
use Rattle.std.specs.Simd.{first_chunks}
use Rattle.std.specs.Int.{from_le_bytes, w32}
use Rattle.rows.proofs.Zeros.{sum_words}
use Rattle.rows.proofs.words_sum.Goals as goal

pub returns : goal.returns
returns c =
    let row = c.args.row.now in
    let folded : c.fold.result ≡ fold (λ a w. (a + from_le_bytes w32 w) % 0x100000000) 0 (first_chunks 4 (length row / 4) row) = search rules in
    folded ∙ sum_words row
