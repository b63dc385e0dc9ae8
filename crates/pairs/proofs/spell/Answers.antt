-- The room tests of `pair_run_of`, then the loop. Assumes nothing.
use Rattle.std.proofs.Common.{arith}
use Rattle.pairs.proofs.Ends.{too_many, row-short, text-short, all-spelt}
use Rattle.pairs.proofs.spell.Goals as goal
use Rattle.pairs.proofs.spell.Goals.{then-k-gt260-via-then-k-gt260, then-k-gt260-via-else-k-gt260+then-row-k, then-k-gt260-via-else-k-gt260+else-row-k+then-text-p, then-k-gt260-via-else-k-gt260+else-row-k+else-text-p+then-text-p-2}

pub returns-then-k-gt260 : goal.returns-then-k-gt260
returns-then-k-gt260 c =
    let r = c.args.row.now in
    let t = c.args.text.now in
    let p = c.args.p in
    let k = c.args.k in
    elim c.then-k-gt260.branch [
      | then-k-gt260-via-then-k-gt260 w ↦ let n = too_many r t p k (omega arith) in record { run = n.0; row = n.1 }
      | then-k-gt260-via-else-k-gt260+then-row-k w ↦ let n = row-short r t p k (omega arith) (omega arith) in record { run = n.0; row = n.1 }
      | then-k-gt260-via-else-k-gt260+else-row-k+then-text-p w ↦
          let n = text-short r t p k (omega arith) (omega arith) (omega arith) in record { run = n.0; row = n.1 }
      | then-k-gt260-via-else-k-gt260+else-row-k+else-text-p+then-text-p-2 w ↦
          let n = text-short r t p k (omega arith) (omega arith) (omega arith) in record { run = n.0; row = n.1 }
    ]

pub returns : goal.returns
returns c =
    let s = c.spell_pairs.ensures in
    let n = all-spelt c.args.row.now c.args.text.now c.args.p c.args.k (omega arith) (omega arith) (omega arith) _ _ s.value s.row in
    record { run = n.0; row = n.1 }
