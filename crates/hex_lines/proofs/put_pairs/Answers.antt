-- A pair more at a turn; the table has the capitals. Assumes nothing.
use Rattle.std.proofs.Common.{refl, rules, arith}
use Rattle.hex_lines.specs.Lines.{capitals_from}
use Rattle.lent.specs.Words.{total}
use Rattle.pairs.specs.Digits.{capital as capital_of, pairs_of}
use Rattle.hex_lines.proofs.Pairs.{pairs-more, total-more}
use Rattle.hex_lines.proofs.put_pairs.Goals as goal

pub capital-requires : goal.capital-requires
unfolding capitals_from capital_of
capital-requires c = (refl, omega (arith, c.type_inv.bytes c.loop-i.i))

pub capital-requires-in-loop-i : goal.capital-requires-in-loop-i
unfolding capitals_from capital_of
capital-requires-in-loop-i c = (refl, omega arith)

pub loop-i-init : goal.loop-i-init
unfolding total pairs_of
loop-i-init c = record { kept = refl; small = omega arith; summed = refl; put = refl }

pub loop-i-preserved : goal.loop-i-preserved
loop-i-preserved c =
    let v = c.loop-i.invariant in
    record {
      kept = search rules;
      small = omega (arith, v.small, c.type_inv.bytes c.loop-i.i);
      summed = omega (arith, v.summed, total-more c.loop-i.i c.args.bytes.now c.loop-i-test.true, c.from-sum.ensures);
      put = pairs-more c.args.text.now _ c.args.at c.loop-i.i c.args.bytes.now _ _ c.loop-i-test.true v.put c.capital.ensures c.capital-in-loop-i.ensures;
    }
