-- The tests in the order of a line's form.
use Rattle.std.proofs.Common.{sym, ◌∙◌, refl, arith}
use Rattle.pairs.proofs.Spelling.{none-run, some-run}
use Rattle.hex_records.proofs.Finding.{no-colon, no-count, no_run, no_end, all_there}
use Rattle.hex_records.proofs.Frames.{bad-colon, bad-count, bad-run, bad-end, end-inside, framed}
use Rattle.hex_records.proofs.frame_at.Goals as goal

pub returns-then-text-at-ne58 : goal.returns-then-text-at-ne58
returns-then-text-at-ne58 c =
    let w = c.args.row.now in
    let l = no-colon c.args.text.now c.args.at w c.if-text-at-ne58.true in
    record { frame = bad-colon c.args.text.now c.args.at c.requires w (omega arith) c.if-text-at-ne58.true; value = l.0; row = l.1 }

pub returns-in_err-ok : goal.returns-in_err-ok
returns-in_err-ok c =
    let w = c.args.row.now in
    let none = none-run _ _ c.in_err-ok.ensures.value c.spell.ensures.run in
    let l = no-count c.args.text.now c.args.at w c.if-text-at-ne58.false none _ c.spell.ensures.row in
    rw c.from_residual.ensures (record { frame = bad-count c.args.text.now c.args.at c.requires w (omega arith) none; value = l.0; row = l.1 })

pub returns-in_err-sum : goal.returns-in_err-sum
returns-in_err-sum c =
    let w = c.args.row.now in
    let counted = some-run _ _ _ c.in_ok-ok.ensures.value c.spell.ensures.run in
    let none = none-run _ _ c.in_err-sum.ensures.value (rw c.from-count.ensures at c.spell-2.ensures.run) in
    let all = rw c.from-count.ensures at c.spell-2.ensures.row in
    let l = no_run c.args.text.now c.args.at w c.if-text-at-ne58.false counted.0 _ c.spell.ensures.row _ all none in
    rw c.from_residual-in_err-sum.ensures
    (record { frame = bad-run c.args.text.now c.args.at c.requires w (omega arith) _ c.spell.ensures.row none; value = l.0; row = l.1 })

pub returns-then-width-eq0 : goal.returns-then-width-eq0
returns-then-width-eq0 c =
    let w = c.args.row.now in
    let counted = some-run _ _ _ c.in_ok-ok.ensures.value c.spell.ensures.run in
    let summed = some-run _ _ _ c.in_ok-sum.ensures.value (rw c.from-count.ensures at c.spell-2.ensures.run) in
    let all = rw c.from-count.ensures at c.spell-2.ensures.row in
    let none = sym (rw c.from-count.ensures at c.line_end-width.ensures.end) ∙ c.if-width-eq0.true in
    let l = no_end c.args.text.now c.args.at w c.if-text-at-ne58.false counted.0 _ c.spell.ensures.row _ all summed.0 none in
    record { frame = bad-end c.args.text.now c.args.at c.requires w (omega arith) _ c.spell.ensures.row none; value = l.0; row = l.1 }

pub overflow_add-result : goal.overflow_add-result
overflow_add-result c =
    omega (arith, end-inside c.args.text.now _ _ c.line_end-width.ensures.end c.if-width-eq0.false)

pub returns : goal.returns
returns c =
    let w = c.args.row.now in
    let counted = some-run _ _ _ c.in_ok-ok.ensures.value c.spell.ensures.run in
    let summed = some-run _ _ _ c.in_ok-sum.ensures.value (rw c.from-count.ensures at c.spell-2.ensures.run) in
    let all = rw c.from-count.ensures at c.spell-2.ensures.row in
    let end = rw c.from-count.ensures at c.line_end-width.ensures.end in
    let l = all_there c.args.text.now c.args.at w c.if-text-at-ne58.false counted.0 _ c.spell.ensures.row _ all summed.0 _ _ summed.1 end c.if-width-eq0.false in
    rw c.from-count.ensures
    (record {
      frame = framed c.args.text.now c.args.at _ w _ _ (omega arith) c.spell.ensures.row refl all counted.0 summed.0 _ _ c.if-text-at-ne58.false summed.1 end c.if-width-eq0.false;
      value = l.0;
      row = l.1;
    })
