-- A row that cancels, one that does not, and no row left. Assumes nothing.
use Rattle.std.proofs.Common.{◌≡◌, ◌+◌, ◌-◌, ◌<◌, true, false, take, sym, ap, ◌∙◌, arith}
use Rattle.rows.specs.Cancels.{cancels}
use Rattle.rows.proofs.Cancels.{some-hit, some-miss, some_end}
use Rattle.rows.proofs.some_cancels.Goals as goal

pub returns-then-row_cancels : goal.returns-then-row_cancels
returns-then-row_cancels c =
    let l = c.rows in
    let more : 0 < c.args.n - l.counter = omega arith in
    let hit : cancels (take c.min.result l.rest.now) ≡ true =
    ap cancels (sym c.split_at.ensures.front) ∙ sym c.row_cancels.ensures.cancelling ∙ c.if-row_cancels.true in
    record { cancelling = sym (some-hit l.rest.now c.args.size _ _ more c.min.ensures hit) ∙ l.invariant }

pub rows-preserved : goal.rows-preserved
rows-preserved c =
    let l = c.rows in
    let more : 0 < c.args.n - l.counter = omega arith in
    let miss : cancels (take c.min.result l.rest.now) ≡ false =
    ap cancels (sym c.split_at.ensures.front) ∙ sym c.row_cancels.ensures.cancelling ∙ c.if-row_cancels.false in
    let less : c.args.n - (l.counter + 1) ≡ c.args.n - l.counter - 1 = omega arith in
    rw (less, c.split_at.ensures.back) (sym (some-miss l.rest.now c.args.size _ _ more c.min.ensures miss) ∙ l.invariant)

pub returns : goal.returns
returns c =
    let l = c.rows in
    record { cancelling = sym (some_end c.args.size _ l.rest.now (omega arith)) ∙ l.invariant }
