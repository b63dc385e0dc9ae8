-- The loop lays src from the front, as far as all three bounds let it. Assumes nothing.
use Rattle.std.proofs.Common.{refl, ◌∙◌, take, arith}
use Rattle.bench_memory.proofs.Laying.{sets-turn, sets_end, sets-none}
use Rattle.bench_memory.proofs.overlay.Goals as goal

pub loop-i-preserved : goal.loop-i-preserved
loop-i-preserved c =
    let a = c.args in
    let l = c.loop-i in
    sets-turn a.dst.now a.at l.i _ _ a.src.now l.dst l.invariant refl refl (omega arith)

pub returns-after-loop-i : goal.returns-after-loop-i
returns-after-loop-i c =
    let a = c.args in
    let l = c.loop-i in
    l.invariant ∙ sets_end a.dst.now a.at l.i a.n a.src.now (omega arith)

pub returns-else-at-dst : goal.returns-else-at-dst
returns-else-at-dst c = sets-none c.args.dst.now c.args.at (take c.args.n c.args.src.now) c.if-at-dst.false
