-- src first, then zeros. Assumes nothing.
use lib.Seq.{length-sets}
use Rattle.std.proofs.Common.{◌≡◌, ◌∙◌, refl, ap, length, take, arith, length-drop}
use Rattle.std.proofs.lemmas.List.{length-take}
use Rattle.bench_memory.proofs.Laying.{sets-turn, fitted}
use Rattle.bench_memory.proofs.fit.Goals as goal

pub loop-i-preserved : goal.loop-i-preserved
loop-i-preserved c =
    let a = c.args in
    let l = c.loop-i in
    sets-turn a.dst.now 0 l.i l.i _ a.src.now l.dst l.invariant (omega arith) refl (omega arith)

pub returns : goal.returns
returns c =
    let a = c.args in
    let l = c.loop-i in
    let all : l.i ≡ c.min-n.result = omega arith in
    let size : length l.dst ≡ length a.dst.now = ap length l.invariant ∙ length-sets a.dst.now 0 (take l.i a.src.now) in
    fitted a.dst.now a.src.now l.dst _ c.min-n.result _ _ c.min-n.ensures (rw all at l.invariant) (c.fill.ensures.after (λ y e. e))
    (simp (length-take, length-drop) (omega arith))
    (simp (length-take, length-drop) (omega arith))
