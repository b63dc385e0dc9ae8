-- The loop lays the bytes of the list from the front. Assumes nothing.
use Rattle.std.proofs.Common.{◌∙◌, ◌/◌, get_or, arith}
use Rattle.std.proofs.lemmas.Slice.{between_to_end}
use Rattle.bench_memory.proofs.Laying.{sets-turn, bytes-of, bytes-at, bytes-length, list-end, list-none}
use Rattle.bench_memory.proofs.fill_latch.Goals as goal
use Rattle.flow.specs.Calls.{bytes_in}

pub loop-i-preserved : goal.loop-i-preserved
loop-i-preserved c =
    let l = c.loop-i in
    let ws = c.in-Some.words.now in
    sets-turn c.args.latch.now 0 l.i l.i _ (bytes_in ws) l.latch l.invariant (omega arith)
    (rw (c.to_le_bytes.ensures, bytes-of (get_or ws (l.i / 4) 0), bytes-at ws l.i))
    (omega (arith, bytes-length ws))

pub returns-after-loop-i : goal.returns-after-loop-i
returns-after-loop-i c =
    let a = c.args in
    let l = c.loop-i in
    let words = c.in-Some in
    l.invariant
    ∙ list-end a.latch.now a.params.now words.words.now l.i a.n (words.ensures.lookup.0.2 ∙ between_to_end a.params.now 2 _ (omega arith)) (omega arith)

pub returns-in_default : goal.returns-in_default
returns-in_default c = list-none c.args.latch.now c.args.params.now c.args.n (omega (arith, c.in_default.ensures.lookup))
