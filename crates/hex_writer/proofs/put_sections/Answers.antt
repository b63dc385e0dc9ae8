-- The loop puts the sections that are left. Assumes nothing.
use Rattle.std.proofs.Common.{arith}
use Rattle.hex_writer.proofs.Whole.{asks, turn, ended}
use Rattle.hex_writer.proofs.put_sections.Goals as goal

pub put_located-w-requires-clause-g_in_bounds : goal.put_located-w-requires-clause-g_in_bounds
put_located-w-requires-clause-g_in_bounds c = (asks c.loop-k.invariant (omega arith) _ c.section_at.ensures.section).0

pub put_located-w-requires-clause-s_in_bounds : goal.put_located-w-requires-clause-s_in_bounds
put_located-w-requires-clause-s_in_bounds c = (asks c.loop-k.invariant (omega arith) _ c.section_at.ensures.section).1

pub loop-k-preserved : goal.loop-k-preserved
loop-k-preserved c =
    let p = c.put_located-w.ensures in
    turn c.loop-k.invariant (omega arith) _ c.section_at.ensures.section _ _ p.value p.text_after

pub returns-clause-value : goal.returns-clause-value
returns-clause-value c = (ended c.loop-k.invariant (omega arith)).0

pub returns-clause-text_after : goal.returns-clause-text_after
returns-clause-text_after c = (ended c.loop-k.invariant (omega arith)).1
