-- By whether SYSARG is PARAMS. Assumes nothing.
use borrow.Author.Tests.{ne_eqb}
use Rattle.bench_effects.proofs.latch_count.Goals as goal
use Rattle.flow.specs.Calls.{bytes_in}

pub returns-else-sysarg-eq-PARAMS : goal.returns-else-sysarg-eq-PARAMS
unfolding bytes_in
returns-else-sysarg-eq-PARAMS c = simp (ne_eqb _ _ c.if-sysarg-eq-PARAMS.false)
