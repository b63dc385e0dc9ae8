-- By whether 0x0D opens a PROTECTED board. Assumes nothing.
use Rattle.std.proofs.Common.{sym, ap, ◌∙◌}
use Rattle.bench_effects.proofs.Effecting.{reopened, protected}
use Rattle.bench_effects.proofs.protect.Goals as goal
use Rattle.parts.specs.Sizes.{locks_in, lock_start}

pub returns-then-reopens-clause-protects : goal.returns-then-reopens-clause-protects
returns-then-reopens-clause-protects c =
    let a = c.args in
    reopened a.g a.effect a.sysarg a.stored (rw (← c.level_sent-level.ensures.0) (sym c.reopens.ensures ∙ c.if-reopens.true))

pub returns-clause-protects : goal.returns-clause-protects
returns-clause-protects c =
    let a = c.args in
    let l = c.level_sent-level.ensures.0 in
    let m = c.macro_sent-number.ensures in
    let at = c.from-at.ensures ∙ m in
    protected a.g a.effect a.sysarg a.stored (rw (← l) (sym c.reopens.ensures ∙ c.if-reopens.false))
    c.level_after.result (c.level_after.ensures ∙ rw (m, l))
    _ _ (c.lock_start.ensures.start ∙ ap (lock_start a.g) at) (c.locks_in.ensures.size ∙ ap (locks_in a.g) at)
