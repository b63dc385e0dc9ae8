-- By the call's number, in the order of `effect_of`. Assumes nothing.
use Rattle.std.proofs.Common.{arith}
use Rattle.bench_effects.proofs.Effecting.{erasing, filling, programming, idling}
use Rattle.bench_effects.proofs.effect_of.Goals as goal

pub returns-in-10-clause-effects : goal.returns-in-10-clause-effects
returns-in-10-clause-effects c =
    let a = c.args in
    erasing a.g a.effect a.sysarg a.stored a.params.now _ c.in-10.is

pub returns-in-4-clause-effects : goal.returns-in-4-clause-effects
returns-in-4-clause-effects c =
    let a = c.args in
    filling a.g a.effect a.sysarg a.stored a.params.now _ c.in-4.is c.latch_count.result c.latch_count.ensures

pub returns-in-6-clause-effects : goal.returns-in-6-clause-effects
returns-in-6-clause-effects c =
    let a = c.args in
    programming a.g a.effect a.sysarg a.stored a.params.now _ c.in-6.is c.list_word.result c.from.result c.list_word.ensures c.from.ensures

pub returns-in_default-clause-effects : goal.returns-in_default-clause-effects
returns-in_default-clause-effects c =
    let a = c.args in
    idling a.g a.effect a.sysarg a.stored a.params.now _ (omega arith) (omega arith) (omega arith) (omega arith)
