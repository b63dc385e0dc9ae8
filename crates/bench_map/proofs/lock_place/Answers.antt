-- The macros from m on decide. Assumes nothing.
use Rattle.std.proofs.Common.{◌≡◌, suc, ◌+◌, ◌-◌, sym, ◌∙◌, arith}
use Rattle.bench_map.proofs.Mapping.{lock-none, lock-hit, lock-miss}
use Rattle.bench_map.proofs.lock_place.Goals as goal

pub returns-then-covers : goal.returns-then-covers
returns-then-covers c =
    let l = c.loop-m in
    let x = c.args in
    let left : x.g.macros - l.m ≡ suc (x.g.macros - l.m - 1) = omega (arith, c.loop-m-test.true, c.from-m-end.ensures) in
    lock-hit x.g x.a l.m _ c.locks_in.ensures.size _ _ _ left c.lock_start.ensures.start (sym c.covers.ensures ∙ c.if-covers.true)
    ∙ l.invariant

pub loop-m-preserved : goal.loop-m-preserved
loop-m-preserved c =
    let l = c.loop-m in
    let x = c.args in
    let left : x.g.macros - l.m ≡ suc (x.g.macros - (l.m + 1)) = omega (arith, c.loop-m-test.true, c.from-m-end.ensures) in
    sym (lock-miss x.g x.a l.m _ c.locks_in.ensures.size _ _ left (sym c.covers.ensures ∙ c.if-covers.false)) ∙ l.invariant

pub returns : goal.returns
returns c =
    let l = c.loop-m in
    let none : c.args.g.macros - l.m ≡ 0 = omega (arith, c.loop-m-test.false, c.from-m-end.ensures) in
    sym (lock-none c.args.g c.args.a l.m _ none) ∙ l.invariant
