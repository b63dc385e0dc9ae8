-- A turn takes one byte more at most, on an error too. Assumes nothing.
use Rattle.std.proofs.Common.{rules, arith}
use Rattle.cases.proofs.Taking.{takes-more, takes-less}
use Rattle.cases.proofs.read_number.Goals as goal

pub returns-in_err-c-clause-taken : goal.returns-in_err-c-clause-taken
returns-in_err-c-clause-taken g c = takes-more _ _ _ _ 1 20 (omega arith) c.loop.invariant.taken c.next_byte.ensures.taken

pub returns-in-Some-2-clause-taken : goal.returns-in-Some-2-clause-taken
returns-in-Some-2-clause-taken g c = takes-more _ _ _ _ 1 20 (omega arith) c.loop.invariant.taken c.next_byte.ensures.taken

pub returns-in-None-clause-taken : goal.returns-in-None-clause-taken
returns-in-None-clause-taken g c = takes-more _ _ _ _ 1 20 (omega arith) c.loop.invariant.taken c.next_byte.ensures.taken

pub loop-preserved : goal.loop-preserved
loop-preserved g c =
    record {
      bounded = search rules;
      taken = takes-more _ _ _ _ 1 _ (omega arith) c.loop.invariant.taken c.next_byte.ensures.taken;
    }

pub returns-clause-taken : goal.returns-clause-taken
returns-clause-taken g c = takes-less _ _ _ 20 (omega arith) c.loop.invariant.taken
