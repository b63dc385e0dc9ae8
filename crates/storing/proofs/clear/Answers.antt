-- Room, or none. Assumes nothing.
use Rattle.std.proofs.Common.{◌≡◌, min, length, arith, length-take}
use borrow.Author.Tests.{le-leb, lt-leb}
use Rattle.storing.specs.Storing.{cleared}
use Rattle.storing.proofs.clear.Goals as goal

pub returns-then-n-bytes : goal.returns-then-n-bytes
unfolding cleared
returns-then-n-bytes c =
    let e : min c.args.n (length c.args.bytes.now) ≡ c.args.n = omega arith in
    record { cleared = rw (le-leb _ _ c.if-n-bytes.true, c.fill.ensures.after (λ y e. e), length-take, e) }

pub returns-else-n-bytes : goal.returns-else-n-bytes
unfolding cleared
returns-else-n-bytes c = record { cleared = rw (lt-leb _ _ c.if-n-bytes.false) }
