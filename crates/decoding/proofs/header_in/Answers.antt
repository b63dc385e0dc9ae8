-- A header of the bytes that there are, or too few. Assumes nothing.
use Rattle.std.proofs.Common.{length}
use borrow.Author.Tests.{le-leb, lt-leb}
use Rattle.decoding.proofs.Spelled.{header-chunk}
use Rattle.decoding.proofs.header_in.Goals as goal

pub returns-in_default : goal.returns-in_default
returns-in_default c = record { found = rw (lt-leb 17 (length c.args.bytes.now) c.in_default.ensures.cases) }

pub returns : goal.returns
returns c =
    let b = c.args.bytes.now in
    let row = c.in-Some.ensures.cases in
    record { found = rw (le-leb 17 (length b) row.enough) (header-chunk b _ _ _ row.same c.from_le_bytes.ensures c.copy_from_slice.ensures.after) }
