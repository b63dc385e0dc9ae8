-- The row, then its store. Assumes nothing.
use Rattle.encoding.proofs.Putting.{fill-put}
use Rattle.encoding.proofs.put_session.Goals as goal

pub returns : goal.returns
returns c =
    let r = c.session_row-row.ensures in
    record { put = fill-put c.args.bytes.now _ _ _ 45 r.equal r.sized c.fill.ensures.part }
