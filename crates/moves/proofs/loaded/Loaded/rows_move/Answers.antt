-- The row is a middle part of the image.
use Rattle.std.proofs.Common.{refl}
use Rattle.moves.proofs.Sections.{rows_at}
use Rattle.moves.proofs.loaded.Loaded.rows_move.Goals as goal

pub returns : goal.returns
returns c =
    let l = c.args.self.now in
    rows_at l.geometry l.handled l.header l.bytes.now l.exact c.args.j c.requires _ refl
    (rw (c.row_words.ensures, c.from-size.ensures, c.from.ensures) at (c.row_move.ensures.found l.geometry refl))
