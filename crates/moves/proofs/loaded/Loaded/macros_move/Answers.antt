-- The macro that the index is in, counted from the highest.
use Rattle.moves.proofs.Sections.{macro-inside, macros-at}
use Rattle.moves.proofs.loaded.Loaded.macros_move.Goals as goal

pub macro_move-requires-clause-inside : goal.macro_move-requires-clause-inside
macro_move-requires-clause-inside c =
    let l = c.args.self.now in
    rw c.lock_words.ensures.count (macro-inside l.geometry l.handled l.header l.bytes.now l.exact c.args.j c.requires _)

pub returns : goal.returns
returns c =
    let l = c.args.self.now in
    macros-at l.geometry l.handled l.header l.bytes.now l.exact c.args.j c.requires c.from-top.result c.from-top.ensures
    (rw c.lock_words.ensures.count at c.macro_move.ensures)
