-- The move that is found is the sequence's. Assumes nothing.
use Rattle.std.proofs.Common.{◌∙◌}
use Rattle.moves.proofs.Table.{move-found}
use Rattle.session.proofs.held.Held.standing_move.Goals as goal

pub returns : goal.returns
returns c =
    let h = c.args.self.now in
    let s = h.session in
    c.move_at.ensures.found
    ∙ move-found h.geometry s.header h.bytes.now s.position.entry s.position.at s.header.part s.header.macros h.lent.found h.lent.size
