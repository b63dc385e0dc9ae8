-- A piece more at a turn. Assumes nothing.
use Rattle.std.proofs.Common.{rules, ◌∙◌}
use Rattle.hex_writer.proofs.Sections.{turn, ended, piece-fits}
use Rattle.hex_writer.proofs.put_section.Goals as goal

pub put_piece-w-requires : goal.put_piece-w-requires
put_piece-w-requires c =
    let v = c.loop-piece.invariant in
    let steps = c.in-Some.ensures.steps in
    piece-fits v.piecing _ _ steps.1.0 (rw v.size at steps.1.1) steps.1.2

pub loop-piece-preserved : goal.loop-piece-preserved
loop-piece-preserved c =
    let v = c.loop-piece.invariant in
    let steps = c.in-Some.ensures.steps in
    let p = c.put_piece-w.ensures in
    record {
      can_next = search rules;
      is_finite = tt;
      size = steps.0 ∙ v.size;
      piecing = turn v.piecing _ _ steps.1.0 (rw v.size at steps.1.1) steps.1.2 _ _ p.value p.text_after;
    }

pub returns-clause-value : goal.returns-clause-value
returns-clause-value c = (ended c.loop-piece.invariant.piecing c.in-None.ensures.steps.1.0).0

pub returns-clause-text_after : goal.returns-clause-text_after
returns-clause-text_after c = (ended c.loop-piece.invariant.piecing c.in-None.ensures.steps.1.0).1
