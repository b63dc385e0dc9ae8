-- The fixed byte string is the end record.
use Rattle.std.proofs.Common.{◌∙◌}
use Rattle.hex_lines.proofs.Lines.{end-put}
use Rattle.hex_lines.proofs.put_end.Goals as goal

pub returns : goal.returns
returns c = record { text = c.fill.ensures.part ∙ end-put c.args.text.now c.args.at }
