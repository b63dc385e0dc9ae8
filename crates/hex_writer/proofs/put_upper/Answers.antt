-- The upper half stays, or a type 4 record is put. Assumes nothing.
use Rattle.std.proofs.Common.{arith}
use Rattle.hex_writer.proofs.Lines.{upper-put}
use Rattle.hex_writer.proofs.put_upper.Goals as goal

pub returns-clause-value : goal.returns-clause-value
returns-clause-value c =
    (upper-put c.args.text.now c.args.position c.args.upper (λ e. omega arith) _ c.requires.1 c.put_extended.ensures.text).0

pub returns-clause-text_after : goal.returns-clause-text_after
returns-clause-text_after c =
    (upper-put c.args.text.now c.args.position c.args.upper (λ e. omega arith) _ c.requires.1 c.put_extended.ensures.text).1
