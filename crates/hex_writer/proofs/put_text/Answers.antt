-- The first record, the sections, the end record. Assumes nothing.
use Rattle.std.proofs.Common.{arith}
use Rattle.hex_writer.proofs.Whole.{text-room, text-put}
use Rattle.hex_writer.proofs.put_text.Goals as goal

pub put_sections-w-requires-clause-g_in_bounds : goal.put_sections-w-requires-clause-g_in_bounds
put_sections-w-requires-clause-g_in_bounds c =
    let a = c.args in
    omega (arith, c.requires.bytes_in_bounds, text-room a.text.now a.g a.h a.bytes.now, c.put_extended.auto.text)

pub returns : goal.returns
returns c =
    let a = c.args in
    let p = c.put_sections-w.ensures in
    text-put a.text.now a.g a.h a.bytes.now _ _ _ _ c.requires.bytes_in_bounds c.put_extended.ensures.text p.value p.text_after c.put_end.ensures.text
