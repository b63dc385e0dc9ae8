-- The image's part of the buffer; the rest of it stays.
use Rattle.std.proofs.Common.{sym}
use Rattle.hex_format.specs.HexFormat.{intel_hex}
use Rattle.text.proofs.Readings.{in-room}
use Rattle.hex_reader.proofs.read.Goals as goal

pub returns : goal.returns
returns c =
    let r = c.read_image.ensures in
    let n = in-room intel_hex c.args.part c.args.macros c.args.text.now c.args.buffer.now _ (sym c.in_ok-g.ensures.found) _ _ _ c.image_size-size.ensures.size c.if-buffer-size.false r.answer r.image in
    record { answer = n.0; buffer = n.1 }
