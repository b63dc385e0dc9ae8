-- Refused and zeroed, or settled.
use Rattle.std.proofs.Common.{refl}
use Rattle.hex_format.specs.HexFormat.{intel_hex}
use Rattle.text.proofs.Readings.{whole}
use Rattle.text.proofs.Entries.{sized}
use Rattle.hex_reader.proofs.read_image.Goals as goal

pub scan-requires : goal.scan-requires
scan-requires c =
    record { table = sized c.args.part c.args.macros c.args.g c.requires.0; image-size = c.requires.1; header-size = refl }

pub returns-in-Ok : goal.returns-in-Ok
returns-in-Ok c =
    let l = whole intel_hex c.args.g c.args.part c.args.macros c.args.text.now c.args.image.now c.requires.1 _ _ _ _ c.in-Ok.ensures c.scan.auto.image c.settle.ensures.answer c.settle.ensures.image in
    record { answer = l.0; image = l.1 }
