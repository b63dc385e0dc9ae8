-- Intel hex has the laws of writing, so the claims on writing hold of it. Assumes nothing.
use Rattle.hex_format.proofs.Claims.{reading-laws}
use Rattle.hex_format.specs.HexFormat.{intel_hex}
use Rattle.hex_writer.proofs.Lengths.{text-length}
use Rattle.hex_writer.proofs.ReadBack.{text_says}
use Rattle.text.proofs.Claims as every
use Rattle.text.proofs.Formats.{WritingLaws}
use Rattle.text.specs.Claims.{WritingClaims}

pub writing-laws : WritingLaws intel_hex
writing-laws = record { says = text_says; measures = λ g h bytes z. text-length z }

pub writing-claims : WritingClaims intel_hex
writing-claims = every.writing-claims intel_hex writing-laws reading-laws
