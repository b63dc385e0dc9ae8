-- Intel hex has the laws of reading, so the claims on reading hold of it. Assumes nothing.
use mathlib.Core.Bool.{Bool, true, false}
use mathlib.Core.Path.{◌≡◌, refl}
use Prim.Native.Nat.{ℕ, ◌+◌}
use lib.Dec.{leb}
use lib.ListN.{length}
use Rattle.hex_format.specs.HexFormat.{payload_of, payloads, intel_hex}
use Rattle.hex_records.specs.Records.{Record, BadRecord, DataRecord, ExtendedAddress, EndRecord, line_record}
use Rattle.hex_format.specs.Texts.{upper_after, event_of, events}
use Rattle.hex_format.proofs.Data.{line-bytes}
use Rattle.text.proofs.Claims as every
use Rattle.text.proofs.Formats.{ReadingLaws}
use Rattle.text.proofs.LineFormats.{Carries, ByLines, payload-bytes, own, follows}
use Rattle.text.specs.Claims.{ReadingClaims}
use Rattle.pairs.specs.Lines.{lines_of}

event-carries : (u : ℕ) (r : Record) → Carries (event_of u r) (payload_of r)
unfolding event_of
event-carries u (BadRecord n) = tt
event-carries u (DataRecord low bs) = go (leb (low + length bs) 0x10000) refl
  where
    go : (b : Bool) → leb (low + length bs) 0x10000 ≡ b → Carries (event_of u (DataRecord low bs)) bs
    go true e = rw e refl
    go false e = rw e tt
event-carries u (ExtendedAddress new) = refl
event-carries u EndRecord = refl

-- the state between lines is the upper half
by_lines : ByLines ℕ events payloads
unfolding events payloads event_of line_record
by_lines = record {
  event = λ u l. event_of u (line_record l);
  after = λ u l. upper_after u (line_record l);
  no-events = λ u. refl;
  more-events = λ u l ls. refl;
  payload = λ l. payload_of (line_record l);
  no-payloads = refl;
  more-payloads = λ l ls. refl;
  open-number = 1;
  open-bad = λ u l. refl;
  carries = λ u l. event-carries u (line_record l);
  bytes = line-bytes;
}

pub reading-laws : ReadingLaws intel_hex
reading-laws = record {
  own = own by_lines 0;
  bytes = λ text. payload-bytes by_lines (lines_of text);
  follows = follows by_lines 0;
}

pub reading-claims : ReadingClaims intel_hex
reading-claims = every.reading-claims intel_hex reading-laws
