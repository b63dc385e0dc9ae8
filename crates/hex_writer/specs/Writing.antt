-- What writing an Intel hex text gives: text's specs/Writing.antt, for this format. Assumes nothing.
use Rattle.std.specs.Prelude.{List, ℕ}
use Rattle.hex_format.specs.HexFormat.{intel_hex}
use Rattle.image.specs.declared.Header.{Header}
use Rattle.text.specs.Writing.{WriteAnswer, Writing, writing_in, write_in, text_after_in}

-- an image's header and bytes, written into a buffer of `room` bytes
abbrev pub writing : Header → (bytes : List ℕ) (room : ℕ) → Writing
writing h bytes room = writing_in intel_hex h bytes room

-- the answer, and the buffer at the end
abbrev pub write_of : Header → (bytes buffer : List ℕ) → WriteAnswer
write_of h bytes buffer = write_in intel_hex h bytes buffer

abbrev pub text_after : Header → (bytes buffer : List ℕ) → List ℕ
text_after h bytes buffer = text_after_in intel_hex h bytes buffer
