-- The checks in their order, then the text. Assumes nothing.
use Rattle.std.proofs.Common.{List, ℕ, ◌≡◌, length, arith, rules, sym, ap, ◌∙◌}
use Rattle.hex_format.specs.HexFormat.{intel_hex}
use Rattle.hex_writer.proofs.Lengths.{text-length}
use Rattle.text.proofs.Answers.{unknown, wrong_size, no_room, faulty, done}
use Rattle.text.proofs.Entries.{sized}
use Rattle.text.proofs.Settling.{some_number}
use Rattle.text.specs.Sized.{Sized}
use Rattle.image.specs.declared.Header.{Header}
use Rattle.parts.specs.Parts.{lookup_of}
use Rattle.parts.specs.Sizes.{image_size}
use Rattle.parts.specs.declared.Geometry.{Geometry}
use Rattle.std.specs.Prelude.{Ok, Err}
use Rattle.text.specs.Writing.{write_answer}
use Rattle.hex_writer.proofs.write.Goals as goal

sized_as : (g : Geometry) (h : Header) (bytes : List ℕ) → lookup_of h.part h.macros ≡ Ok g → length h.metadata ≡ 12 → length bytes ≡ image_size g
    → Sized g h bytes
sized_as g h bytes e m x = record { sizes = sized h.part h.macros g e; metadata = m; exact = x }

pub returns-in_err-g : goal.returns-in_err-g
returns-in_err-g c =
    let a = c.args in
    let e : c.from_residual.result ≡ Err c.in_err-g.field-0.0 = search rules in
    let p = unknown intel_hex a.header a.bytes.now a.text.now c.in_err-g.field-0.0 (sym c.in_err-g.ensures.found) in
    record { answer = ap write_answer e ∙ p.0; text = p.1 }

pub returns-then-bytes-image_size : goal.returns-then-bytes-image_size
returns-then-bytes-image_size c =
    let a = c.args in
    let p = wrong_size intel_hex a.header a.bytes.now a.text.now _ (sym c.in_ok-g.ensures.found) (λ e. c.if-bytes-image_size.true (e ∙ sym c.image_size.ensures.size)) in
    record { answer = p.0; text = p.1 }

pub text_length-n-requires : goal.text_length-n-requires
text_length-n-requires c = sized c.args.header.part c.args.header.macros _ (sym c.in_ok-g.ensures.found)

pub returns-then-text-n : goal.returns-then-text-n
returns-then-text-n c =
    let a = c.args in
    let x : length a.bytes.now ≡ image_size c.in_ok-g.g = omega (arith, c.image_size.ensures.size) in
    let p = no_room intel_hex a.header a.bytes.now a.text.now _ (sym c.in_ok-g.ensures.found) x (omega (arith, c.text_length-n.ensures)) in
    record { answer = p.0; text = p.1 }

pub returns-in_err-check : goal.returns-in_err-check
returns-in_err-check c =
    let a = c.args in
    let x : length a.bytes.now ≡ image_size c.in_ok-g.g = omega (arith, c.image_size.ensures.size) in
    let r = c.in_err-check.field-0.0 in
    let e : c.from_residual-in_err-check.result ≡ Err r = search rules in
    let p = faulty intel_hex a.header a.bytes.now a.text.now _ (sym c.in_ok-g.ensures.found) x (omega (arith, c.text_length-n.ensures)) _ c.in_err-check.ensures.fault (some_number r) in
    record { answer = ap write_answer e ∙ p.0; text = p.1 }

pub put_text-requires-clause-sized : goal.put_text-requires-clause-sized
put_text-requires-clause-sized c =
    sized_as c.in_ok-g.g c.args.header c.args.bytes.now (sym c.in_ok-g.ensures.found) (omega arith) (omega (arith, c.image_size.ensures.size))

pub put_text-requires-clause-bytes_in_bounds : goal.put_text-requires-clause-bytes_in_bounds
put_text-requires-clause-bytes_in_bounds c = omega (arith, text-length (put_text-requires-clause-sized c), c.text_length-n.ensures)

pub returns : goal.returns
returns c =
    let a = c.args in
    let n = c.text_length-n.ensures in
    let x : length a.bytes.now ≡ image_size c.in_ok-g.g = omega (arith, c.image_size.ensures.size) in
    let z = sized_as c.in_ok-g.g a.header a.bytes.now (sym c.in_ok-g.ensures.found) (omega arith) x in
    let p = done intel_hex a.header a.bytes.now a.text.now _ (sym c.in_ok-g.ensures.found) x (omega (arith, n)) _ _ (sym c.in_ok-check.ensures.fault) (n ∙ sym (text-length z)) (omega (arith, text-length z, n)) c.put_text.ensures in
    record { answer = p.0; text = p.1 }
