-- What is tested of `line_put`, then the line. Assumes nothing.
use Rattle.std.proofs.Common.{◌≡◌, ◌/◌, ◌%◌, sym, ◌∙◌, arith}
use Rattle.hex_lines.proofs.Lines.{extended-length, line-by}
use Rattle.hex_lines.proofs.put_extended.Goals as goal

pub returns-then-has_room : goal.returns-then-has_room
returns-then-has_room c =
    let a = c.args in
    let high : a.upper / 256 % 256 ≡ a.upper / 256 = omega arith in
    record {
      text = (rw (c.to_be_bytes.ensures, high) at c.put_line.ensures)
          ∙ sym (line-by a.text.now a.at _ _ _ (extended-length a.upper) (sym c.if-has_room.true ∙ c.has_room.ensures));
    }

pub returns-else-has_room : goal.returns-else-has_room
returns-else-has_room c =
    let a = c.args in
    record { text = sym (line-by a.text.now a.at _ _ _ (extended-length a.upper) (sym c.if-has_room.false ∙ c.has_room.ensures)) }
