-- What is tested of `data_put`, then the line. Assumes nothing.
use Rattle.std.proofs.Common.{◌≡◌, ◌/◌, ◌%◌, sym, ◌∙◌, arith}
use Rattle.hex_lines.proofs.Lines.{data-length, line-by, data-by}
use Rattle.hex_lines.proofs.put_data.Goals as goal
use Rattle.hex_lines.proofs.put_data.Goals.{else-is_count-via-then-is_count+else-has_room, else-is_count-via-else-is_count}

pub returns-then-has_room : goal.returns-then-has_room
returns-then-has_room c =
    let a = c.args in
    let high : a.low / 256 % 256 ≡ a.low / 256 = omega arith in
    record {
      text = (rw (c.to_be_bytes.ensures, high) at c.put_line.ensures)
          ∙ sym (data-by a.text.now a.at a.low a.payload.now _ (sym c.if-is_count.true ∙ c.is_count.ensures)
          ∙ line-by a.text.now a.at _ _ _ (data-length a.low a.payload.now) (sym c.if-has_room.true ∙ c.has_room.ensures));
    }

pub returns-else-is_count : goal.returns-else-is_count
returns-else-is_count c =
    let a = c.args in
    record {
      text = elim c.else-is_count.branch [
        | else-is_count-via-then-is_count+else-has_room w ↦
            sym (data-by a.text.now a.at a.low a.payload.now _ (sym w.if-is_count.true ∙ c.is_count.ensures)
            ∙ line-by a.text.now a.at _ _ _ (data-length a.low a.payload.now) (sym w.if-has_room.false ∙ w.has_room.ensures))
        | else-is_count-via-else-is_count w ↦ sym (data-by a.text.now a.at a.low a.payload.now _ (sym w.if-is_count.false ∙ c.is_count.ensures))
      ];
    }
