-- Room for a word, or none. Assumes nothing.
use Rattle.std.proofs.Common.{◌≡◌, ◌-◌, ◌∙◌, arith}
use Rattle.layout.proofs.Bytes.{no_room, put_low}
use Rattle.layout.proofs.put_word.Goals as goal

pub returns-then-end-bytes : goal.returns-then-end-bytes
returns-then-end-bytes c =
    let e : c.saturating_add-end.result - c.args.at ≡ 4 = omega arith in
    record { put = rw e (put_low c.args.bytes.now _ c.args.at c.args.word (omega arith) (c.copy_from_slice.ensures.after ∙ c.to_le_bytes.ensures)) }

pub returns-else-end-bytes : goal.returns-else-end-bytes
returns-else-end-bytes c = record { put = no_room _ _ _ (omega arith) }
