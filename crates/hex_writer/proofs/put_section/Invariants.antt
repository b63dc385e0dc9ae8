-- What is put so far, and the bytes that are left. Assumes nothing.
use Rattle.std.proofs.Common.{◌≡◌}
use Rattle.std.specs.Slice.Iter.{chunks_rest, chunks_size}
use Rattle.hex_writer.proofs.Sections.{Piecing, cursor}
use Rattle.hex_writer.proofs.put_section.Given as goal

abbrev pub invariant-loop-piece : goal.invariant-loop-piece
invariant-loop-piece l = record {
  can_next : goal.iterator-loop-piece.can_next l.piece-iterator;
  is_finite : goal.iterator-loop-piece.is_finite l.piece-iterator;
  size : chunks_size l.piece-iterator ≡ 64;
  piecing : Piecing l.fn.text l.fn.position l.fn.address l.fn.bytes l.text (cursor l.w l.a (chunks_rest l.piece-iterator));
}
