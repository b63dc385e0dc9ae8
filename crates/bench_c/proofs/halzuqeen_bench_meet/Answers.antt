-- A number at once, or the packet met. Assumes nothing.
use Rattle.std.proofs.Common.{ℕ, ap, ◌∙◌}
use Rattle.bench_calls.specs.Board.{residue_bytes}
use Rattle.bench_c.specs.BoardCalls.{bench_of, handed, benched}
use Rattle.bench_c.proofs.Boards.{met-bench, call-answered}
use Rattle.bench_c.proofs.halzuqeen_bench_meet.Goals as goal

pub returns-in-Err : goal.returns-in-Err
returns-in-Err c =
    let a = c.args in
    let b = bench_of a.board.now a.flash.now a.locks.now a.latch.now a.params.now a.answer.now in
    record {
      met =
          ap (λ (n : ℕ). benched n b) (c.from.ensures ∙ c.number.ensures.number)
          ∙ call-answered (handed a.event.now a.call.now a.packet.now) (residue_bytes a.residue_flash.now a.residue_locks.now a.residue_latch.now) b
          a.part a.macros _ _ c.asked_of.ensures
          c.in-Err.is;
    }

pub returns : goal.returns
returns c =
    let a = c.args in
    let x = residue_bytes a.residue_flash.now a.residue_locks.now a.residue_latch.now in
    let m = c.meet-met in
    let l = m.new.memory in
    let b = bench_of c.copy_from_slice.new.self l.0 l.1.0 l.1.1.0 l.1.1.1.0 c.copy_from_slice-2.new.self in
    record {
      met =
          ap (benched 0)
          (met-bench x c.in-Ok.asked.event c.in-Ok.asked.call b m.result _ m.ensures.met (λ y d. c.copy_from_slice.ensures.after ∙ c.board_bytes.ensures y d)
          (c.copy_from_slice-2.ensures.after ∙ c.answer_bytes.ensures))
          ∙ call-answered (handed a.event.now a.call.now a.packet.now) x
          (bench_of a.board.now a.flash.now a.locks.now a.latch.now a.params.now a.answer.now) a.part a.macros _ _ c.asked_of.ensures
          c.in-Ok.is;
    }
