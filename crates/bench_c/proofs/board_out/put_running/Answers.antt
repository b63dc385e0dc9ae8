-- The bytes of a run over the last of a board's. Assumes nothing.
use Rattle.std.proofs.Common.{◌∙◌, arith}
use Rattle.bench_c.proofs.Boards.{running-put}
use Rattle.bench_c.proofs.board_out.put_running.Goals as goal

pub returns : goal.returns
returns c =
    let a = c.args in
    running-put a.bytes.now _ a.running (omega arith) (λ x. c.copy_from_slice.ensures.after ∙ c.running_bytes.ensures x)
