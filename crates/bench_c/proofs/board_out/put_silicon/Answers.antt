-- Part by part. Assumes nothing.
use Rattle.std.proofs.Common.{arith}
use Rattle.bench_c.proofs.Boards.{silicon-put}
use Rattle.bench_c.proofs.board_out.put_silicon.Goals as goal

pub returns : goal.returns
returns c = silicon-put c.args.bytes.now _ _ _ _ c.args.s (omega arith) c.put_word.ensures.put c.put_pair.ensures c.put_pair-2.ensures c.put_word-2.ensures.put
