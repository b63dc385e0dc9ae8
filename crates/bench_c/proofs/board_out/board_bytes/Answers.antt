-- Part by part. Assumes nothing.
use Rattle.std.proofs.Common.{refl, replicate}
use Rattle.bench_c.proofs.Boards.{board-put}
use Rattle.bench_c.proofs.board_out.board_bytes.Goals as goal

pub returns : goal.returns
returns c =
    board-put (replicate 46 0) c.put_silicon.new.bytes c.put_pair.new.bytes c.put_words.new.bytes c.put_running.new.bytes c.args.r refl c.put_silicon.ensures c.put_pair.ensures c.put_words.ensures c.put_running.ensures
