-- Five words. Assumes nothing.
use Rattle.std.proofs.Common.{arith}
use Rattle.bench_c.proofs.Boards.{words-put}
use Rattle.bench_c.proofs.board_out.put_words.Goals as goal

pub returns : goal.returns
returns c =
    words-put c.args.bytes.now _ _ _ _ _ c.args.r (omega arith) c.put_word.ensures.put c.put_word-2.ensures.put c.put_word-3.ensures.put c.put_word-4.ensures.put
    c.put_word-5.ensures.put
