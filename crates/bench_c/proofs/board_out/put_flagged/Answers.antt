-- A store and a word. Assumes nothing.
use Rattle.bench_c.proofs.Boards.{flagged-put}
use Rattle.bench_c.proofs.board_out.put_flagged.Goals as goal

pub returns : goal.returns
returns c = flagged-put c.args.bytes.now _ c.args.at c.args.flag c.args.word c.requires c.put_word.ensures.put
