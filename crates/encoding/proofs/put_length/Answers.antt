-- Eight bytes, put from the start on. Assumes nothing.
use Rattle.std.proofs.Common.{◌∙◌, refl}
use Rattle.lent.specs.Words.{low_first}
use Rattle.encoding.proofs.Putting.{fill-put, all-bytes}
use Rattle.encoding.proofs.put_length.Goals as goal

pub returns : goal.returns
returns c = record { put = fill-put c.args.bytes.now _ (low_first 8 c.args.n) _ 8 (c.to_le_bytes.ensures ∙ all-bytes c.args.n) refl c.fill.ensures.part }
