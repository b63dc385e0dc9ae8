-- The line's parts, one after the other.
use Rattle.std.proofs.Common.{◌≡◌, length, sym, arith}
use Rattle.hex_lines.proofs.Pairs.{line-put, sum_is}
use Rattle.hex_lines.proofs.put_line.Goals as goal

pub returns : goal.returns
returns c =
    let four : length c.args.head ≡ 4 = omega (arith, c.well_formed) in
    let n = sum_is c.args.head c.args.payload.now _ _ _ c.put_pairs-first.ensures.sum c.put_pairs-second.ensures.sum c.sum_byte.ensures in
    rw (c.put_pairs.ensures.text_after, c.put_pairs-second.ensures.text_after, c.put_pairs-first.ensures.text_after)
    (sym (line-put c.args.text.now c.args.at c.args.head c.args.payload.now four _ n))
