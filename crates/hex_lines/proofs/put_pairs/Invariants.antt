-- The first pairs are put, and their bytes are added. Assumes nothing.
use Rattle.std.proofs.Common.{◌≡◌, ◌*◌, ◌≤◌, length, take}
use Rattle.std.proofs.lemmas.List.Edits.{sets}
use Rattle.lent.specs.Words.{total}
use Rattle.pairs.specs.Digits.{pairs_of}
use Rattle.hex_lines.proofs.put_pairs.Given as goal

abbrev pub invariant-loop-i : goal.invariant-loop-i
invariant-loop-i l = record {
  kept : length l.text ≡ length l.fn.text;
  small : l.sum ≤ 255 * l.i;
  summed : l.sum ≡ total (take l.i l.bytes);
  put : l.text ≡ sets l.fn.text l.at (pairs_of (take l.i l.bytes));
}
