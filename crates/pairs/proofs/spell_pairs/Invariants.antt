-- The loop spells what is left of the pairs. Assumes nothing.
use Rattle.pairs.proofs.Spelling.{Spelling}
use Rattle.pairs.proofs.spell_pairs.Given as goal

abbrev pub invariant-loop-i : goal.invariant-loop-i
invariant-loop-i l = Spelling l.text l.fn.row l.row l.i l.sum
