-- What an entry that offers, and one that does not, mean for the look-up from there on. Assumes nothing.
use Rattle.std.proofs.Common.{◌≡◌, sym, ◌∙◌, arith}
use Rattle.parts.specs.Parts.{part_table}
use Rattle.parts.proofs.Laws.{look_none, look_hit, look_miss}
use Rattle.parts.proofs.find.Goals as goal

pub returns-then-entry_offers : goal.returns-then-entry_offers
returns-then-entry_offers c = record {
  found =
      sym (look_hit part_table c.loop-part.part-index c.args.number c.args.macros _ c.loop-part-test.true (sym c.entry_offers.ensures ∙ c.if-entry_offers.true))
      ∙ c.loop-part.invariant;
}

pub loop-part-preserved : goal.loop-part-preserved
loop-part-preserved c =
    sym (look_miss part_table c.loop-part.part-index c.args.number c.args.macros _ c.loop-part-test.true (sym c.entry_offers.ensures ∙ c.if-entry_offers.false))
    ∙ c.loop-part.invariant

pub returns : goal.returns
returns c =
    let e : c.loop-part.part-index ≡ 3 = omega arith in
    record { found = sym (look_none c.args.number c.args.macros) ∙ (rw e at c.loop-part.invariant) }
