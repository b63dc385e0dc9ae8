-- The table's entries, a pair that is none, a turn, and the end. Assumes nothing.
use Rattle.std.proofs.Common.{◌≡◌, [], ◌-◌, ◌*◌, length, refl, ◌∙◌, arith}
use Rattle.std.proofs.lemmas.List.{set-get_or}
use Rattle.pairs.specs.Digits.{digit_of}
use Rattle.pairs.specs.Spelling.{digits_from, front, pairs_at}
use Rattle.pairs.proofs.Spelling.{turn, stops, ends, row-then, none_left, front-high, front_low}
use Rattle.pairs.proofs.spell_pairs.Goals as goal
use Rattle.pairs.proofs.spell_pairs.Goals.{then-h-gt15-via-then-h-gt15, then-h-gt15-via-else-h-gt15+then-l-gt15}

pub digit-h-requires : goal.digit-h-requires
unfolding digits_from digit_of
digit-h-requires c = refl

pub digit-l-requires : goal.digit-l-requires
unfolding digits_from digit_of
digit-l-requires c = refl

pub returns-then-h-gt15 : goal.returns-then-h-gt15
returns-then-h-gt15 c =
    let i = c.loop-i.i in
    let left = length c.args.row.now - i in
    let v = c.loop-i.invariant in
    let same = set-get_or c.loop-i.row i 0 in
    elim c.then-h-gt15.branch [
      | then-h-gt15-via-then-h-gt15 w ↦
          let nil : front (pairs_at c.args.text.now (2 * i) left) ≡ [] = front-high _ (2 * i) left _ _ (omega arith) (omega (arith, v.inside)) c.digit-h.ensures c.digit-l.ensures w.if-h-gt15.true in
          record { value = stops v nil (omega arith); row = w.row-is ∙ same ∙ row-then v nil }
      | then-h-gt15-via-else-h-gt15+then-l-gt15 w ↦
          let nil : front (pairs_at c.args.text.now (2 * i) left) ≡ [] = front_low _ (2 * i) left _ _ (omega arith) (omega (arith, v.inside)) c.digit-h.ensures c.digit-l.ensures w.if-h-gt15.false w.if-l-gt15.true in
          record { value = stops v nil (omega arith); row = w.row-is ∙ same ∙ row-then v nil }
    ]

pub loop-i-preserved : goal.loop-i-preserved
loop-i-preserved c =
    rw c.from-sum.ensures (turn c.loop-i.invariant _ _ c.digit-h.ensures c.digit-l.ensures (omega arith) c.if-h-gt15.false c.if-l-gt15.false)

pub returns : goal.returns
returns c =
    let l = c.loop-i in
    let all : l.i ≡ length c.args.row.now = omega arith in
    let nil = none_left _ (2 * l.i) (length c.args.row.now - l.i) (omega arith) in
    record { value = ends l.invariant nil all; row = row-then l.invariant nil }
