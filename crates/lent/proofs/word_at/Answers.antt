-- The bytes from the offset on, four of them or fewer. Assumes nothing.
use Rattle.std.proofs.Common.{◌≡◌, ℕ, ◌≤◌, length, get_or, sym, arith}
use lib.ListN.{get_or-eq_default}
use Rattle.lent.proofs.Words.{word_none, word_rest}
use Rattle.lent.proofs.word_at.Goals as goal

pub returns-in_default : goal.returns-in_default
returns-in_default c =
    let past : length c.args.bytes.now ≤ c.args.at = omega (arith, c.in_default.ensures.lookup.0) in
    record { word = sym (word_none c.args.bytes.now c.args.at past) }

pub returns-in-empty : goal.returns-in-empty
returns-in-empty c =
    let past : length c.args.bytes.now ≤ c.args.at = omega (arith, c.in-Some.ensures.lookup.0.3) in
    record { word = sym (word_none c.args.bytes.now c.args.at past) }

pub returns-in-len1 : goal.returns-in-len1
returns-in-len1 c =
    let rest = c.in-Some.rest.now in
    let past : (k : ℕ) → 1 ≤ k → get_or rest k 0 ≡ 0 = λ k h. get_or-eq_default rest 0 (omega arith) in
    let word = word_rest c.args.bytes.now rest c.args.at c.in-Some.ensures.lookup.0.2 in
    record { word = omega (arith, word, past 1 (omega arith), past 2 (omega arith), past 3 (omega arith)) }

pub returns-in-len2 : goal.returns-in-len2
returns-in-len2 c =
    let rest = c.in-Some.rest.now in
    let past : (k : ℕ) → 2 ≤ k → get_or rest k 0 ≡ 0 = λ k h. get_or-eq_default rest 0 (omega arith) in
    let word = word_rest c.args.bytes.now rest c.args.at c.in-Some.ensures.lookup.0.2 in
    record { word = omega (arith, word, past 2 (omega arith), past 3 (omega arith)) }

pub returns-in-len3 : goal.returns-in-len3
returns-in-len3 c =
    let rest = c.in-Some.rest.now in
    let past : get_or rest 3 0 ≡ 0 = get_or-eq_default rest 0 (omega arith) in
    let word = word_rest c.args.bytes.now rest c.args.at c.in-Some.ensures.lookup.0.2 in
    record { word = omega arith }

pub returns-in-len4-up : goal.returns-in-len4-up
returns-in-len4-up c =
    let word = word_rest c.args.bytes.now c.in-Some.rest.now c.args.at c.in-Some.ensures.lookup.0.2 in
    record { word = omega arith }
