-- The first byte that isn't zero, or none. Assumes nothing.
use Rattle.std.proofs.Common.{◌≡◌, ℕ, ◌<◌, length, get_or, sym, rules}
use Rattle.rows.proofs.Claims.{zero-claims}
use Rattle.rows.proofs.zero_row.Goals as goal

pub returns-in-Some : goal.returns-in-Some
returns-in-Some c =
    let row = c.args.row.now in
    let before : (k : ℕ) → k < c.in-Some.at → get_or row k 0 ≡ 0 = search rules in
    let filled : get_or row c.in-Some.at 0 ≡ 0 → ⊥ = search rules in
    record { zero = sym (zero-claims.filled row c.in-Some.at (record { before = before; filled = filled })) }

pub returns-in-None : goal.returns-in-None
returns-in-None c =
    let row = c.args.row.now in
    let before : (k : ℕ) → k < length row → get_or row k 0 ≡ 0 = search rules in
    record { zero = sym (zero-claims.blank row before) }
