-- The room tests of `stored_at`, then the copy. Assumes nothing.
use Rattle.std.proofs.Common.{◌≡◌, ◌+◌, ◌-◌, ◌∙◌, ap, length, take, drop, arith}
use Rattle.storing.proofs.Storing.{row-short, part-short, stored, put_stored}
use Rattle.storing.proofs.fill.Goals as goal

pub returns-in_default : goal.returns-in_default
returns-in_default c = record { part = row-short _ _ _ _ _ (omega (arith, c.in_default.ensures.lookup.0)) }

pub returns-else-end-part : goal.returns-else-end-part
returns-else-end-part c = record { part = part-short _ _ _ _ _ (omega (arith, c.in-Some.ensures.lookup.0)) (omega arith) }

pub returns-then-end-part : goal.returns-then-end-part
returns-then-end-part c =
    let a = c.args in
    let h = c.in-Some.ensures.lookup.0 in
    let e : c.saturating_add.result ≡ a.from + a.n = omega arith in
    let f : c.saturating_add-end.result ≡ a.to + a.n = omega arith in
    let x : a.from + a.n - a.from ≡ a.n = omega arith in
    let y : a.to + a.n - a.to ≡ a.n = omega arith in
    let run : c.copy_from_slice.new.self ≡ take a.n (drop a.from a.row.now) = rw (e, x) at (c.copy_from_slice.ensures.after ∙ h.2) in
    record {
      part =
          rw (f, y, run)
          (put_stored a.part.now (take a.n (drop a.from a.row.now)) a.to a.n (omega (arith, ap length run, c.copy_from_slice.ensures.len)) (omega arith) ∙ stored _ _ _ _ _ (omega arith) (omega arith));
    }
