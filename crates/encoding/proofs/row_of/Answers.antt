-- The row of its fields. Assumes nothing.
use Rattle.std.proofs.Common.{◌≡◌, List, ℕ, [], ◌∷◌, length, ◌%◌, ◌/◌, ap, ◌∙◌, arith}
use Rattle.std.proofs.lemmas.List.{set_at}
use Rattle.encoding.specs.Headers.{header_bytes}
use Rattle.encoding.proofs.row_of.Goals as goal

pub returns-clause-equal : goal.returns-clause-equal
unfolding header_bytes
returns-clause-equal c =
    let h = c.args.h in
    let e : h.sum / 256 % 256 ≡ h.sum / 256 = omega arith in
    let sum : c.copy_from_slice.new.self ≡ h.sum % 256 ∷ h.sum / 256 ∷ [] = rw e at (c.copy_from_slice.ensures.after ∙ c.to_le_bytes.ensures) in
    let twelve : length h.metadata ≡ 12 = omega arith in
    rw (sum, c.copy_from_slice-2.ensures.after)
    (ap (λ (l : List ℕ). h.part ∷ h.macros ∷ h.sum % 256 ∷ h.sum / 256 ∷ l) (set_at h.metadata 0 [] h.level 12 twelve))
