-- Eight bytes, put from the start on. Assumes nothing.
use Rattle.std.proofs.Common.{List, ℕ, [], ◌∷◌, get_or, ap, ◌∙◌, refl}
use Rattle.encoding.specs.Outcomes.{eight_bytes}
use Rattle.encoding.proofs.Putting.{fill-put, four-bytes}
use Rattle.encoding.proofs.put_eight.Goals as goal

pub returns : goal.returns
returns c =
    let a = c.args in
    let row = λ (w : List ℕ). a.kind ∷ a.first ∷ a.second ∷ 0 ∷ get_or w 0 0 ∷ get_or w 1 0 ∷ get_or w 2 0 ∷ get_or w 3 0 ∷ [] in
    fill-put a.bytes.now _ (eight_bytes a.kind a.first a.second a.word) _ 8 (ap row (c.to_le_bytes.ensures ∙ four-bytes a.word)) refl c.fill.ensures.part
