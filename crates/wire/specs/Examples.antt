-- Worked examples as a table: P1 to P12 of document 01 stand in one (crate examples), other lengths and lines in their crates'.
use Rattle.std.specs.Prelude.{List, [], ◌∷◌, ◌≡◌, ℕ}

-- what a definition gives, and what document 01 states
pub data Example : Type 0 where
  ◌gives◌ : (found stated : ℕ) → Example

infix 70 ◌gives◌
abbrev pub Holds : Example → Type 0
Holds (found gives stated) = found ≡ stated

-- every entry of a table holds
pub data Each : List Example → Type 0 where
  none : Each []
  more : {e : Example} {es : List Example} → Holds e → Each es → Each (e ∷ es)
