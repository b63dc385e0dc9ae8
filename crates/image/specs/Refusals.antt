-- Refusals in order: document 01, 'Who brings a number about'. Assumes nothing.
use Rattle.std.specs.Prelude.{Bool, cond, List, [], ◌∷◌, ℕ}

-- a refusal's number, and the condition under which it does not come about
pub data Check : Type 0 where
  ◌unless◌ : (number : ℕ) (passes : Bool) → Check

infix 70 ◌unless◌
-- the first number whose condition fails, and 0 where none does
unfoldable pub first_refusal : List Check → ℕ
first_refusal [] = 0
first_refusal ((number unless passes) ∷ checks) = cond passes (first_refusal checks) number
