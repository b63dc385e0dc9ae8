-- The number that a call returns is its outcome's, and a refusal is what its number is. Assumes nothing.
use mathlib.Core.List.{List}
use mathlib.Core.Path.{◌≡◌, refl, ap, ◌∙◌}
use Prim.Native.Nat.{ℕ}
use Rattle.std.specs.Prelude.{Result, Ok, Err}
use Rattle.encoding.specs.Buffers.{put_into}
use Rattle.encoding.specs.Outcomes.{outcome_bytes, outcome_numbered, number_of, number_given}
use Rattle.refusals.specs.Refusals.{refusal_number, number_in}
use Rattle.refusals.specs.declared.Refusal.{Refusal}
use Rattle.session.specs.Outcomes.{Outcome as Told}
use Rattle.session.specs.Told.{outcome_told}
use Rattle.session.specs.declared.Outcome.{Outcome}
use Rattle.session.specs.declared.Outcome.TheVariants.{Ask, Reported}

pub number_told : (o : Result Outcome Refusal) → number_in o ≡ number_of (outcome_told o)
number_told (Ok (Ask p)) = refl
number_told (Ok (Reported r)) = refl
number_told (Err r) = refl

-- the same of every number
pub number_numbered : (o : Result Outcome ℕ) → number_given o ≡ number_of (outcome_numbered o)
number_numbered (Ok (Ask p)) = refl
number_numbered (Ok (Reported r)) = refl
number_numbered (Err n) = refl

-- a refusal's number in its place
abbrev pub by_number : {T : Type 0} → Result T Refusal → Result T ℕ
by_number (Ok x) = Ok x
by_number (Err r) = Err (refusal_number r)

pub outcome_by_number : (o : Result Outcome Refusal) → outcome_numbered (by_number o) ≡ outcome_told o
outcome_by_number (Ok (Ask p)) = refl
outcome_by_number (Ok (Reported r)) = refl
outcome_by_number (Err r) = refl

-- an outcome put by its refusal's number is what was told
pub put_by_number : (buffer after : List ℕ) (n : Result Outcome ℕ) (o : Result Outcome Refusal) → n ≡ by_number o
    → after ≡ put_into buffer (outcome_bytes (outcome_numbered n))
    → after ≡ put_into buffer (outcome_bytes (outcome_told o))
put_by_number buffer after n o e put =
    put ∙ ap (λ (t : Told). put_into buffer (outcome_bytes t)) (ap outcome_numbered e ∙ outcome_by_number o)

pub number_by_number : {T : Type 0} (g : Result T Refusal) → number_given (by_number g) ≡ number_in g
number_by_number (Ok x) = refl
number_by_number (Err r) = refl
