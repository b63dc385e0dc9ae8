-- A list of demand 3 may hold each of document 01's steps. Assumes nothing.
use mathlib.Core.List.{List}
use mathlib.Core.Path.{◌≡◌, refl, sym, subst}
use Prim.Native.Nat.{ℕ}
use Rattle.flow.specs.Exchange.{decode}
use Rattle.flow.specs.declared.Answer.{Answer}
use Rattle.parts.specs.declared.Geometry.{Geometry}
use Rattle.session.specs.Calls.{State, Steps, none, answer, refusal, later, called}
use Rattle.session.specs.Given.{step_with}
use Rattle.session.specs.Lists.{ListExamples}
use Rattle.session.proofs.Stepping.{given_back}
use Rattle.session.specs.Outcomes.{Refused}

-- a refused step leaves the state
unmoved : (s : State) (lent : List ℕ) (a : Answer) (number : ℕ) → (step_with s.session lent a).outcome ≡ Refused number
    → called (step_with s.session lent a) s ≡ s
unmoved s lent a number e = rw (given_back s.session lent a number e, e)

refused : (g : Geometry) (bytes : List ℕ) (s : State) (lent : List ℕ) (a : Answer) (number : ℕ)
    → (step_with s.session lent a).outcome ≡ Refused number
    → Steps g bytes 0 1 s s
refused g bytes s lent a number e = refusal lent a number e (subst (λ (t : State). Steps g bytes 0 0 t s) (sym (unmoved s lent a number e)) none)

pub list-examples : ListExamples
list-examples = record {
  answer = λ g bytes s p e. record { state = _; steps = answer p e none; session = refl; board = refl };
  refusal = refused;
  later = λ g bytes s a r e. record { state = _; steps = later a r e none; session = refl; board = refl };
  unknown = λ g a. unfold decode in refl;
  first = λ g a number. unfold decode in refl;
  counted = λ b w p. refl;
}
