-- Laws of the checks. Assumes nothing.
use mathlib.Core.Bool.{Bool, true, false}
use mathlib.Core.List.{List}
use mathlib.Core.Path.{◌≡◌, refl, ap}
use Prim.Native.Nat.{ℕ}
use borrow.Author.Tests.{eqb-true}
use lib.Dec.{eqb}
use Rattle.image.specs.Checks.{level_fits, fault_in, image_fault}
use Rattle.image.specs.declared.Header.{Header}
use Rattle.parts.specs.Levels.{level_of}
use Rattle.parts.specs.Parts.{Lookup, lookup_of}
use Rattle.parts.specs.declared.Level.{Level}
use Rattle.parts.specs.declared.Level.TheVariants.{Virgin, Open, Protected, Kill, Unknown}

-- the levels that an image may ask for, by case
abbrev pub may_ask : Level → Bool
may_ask Virgin = false
may_ask Open = true
may_ask Protected = true
may_ask Kill = true
may_ask Unknown = false

pub may-ask : (n : ℕ) → may_ask (level_of n) ≡ level_fits n
may-ask n = by (eqb n 0) (eqb n 1) (eqb n 2) (eqb n 4) refl refl refl refl
  where
    by : (a b c d : Bool) → eqb n 0 ≡ a → eqb n 1 ≡ b → eqb n 2 ≡ c → eqb n 4 ≡ d → may_ask (level_of n) ≡ level_fits n
    by true b c d p q r s = rw (eqb-true n 0 p)
    by false true c d p q r s = simp (p, q)
    by false false true d p q r s = simp (p, q, r)
    by false false false true p q r s = simp (p, q, r, s)
    by false false false false p q r s = simp (p, q, r, s)

-- the checks after a look-up
pub looked : (h : Header) (bytes : List ℕ) {l : Lookup} → lookup_of h.part h.macros ≡ l → image_fault h bytes ≡ fault_in l h bytes
looked h bytes e = ap (λ (k : Lookup). fault_in k h bytes) e
