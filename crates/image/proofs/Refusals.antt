-- A list of checks is taken from the front. Assumes nothing.
use mathlib.Core.Bool.{Bool, true, false}
use mathlib.Core.List.{List, [], ◌∷◌}
use mathlib.Core.Path.{◌≡◌, refl, sym, ap, ◌∙◌}
use Prim.Native.Nat.{ℕ, ◌≤◌}
use native.Mathlib.Omega.{arith}
use borrow.Author.Tests.{eqb-true}
use lib.Dec.{eqb, lit≤}
use lib.ListN.{length}
use Rattle.image.specs.Checks.{version_fits, image_id_fits, level_fits, sum_fits, fault_in, image_fault}
use Rattle.image.specs.Refusals.{Check, ◌unless◌, first_refusal}
use Rattle.image.specs.declared.Header.{Header}
use Rattle.parts.specs.Parts.{Lookup, lookup_of}
use Rattle.parts.specs.Sizes.{image_size}
use Rattle.std.specs.Prelude.{Ok}
use Rattle.parts.specs.declared.Geometry.{Geometry}

pub passed : (n : ℕ) (cs : List Check) {b : Bool} → b ≡ true → first_refusal (n unless b ∷ cs) ≡ first_refusal cs
unfolding first_refusal
passed n cs e = rw e

pub failed : (n : ℕ) (cs : List Check) {b : Bool} → b ≡ false → first_refusal (n unless b ∷ cs) ≡ n
unfolding first_refusal
failed n cs e = rw e

pub none_left : first_refusal [] ≡ 0
unfolding first_refusal
none_left = refl

-- where nothing is refused, the first check passes and so do the rest
passes : (n : ℕ) (b : Bool) (cs : List Check) → 1 ≤ n → first_refusal (n unless b ∷ cs) ≡ 0 → (b ≡ true) × (first_refusal cs ≡ 0)
unfolding first_refusal
passes n true cs h e = (refl, e)
passes n false cs h e = absurd (omega arith)

-- what the checks let be known of an image
pub record Passed (g : Geometry) (h : Header) (bytes : List ℕ) : Type 0 where
  pub size : length bytes ≡ image_size g
  pub version : version_fits h ≡ true
  pub id : image_id_fits g h ≡ true
  pub level : level_fits h.level ≡ true
  pub sum : sum_fits g h bytes ≡ true

pub all-passed : (g : Geometry) (h : Header) (bytes : List ℕ) → lookup_of h.part h.macros ≡ Ok g → image_fault h bytes ≡ 0 → Passed g h bytes
all-passed g h bytes found none =
    let t₀ = passes 12 (eqb (length bytes) (image_size g)) _ (lit≤ tt) (ap (λ (x : Lookup). fault_in x h bytes) (sym found) ∙ none) in
    let t₁ = passes 6 (version_fits h) _ (lit≤ tt) t₀.1 in
    let t₂ = passes 7 (image_id_fits g h) _ (lit≤ tt) t₁.1 in
    let t₃ = passes 8 (level_fits h.level) _ (lit≤ tt) t₂.1 in
    let t₄ = passes 9 (sum_fits g h bytes) _ (lit≤ tt) t₃.1 in
    record { size = eqb-true (length bytes) (image_size g) t₀.0; version = t₁.0; id = t₂.0; level = t₃.0; sum = t₄.0 }
