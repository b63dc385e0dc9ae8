-- What a step gives that no answer can carry on: 13, then 12. Assumes nothing.
use mathlib.Core.Bool.{Bool, true, false, false≢true, cond}
use mathlib.Core.List.{List, []}
use mathlib.Core.Path.{◌≡◌, refl, sym, ap, ◌∙◌}
use Prim.Native.Nat.{ℕ}
use native.Mathlib.Omega.{arith}
use borrow.Author.Tests.{ltb-true, ne_eqb}
use lib.Dec.{ltb}
use lib.ListN.{length}
use Rattle.flow.specs.declared.Answer.{Answer}
use Rattle.parts.proofs.Table.{everywhere, at-found}
use Rattle.parts.specs.Parts.{Lookup, part_table, lookup_of}
use Rattle.parts.specs.Sizes.{rows_of, flash_size, lock_total, image_size}
use Rattle.parts.specs.declared.Geometry.{Geometry}
use Rattle.session.proofs.Stepping.{looked-up}
use Rattle.session.specs.Given.{refusing, step_with}
use Rattle.session.specs.Possible.{possible_in, possible_for, possible}
use Rattle.std.specs.Prelude.{Ok, Err}
use Rattle.session.specs.declared.Session.{Session}

-- no image of the table is empty
abbrev sizeable : Geometry → Bool
sizeable g = ltb 0 (image_size g)

all-sizeable : everywhere sizeable part_table ≡ true
unfolding image_size flash_size lock_total rows_of
all-sizeable = refl

module _ (s : Session) (bytes : List ℕ) (a : Answer) where
  -- 'A step checks 13, ..'
  pub impossible : possible s ≡ false → step_with s bytes a ≡ refusing s 13
  impossible = by (lookup_of s.header.part s.header.macros) refl
    where
      by : (l : Lookup) → lookup_of s.header.part s.header.macros ≡ l → possible_for l s ≡ false → step_with s bytes a ≡ refusing s 13
      by (Err n) e z = looked-up s bytes a (Err n) e
      by (Ok g) e z = looked-up s bytes a (Ok g) e ∙ simp z

  -- '.. 12, ..'
  pub other-image : (g : Geometry) → lookup_of s.header.part s.header.macros ≡ Ok g → possible s ≡ true → ¬ (length bytes ≡ image_size g)
      → step_with s bytes a ≡ refusing s 12
  other-image g e z n =
      let can : possible_in g s ≡ true = sym (ap (λ (l : Lookup). possible_for l s) e) ∙ z in
      looked-up s bytes a (Ok g) e ∙ simp (can, ne_eqb (length bytes) (image_size g) n)

-- no answer goes on with no byte of an image
pub no-image : (s : Session) (a : Answer) → step_with s [] a ≡ refusing s (cond (possible s) 12 13)
no-image s a = by (possible s) refl
  where
    found : (l : Lookup) → lookup_of s.header.part s.header.macros ≡ l → possible s ≡ true → step_with s [] a ≡ refusing s 12
    found (Err n) e z = absurd (false≢true (sym (ap (λ (k : Lookup). possible_for k s) e) ∙ z))
    found (Ok g) e z =
        let some = ltb-true 0 (image_size g) (at-found sizeable all-sizeable s.header.part s.header.macros e) in
        other-image s [] a g e z (λ n. omega arith)

    by : (t : Bool) → possible s ≡ t → step_with s [] a ≡ refusing s (cond t 12 13)
    by true z = found (lookup_of s.header.part s.header.macros) refl z
    by false z = impossible s [] a z
