-- What an image that is written was. Assumes nothing.
use mathlib.Core.Bool.{Bool, true, false, false≢true, cond}
use mathlib.Core.List.{List, ◌∷◌}
use mathlib.Core.Path.{◌≡◌, refl, sym, ap, ◌∙◌}
use Prim.Native.Nat.{ℕ, ◌≤◌}
use native.Mathlib.Omega.{arith}
use borrow.Author.Tests.{eq-eqb, le-leb, eqb-true, eqb-false, leb-true}
use lib.Dec.{eqb, leb}
use lib.ListN.{length}
use Rattle.refusals.specs.Refusals.{refusal_number}
use Rattle.image.proofs.Checks.{looked}
use Rattle.image.proofs.Refusals.{passed, failed}
use Rattle.image.specs.Checks.{content_checks, image_fault}
use Rattle.image.specs.Refusals.{◌unless◌, first_refusal}
use Rattle.image.specs.declared.Header.{Header}
use Rattle.parts.specs.Parts.{Lookup, lookup_of}
use Rattle.parts.specs.Sizes.{image_size}
use Rattle.parts.specs.declared.Geometry.{Geometry}
use Rattle.text.proofs.Entries.{refused-eleven}
use Rattle.text.specs.Claims.{Writes}
use Rattle.text.specs.Formats.{Format, text_in, length_in}
use Rattle.std.specs.Prelude.{Ok, Err}
use Rattle.text.specs.Writing.{Unwritten, Written, write_checks, unless_refused, write_for, writing_in}

-- the refusals of writing, once the sizes fit, are those of the image
module _ (F : Format) (h : Header) (bytes : List ℕ) (room : ℕ) (g : Geometry) (found : lookup_of h.part h.macros ≡ Ok g) where
  pub image-number : length bytes ≡ image_size g → length_in F g ≤ room → first_refusal (write_checks F g h bytes room) ≡ image_fault h bytes
  image-number exact fits =
      passed _ _ (eq-eqb (length bytes) (image_size g) exact)
      ∙ passed _ _ (le-leb (length_in F g) room fits)
      ∙ sym (looked h bytes found ∙ passed _ _ (eq-eqb (length bytes) (image_size g) exact))

  pub writes : length bytes ≡ image_size g → length_in F g ≤ room → image_fault h bytes ≡ 0 → Writes F h bytes room (text_in F g h bytes)
  writes exact fits none =
      ap (λ (l : Lookup). write_for F l h bytes room) found
      ∙ ap (λ (n : ℕ). unless_refused n (text_in F g h bytes)) (image-number exact fits ∙ none)

-- what was written
pub record WrittenFrom (F : Format) (h : Header) (bytes : List ℕ) (room : ℕ) (text : List ℕ) : Type 0 where
  pub g : Geometry
  pub found : lookup_of h.part h.macros ≡ Ok g
  pub exact : length bytes ≡ image_size g
  pub room-enough : length_in F g ≤ room
  pub none : image_fault h bytes ≡ 0
  pub is : text ≡ text_in F g h bytes

module _ (F : Format) (h : Header) (bytes : List ℕ) (room : ℕ) (text : List ℕ) where
  module _ (g : Geometry) (found : lookup_of h.part h.macros ≡ Ok g) (is : text ≡ text_in F g h bytes) (zero_number : first_refusal (write_checks F g h bytes room) ≡ 0) where
    exact : (b : Bool) → eqb (length bytes) (image_size g) ≡ b → length bytes ≡ image_size g
    exact true q = eqb-true (length bytes) (image_size g) q
    exact false q = absurd (omega (arith, zero_number, failed 12 (12 unless leb (length_in F g) room ∷ content_checks g h bytes) q))

    fits : length bytes ≡ image_size g → (b : Bool) → leb (length_in F g) room ≡ b → length_in F g ≤ room
    fits e true q = leb-true (length_in F g) room q
    fits e false q =
        absurd
        (omega (
          arith,
          zero_number,
          passed 12 (12 unless leb (length_in F g) room ∷ content_checks g h bytes) (eq-eqb (length bytes) (image_size g) e),
          failed 12 (content_checks g h bytes) q,
        ))

    whole : WrittenFrom F h bytes room text
    whole =
        let e = exact (eqb (length bytes) (image_size g)) refl in
        let f = fits e (leb (length_in F g) room) refl in
        record { g = g; found = found; exact = e; room-enough = f; none = sym (image-number F h bytes room g found e f) ∙ zero_number; is = is }

  pub written_from : Writes F h bytes room text → WrittenFrom F h bytes room text
  written_from = look (lookup_of h.part h.macros) refl
    where
      pick : (g : Geometry) → lookup_of h.part h.macros ≡ Ok g → (n : ℕ) → first_refusal (write_checks F g h bytes room) ≡ n → (b : Bool) → eqb n 0 ≡ b
          → cond b (Written (text_in F g h bytes)) (Unwritten n) ≡ Written text
          → WrittenFrom F h bytes room text
      pick g q n d true z e = let t : text_in F g h bytes ≡ text = cc e in whole g q (sym t) (d ∙ eqb-true n 0 z)
      pick g q n d false z e = let t : false ≡ true = cc e in absurd (false≢true t)

      look : (l : Lookup) → lookup_of h.part h.macros ≡ l → write_for F l h bytes room ≡ Written text → WrittenFrom F h bytes room text
      look (Err n) q e = let t : false ≡ true = cc e in absurd (false≢true t)
      look (Ok g) q e = pick g q (first_refusal (write_checks F g h bytes room)) refl (eqb (first_refusal (write_checks F g h bytes room)) 0) refl e

-- a refusal is never 0
pub some_number : (F : Format) (h : Header) (bytes : List ℕ) (room n : ℕ) → writing_in F h bytes room ≡ Unwritten n → n ≡ 0 → ⊥
some_number F h bytes room n e z = look (lookup_of h.part h.macros) refl e
  where
    pick : (k : ℕ) (text : List ℕ) (b : Bool) → eqb k 0 ≡ b → cond b (Written text) (Unwritten k) ≡ Unwritten n → ⊥
    pick k text true q e = let t : false ≡ true = cc e in absurd (false≢true t)
    pick k text false q e = let t : k ≡ n = cc e in eqb-false k 0 q (t ∙ z)

    look : (l : Lookup) → lookup_of h.part h.macros ≡ l → write_for F l h bytes room ≡ Unwritten n → ⊥
    look (Err k) q e = let t : refusal_number k ≡ n = cc e in absurd (omega (arith, t, z, ap refusal_number (refused-eleven h.part h.macros k q)))
    look (Ok g) q e = pick (first_refusal (write_checks F g h bytes room)) (text_in F g h bytes) (eqb (first_refusal (write_checks F g h bytes room)) 0) refl e
