-- Laws of what writing gives. Assumes nothing.
use mathlib.Core.List.{List}
use mathlib.Core.Path.{◌≡◌, sym, ap, ◌∙◌}
use Prim.Native.Nat.{ℕ, ◌+◌, ◌≤◌, ◌<◌}
use native.Mathlib.Omega.{arith}
use borrow.Author.Tests.{eq-eqb, ne_eqb, lt-leb}
use lib.ListN.{length}
use lib.Seq.{sets, sets-eq}
use Rattle.refusals.specs.declared.Refusal.{Refusal}
use Rattle.refusals.specs.Refusals.{refusal_number}
use Rattle.image.proofs.Refusals.{passed, failed}
use Rattle.image.specs.Checks.{image_fault}
use Rattle.image.specs.Refusals.{first_refusal}
use Rattle.image.specs.declared.Header.{Header}
use Rattle.parts.specs.Parts.{Lookup, lookup_of}
use Rattle.parts.specs.Sizes.{image_size}
use Rattle.parts.specs.declared.Geometry.{Geometry}
use Rattle.text.proofs.Written.{image-number, writes}
use Rattle.text.specs.Formats.{Format, text_in, length_in}
use Rattle.text.specs.Writing.{WriteAnswer, Writing, Unwritten, Written, write_checks, write_for, writing_in, answer_to, left_by, write_in, text_after_in}
use Rattle.std.specs.Prelude.{Ok, Err}

abbrev pub refused : ℕ → WriteAnswer
refused n = record { number = n; length = 0 }

module _ (F : Format) (h : Header) (bytes buffer : List ℕ) where
  -- the answer and the buffer are what the definition says
  abbrev pub Right : WriteAnswer → List ℕ → Type 0
  Right r text = (r ≡ write_in F h bytes buffer) × (text ≡ text_after_in F h bytes buffer)

  right : (w : Writing) → writing_in F h bytes (length buffer) ≡ w → Right (answer_to w) (left_by w buffer)
  right w e = (ap answer_to (sym e), ap (λ (x : Writing). left_by x buffer) (sym e))

  pub unknown : (k : Refusal) → lookup_of h.part h.macros ≡ Err k → Right (refused (refusal_number k)) buffer
  unknown k e = right (Unwritten (refusal_number k)) (ap (λ (l : Lookup). write_for F l h bytes (length buffer)) e)

  module _ (g : Geometry) (e : lookup_of h.part h.macros ≡ Ok g) where
    abbrev number : ℕ
    number = first_refusal (write_checks F g h bytes (length buffer))

    found : writing_in F h bytes (length buffer) ≡ write_for F (Ok g) h bytes (length buffer)
    found = ap (λ (l : Lookup). write_for F l h bytes (length buffer)) e

    declined : (n : ℕ) → number ≡ n → (n ≡ 0 → ⊥) → Right (refused n) buffer
    declined n is some = right (Unwritten n) (found ∙ rw (is, ne_eqb n 0 some))

    pub wrong_size : (length bytes ≡ image_size g → ⊥) → Right (refused 12) buffer
    wrong_size d = declined 12 (failed _ _ (ne_eqb (length bytes) (image_size g) d)) (λ z. absurd (omega arith))

    module _ (exact : length bytes ≡ image_size g) where
      pub no_room : length buffer < length_in F g → Right (refused 12) buffer
      no_room l = declined 12 (passed _ _ (eq-eqb (length bytes) (image_size g) exact) ∙ failed _ _ (lt-leb (length_in F g) (length buffer) l)) (λ z. absurd (omega arith))

      module _ (room : length_in F g ≤ length buffer) where
        pub faulty : (n : ℕ) → n ≡ image_fault h bytes → (n ≡ 0 → ⊥) → Right (refused n) buffer
        faulty n is some = declined n (image-number F h bytes (length buffer) g e exact room ∙ sym is) some

        pub done : (n : ℕ) (text : List ℕ) → image_fault h bytes ≡ 0 → n ≡ length (text_in F g h bytes) → length (text_in F g h bytes) ≤ length buffer
            → text ≡ sets buffer 0 (text_in F g h bytes)
            → Right (record { number = 0; length = n }) text
        done n text none size fits put =
            let w = right (Written (text_in F g h bytes)) (writes F h bytes (length buffer) g e exact room none) in
            let n₀ : 0 + length (text_in F g h bytes) ≡ length (text_in F g h bytes) = omega arith in
            (ap (λ (k : ℕ). record { number = 0; length = k }) size ∙ w.0, put ∙ (rw n₀ at (sets-eq (text_in F g h bytes) buffer 0 (omega arith))) ∙ w.1)
