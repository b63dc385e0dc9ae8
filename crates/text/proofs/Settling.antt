-- Laws of the checks after reading. Assumes nothing.
use mathlib.Core.List.{List, ◌++◌, append-nil}
use mathlib.Core.Path.{◌≡◌, sym, ap, ◌∙◌}
use Prim.Native.Nat.{ℕ}
use native.Mathlib.Omega.{arith}
use borrow.Author.Tests.{ne_eqb}
use lib.ListN.{length, replicate}
use lib.Seq.{drop-length}
use Rattle.image.specs.Checks.{image_fault}
use Rattle.image.specs.Image.{no_header}
use Rattle.refusals.specs.Refusals.{refusal_number}
use Rattle.refusals.specs.declared.Refusal.{Refusal}
use Rattle.refusals.specs.declared.Refusal.TheVariants.{LineForm, RecordSum, RecordType, DataPlace, EndRecord, Version, ImageId, Level, FlashSum, CancellingRow, PartOrMacros, Size, ImpossibleSession, WrongAnswer, KillWithoutLeave}
use Rattle.sections.specs.Sections.{header_of}
use Rattle.image.specs.declared.Header.{Header}
use Rattle.text.specs.Reading.{Taken, Cleared, answer_of, buffer_after}
use Rattle.text.specs.Settling.{settled}

-- a refusal's number is not 0
pub some_number : (r : Refusal) → refusal_number r ≡ 0 → ⊥
some_number LineForm e = omega arith
some_number RecordSum e = omega arith
some_number RecordType e = omega arith
some_number DataPlace e = omega arith
some_number EndRecord e = omega arith
some_number Version e = omega arith
some_number ImageId e = omega arith
some_number Level e = omega arith
some_number FlashSum e = omega arith
some_number CancellingRow e = omega arith
some_number PartOrMacros e = omega arith
some_number Size e = omega arith
some_number ImpossibleSession e = omega arith
some_number WrongAnswer e = omega arith
some_number KillWithoutLeave e = omega arith

module _ (part macros : ℕ) (header image : List ℕ) where
  taken : image_fault (header_of part macros header) image ≡ 0 → settled part macros header image ≡ Taken (header_of part macros header) image
  unfolding settled
  taken e = rw e

  refused : (image_fault (header_of part macros header) image ≡ 0 → ⊥) → settled part macros header image ≡ Cleared (image_fault (header_of part macros header) image) (length image)
  unfolding settled
  refused h = rw (ne_eqb (image_fault (header_of part macros header) image) 0 h)

  module _ (h : Header) (n : ℕ) (eh : h ≡ header_of part macros header) (en : n ≡ image_fault h image) where
    fault : n ≡ image_fault (header_of part macros header) image
    fault = en ∙ ap (λ (x : Header). image_fault x image) eh

    pub settle-taken : n ≡ 0
        → (record { number = 0; header = h } ≡ answer_of (settled part macros header image)) × (image ≡ buffer_after (settled part macros header image) image)
    settle-taken z =
        let t = taken (sym fault ∙ z) in
        (rw (t, eh), rw t (sym (ap (λ (l : List ℕ). image ++ l) (drop-length image) ∙ append-nil image)))

    pub settle-refused : (n ≡ 0 → ⊥)
        → (record { number = n; header = no_header } ≡ answer_of (settled part macros header image))
        × (replicate (length image) 0 ≡ buffer_after (settled part macros header image) image)
    settle-refused z =
        let t = refused (λ e. z (fault ∙ e)) in
        (rw (t, ← fault), rw t (sym (ap (λ (l : List ℕ). replicate (length image) 0 ++ l) (drop-length image) ∙ append-nil (replicate (length image) 0))))
