-- From the scanned text to the answer and the buffer, in every format. Assumes nothing.
use mathlib.Core.Bool.{Bool, true, false, cond}
use mathlib.Core.List.{List, [], ◌++◌, append-nil}
use mathlib.Core.Path.{◌≡◌, refl, sym, ap, ◌∙◌}
use Prim.Native.Nat.{ℕ, ◌≤◌}
use native.Mathlib.Omega.{arith}
use borrow.Author.Tests.{le-leb}
use lib.Dec.{eqb}
use lib.ListN.{length, take, drop, take-append-drop}
use lib.Seq.{drop-length, length-take-le}
use Rattle.image.specs.Checks.{image_fault}
use Rattle.sections.specs.Sections.{sections_of, header_of}
use Rattle.image.specs.declared.Header.{Header}
use Rattle.sections.specs.declared.Location.TheVariants.{InFlash, InProtection, InHeader}
use Rattle.parts.specs.Parts.{lookup_of}
use Rattle.parts.specs.Sizes.{flash_size, image_size}
use Rattle.parts.specs.declared.Geometry.{Geometry}
use Rattle.text.proofs.Placing.{placing-length, image-length}
use Rattle.text.specs.Formats.{Format, content_in, reading_in}
use Rattle.text.specs.Placing.{Content, Refusal, Stream, gathered}
use Rattle.text.specs.Reading.{ReadAnswer, Reading, Untouched, Cleared, Taken, checked, image_in, judged, answer_of, buffer_after}
use Rattle.text.specs.Scanning.{Filled}
use Rattle.text.specs.Settling.{settled}
use Rattle.std.specs.Prelude.{Ok}

-- a reading that writes just `size` bytes
abbrev pub Writes : (size : ℕ) → Reading → Type 0
Writes size (Untouched n) = ⊥
Writes size (Cleared n k) = k ≡ size
Writes size (Taken h bytes) = length bytes ≡ size

drop-whole : (l : List ℕ) (n : ℕ) → length l ≡ n → drop n l ≡ []
drop-whole l n h = ap (λ (k : ℕ). drop k l) (sym h) ∙ drop-length l

-- what such a reading leaves of a list of that size does not depend on the list
same-buffer : (size : ℕ) (r : Reading) (x y : List ℕ) → Writes size r → length x ≡ size → length y ≡ size → buffer_after r x ≡ buffer_after r y
same-buffer size (Untouched n) x y w a b = absurd w
same-buffer size (Cleared n k) x y w a b = rw (drop-whole x k (a ∙ sym w), drop-whole y k (b ∙ sym w))
same-buffer size (Taken h bytes) x y w a b = rw (drop-whole x (length bytes) (a ∙ sym w), drop-whole y (length bytes) (b ∙ sym w))

-- and on a longer list it is its front that changes
pub front-buffer : (size : ℕ) (r : Reading) (b : List ℕ) → Writes size r → size ≤ length b → buffer_after r (take size b) ++ drop size b ≡ buffer_after r b
front-buffer size (Untouched n) b w h = absurd w
front-buffer size (Cleared n k) b w h =
    let e : drop k (take size b) ≡ [] = drop-whole (take size b) k (length-take-le size b h ∙ sym w) in
    rw (e, append-nil, w)
front-buffer size (Taken i bytes) b w h =
    let e : drop (length bytes) (take size b) ≡ [] = drop-whole (take size b) (length bytes) (length-take-le size b h ∙ sym w) in
    rw (e, append-nil, w)

module _ (F : Format) (g : Geometry) (part macros : ℕ) (text : List ℕ) where
  checked-writes : (h : Header) (bytes : List ℕ) → length bytes ≡ image_size g → Writes (image_size g) (checked g h bytes)
  checked-writes h bytes e = go (eqb (image_fault h bytes) 0)
    where
      go : (b : Bool) → Writes (image_size g) (cond b (Taken h bytes) (Cleared (image_fault h bytes) (image_size g)))
      go true = e
      go false = refl

  -- what the records come to writes the image's bytes, all of them
  pub judged-writes : Writes (image_size g) (judged g part macros (content_in F text (sections_of g)))
  judged-writes = go (content_in F text (sections_of g)) refl
    where
      go : (o : Content) → content_in F text (sections_of g) ≡ o → Writes (image_size g) (judged g part macros o)
      go (Refusal n) e = refl
      go (Stream s) e =
          checked-writes (header_of part macros (gathered InHeader (sections_of g) s)) (image_in g s)
          (image-length g s (placing-length (F.events_of text) (sections_of g) s e))

  module _ (image₀ : List ℕ) (size : length image₀ ≡ image_size g) where
    abbrev Answers : ReadAnswer → List ℕ → Type 0
    Answers r image =
        (r ≡ answer_of (judged g part macros (content_in F text (sections_of g)))) × (image ≡ buffer_after (judged g part macros (content_in F text (sections_of g))) image₀)

    settled_is : (header image : List ℕ) → length image ≡ image_size g → settled part macros header image ≡ checked g (header_of part macros header) image
    unfolding settled
    settled_is header image e = rw e

    pub whole : (image₁ header₁ image : List ℕ) (r : ReadAnswer) → Filled F text g image₁ header₁
        → length image₁ ≡ length image₀
        → r ≡ answer_of (settled part macros header₁ image₁)
        → image ≡ buffer_after (settled part macros header₁ image₁) image₁
        → Answers r image
    whole image₁ header₁ image r f k er ei =
        let a : image₁ ≡ image_in g f.stream =
        sym (take-append-drop (flash_size g) image₁)
        ∙ ap (λ (l : List ℕ). l ++ drop (flash_size g) image₁) (f.has InFlash)
        ∙ ap (λ (l : List ℕ). gathered InFlash (sections_of g) f.stream ++ l) (f.has InProtection) in
        let b : header₁ ≡ gathered InHeader (sections_of g) f.stream = f.has InHeader in
        let j : settled part macros header₁ image₁ ≡ judged g part macros (content_in F text (sections_of g)) =
        settled_is header₁ image₁ (k ∙ size)
        ∙ ap (λ (l : List ℕ). checked g (header_of part macros l) image₁) b
        ∙ ap (λ (l : List ℕ). checked g (header_of part macros (gathered InHeader (sections_of g) f.stream)) l) a
        ∙ ap (judged g part macros) (sym f.is) in (
          er ∙ ap answer_of j,
          ei
              ∙ ap (λ (x : Reading). buffer_after x image₁) j
              ∙ same-buffer (image_size g) (judged g part macros (content_in F text (sections_of g))) image₁ image₀ judged-writes (k ∙ size) size,
        )

-- the whole call, by its look-up
module _ (F : Format) (part macros : ℕ) (text buffer : List ℕ) where
  abbrev Gives : ReadAnswer → List ℕ → Type 0
  Gives r b = (r ≡ answer_of (reading_in F part macros text (length buffer))) × (b ≡ buffer_after (reading_in F part macros text (length buffer)) buffer)

  module _ (g : Geometry) (e : lookup_of part macros ≡ Ok g) where
    pub in-room : (r : ReadAnswer) (image : List ℕ) (size : ℕ) → size ≡ image_size g → size ≤ length buffer
        → r ≡ answer_of (judged g part macros (content_in F text (sections_of g)))
        → image ≡ buffer_after (judged g part macros (content_in F text (sections_of g))) (take size buffer)
        → Gives r (image ++ drop size buffer)
    in-room r image size z h er ei =
        let l = le-leb (image_size g) (length buffer) (omega arith) in
        let w : Writes size (judged g part macros (content_in F text (sections_of g))) = rw z (judged-writes F g part macros text) in (
          rw (e, l) er,
          rw (e, l)
              (ap (λ (x : List ℕ). x ++ drop size buffer) ei ∙ front-buffer size (judged g part macros (content_in F text (sections_of g))) buffer w h),
        )
