-- The claims on reading and writing hold of every format that has its laws. Assumes nothing.
use mathlib.Core.List.{List, ◌∷◌, ◌++◌}
use mathlib.Core.Path.{◌≡◌, refl, sym, ap, ◌∙◌, subst}
use Prim.Native.Nat.{ℕ, ◌≤◌}
use native.Mathlib.Nat.{le_refl}
use native.Mathlib.Omega.{arith}
use lib.ListN.{length, take, drop, length-take, length-drop}
use lib.Seq.{take-append_seam}
use Rattle.sections.specs.Sections.{sections_of, header_of}
use Rattle.image.specs.declared.Header.{Header}
use Rattle.sections.specs.declared.Location.TheVariants.{InHeader}
use Rattle.sections.specs.declared.Section.{Section}
use Rattle.parts.specs.Parts.{lookup_of}
use Rattle.parts.specs.Sizes.{image_size}
use Rattle.parts.specs.declared.Geometry.{Geometry}
use Rattle.pairs.proofs.Capitals.{AllBytes, all-bytes, bytes_take, bytes_drop}
use Rattle.text.proofs.Formats.{ReadingLaws, WritingLaws}
use Rattle.text.proofs.Pieces.{gathered-bytes, image-bytes}
use Rattle.text.proofs.Placing.{placing-length, placing-followed, image-length, sections-length}
use Rattle.text.proofs.RoundTrip as trip
use Rattle.text.proofs.Taken.{taken-from, one-image, same-part, same-macros, found-header, each-byte}
use Rattle.text.proofs.Written.{written_from, writes, some_number}
use Rattle.text.specs.Claims.{Takes, ReadingClaims, Typed, Writes, left_text, ReadAgain, WrittenAgain, WritingClaims}
use Rattle.text.specs.Formats.{Format, content_in, reading_in, text_in, length_in}
use Rattle.text.specs.Placing.{Refusal, Stream, placing, gathered, overall}
use Rattle.text.specs.Reading.{Reading, Taken, image_in, answer_of, buffer_after}
use Rattle.std.specs.Prelude.{Ok}
use Rattle.text.specs.Writing.{Writing, Unwritten, Written, writing_in, answer_to, write_in}

-- ---- reading

module _ (F : Format) (laws : ReadingLaws F) where
  followed : (text : List ℕ) (due : List Section) (stream : List ℕ) (c : ℕ) (more : List ℕ) → content_in F text due ≡ Stream stream
      → content_in F (text ++ (c ∷ more)) due ≡ Refusal 5
  followed text due stream c more e =
      let f = laws.follows text due stream c more e in
      ap (placing due) f.2 ∙ placing-followed (F.events_of text) due stream f.0 f.1 e

  pub reading-claims : ReadingClaims F
  reading-claims = record {
    one-image = one-image F;
    sound = λ part macros text room h bytes t. (taken-from F part macros text room h bytes t).none;
    each-once = λ text due stream e. placing-length (F.events_of text) due stream e;
    own-bytes = laws.own;
    followed = followed;
  }

-- ---- what a text that is taken gives has the types of a header and of bytes

module _ (part macros : ℕ) (g : Geometry) (stream : List ℕ) (all : AllBytes stream) (each : length stream ≡ overall (λ s. s.size) (sections_of g)) where
  typed : Typed (header_of part macros (gathered InHeader (sections_of g) stream)) (image_in g stream)
  typed =
      let said = gathered InHeader (sections_of g) stream in
      let a = gathered-bytes InHeader (sections_of g) stream all in
      let at = all-bytes said a in
      let l = sections-length g stream each in
      record {
        sum = omega (arith, at 0, at 1);
        metadata = simp (length-take, length-drop) (omega arith);
        metadata_bytes = all-bytes (take 12 (drop 2 said)) (bytes_take 12 (drop 2 said) (bytes_drop 2 said a));
        level = at 14;
        image_bytes = all-bytes (image_in g stream) (image-bytes g stream all);
      }

taken-typed : (F : Format) → ReadingLaws F → (part macros : ℕ) (text : List ℕ) (room : ℕ) (h : Header) (bytes : List ℕ) → Takes F part macros text room h bytes
    → Typed h bytes
taken-typed F laws part macros text room h bytes t =
    let a = taken-from F part macros text room h bytes t in
    let all : AllBytes a.stream = subst AllBytes (sym (laws.own text (sections_of a.g) a.stream a.content)) (laws.bytes text) in
    subst (Typed h) a.image (subst (λ (x : Header). Typed x (image_in a.g a.stream)) a.header (typed part macros a.g a.stream all (each-byte a)))

-- ---- writing

module _ (F : Format) (laws : WritingLaws F) where
  reads-back : (h : Header) (bytes : List ℕ) (room : ℕ) (text : List ℕ) (space : ℕ) → Typed h bytes → Writes F h bytes room text → length bytes ≤ space
      → Takes F h.part h.macros text space h bytes
  reads-back h bytes room text space t w fits =
      let f = written_from F h bytes room text w in
      ap (λ (x : List ℕ). reading_in F h.part h.macros x space) f.is ∙ trip.reads-back f.found t f.exact F laws space f.none fits

  -- the text that was left, where there was no refusal
  module _ (h : Header) (bytes buffer : List ℕ) where
    left-text : (w : Writing) → writing_in F h bytes (length buffer) ≡ w → (answer_to w).number ≡ 0
        → (text : List ℕ) × (Writes F h bytes (length buffer) text) × (left_text F h bytes buffer ≡ text)
    left-text (Unwritten n) e z = absurd (some_number F h bytes (length buffer) n e z)
    left-text (Written text) e z = (text, e, rw e (take-append_seam text (drop (length text) buffer)))

    calls : (space : List ℕ) → Typed h bytes → (write_in F h bytes buffer).number ≡ 0 → length bytes ≤ length space → ReadAgain F h bytes buffer space
    calls space t z fits =
        let l = left-text (writing_in F h bytes (length buffer)) refl z in
        let r : reading_in F h.part h.macros (left_text F h bytes buffer) (length space) ≡ Taken h bytes =
        ap (λ (x : List ℕ). reading_in F h.part h.macros x (length space)) l.2 ∙ reads-back h bytes (length buffer) l.0 (length space) t l.1 fits in
        record { answer = ap answer_of r; filled = ap (λ (x : Reading). buffer_after x space) r }

  different : (h h' : Header) (bytes bytes' : List ℕ) (room room' : ℕ) (text : List ℕ) → Typed h bytes → Typed h' bytes' → Writes F h bytes room text
      → Writes F h' bytes' room' text
      → (h ≡ h') × (bytes ≡ bytes')
  different h h' bytes bytes' room room' text t t' w w' =
      one-image F h.part h.macros h'.part h'.macros text (length bytes) (length bytes') h h' bytes bytes'
      (reads-back h bytes room text (length bytes) t w (le_refl (length bytes)))
      (reads-back h' bytes' room' text (length bytes') t' w' (le_refl (length bytes')))

  alike : (h : Header) (bytes : List ℕ) (room room' : ℕ) (text text' : List ℕ) → Writes F h bytes room text → Writes F h bytes room' text' → text ≡ text'
  alike h bytes room room' text text' w w' =
      let a = written_from F h bytes room text w in
      let b = written_from F h bytes room' text' w' in
      let f : Ok a.g ≡ Ok b.g = sym a.found ∙ b.found in
      let g : a.g ≡ b.g = cc f in
      a.is ∙ ap (λ (x : Geometry). text_in F x h bytes) g ∙ sym b.is

  module _ (from : ReadingLaws F) where
    again : (part macros : ℕ) (g : Geometry) (text : List ℕ) (space : ℕ) (h : Header) (bytes : List ℕ) (room : ℕ) → lookup_of part macros ≡ Ok g
        → Takes F part macros text space h bytes
        → length_in F g ≤ room
        → WrittenAgain F part macros h bytes room
    again part macros known text space h bytes room offered t fits =
        let a = taken-from F part macros text space h bytes t in
        let g = a.g in
        let ty = taken-typed F from part macros text space h bytes t in
        let exact : length bytes ≡ image_size g = ap length (sym a.image) ∙ image-length g a.stream (each-byte a) in
        let one : Ok known ≡ Ok g = sym offered ∙ a.found in
        let same : known ≡ g = cc one in
        let l : length_in F g ≤ room = subst (λ (x : Geometry). length_in F x ≤ room) same fits in
        record {
          form = text_in F g h bytes;
          writes = writes F h bytes room g (found-header a) exact l a.none;
          takes =
              ap (λ (x : ℕ). reading_in F x macros (text_in F g h bytes) (length bytes)) (same-part a)
              ∙ ap (λ (x : ℕ). reading_in F h.part x (text_in F g h bytes) (length bytes)) (same-macros a)
              ∙ trip.reads-back (found-header a) ty exact F laws (length bytes) a.none (le_refl (length bytes));
        }

    pub writing-claims : WritingClaims F
    writing-claims = record {
      length-known = λ g h bytes found t exact. laws.measures g h bytes (trip.sized found t exact);
      reads-back = reads-back;
      calls = calls;
      different = different;
      alike = alike;
      again = again;
    }
