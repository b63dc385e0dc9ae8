-- What a text that is taken was. Assumes nothing.
use mathlib.Core.Bool.{Bool, true, false, false≢true, cond}
use mathlib.Core.List.{List}
use mathlib.Core.Path.{◌≡◌, refl, sym, ap, ◌∙◌, subst}
use Prim.Native.Nat.{ℕ, ◌+◌}
use native.Mathlib.Omega.{arith}
use borrow.Author.Tests.{eqb-true}
use lib.Dec.{eqb, leb}
use lib.ListN.{length, take, drop}
use Rattle.image.proofs.Refusals.{all-passed}
use Rattle.image.specs.Checks.{image_id_fits, image_fault}
use Rattle.sections.specs.Sections.{sections_of, header_of}
use Rattle.image.specs.declared.Header.{Header}
use Rattle.sections.specs.declared.Location.TheVariants.{InHeader}
use Rattle.parts.specs.Parts.{Lookup, lookup_of}
use Rattle.parts.specs.Sizes.{image_size}
use Rattle.parts.specs.declared.Geometry.{Geometry}
use Rattle.text.proofs.Pieces.{data_of, placing-data}
use Rattle.text.proofs.Placing.{placing-length, metadata-at}
use Rattle.text.proofs.Entries.{id_in, id-tells, size-tells}
use Rattle.text.specs.Claims.{Takes}
use Rattle.text.specs.Formats.{Format, content_in}
use Rattle.text.specs.Placing.{Event, Content, Refusal, Stream, gathered, overall}
use Rattle.std.specs.Prelude.{Ok, Err}
use Rattle.text.specs.Reading.{Untouched, Cleared, Taken, image_in, judged, read_for}

pub record TakenFrom (F : Format) (part macros : ℕ) (text : List ℕ) (h : Header) (bytes : List ℕ) : Type 0 where
  pub g : Geometry
  pub found : lookup_of part macros ≡ Ok g
  pub stream : List ℕ
  pub content : content_in F text (sections_of g) ≡ Stream stream
  pub header : header_of part macros (gathered InHeader (sections_of g) stream) ≡ h
  pub image : image_in g stream ≡ bytes
  pub none : image_fault h bytes ≡ 0

module _ (F : Format) (part macros : ℕ) (text : List ℕ) (room : ℕ) (h : Header) (bytes : List ℕ) where
  from-stream : (g : Geometry) (found : lookup_of part macros ≡ Ok g) (s : List ℕ) → content_in F text (sections_of g) ≡ Stream s
      → judged g part macros (Stream s) ≡ Taken h bytes
      → TakenFrom F part macros text h bytes
  from-stream g found s o = go (eqb (image_fault i b) 0) refl
    where
      i : Header
      i = header_of part macros (gathered InHeader (sections_of g) s)

      b : List ℕ
      b = image_in g s

      go : (y : Bool) → eqb (image_fault i b) 0 ≡ y → cond y (Taken i b) (Cleared (image_fault i b) (image_size g)) ≡ Taken h bytes
          → TakenFrom F part macros text h bytes
      go true q e =
          let ei : i ≡ h = cc e in
          let eb : b ≡ bytes = cc e in
          record { g = g; found = found; stream = s; content = o; header = ei; image = eb; none = ap (λ (x : Header). image_fault x bytes) (sym ei) ∙ ap (image_fault i) (sym eb) ∙ eqb-true (image_fault i b) 0 q }
      go false q e = let t : false ≡ true = cc e in absurd (false≢true t)

  pub taken-from : Takes F part macros text room h bytes → TakenFrom F part macros text h bytes
  taken-from = look (lookup_of part macros) refl
    where
      come : (g : Geometry) → lookup_of part macros ≡ Ok g → (o : Content) → content_in F text (sections_of g) ≡ o → judged g part macros o ≡ Taken h bytes
          → TakenFrom F part macros text h bytes
      come g q (Refusal n) d e = let t : false ≡ true = cc e in absurd (false≢true t)
      come g q (Stream s) d e = from-stream g q s d e

      fit : (g : Geometry) → lookup_of part macros ≡ Ok g → (y : Bool)
          → cond y (judged g part macros (content_in F text (sections_of g))) (Untouched 12) ≡ Taken h bytes
          → TakenFrom F part macros text h bytes
      fit g q true e = come g q (content_in F text (sections_of g)) refl e
      fit g q false e = let t : false ≡ true = cc e in absurd (false≢true t)

      look : (l : Lookup) → lookup_of part macros ≡ l → read_for l part macros room (content_in F text) ≡ Taken h bytes → TakenFrom F part macros text h bytes
      look (Err n) q e = let t : false ≡ true = cc e in absurd (false≢true t)
      look (Ok g) q e = fit g q (leb (image_size g) room) e

-- ---- one text, one image: the bytes of the records are the same, and so many; the metadata before the last byte tell the part
-- (check 7), and the part and the size tell M

sizes-sum : (g : Geometry) → overall (λ s. s.size) (sections_of g) ≡ image_size g + 15
unfolding overall image_size
sizes-sum g = omega arith

module _ {F : Format} {part macros : ℕ} {text : List ℕ} {h : Header} {bytes : List ℕ} (a : TakenFrom F part macros text h bytes) where
  abbrev records : List Event
  records = F.events_of text

  pub same-part : part ≡ h.part
  same-part = ap (λ (x : Header). x.part) a.header

  pub same-macros : macros ≡ h.macros
  same-macros = ap (λ (x : Header). x.macros) a.header

  pub found-header : lookup_of h.part h.macros ≡ Ok a.g
  found-header = sym (ap (λ (x : ℕ). lookup_of x macros) same-part ∙ ap (lookup_of h.part) same-macros) ∙ a.found

  pub all-data : a.stream ≡ data_of records
  all-data = placing-data records (sections_of a.g) a.stream a.content

  pub each-byte : length a.stream ≡ overall (λ s. s.size) (sections_of a.g)
  each-byte = placing-length records (sections_of a.g) a.stream a.content

  counted : length a.stream ≡ image_size a.g + 15
  counted = each-byte ∙ sizes-sum a.g

  metadata-is : h.metadata ≡ take 12 (drop (image_size a.g + 2) a.stream)
  metadata-is = ap (λ (x : Header). x.metadata) (sym a.header) ∙ metadata-at a.g a.stream each-byte

  id-fits : image_id_fits a.g h ≡ true
  id-fits = (all-passed a.g h bytes found-header a.none).id

module _ {F : Format} {part macros part' macros' : ℕ} {text : List ℕ} {h h' : Header} {bytes bytes' : List ℕ}
    (a : TakenFrom F part macros text h bytes) (b : TakenFrom F part' macros' text h' bytes') where
  same-stream : a.stream ≡ b.stream
  same-stream = all-data a ∙ sym (all-data b)

  same_size : image_size a.g ≡ image_size b.g
  same_size = omega (arith, counted a, counted b, ap length same-stream)

  same-metadata : h.metadata ≡ h'.metadata
  same-metadata =
      metadata-is a
      ∙ ap (λ (n : ℕ). take 12 (drop (n + 2) a.stream)) same_size
      ∙ ap (λ (l : List ℕ). take 12 (drop (image_size b.g + 2) l)) same-stream
      ∙ sym (metadata-is b)

  -- read for one part it is one image
  of-one-part : part ≡ part' → (h ≡ h') × (bytes ≡ bytes')
  of-one-part p =
      let m : macros ≡ macros' = size-tells part macros part' macros' a.g b.g a.found b.found p same_size in
      let f : Ok a.g ≡ Ok b.g = sym a.found ∙ ap (λ (x : ℕ). lookup_of x macros) p ∙ ap (lookup_of part') m ∙ b.found in
      let g : a.g ≡ b.g = cc f in
      (sym a.header ∙ rw (p, m, g, same-stream) refl ∙ b.header, sym a.image ∙ rw (g, same-stream) refl ∙ b.image)

  -- and the ID tells the part
  pub one-taken : (h ≡ h') × (bytes ≡ bytes')
  one-taken =
      of-one-part
      (id-tells part macros part' macros' a.g b.g a.found b.found h.metadata (id-fits a) (subst (λ (m : List ℕ). id_in b.g m ≡ true) (sym same-metadata) (id-fits b)))

pub one-image : (F : Format) (part macros part' macros' : ℕ) (text : List ℕ) (room room' : ℕ) (h h' : Header) (bytes bytes' : List ℕ)
    → Takes F part macros text room h bytes
    → Takes F part' macros' text room' h' bytes'
    → (h ≡ h') × (bytes ≡ bytes')
one-image F part macros part' macros' text room room' h h' bytes bytes' t t' =
    one-taken (taken-from F part macros text room h bytes t) (taken-from F part' macros' text room' h' bytes' t')
