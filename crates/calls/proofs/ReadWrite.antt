-- The claims on reading and writing. Assumes nothing.
use mathlib.Core.Bool.{Bool, true, false, cond}
use mathlib.Core.List.{List}
use mathlib.Core.Path.{◌≡◌, refl, sym, ap, subst, ◌∙◌}
use Prim.Native.Nat.{ℕ, ◌≤◌, ◌<◌}
use native.Mathlib.Omega.{arith}
use borrow.Author.Tests.{eqb-true, leb-true, leb-false, le-leb, lt-leb}
use lib.Dec.{leb, eqb}
use lib.ListN.{length, get_or, take, drop, replicate, length-drop}
use lib.Seq.{length-take-le}
use Rattle.decoding.proofs.Backs.{header-length}
use Rattle.calls.proofs.Called.{read_under, read-room, write-partless, write_under, write-room}
use Rattle.encoding.proofs.Putting.{put-kept, put-found}
use Rattle.calls.specs.Calls.{CallResult, is_found, in_table, read_refusal, write_refusal, refused_or, after_read_call, after_write_call}
use Rattle.encoding.specs.Buffers.{put_into, Kept}
use Rattle.encoding.specs.Values.{Twelve}
use Rattle.calls.specs.Claims.{Zeroed, ReadClaims, WriteClaims}
use Rattle.encoding.specs.Headers.{header_bytes, header_in}
use Rattle.hex_format.specs.HexFormat.{intel_hex}
use Rattle.hex_format.specs.Texts.{hex_reading}
use Rattle.hex_format.specs.Written.{text_length}
use Rattle.hex_writer.specs.Writing.{writing}
use Rattle.image.specs.Refusals.{first_refusal}
use Rattle.sections.specs.Sections.{sections_of, header_of}
use Rattle.lent.specs.Words.{low_first}
use Rattle.image.specs.declared.Header.{Header}
use Rattle.sections.specs.declared.Location.TheVariants.{InHeader}
use Rattle.parts.specs.Parts.{Lookup, lookup_of}
use Rattle.parts.specs.Sizes.{image_size}
use Rattle.parts.specs.declared.Geometry.{Geometry}
use Rattle.text.proofs.Placing.{sections-length}
use Rattle.text.proofs.Taken.{taken-from, each-byte}
use Rattle.text.specs.Placing.{gathered}
use Rattle.text.specs.Reading.{Reading, Untouched, Cleared, Taken, answer_of}
use Rattle.std.specs.Prelude.{Ok}
use Rattle.text.specs.Writing.{Writing, Unwritten, Written, write_for, answer_to, left_by}

-- ---- what is read has twelve metadata bytes

twelve-of : (part macros : ℕ) (bs : List ℕ) → length bs ≡ 15 → Twelve (header_of part macros bs)
twelve-of part macros bs n = length-take-le 12 (drop 2 bs) (omega (arith, length-drop 2 bs))

read-twelve : (part macros : ℕ) (text : List ℕ) (room : ℕ) → Twelve (answer_of (hex_reading part macros text room)).header
read-twelve part macros text room = by (hex_reading part macros text room) refl
  where
    by : (r : Reading) → hex_reading part macros text room ≡ r → Twelve (answer_of r).header
    by (Untouched n) e = refl
    by (Cleared n size) e = refl
    by (Taken h bytes) e =
        let t = taken-from intel_hex part macros text room h bytes e in
        let s = gathered InHeader (sections_of t.g) t.stream in
        let n = sections-length t.g t.stream (each-byte t) in
        ap (λ (x : Header). length x.metadata) (sym t.header) ∙ twelve-of part macros s n

over : (m k : ℕ) → ¬ (m ≤ k) → k < m
over m k h = omega arith

-- ---- reading

module _ (part macros : ℕ) (text image header : List ℕ) where
  read-header : Twelve (answer_of (refused_or (read_refusal part macros header) Untouched (hex_reading part macros text (length image)))).header
  read-header = by (eqb (read_refusal part macros header) 0)
    where
      by : (t : Bool) → Twelve (answer_of (cond t (hex_reading part macros text (length image)) (Untouched (read_refusal part macros header)))).header
      by true = read-twelve part macros text (length image)
      by false = refl

  read_kept : Kept 17 header (after_read_call part macros text image header).second
  unfolding after_read_call
  read_kept =
      let h = (answer_of (refused_or (read_refusal part macros header) Untouched (hex_reading part macros text (length image)))).header in
      put-kept 17 header (header_bytes h) (header-length h read-header)

  -- a refused reading has a header of zeros
  zero-header : (r : Reading) → ¬ ((answer_of r).number ≡ 0) → header_bytes (answer_of r).header ≡ replicate 17 0
  unfolding header_bytes
  zero-header (Untouched n) z = refl
  zero-header (Cleared n size) z = refl
  zero-header (Taken h bytes) z = absurd (z refl)

  header-found : 17 ≤ length header → take 17 (put_into header (header_bytes (answer_of (hex_reading part macros text (length image))).header))
      ≡ header_bytes (answer_of (hex_reading part macros text (length image))).header
  header-found n =
      let h = (answer_of (hex_reading part macros text (length image))).header in
      put-found 17 header (header_bytes h) (header-length h (read-twelve part macros text (length image))) n

  read-zeroed : Zeroed (after_read_call part macros text image header).number 17 header (after_read_call part macros text image header).second
  read-zeroed z n =
      subst (λ (x : CallResult). ¬ (x.number ≡ 0) → take 17 x.second ≡ replicate 17 0) (sym (read-room part macros text image header n))
      (λ y. header-found n ∙ zero-header (hex_reading part macros text (length image)) y) z

  -- 11, then 12, and the image is not written
  abbrev Untouched-with : ℕ → CallResult → Type 0
  Untouched-with k x = (x.number ≡ k) × (x.first ≡ image)

  read-eleven : in_table part macros ≡ false → Untouched-with 11 (after_read_call part macros text image header)
  unfolding after_read_call first_refusal
  read-eleven e = rw e (refl, refl)

  read-lacks : (g : Geometry) → lookup_of part macros ≡ Ok g → ¬ ((17 ≤ length header) × (image_size g ≤ length image))
      → Untouched-with 12 (after_read_call part macros text image header)
  read-lacks g e lacks = by (leb 17 (length header)) refl
    where
      by : (t : Bool) → leb 17 (length header) ≡ t → Untouched-with 12 (after_read_call part macros text image header)
      by true f =
          let n = leb-true 17 (length header) f in
          let under = lt-leb (image_size g) (length image) (over (image_size g) (length image) (λ k. lacks (n, k))) in
          subst (Untouched-with 12) (sym (read-room part macros text image header n)) (rw (e, under) (refl, refl))
      by false f =
          let none = read_under part macros text image header (leb-false 17 (length header) f) in
          subst (Untouched-with 12) (sym none) (rw e (refl, refl))

  pub read-claims : ReadClaims part macros text image header (after_read_call part macros text image header)
  read-claims = record {
    eleven = read-eleven;
    twelve = read-lacks;
    zeroed = read-zeroed;
    kept = read_kept;
    core = λ n. let e = read-room part macros text image header n in
        (ap (λ (x : CallResult). x.number) e, ap (λ (x : CallResult). x.first) e, ap (λ (x : CallResult). take 17 x.second) e ∙ header-found n);
  }

-- ---- writing

module _ (header image text length_bytes : List ℕ) where
  write-eleven : 17 ≤ length header → in_table (get_or header 0 0) (get_or header 1 0) ≡ false → (after_write_call header image text length_bytes).number ≡ 11
  unfolding after_write_call first_refusal header_in
  write-eleven n e = rw (le-leb 17 (length header) n, e)

  -- the core's own 12
  other-sizes : (g : Geometry) (h : Header) → ¬ ((length image ≡ image_size g) × (text_length g ≤ length text))
      → (answer_to (write_for intel_hex (Ok g) h image (length text))).number ≡ 12
  unfolding first_refusal
  other-sizes g h lacks = by (eqb (length image) (image_size g)) refl
    where
      by : (t : Bool) → eqb (length image) (image_size g) ≡ t → (answer_to (write_for intel_hex (Ok g) h image (length text))).number ≡ 12
      by true e =
          let f = lt-leb (text_length g) (length text) (over (text_length g) (length text) (λ k. lacks (eqb-true (length image) (image_size g) e, k))) in
          rw (e, f)
      by false e = rw e

  write-lacks : (g : Geometry) → 17 ≤ length header → lookup_of (get_or header 0 0) (get_or header 1 0) ≡ Ok g
      → ¬ ((8 ≤ length length_bytes) × (length image ≡ image_size g) × (text_length g ≤ length text))
      → (after_write_call header image text length_bytes).number ≡ 12
  unfolding header_in
  write-lacks g n e lacks = by (leb 8 (length length_bytes)) refl
    where
      by : (t : Bool) → leb 8 (length length_bytes) ≡ t → (after_write_call header image text length_bytes).number ≡ 12
      by true f =
          let room = leb-true 8 (length length_bytes) f in
          ap (λ (x : CallResult). x.number) (write-room header image text length_bytes n room)
          ∙ ap (λ (l : Lookup). (answer_to (write_for intel_hex l (header_in header) image (length text))).number) e
          ∙ other-sizes g (header_in header) (λ k. lacks (room, k.0, k.1))
      by false f = ap (λ (x : CallResult). x.number) (write_under header image text length_bytes n (leb-false 8 (length length_bytes) f)) ∙ ap (λ (l : Lookup). cond (is_found l) 12 11) e

  -- a refused writing leaves the text and gives the length 0
  left_alone : (w : Writing) → ¬ ((answer_to w).number ≡ 0) → (left_by w text ≡ text) × (low_first 8 (answer_to w).length ≡ replicate 8 0)
  left_alone (Unwritten n) z = (refl, refl)
  left_alone (Written t) z = absurd (z refl)

  unwritten : ¬ ((after_write_call header image text length_bytes).number ≡ 0) → (after_write_call header image text length_bytes).first ≡ text
  unfolding after_write_call
  unwritten z = (left_alone (refused_or (write_refusal header length_bytes) Unwritten (writing (header_in header) image (length text))) z).0

  write-zeroed : Zeroed (after_write_call header image text length_bytes).number 8 length_bytes (after_write_call header image text length_bytes).second
  unfolding after_write_call
  write-zeroed z n =
      let w = refused_or (write_refusal header length_bytes) Unwritten (writing (header_in header) image (length text)) in
      put-found 8 length_bytes (low_first 8 (answer_to w).length) refl n ∙ (left_alone w z).1

  write_kept : Kept 8 length_bytes (after_write_call header image text length_bytes).second
  unfolding after_write_call
  write_kept = put-kept 8 length_bytes _ refl

  pub write-claims : WriteClaims header image text length_bytes (after_write_call header image text length_bytes)
  write-claims = record {
    partless = λ n. ap (λ (x : CallResult). x.number) (write-partless header image text length_bytes n);
    eleven = write-eleven;
    twelve = write-lacks;
    unwritten = unwritten;
    zeroed = write-zeroed;
    kept = write_kept;
    core = λ n m. let e = write-room header image text length_bytes n m in
        (ap (λ (x : CallResult). x.number) e, ap (λ (x : CallResult). x.first) e, ap (λ (x : CallResult). take 8 x.second) e ∙ put-found 8 length_bytes _ refl m);
  }
