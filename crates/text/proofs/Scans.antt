-- How far a loop over the records of a text has come, and one turn of it, in every format: `rest` is what the records that are left come
-- to. Assumes nothing.
use mathlib.Core.Bool.{Bool, true, false, cond}
use mathlib.Core.List.{List, [], ◌∷◌, ◌++◌, append_assoc}
use mathlib.Core.Path.{◌≡◌, refl, sym, ap, ◌∙◌}
use Prim.Native.Nat.{ℕ, zero, suc, ◌+◌, ◌≤◌, ◌<◌}
use native.Mathlib.Omega.{arith}
use borrow.Author.Tests.{eqb-false, eq-eqb, ne_eqb}
use lib.Dec.{eqb, lit≤}
use lib.ListN.{length, get_or, take, drop, length-drop, drop_of_length-le}
use lib.Seq.{sets, length-take-le}
use Rattle.sections.proofs.Sections.{location_size, location-length}
use Rattle.sections.specs.Sections.{sections_of, no_section, location_bytes}
use Rattle.sections.specs.declared.Location.{Location}
use Rattle.sections.specs.declared.Section.{Section}
use Rattle.parts.specs.Sizes.{flash_size, lock_total, image_size}
use Rattle.parts.specs.declared.Geometry.{Geometry}
use Rattle.text.proofs.Laid.{Roomy, roomy-at}
use Rattle.text.proofs.Lending.{Stored, everywhere}
use Rattle.text.proofs.Placing.{prepend-append, placing-length, laid, laid-due-after, laid_in, stored-in, same-location}
use Rattle.text.specs.Formats.{Format, content_in}
use Rattle.text.specs.Placing.{Content, Refusal, Stream, prepend, due_after, rest_of, same_location}
use Rattle.text.specs.Scanning.{dues, ToFill, advanced_of, filled_in, Filled}
use Rattle.text.specs.Sized.{TableSizes}
use Rattle.text.specs.declared.Due.{Due}

module _ (g : Geometry) (z : TableSizes g) where
  -- the section at a place and those after it
  pub due-at : (k : ℕ) → dues (get_or (sections_of g) k no_section) (drop (k + 1) (sections_of g)) ≡ drop k (sections_of g)
  due-at zero = rw (ne_eqb (flash_size g) 0 (λ e. absurd (omega (arith, z.flash-some))))
  due-at (suc zero) = refl
  due-at (suc (suc zero)) = rw (ne_eqb (lock_total g) 0 (λ e. absurd (omega (arith, z.locks-some))))
  due-at (suc (suc (suc zero))) = refl
  due-at (suc (suc (suc (suc zero)))) = refl
  due-at (suc (suc (suc (suc (suc k))))) = sym (drop_of_length-le {A = Section} [] {i = k} (omega arith))

pub last-section : (g : Geometry) (k : ℕ) → 0 < (get_or (sections_of g) k no_section).size → k ≤ 4
last-section g zero h = omega arith
last-section g (suc zero) h = omega arith
last-section g (suc (suc zero)) h = omega arith
last-section g (suc (suc (suc zero))) h = omega arith
last-section g (suc (suc (suc (suc zero)))) h = omega arith
last-section g (suc (suc (suc (suc (suc k))))) h = absurd (omega arith)

-- what is due, and the sections after it
abbrev pub due_list : Geometry → Due → List Section
due_list g d = dues d.section (drop d.next (sections_of g))

-- the next section, or the rest of this one
abbrev chosen : Bool → Geometry → Due → ℕ → Due
chosen b g d count =
    cond b (record { section = get_or (sections_of g) d.next no_section; next = d.next + 1 })
    (record { section = rest_of count d.section; next = d.next })

dues-some : (s : Section) (ss : List Section) → 0 < s.size → dues s ss ≡ s ∷ ss
dues-some s ss h = rw (ne_eqb s.size 0 (λ e. absurd (omega arith)))

dues-none : (s : Section) (ss : List Section) → s.size ≡ 0 → dues s ss ≡ []
dues-none s ss h = rw (eq-eqb s.size 0 h)

module _ (g : Geometry) (z : TableSizes g) (d : Due) (count : ℕ) (some : 1 ≤ count) (le : count ≤ d.section.size) where
  due-list-after : due_list g (advanced_of g d count) ≡ due_after count d.section (drop d.next (sections_of g))
  unfolding due_after
  due-list-after = go (eqb count d.section.size) refl
    where
      go : (b : Bool) → eqb count d.section.size ≡ b
          → due_list g (chosen b g d count)
          ≡ cond b (drop d.next (sections_of g)) (rest_of count d.section ∷ drop d.next (sections_of g))
      go true e = due-at g z d.next
      go false e =
          let n = eqb-false count d.section.size e in
          dues-some (rest_of count d.section) (drop d.next (sections_of g)) (omega (arith, n))

  roomy-advance : Roomy g d.section → Roomy g (advanced_of g d count).section
  roomy-advance r = go (eqb count d.section.size)
    where
      go : (b : Bool) → Roomy g (chosen b g d count).section
      go true = roomy-at g z d.next
      go false = record { room = omega (arith, r.room); end = omega (arith, r.end); addresses = omega (arith, r.addresses) }

  next-advance : d.next ≤ 5 → 0 < (advanced_of g d count).section.size → (advanced_of g d count).next ≤ 5
  next-advance h = go (eqb count d.section.size)
    where
      go : (b : Bool)
          → 0 < (chosen b g d count).section.size
          → (chosen b g d count).next ≤ 5
      go true i = omega (arith, last-section g d.next i)
      go false i = h

-- what is lent to be filled, and how far it is: what it holds, and what is due
pub record Buffers : Type 0 where
  pub image : List ℕ
  pub header : List ℕ

pub record Filling : Type 0 where
  pub image : List ℕ
  pub header : List ℕ
  pub due : Due

abbrev pub buffers : (image header : List ℕ) → Buffers
buffers image header = record { image = image; header = header }

abbrev pub filling : (image header : List ℕ) → Due → Filling
filling image header due = record { image = image; header = header; due = due }

-- the place of a loop: the content is what the rest comes to after the bytes done, and those are laid where they belong
pub record Here (F : Format) (text : List ℕ) (g : Geometry) (rest : List Section → Content) (b₀ : Buffers) (b : Filling) : Type 0 where
  pub image-kept : length b.image ≡ length b₀.image
  pub header-kept : length b.header ≡ length b₀.header
  pub roomy : Roomy g b.due.section
  pub next_le : 0 < b.due.section.size → b.due.next ≤ 5
  pub done : List ℕ
  pub content : content_in F text (sections_of g) ≡ prepend done (rest (due_list g b.due))
  pub lies : (l : Location) (r : List ℕ)
      → laid l (sections_of g) (done ++ r) (location_bytes g b₀.image b₀.header l) ≡ laid l (due_list g b.due) r (location_bytes g b.image b.header l)

prepend-nil : (o : Content) → o ≡ prepend [] o
unfolding prepend
prepend-nil (Refusal n) = refl
prepend-nil (Stream bs) = refl

module _ (F : Format) (text : List ℕ) (g : Geometry) (image₀ header₀ : List ℕ) (z : ToFill g image₀ header₀) where
  pub here-start : (s : Section) → s ≡ get_or (sections_of g) 0 no_section
      → Here F text g (content_in F text) (buffers image₀ header₀) (filling image₀ header₀ (record { section = s; next = 1 }))
  here-start s e =
      let d : due_list g (record { section = s; next = 1 }) ≡ sections_of g = ap (λ (x : Section). dues x (drop 1 (sections_of g))) e ∙ due-at g z.table 0 in
      record {
        image-kept = refl;
        header-kept = refl;
        roomy = rw e (roomy-at g z.table 0);
        next_le = λ h. lit≤ tt;
        done = [];
        content = prepend-nil (content_in F text (sections_of g)) ∙ ap (λ (ds : List Section). prepend [] (content_in F text ds)) (sym d);
        lies = λ l r. ap (λ (ds : List Section). laid l ds r (location_bytes g image₀ header₀ l)) (sym d);
      }

  module _ {rest : List Section → Content} {image header : List ℕ} {due : Due} (h : Here F text g rest (buffers image₀ header₀) (filling image header due)) where
    -- the image has room for its flash
    pub here-flash : flash_size g ≤ length image
    unfolding image_size
    here-flash = omega (arith, h.image-kept, z.image-size)

    -- the rest is refused, or is at its end
    pub here-stop : (n : ℕ) → ((ss : List Section) → rest (dues due.section ss) ≡ Refusal n) → content_in F text (sections_of g) ≡ Refusal n
    unfolding prepend
    here-stop n u = h.content ∙ ap (prepend h.done) (u (drop due.next (sections_of g)))

    pub here-done : ((ss : List Section) → rest (dues due.section ss) ≡ Stream []) → due.section.size ≡ 0 → Filled F text g image header
    unfolding prepend laid
    here-done u none =
        let n = dues-none due.section (drop due.next (sections_of g)) none in
        let is = h.content ∙ ap (prepend h.done) (u (drop due.next (sections_of g))) in
        let all = placing-length (F.events_of text) (sections_of g) (h.done ++ []) is in
        record {
          stream = h.done ++ [];
          is = is;
          has = λ l.
              sym (h.lies l [] ∙ ap (λ (ds : List Section). laid l ds [] (location_bytes g image header l)) n)
              ∙ laid_in g (h.done ++ []) all l (location_bytes g image₀ header₀ l) (location-length g image₀ header₀ l z.image-size z.header-size);
        }

    -- a record without data
    pub here-moved : (rest' : List Section → Content) → ((ss : List Section) → rest ss ≡ rest' ss) → Here F text g rest' (buffers image₀ header₀) (filling image header due)
    here-moved rest' u = record {
      image-kept = h.image-kept;
      header-kept = h.header-kept;
      roomy = h.roomy;
      next_le = h.next_le;
      done = h.done;
      content = h.content ∙ ap (prepend h.done) (u (due_list g due));
      lies = h.lies;
    }

    -- a record whose data lie in the row from `from` on
    module _ (rest' : List Section → Content) (row : List ℕ) (from count : ℕ)
        (u : (ss : List Section) → rest (due.section ∷ ss) ≡ prepend (take count (drop from row)) (rest' (due_after count due.section ss)))
        (some : 1 ≤ count) (le : count ≤ due.section.size) (wide : from + count ≤ length row) where
      bs : List ℕ
      bs = take count (drop from row)

      size : length bs ≡ count
      unfolding bs
      size = length-take-le count (drop from row) (omega (arith, length-drop from row))

      full : due_list g due ≡ due.section ∷ drop due.next (sections_of g)
      full = dues-some due.section (drop due.next (sections_of g)) (omega arith)

      stream : content_in F text (sections_of g) ≡ prepend (h.done ++ bs) (rest' (due_list g (advanced_of g due count)))
      unfolding bs
      stream =
          h.content
          ∙ ap (λ (ds : List Section). prepend h.done (rest ds)) full
          ∙ ap (prepend h.done) (u (drop due.next (sections_of g)))
          ∙ prepend-append h.done (take count (drop from row)) (rest' (due_after count due.section (drop due.next (sections_of g))))
          ∙ ap (λ (ds : List Section). prepend (h.done ++ take count (drop from row)) (rest' ds)) (sym (due-list-after g z.table due count some le))

      -- the bytes of a location, before and after
      module _ (l : Location) (part part' : List ℕ) (is : part' ≡ filled_in due.section row from count l part) (long : length part ≡ location_size g l) where
        abbrev mine : Bool
        mine = same_location l due.section.location

        abbrev put : List ℕ
        put = cond mine (sets part due.section.offset bs) part

        fits : mine ≡ true → due.section.offset + count ≤ length part
        fits q = omega (arith, h.roomy.room, ap (location_size g) (same-location l due.section.location q), long, le)

        put_is : part' ≡ put
        unfolding bs
        put_is = is ∙ stored-in mine part due.section.offset row from count wide fits

        lies-on : (part₀ r : List ℕ)
            → laid l (sections_of g) (h.done ++ (bs ++ r)) part₀ ≡ laid l (due_list g due) (bs ++ r) part
            → laid l (sections_of g) ((h.done ++ bs) ++ r) part₀ ≡ laid l (due_list g (advanced_of g due count)) r part'
        lies-on part₀ r before =
            ap (λ (x : List ℕ). laid l (sections_of g) x part₀) (append_assoc h.done bs r)
            ∙ before
            ∙ ap (λ (ds : List Section). laid l ds (bs ++ r) part) full
            ∙ laid-due-after l due.section (drop due.next (sections_of g)) bs r part (omega (arith, size, le))
            ∙ ap (λ (n : ℕ). laid l (due_after n due.section (drop due.next (sections_of g))) r put) size
            ∙ ap (λ (ds : List Section). laid l ds r put) (sym (due-list-after g z.table due count some le))
            ∙ ap (laid l (due_list g (advanced_of g due count)) r) (sym put_is)

      pub here-store : (image' header' : List ℕ) (due' : Due) → length image' ≡ length image → length header' ≡ length header
          → Stored g due.section row from count image header image' header'
          → due' ≡ advanced_of g due count
          → Here F text g rest' (buffers image₀ header₀) (filling image' header' due')
      here-store image' header' due' ki kh is ed =
          rw ed
          (record {
            image-kept = ki ∙ h.image-kept;
            header-kept = kh ∙ h.header-kept;
            roomy = roomy-advance g z.table due count some le h.roomy;
            next_le = next-advance g z.table due count some le (h.next_le (omega arith));
            done = h.done ++ bs;
            content = stream;
            lies = λ l r.
                lies-on l (location_bytes g image header l) (location_bytes g image' header' l) (everywhere g due.section row from count image header image' header' is l)
                (location-length g image header l (h.image-kept ∙ z.image-size) (h.header-kept ∙ z.header-size))
                (location_bytes g image₀ header₀ l) r (h.lies l (bs ++ r));
          })
