-- Laws of the sections that are due and of the bytes that go into them. Assumes nothing.
use mathlib.Core.Bool.{Bool, true, false, false≢true, ◌&&◌, cond}
use mathlib.Core.List.{List, [], ◌∷◌, ◌++◌, append-nil, append_assoc}
use mathlib.Core.Path.{◌≡◌, refl, sym, ap, ◌∙◌}
use Prim.Native.Nat.{ℕ, ◌+◌, ◌-◌, ◌≤◌}
use native.Mathlib.Nat.{le_refl}
use native.Mathlib.Omega.{arith}
use borrow.Author.Tests.{eqb-true, leb-true}
use lib.Dec.{eqb, leb}
use lib.ListN.{length, take, drop, replicate, length-append, length-drop}
use lib.Seq.{sets, sets-eq, length-sets, take_at, drop_at, drop-drop, take-append-add, drop-append-add, length-take-le}
use Rattle.sections.proofs.Sections.{location_size}
use Rattle.sections.specs.Sections.{sections_of}
use Rattle.sections.specs.declared.Location.{Location}
use Rattle.sections.specs.declared.Location.TheVariants.{InFlash, InProtection, InHeader}
use Rattle.sections.specs.declared.Section.{Section}
use Rattle.parts.specs.Sizes.{flash_size, lock_total, image_size}
use Rattle.parts.specs.declared.Geometry.{Geometry}
use Rattle.text.specs.Placing.{Event, Bad, Other, Data, End, Content, Refusal, Stream, prepend, rest_of, due_after, placing, same_location, gathered, overall}
use Rattle.text.specs.Reading.{image_in}
use Rattle.storing.specs.Storing.{stored_at}
use Rattle.lent.proofs.Lists.{sets-past, sets-append, sets-whole}
use Rattle.storing.proofs.Storing.{stored}

-- Taken: each byte of each section once.

pub no-content : {A : Type 0} (n : ℕ) (g : List ℕ) → Refusal n ≡ Stream g → A
no-content n g e = let t : false ≡ true = cc e in absurd (false≢true t)

pub prepend-stream : (bs g : List ℕ) (o : Content) → prepend bs o ≡ Stream g → (r : List ℕ) × (o ≡ Stream r) × (g ≡ bs ++ r)
unfolding prepend
prepend-stream bs g (Refusal n) e = no-content n g e
prepend-stream bs g (Stream r) e = (r, refl, cc e)

abbrev pub size_of : Section → ℕ
size_of s = s.size

due-after-size : (n : ℕ) (s : Section) (ss : List Section) → n ≤ s.size → n + overall size_of (due_after n s ss) ≡ s.size + overall size_of ss
unfolding due_after overall
due-after-size n s ss h = go (eqb n s.size) refl
  where
    go : (b : Bool) → eqb n s.size ≡ b → n + overall size_of (cond b ss (rest_of n s ∷ ss)) ≡ s.size + overall size_of ss
    go true q = omega (arith, eqb-true n s.size q)
    go false q = omega arith

-- 'each byte once': a text that is taken has all bytes of the sections
pub placing-length : (es : List Event) (ds : List Section) (g : List ℕ) → placing ds es ≡ Stream g → length g ≡ overall size_of ds
unfolding placing overall
placing-length [] ds g e = no-content 5 g e
placing-length (Bad n ∷ es) ds g e = no-content n g e
placing-length (Other ∷ es) ds g e = placing-length es ds g e
placing-length (Data a bs ∷ es) [] g e = no-content 4 g e
placing-length (Data a bs ∷ es) (d ∷ ds) g e =
    go (eqb a d.address) (leb (length bs) d.size) refl e (λ r q. placing-length es (due_after (length bs) d ds) r q)
  where
    go : (x y : Bool) → leb (length bs) d.size ≡ y → cond (x && y) (prepend bs (placing (due_after (length bs) d ds) es)) (Refusal 4) ≡ Stream g
        → ((r : List ℕ) → placing (due_after (length bs) d ds) es ≡ Stream r → length r ≡ overall size_of (due_after (length bs) d ds))
        → length g ≡ d.size + overall size_of ds
    go true true q e ih =
        let r = prepend-stream bs g (placing (due_after (length bs) d ds) es) e in
        let i = ih r.0 r.1 in
        omega (arith, ap length r.2, length-append bs r.0, i, due-after-size (length bs) d ds (leb-true (length bs) d.size q))
    go true false q e ih = no-content 4 g e
    go false y q e ih = no-content 4 g e
placing-length (End ∷ []) [] g e = let z : [] ≡ g = cc e in omega (arith, ap length z)
placing-length (End ∷ x ∷ es) [] g e = no-content 5 g e
placing-length (End ∷ es) (d ∷ ds) g e = no-content 5 g e

pub prepend-append : (a b : List ℕ) (o : Content) → prepend a (prepend b o) ≡ prepend (a ++ b) o
unfolding prepend
prepend-append a b (Refusal n) = refl
prepend-append a b (Stream g) = ap Stream (sym (append_assoc a b g))

-- Bytes that go into the section that is due.

-- the bytes of a location after all bytes of the sections went into it
unfoldable pub laid : Location → List Section → (stream part : List ℕ) → List ℕ
laid l [] stream part = part
laid l (s ∷ ss) stream part =
    laid l ss (drop s.size stream) (cond (same_location l s.location) (sets part s.offset (take s.size stream)) part)

module _ (l : Location) (s : Section) (ss : List Section) (bs r part : List ℕ) (h_le : length bs ≤ s.size) where
  abbrev put : List ℕ
  put = cond (same_location l s.location) (sets part s.offset bs) part

  whole : length bs ≡ s.size → laid l (s ∷ ss) (bs ++ r) part ≡ laid l ss r put
  unfolding laid
  whole e = rw (take_at bs r s.size e, drop_at bs r s.size e)

  twice : (b : Bool) (n m : ℕ) (ws : List ℕ) → n ≡ length bs
      → cond b (sets part m (bs ++ ws)) part ≡ cond b (sets (cond b (sets part m bs) part) (m + n) ws) (cond b (sets part m bs) part)
  twice true n m ws e = sets-append part m bs ws ∙ ap (λ (k : ℕ). sets (sets part m bs) (m + k) ws) (sym e)
  twice false n m ws e = refl

  rest : laid l (s ∷ ss) (bs ++ r) part ≡ laid l (rest_of (length bs) s ∷ ss) r put
  unfolding laid
  rest =
      let e : s.size ≡ length bs + (s.size - length bs) = omega arith in
      ap (λ (k : ℕ). laid l ss (drop k (bs ++ r)) (cond (same_location l s.location) (sets part s.offset (take k (bs ++ r))) part)) e
      ∙ ap (λ (x : List ℕ). laid l ss x (cond (same_location l s.location) (sets part s.offset (take (length bs + (s.size - length bs)) (bs ++ r))) part)) (drop-append-add bs r (s.size - length bs))
      ∙ ap (λ (x : List ℕ). laid l ss (drop (s.size - length bs) r) (cond (same_location l s.location) (sets part s.offset x) part)) (take-append-add bs r (s.size - length bs))
      ∙ ap (laid l ss (drop (s.size - length bs) r)) (twice (same_location l s.location) (length bs) s.offset (take (s.size - length bs) r) refl)

  pub laid-due-after : laid l (s ∷ ss) (bs ++ r) part ≡ laid l (due_after (length bs) s ss) r put
  unfolding due_after
  laid-due-after = go (eqb (length bs) s.size) refl
    where
      go : (b : Bool) → eqb (length bs) s.size ≡ b → laid l (s ∷ ss) (bs ++ r) part ≡ laid l (cond b ss (rest_of (length bs) s ∷ ss)) r put
      go true q = whole (eqb-true (length bs) s.size q)
      go false q = rest

-- a store that has room
pub stored-in : (b : Bool) (part : List ℕ) (to : ℕ) (row : List ℕ) (from n : ℕ) → from + n ≤ length row → (b ≡ true → to + n ≤ length part)
    → cond b (stored_at part to row from n) part ≡ cond b (sets part to (take n (drop from row))) part
stored-in true part to row from n h i = sym (stored part to row from n h (i refl))
stored-in false part to row from n h i = refl

pub same-location : (l m : Location) → same_location l m ≡ true → l ≡ m
same-location InFlash InFlash e = refl
same-location InFlash InProtection e = absurd (false≢true e)
same-location InFlash InHeader e = absurd (false≢true e)
same-location InProtection InFlash e = absurd (false≢true e)
same-location InProtection InProtection e = refl
same-location InProtection InHeader e = absurd (false≢true e)
same-location InHeader InFlash e = absurd (false≢true e)
same-location InHeader InProtection e = absurd (false≢true e)
same-location InHeader InHeader e = refl

-- The five sections laid into the three locations are the bytes gathered for each.

sets-front : (d vs : List ℕ) → length vs ≤ length d → sets d 0 vs ≡ vs ++ drop (length vs) d
sets-front d vs h =
    let e : 0 + length vs ≡ length vs = omega arith in
    sets-eq vs d 0 (omega arith) ∙ ap (λ (k : ℕ). vs ++ drop k d) e

-- a store right behind the first part of a list
sets-second : (a b vs : List ℕ) (n : ℕ) → length a ≡ n → sets (a ++ b) n vs ≡ a ++ sets b 0 vs
sets-second a b vs n h =
    let e : n - n ≡ 0 = omega arith in
    sets-past a b n n vs h (le_refl n) ∙ ap (λ (k : ℕ). a ++ sets b k vs) e

module _ (g : Geometry) (stream : List ℕ) (all : length stream ≡ overall size_of (sections_of g)) where
  r₁ : List ℕ
  r₁ = drop (flash_size g) stream

  r₂ : List ℕ
  r₂ = drop 2 r₁

  r₃ : List ℕ
  r₃ = drop (lock_total g) r₂

  r₄ : List ℕ
  r₄ = drop 12 r₃

  sizes : (length r₁ ≡ 2 + lock_total g + 12 + 1) × (length r₂ ≡ lock_total g + 12 + 1) × (length r₃ ≡ 13) × (length r₄ ≡ 1) × (flash_size g ≤ length stream)
  unfolding r₁ r₂ r₃ r₄ overall
  sizes =
      let a = length-drop (flash_size g) stream in
      let b = length-drop 2 r₁ in
      let c = length-drop (lock_total g) r₂ in
      let d = length-drop 12 r₃ in
      (omega arith, omega arith, omega arith, omega arith, omega arith)

  laid-header : (header : List ℕ) → length header ≡ 15 → laid InHeader (sections_of g) stream header ≡ gathered InHeader (sections_of g) stream
  unfolding laid gathered r₁ r₂ r₃ r₄
  laid-header header h =
      let z = sizes in
      let a : length (take 2 r₁) ≡ 2 = length-take-le 2 r₁ (omega (arith, z.0)) in
      let b : length (take 12 r₃) ≡ 12 = length-take-le 12 r₃ (omega (arith, z.2)) in
      let c : length (take 1 r₄) ≡ 1 = length-take-le 1 r₄ (omega (arith, z.3)) in
      let d₁ = drop (length (take 2 r₁)) header in
      let d₂ = drop (length (take 12 r₃)) d₁ in
      let e₁ : length d₁ ≡ 13 = length-drop (length (take 2 r₁)) header ∙ omega arith in
      let e₂ : length d₂ ≡ 1 = length-drop (length (take 12 r₃)) d₁ ∙ omega arith in
      let two : 14 - 2 ≡ 12 = refl in
      ap (λ (l : List ℕ). sets (sets l 2 (take 12 r₃)) 14 (take 1 r₄)) (sets-front header (take 2 r₁) (omega arith))
      ∙ ap (λ (l : List ℕ). sets l 14 (take 1 r₄)) (sets-second (take 2 r₁) d₁ (take 12 r₃) 2 a)
      ∙ sets-past (take 2 r₁) (sets d₁ 0 (take 12 r₃)) 2 14 (take 1 r₄) a (omega arith)
      ∙ ap (λ (l : List ℕ). take 2 r₁ ++ l)
      (ap (λ (l : List ℕ). sets l 12 (take 1 r₄)) (sets-front d₁ (take 12 r₃) (omega arith))
      ∙ sets-second (take 12 r₃) d₂ (take 1 r₄) 12 b
      ∙ ap (λ (l : List ℕ). take 12 r₃ ++ l) (sets-whole d₂ (take 1 r₄) (omega arith) ∙ sym (append-nil (take 1 r₄))))

  -- a section that is its whole location
  flash-length : length (take (flash_size g) stream) ≡ flash_size g
  flash-length = let z = sizes in length-take-le (flash_size g) stream z.4

  protection-length : length (take (lock_total g) r₂) ≡ lock_total g
  protection-length = let z = sizes in length-take-le (lock_total g) r₂ (omega (arith, z.1))

  pub laid_in : (l : Location) (part : List ℕ) → length part ≡ location_size g l → laid l (sections_of g) stream part ≡ gathered l (sections_of g) stream
  unfolding laid gathered r₁ r₂
  laid_in InFlash part h =
      sets-whole part (take (flash_size g) stream) (flash-length ∙ sym h) ∙ sym (append-nil (take (flash_size g) stream))
  laid_in InProtection part h =
      sets-whole part (take (lock_total g) r₂) (protection-length ∙ sym h) ∙ sym (append-nil (take (lock_total g) r₂))
  laid_in InHeader part h = laid-header part h

  pub image-length : length (image_in g stream) ≡ image_size g
  unfolding gathered image_size r₁ r₂
  image-length = let a = flash-length in let b = protection-length in simp (length-append, append-nil) (omega arith)

  pub sections-length : length (gathered InHeader (sections_of g) stream) ≡ 15
  unfolding laid
  sections-length = ap length (sym (laid_in InHeader (replicate 15 0) refl)) ∙ simp length-sets

  -- the metadata are the 12 bytes before the last, whatever the geometry
  pub metadata-at : take 12 (drop 2 (gathered InHeader (sections_of g) stream)) ≡ take 12 (drop (image_size g + 2) stream)
  unfolding gathered image_size r₁ r₂ r₃ r₄
  metadata-at =
      let z = sizes in
      let e : flash_size g + 2 + lock_total g ≡ flash_size g + lock_total g + 2 = omega arith in
      ap (take 12) (drop_at (take 2 r₁) (take 12 r₃ ++ (take 1 r₄ ++ [])) 2 (length-take-le 2 r₁ (omega (arith, z.0))))
      ∙ take_at (take 12 r₃) (take 1 r₄ ++ []) 12 (length-take-le 12 r₃ (omega (arith, z.2)))
      ∙ ap (λ (l : List ℕ). take 12 (drop (lock_total g) l)) (drop-drop 2 (flash_size g) stream)
      ∙ ap (take 12) (drop-drop (lock_total g) (flash_size g + 2) stream)
      ∙ ap (λ (k : ℕ). take 12 (drop k stream)) e

-- Whatever follows records that are in place is 5.
pub placing-followed : (es : List Event) (ds : List Section) (g : List ℕ) (f : Event) (fs : List Event) → placing ds es ≡ Stream g → placing ds (es ++ (f ∷ fs)) ≡ Refusal 5
unfolding placing prepend
placing-followed [] ds g f fs e = no-content 5 g e
placing-followed (Bad n ∷ es) ds g f fs e = no-content n g e
placing-followed (Other ∷ es) ds g f fs e = placing-followed es ds g f fs e
placing-followed (Data a bs ∷ es) [] g f fs e = no-content 4 g e
placing-followed (Data a bs ∷ es) (d ∷ ds) g f fs e =
    go (eqb a d.address && leb (length bs) d.size) e (λ r q. placing-followed es (due_after (length bs) d ds) r f fs q)
  where
    go : (b : Bool) → cond b (prepend bs (placing (due_after (length bs) d ds) es)) (Refusal 4) ≡ Stream g
        → ((r : List ℕ) → placing (due_after (length bs) d ds) es ≡ Stream r → placing (due_after (length bs) d ds) (es ++ (f ∷ fs)) ≡ Refusal 5)
        → cond b (prepend bs (placing (due_after (length bs) d ds) (es ++ (f ∷ fs)))) (Refusal 4) ≡ Refusal 5
    go true e ih = let r = prepend-stream bs g (placing (due_after (length bs) d ds) es) e in rw (ih r.0 r.1)
    go false e ih = no-content 4 g e
placing-followed (End ∷ []) [] g f fs e = refl
placing-followed (End ∷ x ∷ es) [] g f fs e = no-content 5 g e
placing-followed (End ∷ es) (d ∷ ds) g f fs e = no-content 5 g e
