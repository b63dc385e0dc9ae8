-- What a text comes to whose records say the pieces of the sections' bytes, in every format. Assumes nothing.
use mathlib.Core.Bool.{Bool, true, false, cond}
use mathlib.Core.List.{List, [], ◌∷◌, ◌++◌}
use mathlib.Core.Path.{◌≡◌, refl, sym, ap, ◌∙◌}
use Prim.Native.Nat.{ℕ, zero, suc, ◌+◌, ◌/◌, ◌≤◌, ◌<◌}
use native.Mathlib.Omega.{arith}
use borrow.Author.Tests.{le-leb, eq-eqb, ne_eqb}
use lib.ListN.{length, take, drop, length-drop, take-append-drop}
use lib.Seq.{take_all, length-take-le, take_at, drop_at}
use Rattle.sections.specs.Sections.{sections_of}
use Rattle.sections.specs.declared.Location.{Location}
use Rattle.sections.specs.declared.Location.TheVariants.{InFlash, InProtection}
use Rattle.sections.specs.declared.Section.{Section}
use Rattle.parts.specs.declared.Geometry.{Geometry}
use Rattle.text.specs.Placing.{Event, Bad, Other, Data, End, Content, Refusal, Stream, prepend, rest_of, fits, due_after, placing, same_location, gathered, Piece, cut, pieces_in, pieces}
use Rattle.text.specs.Reading.{image_in}
use Rattle.pairs.proofs.Capitals.{AllBytes, bytes-append, bytes_take, bytes_drop}
use Rattle.text.proofs.Placing.{no-content, prepend-stream, prepend-append}

-- the records of a text say just these pieces, then end
abbrev pub Says : List Piece → List Event → Type 0
Says ps [] = ⊥
Says ps (Bad n ∷ es) = ⊥
Says ps (Other ∷ es) = Says ps es
Says [] (Data a bs ∷ es) = ⊥
Says (p ∷ ps) (Data a bs ∷ es) = (a ≡ p.address) × (bs ≡ p.bytes) × Says ps es
Says [] (End ∷ []) = Unit {0}
Says [] (End ∷ e ∷ es) = ⊥
Says (p ∷ ps) (End ∷ es) = ⊥

-- sections that have bytes, and these bytes
abbrev pub Filled : (Section → List ℕ) → List Section → Type 0
Filled f [] = Unit {0}
Filled f (s ∷ ss) = (0 < s.size) × (length (f s) ≡ s.size) × Filled f ss

-- the bytes of the sections, one after the other
unfoldable pub joined : (Section → List ℕ) → List Section → List ℕ
joined f [] = []
joined f (s ∷ ss) = f s ++ joined f ss

-- one data record that is due
step : (s : Section) (ss : List Section) (bs : List ℕ) (es : List Event) → length bs ≤ s.size
    → placing (s ∷ ss) (Data s.address bs ∷ es) ≡ prepend bs (placing (due_after (length bs) s ss) es)
unfolding placing
step s ss bs es h = rw (eq-eqb s.address s.address refl, le-leb (length bs) s.size h)

due-after-all : (n : ℕ) (s : Section) (ss : List Section) → n ≡ s.size → due_after n s ss ≡ ss
unfolding due_after
due-after-all n s ss h = rw (eq-eqb n s.size h)

due-after-part : (n : ℕ) (s : Section) (ss : List Section) → n < s.size → due_after n s ss ≡ rest_of n s ∷ ss
unfolding due_after
due-after-part n s ss h = rw (ne_eqb n s.size (λ e. absurd (omega arith)))

-- the first piece of a section: the last, or one of 64 bytes
first : (es : List Event) (c : ℕ) (s : Section) (bs : List ℕ) (ss : List Section) (ps : List Piece) (o : Content)
    → s.size ≡ length bs
    → 0 < s.size
    → suc c ≡ (s.size + 63) / 64
    → ((es' : List Event) → Says ps es' → placing ss es' ≡ o)
    → Says (cut c (s.address + 64) (drop 64 bs) ++ ps) es
    → (64 < s.size → placing (rest_of 64 s ∷ ss) es ≡ prepend (drop 64 bs) o)
    → placing (s ∷ ss) (Data s.address (take 64 bs) ∷ es) ≡ prepend bs o
unfolding cut
first es zero s bs ss ps o hn h0 hc rest says more =
    let t : take 64 bs ≡ bs = take_all 64 bs (omega arith) in
    let k : length (take 64 bs) ≡ s.size = ap length t ∙ sym hn in
    step s ss (take 64 bs) es (omega arith)
    ∙ ap (λ (x : List Section). prepend (take 64 bs) (placing x es)) (due-after-all (length (take 64 bs)) s ss k)
    ∙ ap (prepend (take 64 bs)) (rest es says)
    ∙ ap (λ (x : List ℕ). prepend x o) t
first es (suc c) s bs ss ps o hn h0 hc rest says more =
    let k : length (take 64 bs) ≡ 64 = length-take-le 64 bs (omega arith) in
    let big : 64 < s.size = omega arith in
    step s ss (take 64 bs) es (omega arith)
    ∙ ap (λ (x : ℕ). prepend (take 64 bs) (placing (due_after x s ss) es)) k
    ∙ ap (λ (x : List Section). prepend (take 64 bs) (placing x es)) (due-after-part 64 s ss big)
    ∙ ap (prepend (take 64 bs)) (more big)
    ∙ prepend-append (take 64 bs) (drop 64 bs) o
    ∙ ap (λ (x : List ℕ). prepend x o) (take-append-drop 64 bs)

-- a section cut into pieces, and what follows
section : (es : List Event) (c : ℕ) (s : Section) (bs : List ℕ) (ss : List Section) (ps : List Piece) (o : Content)
    → s.size ≡ length bs
    → 0 < s.size
    → c ≡ (s.size + 63) / 64
    → ((es' : List Event) → Says ps es' → placing ss es' ≡ o)
    → Says (cut c s.address bs ++ ps) es
    → placing (s ∷ ss) es ≡ prepend bs o
unfolding cut placing
section es zero s bs ss ps o hn h0 hc rest says = absurd (omega arith)
section [] (suc c) s bs ss ps o hn h0 hc rest says = absurd says
section (Bad k ∷ es) (suc c) s bs ss ps o hn h0 hc rest says = absurd says
section (Other ∷ es) (suc c) s bs ss ps o hn h0 hc rest says = section es (suc c) s bs ss ps o hn h0 hc rest says
section (End ∷ es) (suc c) s bs ss ps o hn h0 hc rest says = absurd says
section (Data a bs' ∷ es) (suc c) s bs ss ps o hn h0 hc rest says =
    ap (λ (x : ℕ). placing (s ∷ ss) (Data x bs' ∷ es)) says.0
    ∙ ap (λ (x : List ℕ). placing (s ∷ ss) (Data s.address x ∷ es)) says.1
    ∙ first es c s bs ss ps o hn h0 hc rest says.2
    (λ big. section es c (rest_of 64 s) (drop 64 bs) ss ps o (omega (arith, length-drop 64 bs)) (omega arith) (omega arith) rest says.2)

-- a text that says the pieces of the sections' bytes comes to those bytes
pub placed : (f : Section → List ℕ) (ss : List Section) (es : List Event) → Filled f ss → Says (pieces f ss) es → placing ss es ≡ Stream (joined f ss)
unfolding pieces placing prepend joined
placed f [] [] fill says = absurd says
placed f [] (Bad n ∷ es) fill says = absurd says
placed f [] (Other ∷ es) fill says = placed f [] es fill says
placed f [] (Data a bs ∷ es) fill says = absurd says
placed f [] (End ∷ []) fill says = refl
placed f [] (End ∷ e ∷ es) fill says = absurd says
placed f (s ∷ ss) es fill says =
    section es (pieces_in s) s (f s) ss (pieces f ss) (Stream (joined f ss)) (sym fill.1) fill.0 refl (λ es' says'. placed f ss es' fill.2 says') says

-- ---- and back

-- the data of a text's records, whatever is due
unfoldable pub data_of : List Event → List ℕ
data_of [] = []
data_of (Bad n ∷ es) = data_of es
data_of (Other ∷ es) = data_of es
data_of (Data a bs ∷ es) = bs ++ data_of es
data_of (End ∷ es) = data_of es

-- a text that is taken: its data, in their order, are the bytes of the sections
pub placing-data : (es : List Event) (due : List Section) (g : List ℕ) → placing due es ≡ Stream g → g ≡ data_of es
unfolding placing data_of
placing-data [] due g e = no-content 5 g e
placing-data (Bad n ∷ es) due g e = no-content n g e
placing-data (Other ∷ es) due g e = placing-data es due g e
placing-data (Data a bs ∷ es) [] g e = no-content 4 g e
placing-data (Data a bs ∷ es) (s ∷ ss) g e = go (fits a (length bs) s) e (λ r q. placing-data es (due_after (length bs) s ss) r q)
  where
    go : (b : Bool) → cond b (prepend bs (placing (due_after (length bs) s ss) es)) (Refusal 4) ≡ Stream g
        → ((r : List ℕ) → placing (due_after (length bs) s ss) es ≡ Stream r → r ≡ data_of es)
        → g ≡ bs ++ data_of es
    go true e ih =
        let r = prepend-stream bs g (placing (due_after (length bs) s ss) es) e in
        r.2 ∙ ap (λ (x : List ℕ). bs ++ x) (ih r.0 r.1)
    go false e ih = no-content 4 g e
placing-data (End ∷ []) [] g e = let z : [] ≡ g = cc e in sym z
placing-data (End ∷ x ∷ es) [] g e = no-content 5 g e
placing-data (End ∷ es) (s ∷ ss) g e = no-content 5 g e

-- the bytes of the sections in one location, out of the bytes of them all
abbrev pub filtered : Location → (Section → List ℕ) → List Section → List ℕ
filtered h f [] = []
filtered h f (s ∷ ss) = cond (same_location h s.location) (f s) [] ++ filtered h f ss

pub gathered-joined : (h : Location) (f : Section → List ℕ) (ss : List Section) → Filled f ss → gathered h ss (joined f ss) ≡ filtered h f ss
unfolding gathered joined
gathered-joined h f [] fill = refl
gathered-joined h f (s ∷ ss) fill =
    rw (take_at (f s) (joined f ss) s.size fill.1, drop_at (f s) (joined f ss) s.size fill.1, gathered-joined h f ss fill.2)

pub gathered-bytes : (h : Location) (ss : List Section) (stream : List ℕ) → AllBytes stream → AllBytes (gathered h ss stream)
unfolding gathered
gathered-bytes h [] stream a = tt
gathered-bytes h (s ∷ ss) stream a = bytes-append (cond (same_location h s.location) (take s.size stream) []) (gathered h ss (drop s.size stream)) (go (same_location h s.location)) (gathered-bytes h ss (drop s.size stream) (bytes_drop s.size stream a))
  where
    go : (b : Bool) → AllBytes (cond b (take s.size stream) [])
    go true = bytes_take s.size stream a
    go false = tt

pub image-bytes : (g : Geometry) (stream : List ℕ) → AllBytes stream → AllBytes (image_in g stream)
image-bytes g stream a =
    bytes-append (gathered InFlash (sections_of g) stream) (gathered InProtection (sections_of g) stream) (gathered-bytes InFlash (sections_of g) stream a)
    (gathered-bytes InProtection (sections_of g) stream a)
