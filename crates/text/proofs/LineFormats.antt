-- A format whose records are the lines of its texts, each read in a state that the lines before it leave: what its lines must have, so that
-- the format has the laws of reading (Formats.antt). Assumes nothing.
use mathlib.Core.Bool.{Bool, true, false, cond}
use mathlib.Core.List.{List, [], ◌∷◌, ◌++◌}
use mathlib.Core.Path.{◌≡◌, sym, ap, ◌∙◌, subst}
use Prim.Native.Nat.{ℕ}
use lib.ListN.{length}
use Rattle.sections.specs.declared.Section.{Section}
use Rattle.pairs.proofs.Capitals.{AllBytes, bytes-append}
use Rattle.pairs.proofs.Lines.{AllEnded, lines-append, some-line}
use Rattle.text.proofs.Pieces.{data_of, placing-data}
use Rattle.text.proofs.Placing.{prepend-stream, no-content}
use Rattle.pairs.specs.Lines.{Line, Ended, Open, lines_of}
use Rattle.text.specs.Placing.{Event, Bad, Other, Data, End, Refusal, Stream, prepend, fits, due_after, placing}

-- ---- a text that is taken has no refused record

abbrev Unrefused : List Event → Type 0
Unrefused [] = Unit {0}
Unrefused (Bad n ∷ es) = ⊥
Unrefused (Other ∷ es) = Unrefused es
Unrefused (Data a bs ∷ es) = Unrefused es
Unrefused (End ∷ es) = Unrefused es

unrefused : (es : List Event) (due : List Section) (g : List ℕ) → placing due es ≡ Stream g → Unrefused es
unfolding placing
unrefused [] due g e = tt
unrefused (Bad n ∷ es) due g e = no-content n g e
unrefused (Other ∷ es) due g e = unrefused es due g e
unrefused (Data a bs ∷ es) [] g e = no-content 4 g e
unrefused (Data a bs ∷ es) (s ∷ ss) g e = go (fits a (length bs) s) e (λ r q. unrefused es (due_after (length bs) s ss) r q)
  where
    go : (b : Bool) → cond b (prepend bs (placing (due_after (length bs) s ss) es)) (Refusal 4) ≡ Stream g
        → ((r : List ℕ) → placing (due_after (length bs) s ss) es ≡ Stream r → Unrefused es)
        → Unrefused es
    go true e ih = let r = prepend-stream bs g (placing (due_after (length bs) s ss) es) e in ih r.0 r.1
    go false e ih = no-content 4 g e
unrefused (End ∷ []) [] g e = tt
unrefused (End ∷ x ∷ es) [] g e = no-content 5 g e
unrefused (End ∷ es) (s ∷ ss) g e = no-content 5 g e

rest : (e : Event) (es : List Event) → Unrefused (e ∷ es) → Unrefused es
rest (Bad n) es u = absurd u
rest Other es u = u
rest (Data a bs) es u = u
rest End es u = u

-- an event carries these bytes, if it is not refused
abbrev pub Carries : Event → List ℕ → Type 0
Carries (Bad n) bs = Unit {0}
Carries Other bs = bs ≡ []
Carries (Data a cs) bs = cs ≡ bs
Carries End bs = bs ≡ []

data-event : (e : Event) (es : List Event) (bs more : List ℕ) → Carries e bs → Unrefused (e ∷ es) → data_of es ≡ more → data_of (e ∷ es) ≡ bs ++ more
unfolding data_of
data-event (Bad n) es bs more c u d = absurd u
data-event Other es bs more c u d = rw c d
data-event (Data a cs) es bs more c u d = rw (c, d)
data-event End es bs more c u d = rw c d

-- ---- the events and the payloads of lines, by those of a line and the state after it

pub record ByLines (State : Type 0) (events : State → List Line → List Event) (payloads : List Line → List ℕ) : Type 0 where
  pub event : State → Line → Event
  pub after : State → Line → State
  pub no-events : (s : State) → events s [] ≡ []
  pub more-events : (s : State) (l : Line) (ls : List Line) → events s (l ∷ ls) ≡ event s l ∷ events (after s l) ls
  pub payload : Line → List ℕ
  pub no-payloads : payloads [] ≡ []
  pub more-payloads : (l : Line) (ls : List Line) → payloads (l ∷ ls) ≡ payload l ++ payloads ls
  -- a line without its end is refused
  pub open-number : ℕ
  pub open-bad : (s : State) (l : List ℕ) → event s (Open l) ≡ Bad open-number
  -- a line says its own payload, and that is bytes
  pub carries : (s : State) (l : Line) → Carries (event s l) (payload l)
  pub bytes : (l : Line) → AllBytes (payload l)

module _ {State : Type 0} {events : State → List Line → List Event} {payloads : List Line → List ℕ} (m : ByLines State events payloads) where
  pub payload-bytes : (ls : List Line) → AllBytes (payloads ls)
  payload-bytes [] = rw m.no-payloads tt
  payload-bytes (l ∷ ls) = rw (m.more-payloads l ls) (bytes-append (m.payload l) (payloads ls) (m.bytes l) (payload-bytes ls))

  first : (s : State) (l : Line) (ls : List Line) → Unrefused (events s (l ∷ ls)) → Unrefused (m.event s l ∷ events (m.after s l) ls)
  first s l ls u = subst Unrefused (m.more-events s l ls) u

  others : (s : State) (l : Line) (ls : List Line) → Unrefused (events s (l ∷ ls)) → Unrefused (events (m.after s l) ls)
  others s l ls u = rest (m.event s l) (events (m.after s l) ls) (first s l ls u)

  own-data : (s : State) (ls : List Line) → Unrefused (events s ls) → data_of (events s ls) ≡ payloads ls
  unfolding data_of
  own-data s [] u = ap data_of (m.no-events s) ∙ sym m.no-payloads
  own-data s (l ∷ ls) u =
      ap data_of (m.more-events s l ls)
      ∙ data-event (m.event s l) (events (m.after s l) ls) (m.payload l) (payloads ls) (m.carries s l) (first s l ls u) (own-data (m.after s l) ls (others s l ls u))
      ∙ sym (m.more-payloads l ls)

  -- what a text comes to are the payloads of its data records
  pub own : (s : State) (text : List ℕ) (due : List Section) (stream : List ℕ) → placing due (events s (lines_of text)) ≡ Stream stream → stream ≡ payloads (lines_of text)
  own s text due stream e =
      placing-data (events s (lines_of text)) due stream e ∙ own-data s (lines_of text) (unrefused (events s (lines_of text)) due stream e)

  -- the lines of a text that is taken all have their ends
  ended : (s : State) (ls : List Line) → Unrefused (events s ls) → AllEnded ls
  ended s [] u = tt
  ended s (Open l ∷ ls) u =
      absurd (subst (λ (x : Event). Unrefused (x ∷ events (m.after s (Open l)) ls)) (m.open-bad s l) (first s (Open l) ls u))
  ended s (Ended l ∷ ls) u = ended (m.after s (Ended l)) ls (others s (Ended l) ls u)

  events-append : (ls ms : List Line) (s : State) → (t : State) × (events s (ls ++ ms) ≡ events s ls ++ events t ms)
  events-append [] ms s = (s, ap (λ (es : List Event). es ++ events s ms) (sym (m.no-events s)))
  events-append (l ∷ ls) ms s =
      let r = events-append ls ms (m.after s l) in (
        r.0,
        m.more-events s l (ls ++ ms)
            ∙ ap (λ (es : List Event). m.event s l ∷ es) r.1
            ∙ ap (λ (es : List Event). es ++ events r.0 ms) (sym (m.more-events s l ls)),
      )

  -- more text after one that is taken is more records
  pub follows : (s : State) (text : List ℕ) (due : List Section) (stream : List ℕ) (c : ℕ) (more : List ℕ)
      → placing due (events s (lines_of text)) ≡ Stream stream
      → (e : Event) × (es : List Event) × (events s (lines_of (text ++ (c ∷ more))) ≡ events s (lines_of text) ++ (e ∷ es))
  follows s text due stream c more e =
      let a = lines-append text (c ∷ more) (ended s (lines_of text) (unrefused (events s (lines_of text)) due stream e)) in
      let f = some-line c more in
      let r = events-append (lines_of text) (f.0 ∷ f.1) s in (
        m.event r.0 f.0,
        events (m.after r.0 f.0) f.1,
        ap (events s) (a ∙ ap (λ (ls : List Line). lines_of text ++ ls) f.2)
            ∙ r.1
            ∙ ap (λ (es : List Event). events s (lines_of text) ++ es) (m.more-events r.0 f.0 f.1),
      )
