-- Laws of the calls: which test decides what is returned and left. Assumes nothing.
use mathlib.Core.Bool.{Bool, true, false, false≢true, ◌&&◌, cond}
use mathlib.Core.List.{List, []}
use mathlib.Core.Path.{◌≡◌, refl, sym, ap, ◌∙◌}
use Prim.Native.Nat.{ℕ, ◌≤◌, ◌<◌}
use borrow.Author.Tests.{leb-true, leb-false, le-leb, lt-leb, eq-eqb, ne_eqb}
use lib.Dec.{leb}
use lib.ListN.{length, take, replicate}
use lib.Seq.{take-length}
use Rattle.encoding.proofs.Putting.{put_under}
use Rattle.calls.proofs.Refusing.{impossible, no-image}
use Rattle.calls.specs.Calls.{CallResult, call_result, in_table, is_found, refused_or, read_into, after_read_call, write_into, after_write_call, yes, start_into, after_start_call, step_into, after_step_call}
use Rattle.encoding.specs.Buffers.{put_into}
use Rattle.encoding.specs.Outcomes.{outcome_bytes, number_of}
use Rattle.encoding.specs.Headers.{header_bytes, header_in}
use Rattle.encoding.specs.Sessions.{session_bytes, session_in, is_session}
use Rattle.flow.specs.declared.Answer.{Answer}
use Rattle.hex_format.specs.HexFormat.{intel_hex}
use Rattle.hex_format.specs.Texts.{content_of, hex_reading}
use Rattle.hex_writer.specs.Writing.{writing, write_of, text_after}
use Rattle.image.specs.Checks.{fault_in, image_fault}
use Rattle.image.specs.Refusals.{first_refusal}
use Rattle.lent.specs.Words.{low_first}
use Rattle.image.specs.declared.Header.{Header}
use Rattle.parts.specs.Parts.{Lookup, lookup_of}
use Rattle.refusals.specs.Refusals.{refusal_number}
use Rattle.refusals.specs.declared.Refusal.{Refusal}
use Rattle.session.specs.Given.{start_refused, start_of, refusing, step_with}
use Rattle.session.specs.Outcomes.{Given, Refused}
use Rattle.session.specs.Possible.{possible}
use Rattle.session.specs.Sessions.{no_session}
use Rattle.session.specs.declared.Session.{Session}
use Rattle.text.proofs.Entries.{refused-eleven}
use Rattle.text.specs.Reading.{ReadAnswer, Untouched, read_for, answer_of, buffer_after}
use Rattle.storing.specs.Storing.{cleared}
use Rattle.text.specs.Writing.{WriteAnswer, Unwritten, write_for}
use Rattle.std.specs.Prelude.{Ok, Err}

-- what a contract says: the number, and both buffers
abbrev pub Leaves : CallResult → (number : ℕ) (first second : List ℕ) → Type 0
Leaves x n f s = (n ≡ x.number) × ((f ≡ x.first) × (s ≡ x.second))

-- the same as another's
pub leaves-as : (x y : CallResult) (n : ℕ) (f s : List ℕ) → x ≡ y → Leaves y n f s → Leaves x n f s
leaves-as x y n f s e l =
    (l.0 ∙ sym (ap (λ (z : CallResult). z.number) e), (l.1.0 ∙ sym (ap (λ (z : CallResult). z.first) e), l.1.1 ∙ sym (ap (λ (z : CallResult). z.second) e)))

-- 11 is past, or 12 is not come to
abbrev pub eleven_or12 : (part macros : ℕ) → ℕ
eleven_or12 part macros = cond (in_table part macros) 12 11

-- what the look-up refuses is 11
pub not_found : (part macros : ℕ) (r : Refusal) → lookup_of part macros ≡ Err r → refusal_number r ≡ eleven_or12 part macros
not_found part macros r e = rw e (ap refusal_number (refused-eleven part macros r e))

-- ---- reading

module _ (part macros : ℕ) (text image header : List ℕ) where
  pub read_under : length header < 17 → after_read_call part macros text image header ≡ call_result (eleven_or12 part macros) image header
  unfolding after_read_call first_refusal header_bytes
  read_under h = rw (lt-leb 17 (length header) h) (by (in_table part macros))
    where
      by : (t : Bool)
          → read_into (refused_or (cond t 12 11) Untouched (hex_reading part macros text (length image))) image header
          ≡ call_result (cond t 12 11) image header
      by true = rw (← put_under header (replicate 17 0) h)
      by false = rw (← put_under header (replicate 17 0) h)

  pub read-room : 17 ≤ length header → after_read_call part macros text image header ≡ read_into (hex_reading part macros text (length image)) image header
  unfolding after_read_call first_refusal
  read-room h = rw (le-leb 17 (length header) h) (by (lookup_of part macros) refl)
    where
      by : (l : Lookup) → lookup_of part macros ≡ l
          → read_into (refused_or (cond (is_found l) 0 11) Untouched (read_for l part macros (length image) (content_of text))) image header
          ≡ read_into (read_for l part macros (length image) (content_of text)) image header
      by (Err n) e = rw (refused-eleven part macros n e)
      by (Ok g) e = refl

  -- the reader's answer, and its header put
  pub read_done : (answer : ReadAnswer) (image' header' : List ℕ) → 17 ≤ length header → answer ≡ answer_of (hex_reading part macros text (length image))
      → image' ≡ buffer_after (hex_reading part macros text (length image)) image
      → header' ≡ put_into header (header_bytes answer.header)
      → Leaves (after_read_call part macros text image header) answer.number image' header'
  read_done answer image' header' n e f g =
      leaves-as _ (read_into (hex_reading part macros text (length image)) image header) _ _ _ (read-room n)
      (ap (λ (x : ReadAnswer). x.number) e, (f, g ∙ ap (λ (x : ReadAnswer). put_into header (header_bytes x.header)) e))

-- ---- writing

module _ (header image text length_bytes : List ℕ) where
  pub write-partless : length header < 17 → after_write_call header image text length_bytes ≡ call_result 12 text (put_into length_bytes (low_first 8 0))
  unfolding after_write_call first_refusal
  write-partless h = rw (lt-leb 17 (length header) h)

  module _ (h : 17 ≤ length header) where
    pub write_under : length length_bytes < 8 → after_write_call header image text length_bytes ≡ call_result (eleven_or12 (header_in header).part (header_in header).macros) text length_bytes
    unfolding after_write_call first_refusal
    write_under n = rw (le-leb 17 (length header) h, lt-leb 8 (length length_bytes) n) (by (in_table (header_in header).part (header_in header).macros))
      where
        by : (t : Bool)
            → write_into (refused_or (cond t 12 11) Unwritten (writing (header_in header) image (length text))) text length_bytes ≡ call_result (cond t 12 11) text length_bytes
        by true = rw (← put_under length_bytes (low_first 8 0) n)
        by false = rw (← put_under length_bytes (low_first 8 0) n)

    pub write-room : 8 ≤ length length_bytes → after_write_call header image text length_bytes ≡ write_into (writing (header_in header) image (length text)) text length_bytes
    unfolding after_write_call first_refusal
    write-room n = rw (le-leb 17 (length header) h, le-leb 8 (length length_bytes) n) (by (lookup_of (header_in header).part (header_in header).macros) refl)
      where
        by : (l : Lookup) → lookup_of (header_in header).part (header_in header).macros ≡ l
            → write_into (refused_or (cond (is_found l) 0 11) Unwritten (write_for intel_hex l (header_in header) image (length text))) text length_bytes
            ≡ write_into (write_for intel_hex l (header_in header) image (length text)) text length_bytes
        by (Err k) e = rw (refused-eleven (header_in header).part (header_in header).macros k e)
        by (Ok g) e = refl

    -- the writer's answer, and its length put
    pub write_done : (h : Header) (answer : WriteAnswer) (text' length_bytes' : List ℕ) → 8 ≤ length length_bytes → h ≡ header_in header → answer ≡ write_of h image text
        → text' ≡ text_after h image text
        → length_bytes' ≡ put_into length_bytes (low_first 8 answer.length)
        → Leaves (after_write_call header image text length_bytes) answer.number text' length_bytes'
    write_done h answer text' length_bytes' n q e f g =
        let e' : answer ≡ write_of (header_in header) image text = e ∙ ap (λ (x : Header). write_of x image text) q in
        leaves-as _ (write_into (writing (header_in header) image (length text)) text length_bytes) _ _ _ (write-room n)
        (ap (λ (x : WriteAnswer). x.number) e', (f ∙ ap (λ (x : Header). text_after x image text) q, g ∙ ap (λ (x : WriteAnswer). put_into length_bytes (low_first 8 x.length)) e'))

-- ---- starting

-- what the look-up refuses, starting refuses
start-eleven : (h : Header) (bytes : List ℕ) (leave : Bool) → in_table h.part h.macros ≡ false → start_of h bytes leave ≡ start_refused 11
unfolding start_of
start-eleven h bytes leave = by (lookup_of h.part h.macros) refl
  where
    by : (l : Lookup) → lookup_of h.part h.macros ≡ l → is_found l ≡ false → start_of h bytes leave ≡ start_refused 11
    by (Err n) e z =
        let is : image_fault h bytes ≡ 11 = ap (λ (k : Lookup). fault_in k h bytes) e ∙ ap refusal_number (refused-eleven h.part h.macros n e) in
        rw is
    by (Ok g) e z = absurd (false≢true (sym z))

-- 'A record, session or length given with a refusal is all 0.'
pub zero-session : (b : List ℕ) → cleared 45 b ≡ put_into b (session_bytes no_session)
unfolding cleared put_into session_bytes header_bytes
zero-session b = refl

module _ (header image : List ℕ) (leave : ℕ) (session outcome : List ℕ) where
  pub start-partless : length header < 17 → after_start_call header image leave session outcome ≡ start_into (start_refused 12) session outcome
  unfolding after_start_call first_refusal
  start-partless h = rw (lt-leb 17 (length header) h)

  module _ (h : 17 ≤ length header) where
    start-tested : (u : Bool) → (leb 45 (length session) && leb 8 (length outcome)) ≡ u
        → after_start_call header image leave session outcome
        ≡ start_into (cond u (start_of (header_in header) image (yes leave)) (start_refused (eleven_or12 (header_in header).part (header_in header).macros))) session outcome
    unfolding after_start_call first_refusal
    start-tested u e = rw (le-leb 17 (length header) h, e) (by (in_table (header_in header).part (header_in header).macros) refl u)
      where
        by : (t : Bool) → in_table (header_in header).part (header_in header).macros ≡ t → (u : Bool)
            → start_into (refused_or (cond t (cond u 0 12) 11) start_refused (start_of (header_in header) image (yes leave))) session outcome
            ≡ start_into (cond u (start_of (header_in header) image (yes leave)) (start_refused (cond t 12 11))) session outcome
        by true f true = refl
        by true f false = refl
        by false f true = rw (start-eleven (header_in header) image (yes leave) f)
        by false f false = refl

    pub start-under-session : length session < 45
        → after_start_call header image leave session outcome ≡ start_into (start_refused (eleven_or12 (header_in header).part (header_in header).macros)) session outcome
    start-under-session n = start-tested false (rw (lt-leb 45 (length session) n))

    pub start-under-outcome : 45 ≤ length session → length outcome < 8
        → after_start_call header image leave session outcome ≡ start_into (start_refused (eleven_or12 (header_in header).part (header_in header).macros)) session outcome
    start-under-outcome m n = start-tested false (rw (le-leb 45 (length session) m, lt-leb 8 (length outcome) n))

    pub start-room : 45 ≤ length session → 8 ≤ length outcome
        → after_start_call header image leave session outcome ≡ start_into (start_of (header_in header) image (yes leave)) session outcome
    start-room m n = start-tested true (rw (le-leb 45 (length session) m, le-leb 8 (length outcome) n))

    -- what starting gave, put
    pub start-done : (header' : Header) (given : Given) (number : ℕ) (session' outcome' : List ℕ) → 45 ≤ length session → 8 ≤ length outcome
        → header' ≡ header_in header
        → given ≡ start_of header' image (yes leave)
        → number ≡ number_of given.outcome
        → session' ≡ put_into session (session_bytes given.session)
        → outcome' ≡ put_into outcome (outcome_bytes given.outcome)
        → Leaves (after_start_call header image leave session outcome) number session' outcome'
    start-done header' given number session' outcome' m n q e f g o =
        let is : given ≡ start_of (header_in header) image (yes leave) = e ∙ ap (λ (x : Header). start_of x image (yes leave)) q in
        leaves-as _ (start_into given session outcome) _ _ _ (start-room m n ∙ sym (ap (λ (x : Given). start_into x session outcome) is)) (f, (g, o))

-- ---- stepping

module _ (session image : List ℕ) (a : Answer) (outcome : List ℕ) where
  pub step-sessionless : length session < 45 → after_step_call session image a outcome ≡ call_result 12 session (put_into outcome (outcome_bytes (Refused 12)))
  unfolding after_step_call first_refusal
  step-sessionless h = rw (lt-leb 45 (length session) h)

  module _ (h : 45 ≤ length session) where
    pub step_other : is_session session ≡ false → after_step_call session image a outcome ≡ call_result 13 session (put_into outcome (outcome_bytes (Refused 13)))
    unfolding after_step_call first_refusal
    step_other e = rw (le-leb 45 (length session) h, e)

    step-short : is_session session ≡ true → length outcome < 8
        → after_step_call session image a outcome ≡ step_into (refusing (session_in session) (cond (possible (session_in session)) 12 13)) session outcome
    unfolding after_step_call first_refusal
    step-short e n = rw (le-leb 45 (length session) h, e, lt-leb 8 (length outcome) n) (by (possible (session_in session)))
      where
        by : (t : Bool)
            → step_into (refused_or (cond t 12 13) (refusing (session_in session)) (step_with (session_in session) image a)) session outcome
            ≡ step_into (refusing (session_in session) (cond t 12 13)) session outcome
        by true = refl
        by false = refl

    pub step-under : is_session session ≡ true → length outcome < 8 → (after_step_call session image a outcome).number ≡ cond (possible (session_in session)) 12 13
    step-under e n = ap (λ (x : CallResult). x.number) (step-short e n)

    pub step_room : is_session session ≡ true → 8 ≤ length outcome
        → after_step_call session image a outcome ≡ step_into (step_with (session_in session) image a) session outcome
    unfolding after_step_call first_refusal
    step_room e n = rw (le-leb 45 (length session) h, e, le-leb 8 (length outcome) n) (by (possible (session_in session)) refl)
      where
        by : (t : Bool) → possible (session_in session) ≡ t
            → step_into (refused_or (cond t 0 13) (refusing (session_in session)) (step_with (session_in session) image a)) session outcome
            ≡ step_into (step_with (session_in session) image a) session outcome
        by true f = refl
        by false f = rw (impossible (session_in session) image a f)

    -- what a step gave, put; with an outcome under size it was lent no byte of the image
    module _ (s : Session) (lent : List ℕ) (given : Given) (number : ℕ) (is : is_session session ≡ true) (same : s ≡ session_in session)
        (part : lent ≡ take (cond (leb 8 (length outcome)) (length image) 0) image) (gave : given ≡ step_with s lent a)
        (told : number ≡ number_of given.outcome) where
      stepped-as : after_step_call session image a outcome ≡ step_into given session outcome
      stepped-as = by (leb 8 (length outcome)) refl
        where
          by : (t : Bool) → leb 8 (length outcome) ≡ t → after_step_call session image a outcome ≡ step_into given session outcome
          by true e =
              let all : lent ≡ image = part ∙ rw e (take-length image) in
              let is_all : given ≡ step_with (session_in session) image a = gave ∙ ap (λ (x : List ℕ). step_with s x a) all ∙ ap (λ (x : Session). step_with x image a) same in
              step_room is (leb-true 8 (length outcome) e) ∙ sym (ap (λ (x : Given). step_into x session outcome) is_all)
          by false e =
              let none : lent ≡ [] = part ∙ rw e in
              let refused : given ≡ refusing (session_in session) (cond (possible (session_in session)) 12 13)
              = gave ∙ ap (λ (x : List ℕ). step_with s x a) none ∙ ap (λ (x : Session). step_with x [] a) same ∙ no-image (session_in session) a in
              step-short is (leb-false 8 (length outcome) e) ∙ sym (ap (λ (x : Given). step_into x session outcome) refused)

      pub step-refused : (outcome' : List ℕ) → ¬ (number ≡ 0) → outcome' ≡ put_into outcome (outcome_bytes given.outcome)
          → Leaves (after_step_call session image a outcome) number session outcome'
      step-refused outcome' z o =
          leaves-as _ _ _ _ _ (stepped-as ∙ rw (ne_eqb (number_of given.outcome) 0 (λ k. z (told ∙ k)))) (told, (refl, o))

      pub step_went : (session' outcome' : List ℕ) → number ≡ 0 → session' ≡ put_into session (session_bytes given.session)
          → outcome' ≡ put_into outcome (outcome_bytes given.outcome)
          → Leaves (after_step_call session image a outcome) 0 session' outcome'
      step_went session' outcome' z g o =
          leaves-as _ _ _ _ _ (stepped-as ∙ rw (eq-eqb (number_of given.outcome) 0 (sym told ∙ z))) (sym z ∙ told, (g, o))
