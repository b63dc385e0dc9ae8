-- The bytes of a possible session hold a possible session. Assumes nothing.
use mathlib.Core.Bool.{Bool, true, false, false≢true, ◌&&◌, cond}
use mathlib.Core.List.{List, ◌++◌}
use mathlib.Core.Path.{◌≡◌, refl, sym, ap, ◌∙◌}
use Prim.Native.Nat.{ℕ, ◌≤◌}
use native.Mathlib.Omega.{arith}
use borrow.Author.Tests.{lt-ltb, ltb-true, le-leb, leb-true, leb-false}
use lib.Dec.{leb, ltb}
use lib.ListN.{length, length-append}
use Rattle.decoding.proofs.Backs.{Near, near, session-length, is-session}
use Rattle.calls.proofs.Called.{step-under, step_room}
use Rattle.calls.proofs.Numbers.{not-thirteen}
use Rattle.decoding.proofs.Spelled.{session-front}
use Rattle.calls.specs.Calls.{CallResult, step_into, after_step_call}
use Rattle.encoding.specs.Values.{Twelve}
use Rattle.calls.specs.Claims.{Never13}
use Rattle.encoding.specs.Sessions.{session_bytes, session_in, is_session}
use Rattle.flow.specs.declared.Counters.{Counters}
use Rattle.flow.specs.declared.Position.{Position}
use Rattle.image.specs.declared.Header.{Header}
use Rattle.layout.proofs.Bytes.{low-less}
use Rattle.flow.specs.Session.{move_count}
use Rattle.parts.specs.Parts.{Lookup, lookup_of}
use Rattle.parts.specs.declared.Geometry.{Geometry}
use Rattle.session.proofs.Possibility.{Parts, parts, whole}
use Rattle.session.specs.Possible.{header_fits, running_fits, report_fits, possible_in, possible_for, possible}
use Rattle.session.specs.Given.{step_with}
use Rattle.std.specs.Prelude.{Ok, Err}
use Rattle.session.specs.declared.Session.{Session}

-- tests that smaller numbers pass too
and_both : (a a' b b' : Bool) → (a ≡ true → a' ≡ true) → (b ≡ true → b' ≡ true) → (a && b) ≡ true → (a' && b') ≡ true
and_both true a' true b' f g e = rw (f refl, g refl)
and_both true a' false b' f g e = absurd (false≢true e)
and_both false a' b b' f g e = absurd (false≢true e)

under : (x y m : ℕ) → y ≤ x → ltb x m ≡ true → ltb y m ≡ true
under x y m h e = lt-ltb y m (omega (arith, h, ltb-true x m e))

within : (x y m : ℕ) → y ≤ x → leb x m ≡ true → leb y m ≡ true
within x y m h e = le-leb y m (omega (arith, h, leb-true x m e))

smaller : (g : Geometry) (p q : Position) (c d : Counters) → q.entry ≡ p.entry → q.at ≤ p.at → d.waits ≤ c.waits → d.polls ≤ c.polls → d.attempts ≤ c.attempts
    → running_fits g p c ≡ true
    → running_fits g q d ≡ true
smaller g p q c d e at waits polls attempts fits =
    let n = move_count g p.entry in
    rw e
    (and_both (ltb p.at n && leb c.waits 16 && ltb c.polls 10000) _ (ltb c.attempts 30) _
    (and_both (ltb p.at n && leb c.waits 16) _ (ltb c.polls 10000) _
    (and_both (ltb p.at n) _ (leb c.waits 16) _ (under p.at q.at n at) (within c.waits d.waits 16 waits))
    (under c.polls d.polls 10000 polls))
    (under c.attempts d.attempts 30 attempts) fits)

module _ (g : Geometry) (s d : Session) (k : Near s d) where
  stands-near : (t : Bool) → s.finished ≡ t → cond t (report_fits s.number s.step) (running_fits g s.position s.counters) ≡ true
      → cond t (report_fits d.number d.step) (running_fits g d.position d.counters) ≡ true
  stands-near true e f = rw (k.number, k.step) f
  stands-near false e f =
      smaller g s.position d.position s.counters d.counters k.entry (omega (arith, k.at, low-less s.position.at)) (omega (arith, k.waits, low-less s.counters.waits)) (omega (arith, k.polls, low-less s.counters.polls)) (omega (arith, k.attempts, low-less s.counters.attempts)) f

  near_parts : Parts g s → Parts g d
  near_parts p = record {
    header = ap (header_fits g) k.header ∙ p.header;
    count = omega (arith, k.transfers, low-less s.transfers, p.count);
    stands = ap (λ (t : Bool). cond t (report_fits d.number d.step) (running_fits g d.position d.counters)) k.finished ∙ stands-near s.finished refl p.stands;
  }

near-possible : (s d : Session) → Near s d → possible s ≡ true → possible d ≡ true
near-possible s d k can = by (lookup_of s.header.part s.header.macros) refl
  where
    by : (l : Lookup) → lookup_of s.header.part s.header.macros ≡ l → possible d ≡ true
    by (Err n) e = absurd (false≢true (sym (ap (λ (l : Lookup). possible_for l s) e) ∙ can))
    by (Ok g) e =
        let is : possible_in g s ≡ true = sym (ap (λ (l : Lookup). possible_for l s) e) ∙ can in
        let found : lookup_of d.header.part d.header.macros ≡ Ok g = ap (λ (h : Header). lookup_of h.part h.macros) k.header ∙ e in
        ap (λ (l : Lookup). possible_for l d) found ∙ whole g d (near_parts g s d k (parts g s is))

-- the next step on bytes that begin with a possible session's
pub next-step : (s : Session) (more : List ℕ) → Twelve s.header → possible s ≡ true → Never13 (session_bytes s ++ more)
next-step s more n can image a outcome = by (leb 8 (length outcome)) refl
  where
    bs : List ℕ
    bs = session_bytes s ++ more

    long : 45 ≤ length bs
    long = omega (arith, length-append (session_bytes s) more, session-length s n)

    front : (session_in bs ≡ session_in (session_bytes s)) × (is_session bs ≡ is_session (session_bytes s))
    front = session-front (session_bytes s) more (session-length s n)

    is : is_session bs ≡ true
    is = front.1 ∙ is-session s n

    still : possible (session_in bs) ≡ true
    still = ap (λ (t : Session). possible t) front.0 ∙ near-possible s (session_in (session_bytes s)) (near s n) can

    number-of : (x : CallResult) → after_step_call bs image a outcome ≡ x → (after_step_call bs image a outcome).number ≡ x.number
    number-of x e = ap (λ (y : CallResult). y.number) e

    by : (t : Bool) → leb 8 (length outcome) ≡ t → ¬ ((after_step_call bs image a outcome).number ≡ 13)
    by true e k =
        not-thirteen (session_in bs) image a still
        (sym (number-of (step_into (step_with (session_in bs) image a) bs outcome) (step_room bs image a outcome long is (leb-true 8 (length outcome) e))) ∙ k)
    by false e k =
        let twelve : (after_step_call bs image a outcome).number ≡ 12
        = step-under bs image a outcome long is (leb-false 8 (length outcome) e) ∙ rw still in
        omega arith
