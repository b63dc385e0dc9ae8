-- The claims on stepping. Assumes nothing.
use mathlib.Core.Bool.{Bool, true, false, false≢true, ◌&&◌, cond}
use mathlib.Core.List.{List}
use mathlib.Core.Path.{◌≡◌, refl, sym, ap, subst, ◌∙◌}
use Prim.Native.Nat.{ℕ, ◌≤◌}
use native.Mathlib.Omega.{arith}
use borrow.Author.Tests.{eqb-true, eqb-false, leb-true, leb-false, le-leb, eq-eqb, ne_eqb}
use lib.Dec.{leb, eqb}
use lib.ListN.{length, get_or, take, drop}
use Rattle.decoding.proofs.Backs.{header-twelve, outcome-length, session-length}
use Rattle.calls.proofs.Called.{step-sessionless, step_other, step-under, step_room}
use Rattle.calls.proofs.Numbers.{either, neither, is-refused, said, step-free}
use Rattle.calls.proofs.Onward.{next-step}
use Rattle.encoding.proofs.Putting.{put_front, put-kept, put-found}
use Rattle.calls.proofs.Refusing.{other-image}
use Rattle.decoding.proofs.Spelled.{session-whole}
use Rattle.calls.specs.Calls.{CallResult, step_refusal, refused_or, step_into, after_step_call}
use Rattle.encoding.specs.Buffers.{put_into}
use Rattle.encoding.specs.Values.{Bytes, Twelve}
use Rattle.encoding.specs.Buffers.{Kept}
use Rattle.calls.specs.Claims.{Told, Never13, StepClaims}
use Rattle.encoding.specs.Outcomes.{outcome_bytes, number_of}
use Rattle.encoding.specs.Headers.{header_in}
use Rattle.encoding.specs.Sessions.{session_bytes, session_in, is_session}
use Rattle.flow.specs.declared.Answer.{Answer}
use Rattle.image.specs.Refusals.{first_refusal}
use Rattle.image.specs.declared.Header.{Header}
use Rattle.parts.specs.Parts.{lookup_of}
use Rattle.parts.specs.Sizes.{image_size}
use Rattle.parts.specs.declared.Geometry.{Geometry}
use Rattle.session.proofs.Kept.{session-claims, header-stays}
use Rattle.session.specs.Given.{refusing, step_with}
use Rattle.session.specs.Outcomes.{Given}
use Rattle.session.specs.Possible.{possible}
use Rattle.std.specs.Prelude.{Ok}

session-header : (bs : List ℕ) → (session_in bs).header ≡ header_in bs
unfolding session_in
session-header bs = refl

both_true : (a b : Bool) → (a && b) ≡ true → (a ≡ true) × (b ≡ true)
both_true true b e = (refl, e)
both_true false b e = absurd (false≢true e)

module _ (session image : List ℕ) (a : Answer) (outcome : List ℕ) where
  abbrev gone : Given
  gone = refused_or (step_refusal session outcome) (refusing (session_in session)) (step_with (session_in session) image a)

  gone-twelve : 45 ≤ length session → Twelve gone.session.header
  gone-twelve n =
      let t : Twelve (session_in session).header = ap (λ (k : Header). length k.metadata) (session-header session) ∙ header-twelve session (omega arith) in
      either (λ (r : Given). Twelve r.session.header) (eqb (step_refusal session outcome) 0) _ _
      (ap (λ (k : Header). length k.metadata) (header-stays (session_in session) image a) ∙ t) t

  step-thirteen : 45 ≤ length session → (is_session session && possible (session_in session)) ≡ false → (after_step_call session image a outcome).number ≡ 13
  unfolding after_step_call first_refusal
  step-thirteen n e = rw (le-leb 45 (length session) n, e)

  step-lacks : (g : Geometry) → 45 ≤ length session → lookup_of (get_or session 0 0) (get_or session 1 0) ≡ Ok g
      → (is_session session && possible (session_in session)) ≡ true
      → ¬ ((8 ≤ length outcome) × (length image ≡ image_size g))
      → (after_step_call session image a outcome).number ≡ 12
  unfolding session_in header_in
  step-lacks g n e can lacks = by (leb 8 (length outcome)) refl
    where
      is : (is_session session ≡ true) × (possible (session_in session) ≡ true)
      is = both_true (is_session session) (possible (session_in session)) can

      by : (t : Bool) → leb 8 (length outcome) ≡ t → (after_step_call session image a outcome).number ≡ 12
      by true f =
          let room = leb-true 8 (length outcome) f in
          ap (λ (x : CallResult). x.number) (step_room session image a outcome n is.0 room)
          ∙ ap (λ (x : Given). number_of x.outcome) (other-image (session_in session) image a g e is.1 (λ k. lacks (room, k)))
      by false f =
          step-under session image a outcome n is.0 (leb-false 8 (length outcome) f)
          ∙ ap (λ (t : Bool). cond t 12 13) is.1

  step-told : Told (after_step_call session image a outcome).number outcome (after_step_call session image a outcome).second
  unfolding after_step_call
  step-told = said gone.outcome outcome

  step-outcome : Kept 8 outcome (after_step_call session image a outcome).second
  unfolding after_step_call
  step-outcome = put-kept 8 outcome (outcome_bytes gone.outcome) (outcome-length gone.outcome)

  pub refused-stays : ¬ ((after_step_call session image a outcome).number ≡ 0) → (after_step_call session image a outcome).first ≡ session
  unfolding after_step_call
  refused-stays z = rw (ne_eqb (number_of gone.outcome) 0 z)

  put-session : 45 ≤ length session → (after_step_call session image a outcome).number ≡ 0 → Kept 45 session (after_step_call session image a outcome).first
  unfolding after_step_call
  put-session n z = rw (eq-eqb (number_of gone.outcome) 0 z) (put-kept 45 session (session_bytes gone.session) (session-length gone.session (gone-twelve n)))

  step_kept : Kept 45 session (after_step_call session image a outcome).first
  step_kept = by (leb 45 (length session)) refl (eqb (after_step_call session image a outcome).number 0) refl
    where
      stays : ¬ ((after_step_call session image a outcome).number ≡ 0) → Kept 45 session (after_step_call session image a outcome).first
      stays z = subst (Kept 45 session) (sym (refused-stays z)) (record { past = refl; under = λ h. refl; sized = refl })

      by : (t : Bool) → leb 45 (length session) ≡ t → (u : Bool) → eqb (after_step_call session image a outcome).number 0 ≡ u
          → Kept 45 session (after_step_call session image a outcome).first
      by true e true f = put-session (leb-true 45 (length session) e) (eqb-true (after_step_call session image a outcome).number 0 f)
      by true e false f = stays (eqb-false (after_step_call session image a outcome).number 0 f)
      by false e false f = stays (eqb-false (after_step_call session image a outcome).number 0 f)
      by false e true f =
          stays (λ z. omega (arith, ap (λ (x : CallResult). x.number) (step-sessionless session image a outcome (leb-false 45 (length session) e)), z))

  module _ (n : 45 ≤ length session) (k : 8 ≤ length outcome) (is : is_session session ≡ true) where
    gives : after_step_call session image a outcome ≡ step_into (step_with (session_in session) image a) session outcome
    gives = step_room session image a outcome n is k

    given-twelve : Twelve (step_with (session_in session) image a).session.header
    given-twelve =
        ap (λ (h : Header). length h.metadata) (header-stays (session_in session) image a ∙ session-header session) ∙ header-twelve session (omega arith)

    -- the session that a step gives, or the one that it got
    session-found : Bytes session
        → take 45 (step_into (step_with (session_in session) image a) session outcome).first ≡ session_bytes (step_with (session_in session) image a).session
    session-found h = by (eqb (number_of (step_with (session_in session) image a).outcome) 0) refl
      where
        by : (t : Bool) → eqb (number_of (step_with (session_in session) image a).outcome) 0 ≡ t
            → take 45 (cond t (put_into session (session_bytes (step_with (session_in session) image a).session)) session)
            ≡ session_bytes (step_with (session_in session) image a).session
        by true e =
            put-found 45 session (session_bytes (step_with (session_in session) image a).session) (session-length (step_with (session_in session) image a).session given-twelve) n
        by false e =
            let r = step_with (session_in session) image a in
            let refused = is-refused r.outcome (eqb-false (number_of r.outcome) 0 e) in
            sym (ap session_bytes (session-claims.refused (session_in session) image a (number_of r.outcome) refused) ∙ session-whole session n h is)

    stepped-core : Bytes session
        → ((after_step_call session image a outcome).number ≡ number_of (step_with (session_in session) image a).outcome)
        × (take 45 (after_step_call session image a outcome).first ≡ session_bytes (step_with (session_in session) image a).session)
        × (take 8 (after_step_call session image a outcome).second ≡ outcome_bytes (step_with (session_in session) image a).outcome)
    stepped-core h =
        let o = (step_with (session_in session) image a).outcome in (
          ap (λ (x : CallResult). x.number) gives,
          ap (λ (x : CallResult). take 45 x.first) gives ∙ session-found h,
          ap (λ (x : CallResult). take 8 x.second) gives ∙ put-found 8 outcome (outcome_bytes o) (outcome-length o) k,
        )

    went-onward : (after_step_call session image a outcome).number ≡ 0 → Never13 (after_step_call session image a outcome).first
    went-onward z =
        let s = (step_with (session_in session) image a).session in
        let none : number_of (step_with (session_in session) image a).outcome ≡ 0 = sym (ap (λ (x : CallResult). x.number) gives) ∙ z in
        let all : length (session_bytes s) ≤ length session = omega (arith, session-length s given-twelve) in
        let first : (after_step_call session image a outcome).first ≡ put_into session (session_bytes s) =
        ap (λ (x : CallResult). x.first) gives ∙ rw (eq-eqb (number_of (step_with (session_in session) image a).outcome) 0 none) in
        subst Never13 (sym (first ∙ put_front session (session_bytes s) all))
        (next-step s (drop (length (session_bytes s)) session) given-twelve (session-claims.stepped (session_in session) image a (step-free (session_in session) image a none)))

  pub step-claims : StepClaims session image a outcome (after_step_call session image a outcome)
  step-claims = record {
    sessionless = λ n. ap (λ (x : CallResult). x.number) (step-sessionless session image a outcome n);
    thirteen = step-thirteen;
    twelve = step-lacks;
    told = step-told;
    kept_session = step_kept;
    kept_outcome = step-outcome;
    core = stepped-core;
  }

  -- a step that is not refused had a session and room for the outcome
  pub stepped-onward : (after_step_call session image a outcome).number ≡ 0 → Never13 (after_step_call session image a outcome).first
  stepped-onward z = by (leb 45 (length session)) (is_session session) (leb 8 (length outcome)) refl refl refl
    where
      other : (x : CallResult) → after_step_call session image a outcome ≡ x → ¬ (x.number ≡ 0) → ⊥
      other x e h = h (sym (ap (λ (y : CallResult). y.number) e) ∙ z)

      by : (t u v : Bool) → leb 45 (length session) ≡ t → is_session session ≡ u → leb 8 (length outcome) ≡ v
          → Never13 (after_step_call session image a outcome).first
      by true true true p q r = went-onward (leb-true 45 (length session) p) (leb-true 8 (length outcome) r) q z
      by true true false p q r =
          absurd (neither (possible (session_in session)) 12 13 (λ k. omega arith) (λ k. omega arith) (sym (step-under session image a outcome (leb-true 45 (length session) p) q (leb-false 8 (length outcome) r)) ∙ z))
      by true false v p q r = absurd (other _ (step_other session image a outcome (leb-true 45 (length session) p) q) (λ k. omega arith))
      by false u v p q r = absurd (other _ (step-sessionless session image a outcome (leb-false 45 (length session) p)) (λ k. omega arith))
