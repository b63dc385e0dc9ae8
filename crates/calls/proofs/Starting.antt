-- The claims on starting. Assumes nothing.
use mathlib.Core.Bool.{Bool, true, false, cond}
use mathlib.Core.List.{List}
use mathlib.Core.Path.{◌≡◌, refl, sym, ap, subst, ◌∙◌}
use Prim.Native.Nat.{ℕ, ◌≤◌}
use native.Mathlib.Omega.{arith}
use borrow.Author.Tests.{leb-true, leb-false, le-leb, ne_eqb}
use lib.Dec.{leb, eqb}
use lib.ListN.{length, get_or, take, drop, replicate}
use Rattle.decoding.proofs.Backs.{header-twelve, outcome-length, session-length}
use Rattle.calls.proofs.Called.{start-partless, start-under-session, start-under-outcome, start-room}
use Rattle.calls.proofs.Numbers.{either, neither, said, start-free}
use Rattle.calls.proofs.Onward.{next-step}
use Rattle.encoding.proofs.Putting.{put_front, put-kept, put-found}
use Rattle.calls.specs.Calls.{CallResult, is_found, in_table, start_refusal, refused_or, yes, after_start_call}
use Rattle.encoding.specs.Values.{Twelve}
use Rattle.encoding.specs.Buffers.{Kept}
use Rattle.calls.specs.Claims.{Zeroed, Told, Never13, StartClaims}
use Rattle.encoding.specs.Outcomes.{outcome_bytes, number_of}
use Rattle.encoding.specs.Headers.{header_bytes, header_in}
use Rattle.encoding.specs.Sessions.{session_bytes}
use Rattle.image.specs.Checks.{fault_in, image_fault}
use Rattle.image.specs.Refusals.{first_refusal}
use Rattle.image.specs.declared.Header.{Header}
use Rattle.parts.specs.Parts.{Lookup, lookup_of}
use Rattle.parts.specs.Sizes.{image_size}
use Rattle.parts.specs.declared.Geometry.{Geometry}
use Rattle.session.proofs.Kept.{session-claims}
use Rattle.session.specs.Given.{start_refused, started_on, wants_leave, start_of}
use Rattle.session.specs.Outcomes.{Given}
use Rattle.std.specs.Prelude.{Ok}

start-twelve : (h : Header) (bytes : List ℕ) (leave : Bool) → Twelve h → Twelve (start_of h bytes leave).session.header
unfolding start_of
start-twelve h bytes leave n =
    either (λ (r : Given). Twelve r.session.header) (eqb (image_fault h bytes) 0) _ _
    (either (λ (r : Given). Twelve r.session.header) (wants_leave h leave) (start_refused 15) (started_on h) refl n)
    refl

-- a refused start gives the session of zeros
abbrev NoneIfRefused : Given → Type 0
NoneIfRefused r = ¬ (number_of r.outcome ≡ 0) → session_bytes r.session ≡ replicate 45 0

none-refused : (n : ℕ) → NoneIfRefused (start_refused n)
unfolding session_bytes header_bytes
none-refused n z = refl

none-start : (h : Header) (bytes : List ℕ) (leave : Bool) → NoneIfRefused (start_of h bytes leave)
unfolding start_of
none-start h bytes leave =
    either NoneIfRefused (eqb (image_fault h bytes) 0) _ _ (either NoneIfRefused (wants_leave h leave) _ _ (none-refused 15) (λ z. absurd (z refl)))
    (none-refused (image_fault h bytes))

-- the core's own 12
start-other : (g : Geometry) (h : Header) (bytes : List ℕ) (leave : Bool) → lookup_of h.part h.macros ≡ Ok g → ¬ (length bytes ≡ image_size g)
    → start_of h bytes leave ≡ start_refused 12
unfolding start_of first_refusal
start-other g h bytes leave e lacks =
    let twelve : image_fault h bytes ≡ 12 = ap (λ (l : Lookup). fault_in l h bytes) e ∙ rw (ne_eqb (length bytes) (image_size g) lacks) in
    rw twelve

module _ (header image : List ℕ) (leave : ℕ) (session outcome : List ℕ) where
  abbrev begun : Given
  begun = refused_or (start_refusal header session outcome) start_refused (start_of (header_in header) image (yes leave))

  begun-twelve : Twelve begun.session.header
  unfolding first_refusal
  begun-twelve = by (leb 17 (length header)) refl
    where
      refused-twelve : (t : Bool) (n : ℕ) → 17 ≤ length header → Twelve (cond t (start_of (header_in header) image (yes leave)) (start_refused n)).session.header
      refused-twelve true n h = start-twelve (header_in header) image (yes leave) (header-twelve header h)
      refused-twelve false n h = refl

      by : (t : Bool) → leb 17 (length header) ≡ t → Twelve begun.session.header
      by true e = refused-twelve (eqb (start_refusal header session outcome) 0) (start_refusal header session outcome) (leb-true 17 (length header) e)
      by false e = rw e refl

  start-eleven : 17 ≤ length header → in_table (get_or header 0 0) (get_or header 1 0) ≡ false → (after_start_call header image leave session outcome).number ≡ 11
  unfolding after_start_call first_refusal header_in
  start-eleven n e = rw (le-leb 17 (length header) n, e)

  start-lacks : (g : Geometry) → 17 ≤ length header → lookup_of (get_or header 0 0) (get_or header 1 0) ≡ Ok g
      → ¬ ((45 ≤ length session) × (8 ≤ length outcome) × (length image ≡ image_size g))
      → (after_start_call header image leave session outcome).number ≡ 12
  unfolding header_in
  start-lacks g n e lacks = by (leb 45 (length session)) (leb 8 (length outcome)) refl refl
    where
      by : (t u : Bool) → leb 45 (length session) ≡ t → leb 8 (length outcome) ≡ u → (after_start_call header image leave session outcome).number ≡ 12
      by true true p q =
          let m = leb-true 45 (length session) p in
          let k = leb-true 8 (length outcome) q in
          ap (λ (x : CallResult). x.number) (start-room header image leave session outcome n m k)
          ∙ ap (λ (x : Given). number_of x.outcome) (start-other g (header_in header) image (yes leave) e (λ s. lacks (m, k, s)))
      by true false p q =
          ap (λ (x : CallResult). x.number) (start-under-outcome header image leave session outcome n (leb-true 45 (length session) p) (leb-false 8 (length outcome) q))
          ∙ ap (λ (l : Lookup). cond (is_found l) 12 11) e
      by false u p q =
          ap (λ (x : CallResult). x.number) (start-under-session header image leave session outcome n (leb-false 45 (length session) p))
          ∙ ap (λ (l : Lookup). cond (is_found l) 12 11) e

  start-zeroed : Zeroed (after_start_call header image leave session outcome).number 45 session (after_start_call header image leave session outcome).first
  unfolding after_start_call
  start-zeroed z n =
      put-found 45 session (session_bytes begun.session) (session-length begun.session begun-twelve) n
      ∙ either NoneIfRefused (eqb (start_refusal header session outcome) 0) _ _ (none-start (header_in header) image (yes leave)) (none-refused _) z

  start-kept : Kept 45 session (after_start_call header image leave session outcome).first
  unfolding after_start_call
  start-kept = put-kept 45 session (session_bytes begun.session) (session-length begun.session begun-twelve)

  start-told : Told (after_start_call header image leave session outcome).number outcome (after_start_call header image leave session outcome).second
  unfolding after_start_call
  start-told = said begun.outcome outcome

  start-outcome : Kept 8 outcome (after_start_call header image leave session outcome).second
  unfolding after_start_call
  start-outcome = put-kept 8 outcome (outcome_bytes begun.outcome) (outcome-length begun.outcome)

  started-core : 17 ≤ length header → 45 ≤ length session → 8 ≤ length outcome
      → ((after_start_call header image leave session outcome).number ≡ number_of (start_of (header_in header) image (yes leave)).outcome)
      × (take 45 (after_start_call header image leave session outcome).first ≡ session_bytes (start_of (header_in header) image (yes leave)).session)
      × (take 8 (after_start_call header image leave session outcome).second ≡ outcome_bytes (start_of (header_in header) image (yes leave)).outcome)
  started-core n m k =
      let e = start-room header image leave session outcome n m k in
      let g = start_of (header_in header) image (yes leave) in
      let all = session-length g.session (start-twelve (header_in header) image (yes leave) (header-twelve header n)) in (
        ap (λ (x : CallResult). x.number) e,
        ap (λ (x : CallResult). take 45 x.first) e ∙ put-found 45 session (session_bytes g.session) all m,
        ap (λ (x : CallResult). take 8 x.second) e ∙ put-found 8 outcome (outcome_bytes g.outcome) (outcome-length g.outcome) k,
      )

  pub start-claims : StartClaims header image leave session outcome (after_start_call header image leave session outcome)
  start-claims = record {
    partless = λ n. ap (λ (x : CallResult). x.number) (start-partless header image leave session outcome n);
    eleven = start-eleven;
    twelve = start-lacks;
    zeroed = start-zeroed;
    told = start-told;
    kept_session = start-kept;
    kept_outcome = start-outcome;
    core = started-core;
  }

  -- a start that is not refused had a header and room for both
  pub started-onward : (after_start_call header image leave session outcome).number ≡ 0 → Never13 (after_start_call header image leave session outcome).first
  started-onward z = by (leb 17 (length header)) (leb 45 (length session)) (leb 8 (length outcome)) refl refl refl
    where
      other : (x : CallResult) → after_start_call header image leave session outcome ≡ x → ¬ (x.number ≡ 0) → ⊥
      other x e h = h (sym (ap (λ (y : CallResult). y.number) e) ∙ z)

      by : (t u v : Bool) → leb 17 (length header) ≡ t → leb 45 (length session) ≡ u → leb 8 (length outcome) ≡ v
          → Never13 (after_start_call header image leave session outcome).first
      by true true true p q r =
          let n = leb-true 17 (length header) p in
          let m = leb-true 45 (length session) q in
          let e = start-room header image leave session outcome n m (leb-true 8 (length outcome) r) in
          let g = start_of (header_in header) image (yes leave) in
          let t = start-twelve (header_in header) image (yes leave) (header-twelve header n) in
          let free = start-free (header_in header) image (yes leave) (sym (ap (λ (x : CallResult). x.number) e) ∙ z) in
          let all : length (session_bytes g.session) ≤ length session = omega (arith, session-length g.session t) in
          subst Never13 (sym (ap (λ (x : CallResult). x.first) e ∙ put_front session (session_bytes g.session) all))
          (next-step g.session (drop (length (session_bytes g.session)) session) t (session-claims.started (header_in header) image (yes leave) free))
      by true true false p q r =
          absurd (other _ (start-under-outcome header image leave session outcome (leb-true 17 (length header) p) (leb-true 45 (length session) q) (leb-false 8 (length outcome) r)) (neither (in_table (header_in header).part (header_in header).macros) 12 11 (λ k. omega arith) (λ k. omega arith)))
      by true false v p q r =
          absurd (other _ (start-under-session header image leave session outcome (leb-true 17 (length header) p) (leb-false 45 (length session) q)) (neither (in_table (header_in header).part (header_in header).macros) 12 11 (λ k. omega arith) (λ k. omega arith)))
      by false u v p q r = absurd (other _ (start-partless header image leave session outcome (leb-false 17 (length header) p)) (λ k. omega arith))
