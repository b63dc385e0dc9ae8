-- The claims on every session that a call gave. Assumes nothing.
use mathlib.Core.Bool.{Bool, true, false, cond}
use mathlib.Core.List.{List}
use mathlib.Core.Path.{◌≡◌, refl, sym, ap, subst, ◌∙◌}
use Prim.Native.Nat.{ℕ, ◌≤◌}
use native.Mathlib.Omega.{arith}
use borrow.Author.Tests.{eqb-true}
use lib.Dec.{eqb}
use lib.ListN.{length}
use Rattle.flow.specs.Session.{running, reported, move_at, step_of}
use Rattle.flow.specs.Session as Flow
use Rattle.flow.specs.declared.Answer.{Answer}
use Rattle.image.specs.Checks.{fault_in, image_fault}
use Rattle.image.specs.Image.{Image, image_of}
use Rattle.image.specs.declared.Header.{Header}
use Rattle.parts.specs.Parts.{Lookup, lookup_of}
use Rattle.parts.specs.Sizes.{image_size}
use Rattle.parts.specs.declared.Geometry.{Geometry}
use Rattle.flow.specs.Packets.{answers}
use Rattle.refusals.proofs.Numbers.{some_number}
use Rattle.session.specs.Given.{start_refused, start_of, refusing, outcome_at, giving, step_on, step_for, step_with}
use Rattle.session.specs.Kept.{Unrefused, SessionClaims}
use Rattle.session.specs.Possible.{possible_in, possible_for, possible}
use Rattle.session.specs.Sessions.{stand_of, most_of, first_for, resumed}
use Rattle.session.specs.declared.Report.{Report}
use Rattle.session.specs.declared.Session.{Session}
use Rattle.session.proofs.Counted.{count_in}
use Rattle.session.proofs.Demand.{first-possible, start_gives}
use Rattle.session.proofs.Possibility.{parts, step-possible}
use Rattle.std.specs.Prelude.{Ok, Err}
use Rattle.session.proofs.Stepping.{looked-up, header-kept, on-finished, on-fit, on-misfit, given_back}
use Rattle.session.specs.Outcomes.{Given, Outcome, Refused, Reported}

start-faulty : (h : Header) (bytes : List ℕ) (leave : Bool) → eqb (image_fault h bytes) 0 ≡ false → start_of h bytes leave ≡ start_refused (image_fault h bytes)
unfolding start_of
start-faulty h bytes leave e = simp e

-- possible for the session's own look-up
possible-by : (s : Session) {l : Lookup} → lookup_of s.header.part s.header.macros ≡ l → possible s ≡ possible_for l s
possible-by s e = ap (λ (k : Lookup). possible_for k s) e

module _ (g : Geometry) (s : Session) (bytes : List ℕ) (a : Answer) (found : lookup_of s.header.part s.header.macros ≡ Ok g) where
  -- what an unrefused step gave is possible, and its count within the formula
  Kept : Given → Type 0
  Kept r = Unrefused r → possible_in g r.session ≡ true

  kept-refusing : (k : ℕ) → Kept (refusing s k)
  unfolding Kept
  kept-refusing k h = absurd (h k refl)

  kept_on : possible_in g s ≡ true → (t u : Bool) → s.finished ≡ t
      → answers (move_at (image_of g s.header bytes) s.position).request a ≡ u → Kept (step_on g s bytes a)
  unfolding Kept
  kept_on can true u e f = subst Kept (sym (on-finished g s bytes a e)) (λ h. can)
  kept_on can false true e f =
      subst Kept (sym (on-fit g s bytes a e f)) (λ h. step-possible g bytes s a can)
  kept_on can false false e f = subst Kept (sym (on-misfit g s bytes a e f)) (kept-refusing 14)

  kept_for : (t u : Bool) → possible_in g s ≡ t → eqb (length bytes) (image_size g) ≡ u → Kept (step_for (Ok g) s bytes a)
  kept_for true true e f = subst Kept (sym (simp (e, f))) (kept_on e s.finished _ refl refl)
  kept_for true false e f = subst Kept (sym (simp (e, f))) (kept-refusing 12)
  kept_for false u e f = subst Kept (sym (simp e)) (kept-refusing 13)

  kept_step : Kept (step_with s bytes a)
  kept_step = subst Kept (sym (looked-up s bytes a (Ok g) found)) (kept_for (possible_in g s) (eqb (length bytes) (image_size g)) refl refl)

-- ---- the header is kept, and a report's count is the session's

module _ (s : Session) (bytes : List ℕ) (a : Answer) where
  record Right (r : Given) : Type 0 where
    pub header : r.session.header ≡ s.header
    pub count : (t : Report) → r.outcome ≡ Reported t → t.transfers ≡ r.session.transfers

  right-refusing : (k : ℕ) → Right (refusing s k)
  right-refusing k = record { header = refl; count = λ t e. let z : ◌≡◌ {A = ℕ} 0 1 = cc in absurd (omega arith) }

  reported-count : (i : Image) (x : Flow.SessionState) (t : Report) → outcome_at i x ≡ Reported t → (c : ℕ) → count_in x ≡ c → t.transfers ≡ c
  reported-count i (running o d h) t e c f = let z : ◌≡◌ {A = ℕ} 0 1 = cc in absurd (omega arith)
  reported-count i (reported x r h) t e c f = let same : record { number = x; step = r; transfers = h } ≡ t = cc in ap (λ (q : Report). q.transfers) (sym same) ∙ f

  count-stand : (s' : Session) → count_in (stand_of s') ≡ s'.transfers
  count-stand s' = by s'.finished
    where
      by : (t : Bool)
          → count_in (cond t (reported s'.number s'.step s'.transfers)
          (running s'.position s'.counters s'.transfers))
          ≡ s'.transfers
      by true = refl
      by false = refl

  right-giving : (i : Image) (s' : Session) → s'.header ≡ s.header → Right (giving i s')
  right-giving i s' e = record { header = e; count = λ t f. reported-count i (stand_of s') t f s'.transfers (count-stand s') }

  right-either : (t : Bool) (r r' : Given) → Right r → Right r' → Right (cond t r r')
  right-either true r r' h h' = h
  right-either false r r' h h' = h'

  right-for : (l : Lookup) → Right (step_for l s bytes a)
  right-for (Err n) = right-refusing 13
  right-for (Ok g) =
      let i = image_of g s.header bytes in
      right-either (possible_in g s) _ _
      (right-either (eqb (length bytes) (image_size g)) _ _
      (right-either s.finished _ _ (right-giving i s refl)
      (right-either (answers (move_at i s.position).request a) _ _
      (right-giving i (resumed g s (step_of i (stand_of s) a)) (header-kept g s (step_of i (stand_of s) a))) (right-refusing 14)))
      (right-refusing 12))
      (right-refusing 13)

  right-step : Right (step_with s bytes a)
  right-step = subst Right (sym (looked-up s bytes a (lookup_of s.header.part s.header.macros) refl)) (right-for (lookup_of s.header.part s.header.macros))

pub header-stays : (s : Session) (bytes : List ℕ) (a : Answer) → (step_with s bytes a).session.header ≡ s.header
header-stays s bytes a = (right-step s bytes a).header

-- ---- the claims

kept : (s : Session) (bytes : List ℕ) (a : Answer) → Unrefused (step_with s bytes a) → possible (step_with s bytes a).session ≡ true
unfolding Kept
kept s bytes a h = by (lookup_of s.header.part s.header.macros) refl
  where
    by : (l : Lookup) → lookup_of s.header.part s.header.macros ≡ l → possible (step_with s bytes a).session ≡ true
    by (Err n) e = absurd (h 13 (ap (λ (r : Given). r.outcome) (looked-up s bytes a (Err n) e)))
    by (Ok g) e =
        let same = (right-step s bytes a).header in
        let found : lookup_of (step_with s bytes a).session.header.part (step_with s bytes a).session.header.macros ≡ Ok g
        = ap (λ (k : Header). lookup_of k.part k.macros) same ∙ e in
        possible-by (step_with s bytes a).session found ∙ kept_step g s bytes a e h

within : (s : Session) (bytes : List ℕ) (a : Answer) (g : Geometry) (r : Report) → lookup_of s.header.part s.header.macros ≡ Ok g
    → (step_with s bytes a).outcome ≡ Reported r
    → r.transfers ≤ most_of g
unfolding Kept
within s bytes a g r e t =
    let free : Unrefused (step_with s bytes a) = λ n f. clash r n (step_with s bytes a).outcome t f in
    let low = (parts g (step_with s bytes a).session (kept_step g s bytes a e free)).count in
    omega (arith, (right-step s bytes a).count r t, low)
  where
    clash : (r : Report) (n : ℕ) (o : Outcome) → o ≡ Reported r → o ≡ Refused n → ⊥
    clash r n o p q = let z : ◌≡◌ {A = ℕ} 0 1 = cc in omega arith

begins : (h : Header) (bytes : List ℕ) (leave : Bool) → Unrefused (start_of h bytes leave) → possible (start_of h bytes leave).session ≡ true
begins h bytes leave free = by (eqb (image_fault h bytes) 0) refl
  where
    found_in : (l : Lookup) → lookup_of h.part h.macros ≡ l → image_fault h bytes ≡ 0 → possible (first_for h) ≡ true
    found_in (Err r) e z = absurd (omega (arith, some_number r, ap (λ (k : Lookup). fault_in k h bytes) (sym e) ∙ z))
    found_in (Ok g) e z = possible-by (first_for h) e ∙ first-possible g h bytes e z

    by : (t : Bool) → eqb (image_fault h bytes) 0 ≡ t → possible (start_of h bytes leave).session ≡ true
    by true e =
        let z = eqb-true (image_fault h bytes) 0 e in
        ap (λ (r : Given). possible r.session) (start_gives h bytes z leave free) ∙ found_in (lookup_of h.part h.macros) refl z
    by false e = absurd (free (image_fault h bytes) (ap (λ (r : Given). r.outcome) (start-faulty h bytes leave e)))

pub session-claims : SessionClaims
session-claims = record { started = begins; stepped = kept; refused = given_back; counted = within }
