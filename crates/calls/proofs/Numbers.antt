-- What the number that starting or a step gives says of it. Assumes nothing.
use mathlib.Core.Bool.{Bool, true, false, false≢true, cond}
use mathlib.Core.List.{List}
use mathlib.Core.Path.{◌≡◌, refl, sym, ap, subst, ◌∙◌}
use Prim.Native.Nat.{ℕ}
use native.Mathlib.Omega.{arith}
use borrow.Author.Tests.{eqb-false}
use lib.Dec.{eqb}
use lib.ListN.{length}
use Rattle.decoding.proofs.Backs.{outcome-length}
use Rattle.encoding.proofs.Putting.{put-found}
use Rattle.encoding.specs.Buffers.{put_into}
use Rattle.calls.specs.Claims.{Told}
use Rattle.encoding.specs.Outcomes.{outcome_bytes, number_of}
use Rattle.flow.specs.Packets.{answers}
use Rattle.flow.specs.Session.{running, reported, move_at, step_of}
use Rattle.flow.specs.Session as Flow
use Rattle.flow.specs.declared.Answer.{Answer}
use Rattle.image.specs.Checks.{image_fault}
use Rattle.image.specs.Image.{Image, image_of}
use Rattle.image.specs.declared.Header.{Header}
use Rattle.parts.specs.Parts.{Lookup, lookup_of}
use Rattle.parts.specs.Sizes.{image_size}
use Rattle.parts.specs.declared.Geometry.{Geometry}
use Rattle.session.proofs.Stepping.{looked-up, not-refused}
use Rattle.session.specs.Given.{start_refused, started_on, wants_leave, start_of, refusing, outcome_at, giving, step_on, step_for, step_with}
use Rattle.session.specs.Kept.{Unrefused}
use Rattle.session.specs.Outcomes.{Given, Outcome, Refused, Ask, Reported}
use Rattle.session.specs.Possible.{possible_in, possible_for, possible}
use Rattle.session.specs.Sessions.{stand_of, resumed}
use Rattle.std.specs.Prelude.{Ok, Err}
use Rattle.session.specs.declared.Session.{Session}

pub either : (P : Given → Type 0) (t : Bool) (r r' : Given) → P r → P r' → P (cond t r r')
either P true r r' h h' = h
either P false r r' h h' = h'

-- a number other than 0 is a refusal's
pub is-refused : (o : Outcome) → ¬ (number_of o ≡ 0) → o ≡ Refused (number_of o)
is-refused (Refused n) h = refl
is-refused (Ask p) h = absurd (h refl)
is-refused (Reported r) h = absurd (h refl)

-- its outcome's bytes have it
pub said : (o : Outcome) (outcome : List ℕ) → Told (number_of o) outcome (put_into outcome (outcome_bytes o))
said o outcome z n = put-found 8 outcome (outcome_bytes o) (outcome-length o) n ∙ ap outcome_bytes (is-refused o z)

-- neither of two numbers is 0
pub neither : (t : Bool) (m n : ℕ) → ¬ (m ≡ 0) → ¬ (n ≡ 0) → ¬ (cond t m n ≡ 0)
neither true m n a b = a
neither false m n a b = b

-- what a step gives holds of every way that it can end
module _ (P : Given → Type 0) (g : Geometry) (s : Session) (bytes : List ℕ) (a : Answer)
    (goes : (s' : Session) → P (giving (image_of g s.header bytes) s')) (fourteen : P (refusing s 14)) (twelve : P (refusing s 12)) where
  on-ways : P (step_on g s bytes a)
  on-ways =
      let i = image_of g s.header bytes in
      either P s.finished _ _ (goes s)
      (either P (answers (move_at i s.position).request a) _ _ (goes (resumed g s (step_of i (stand_of s) a))) fourteen)

  sized-ways : P (cond (eqb (length bytes) (image_size g)) (step_on g s bytes a) (refusing s 12))
  sized-ways = either P (eqb (length bytes) (image_size g)) _ _ on-ways twelve

-- with 0 nothing was refused
Free : Given → Type 0
Free r = number_of r.outcome ≡ 0 → Unrefused r

free-refusing : (s : Session) (k : ℕ) → ¬ (k ≡ 0) → Free (refusing s k)
unfolding Free
free-refusing s k h z = absurd (h z)

free-giving : (i : Image) (s : Session) → Free (giving i s)
unfolding Free
free-giving i s z n e = not-refused i (stand_of s) n e

free-for : (l : Lookup) (s : Session) (bytes : List ℕ) (a : Answer) → Free (step_for l s bytes a)
free-for (Err n) s bytes a = free-refusing s 13 (λ z. omega arith)
free-for (Ok g) s bytes a =
    either Free (possible_in g s) _ _
    (sized-ways Free g s bytes a (free-giving (image_of g s.header bytes)) (free-refusing s 14 (λ z. omega arith)) (free-refusing s 12 (λ z. omega arith)))
    (free-refusing s 13 (λ z. omega arith))

pub step-free : (s : Session) (bytes : List ℕ) (a : Answer) → number_of (step_with s bytes a).outcome ≡ 0 → Unrefused (step_with s bytes a)
unfolding step_with Free
step-free s bytes a = free-for (lookup_of s.header.part s.header.macros) s bytes a

free-start : (h : Header) (n : ℕ) → ¬ (n ≡ 0) → Free (start_refused n)
unfolding Free
free-start h n k z = absurd (k z)

free-started : (h : Header) → Free (started_on h)
unfolding Free
free-started h z n e = let z : ◌≡◌ {A = ℕ} 0 1 = cc in omega arith

pub start-free : (h : Header) (bytes : List ℕ) (leave : Bool) → number_of (start_of h bytes leave).outcome ≡ 0 → Unrefused (start_of h bytes leave)
unfolding start_of Free
start-free h bytes leave = by (eqb (image_fault h bytes) 0) refl
  where
    by : (t : Bool) → eqb (image_fault h bytes) 0 ≡ t
        → Free (cond t (cond (wants_leave h leave) (start_refused 15) (started_on h)) (start_refused (image_fault h bytes)))
    by true e = either Free (wants_leave h leave) _ _ (free-start h 15 (λ z. omega arith)) (free-started h)
    by false e = free-start h (image_fault h bytes) (eqb-false (image_fault h bytes) 0 e)

-- a possible session is not refused with 13
Not13 : Given → Type 0
Not13 r = ¬ (number_of r.outcome ≡ 13)

not13-refusing : (s : Session) (k : ℕ) → ¬ (k ≡ 13) → Not13 (refusing s k)
unfolding Not13
not13-refusing s k h = h

gives-zero : (i : Image) (x : Flow.SessionState) → number_of (outcome_at i x) ≡ 0
gives-zero i (running p c h) = refl
gives-zero i (reported x t h) = refl

not13-giving : (i : Image) (s : Session) → Not13 (giving i s)
unfolding Not13
not13-giving i s e = omega (arith, e, gives-zero i (stand_of s))

pub not-thirteen : (s : Session) (bytes : List ℕ) (a : Answer) → possible s ≡ true → ¬ (number_of (step_with s bytes a).outcome ≡ 13)
unfolding Not13
not-thirteen s bytes a can = by (lookup_of s.header.part s.header.macros) refl
  where
    by : (l : Lookup) → lookup_of s.header.part s.header.macros ≡ l → Not13 (step_with s bytes a)
    by (Err n) e = absurd (false≢true (sym (ap (λ (l : Lookup). possible_for l s) e) ∙ can))
    by (Ok g) e =
        let is : possible_in g s ≡ true = sym (ap (λ (l : Lookup). possible_for l s) e) ∙ can in
        let to : step_with s bytes a ≡ cond (eqb (length bytes) (image_size g)) (step_on g s bytes a) (refusing s 12) = looked-up s bytes a (Ok g) e ∙ simp is in
        subst Not13 (sym to)
        (sized-ways Not13 g s bytes a (not13-giving (image_of g s.header bytes)) (not13-refusing s 14 (λ z. omega arith)) (not13-refusing s 12 (λ z. omega arith)))
