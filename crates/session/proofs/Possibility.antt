-- A possible session as facts; the session that starting gives and what a step makes of a possible one are possible. Assumes nothing.
use mathlib.Core.Bool.{Bool, true, false, false≢true, ◌&&◌, cond, and-false}
use mathlib.Core.List.{List}
use mathlib.Core.Path.{◌≡◌, refl, sym, ap, ◌∙◌}
use Prim.Native.Nat.{ℕ, ◌≤◌}
use native.Mathlib.Omega.{arith}
use borrow.Author.Tests.{lt-ltb, le-leb, ltb-true, leb-true}
use lib.Dec.{eqb, leb, ltb}
use Rattle.flow.specs.Session.{running, reported, step_of}
use Rattle.flow.specs.Session as Flow
use Rattle.flow.specs.declared.Answer.{Answer}
use Rattle.flow.specs.declared.Packet.TheVariants.{Xres}
use Rattle.image.specs.Checks.{image_fault}
use Rattle.image.specs.Image.{image_of}
use Rattle.image.specs.declared.Header.{Header}
use Rattle.flow.specs.Session.{move_count}
use Rattle.parts.proofs.Table.{both}
use Rattle.parts.specs.declared.Geometry.{Geometry}
use Rattle.session.specs.Given.{start_of, started_on}
use Rattle.session.specs.Possible.{header_fits, running_fits, report_fits, possible_in}
use Rattle.session.specs.Sessions.{stand_of, most_of, resumed}
use Rattle.session.specs.declared.Session.{Session}
use Rattle.session.proofs.Closed.{Within, Stands, step-stands}
use Rattle.session.specs.Outcomes.{Given, Refused, Ask}

pub both_true : {a b : Bool} → a ≡ true → b ≡ true → (a && b) ≡ true
both_true p q = rw (p, q)

-- the parts of 13's test
pub record Parts (g : Geometry) (s : Session) : Type 0 where
  pub header : header_fits g s.header ≡ true
  pub count : s.transfers ≤ most_of g
  pub stands : cond s.finished (report_fits s.number s.step) (running_fits g s.position s.counters) ≡ true

pub parts : (g : Geometry) (s : Session) → possible_in g s ≡ true → Parts g s
unfolding possible_in
parts g s h =
    let t = both (header_fits g s.header && leb s.transfers (most_of g)) _ h in
    let u = both (header_fits g s.header) (leb s.transfers (most_of g)) t.0 in
    record { header = u.0; count = leb-true _ _ u.1; stands = t.1 }

pub whole : (g : Geometry) (s : Session) → Parts g s → possible_in g s ≡ true
unfolding possible_in
whole g s p = both_true (both_true p.header (le-leb _ _ p.count)) p.stands

module _ (g : Geometry) (h : Header) (bytes : List ℕ) where
  -- where a possible session stands
  pub stands_of : (s : Session) → Parts g s → Stands (image_of g h bytes) (stand_of s)
  stands_of s p = by s.finished refl
    where
      by : (t : Bool) → s.finished ≡ t → Stands (image_of g h bytes) (stand_of s)
      by true e = rw e (rw e at p.stands)
      by false e =
          let q : running_fits g s.position s.counters ≡ true = rw e at p.stands in
          let t = both (ltb s.position.at (move_count g s.position.entry) && leb s.counters.waits 16 && ltb s.counters.polls 10000) _ q in
          let u = both (ltb s.position.at (move_count g s.position.entry) && leb s.counters.waits 16) _ t.0 in
          let v = both (ltb s.position.at (move_count g s.position.entry)) _ u.0 in
          let w : Within (image_of g h bytes) s.position s.counters =
          record { at = ltb-true _ _ v.0; waits = leb-true _ _ v.1; polls = ltb-true _ _ u.1; attempts = ltb-true _ _ t.1 } in
          rw e w

  -- a session that is made to stand where 13 allows
  pub resumed-parts : (s : Session) → header_fits g s.header ≡ true → (x : Flow.SessionState) → Stands (image_of g h bytes) x → Parts g (resumed g s x)
  unfolding resumed
  resumed-parts s e (running o d t) q =
      record {
        header = e;
        count = omega arith;
        stands = both_true (both_true (both_true (lt-ltb _ _ q.at) (le-leb _ _ q.waits)) (lt-ltb _ _ q.polls)) (lt-ltb _ _ q.attempts);
      }
  resumed-parts s e (reported x r t) q = record { header = e; count = omega arith; stands = q }

-- a step keeps a session possible
pub step-possible : (g : Geometry) (bytes : List ℕ) (s : Session) (a : Answer) → possible_in g s ≡ true
    → possible_in g (resumed g s (step_of (image_of g s.header bytes) (stand_of s) a)) ≡ true
step-possible g bytes s a h =
    let i = image_of g s.header bytes in
    let p = parts g s h in
    whole g _ (resumed-parts g s.header bytes s p.header (step_of i (stand_of s) a) (step-stands i (stand_of s) a (stands_of g s.header bytes s p)))

-- with leave no image that passes is refused
pub granted : (h : Header) (bytes : List ℕ) → image_fault h bytes ≡ 0 → (n : ℕ) → ¬ ((start_of h bytes true).outcome ≡ Refused n)
unfolding start_of
granted h bytes e n f =
    let taken : start_of h bytes true ≡ started_on h = rw (e, and-false (eqb h.level 4)) refl in
    let z : Ask Xres ≡ Refused n = ap (λ (g : Given). g.outcome) (sym taken) ∙ f in
    let t : false ≡ true = cc z in
    false≢true t
