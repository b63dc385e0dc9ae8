-- One over calls, from the claims on runs. Assumes nothing.
use mathlib.Core.Bool.{true}
use mathlib.Core.List.{List}
use mathlib.Core.Path.{◌≡◌, refl, sym, ap, subst, ◌∙◌}
use Prim.Native.Nat.{ℕ, zero, suc, ◌+◌, ◌≤◌}
use native.Mathlib.Nat.{zero-add, add-zero}
use native.Mathlib.Omega.{arith}
use Rattle.flow.proofs.Sealed.{sealed-holds, done-sealed}
use Rattle.flow.specs.Run.{run_after, started}
use Rattle.flow.specs.Sealing.{seals, HoldsThroughCut}
use Rattle.flow.specs.Session.{reported}
use Rattle.flow.specs.Target.{Target, Lists}
use Rattle.flow.specs.Terms.{Startable}
use Rattle.flow.specs.declared.Packet.{Packet}
use Rattle.image.specs.Image.{Image}
use Rattle.parts.specs.declared.Geometry.{Geometry}
use Rattle.recovery.specs.Recovery.{Start, image_in, Leads}
use Rattle.sealing.specs.Sealed.{Succeeds, onward, SealedCallsHold, Sealed, DoneSealedCalls}
use Rattle.session.proofs.Demand.{followed, reported-session}
use Rattle.session.specs.Calls.{State, Steps, none, answer, refusal, later, begun, reaction, answered}
use Rattle.session.specs.Given.{start_of, step_with}
use Rattle.session.specs.Outcomes.{Ask, Reported}
use Rattle.session.specs.declared.Report.{Report}

module _ (g : Geometry) (bytes : List ℕ) where
  -- one list of calls after another
  pub joined : (n k n' k' a o : ℕ) {s t u : State} → a ≡ n + n' → o ≡ k + k' → Steps g bytes n k s t → Steps g bytes n' k' t u → Steps g bytes a o s u
  joined n k n' k' a o e d none q = rw (e ∙ zero-add n', d ∙ zero-add k') q
  joined (suc n) k n' k' a o e d (answer p h steps) q =
      let more : a ≡ suc (n + n') = omega arith in
      rw more (answer p h (joined n k n' k' (n + n') o refl d steps q))
  joined n (suc k) n' k' a o e d (refusal lent w number h steps) q =
      let more : o ≡ suc (k + k') = omega arith in
      rw more (refusal lent w number h (joined n k n' k' a (k + k') e refl steps q))
  joined n (suc k) n' k' a o e d (later w r h steps) q =
      let more : o ≡ suc (k + k') = omega arith in
      rw more (later w r h (joined n k n' k' a (k + k') e refl steps q))

  -- the m-th answer of a list of calls, what is before it and what is behind
  record Parted (m n : ℕ) (s u : State) : Type 0 where
    pub others : ℕ
    pub state : State
    pub before : Steps g bytes m others s state
    pub packet : Packet
    pub stands : state.stands ≡ Ask packet
    pub answers_after : ℕ
    pub others_after : ℕ
    pub after : Steps g bytes answers_after others_after (answered g packet (reaction g packet state) (step_with state.session bytes (reaction g packet state).answer) state) u
    pub counted : m + suc answers_after ≡ n

  parted : (m n k : ℕ) {s u : State} → suc m ≤ n → Steps g bytes n k s u → Parted m n s u
  parted m n k h none = absurd (omega arith)
  parted zero (suc n) k {s} h (answer p is steps) = record { others = 0; state = s; before = none; packet = p; stands = is; answers_after = n; others_after = k; after = steps; counted = zero-add (suc n) }
  parted (suc m) (suc n) k h (answer p is steps) =
      let z = parted m n k (omega arith) steps in
      record { others = z.others; state = z.state; before = answer p is z.before; packet = z.packet; stands = z.stands; answers_after = z.answers_after; others_after = z.others_after; after = z.after; counted = omega (arith, z.counted) }
  parted m n (suc k) h (refusal lent w number is steps) =
      let z = parted m n k h steps in
      record { others = suc z.others; state = z.state; before = refusal lent w number is z.before; packet = z.packet; stands = z.stands; answers_after = z.answers_after; others_after = z.others_after; after = z.after; counted = z.counted }
  parted m n (suc k) h (later w r is steps) =
      let z = parted m n k h steps in
      record { others = suc z.others; state = z.state; before = later w r is z.before; packet = z.packet; stands = z.stands; answers_after = z.answers_after; others_after = z.others_after; after = z.after; counted = z.counted }

module _ {g : Geometry} (x : Start g) (b : Target) (may : Startable g b) (l : Lists) where
  abbrev i : Image
  i = image_in x

  abbrev first : State
  first = begun (start_of x.header x.bytes x.leave) b l

  abbrev target_after : ℕ → Target
  target_after n = (run_after i n (started b l)).target

  -- the target of a list of calls is the run's
  target-of : (n k : ℕ) (s : State) → Leads x b l n k s → s.target ≡ target_after n
  target-of n k s leads = (followed g x.header x.bytes x.leave x.passes x.unrefused b may l n k s leads).target

  -- and so it is one answer later
  target-next : (n k : ℕ) (s : State) → Leads x b l n k s → (p : Packet) → s.stands ≡ Ask p → (reaction g p s).target ≡ target_after (suc n)
  target-next n k s leads p h =
      target-of (suc n) k (onward x p s) (joined g x.bytes n k 1 0 (suc n) k (omega arith) (sym (add-zero k)) leads (answer p h none))

  -- a step of the run that seals, in a list of calls that goes beyond it
  pub sealed-in : (m n k : ℕ) (u : State) → Leads x b l n k u → suc m ≤ n → seals (target_after m) (target_after (suc m)) ≡ true → Sealed x b l n u
  sealed-in m n k u leads within e =
      let z = parted g x.bytes m n k within leads in
      record {
        answers = m;
        others = z.others;
        state = z.state;
        before = z.before;
        succeeds = record {
          packet = z.packet;
          stands = z.stands;
          seals = subst (λ (t : Target). seals t (reaction g z.packet z.state).target ≡ true) (sym (target-of m z.others z.state z.before))
              (subst (λ (t : Target). seals (target_after m) t ≡ true) (sym (target-next m z.others z.state z.before z.packet z.stands)) e);
        };
        answers_after = z.answers_after;
        others_after = z.others_after;
        after = z.after;
        counted = z.counted;
      }

  done : (n k : ℕ) (u : State) → Leads x b l n k u → (r : Report) → u.stands ≡ Reported r → r.number ≡ 0 → Sealed x b l n u
  done n k u leads r is zero_is =
      let f = followed g x.header x.bytes x.leave x.passes x.unrefused b may l n k u leads in
      let run : (run_after i n (started b l)).session ≡ reported r.number r.step r.transfers = reported-session i _ r (sym f.stands ∙ is) in
      let w = done-sealed g x.header x.bytes x.passes b may l n r.step r.transfers (run ∙ ap (λ (z : ℕ). reported z r.step r.transfers) zero_is) in
      sealed-in w.before n k u leads w.within w.seals

  holds : (n k : ℕ) (s : State) → Leads x b l n k s → (y : Succeeds g s) (n' k' : ℕ) (u : State) → Steps g x.bytes n' k' (onward x y.packet s) u
      → HoldsThroughCut i u.target
  holds n k s leads y n' k' u steps =
      let last : u.target ≡ target_after (suc n + n') =
      target-of (suc n + n') (k + k') u (joined g x.bytes n k (suc n') k' (suc n + n') (k + k') (omega arith) refl leads (answer y.packet y.stands steps)) in
      let sealed : seals (target_after n) (target_after (suc n)) ≡ true =
      subst (λ (t : Target). seals t (target_after (suc n)) ≡ true) (target-of n k s leads)
      (subst (λ (t : Target). seals s.target t ≡ true) (target-next n k s leads y.packet y.stands) y.seals) in
      subst (HoldsThroughCut i) (sym last) (sealed-holds g x.header x.bytes x.passes b may l n n' sealed)

-- whatever the line did before or does after, and whatever the session reports
pub sealed-calls-hold : SealedCallsHold
sealed-calls-hold g x b may l n k s leads y n' k' u steps = holds x b may l n k s leads y n' k' u steps

-- every session that says done has sealed its board on the way
pub done-sealed-calls : DoneSealedCalls
done-sealed-calls g x b may l n k u leads r is zero_is = done x b may l n k u leads r is zero_is
