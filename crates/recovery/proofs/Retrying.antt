-- A session begun while a call runs is one begun on what its XRES makes of the board. Assumes nothing.
use mathlib.Core.Bool.{false}
use mathlib.Core.List.{List, []}
use mathlib.Core.Path.{◌≡◌, refl, sym, ap, subst}
use Prim.Native.Nat.{ℕ, suc}
use Rattle.flow.proofs.Keeping.{cut_keeps}
use Rattle.flow.specs.Calls.{finish, dropped, reset}
use Rattle.flow.specs.Cuts.{cut_memory, CutTo}
use Rattle.flow.specs.Exchange.{decode, Met, meet}
use Rattle.flow.specs.Target.{Residue, Running, idle, busy, Target}
use Rattle.flow.specs.declared.Packet.{Packet}
use Rattle.flow.specs.declared.Packet.TheVariants as Packets
use Rattle.parts.specs.declared.Geometry.{Geometry}
use Rattle.recovery.specs.Recovery.{RetriesHold}
use Rattle.session.proofs.Demand.{start_gives}
use Rattle.session.proofs.Following.{no-packet}
use Rattle.session.specs.Calls.{State, Steps, answer, refusal, later, reaction, answered, begun}
use Rattle.session.specs.Given.{start_of, step_with}
use Rattle.session.specs.Outcomes.{Given, Ask}

module _ (g : Geometry) (b : Target) where
  abbrev after : Target
  after = dropped g b.running b

  -- XRES finds nothing to drop any more
  reset-twice : reset g after ≡ reset g b
  unfolding reset finish
  reset-twice = by b.running refl
    where
      by : (x : Running) → b.running ≡ x → reset g (dropped g x b) ≡ reset g b
      by idle e = refl
      by (busy n s r c) e = rw e

  any : Residue
  any = record { flash = []; locks = []; latch = []; sysarg = 0; new_level = false }

  drop-cuts : CutTo b after
  unfolding finish
  drop-cuts = by b.running refl
    where
      by : (x : Running) → b.running ≡ x → CutTo b (dropped g x b)
      by idle e = record { residue = any; flash = rw e; locks = rw e; stored = rw e; quiet = e; silicon = refl; latch = refl; params = refl }
      by (busy n s r c) e =
          let same : cut_memory b r ≡ (dropped g (busy n s r c) b).memory = rw e in
          record {
            residue = r;
            flash = rw e;
            locks = rw e;
            stored = rw e;
            quiet = refl;
            silicon = refl;
            latch = rw (sym same) (cut_keeps b r).latch;
            params = refl;
          }

  -- the same state with the board that the drop leaves
  abbrev moved : State → State
  moved s = record { session = s.session; stands = s.stands; target = after; lists = s.lists; monitor = s.monitor; traffic = s.traffic }

  -- both boards meet XRES alike
  met-alike : (s : State) (p : Packet) → s.stands ≡ Ask Packets.Xres → s.stands ≡ Ask p → s.target ≡ b → reaction g p (moved s) ≡ reaction g p s
  unfolding meet decode
  met-alike s p x e at_b =
      let only : Packets.Xres ≡ p = cc in
      subst (λ (q : Packet). reaction g q (moved s) ≡ reaction g q s) only (rw (reset-twice, at_b))

  twin : {bytes : List ℕ} (n k : ℕ) (s s' : State) → s.stands ≡ Ask Packets.Xres → s.target ≡ b → Steps g bytes (suc n) k s s' → Steps g bytes (suc n) k (moved s) s'
  twin {bytes} n k s s' x at_b (answer p e steps) =
      answer p e
      (subst (λ (m : Met). Steps g bytes n k (answered g p m (step_with s.session bytes m.answer) s) s') (sym (met-alike s p x e at_b)) steps)
  twin n k s s' x at_b (refusal lent a number e steps) = refusal lent a number e (twin n _ _ s' (rw e x) at_b steps)
  twin n k s s' x at_b (later a r e steps) = absurd (no-packet Packets.Xres r s.stands x e)

pub retries-hold : RetriesHold
retries-hold g b = record {
  cut = drop-cuts g b;
  same = λ x l n k s leads.
      let first = start_gives x.header x.bytes x.passes.checked x.leave x.unrefused in
      twin g b n k (begun (start_of x.header x.bytes x.leave) b l) s (ap (λ (r : Given). r.outcome) first) refl leads;
}
