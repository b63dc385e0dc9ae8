-- A board with KILL stored is silent from the first XRES on. Assumes nothing.
use mathlib.Core.List.{List}
use mathlib.Core.Path.{◌≡◌, refl, ap, subst, ◌∙◌}
use Prim.Native.Nat.{ℕ}
use borrow.Author.Tests.{eq-eqb}
use Rattle.std.proofs.Common.{Option}
use Rattle.flow.proofs.Keeping.{packet-keeps}
use Rattle.flow.specs.Calls.{reset}
use Rattle.flow.specs.Exchange.{decode, transferred, meet_on, meet}
use Rattle.flow.specs.Target.{Memory, idle, Target, Lists}
use Rattle.flow.specs.declared.Packet.{Packet}
use Rattle.flow.specs.declared.Packet.TheVariants as Packets
use Rattle.flow.specs.declared.Request.{Request}
use Rattle.parts.specs.declared.Geometry.{Geometry}
use Rattle.recovery.specs.Recovery.{Start, Leads}
use Rattle.session.specs.Calls.{State, Steps, none, answer, refusal, later, reaction, begun}
use Rattle.session.proofs.Demand.{start_gives}
use Rattle.session.proofs.Following.{no-packet}
use Rattle.session.specs.Given.{start_of}
use Rattle.session.specs.Outcomes.{Given, Ask}

-- as b₀ but for what has no charge, and nothing runs
pub record Same (b₀ b : Target) : Type 0 where
  pub silicon : b.silicon ≡ b₀.silicon
  pub memory : b.memory ≡ b₀.memory
  pub quiet : b.running ≡ idle

module _ (g : Geometry) (b₀ : Target) (kill : b₀.memory.stored ≡ 4) where
  -- and KILL is in effect
  record Silent (b : Target) : Type 0 where
    pub same : Same b₀ b
    pub effect : b.effect ≡ 4

  reset-silent : (b : Target) → Same b₀ b → Silent (reset g b)
  unfolding reset
  reset-silent b s =
      rw s.quiet (record {
        same = record { silicon = s.silicon; memory = s.memory; quiet = refl };
        effect = ap (λ (m : Memory). m.stored) s.memory ∙ kill;
      })

  transfer-silent : (q : Request) (l : Lists) (b : Target) → Silent b → Silent (transferred g q l b).target
  unfolding transferred
  transfer-silent q l b s = rw (eq-eqb b.effect 4 s.effect) s

  packet-silent : (d : Option Request) (l : Lists) (b : Target) → Silent b → Silent (meet_on g d l b).target
  packet-silent = packet-keeps g Silent (λ b s. reset-silent b s.same) transfer-silent

  -- before the first XRES the board has met nothing
  data Met (s : State) : Type 0 where
    nothing : s.stands ≡ Ask Packets.Xres → Same b₀ s.target → Met s
    silenced : Silent s.target → Met s

  xres-silent : (s : State) (p : Packet) → s.stands ≡ Ask Packets.Xres → s.stands ≡ Ask p → Same b₀ s.target → Silent (reaction g p s).target
  unfolding meet decode
  xres-silent s p x e same =
      let only : Packets.Xres ≡ p = cc in
      subst (λ (q : Packet). Silent (reaction g q s).target) only (reset-silent s.target same)

  same_of : (s : State) → Met s → Same b₀ s.target
  same_of s (nothing x same) = same
  same_of s (silenced q) = q.same

  stays-silent : {bytes : List ℕ} {n k : ℕ} (s s' : State) → Met s → Steps g bytes n k s s' → Met s'
  unfolding meet
  stays-silent s s' m none = m
  stays-silent s s' (nothing x same) (answer p e steps) = stays-silent _ s' (silenced (xres-silent s p x e same)) steps
  stays-silent s s' (silenced q) (answer p e steps) = stays-silent _ s' (silenced (packet-silent (decode p) s.lists s.target q)) steps
  stays-silent s s' (nothing x same) (refusal lent a number e steps) = stays-silent _ s' (nothing (rw e x) same) steps
  stays-silent s s' (silenced q) (refusal lent a number e steps) = stays-silent _ s' (silenced q) steps
  stays-silent s s' (nothing x same) (later a r e steps) = absurd (no-packet Packets.Xres r s.stands x e)
  stays-silent s s' (silenced q) (later a r e steps) = stays-silent _ s' (silenced q) steps

-- a whole session leaves the board as it was
pub session-silent : {g : Geometry} (x : Start g) (b : Target) → b.memory.stored ≡ 4 → b.running ≡ idle
    → (l : Lists) (n k : ℕ) (s : State) → Leads x b l n k s → Same b s.target
session-silent {g} x b kill quiet l n k s leads =
    let first = start_gives x.header x.bytes x.passes.checked x.leave x.unrefused in
    let s₀ = begun (start_of x.header x.bytes x.leave) b l in
    same_of g b kill s (stays-silent g b kill s₀ s (nothing (ap (λ (r : Given). r.outcome) first) (record { silicon = refl; memory = refl; quiet = quiet })) leads)
