-- Answered each time, a session comes to wherever the run comes: lists of calls that demand 3 speaks of exist. Assumes nothing.
use mathlib.Core.Bool.{Bool}
use mathlib.Core.List.{List}
use mathlib.Core.Path.{◌≡◌, refl, sym, ap, subst, ◌∙◌}
use Prim.Native.Nat.{ℕ, zero, suc, ◌≤◌}
use lib.ListN.{length}
use Rattle.flow.proofs.Demand.{stays}
use Rattle.flow.specs.Packets.{packet_of}
use Rattle.flow.specs.Run.{Run, advance, run_after, started}
use Rattle.flow.specs.Session.{running, reported, move_at}
use Rattle.flow.specs.Session as Flow
use Rattle.flow.specs.Target.{Target, Lists}
use Rattle.flow.specs.Terms.{Passes, Startable}
use Rattle.image.specs.Image.{Image, image_of}
use Rattle.image.specs.declared.Header.{Header}
use Rattle.parts.specs.Parts.{lookup_of}
use Rattle.parts.specs.Sizes.{image_size}
use Rattle.parts.specs.declared.Geometry.{Geometry}
use Rattle.session.specs.Calls.{State, Steps, none, answer, reaction, answered, begun}
use Rattle.session.specs.Given.{start_of, outcome_at, step_with}
use Rattle.session.specs.Sessions.{most_of}
use Rattle.session.proofs.Counted.{count_in}
use Rattle.session.proofs.Demand.{all, low, followed}
use Rattle.std.specs.Prelude.{Ok}
use Rattle.session.proofs.Following.{Follows, follow-answer}
use Rattle.session.specs.Outcomes.{Refused, Ask}

module _ (g : Geometry) (h : Header) (bytes : List ℕ) (found : lookup_of h.part h.macros ≡ Ok g) (size : length bytes ≡ image_size g) where
  abbrev i : Image
  i = image_of g h bytes

  -- n steps of the run, by calls; fewer where a report stands before
  pub record Walked (n : ℕ) (s : State) (r : Run) : Type 0 where
    pub answers : ℕ
    pub state : State
    pub steps : Steps g bytes answers 0 s state
    pub follows : Follows g h bytes found size state (run_after i n r)

  -- the count stays within what a session holds
  abbrev Low : Run → Type 0
  Low r = (j : ℕ) → count_in (run_after i j r).session ≤ most_of g

  pub walk : (n : ℕ) (s : State) (r : Run) → Follows g h bytes found size s r → Low r → Walked n s r
  unfolding run_after
  walk zero s r f low = record { answers = 0; state = s; steps = none; follows = f }
  walk (suc n) s r f low = by r.session refl (λ s' r' f' low'. walk n s' r' f' low')
    where
      by : (x : Flow.SessionState) → r.session ≡ x → ((s' : State) (r' : Run) → Follows g h bytes found size s' r' → Low r' → Walked n s' r') → Walked (suc n) s r
      by (running o d c) is onward =
          let q = packet_of (move_at i o).request in
          let stands : s.stands ≡ Ask q = f.stands ∙ ap (outcome_at i) is in
          let z = onward (answered g q (reaction g q s) (step_with s.session bytes (reaction g q s).answer) s) (advance i r)
          (follow-answer g h bytes found size s r q f stands (low 1)) (λ j. low (suc j)) in
          record { answers = suc z.answers; state = z.state; steps = answer q stands z.steps; follows = z.follows }
      by (reported x t c) is onward =
          record { answers = 0; state = s; steps = none; follows = subst (Follows g h bytes found size s) (sym (stays i (suc n) r (rw is))) f }

-- from a start on
pub walked : (g : Geometry) (h : Header) (bytes : List ℕ) (leave : Bool) (p : Passes g h bytes)
    → ((number : ℕ) → ¬ ((start_of h bytes leave).outcome ≡ Refused number)) → (b : Target) → Startable g b → (l : Lists) (n : ℕ)
    → Walked g h bytes p.found (all g h bytes p.found p.checked).size n (begun (start_of h bytes leave) b l) (started b l)
unfolding run_after
walked g h bytes leave p free b may l n =
    walk g h bytes p.found (all g h bytes p.found p.checked).size n (begun (start_of h bytes leave) b l) (started b l)
    (followed g h bytes leave p free b may l 0 0 (begun (start_of h bytes leave) b l) none) (low g h bytes p b may l n)
