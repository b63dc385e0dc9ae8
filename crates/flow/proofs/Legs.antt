-- Stretches of the sequence, from what holds before them to what holds after. Assumes nothing.
use mathlib.Core.Bool.{Bool}
use mathlib.Core.List.{List, ◌++◌}
use mathlib.Core.Path.{◌≡◌}
use Prim.Native.Nat.{ℕ, zero, suc, ◌+◌, ◌<◌}
use native.Mathlib.Omega.{arith}
use Rattle.flow.specs.Sequence.{in_turn}
use Rattle.flow.specs.Session.{position}
use Rattle.flow.specs.Target.{Target, Memory, Running}
use Rattle.flow.specs.declared.Entry.{Entry}
use Rattle.flow.specs.declared.Move.{Move}
use Rattle.flow.specs.declared.Silicon.{Silicon}
use Rattle.flow.proofs.Polling.{idle_at}
use Rattle.flow.proofs.Reaches.{Allowance, with_moves, Env, sync, Frame, OnPlan, OnPlanFor, split, Reaches, tally}
use Rattle.image.specs.Image.{Image}

-- the target but for its registers
pub record Core : Type 0 where
  pub silicon : Silicon
  pub memory : Memory
  pub effect : ℕ
  pub params : List ℕ
  pub running : Running

abbrev pub core : Target → Core
core b = record { silicon = b.silicon; memory = b.memory; effect = b.effect; params = b.params; running = b.running }

-- what is known of the kept word and the target
abbrev pub Known : Type 1
Known = ℕ → Core → Type 0

-- at rest between moves: whether the board is sealed there, and what is known
pub record Halt : Type 1 where
  pub sealed : Bool
  pub known : Known

abbrev pub halt : Bool → Known → Halt
halt z P = record { sealed = z; known = P }

-- from rest to rest over ms: P held before, Q holds after
pub record Leg {i : Image} (f : Frame i) (y : Entry) (ms : List Move) (P Q : Halt) : Type 0 where
  pub along : (n x k : ℕ) (later : List Move) (κ : Allowance) (e : Env) (b : Target) → P.known k (core b) → OnPlanFor f (position y n) ms later κ e
      → ((k' : ℕ) (b' : Target) → Q.known k' (core b') → (n' x' : ℕ) (e' : Env) → OnPlan f y n' later κ e' → Reaches f Q.sealed (sync (position y n') (tally 0 0 k') b' (idle_at x') e'))
      → Reaches f P.sealed (sync (position y n) (tally 0 0 k) b (idle_at x) e)

module _ {i : Image} (f : Frame i) (y : Entry) where
  pub leg-append : (a b : List Move) {P Q R : Halt} → Leg f y a P Q → Leg f y b Q R → Leg f y (a ++ b) P R
  leg-append a c l₁ l₂ = record {
    along = λ n x k later κ e b p st next.
        l₁.along n x k (c ++ later) (with_moves c κ) e b p (split a c later κ st) λ k₁ b₁ q n₁ x₁ e₁ st₁. l₂.along n₁ x₁ k₁ later κ e₁ b₁ q st₁ next;
  }

  -- pieces one after another, each for its number
  pub leg-pieces : (h : ℕ → List Move) (P : ℕ → Halt) (top : ℕ) → ((j : ℕ) → j < top → Leg f y (h j) (P j) (P (suc j)))
      → (m j : ℕ) → j + m ≡ top → Leg f y (in_turn h j m) (P j) (P top)
  unfolding in_turn with_moves
  leg-pieces h P top each zero j count = record {
    along = λ n x k later κ e b p st next. let q : j ≡ top = omega arith in rw q (next k b (rw q at p) n x e st);
  }
  leg-pieces h P top each (suc m) j count =
      leg-append (h j) (in_turn h (suc j) m) (each j (omega arith)) (leg-pieces h P top each m (suc j) (omega arith))
