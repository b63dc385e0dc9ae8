-- One over a run of the session and the target, whatever the free lists hold. `SealedCallsHold` of crate sealing is the claim over calls;
-- these are what it and its witnesses rest on. Assumes nothing.
use Rattle.std.specs.Prelude.{true, cond, List, ◌≡◌, ℕ, suc, ◌+◌, ◌≤◌}
use Rattle.flow.specs.Run.{Run, run_after, started}
use Rattle.flow.specs.Sealing.{succeeds0, seals, HoldsThroughCut}
use Rattle.flow.specs.Session.{SessionState, running, reported, move_at}
use Rattle.flow.specs.Target.{Target, Lists}
use Rattle.flow.specs.Terms.{Passes, Startable}
use Rattle.image.specs.Image.{Image, image_of}
use Rattle.image.specs.declared.Header.{Header}
use Rattle.parts.specs.declared.Geometry.{Geometry}

-- the flow step of the move that stands
abbrev pub step_at : Image → SessionState → ℕ
step_at i (running p c h) = (move_at i p).step
step_at i (reported x s h) = s

-- a call 0x0D for macro 0 that succeeds is step 7's where it seals, and step 3's where it doesn't
abbrev pub SealsAtStep7 : Type 0
SealsAtStep7 =
    (g : Geometry) (h : Header) (bytes : List ℕ) → Passes g h bytes → (b : Target) → Startable g b → (l : Lists) (n : ℕ)
    → succeeds0 (run_after (image_of g h bytes) n (started b l)).target (run_after (image_of g h bytes) (suc n) (started b l)).target ≡ true
    → step_at (image_of g h bytes) (run_after (image_of g h bytes) n (started b l)).session
    ≡ cond (seals (run_after (image_of g h bytes) n (started b l)).target (run_after (image_of g h bytes) (suc n) (started b l)).target) 7 3

-- 'whatever the line did before or does after': n steps, the one in which the call succeeds, then k
abbrev pub SealedHolds : Type 0
SealedHolds =
    (g : Geometry) (h : Header) (bytes : List ℕ) → Passes g h bytes → (b : Target) → Startable g b → (l : Lists) (n k : ℕ)
    → seals (run_after (image_of g h bytes) n (started b l)).target (run_after (image_of g h bytes) (suc n) (started b l)).target ≡ true
    → HoldsThroughCut (image_of g h bytes) (run_after (image_of g h bytes) (suc n + k) (started b l)).target

-- the step of a run in which the board is sealed, one of the first n
pub record SealedWithin (i : Image) (r : Run) (n : ℕ) : Type 0 where
  pub before : ℕ
  pub within : suc before ≤ n
  pub seals : seals (run_after i before r).target (run_after i (suc before) r).target ≡ true

-- it comes to that in every session that says done
abbrev pub DoneSealed : Type 0
DoneSealed =
    (g : Geometry) (h : Header) (bytes : List ℕ) → Passes g h bytes → (b : Target) → Startable g b → (l : Lists) (n step sent : ℕ)
    → (run_after (image_of g h bytes) n (started b l)).session ≡ reported 0 step sent → SealedWithin (image_of g h bytes) (started b l) n

-- the same step unheard: carried out and answered by silence, so that the session reports 29
pub record SealedUnheard (i : Image) (b : Target) (n : ℕ) : Type 0 where
  pub lists : Lists
  pub seals : seals (run_after i n (started b lists)).target (run_after i (suc n) (started b lists)).target ≡ true
  pub sent : ℕ
  pub reports : (run_after i (suc n) (started b lists)).session ≡ reported 29 (step_at i (run_after i n (started b lists)).session) sent
