-- Demand 3 over a run of the session and the target, whatever the free lists hold. `Demand3` of crate session is the claim over calls; this
-- one is what its proof rests on. Assumes nothing.
use Rattle.std.specs.Prelude.{List, [], ◌⊎◌, ◌↔◌, ◌≡◌, ℕ, ◌+◌, ◌≤◌}
use Rattle.flow.specs.Monitor.{link_error}
use Rattle.flow.specs.Plan.{plan, most_traffic}
use Rattle.flow.specs.Run.{Run, run_after, started, handed_out}
use Rattle.flow.specs.Session.{reported}
use Rattle.flow.specs.Target.{Target, idle, Lists}
use Rattle.flow.specs.Terms.{Passes, Startable, RightPart, NoError, Calm, entry_of, delays_in, Used, entries}
use Rattle.image.specs.Image.{Image, image_of, flash_in}
use Rattle.image.specs.declared.Header.{Header}
use Rattle.parts.specs.declared.Geometry.{Geometry}

-- the image i, the target b and the lists l at the start; the run r after n steps
pub record RunDemand3 (i : Image) (b : Target) (l : Lists) (n : ℕ) (r : Run) : Type 0 where
  -- 'it isn't in VIRGIN after any such list'
  pub never_virgin : ¬ (r.target.memory.stored ≡ 0)
  -- 'no list of demand 3 hands out more than the count', the standing request included
  pub transfers : (handed_out i r).transfers ≤ (most_traffic i.geometry (entry_of b)).transfers
  pub xresets : (handed_out i r).xresets ≤ (most_traffic i.geometry (entry_of b)).xresets
  pub line_resets : (handed_out i r).line_resets ≤ (most_traffic i.geometry (entry_of b)).line_resets
  -- 'A report comes within'
  pub comes : let most = most_traffic i.geometry (entry_of b) in most.transfers + most.xresets + most.line_resets ≤ n
      → record { number : ℕ; step : ℕ; sent : ℕ; is : r.session ≡ reported number step sent }
  -- 'The report's transfers are those handed out in the list.'
  pub counted : (number step sent : ℕ) → r.session ≡ reported number step sent → sent ≡ (handed_out i r).transfers
  -- done exactly when the target is the right part and no mishap has occurred
  pub exactly : (number step sent : ℕ) → r.session ≡ reported number step sent → (number ≡ 0) ↔ (RightPart i b.silicon × NoError r.monitor)
  -- any other report has the mishap's number, or is 16 or 20 on another part
  pub number : (number step sent : ℕ) → r.session ≡ reported number step sent
      → (number ≡ 0) ⊎ ((r.monitor ≡ link_error number) ⊎ ((¬ RightPart i b.silicon) × ((number ≡ 16) ⊎ (number ≡ 20))))
  -- once it says done: flash, locks and level are the image's, and the count is the plan and the delays
  pub done : (step sent : ℕ) → r.session ≡ reported 0 step sent
      → record {
        at_end : step ≡ 9;
        flash : r.target.memory.flash ≡ i.flash;
        locks : r.target.memory.locks ≡ i.protection;
        level : r.target.memory.stored ≡ i.header.level;
        planned : sent ≡ plan i.geometry (entry_of b) + delays_in r.monitor;
      }
  -- the session brings no mishap about; 'a done report counts exactly plan when nothing waits or is busy and each first attempt succeeds'
  pub provoked : Calm l → NoError r.monitor
  pub calm : Calm l → RightPart i b.silicon → (number step sent : ℕ) → r.session ≡ reported number step sent
      → (number ≡ 0) × (sent ≡ plan i.geometry (entry_of b))

-- for every image that passes, every target that may start, all that is free in both lists, and every number of steps
abbrev pub RunDemand3Holds : Type 0
RunDemand3Holds =
    (g : Geometry) (h : Header) (bytes : List ℕ) → Passes g h bytes → (b : Target) → Startable g b → (l : Lists) (n : ℕ)
    → RunDemand3 (image_of g h bytes) b l n (run_after (image_of g h bytes) n (started b l))

-- where the entries that were used are calm: no mishap, and the right part is done with exactly the plan
pub record Undisturbed (i : Image) (b : Target) (r : Run) : Type 0 where
  pub clean : NoError r.monitor
  pub done : RightPart i b.silicon → (number step sent : ℕ) → r.session ≡ reported number step sent
      → (number ≡ 0) × (sent ≡ plan i.geometry (entry_of b))

abbrev pub UndisturbedHolds : Type 0
UndisturbedHolds =
    (g : Geometry) (h : Header) (bytes : List ℕ) → Passes g h bytes → (b : Target) → Startable g b → (l : Lists) (n : ℕ)
    → (u : Used l (run_after (image_of g h bytes) n (started b l)).lists) → Calm (entries u)
    → Undisturbed (image_of g h bytes) b (run_after (image_of g h bytes) n (started b l))

-- a target of another part keeps its memory: flash, locks, latch and stored level
abbrev pub OtherPartSpared : Type 0
OtherPartSpared =
    (g : Geometry) (h : Header) (bytes : List ℕ) → Passes g h bytes → (b : Target) → Startable g b → (l : Lists) (n : ℕ)
    → ¬ RightPart (image_of g h bytes) b.silicon → (run_after (image_of g h bytes) n (started b l)).target.memory ≡ b.memory

-- and so does every target, whatever the image, where the report has step 1 or 2 and no second XRES was handed out: step 3 has not begun
abbrev pub EarlySpared : Type 0
EarlySpared =
    (i : Image) (b : Target) → b.running ≡ idle → (l : Lists) (n number step sent : ℕ)
    → (run_after i n (started b l)).session ≡ reported number step sent → step ≤ 2 → (run_after i n (started b l)).traffic.xresets ≤ 1
    → (run_after i n (started b l)).target.memory ≡ b.memory

-- both can be met, by a target whose flash is not the image's, so that a session that programs would show: on another part the session
-- reports 16 or 20; on the right one a FAULT after the IDCODE is 28 at step 1
pub record SparedWitness (g : Geometry) : Type 0 where
  pub header : Header
  pub bytes : List ℕ
  pub passes : Passes g header bytes
  pub target : Target
  pub startable : Startable g target
  pub other : ¬ (target.memory.flash ≡ flash_in g bytes)
  pub lists : Lists
  pub steps : ℕ
  pub number : ℕ
  pub step : ℕ
  pub sent : ℕ
  pub reports : (run_after (image_of g header bytes) steps (started target lists)).session ≡ reported number step sent

pub record OtherPartWitness (g : Geometry) : Type 0 where
  pub run : SparedWitness g
  pub wrong : ¬ RightPart (image_of g run.header run.bytes) run.target.silicon
  pub judged : (run.number ≡ 16) ⊎ (run.number ≡ 20)

pub record EarlyWitness (g : Geometry) : Type 0 where
  pub run : SparedWitness g
  pub right : RightPart (image_of g run.header run.bytes) run.target.silicon
  pub faulted : (run.number ≡ 28) × (run.step ≡ 1)
  pub once : (run_after (image_of g run.header run.bytes) run.steps (started run.target run.lists)).traffic.xresets ≡ 1

-- the hypotheses can be met, and done be reached: an image of the geometry, a right target with this level, lists that are empty
pub record Achieved (g : Geometry) (level : ℕ) : Type 0 where
  pub header : Header
  pub bytes : List ℕ
  pub passes : Passes g header bytes
  pub target : Target
  pub startable : Startable g target
  pub stored : target.memory.stored ≡ level
  pub right : RightPart (image_of g header bytes) target.silicon
  pub steps : ℕ
  pub done : (run_after (image_of g header bytes) steps (started target (record { line = []; calls = [] }))).session ≡ reported 0 9 (plan g (entry_of target))
