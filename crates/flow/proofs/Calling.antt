-- A call, whatever the line and the target do. Assumes nothing.
use mathlib.Core.Bool.{Bool, true, false, and-false}
use mathlib.Core.List.{List, [], ◌++◌}
use mathlib.Core.Path.{◌≡◌, refl, sym}
use Prim.Native.Nat.{ℕ, ◌+◌, ◌*◌, ◌/◌, ◌%◌, ◌<◌}
use native.Mathlib.Omega.{arith}
use lib.Dec.{eqb, lit≤}
use borrow.Author.Tests.{le-leb}
use Rattle.flow.specs.Calls.{finish, after_failure, effect_of, sysarg_after, sysreq_after, failed_arg, list_at}
use Rattle.flow.specs.Session.{position}
use Rattle.flow.specs.Terms.{CalmCalls, calls_end, calm_call}
use Rattle.flow.specs.Exchange.{is_call}
use Rattle.flow.specs.Judge.{judge}
use Rattle.flow.specs.Monitor.{notice_read}
use Rattle.flow.specs.Sealing.{on_macro0, succeeds0, reopens}
use Rattle.flow.specs.Sequence.{call, poll, read, write}
use Rattle.flow.specs.Target.{Target, Residue, CallOutcome, idle, busy, next_outcome}
use Rattle.flow.specs.Words.{free, succeeded}
use Rattle.flow.specs.declared.Entry.{Entry}
use Rattle.flow.specs.declared.Move.{Move}
use Rattle.flow.specs.declared.Place.TheVariants.{AtSysreq, AtSysarg}
use Rattle.flow.specs.declared.Purpose.TheVariants.{Status}
use Rattle.flow.proofs.Access.{aim, facing, Answering, admits, write-reaches, call-reaches, read-still}
use Rattle.flow.proofs.Legs.{core}
use Rattle.flow.proofs.Table.{place-sysreq, place-sysarg, Facts}
use Rattle.flow.proofs.Polling.{idle_at, during, looping, loop_at, poll-busy}
use Rattle.flow.proofs.Reaches.{Allowance, with_transfer, with_moves, Env, sync, Frame, at_rest, OnPlan, OnPlanFor, less-room, Turn, without, reopening, sealing, Reaches, stop, tally}
use Rattle.image.specs.Image.{Image}
use Rattle.parts.specs.Sizes.{sysreq_of, sysarg_of}
use Rattle.parts.specs.declared.Geometry.{Geometry}

-- a call's number, as SYSREQ has it
pub record Command (c : ℕ) : Type 0 where
  pub started : is_call (0x80000000 + c) ≡ true
  pub number : (0x80000000 + c) % 256 ≡ c

pub command : (c : ℕ) → c < 256 → Command c
command c low = record { started = le-leb 0x80000000 (0x80000000 + c) (omega arith); number = omega arith }

-- the target once the call is asked for, but for what is under way
abbrev pub asked : (c w : ℕ) → Target → Target
asked c w b = record {
  silicon = b.silicon;
  memory = b.memory;
  effect = b.effect;
  params = b.params;
  sysarg = w;
  sysreq = 0x80000000 + c;
  test_mode = b.test_mode;
  tar = b.tar;
  posted = b.posted;
  running = b.running;
}

-- the target after a successful call
pub record Returned (g : Geometry) (c w : ℕ) (b b' : Target) : Type 0 where
  pub silicon : b'.silicon ≡ b.silicon
  pub effect : b'.effect ≡ b.effect
  pub params : b'.params ≡ b.params
  pub memory : b'.memory ≡ effect_of g c b.effect w (list_at w b.params) b.memory
  pub sysarg : b'.sysarg ≡ sysarg_after c b.silicon b.memory
  pub sysreq : b'.sysreq ≡ sysreq_after c b.silicon b.effect
  pub ended : b'.running ≡ idle

pub returned : (g : Geometry) (c w : ℕ) (r : Residue) (b : Target) → Returned g c w b (finish g true r c (asked c w b))
unfolding finish
returned g c w r b = record { silicon = refl; effect = refl; params = refl; memory = refl; sysarg = refl; sysreq = refl; ended = refl }

calm-success : {l : List CallOutcome} → CalmCalls l → (next_outcome l).succeeds ≡ true
calm-success calls_end = refl
calm-success (calm_call h h' c) = h'

calm-idle : {l : List CallOutcome} → CalmCalls l → (next_outcome l).busy_reads ≡ 0
calm-idle calls_end = refl
calm-idle (calm_call h h' c) = h

pub failed : (w : ℕ) → succeeded (failed_arg w) ≡ false
unfolding succeeded
failed w = by (eqb (w / 0x10000000 % 16) 0xA) refl
  where
    by : (t : Bool) → eqb (w / 0x10000000 % 16) 0xA ≡ t → eqb (failed_arg w / 0x10000000 % 16) 0xA ≡ false
    by true h = rw h
    by false h = rw h h

pub free-zero : free 0 ≡ true
unfolding free
free-zero = refl

-- calls that alter nothing, failed or not
pub data Harmless : ℕ → Type 0 where
  ids : Harmless 0
  sums : Harmless 0x0B
  imo : Harmless 0x15

pub still : {c : ℕ} → Harmless c → (g : Geometry) (y : Bool) (r : Residue) (b : Target) → (finish g y r c b).memory ≡ b.memory
unfolding finish effect_of after_failure
still ids g true r b = refl
still ids g false r b = refl
still sums g true r b = refl
still sums g false r b = refl
still imo g true r b = refl
still imo g false r b = refl

no-lock : {c : ℕ} → Harmless c → record { low : c < 256; other : eqb c 0x0D ≡ false }
no-lock ids = record { low = omega arith; other = refl }
no-lock sums = record { low = omega arith; other = refl }
no-lock imo = record { low = omega arith; other = refl }

-- SYSARG of a failed call says no success
fails-without : (g : Geometry) (r : Residue) (c a v a' v' : ℕ) (b : Target) → succeeds0 (aim a v (during (busy 0 false r c) b)) (aim a' v' (finish g false r c b)) ≡ false
unfolding finish
fails-without g r c a v a' v' b = rw (failed r.sysarg) (and-false (on_macro0 (busy 0 false r c) b.sysarg))

-- a call of step s that is no 0x0D for macro 0, step 3's, or step 7's: whether the board is sealed before it, and once it has succeeded
pub data Ends (s c : ℕ) (b : Target) : Bool → Bool → Type 0 where
  ordinary : {z : Bool} → ((r : Residue) → on_macro0 (busy 0 true r c) b.sysarg ≡ false) → Ends s c b z z
  unlocking : reopens b ≡ true → s ≡ 3 → Ends s c b false false
  locking : ((r : Residue) → on_macro0 (busy 0 true r c) b.sysarg ≡ true) → reopens b ≡ false → s ≡ 7 → Ends s c b false true

end-turn : (g : Geometry) {s c : ℕ} {b : Target} {z z' : Bool} → Ends s c b z z' → succeeded (sysarg_after c b.silicon b.memory) ≡ true → (r : Residue) (a v a' v' : ℕ)
    → Turn s z (aim a v (during (busy 0 true r c) b)) (aim a' v' (finish g true r c b)) z'
unfolding finish
end-turn g {c = c} {b = b} (ordinary h) good r a v a' v' = without {b = aim a v (during (busy 0 true r c) b)} {b' = aim a' v' (finish g true r c b)} (rw (h r))
end-turn g {c = c} {b = b} (unlocking h e) good r a v a' v' =
    reopening {b = aim a v (during (busy 0 true r c) b)} {b' = aim a' v' (finish g true r c b)} (rw h (and-false (succeeds0 (aim a v (during (busy 0 true r c) b)) (aim a' v' (finish g true r c b))))) e
end-turn g {c = c} {b = b} (locking h k e) good r a v a' v' = sealing {b = aim a v (during (busy 0 true r c) b)} {b' = aim a' v' (finish g true r c b)} (rw (h r, good, k)) e

module _ {i : Image} (f : Frame i) (fx : Facts i.geometry) where
  -- from the poll on
  call-tail : {z z' : Bool} (s₀ : Bool) (r₀ : Residue) (q c s : ℕ) {y : Entry} {n : ℕ} {ms : List Move} {κ : Allowance} {e : Env} {k : ℕ} (b : Target) (x u : ℕ)
      → OnPlan f y n (poll i.geometry s ++ (read s (sysarg_of i.geometry) Status ++ ms)) (looping 9999 (with_transfer (with_transfer (with_transfer κ)))) e
      → Answering b.effect → f.Safe z b.memory → ((r : Residue) → f.Safe z' (finish i.geometry true r c b).memory) → ((r : Residue) → f.Safe z (finish i.geometry false r c b).memory)
      → Ends s c b z z'
      → (f.Still → q ≡ 0) → (f.Still → s₀ ≡ true)
      → free (sysreq_after c b.silicon b.effect) ≡ true → succeeded (sysarg_after c b.silicon b.memory) ≡ true
      → (next : (b' : Target) → Returned i.geometry c b.sysarg b b' → (n' : ℕ) (e' : Env) → OnPlan f y n' ms κ e'
      → Reaches f z' (sync (position y n') (tally 0 0 k) b' (idle_at (sysarg_of i.geometry)) e'))
      → Reaches f z (sync (position y n) (tally 0 0 k) (aim x u (during (busy q s₀ r₀ c) b)) (loop_at x true) e)
  unfolding finish judge notice_read
  call-tail true r₀ q c s b x u st answering safe won lost ends idles wins ready good next =
      poll-busy f (place-sysreq i.geometry fx) s true r₀ c b (admits b.effect AtSysreq refl answering) safe lost (won r₀) ready (λ a v a' v'. end-turn i.geometry ends good r₀ a v a' v') q 9999 0 x u refl st idles λ e₁ h₁ st₁.
      read-still f s (sysarg_of i.geometry) Status st₁ AtSysarg (place-sysarg i.geometry fx) (admits b.effect AtSysarg refl answering) (record { now = won r₀; cut = λ r. won r₀ })
      (λ o. sysarg_after c b.silicon b.memory) (λ o z. refl) λ o o' e₂ h₂ st₂.
      rw good (
      next _ (record { silicon = refl; effect = refl; params = refl; memory = refl; sysarg = refl; sysreq = refl; ended = refl }) _ e₂ st₂)
  call-tail false r₀ q c s b x u st answering safe won lost ends idles wins ready good next =
      poll-busy f (place-sysreq i.geometry fx) s false r₀ c b (admits b.effect AtSysreq refl answering) safe lost (lost r₀) free-zero (λ a v a' v'. without (fails-without i.geometry r₀ c a v a' v' b)) q 9999 0 x u refl st idles λ e₁ h₁ st₁.
      read-still f s (sysarg_of i.geometry) Status st₁ AtSysarg (place-sysarg i.geometry fx) (admits b.effect AtSysarg refl answering) (record { now = lost r₀; cut = λ r. lost r₀ })
      (λ o. failed_arg r₀.sysarg) (λ o z. refl) λ o o' e₂ h₂ st₂.
      rw (failed r₀.sysarg) (
      stop (f.caught 19 s _ _ _ (lit≤ tt) (λ still. let no' : false ≡ true = wins still in let z : ◌≡◌ {A = ℕ} 0 1 = cc in omega arith) (record { now = lost r₀; cut = λ r. lost r₀ })))

  -- what a cut would leave once the call is asked for
  cut-asked : {z : Bool} (c w : ℕ) (b : Target) → ((r : Residue) → f.Safe z (finish i.geometry false r c (asked c w b)).memory) → (r : Residue) → f.Safe z (after_failure c w r b.memory)
  unfolding finish
  cut-asked c w b lost r = lost r

  -- what a call may cost
  call-allowance : (s c w : ℕ) {y : Entry} {n : ℕ} (ms : List Move) (κ : Allowance) {e : Env} → OnPlanFor f (position y n) (call i.geometry s c w) ms κ e
      → OnPlan f y n (call i.geometry s c w ++ ms) (with_transfer (with_transfer (with_transfer (with_transfer (looping 9999 (with_transfer (with_transfer (with_transfer κ)))))))) e
  unfolding call write read with_moves
  call-allowance s c w ms κ st = less-room (17 + (17 + (17 + (17 + (51 * 10000 + (17 + (17 + (17 + κ.room)))))))) (omega arith) st

  pub calling : {z z' : Bool} (s c w : ℕ) {y : Entry} {n : ℕ} {ms : List Move} {κ : Allowance} {e : Env} {k : ℕ} {b : Target} {x : ℕ} {po du : Bool}
      → Command c → OnPlanFor f (position y n) (call i.geometry s c w) ms κ e
      → Answering b.effect → b.running ≡ idle → f.Safe z b.memory → ((r : Residue) → f.Safe z' (finish i.geometry true r c (asked c w b)).memory) → ((r : Residue) → f.Safe z (finish i.geometry false r c (asked c w b)).memory)
      → Ends s c (asked c w b) z z'
      → free (sysreq_after c b.silicon b.effect) ≡ true → succeeded (sysarg_after c b.silicon b.memory) ≡ true
      → (next : (b' : Target) → Returned i.geometry c w b b' → (n' : ℕ) (e' : Env) → OnPlan f y n' ms κ e'
      → Reaches f z' (sync (position y n') (tally 0 0 k) b' (idle_at (sysarg_of i.geometry)) e'))
      → Reaches f z (sync (position y n) (tally 0 0 k) b (facing x po du) e)
  unfolding call write read with_moves
  calling {z = z} s c w {ms = ms} {κ = κ} {b = b} cmd st answering quiet safe won lost ends ready good next =
      write-reaches f s (sysarg_of i.geometry) w (call-allowance s c w ms κ st) AtSysarg (place-sysarg i.geometry fx) (admits b.effect AtSysarg refl answering) (at_rest (f.Safe z) b quiet safe) (record { now = safe; cut = λ r. rw quiet safe }) refl λ e₁ h₁ st₁.
      call-reaches f s (sysreq_of i.geometry) (0x80000000 + c) st₁ (place-sysreq i.geometry fx) (admits b.effect AtSysreq refl answering) (record { now = safe; cut = λ r. rw quiet safe }) (record { now = safe; cut = λ r. rw cmd.number (cut-asked c w b lost r) }) cmd.started λ e₂ h₂ st₂.
      rw cmd.number (
      call-tail (next_outcome e₁.lists.calls).succeeds (next_outcome e₁.lists.calls).residue (next_outcome e₁.lists.calls).busy_reads c s (asked c w b) (sysreq_of i.geometry) b.posted
      st₂ answering safe won lost ends (λ still. calm-idle (st₁.calm still).calls) (λ still. calm-success (st₁.calm still).calls) ready good
      λ b' ret n' e' st'. next b' (record { silicon = ret.silicon; effect = ret.effect; params = ret.params; memory = ret.memory; sysarg = ret.sysarg; sysreq = ret.sysreq; ended = ret.ended }) n' e' st')

  -- a call that alters nothing
  pub still-call : {z : Bool} (s : ℕ) {c : ℕ} (w : ℕ) {y : Entry} {n : ℕ} {ms : List Move} {κ : Allowance} {e : Env} {k : ℕ} {b : Target} {x : ℕ} {po du : Bool}
      → Harmless c → OnPlanFor f (position y n) (call i.geometry s c w) ms κ e → Answering b.effect → b.running ≡ idle → f.Safe z b.memory
      → free (sysreq_after c b.silicon b.effect) ≡ true → succeeded (sysarg_after c b.silicon b.memory) ≡ true
      → (next : (b' : Target) → Returned i.geometry c w b b' → core b' ≡ core b → (n' : ℕ) (e' : Env) → OnPlan f y n' ms κ e'
      → Reaches f z (sync (position y n') (tally 0 0 k) b' (idle_at (sysarg_of i.geometry)) e'))
      → Reaches f z (sync (position y n) (tally 0 0 k) b (facing x po du) e)
  unfolding finish
  still-call {z} s {c} w {b = b} h st answering quiet safe ready good next =
      calling s c w (command c (no-lock h).low) st answering quiet safe
      (λ r. rw (still h i.geometry true r (asked c w b)) safe) (λ r. rw (still h i.geometry false r (asked c w b)) safe) (ordinary (λ r. rw (no-lock h).other))
      ready good λ b' ret n' e' st'. next b' ret (same b' ret) n' e' st'
    where
      memory : b.memory ≡ effect_of i.geometry c b.effect w (list_at w b.params) b.memory
      memory = sym (still h i.geometry true (next_outcome []).residue (asked c w b))

      same : (b' : Target) → Returned i.geometry c w b b' → core b' ≡ core b
      same b' ret = rw (ret.silicon, ret.memory, ← memory, ret.effect, ret.params, ret.ended, quiet)
