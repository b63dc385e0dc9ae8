-- A session on a PROTECTED board of the right part comes to where the reopening call runs, so that a cut can fall into it. Assumes nothing.
use mathlib.Core.Bool.{Bool, false, false≢true}
use mathlib.Core.List.{List, ◌++◌}
use mathlib.Core.Logic.{inr}
use mathlib.Core.Path.{◌≡◌, refl, sym, subst, ◌∙◌}
use Prim.Native.Nat.{ℕ, suc, ◌+◌, ◌*◌, ◌≤◌, ◌<◌}
use native.Mathlib.Omega.{arith}
use lib.ListN.{drop}
use Rattle.flow.specs.Calls.{sysarg_after, sysreq_after}
use Rattle.flow.specs.BoardExamples.{none}
use Rattle.flow.specs.CutExamples.{Reopening}
use Rattle.flow.specs.Judge.{judge}
use Rattle.flow.specs.Monitor.{no_waits, watching}
use Rattle.flow.specs.Plan.{traffic_in, polls_in}
use Rattle.flow.specs.Run.{Run, advance, run_after, started}
use Rattle.flow.specs.Sequence.{key, write, read, poll, call, acquire, silicon, program, opening, afterwards, sequence}
use Rattle.flow.specs.Session.{position, SessionState, running, stand_after}
use Rattle.flow.specs.Target.{Target, Memory, next_outcome}
use Rattle.flow.specs.Terms.{Passes, Startable, RightPart, calm_end, calls_end}
use Rattle.flow.specs.declared.Entry.TheVariants.{FromOpen, FromProtected}
use Rattle.flow.specs.declared.Move.{Move}
use Rattle.flow.specs.declared.Place.TheVariants.{AtSysreq, AtSysarg}
use Rattle.flow.specs.declared.Purpose.TheVariants.{Keep, EntryLevel, Reopened, Status}
use Rattle.flow.proofs.Access.{admits, write-reaches, call-reaches}
use Rattle.flow.proofs.Acquiring.{Fresh, Acquired, acquired-with, acquire-leg, Bytes, ids-read, level-read, silicon-reaches}
use Rattle.flow.proofs.Demand.{right-ids, met-traffic}
use Rattle.flow.proofs.Entering.{reopen_word, seam, some-moves}
use Rattle.flow.proofs.Frames.{costs, first_env}
use Rattle.flow.proofs.Legs.{core}
use Rattle.flow.proofs.Phases.{table-facts, call_d}
use Rattle.flow.proofs.Table.{place-sysreq, place-sysarg, Facts}
use Rattle.flow.proofs.Polling.{idle_at}
use Rattle.flow.proofs.Reaches.{Allowance, with_moves, Env, sync, RightIds, Frame, Lasting, OnPlanFor, at_place, split, Course, arrived, stopped, onward, Reaches, here, tally, seen}
use Rattle.image.specs.Image.{Image, image_of}
use Rattle.image.specs.declared.Header.{Header}
use Rattle.parts.specs.Sizes.{sysreq_of, sysarg_of}
use Rattle.parts.specs.declared.Geometry.{Geometry}

-- the call runs, and the memory is m still
pub record Reopens (m : Memory) (b : Target) : Type 0 where
  pub reopening : Reopening b
  pub memory : b.memory ≡ m

-- the most that these moves may cost
abbrev cost : List Move → ℕ
cost ms = 17 * (traffic_in ms).transfers + 509949 * polls_in ms + 13 * (traffic_in ms).line_resets

module _ (i : Image) (b : Target) (right : RightIds i b.silicon) where
  -- the writes that start the call
  abbrev lead : List Move
  lead = write 3 (sysarg_of i.geometry) reopen_word ++ write 3 (sysreq_of i.geometry) (0x80000000 + 0x0D)

  -- more is due behind them than may be handed out before
  abbrev behind : Allowance
  behind = record { due = suc (cost (opening i) + cost lead); room = 0; xres = 0; lines = 0 }

  abbrev allowed : Allowance
  allowed = with_moves (opening i) (with_moves lead behind)

  far : allowed.room < allowed.due
  far =
      let c = costs (opening i) (with_moves lead behind) in
      let d = costs lead behind in
      omega (arith, c.due, c.room, d.due, d.room)

  -- nothing goes wrong, and within what is allowed the session comes to the call
  unfoldable short : Frame i
  short = record {
    Safe = λ z m. Unit {0};
    Still = Unit {0};
    Stop = λ z r. ⊥;
    Goal = λ z r. r.traffic.transfers ≤ allowed.room → Reopens b.memory r.target;
    planned = allowed.due;
    most = record { transfers = allowed.room; xresets = allowed.xres; line_resets = allowed.lines };
    silicon = b.silicon;
    safe_same = λ r m m' e s. tt;
    safe_open = λ r m e. tt;
    safe_image = λ r m e. tt;
    safe_sealed = λ r z m e. tt;
    caught = λ n s b l t some bad safe. bad tt;
    finished = λ b l w d t r quiet holds count calm few. absurd (omega (arith, far));
    wrong_id = λ s b l x t safe h. false≢true (sym h ∙ right.idcode);
    wrong_part = λ s b l x t safe h. false≢true (sym h ∙ right.silicon);
  }

  -- the run passes a state where the call runs
  passes : {z : Bool} (r : Run) → Course short z r → r.traffic.transfers ≤ allowed.room → record { n : ℕ; is : Reopens b.memory (run_after i n r).target }
  unfolding short run_after
  passes r (arrived goal) few = record { n = 0; is = goal few }
  passes r (stopped never) few = absurd never
  passes r (onward w turn more) few =
      let z = passes (advance i r) more (rw (met-traffic i r w.goes) w.most.transfers) in
      record { n = suc z.n; is = z.is }

  module _ (fx : Facts i.geometry) (two : b.memory.stored ≡ 2) where
    any : (c : Target) → Lasting (short.Safe false) c
    unfolding short
    any c = record { now = tt; cut = λ r. tt }

    reopens : {n x k : ℕ} (later : List Move) {e : Env} {c : Target} → Acquired short b.memory k (core c) → OnPlanFor short (position FromProtected n) lead later behind e
        → Reaches short false (sync (position FromProtected n) (tally 0 0 k) c (idle_at x) e)
    unfolding short write
    reopens later {c = c} p st =
        let g = i.geometry in
        let answers = inr (p.effect ∙ two) in
        write-reaches short 3 (sysarg_of g) reopen_word (split (write 3 (sysarg_of g) reopen_word) (write 3 (sysreq_of g) (0x80000000 + 0x0D)) later behind st)
        AtSysarg (place-sysarg g fx) (admits c.effect AtSysarg refl answers) (any c) (any c) refl λ e₁ h₁ st₁.
        call-reaches short 3 (sysreq_of g) (0x80000000 + 0x0D) st₁ (place-sysreq g fx) (admits c.effect AtSysreq refl answers) (any c) (any c) call_d.command.started λ e₂ h₂ st₂.
        let o = next_outcome e₁.lists.calls in
        here (λ few. record {
          reopening = record { left = o.busy_reads; succeeds = o.succeeds; entry = o.residue; runs = rw call_d.command.number; sent = refl; effect = p.effect ∙ two };
          memory = p.fresh.memory;
        })

    -- the rest of the moves behind those writes
    abbrev later : List Move
    later =
        (poll i.geometry 3 ++ read 3 (sysarg_of i.geometry) Status)
        ++ (acquire i.geometry ++ (silicon i.geometry Reopened ++ program i))

    start : OnPlanFor short (position FromOpen 0) (opening i) (afterwards i FromOpen) (with_moves lead behind) (first_env none)
    unfolding short sequence
    start = record {
      at = refl;
      accounted = omega arith;
      room = omega arith;
      xres = omega arith;
      lines = omega arith;
      calm = λ still. record { line = calm_end; calls = calls_end; none = refl };
    }

    on-to : (n : ℕ) → drop n (sequence i FromOpen) ≡ afterwards i FromOpen → drop n (sequence i FromProtected) ≡ lead ++ later
    unfolding sequence
    on-to n e = seam (opening i) (afterwards i FromOpen) (afterwards i FromProtected) n e (some-moves i) ∙ (unfold afterwards call write in refl)

    -- step 2 finds PROTECTED
    enters : Bytes b.silicon → (n h : ℕ)
        → stand_after (judge i EntryLevel (tally 0 0 (sysarg_after 0 b.silicon b.memory)) (sysreq_after 0 b.silicon b.memory.stored)) (position FromOpen n) 2 h
        ≡ running (position FromProtected (suc n)) (tally 0 0 (sysarg_after 0 b.silicon b.memory)) h
    unfolding judge
    enters hb n h = rw (ids-read i b.silicon b.memory b.memory.stored hb, right.silicon, level-read b.silicon b.memory.stored hb (omega arith), two)

    way : Bytes b.silicon → Fresh short b.memory 0 (core b) → Reaches short false (started b none)
    unfolding short opening silicon read with_moves
    way hb p =
        let g = i.geometry in
        (acquire-leg short fx FromOpen b.memory (inr two) tt).along _ _ _ _ _ _ _ p
        (split (acquire g) (silicon g EntryLevel) (afterwards i FromOpen) (with_moves lead behind) start) λ k₁ b₁ a₁ n₁ x₁ e₁ st₁.
        silicon-reaches short fx b.memory (inr two) tt hb (omega arith) EntryLevel a₁
        (split (call g 2 0 (key 0)) (read 2 (sysarg_of g) Keep ++ read 2 (sysreq_of g) EntryLevel) (afterwards i FromOpen) (with_moves lead behind) st₁) λ b₂ same n₂ e₂ st₂.
        subst (λ (s : SessionState). Reaches short false (record {
          session = s;
          target = b₂;
          lists = e₂.lists;
          monitor = watching (seen no_waits 0 0 (idle_at (sysreq_of g)) e₂.delays);
          traffic = e₂.traffic;
        })) (sym (enters hb n₂ e₂.traffic.transfers)) (
        reopens later (acquired-with (subst (Acquired short b.memory k₁) (sym same) a₁))
        (at_place st₂ (on-to (suc n₂) st₂.at)))

-- for an image that passes
pub comes-to-reopen : (g : Geometry) (h : Header) (bytes : List ℕ) → Passes g h bytes → (b : Target) → Startable g b → b.memory.stored ≡ 2
    → RightPart (image_of g h bytes) b.silicon
    → record { n : ℕ; is : Reopens b.memory (run_after (image_of g h bytes) n (started b none)).target }
unfolding short
comes-to-reopen g h bytes p b s two right =
    let i = image_of g h bytes in
    let ids = right-ids i b.silicon right in
    passes i b ids (started b none)
    (way i b ids (table-facts g h bytes p) two (record { high = s.high; low = s.low; revision = s.revision; family = s.family })
    (record { silicon = refl; memory = refl; room = s.params; quiet = s.quiet })).course
    (omega arith)
