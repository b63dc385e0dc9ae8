-- One transfer outside the attempts, whatever the line does. Assumes nothing.
use mathlib.Core.Bool.{Bool, true, false, cond}
use mathlib.Core.List.{List, ◌∷◌}
use mathlib.Core.Path.{◌≡◌, refl}
use Prim.Native.Nat.{ℕ, zero, suc, ◌+◌}
use native.Mathlib.Omega.{arith}
use lib.Dec.{lit≤}
use borrow.Author.Tests.{lt-ltb, le-ltb, eq-eqb}
use Rattle.flow.specs.Terms.{CalmLine, calm_end, calm_event, CalmCalls, calls_end, calm_call}
use Rattle.flow.specs.Exchange.{carry, gives, barred, killed, calls_on, Met, transferred}
use Rattle.flow.specs.Judge.{with_waits, judge}
use Rattle.flow.specs.Monitor.{Delays, Waits, no_waits, waits_on, Monitor, Watch, one_wait, waits_of, watch_by, noticed, watch}
use Rattle.flow.specs.Packets.{Verdict, again, verdict, packet_of, byte_in, word_in}
use Rattle.flow.specs.Plan.{Traffic, counting}
use Rattle.flow.specs.Run.{Run, advance}
use Rattle.flow.specs.Sequence.{move}
use Rattle.flow.specs.Session.{position, heard_by, step_of}
use Rattle.flow.specs.Target.{Target, Lists, CallOutcome, next_event, next_outcome, rest}
use Rattle.flow.specs.declared.Counters.{Counters}
use Rattle.flow.specs.declared.Entry.{Entry}
use Rattle.flow.specs.declared.LineEvent.{LineEvent}
use Rattle.flow.specs.declared.Move.{Move}
use Rattle.flow.specs.declared.Position.{Position}
use Rattle.flow.specs.declared.Purpose.{Purpose}
use Rattle.flow.specs.declared.Request.{Request}
use Rattle.flow.specs.declared.TransferOutcome.TheVariants.{Clean}
use Rattle.flow.proofs.Decoding.{Plain, a_tar, a_drw, a_read, a_ctrl, a_select, a_csw, plain, meets}
use Rattle.flow.proofs.Hearing.{lists_after, Heard, heard_okay, heard_wait, heard_error, heard_error_done, hears}
use Rattle.flow.proofs.Reaches.{Allowance, with_transfer, Env, tally, seen, stood, sync, after, Frame, Lasting, OnPlan, at-move, at_next, Turn, without, same-running, Reaches, stop, Onto, steps}
use Rattle.image.specs.Image.{Image}
use Rattle.parts.specs.declared.Geometry.{Geometry}

-- one transfer more
abbrev pub more : Traffic → Traffic
more t = record { transfers = suc t.transfers; xresets = t.xresets; line_resets = t.line_resets }

abbrev pub passed : Lists → Env → Env
passed l e = record { lists = l; delays = e.delays; traffic = more e.traffic }

-- the allowance of a transfer that may still be repeated v times
abbrev waiting : ℕ → Allowance → Allowance
waiting v κ = record { due = suc κ.due; room = suc v + κ.room; xres = κ.xres; lines = κ.lines }

calm-event : {l : List LineEvent} → CalmLine l → (next_event l).outcome ≡ Clean
calm-event calm_end = refl
calm-event (calm_event h c) = h

-- a list with such an event is not calm
pub not_calm : {i : Image} {f : Frame i} {y : Entry} {n : ℕ} {ms : List Move} {κ : Allowance} {e : Env} → OnPlan f y n ms κ e
    → ((next_event e.lists.line).outcome ≡ Clean → ⊥) → f.Still → ⊥
not_calm st bad still = bad (calm-event (st.calm still).line)

pub calm-rest : {l : List LineEvent} → CalmLine l → CalmLine (rest l)
calm-rest calm_end = calm_end
calm-rest (calm_event h c) = c

calm-calls : {l : List CallOutcome} → CalmCalls l → CalmCalls (rest l)
calm-calls calls_end = calls_end
calm-calls (calm_call h h' c) = c

calm-cond : {l : List CallOutcome} (y : Bool) → CalmCalls l → CalmCalls (cond y (rest l) l)
calm-cond true c = calm-calls c
calm-cond false c = c

counts : {q : Request} → Plain q → (t : Traffic) → counting q t ≡ more t
counts a_tar t = refl
counts a_drw t = refl
counts a_read t = refl
counts a_ctrl t = refl
counts a_select t = refl
counts a_csw t = refl

-- a transfer that was answered by WAIT w times
abbrev waiting_for : Request → (w : ℕ) → Waits
waiting_for q zero = no_waits
waiting_for q (suc w) = waits_on q (suc w)

waits-so-far : (q : Request) (w : ℕ) → waits_of q (waiting_for q w) ≡ w
waits-so-far q zero = refl
waits-so-far q (suc w) = rw (eq-eqb (byte_in (packet_of q)) (byte_in (packet_of q)) refl, eq-eqb (word_in (packet_of q)) (word_in (packet_of q)) refl)

-- a run in which the standing request has been answered so; with none it is `sync`
abbrev paused : Request → Position → Counters → Target → Watch → Env → Run
paused q o c b t e = stood o c (seen (waiting_for q c.waits) c.polls c.attempts t e.delays) b e

-- what the monitor makes of a verdict on it, and of an OK with a word
abbrev sees : Geometry → Request → Verdict → Counters → Watch → Delays → Monitor
sees g q v c t d = watch_by false g q v (seen (waiting_for q c.waits) c.polls c.attempts t d)

abbrev pub notes : Geometry → Request → (word : ℕ) → Counters → Watch → Delays → Monitor
notes g q x c t d = noticed g q x (seen no_waits c.polls c.attempts t d)

module _ {i : Image} (f : Frame i) where
  abbrev met_by : Request → Target → Env → Met
  met_by q b e = transferred i.geometry q e.lists b

  arrives : {q : Request} → Plain q → {s : ℕ} {u : Purpose} {y : Entry} {n : ℕ} {ms : List Move} {κ : Allowance} {e : Env} (c : Counters) (b : Target) (t : Watch)
      → OnPlan f y n (move s q u ∷ ms) κ e
      → advance i (paused q (position y n) c b t e)
      ≡ after (heard_by false i u (verdict q (met_by q b e).answer) c) (position y n) s (met_by q b e).target
      (sees i.geometry q (verdict q (met_by q b e).answer) c t e.delays) (passed (met_by q b e).lists e)
  unfolding advance step_of watch
  arrives (a_tar {a = v}) {e = e} c b t st = rw (at-move st, meets i.geometry (plain (a_tar {a = v})) e.lists b)
  arrives (a_drw {w = v}) {e = e} c b t st = rw (at-move st, meets i.geometry (plain (a_drw {w = v})) e.lists b)
  arrives a_read {e = e} c b t st = rw (at-move st, meets i.geometry (plain a_read) e.lists b)
  arrives (a_ctrl {w = v}) {e = e} c b t st = rw (at-move st, meets i.geometry (plain (a_ctrl {w = v})) e.lists b)
  arrives (a_select {w = v}) {e = e} c b t st = rw (at-move st, meets i.geometry (plain (a_select {w = v})) e.lists b)
  arrives (a_csw {w = v}) {e = e} c b t st = rw (at-move st, meets i.geometry (plain (a_csw {w = v})) e.lists b)

  -- one exchange: `on_wait` is where a WAIT leads to
  once : {z z' : Bool} {q : Request} → Plain q → {s : ℕ} {u : Purpose} {y : Entry} {n : ℕ} {ms : List Move} (v : ℕ) {κ : Allowance} {e : Env} (c : Counters) (b : Target) (t : Watch)
      → OnPlan f y n (move s q u ∷ ms) (waiting v κ) e → killed b ≡ false → barred i.geometry q b ≡ false
      → Lasting (f.Safe z) b → ((o : ℕ) → Lasting (f.Safe z') (carry i.geometry q o (next_outcome e.lists.calls) b))
      → ((o : ℕ) → Turn s z b (carry i.geometry q o (next_outcome e.lists.calls) b) z')
      → (on_wait : (f.Still → ⊥) → Reaches f z (after (heard_by false i u again c) (position y n) s b (sees i.geometry q again c t e.delays) (passed (record { line = rest e.lists.line; calls = e.lists.calls }) e)))
      → (next : (o : ℕ) → OnPlan f y (suc n) ms κ (passed (lists_after i.geometry q b e.lists) e)
      → Reaches f z' (after (judge i u (with_waits 0 c) (gives q b)) (position y n) s (carry i.geometry q o (next_outcome e.lists.calls) b) (notes i.geometry q (gives q b) c t e.delays) (passed (lists_after i.geometry q b e.lists) e)))
      → Reaches f z (paused q (position y n) c b t e)
  once {z} {z'} {q} h {s} {u} {y} {n} {ms} v {κ} {e} c b t st not-killed free safe safe' turn on_wait next =
      steps f c _ st safe (rw (counts h e.traffic) (record { transfers = omega (arith, st.room); xresets = omega (arith, st.xres); line_resets = omega (arith, st.lines) }))
      (arrives h c b t st)
      (by (hears i.geometry e.lists b (plain h) not-killed free))
    where
      met : Run
      met = after (heard_by false i u (verdict q (met_by q b e).answer) c) (position y n) s (met_by q b e).target (sees i.geometry q (verdict q (met_by q b e).answer) c t e.delays) (passed (met_by q b e).lists e)

      moved : OnPlan f y (suc n) ms κ (passed (lists_after i.geometry q b e.lists) e)
      moved = record {
        at = at_next st;
        accounted = omega (arith, st.accounted);
        room = omega (arith, st.room);
        xres = st.xres;
        lines = st.lines;
        calm = λ still.
            let c = st.calm still in
            record { line = calm-rest c.line; calls = calm-cond (calls_on i.geometry q b) c.calls; none = c.none };
      }

      same : Turn s z b b z
      same = without (same-running b b refl)

      by : Heard i.geometry q e.lists b (met_by q b e) → Onto f s z b met
      by (heard_okay hb hv hl) = rw (hb, hv, hl) (record { sealed = z'; turn = turn (next_event e.lists.line).other; reaches = next (next_event e.lists.line).other moved })
      by (heard_wait bad hb hv hl) = rw (hb, hv, hl) (record { sealed = z; turn = same; reaches = on_wait (not_calm st bad) })
      by (heard_error x hn bad hb hv) = rw (hb, hv) (record { sealed = z; turn = same; reaches = stop (f.caught x s b _ (more e.traffic) hn (not_calm st bad) safe) })
      by (heard_error_done x hn bad hb hv) =
          rw (hb, hv) (record { sealed = z'; turn = turn (next_event e.lists.line).other; reaches = stop (f.caught x s _ _ (more e.traffic) hn (not_calm st bad) (safe' (next_event e.lists.line).other)) })

  -- v more repeats are allowed
  transfer-from : (v : ℕ) {z z' : Bool} {q : Request} → Plain q → {s : ℕ} {u : Purpose} {y : Entry} {n : ℕ} {ms : List Move} {κ : Allowance} (e : Env) (c : Counters) (b : Target) (t : Watch)
      → c.waits + v ≡ 16
      → OnPlan f y n (move s q u ∷ ms) (waiting v κ) e → killed b ≡ false → barred i.geometry q b ≡ false
      → Lasting (f.Safe z) b → ((o : ℕ) → Lasting (f.Safe z') (carry i.geometry q o (next_outcome e.lists.calls) b))
      → ((o : ℕ) → Turn s z b (carry i.geometry q o (next_outcome e.lists.calls) b) z')
      → (next : (o : ℕ) (e' : Env) → e'.lists.calls ≡ cond (calls_on i.geometry q b) (rest e.lists.calls) e.lists.calls → OnPlan f y (suc n) ms κ e'
      → Reaches f z' (after (judge i u (with_waits 0 c) (gives q b)) (position y n) s (carry i.geometry q o (next_outcome e.lists.calls) b) (notes i.geometry q (gives q b) c t e'.delays) e'))
      → Reaches f z (paused q (position y n) c b t e)
  transfer-from zero {q} h {s = s} e c b t count st not-killed free safe safe' turn next =
      once h 0 c b t st not-killed free safe safe' turn
      (λ bad. rw (waits-so-far q c.waits, le-ltb c.waits 16 (omega arith)) (stop (f.caught 27 s b _ (more e.traffic) (lit≤ tt) bad safe)))
      (λ o st'. next o _ refl st')
  transfer-from (suc v) {q} h {κ = κ} e c b t count st not-killed free safe safe' turn next =
      once h (suc v) c b t st not-killed free safe safe' turn
      (λ bad. rw (waits-so-far q c.waits, lt-ltb c.waits 16 (omega arith))
      (transfer-from v h (record { lists = record { line = rest e.lists.line; calls = e.lists.calls }; delays = one_wait e.delays; traffic = more e.traffic })
      (with_waits (suc c.waits) c) b t (omega arith)
      (record { at = st.at; accounted = omega (arith, st.accounted); room = omega (arith, st.room); xres = st.xres; lines = st.lines; calm = λ still. absurd (bad still) })
      not-killed free safe safe' turn next))
      (λ o st'. next o _ refl st')

  -- any transfer outside the attempts
  pub transfer : {z z' : Bool} {q : Request} → Plain q → {s : ℕ} {u : Purpose} {y : Entry} {n : ℕ} {ms : List Move} {κ : Allowance} {e : Env} {p a k : ℕ} {b : Target} {t : Watch}
      → OnPlan f y n (move s q u ∷ ms) (with_transfer κ) e → killed b ≡ false → barred i.geometry q b ≡ false
      → Lasting (f.Safe z) b → ((o : ℕ) → Lasting (f.Safe z') (carry i.geometry q o (next_outcome e.lists.calls) b))
      → ((o : ℕ) → Turn s z b (carry i.geometry q o (next_outcome e.lists.calls) b) z')
      → (next : (o : ℕ) (e' : Env) → e'.lists.calls ≡ cond (calls_on i.geometry q b) (rest e.lists.calls) e.lists.calls → OnPlan f y (suc n) ms κ e'
      → Reaches f z' (after (judge i u (tally p a k) (gives q b)) (position y n) s (carry i.geometry q o (next_outcome e.lists.calls) b) (notes i.geometry q (gives q b) (tally p a k) t e'.delays) e'))
      → Reaches f z (sync (position y n) (tally p a k) b t e)
  transfer h {e = e} st not-killed free safe safe' turn next = transfer-from 16 h e (tally _ _ _) _ _ refl st not-killed free safe safe' turn next
