-- The resets and the IDCODE attempts of step 1. Assumes nothing.
use mathlib.Core.Bool.{Bool, true, false}
use mathlib.Core.List.{List, ◌∷◌}
use mathlib.Core.Path.{◌≡◌, refl, ap, sym, ◌∙◌}
use Prim.Native.Nat.{ℕ, zero, suc, ◌+◌, ◌-◌}
use native.Mathlib.Omega.{arith}
use lib.Dec.{eqb, lit≤}
use borrow.Author.Tests.{lt-ltb, le-ltb}
use Rattle.flow.specs.Calls.{reset}
use Rattle.flow.specs.Exchange.{decode, carry, killed, Met, transferred, meet}
use Rattle.flow.specs.Judge.{go_if, judge}
use Rattle.flow.specs.Monitor.{no_waits, watching, Watch, one_missed, watch_by, noticed, watch}
use Rattle.flow.specs.Packets.{again, verdict}
use Rattle.flow.specs.Plan.{counting}
use Rattle.flow.specs.Run.{Run, advance}
use Rattle.flow.specs.Sequence.{move}
use Rattle.flow.specs.Session.{position, heard_by, step_of}
use Rattle.flow.specs.Target.{Target, Lists, idle, set_reset}
use Rattle.flow.specs.declared.Counters.{Counters}
use Rattle.flow.specs.declared.Entry.{Entry}
use Rattle.flow.specs.declared.Move.{Move}
use Rattle.flow.specs.declared.Position.{Position}
use Rattle.flow.specs.declared.Purpose.{Purpose}
use Rattle.flow.specs.declared.Purpose.TheVariants.{Sent, Idcode}
use Rattle.flow.specs.declared.Request.{Request}
use Rattle.flow.specs.declared.Request.TheVariants.{Xres, LineReset, ReadIdcode}
use Rattle.flow.specs.declared.Silicon.{Silicon}
use Rattle.flow.proofs.Access.{barred-off}
use Rattle.flow.proofs.Decoding.{attempt, meets}
use Rattle.flow.proofs.Hearing.{lists_after, Heard, heard_okay, heard_wait, heard_error, heard_error_done, hears}
use Rattle.flow.proofs.Reaches.{Allowance, Env, tally, seen, sync, after, Frame, Lasting, at_rest, OnPlan, at-move, at_next, Turn, without, same-running, Reaches, stop, Onto, steps}
use Rattle.flow.proofs.Transfer.{more, passed, not_calm, calm-rest}
use Rattle.image.specs.Image.{Image}

-- after a reset
abbrev pub reset_by : Request → Env → Env
reset_by q e = record { lists = e.lists; delays = e.delays; traffic = counting q e.traffic }

module _ {i : Image} (f : Frame i) where
  going_on : {s : ℕ} {z : Bool} {b : Target} {r : Run} → Turn s z b r.target z → Reaches f z r → Onto f s z b r
  going_on {z = z} t l = record { sealed = z; turn = t; reaches = l }

  -- XRES, with nothing under way
  pub xres-reaches : {z : Bool} {s : ℕ} {u : Purpose} {y : Entry} {n k : ℕ} {ms : List Move} {κ : Allowance} {e : Env} {b : Target} {t : Watch}
      → OnPlan f y n (move s Xres u ∷ ms) (record { due = κ.due; room = κ.room; xres = suc κ.xres; lines = κ.lines }) e → f.Safe z b.memory → b.running ≡ idle
      → (OnPlan f y (suc n) ms κ (reset_by Xres e) → Reaches f z (sync (position y (suc n)) (tally 0 0 k) (set_reset b) t (reset_by Xres e)))
      → Reaches f z (sync (position y n) (tally 0 0 k) b t e)
  xres-reaches {z} {s} {u} {y} {n} {k} {ms} {κ} {e} {b} {t} st safe quiet next =
      steps f (tally 0 0 k) _ st (at_rest (f.Safe z) b quiet safe)
      (record { transfers = omega (arith, st.room); xresets = omega (arith, st.xres); line_resets = omega (arith, st.lines) })
      arrives (going_on (without (rw quiet refl))
      (next (record { at = at_next st; accounted = st.accounted; room = st.room; xres = omega (arith, st.xres); lines = st.lines; calm = λ still. let c = st.calm still in record { line = c.line; calls = c.calls; none = c.none } })))
    where
      arrives : advance i (sync (position y n) (tally 0 0 k) b t e) ≡ sync (position y (suc n)) (tally 0 0 k) (set_reset b) t (reset_by Xres e)
      arrives = unfold advance step_of watch meet decode reset in rw (at-move st, quiet)

  line-reaches : {z : Bool} {s : ℕ} {u : Purpose} {y : Entry} {n a k : ℕ} {ms : List Move} {κ : Allowance} {e : Env} {b : Target} {t : Watch}
      → OnPlan f y n (move s LineReset u ∷ ms) (record { due = κ.due; room = κ.room; xres = κ.xres; lines = suc κ.lines }) e → Lasting (f.Safe z) b
      → (OnPlan f y (suc n) ms κ (reset_by LineReset e) → Reaches f z (sync (position y (suc n)) (tally 0 a k) b t (reset_by LineReset e)))
      → Reaches f z (sync (position y n) (tally 0 a k) b t e)
  line-reaches {z} {s} {u} {y} {n} {a} {k} {ms} {κ} {e} {b} {t} st safe next =
      steps f (tally 0 a k) _ st safe
      (record { transfers = omega (arith, st.room); xresets = omega (arith, st.xres); line_resets = omega (arith, st.lines) })
      arrives (going_on (without (same-running b b refl))
      (next (record { at = at_next st; accounted = st.accounted; room = st.room; xres = st.xres; lines = omega (arith, st.lines); calm = λ still. let c = st.calm still in record { line = c.line; calls = c.calls; none = c.none } })))
    where
      arrives : advance i (sync (position y n) (tally 0 a k) b t e) ≡ sync (position y (suc n)) (tally 0 a k) b t (reset_by LineReset e)
      arrives = unfold advance step_of watch meet decode in rw (at-move st)

  -- the run after an attempt, and after one that was missed
  abbrev tried : Met → (s : ℕ) → Position → Counters → Watch → Env → Run
  tried x s o c t e =
      let v = verdict ReadIdcode x.answer in
      after (heard_by true i Idcode v c) o s x.target (watch_by true i.geometry ReadIdcode v (seen no_waits c.polls c.attempts t e.delays)) (passed x.lists e)

  abbrev missed : (s : ℕ) → Position → Counters → Target → Watch → Env → Run
  missed s o c b t e =
      after (heard_by true i Idcode again c) o s b (watch_by true i.geometry ReadIdcode again (seen no_waits c.polls c.attempts t e.delays)) e

  abbrev met_by : Target → Env → Met
  met_by b e = transferred i.geometry ReadIdcode e.lists b

  arrives : {s : ℕ} {y : Entry} {n : ℕ} {ms : List Move} {κ : Allowance} {e : Env} (a k : ℕ) (b : Target) (t : Watch) → OnPlan f y n (move s ReadIdcode Idcode ∷ ms) κ e
      → advance i (sync (position y n) (tally 0 a k) b t e) ≡ tried (met_by b e) s (position y n) (tally 0 a k) t e
  unfolding advance step_of watch
  arrives {e = e} a k b t st = rw (at-move st, meets i.geometry attempt e.lists b)

  -- what a session may still try m times more
  abbrev pub trying : ℕ → Allowance → Allowance
  trying m κ = record { due = suc κ.due; room = suc m + κ.room; xres = κ.xres; lines = suc m + κ.lines }

  abbrev after_line : ℕ → Allowance → Allowance
  after_line m κ = record { due = suc κ.due; room = suc m + κ.room; xres = κ.xres; lines = m + κ.lines }

  -- one attempt: `on_miss` is where a failed one leads to
  attempt-once : (m s : ℕ) {z : Bool} {y : Entry} {n : ℕ} {ms : List Move} {κ : Allowance} {e : Env} (a k : ℕ) (b : Target) (t : Watch)
      → OnPlan f y n (move s LineReset Sent ∷ move s ReadIdcode Idcode ∷ ms) (trying m κ) e → killed b ≡ false → Lasting (f.Safe z) b → b.silicon ≡ f.silicon
      → (on_miss : (f.Still → ⊥) → (l : Lists) → OnPlan f y (suc n) (move s ReadIdcode Idcode ∷ ms) (after_line m κ) (reset_by LineReset e)
      → Reaches f z (missed s (position y (suc n)) (tally 0 a k) b t (passed l (reset_by LineReset e))))
      → (next : eqb f.silicon.idcode 0x0BB11477 ≡ true → (e' : Env) → OnPlan f y (suc (suc n)) ms κ e' → Reaches f z (sync (position y (suc (suc n))) (tally 0 0 k) b t e'))
      → Reaches f z (sync (position y n) (tally 0 a k) b t e)
  unfolding carry judge noticed
  attempt-once m s {z} {y} {n} {ms} {κ} {e} a k b t st not-killed safe own on_miss next =
      line-reaches (record { at = st.at; accounted = st.accounted; room = st.room; xres = st.xres; lines = omega (arith, st.lines); calm = st.calm }) safe λ st₁.
      steps f (tally 0 a k) _ st₁ safe
      (record { transfers = omega (arith, st₁.room); xresets = omega (arith, st₁.xres); line_resets = omega (arith, st₁.lines) })
      (arrives a k b t st₁) (by st₁ (hears i.geometry e.lists b attempt not-killed (barred-off i.geometry ReadIdcode b refl)))
    where
      e₁ : Env
      e₁ = reset_by LineReset e

      met : Run
      met = tried (met_by b e₁) s (position y (suc n)) (tally 0 a k) t e₁

      moved : OnPlan f y (suc n) (move s ReadIdcode Idcode ∷ ms) (after_line m κ) e₁ → OnPlan f y (suc (suc n)) ms κ (passed (lists_after i.geometry ReadIdcode b e.lists) e₁)
      moved st₁ = record {
        at = at_next st₁;
        accounted = omega (arith, st₁.accounted);
        room = omega (arith, st₁.room);
        xres = st₁.xres;
        lines = omega (arith, st₁.lines);
        calm = λ still. let c = st.calm still in record { line = calm-rest c.line; calls = c.calls; none = c.none };
      }

      mine : (v : Bool) → eqb b.silicon.idcode 0x0BB11477 ≡ v → eqb f.silicon.idcode 0x0BB11477 ≡ v
      mine v h = sym (ap (λ (x : Silicon). eqb x.idcode 0x0BB11477) own) ∙ h

      fit : OnPlan f y (suc n) (move s ReadIdcode Idcode ∷ ms) (after_line m κ) e₁ → (v : Bool) → eqb b.silicon.idcode 0x0BB11477 ≡ v
          → Reaches f z (after (go_if v 16 (tally 0 0 k)) (position y (suc n)) s b (watching (seen no_waits 0 0 t e.delays)) (passed (lists_after i.geometry ReadIdcode b e.lists) e₁))
      fit st₁ true h = next (mine true h) (passed (lists_after i.geometry ReadIdcode b e.lists) e₁) (moved st₁)
      fit st₁ false h = stop (f.wrong_id s b _ _ _ safe (mine false h))

      same : Turn s z b b z
      same = without (same-running b b refl)

      by : OnPlan f y (suc n) (move s ReadIdcode Idcode ∷ ms) (after_line m κ) e₁ → Heard i.geometry ReadIdcode e.lists b (met_by b e₁) → Onto f s z b met
      by st₁ (heard_okay hb hv hl) = rw (hb, hv, hl) (going_on same (fit st₁ (eqb b.silicon.idcode 0x0BB11477) refl))
      by st₁ (heard_wait bad hb hv hl) = rw (hb, hv, hl) (going_on same (on_miss (not_calm st bad) _ st₁))
      by st₁ (heard_error c hn bad hb hv) = rw (hb, hv) (going_on same (on_miss (not_calm st bad) _ st₁))
      by st₁ (heard_error_done c hn bad hb hv) = rw (hb, hv) (going_on same (on_miss (not_calm st bad) _ st₁))

  -- the attempts; after this one m more are allowed
  pub attempts : (m s : ℕ) {z : Bool} {y : Entry} {n : ℕ} {ms : List Move} {κ : Allowance} {e : Env} (a k : ℕ) (b : Target) (t : Watch)
      → a + suc m ≡ 30 → OnPlan f y n (move s LineReset Sent ∷ move s ReadIdcode Idcode ∷ ms) (trying m κ) e → killed b ≡ false → Lasting (f.Safe z) b → b.silicon ≡ f.silicon
      → (next : eqb f.silicon.idcode 0x0BB11477 ≡ true → (e' : Env) → OnPlan f y (suc (suc n)) ms κ e' → Reaches f z (sync (position y (suc (suc n))) (tally 0 0 k) b t e'))
      → Reaches f z (sync (position y n) (tally 0 a k) b t e)
  attempts zero s a k b t count st not-killed safe own next =
      attempt-once zero s a k b t st not-killed safe own
      (λ bad l st₁. rw (le-ltb (suc a) 30 (omega arith)) (stop (f.caught 26 s b l _ (lit≤ tt) bad safe))) next
  attempts (suc m) s {n = n} {κ = κ} {e = e} a k b t count st not-killed safe own next =
      attempt-once (suc m) s a k b t st not-killed safe own
      (λ bad l st₁.
      let again' : suc n - 1 ≡ n = omega arith in
      rw (lt-ltb (suc a) 30 (omega arith), again') (
      attempts m s {e = record { lists = l; delays = one_missed e.delays; traffic = more (counting LineReset e.traffic) }} (suc a) k b t (omega arith)
      (record { at = st.at; accounted = omega (arith, st₁.accounted); room = omega (arith, st₁.room); xres = st₁.xres; lines = omega (arith, st₁.lines); calm = λ still. absurd (bad still) })
      not-killed safe own next)) next
