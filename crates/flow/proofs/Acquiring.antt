-- Steps 1 and 2. Assumes nothing.
use mathlib.Core.Bool.{true, false}
use mathlib.Core.List.{List, ◌∷◌, ◌++◌}
use mathlib.Core.Path.{◌≡◌, refl, ap, sym, subst, ◌∙◌}
use Prim.Native.Nat.{ℕ, zero, suc, ◌+◌, ◌*◌, ◌/◌, ◌%◌, ◌≤◌, ◌<◌}
use native.Mathlib.Omega.{arith}
use lib.Dec.{eqb}
use lib.ListN.{length}
use borrow.Author.Tests.{eq-eqb}
use Rattle.flow.specs.Calls.{sysarg_after, sysreq_after}
use Rattle.flow.specs.Exchange.{carry}
use Rattle.flow.specs.Judge.{judge}
use Rattle.flow.specs.Monitor.{no_waits, watching, noticed, notice_read}
use Rattle.flow.specs.Run.{Run}
use Rattle.flow.specs.Sequence.{move, key, write, read, poll, call, imo_call, acquire}
use Rattle.flow.specs.Session.{position}
use Rattle.flow.specs.Target.{Target, Memory, idle, set_reset}
use Rattle.flow.specs.Words.{free, succeeded, test_bit_set, ids_fit, level_in}
use Rattle.flow.specs.declared.Entry.{Entry}
use Rattle.flow.specs.declared.Move.{Move}
use Rattle.flow.specs.declared.Place.TheVariants.{AtSysreq, AtSysarg, AtTestMode}
use Rattle.flow.specs.declared.Purpose.{Purpose}
use Rattle.flow.specs.declared.Purpose.TheVariants.{Sent, Idcode, TestBit, Poll, Keep}
use Rattle.flow.specs.declared.Request.TheVariants.{LineReset, ReadIdcode, WriteSetup}
use Rattle.flow.specs.declared.Silicon.{Silicon}
use Rattle.flow.proofs.Access.{Answering, admits, write-reaches, read-still, barred-off}
use Rattle.flow.proofs.Attempts.{xres-reaches, trying, attempts}
use Rattle.flow.proofs.Calling.{ids, imo, still-call, free-zero}
use Rattle.flow.proofs.Decoding.{a_ctrl, a_select, a_csw}
use Rattle.flow.proofs.Legs.{Core, core, Leg, halt}
use Rattle.flow.proofs.Phases.{plain-call}
use Rattle.flow.proofs.Table.{place-sysreq, place-sysarg, place-test, Facts}
use Rattle.flow.proofs.Polling.{idle_at, poll-idle}
use Rattle.flow.proofs.Reaches.{Allowance, with_transfer, with_read, with_request, with_moves, Env, sync, right_silicon, Frame, Lasting, at_rest, OnPlan, OnPlanFor, less-room, without, same-running, Reaches, tally, seen, after}
use Rattle.flow.proofs.Transfer.{transfer}
use Rattle.image.specs.Image.{Image}
use Rattle.parts.specs.Sizes.{row_bytes_of, sysreq_of, sysarg_of, TEST-MODE, imo_of}
use Rattle.wire.specs.declared.Register.TheVariants.{CtrlStat, Select, Csw}

-- before an acquisition
pub record Fresh {i : Image} (f : Frame i) (m : Memory) (k : ℕ) (c : Core) : Type 0 where
  pub silicon : c.silicon ≡ f.silicon
  pub memory : c.memory ≡ m
  pub room : 2 + row_bytes_of i.geometry / 4 ≤ length c.params
  pub quiet : c.running ≡ idle

-- and after it
pub record Acquired {i : Image} (f : Frame i) (m : Memory) (k : ℕ) (c : Core) : Type 0 where
  pub fresh : Fresh f m k c
  pub effect : c.effect ≡ m.stored
  pub idcode : eqb f.silicon.idcode 0x0BB11477 ≡ true

-- whatever word is kept
pub acquired-with : {i : Image} {f : Frame i} {m : Memory} {k k' : ℕ} {c : Core} → Acquired f m k c → Acquired f m k' c
acquired-with p = record {
  fresh = record { silicon = p.fresh.silicon; memory = p.fresh.memory; room = p.fresh.room; quiet = p.fresh.quiet };
  effect = p.effect;
  idcode = p.idcode;
}

module _ {i : Image} (f : Frame i) (fx : Facts i.geometry) (y : Entry) (m : Memory) (answering : Answering m.stored) (safe : f.Safe false m) where
  stays : (b : Target) → b.memory ≡ m → f.Safe false b.memory
  stays b e = rw e safe

  imo-leg : (n : ℕ) → Leg f y (imo_call i.geometry n) (halt false (Acquired f m)) (halt false (Acquired f m))
  unfolding imo_call with_moves
  imo-leg zero = record { along = λ n x k later κ e b p st next. next k b p n x e st }
  imo-leg (suc z) = record {
    along = λ n x k later κ e b p st next.
        let plain = plain-call 0x15 (omega arith) refl refl in
        still-call f fx 1 (key 0x15) imo st (rw p.effect answering) p.fresh.quiet (stays b p.fresh.memory) (plain.ready _ _) (plain.good _ _) λ b' ret same n' e' st'.
        next k b' (subst (Acquired f m k) (sym same) p) n' _ e' st';
  }

  -- step 1 behind the attempts
  abbrev setup : List Move
  setup =
      move 1 (WriteSetup CtrlStat 0x54000000) Sent
      ∷ move 1 (WriteSetup Select 0) Sent
      ∷ move 1 (WriteSetup Csw 2) Sent
      ∷ (write 1 TEST-MODE 0x80000000 ++ (read 1 TEST-MODE TestBit ++ (poll i.geometry 1 ++ imo_call i.geometry (imo_of i.geometry))))

  thirty : {n : ℕ} {ms : List Move} (κ : Allowance) {e : Env} → OnPlan f y n ms (with_request LineReset Sent (with_request ReadIdcode Idcode κ)) e → OnPlan f y n ms (trying f 29 κ) e
  thirty κ st = less-room (30 + κ.room) (omega arith) st

  one-poll : {n : ℕ} {ms : List Move} (κ : Allowance) {e : Env} → OnPlan f y n ms (with_transfer (with_transfer (with_read Poll κ))) e → OnPlan f y n ms (with_transfer (with_transfer (with_transfer κ))) e
  one-poll κ st = less-room (17 + (17 + (17 + κ.room))) (omega arith) st

  pub acquire-leg : Leg f y (acquire i.geometry) (halt false (Fresh f m)) (halt false (Acquired f m))
  unfolding acquire write read with_moves carry judge test_bit_set noticed notice_read
  acquire-leg = record {
    along = λ n x k later κ e b p st next.
        let answers : Answering b.memory.stored = rw p.memory answering in
        let not-killed = (admits b.memory.stored AtSysreq refl answers).not-killed in
        let sf = stays b p.memory in
        let lasting : Lasting (f.Safe false) (set_reset b) = record { now = sf; cut = λ r. sf } in
        xres-reaches f st sf p.quiet λ st₁.
        attempts f 29 1 0 k (set_reset b) (idle_at x) refl (thirty (with_moves setup κ) st₁) not-killed lasting p.silicon λ id e₂ st₂.
        transfer f a_ctrl st₂ not-killed (barred-off i.geometry (WriteSetup CtrlStat 0x54000000) (set_reset b) refl) lasting (λ o. lasting) (λ o. without (same-running (set_reset b) (set_reset b) refl)) λ _ e₃ _ st₃.
        transfer f a_select st₃ not-killed (barred-off i.geometry (WriteSetup Select 0) (set_reset b) refl) lasting (λ o. lasting) (λ o. without (same-running (set_reset b) (set_reset b) refl)) λ _ e₄ _ st₄.
        transfer f a_csw st₄ not-killed (barred-off i.geometry (WriteSetup Csw 2) (set_reset b) refl) lasting (λ o. lasting) (λ o. without (same-running (set_reset b) (set_reset b) refl)) λ _ e₅ _ st₅.
        write-reaches f 1 TEST-MODE 0x80000000 st₅ AtTestMode (place-test i.geometry fx) (admits b.memory.stored AtTestMode refl answers) lasting lasting refl λ e₆ _ st₆.
        read-still f 1 TEST-MODE TestBit st₆ AtTestMode (place-test i.geometry fx) (admits b.memory.stored AtTestMode refl answers) lasting (λ o. 0x80000000) (λ o z. refl) λ _ _ e₇ _ st₇.
        poll-idle f (place-sysreq i.geometry fx) 1 _ (one-poll (with_moves (imo_call i.geometry (imo_of i.geometry)) κ) st₇) (admits b.memory.stored AtSysreq refl answers) sf refl free-zero λ e₈ _ st₈.
        (imo-leg (imo_of i.geometry)).along _ _ k later κ e₈ _
        (record { fresh = record { silicon = p.silicon; memory = p.memory; room = p.room; quiet = refl }; effect = ap (λ (z : Memory). z.stored) p.memory; idcode = id }) st₈ next;
  }

-- ---- step 2

-- the target's IDs are bytes
pub record Bytes (x : Silicon) : Type 0 where
  pub high : x.high < 256
  pub low : x.low < 256
  pub revision : x.revision < 256
  pub family : x.family < 256

free-0 : (x : Silicon) (l : ℕ) → Bytes x → l < 16 → free (sysreq_after 0 x l) ≡ true
unfolding free sysreq_after
free-0 x l hb hl = rw (eq-eqb ((l * 0x1000 + x.family) / 0x80000000 % 2) 0 (omega arith), eq-eqb ((l * 0x1000 + x.family) / 0x10000000 % 2) 0 (omega arith))

good-0 : (x : Silicon) (m : Memory) → Bytes x → succeeded (sysarg_after 0 x m) ≡ true
unfolding succeeded sysarg_after
good-0 x m hb = eq-eqb ((0xA0000000 + x.revision * 0x10000 + x.high * 0x100 + x.low) / 0x10000000 % 16) 0xA (omega arith)

-- what step 2 reads is what the target is
pub ids-read : (i : Image) (x : Silicon) (m : Memory) (l : ℕ) → Bytes x → ids_fit i.geometry i.header (sysarg_after 0 x m) (sysreq_after 0 x l) ≡ right_silicon i x
unfolding ids_fit right_silicon sysarg_after sysreq_after
ids-read i x m l hb = rw (high, low, family)
  where
    high : (0xA0000000 + x.revision * 0x10000 + x.high * 0x100 + x.low) / 256 % 256 ≡ x.high
    high = omega arith

    low : (0xA0000000 + x.revision * 0x10000 + x.high * 0x100 + x.low) % 256 ≡ x.low
    low = omega arith

    family : (l * 0x1000 + x.family) % 256 ≡ x.family
    family = omega arith

pub level-read : (x : Silicon) (l : ℕ) → Bytes x → l < 16 → level_in (sysreq_after 0 x l) ≡ l
unfolding sysreq_after
level-read x l hb hl = omega arith

module _ {i : Image} (f : Frame i) (fx : Facts i.geometry) (m : Memory) (answering : Answering m.stored) (safe : f.Safe false m) (hb : Bytes f.silicon) (hl : m.stored < 16) where
  -- the run after the Read of SYSREQ
  abbrev pub identified : Purpose → Entry → (n k : ℕ) → Target → Env → Run
  identified u y n k b e =
      after (judge i u (tally 0 0 (sysarg_after 0 f.silicon m)) (sysreq_after 0 f.silicon m.stored)) (position y n) 2 b
      (watching (seen no_waits 0 0 (idle_at (sysreq_of i.geometry)) e.delays)) e

  pub silicon-reaches : (u : Purpose) {y : Entry} {n x k : ℕ} {ms : List Move} {κ : Allowance} {e : Env} {b : Target} → Acquired f m k (core b)
      → OnPlanFor f (position y n) (call i.geometry 2 0 (key 0)) (read 2 (sysarg_of i.geometry) Keep ++ (read 2 (sysreq_of i.geometry) u ++ ms)) (with_transfer (with_transfer (with_transfer (with_transfer (with_transfer (with_transfer κ)))))) e
      → (next : (b' : Target) → core b' ≡ core b → (n' : ℕ) (e' : Env) → OnPlan f y (suc n') ms κ e' → Reaches f false (identified u y n' k b' e'))
      → Reaches f false (sync (position y n) (tally 0 0 k) b (idle_at x) e)
  unfolding judge notice_read
  silicon-reaches u {b = b} p st next =
      let sf : f.Safe false b.memory = rw p.fresh.memory safe in
      let ready : free (sysreq_after 0 b.silicon b.effect) ≡ true = rw (p.fresh.silicon, p.effect) (free-0 f.silicon m.stored hb hl) in
      let good : succeeded (sysarg_after 0 b.silicon b.memory) ≡ true = rw (p.fresh.silicon, p.fresh.memory) (good-0 f.silicon m hb) in
      still-call f fx 2 (key 0) ids st (rw p.effect answering) p.fresh.quiet sf ready good λ b₁ ret same n₁ e₁ st₁.
      let answers : Answering b₁.effect = rw (ret.effect, p.effect) answering in
      let sf₁ : f.Safe false b₁.memory = rw (ap (λ (c : Core). c.memory) same) sf in
      let arg : b₁.sysarg ≡ sysarg_after 0 f.silicon m = ret.sysarg ∙ rw (p.fresh.silicon, p.fresh.memory) in
      let req : b₁.sysreq ≡ sysreq_after 0 f.silicon m.stored = ret.sysreq ∙ rw (p.fresh.silicon, p.effect) in
      read-still f 2 (sysarg_of i.geometry) Keep st₁ AtSysarg (place-sysarg i.geometry fx) (admits b₁.effect AtSysarg refl answers) (at_rest (f.Safe false) b₁ ret.ended sf₁)
      (λ o. sysarg_after 0 f.silicon m) (λ o z. rw arg) λ _ _ e₂ _ st₂.
      read-still f 2 (sysreq_of i.geometry) u st₂ AtSysreq (place-sysreq i.geometry fx) (admits b₁.effect AtSysreq refl answers) (at_rest (f.Safe false) b₁ ret.ended sf₁)
      (λ o. sysreq_after 0 f.silicon m.stored) (λ o z. rw (ret.ended, req)) λ _ _ e₃ _ st₃.
      next _ same _ e₃ st₃
