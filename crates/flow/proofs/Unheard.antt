-- The success that seals a board can go unheard: with the line clean up to that transfer, and the transfer carried out but answered by
-- silence, the session reports 29. Assumes nothing.
use mathlib.Core.Bool.{Bool, true, false, false≢true, ◌&&◌, not, cond, and-false}
use mathlib.Core.List.{List, [], ◌∷◌}
use mathlib.Core.Path.{◌≡◌, refl, ap, sym, ◌∙◌}
use Prim.Native.Nat.{ℕ, zero, suc}
use Rattle.std.proofs.Common.{Option, Some, None}
use Rattle.flow.specs.BoardExamples.{none}
use Rattle.flow.specs.Calls.{dropped, finish, reset}
use Rattle.flow.specs.Exchange.{decode, carry, killed, barred, carried_out, gives, silent_reply, reply_to, Met, met, transferred, meet_on, meet}
use Rattle.flow.specs.Packets.{packet_of, is_read, is_reset, is_attempt}
use Rattle.flow.specs.Run.{Run, served, advance_by, advance, run_after, started}
use Rattle.flow.specs.SealedRuns.{step_at, SealedUnheard}
use Rattle.flow.specs.Sealing.{on_macro0, succeeds0, seals}
use Rattle.flow.specs.Session.{SessionState, running, reported, move_at, act, step_of}
use Rattle.flow.specs.Target.{Target, CallOutcome, Running, idle, busy, next_event}
use Rattle.flow.specs.Words.{succeeded}
use Rattle.flow.specs.declared.Answer.TheVariants.{Transferred}
use Rattle.flow.specs.declared.Counters.{Counters}
use Rattle.flow.specs.declared.Position.{Position}
use Rattle.flow.specs.declared.LineEvent.{LineEvent}
use Rattle.flow.specs.declared.Move.{Move}
use Rattle.flow.specs.declared.Reply.{Reply}
use Rattle.flow.specs.declared.Request.{Request}
use Rattle.flow.specs.declared.Request.TheVariants.{Xres, LineReset, ReadIdcode, ReadDrw, WriteTar, WriteDrw, WriteSetup}
use Rattle.flow.specs.declared.TransferOutcome.TheVariants.{Silent}
use Rattle.flow.proofs.Calling.{failed}
use Rattle.flow.proofs.Decoding.{attempt, decodes}
use Rattle.flow.proofs.Hearing.{silence-heard}
use Rattle.flow.proofs.Keeping.{carried_keeps}
use Rattle.flow.proofs.Reaches.{same-running, no-seal}
use Rattle.image.specs.Image.{Image}
use Rattle.parts.specs.declared.Geometry.{Geometry}

-- past its end a list goes on with such events
abbrev clean : LineEvent
clean = next_event []

-- carried out as the clean one is, and not answered
abbrev silent : LineEvent
silent = record { outcome = Silent true; filler = record { ack = 7; word = 0; parity = 0 }; other = clean.other }

-- what is left of the line set to another
abbrev met_on : List LineEvent → Met → Met
met_on es m = record { target = m.target; answer = m.answer; lists = record { line = es; calls = m.lists.calls } }

abbrev run_on : List LineEvent → Run → Run
run_on es r = record {
  session = r.session;
  target = r.target;
  lists = record { line = es; calls = r.lists.calls };
  monitor = r.monitor;
  traffic = r.traffic;
}

-- ---- a packet, by the line that it meets

-- some line does what the empty one does and leaves es
record Ahead (es : List LineEvent) (f : List LineEvent → Met) : Type 0 where
  pub line : List LineEvent
  pub same : f line ≡ met_on es (f [])
  pub bare : met_on [] (f []) ≡ f []

-- the silent event does what the clean one does, and is not answered
record Unanswered (f : List LineEvent → Met) : Type 0 where
  pub target : (f (silent ∷ [])).target ≡ (f []).target
  pub answer : (f (silent ∷ [])).answer ≡ Transferred (silent_reply silent.filler)

-- a transfer outside the attempts: a silence ends the session
record Outside (q : Request) : Type 0 where
  pub transfers : is_reset q ≡ false
  pub counts : is_attempt q ≡ false

no : {y : Bool} → y ≡ false → y ≡ true → ⊥
no e h = false≢true (sym e ∙ h)

module _ (g : Geometry) (calls : List CallOutcome) (b : Target) where
  abbrev transfer_on : Request → List LineEvent → Met
  transfer_on q line = transferred g q (record { line = line; calls = calls }) b

  abbrev meet_with : Option Request → List LineEvent → Met
  meet_with d line = meet_on g d (record { line = line; calls = calls }) b

  -- a transfer, by whether the target is silent and whether it bars it
  abbrev transfer_by : (kills bars : Bool) → Request → List LineEvent → Met
  transfer_by kills bars q line =
      let e = next_event line in
      met (not kills && not bars && carried_out e.outcome) g q (record { line = line; calls = calls })
      (cond kills (silent_reply e.filler) (reply_to e.outcome bars (is_read q) (gives q b) e.filler)) b

  transfer-ahead : (es : List LineEvent) (q : Request) → Ahead es (transfer_on q)
  unfolding transferred
  transfer-ahead es q = by (killed b) (barred g q b)
    where
      by : (kills bars : Bool) → Ahead es (transfer_by kills bars q)
      by true bars = record { line = clean ∷ es; same = refl; bare = refl }
      by false true = record { line = clean ∷ es; same = refl; bare = refl }
      by false false = record { line = clean ∷ es; same = refl; bare = refl }

  meet-ahead : (es : List LineEvent) (d : Option Request) → Ahead es (meet_with d)
  meet-ahead es (Some Xres) = record { line = es; same = refl; bare = refl }
  meet-ahead es (Some LineReset) = record { line = es; same = refl; bare = refl }
  meet-ahead es (Some ReadIdcode) = transfer-ahead es ReadIdcode
  meet-ahead es (Some ReadDrw) = transfer-ahead es ReadDrw
  meet-ahead es (Some (WriteTar a)) = transfer-ahead es (WriteTar a)
  meet-ahead es (Some (WriteDrw w)) = transfer-ahead es (WriteDrw w)
  meet-ahead es (Some (WriteSetup r w)) = transfer-ahead es (WriteSetup r w)
  meet-ahead es None = record { line = clean ∷ es; same = refl; bare = refl }

  -- XRES drops a call as failed
  reset-ends : succeeds0 b (reset g b) ≡ false
  unfolding reset finish
  reset-ends = by b.running
    where
      by : (r : Running) → on_macro0 r b.sysarg && succeeded (dropped g r b).sysarg ≡ false
      by idle = refl
      by (busy n x r c) = rw (failed r.sysarg) (and-false (on_macro0 (busy n x r c) b.sysarg))

  same_ends : seals b b ≡ true → ⊥
  same_ends = no (no-seal b b (same-running b b refl))

  -- the transfer that seals was carried out
  transfer-unanswered : (q : Request) → seals b (transfer_on q []).target ≡ true → Unanswered (transfer_on q)
  unfolding transferred
  transfer-unanswered q = by (killed b) (barred g q b)
    where
      by : (kills bars : Bool) → seals b (transfer_by kills bars q []).target ≡ true → Unanswered (transfer_by kills bars q)
      by true bars h = absurd (same_ends h)
      by false true h = absurd (same_ends h)
      by false false h = record { target = refl; answer = refl }

  meet-unanswered : (d : Option Request) → seals b (meet_with d []).target ≡ true → Unanswered (meet_with d)
  meet-unanswered (Some Xres) h = absurd (no (no-seal b (reset g b) reset-ends) h)
  meet-unanswered (Some LineReset) h = absurd (same_ends h)
  meet-unanswered (Some ReadIdcode) h = transfer-unanswered ReadIdcode h
  meet-unanswered (Some ReadDrw) h = transfer-unanswered ReadDrw h
  meet-unanswered (Some (WriteTar a)) h = transfer-unanswered (WriteTar a) h
  meet-unanswered (Some (WriteDrw w)) h = transfer-unanswered (WriteDrw w) h
  meet-unanswered (Some (WriteSetup r w)) h = transfer-unanswered (WriteSetup r w) h
  meet-unanswered None h = absurd (same_ends h)

  -- a read of IDCODE alters nothing
  idcode-ends : seals b (meet_with (decode (packet_of ReadIdcode)) []).target ≡ false
  unfolding carry
  idcode-ends =
      rw (decodes attempt)
      (carried_keeps g (λ z. seals b z ≡ false) ReadIdcode (λ o c z h. h) (record { line = []; calls = calls }) b (no-seal b b (same-running b b refl)))

  -- so that no reset and no attempt seals
  is-outside : (q : Request) → seals b (meet_with (decode (packet_of q)) []).target ≡ true → Outside q
  unfolding decode
  is-outside Xres h = absurd (no (no-seal b (reset g b) reset-ends) h)
  is-outside LineReset h = absurd (same_ends h)
  is-outside ReadIdcode h = absurd (no idcode-ends h)
  is-outside ReadDrw h = record { transfers = refl; counts = refl }
  is-outside (WriteTar a) h = record { transfers = refl; counts = refl }
  is-outside (WriteDrw w) h = record { transfers = refl; counts = refl }
  is-outside (WriteSetup r w) h = record { transfers = refl; counts = refl }

-- ---- a run, by its line

record AheadRun (es : List LineEvent) (f : List LineEvent → Run) : Type 0 where
  pub line : List LineEvent
  pub same : f line ≡ run_on es (f [])
  pub bare : run_on [] (f []) ≡ f []

-- after n steps there is one that seals the board and ends the session with 29
record Ends (i : Image) (n : ℕ) (r : Run) : Type 0 where
  pub seals : seals (run_after i n r).target (run_after i (suc n) r).target ≡ true
  pub sent : ℕ
  pub reports : (run_after i (suc n) r).session ≡ reported 29 (step_at i (run_after i n r).session) sent

-- some line brings it about
record EndsOn (i : Image) (n : ℕ) (r : Run) : Type 0 where
  pub line : List LineEvent
  pub ends : Ends i n (run_on line r)

module _ (i : Image) where
  advance-ahead : (r : Run) (es : List LineEvent) → AheadRun es (λ line. advance i (run_on line r))
  unfolding advance meet
  advance-ahead r es = by r.session
    where
      by : (s : SessionState) → AheadRun es (λ line. advance_by i s (run_on line r))
      by (reported x s h) = record { line = es; same = refl; bare = refl }
      by (running o c h) =
          let m = move_at i o in
          let x = meet-ahead i.geometry r.lists.calls r.target es (decode (packet_of m.request)) in
          let f : Met → Run = λ z. served i (running o c h) m z r in
          record { line = x.line; same = ap f x.same; bare = ap f x.bare }

  silence-ends : (m : Move) → Outside m.request → (j : Reply) (o : Position) (c : Counters) (h : ℕ)
      → act i m (Transferred (silent_reply j)) o c h ≡ reported 29 m.step (suc h)
  silence-ends m q j o c h = rw (q.transfers, q.counts, silence-heard m.request j)

  at_once : (r : Run) → seals r.target (advance i (run_on [] r)).target ≡ true → Ends i 0 (run_on (silent ∷ []) r)
  unfolding run_after advance meet step_of
  at_once r = by r.session refl
    where
      by : (s : SessionState) → r.session ≡ s → seals r.target (advance_by i s (run_on [] r)).target ≡ true → Ends i 0 (run_on (silent ∷ []) r)
      by (reported x s h) e z = absurd (no (no-seal r.target r.target (same-running r.target r.target refl)) z)
      by (running o c h) e z =
          let m = move_at i o in
          let x = meet-unanswered i.geometry r.lists.calls r.target (decode (packet_of m.request)) z in
          let q = is-outside i.geometry r.lists.calls r.target m.request z in
          record {
            seals = rw (e, x.target) z;
            sent = suc h;
            reports = rw (e, x.answer) (silence-ends m q silent.filler o c h);
          }

  -- one step sooner
  sooner : (n : ℕ) (r : Run) → Ends i n (advance i r) → Ends i (suc n) r
  unfolding run_after
  sooner n r u = record { seals = u.seals; sent = u.sent; reports = u.reports }

  in-time : (n : ℕ) (r : Run) → seals (run_after i n (run_on [] r)).target (run_after i (suc n) (run_on [] r)).target ≡ true → EndsOn i n r
  unfolding run_after
  in-time zero r h = record { line = silent ∷ []; ends = at_once r h }
  in-time (suc n) r h =
      let u = in-time n (advance i (run_on [] r)) (rw (advance-ahead r []).bare h) in
      let x = advance-ahead r u.line in
      record { line = x.line; ends = sooner n (run_on x.line r) (rw x.same u.ends) }

-- a success that the session heard of can also go unheard
pub unheard : (i : Image) (b : Target) (n : ℕ)
    → seals (run_after i n (started b none)).target (run_after i (suc n) (started b none)).target ≡ true → SealedUnheard i b n
unheard i b n h =
    let u = in-time i n (started b none) h in
    record { lists = record { line = u.line; calls = [] }; seals = u.ends.seals; sent = u.ends.sent; reports = u.ends.reports }
