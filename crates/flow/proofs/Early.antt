-- Until step 3 begins a session alters nothing, whatever the image, the target and the lists are: the moves of steps 1 and 2 start no call but
-- 0 and 0x15, and those after them never lead back. Assumes nothing.
use mathlib.Core.Bool.{Bool, true, false, false≢true}
use mathlib.Core.List.{List, ◌++◌}
use mathlib.Core.Logic.{◌⊎◌, inl, inr}
use mathlib.Core.Path.{◌≡◌, refl, sym, ap, subst, ◌∙◌}
use Prim.Native.Nat.{ℕ, zero, suc, ◌+◌, ◌-◌, ◌≤◌, ◌<◌}
use native.Mathlib.Omega.{arith}
use lib.Dec.{ltb, lit≤}
use lib.ListN.{length, get_or, get_or-append}
use lib.Seq.{get_or-append-add}
use borrow.Author.Tests.{ltb-true, ltb-false}
use Rattle.flow.specs.Claim.{EarlySpared}
use Rattle.flow.specs.Exchange.{meet}
use Rattle.flow.specs.Packets.{is_attempt, packet_of, is_reset}
use Rattle.flow.specs.Plan.{Traffic, counting}
use Rattle.flow.specs.Run.{Run, advance_by, advance, run_after, started}
use Rattle.flow.specs.Sequence.{key, write, read, call, writes, listed, imo_call, acquire, silicon, opening, afterwards, sequence, end_move}
use Rattle.flow.specs.Session.{position, move_at, SessionState, running, reported, stand_after, counted, step_of}
use Rattle.flow.specs.Target.{Target, Memory}
use Rattle.flow.specs.declared.Entry.{Entry}
use Rattle.flow.specs.declared.Entry.TheVariants.{FromOpen, FromProtected}
use Rattle.flow.specs.declared.Move.{Move}
use Rattle.flow.specs.declared.Next.{Next}
use Rattle.flow.specs.declared.Purpose.{Purpose}
use Rattle.flow.specs.declared.Purpose.TheVariants.{Sent, TestBit, Poll, Status, Keep, EntryLevel}
use Rattle.flow.specs.declared.Request.{Request}
use Rattle.flow.specs.declared.Request.TheVariants.{Xres, WriteDrw}
use Rattle.flow.proofs.Calling.{Harmless, ids, imo}
use Rattle.flow.proofs.Counting.{never-fewer}
use Rattle.flow.proofs.Moves.{All, none, more, joined, anywhere, all-open, all-call, proper-at}
use Rattle.flow.proofs.Untouched.{Mild, Untouched, meet-untouched}
use Rattle.flow.proofs.Ways.{Leads, onward, stays, retries, polls, enters, stops, leads}
use Rattle.image.specs.Image.{Image}
use Rattle.parts.specs.Sizes.{imo_of}
use Rattle.parts.specs.declared.Geometry.{Geometry}

-- ---- the moves of steps 1 and 2

abbrev MildMove : Move → Type 0
MildMove m = Mild m.request

mild-read : (s a : ℕ) (u : Purpose) → All MildMove (read s a u)
unfolding read
mild-read s a u = more tt (more tt (more tt none))

mild-write : (s a w : ℕ) → Mild (WriteDrw w) → All MildMove (write s a w)
unfolding write
mild-write s a w h = more tt (more h none)

mild-call : (g : Geometry) (s c w : ℕ) → Mild (WriteDrw w) → Mild (WriteDrw (0x80000000 + c)) → All MildMove (call g s c w)
unfolding call
mild-call g s c w h h' = joined (mild-write s _ w h) (joined (mild-write s _ (0x80000000 + c) h') (joined (mild-read s _ Poll) (mild-read s _ Status)))

-- no call: bit 31 is clear
no_call : {w : ℕ} → false ≡ true → Harmless w
no_call e = absurd (false≢true e)

mild-imo : (g : Geometry) (n : ℕ) → All MildMove (imo_call g n)
unfolding imo_call
mild-imo g zero = none
mild-imo g (suc n) = mild-call g 1 0x15 (key 0x15) (λ e. no_call e) (λ e. imo)

mild-opening : (i : Image) → All MildMove (opening i)
unfolding opening acquire silicon
mild-opening i =
    joined
    (more tt (more tt (more tt (more tt (more tt (more tt
    (joined (mild-write 1 _ 0x80000000 (λ e. ids)) (joined (mild-read 1 _ TestBit) (joined (mild-read 1 _ Poll) (mild-imo i.geometry (imo_of i.geometry)))))))))))
    (joined (mild-call i.geometry 2 0 (key 0) (λ e. no_call e) (λ e. ids)) (joined (mild-read 2 _ Keep) (mild-read 2 _ EntryLevel)))

all-at : {P : Move → Type 0} {ms : List Move} → All P ms → (n : ℕ) → n < length ms → P (get_or ms n end_move)
all-at none n h = absurd (omega arith)
all-at (more p ps) zero h = p
all-at (more p ps) (suc n) h = all-at ps n (omega arith)

-- ---- the moves after them

-- what is known of the j-th: no poll and no attempt goes back before the first; of step 3 on, or behind the second XRES
pub record Later (y : Entry) (j : ℕ) (m : Move) : Type 0 where
  pub poll : m.purpose ≡ Poll → 2 ≤ j
  pub attempt : is_attempt m.request ≡ true → 1 ≤ j
  pub step : (3 ≤ m.step) ⊎ ((y ≡ FromProtected) × (10 ≤ j))
  pub xres : y ≡ FromProtected → j ≡ 10 → m.request ≡ Xres

not-poll : (u : Purpose) → u ≡ Sent → u ≡ Poll → ⊥
not-poll u e h = let z : ◌≡◌ {A = ℕ} 0 1 = cc in omega arith

not-open : FromOpen ≡ FromProtected → ⊥
not-open e = let z : ◌≡◌ {A = ℕ} 0 1 = cc in omega arith

module _ (i : Image) where
  abbrev reopening : List Move
  reopening = call i.geometry 3 0x0D (key 0x0D + 0x10000)

  first_two : (y : Entry) (j : ℕ) → (get_or (afterwards i y) j end_move).purpose ≡ Poll → 2 ≤ j
  unfolding afterwards listed writes write call
  first_two FromOpen zero e = absurd (not-poll Sent refl e)
  first_two FromOpen (suc zero) e = absurd (not-poll Sent refl e)
  first_two FromOpen (suc (suc j)) e = omega arith
  first_two FromProtected zero e = absurd (not-poll Sent refl e)
  first_two FromProtected (suc zero) e = absurd (not-poll Sent refl e)
  first_two FromProtected (suc (suc j)) e = omega arith

  first_one : (y : Entry) (j : ℕ) → is_attempt (get_or (afterwards i y) j end_move).request ≡ true → 1 ≤ j
  unfolding afterwards listed writes write call
  first_one FromOpen zero e = absurd (false≢true e)
  first_one FromOpen (suc j) e = omega arith
  first_one FromProtected zero e = absurd (false≢true e)
  first_one FromProtected (suc j) e = omega arith

  ten : length reopening ≡ 10
  unfolding call write read
  ten = refl

  -- step 3 has ten moves, then XRES comes
  reopens : (j : ℕ) → j < 10 → 3 ≤ (get_or (afterwards i FromProtected) j end_move).step
  unfolding afterwards
  reopens j h = rw (get_or-append reopening _ end_move j (omega (arith, ten))) (anywhere (lit≤ tt) (all-call ⊥ 3 3 (lit≤ tt) (lit≤ tt) i.geometry 0x0D _) j).low

  second-xres : (get_or (afterwards i FromProtected) 10 end_move).request ≡ Xres
  unfolding afterwards call write read acquire
  second-xres = refl

  later : (y : Entry) (j : ℕ) → Later y j (get_or (afterwards i y) j end_move)
  later FromOpen j = record {
    poll = first_two FromOpen j;
    attempt = first_one FromOpen j;
    step = inl (anywhere (lit≤ tt) (all-open 3 (lit≤ tt) i) j).low;
    xres = λ e. absurd (not-open e);
  }
  later FromProtected j = record {
    poll = first_two FromProtected j;
    attempt = first_one FromProtected j;
    step = by (ltb j 10) refl;
    xres = λ _ e. ap (λ (n : ℕ). (get_or (afterwards i FromProtected) n end_move).request) e ∙ second-xres;
  }
    where
      by : (t : Bool) → ltb j 10 ≡ t → (3 ≤ (get_or (afterwards i FromProtected) j end_move).step) ⊎ ((FromProtected ≡ FromProtected) × (10 ≤ j))
      by true e = inl (reopens j (ltb-true j 10 e))
      by false e = inr (refl, ltb-false j 10 e)

  abbrev pub start : ℕ
  start = length (opening i)

  pub early-move : (y : Entry) (n : ℕ) → n < start → MildMove (move_at i (position y n))
  unfolding sequence
  early-move y n h = rw (get_or-append (opening i) (afterwards i y) end_move n h) (all-at (mild-opening i) n h)

  pub late-move : (y : Entry) (n : ℕ) → start ≤ n → Later y (n - start) (move_at i (position y n))
  unfolding sequence
  late-move y n h =
      let e : n ≡ start + (n - start) = omega arith in
      subst (Later y (n - start)) (sym (ap (λ (k : ℕ). get_or (opening i ++ afterwards i y) k end_move) e ∙ get_or-append-add (opening i) (afterwards i y) (n - start) end_move)) (later y (n - start))

  pub first-xres : (y : Entry) → (move_at i (position y 0)).request ≡ Xres
  unfolding sequence opening acquire
  first-xres y = refl

-- ---- XRES is counted

one-xres : (q : Request) (t : Traffic) → q ≡ Xres → (counting q t).xresets ≡ suc t.xresets
one-xres q t e = rw e

-- ---- where an early session stands

module _ (i : Image) (m₀ : Memory) where
  -- in steps 1 and 2 nothing is altered; past the first XRES, and past the second
  record Under (y : Entry) (n : ℕ) (b : Target) (x : ℕ) : Type 0 where
    pub before : n < start i → Untouched m₀ b
    pub one : 1 ≤ n → 1 ≤ x
    pub two : y ≡ FromProtected → start i + 11 ≤ n → 2 ≤ x

  abbrev EarlyAt : SessionState → Target → (xresets : ℕ) → Type 0
  EarlyAt (running p c h) b x = Under p.entry p.at b x
  EarlyAt (reported number step h) b x = step ≤ 2 → x ≤ 1 → b.memory ≡ m₀

  module _ (y : Entry) (n : ℕ) (b b' : Target) (t : Traffic) (u : Under y n b t.xresets) (kept : n < start i → Untouched m₀ b') where
    abbrev m : Move
    m = move_at i (position y n)

    abbrev x : ℕ
    x = (counting m.request t).xresets

    grew : t.xresets ≤ x
    grew = never-fewer m.request t

    -- one move on
    counted-one : 1 ≤ x
    counted-one = by n refl
      where
        by : (k : ℕ) → n ≡ k → 1 ≤ x
        by zero e = omega (arith, one-xres m.request t (ap (λ (j : ℕ). (move_at i (position y j)).request) e ∙ first-xres i y))
        by (suc k) e = omega (arith, u.one (omega arith), grew)

    counted-two : y ≡ FromProtected → start i + 11 ≤ suc n → 2 ≤ x
    counted-two e h = by (ltb n (start i + 11)) refl
      where
        by : (z : Bool) → ltb n (start i + 11) ≡ z → 2 ≤ x
        by true l =
            let at : n - start i ≡ 10 = omega (arith, ltb-true n (start i + 11) l) in
            omega (arith, one-xres m.request t ((late-move i y n (omega arith)).xres e at), u.one (omega arith))
        by false l = omega (arith, u.two e (ltb-false n (start i + 11) l), grew)

    early-at : {z : Next} (h : ℕ) → Leads m z → EarlyAt (stand_after z (position y n) m.step h) b' x
    early-at h onward = record { before = λ l. kept (omega arith); one = λ _. counted-one; two = counted-two }
    early-at h stays = record { before = kept; one = λ l. counted-one; two = λ e l. omega (arith, u.two e l, grew) }
    early-at h (retries e) = record { before = by (ltb n (start i)) refl; one = λ l. counted-one; two = λ e l. omega (arith, u.two e (omega arith), grew) }
      where
        by : (q : Bool) → ltb n (start i) ≡ q → n - 1 < start i → Untouched m₀ b'
        by true l h = kept (ltb-true n (start i) l)
        by false l h = absurd (omega (arith, (late-move i y n (ltb-false n (start i) l)).attempt e, ltb-false n (start i) l))
    early-at h (polls e) = record { before = by (ltb n (start i)) refl; one = λ l. counted-one; two = λ e l. omega (arith, u.two e (omega arith), grew) }
      where
        by : (q : Bool) → ltb n (start i) ≡ q → n - 2 < start i → Untouched m₀ b'
        by true l h = kept (ltb-true n (start i) l)
        by false l h = absurd (omega (arith, (late-move i y n (ltb-false n (start i) l)).poll e, ltb-false n (start i) l))
    early-at h (enters e) =
        let last : suc n ≡ start i = rw e at (proper-at i y n).reports in
        record { before = λ l. absurd (omega arith); one = λ _. counted-one; two = λ _ l. absurd (omega arith) }
    early-at h (stops some) = by (ltb n (start i)) refl
      where
        by : (q : Bool) → ltb n (start i) ≡ q → m.step ≤ 2 → x ≤ 1 → b'.memory ≡ m₀
        by true l low few = (kept (ltb-true n (start i) l)).memory
        by false l low few = absurd (late (late-move i y n (ltb-false n (start i) l)).step)
          where
            late : (3 ≤ m.step) ⊎ ((y ≡ FromProtected) × (10 ≤ n - start i)) → ⊥
            late (inl high) = omega arith
            late (inr (e, far)) = behind (ltb n (start i + 11)) refl
              where
                behind : (q : Bool) → ltb n (start i + 11) ≡ q → ⊥
                behind true c =
                    let at : n - start i ≡ 10 = omega (arith, ltb-true n (start i + 11) c) in
                    false≢true (sym some ∙ ap is_reset ((late-move i y n (ltb-false n (start i) l)).xres e at))
                behind false c = omega (arith, u.two e (ltb-false n (start i + 11) c), grew)

  abbrev Early : Run → Type 0
  Early r = EarlyAt r.session r.target r.traffic.xresets

  goes_on : (r : Run) → Early r → Early (advance i r)
  unfolding advance step_of
  goes_on r e = by r.session refl
    where
      by : (s : SessionState) → r.session ≡ s → Early (advance_by i s r)
      by (running p c h) is =
          let m = move_at i p in
          let u : Under p.entry p.at r.target r.traffic.xresets = rw is at e in
          let x = meet i.geometry (packet_of m.request) r.lists r.target in
          early-at p.entry p.at r.target x.target r.traffic u
          (λ l. meet-untouched i.geometry m.request (proper-at i p.entry p.at).meant (early-move i p.entry p.at l) r.lists r.target (u.before l))
          (counted m.request h) (leads i m x.answer c)
      by (reported number step h) is = e

  goes-far : (n : ℕ) (r : Run) → Early r → Early (run_after i n r)
  unfolding run_after
  goes-far zero r e = e
  goes-far (suc n) r e = goes-far n (advance i r) (goes_on r e)

pub early-spared : EarlySpared
early-spared i b quiet l n number step sent is low few =
    let first : Early i b.memory (started b l) = record { before = λ _. record { memory = refl; resting = rw quiet tt }; one = λ h. absurd (omega arith); two = λ _ h. absurd (omega arith) } in
    (rw is at (goes-far i b.memory n (started b l) first)) low few
