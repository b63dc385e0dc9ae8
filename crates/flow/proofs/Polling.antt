-- A poll loop, whatever the line and the call do. Assumes nothing.
use mathlib.Core.Bool.{Bool, true, false}
use mathlib.Core.List.{List, ◌++◌}
use mathlib.Core.Path.{◌≡◌, refl, ◌∙◌}
use Prim.Native.Nat.{ℕ, zero, suc, ◌+◌, ◌*◌, ◌-◌, ◌/◌, ◌%◌}
use native.Mathlib.Omega.{arith}
use lib.Dec.{lit≤}
use borrow.Author.Tests.{lt-ltb, le-ltb, ne_eqb}
use Rattle.flow.specs.Calls.{finish, after_failure}
use Rattle.flow.specs.Exchange.{fetch}
use Rattle.flow.specs.Judge.{judge}
use Rattle.flow.specs.Map.{place}
use Rattle.flow.specs.Monitor.{Watch, one_busy, notice_read}
use Rattle.flow.specs.Sequence.{poll}
use Rattle.flow.specs.Session.{position}
use Rattle.flow.specs.Target.{Target, Residue, Running, idle, busy, set_sysreq}
use Rattle.flow.specs.Words.{free}
use Rattle.flow.specs.declared.Entry.{Entry}
use Rattle.flow.specs.declared.Move.{Move}
use Rattle.flow.specs.declared.Place.TheVariants.{AtSysreq}
use Rattle.flow.specs.declared.Purpose.TheVariants.{Poll}
use Rattle.flow.proofs.Access.{aim, Admits, read-any, read-still}
use Rattle.flow.proofs.Reaches.{Allowance, with_transfer, Env, tally, sync, Frame, Lasting, at_rest, OnPlan, less-room, Turn, without, same-running, not-idle, Reaches, stop}
use Rattle.image.specs.Image.{Image}
use Rattle.parts.specs.Sizes.{sysreq_of}
use Rattle.parts.specs.declared.Geometry.{Geometry}

-- at rest, TAR at a: no loop, nothing due
abbrev pub idle_at : (a : ℕ) → Watch
idle_at a = record { tar = a; counts = false; polling = false; due = false }

-- what is under way
abbrev pub during : Running → Target → Target
during r b = set_sysreq b.sysreq r b

-- the allowance of a loop that may still poll m times more
abbrev pub looping : (m : ℕ) → Allowance → Allowance
looping m κ = record { due = suc (suc (suc κ.due)); room = 51 * suc m + κ.room; xres = κ.xres; lines = κ.lines }

-- what a loop of m more polls leaves after this one
abbrev left : (m : ℕ) → Allowance → Allowance
left m κ = record { due = κ.due; room = 51 * m + κ.room; xres = κ.xres; lines = κ.lines }

-- one poll of it
this-poll : {i : Image} {f : Frame i} {y : Entry} {n : ℕ} {ms : List Move} (κ : Allowance) {e : Env} (m : ℕ) → OnPlan f y n ms (looping m κ) e
    → OnPlan f y n ms (with_transfer (with_transfer (with_transfer (left m κ)))) e
this-poll κ m st = less-room (17 + (17 + (17 + (51 * m + κ.room)))) (omega arith) st

-- and the last of it
last-poll : {i : Image} {f : Frame i} {y : Entry} {n : ℕ} {ms : List Move} (κ : Allowance) {e : Env} (m : ℕ) → OnPlan f y n ms (left m κ) e → OnPlan f y n ms κ e
last-poll κ m st = less-room κ.room (omega arith) st

-- ---- words

-- a busy word: any but for bit 31
abbrev busy_word : ℕ → ℕ
busy_word o = 0x80000000 + o % 0x80000000

busy-word : (o : ℕ) → free (busy_word o) ≡ false
unfolding free
busy-word o = rw (ne_eqb (busy_word o / 0x80000000 % 2) 0 (omega arith))

-- ---- the target

-- TAR, the posted word and what is under way matter to no call's end
finish-aim : (g : Geometry) (s : Bool) (r : Residue) (c a z : ℕ) (x : Running) (b : Target) → finish g s r c (aim a z (during x b)) ≡ aim a z (finish g s r c b)
unfolding finish
finish-aim g true r c a z x b = refl
finish-aim g false r c a z x b = refl

pub finish-effect : (g : Geometry) (s : Bool) (r : Residue) (c : ℕ) (b : Target) → (finish g s r c b).effect ≡ b.effect
unfolding finish
finish-effect g true r c b = refl
finish-effect g false r c b = refl

pub finish-idle : (g : Geometry) (s : Bool) (r : Residue) (c : ℕ) (b : Target) → (finish g s r c b).running ≡ idle
unfolding finish
finish-idle g true r c b = refl
finish-idle g false r c b = refl

-- a DRW read of SYSREQ at the call's end, after it, and before it
fetch-last : (g : Geometry) (s : Bool) (r : Residue) (c a z o : ℕ) (b : Target)
    → fetch g o AtSysreq (aim a z (during (busy 0 s r c) b)) ≡ aim a (finish g s r c b).sysreq (finish g s r c b)
fetch-last g s r c a z o b = rw (finish-aim g s r c a z (busy 0 s r c) b)

fetch-idle : (g : Geometry) (a z o : ℕ) (b : Target) → b.running ≡ idle → fetch g o AtSysreq (aim a z b) ≡ aim a b.sysreq b
fetch-idle g a z o b h = rw h

fetch-ended : (g : Geometry) (s : Bool) (r : Residue) (c a z o : ℕ) (b : Target)
    → fetch g o AtSysreq (aim a z (finish g s r c b)) ≡ aim a (finish g s r c b).sysreq (finish g s r c b)
fetch-ended g s r c a z o b = fetch-idle g a z o (finish g s r c b) (finish-idle g s r c b)

-- ---- the loop

-- a loop runs, TAR at a
abbrev pub loop_at : (a : ℕ) (d : Bool) → Watch
loop_at a d = record { tar = a; counts = false; polling = true; due = d }

abbrev busied : Env → Env
busied e = record { lists = e.lists; delays = one_busy e.delays; traffic = e.traffic }

module _ {i : Image} (f : Frame i) (hp : place i.geometry (sysreq_of i.geometry) ≡ AtSysreq) where
  -- a poll that finds nothing under way
  pub poll-idle : {z : Bool} (s : ℕ) {y : Entry} {n : ℕ} {ms : List Move} {κ : Allowance} {e : Env} {p a k : ℕ} (b : Target) {x : ℕ} {d : Bool}
      → OnPlan f y n (poll i.geometry s ++ ms) (with_transfer (with_transfer (with_transfer κ))) e → Admits b.effect AtSysreq → f.Safe z b.memory → b.running ≡ idle → free b.sysreq ≡ true
      → (next : (e' : Env) → e'.lists.calls ≡ e.lists.calls → OnPlan f y (suc (suc (suc n))) ms κ e'
      → Reaches f z (sync (position y (suc (suc (suc n)))) (tally 0 a k) (aim (sysreq_of i.geometry) b.sysreq b) (record { tar = sysreq_of i.geometry; counts = false; polling = false; due = d }) e'))
      → Reaches f z (sync (position y n) (tally p a k) b (loop_at x d) e)
  unfolding judge notice_read
  poll-idle {z = z} s b st ok safe rest ready next =
      read-still f s (sysreq_of i.geometry) Poll st AtSysreq hp ok (at_rest (f.Safe z) b rest safe) (λ o. b.sysreq) (λ o z. rw rest) λ o o' e' h st'.
      rw ready (next e' h st')

  module _ (s : ℕ) (s₀ : Bool) (r₀ : Residue) (c₀ : ℕ) (b : Target) (ok : Admits b.effect AtSysreq) {z z' : Bool} (safe : f.Safe z b.memory)
      (fails : (r : Residue) → f.Safe z (after_failure c₀ b.sysarg r b.memory))
      (safe' : f.Safe z' (finish i.geometry s₀ r₀ c₀ b).memory) (ready : free (finish i.geometry s₀ r₀ c₀ b).sysreq ≡ true)
      (turn : (a x a' x' : ℕ) → Turn s z (aim a x (during (busy 0 s₀ r₀ c₀) b)) (aim a' x' (finish i.geometry s₀ r₀ c₀ b)) z') where
    abbrev over : Target
    over = finish i.geometry s₀ r₀ c₀ b

    -- under way, and once it is over
    going : Lasting (f.Safe z) (during (busy 0 s₀ r₀ c₀) b)
    going = record { now = safe; cut = fails }

    gone : Lasting (f.Safe z') over
    gone = at_rest (f.Safe z') over (finish-idle i.geometry s₀ r₀ c₀ b) safe'

    -- back to the first transfer of the Read
    back : {y : Entry} {n n' : ℕ} {ms later : List Move} (κ : Allowance) {κ₀ : Allowance} {e e' : Env} (m : ℕ) → OnPlan f y n ms κ₀ e → OnPlan f y n' later (left (suc m) κ) e' → (f.Still → ⊥)
        → OnPlan f y n ms (looping m κ) (busied e')
    back κ m st st' bad = record {
      at = st.at;
      accounted = omega (arith, st'.accounted);
      room = omega (arith, st'.room);
      xres = st'.xres;
      lines = st'.lines;
      calm = λ still. absurd (bad still);
    }

    -- q busy reads are left; after this poll m more are allowed
    pub poll-busy : (q m : ℕ) {y : Entry} {n : ℕ} {ms : List Move} {κ : Allowance} {e : Env} {a k : ℕ} (p x v : ℕ) {d : Bool}
        → p + suc m ≡ 10000 → OnPlan f y n (poll i.geometry s ++ ms) (looping m κ) e → (f.Still → q ≡ 0)
        → (next : (e' : Env) → e'.lists.calls ≡ e.lists.calls → OnPlan f y (suc (suc (suc n))) ms κ e'
        → Reaches f z' (sync (position y (suc (suc (suc n)))) (tally 0 a k) (aim (sysreq_of i.geometry) over.sysreq over) (record { tar = sysreq_of i.geometry; counts = false; polling = false; due = d }) e'))
        → Reaches f z (sync (position y n) (tally p a k) (aim x v (during (busy q s₀ r₀ c₀) b)) (loop_at x d) e)
    unfolding judge notice_read
    poll-busy zero m {κ = κ} p x v count st calm next =
        read-any f s (sysreq_of i.geometry) Poll (this-poll κ m st) AtSysreq hp ok going
        (λ o. aim (sysreq_of i.geometry) over.sysreq over) (λ o o'. aim (sysreq_of i.geometry) over.sysreq over)
        (λ o. fetch-last i.geometry s₀ r₀ c₀ (sysreq_of i.geometry) v o b) (λ o o'. fetch-ended i.geometry s₀ r₀ c₀ (sysreq_of i.geometry) over.sysreq o' b)
        (λ o. refl) (λ o. finish-effect i.geometry s₀ r₀ c₀ b) (λ o. gone) (λ o o'. gone)
        (λ o. turn _ _ _ _) (λ o o'. without (same-running (aim (sysreq_of i.geometry) over.sysreq over) (aim (sysreq_of i.geometry) over.sysreq over) refl)) λ o o' e' h st'.
        rw ready (next e' h (last-poll κ m st'))
    poll-busy (suc zero) zero {κ = κ} p x v count st calm next =
        read-any f s (sysreq_of i.geometry) Poll (this-poll κ 0 st) AtSysreq hp ok going
        (λ o. aim (sysreq_of i.geometry) (busy_word o) (during (busy 0 s₀ r₀ c₀) b)) (λ o o'. aim (sysreq_of i.geometry) over.sysreq over)
        (λ o. refl) (λ o o'. fetch-last i.geometry s₀ r₀ c₀ (sysreq_of i.geometry) (busy_word o) o' b)
        (λ o. refl) (λ o. refl) (λ o. going) (λ o o'. gone)
        (λ o. without (not-idle (aim (sysreq_of i.geometry) v (during (busy 1 s₀ r₀ c₀) b)) (aim (sysreq_of i.geometry) (busy_word o) (during (busy 0 s₀ r₀ c₀) b)) refl)) (λ o o'. turn _ _ _ _) λ o o' e' h st'.
        rw (busy-word o, le-ltb (suc p) 10000 (omega arith)) (stop (f.caught 18 s _ _ _ (lit≤ tt) (λ still. let e = calm still in omega arith) gone))
    poll-busy (suc zero) (suc m) {n = n} {κ = κ} p x v count st calm next =
        let again : suc (suc n) - 2 ≡ n = omega arith in
        read-any f s (sysreq_of i.geometry) Poll (this-poll κ (suc m) st) AtSysreq hp ok going
        (λ o. aim (sysreq_of i.geometry) (busy_word o) (during (busy 0 s₀ r₀ c₀) b)) (λ o o'. aim (sysreq_of i.geometry) over.sysreq over)
        (λ o. refl) (λ o o'. fetch-last i.geometry s₀ r₀ c₀ (sysreq_of i.geometry) (busy_word o) o' b)
        (λ o. refl) (λ o. refl) (λ o. going) (λ o o'. gone)
        (λ o. without (not-idle (aim (sysreq_of i.geometry) v (during (busy 1 s₀ r₀ c₀) b)) (aim (sysreq_of i.geometry) (busy_word o) (during (busy 0 s₀ r₀ c₀) b)) refl)) (λ o o'. turn _ _ _ _) λ o o' e' h st'.
        rw (busy-word o, lt-ltb (suc p) 10000 (omega arith), again) (
        poll-idle s (aim (sysreq_of i.geometry) over.sysreq over) (this-poll κ m (back κ m st st' (λ still. let e = calm still in omega arith)))
        (rw (finish-effect i.geometry s₀ r₀ c₀ b) ok) safe' (finish-idle i.geometry s₀ r₀ c₀ b) ready λ e'' h'' st''.
        next e'' (h'' ∙ h) (last-poll κ m st''))
    poll-busy (suc (suc q)) zero {κ = κ} p x v count st calm next =
        read-any f s (sysreq_of i.geometry) Poll (this-poll κ 0 st) AtSysreq hp ok going
        (λ o. aim (sysreq_of i.geometry) (busy_word o) (during (busy (suc q) s₀ r₀ c₀) b)) (λ o o'. aim (sysreq_of i.geometry) (busy_word o') (during (busy q s₀ r₀ c₀) b))
        (λ o. refl) (λ o o'. refl) (λ o. refl) (λ o. refl) (λ o. going) (λ o o'. going)
        (λ o. without (not-idle (aim (sysreq_of i.geometry) v (during (busy (suc (suc q)) s₀ r₀ c₀) b)) (aim (sysreq_of i.geometry) (busy_word o) (during (busy (suc q) s₀ r₀ c₀) b)) refl))
        (λ o o'. without (not-idle (aim (sysreq_of i.geometry) (busy_word o) (during (busy (suc q) s₀ r₀ c₀) b)) (aim (sysreq_of i.geometry) (busy_word o') (during (busy q s₀ r₀ c₀) b)) refl)) λ o o' e' h st'.
        rw (busy-word o, le-ltb (suc p) 10000 (omega arith)) (stop (f.caught 18 s _ _ _ (lit≤ tt) (λ still. let e = calm still in omega arith) going))
    poll-busy (suc (suc q)) (suc m) {n = n} {κ = κ} p x v count st calm next =
        let again : suc (suc n) - 2 ≡ n = omega arith in
        read-any f s (sysreq_of i.geometry) Poll (this-poll κ (suc m) st) AtSysreq hp ok going
        (λ o. aim (sysreq_of i.geometry) (busy_word o) (during (busy (suc q) s₀ r₀ c₀) b)) (λ o o'. aim (sysreq_of i.geometry) (busy_word o') (during (busy q s₀ r₀ c₀) b))
        (λ o. refl) (λ o o'. refl) (λ o. refl) (λ o. refl) (λ o. going) (λ o o'. going)
        (λ o. without (not-idle (aim (sysreq_of i.geometry) v (during (busy (suc (suc q)) s₀ r₀ c₀) b)) (aim (sysreq_of i.geometry) (busy_word o) (during (busy (suc q) s₀ r₀ c₀) b)) refl))
        (λ o o'. without (not-idle (aim (sysreq_of i.geometry) (busy_word o) (during (busy (suc q) s₀ r₀ c₀) b)) (aim (sysreq_of i.geometry) (busy_word o') (during (busy q s₀ r₀ c₀) b)) refl)) λ o o' e' h st'.
        rw (busy-word o, lt-ltb (suc p) 10000 (omega arith), again) (
        poll-busy q m (suc p) (sysreq_of i.geometry) (busy_word o') (omega arith) (back κ m st st' (λ still. let e = calm still in omega arith))
        (λ still. let e = calm still in absurd (omega arith)) λ e'' h'' st''.
        next e'' (h'' ∙ h) st'')
