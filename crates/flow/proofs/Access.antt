-- Write and Read, whatever the line does. Assumes nothing.
use mathlib.Core.Bool.{Bool, true, false, ◌&&◌, cond}
use mathlib.Core.List.{List, ◌∷◌, ◌++◌}
use mathlib.Core.Path.{◌≡◌, refl, ap, ◌∙◌}
use Prim.Native.Nat.{ℕ, suc}
use native.Mathlib.Omega.{arith}
use lib.Dec.{eqb}
use mathlib.Core.Logic.{◌⊎◌, inl, inr}
use Rattle.flow.specs.Exchange.{over_drw, carry, killed, barred, guarded, is_sysreq, is_call, store, begin, fetch}
use Rattle.flow.specs.Judge.{judge}
use Rattle.flow.specs.Map.{place}
use Rattle.flow.specs.Monitor.{no_waits, Seen, watching, Watch, noticed, notice_read, notice_store}
use Rattle.flow.specs.Sealing.{succeeds0}
use Rattle.flow.specs.Sequence.{move, write, read}
use Rattle.flow.specs.Session.{position}
use Rattle.flow.specs.Target.{Target, CallOutcome, next_outcome, rest, set_tar, set_sysarg, set_test_mode}
use Rattle.flow.specs.declared.Entry.{Entry}
use Rattle.flow.specs.declared.Move.{Move}
use Rattle.flow.specs.declared.Next.TheVariants.{Go}
use Rattle.flow.specs.declared.Place.{Place}
use Rattle.flow.specs.declared.Place.TheVariants.{InFlash, InLocks, InParams, AtLevel, AtSysreq, AtSysarg, AtTestMode, Elsewhere}
use Rattle.flow.specs.declared.Purpose.{Purpose}
use Rattle.flow.specs.declared.Purpose.TheVariants.{Sent}
use Rattle.flow.specs.declared.Request.{Request}
use Rattle.flow.specs.declared.Request.TheVariants.{ReadDrw, WriteTar, WriteDrw}
use Rattle.flow.proofs.Decoding.{a_tar, a_drw, a_read}
use Rattle.flow.proofs.Reaches.{Allowance, with_transfer, with_moves, Env, tally, seen, sync, after, Frame, Lasting, OnPlan, OnPlanFor, Turn, without, same-running, not-idle, Reaches}
use Rattle.flow.proofs.Transfer.{transfer}
use Rattle.flow.specs.declared.Way.TheVariants.{Onward}
use Rattle.image.specs.Image.{Image}
use Rattle.parts.specs.declared.Geometry.{Geometry}

-- TAR and the posted word
abbrev pub aim : (a w : ℕ) → Target → Target
aim a w b = record {
  silicon = b.silicon;
  memory = b.memory;
  effect = b.effect;
  params = b.params;
  sysarg = b.sysarg;
  sysreq = b.sysreq;
  test_mode = b.test_mode;
  tar = a;
  posted = w;
  running = b.running;
}

-- what the monitor knows before an access: TAR was written at a, and no read counts
abbrev pub facing : (a : ℕ) (polling due : Bool) → Watch
facing a x y = record { tar = a; counts = false; polling = x; due = y }

-- the level in effect lets an access to the place through
pub record Admits (l : ℕ) (pc : Place) : Type 0 where
  pub not-killed : eqb l 4 ≡ false
  pub free : eqb l 2 && guarded pc ≡ false

pub admits-open : (l : ℕ) (pc : Place) → l ≡ 1 → Admits l pc
admits-open l pc e = record { not-killed = rw e; free = rw e }

-- OPEN or PROTECTED in effect
abbrev pub Answering : ℕ → Type 0
Answering l = (l ≡ 1) ⊎ (l ≡ 2)

pub admits : (l : ℕ) (pc : Place) → guarded pc ≡ false → Answering l → Admits l pc
admits l pc h (inl e) = admits-open l pc e
admits l pc h (inr e) = record { not-killed = rw e; free = rw (e, h) }

-- outside DRW nothing is barred
pub barred-off : (g : Geometry) (q : Request) (b : Target) → over_drw q ≡ false → barred g q b ≡ false
unfolding barred
barred-off g q b h = rw h (by (eqb b.effect 2))
  where
    by : (y : Bool) → y && false && guarded (place g b.tar) ≡ false
    by true = refl
    by false = refl

-- what the level in effect admits is not
barred-at : (g : Geometry) (q : Request) (b : Target) (pc : Place) → over_drw q ≡ true → place g b.tar ≡ pc → Admits b.effect pc → barred g q b ≡ false
unfolding barred
barred-at g q b pc o h a = rw (o, h) (by (eqb b.effect 2) a.free)
  where
    by : (y : Bool) → y && guarded pc ≡ false → y && true && guarded pc ≡ false
    by true e = e
    by false e = refl

-- a write ends no call
begin-ends : (y : Bool) (w : ℕ) (o : CallOutcome) (b : Target) → succeeds0 b (begin y w o b) ≡ false
begin-ends true w o b = not-idle b (begin true w o b) refl
begin-ends false w o b = same-running b (begin false w o b) refl

store-ends : (w : ℕ) (o : CallOutcome) (pc : Place) (b : Target) → succeeds0 b (store w o pc b) ≡ false
store-ends w o (InFlash a) b = same-running b b refl
store-ends w o (InLocks a) b = same-running b b refl
store-ends w o (InParams k) b = same-running b (store w o (InParams k) b) refl
store-ends w o AtLevel b = same-running b b refl
store-ends w o AtSysreq b = begin-ends (is_call w) w o b
store-ends w o AtSysarg b = same-running b (set_sysarg w b) refl
store-ends w o AtTestMode b = same-running b (set_test_mode w b) refl
store-ends w o Elsewhere b = same-running b b refl

-- a write elsewhere than SYSREQ starts nothing
quiet-store : (y : Bool) (pc : Place) (x : Seen) → is_sysreq pc ≡ false → notice_store y pc x ≡ watching x
quiet-store false pc x h = refl
quiet-store true (InFlash o) x h = refl
quiet-store true (InLocks o) x h = refl
quiet-store true (InParams o) x h = refl
quiet-store true AtLevel x h = refl
quiet-store true AtSysreq x h = let z : ◌≡◌ {A = ℕ} 0 1 = cc in absurd (omega arith)
quiet-store true AtSysarg x h = refl
quiet-store true AtTestMode x h = refl
quiet-store true Elsewhere x h = refl

same-calls : (y : Bool) (l : List CallOutcome) → cond (y && false) (rest l) l ≡ l
same-calls true l = refl
same-calls false l = refl

module _ {i : Image} (f : Frame i) where
  -- the TAR write of an access
  tar-reaches : (s a : ℕ) {z : Bool} {y : Entry} {n : ℕ} {ms : List Move} {κ : Allowance} {e : Env} {p c k : ℕ} {b : Target} {x : ℕ} {po du : Bool}
      → OnPlan f y n (move s (WriteTar a) Sent ∷ ms) (with_transfer κ) e → killed b ≡ false → Lasting (f.Safe z) b
      → (next : (e' : Env) → e'.lists.calls ≡ e.lists.calls → OnPlan f y (suc n) ms κ e'
      → Reaches f z (sync (position y (suc n)) (tally p c k) (set_tar a b) (facing a po du) e'))
      → Reaches f z (sync (position y n) (tally p c k) b (facing x po du) e)
  unfolding carry judge noticed
  tar-reaches s a {b = b} st not-killed safe next =
      transfer f a_tar st not-killed (barred-off i.geometry (WriteTar a) b refl) safe (λ o. safe) (λ o. without (same-running b (set_tar a b) refl)) λ o e' h st'. next e' h st'

  module _ (s a w : ℕ) {z : Bool} {y : Entry} {n : ℕ} {ms : List Move} {κ : Allowance} {e : Env} {p c k : ℕ} {b : Target} {x : ℕ} {po du : Bool} where
    write-any : OnPlanFor f (position y n) (write s a w) ms κ e → (pc : Place) → place i.geometry a ≡ pc → Admits b.effect pc → Lasting (f.Safe z) b
        → Lasting (f.Safe z) (store w (next_outcome e.lists.calls) pc (set_tar a b))
        → (next : (e' : Env) → e'.lists.calls ≡ cond (is_call w && is_sysreq pc) (rest e.lists.calls) e.lists.calls → OnPlan f y (suc (suc n)) ms κ e'
        → Reaches f z (after (Go Onward (tally p c k)) (position y (suc n)) s (store w (next_outcome e.lists.calls) pc (set_tar a b)) (notice_store (is_call w) pc (seen no_waits p c (facing a po du) e'.delays)) e'))
        → Reaches f z (sync (position y n) (tally p c k) b (facing x po du) e)
    unfolding write with_moves carry judge noticed
    write-any st pc hp ok safe safe' next =
        tar-reaches s a st ok.not-killed safe λ e₁ h₁ st₁.
        transfer f a_drw st₁ ok.not-killed (barred-at i.geometry (WriteDrw w) (set_tar a b) pc refl hp ok) safe (λ o. rw (hp, h₁) safe')
        (λ o. without (store-ends w (next_outcome e₁.lists.calls) (place i.geometry a) (set_tar a b))) λ o₂ e₂ h₂ st₂.
        rw (hp, h₁) (next e₂ (rw (hp, h₁) at h₂) st₂)

    -- a Write elsewhere than SYSREQ
    pub write-reaches : OnPlanFor f (position y n) (write s a w) ms κ e → (pc : Place) → place i.geometry a ≡ pc → Admits b.effect pc → Lasting (f.Safe z) b → Lasting (f.Safe z) (store w (next_outcome e.lists.calls) pc (set_tar a b)) → is_sysreq pc ≡ false
        → (next : (e' : Env) → e'.lists.calls ≡ e.lists.calls → OnPlan f y (suc (suc n)) ms κ e'
        → Reaches f z (sync (position y (suc (suc n))) (tally p c k) (store w (next_outcome e.lists.calls) pc (set_tar a b)) (facing a po du) e'))
        → Reaches f z (sync (position y n) (tally p c k) b (facing x po du) e)
    write-reaches st pc hp ok safe safe' hs next =
        write-any st pc hp ok safe safe' λ e' h st'.
        rw (quiet-store (is_call w) pc (seen no_waits p c (facing a po du) e'.delays) hs) (next e' ((rw hs at h) ∙ same-calls (is_call w) e.lists.calls) st')

  -- the Write of SYSREQ that starts a call
  pub call-reaches : (s a w : ℕ) {z : Bool} {y : Entry} {n : ℕ} {ms : List Move} {κ : Allowance} {e : Env} {c k : ℕ} {b : Target} {x : ℕ} {po du : Bool}
      → OnPlanFor f (position y n) (write s a w) ms κ e → place i.geometry a ≡ AtSysreq → Admits b.effect AtSysreq → Lasting (f.Safe z) b → Lasting (f.Safe z) (begin true w (next_outcome e.lists.calls) (set_tar a b)) → is_call w ≡ true
      → (next : (e' : Env) → e'.lists.calls ≡ rest e.lists.calls → OnPlan f y (suc (suc n)) ms κ e'
      → Reaches f z (sync (position y (suc (suc n))) (tally 0 c k) (begin true w (next_outcome e.lists.calls) (set_tar a b)) (facing a true true) e'))
      → Reaches f z (sync (position y n) (tally 0 c k) b (facing x po du) e)
  call-reaches s a w st hp ok safe safe' hc next = write-any s a w st AtSysreq hp ok safe (rw hc safe') λ e' h st'. rw hc (next e' (rw hc at h) st')

  module _ (s a : ℕ) (u : Purpose) {z : Bool} {y : Entry} {n : ℕ} {ms : List Move} {κ : Allowance} {e : Env} {p c k : ℕ} {b : Target} {x : ℕ} {po du : Bool} where
    -- any Read: the target after the first DRW read, and after the second
    pub read-any : {z₁ z₂ : Bool} → OnPlan f y n (read s a u ++ ms) (with_transfer (with_transfer (with_transfer κ))) e → (pc : Place) → place i.geometry a ≡ pc → Admits b.effect pc → Lasting (f.Safe z) b
        → (b₁ : ℕ → Target) (b₂ : ℕ → ℕ → Target)
        → ((o : ℕ) → fetch i.geometry o pc (set_tar a b) ≡ b₁ o) → ((o o' : ℕ) → fetch i.geometry o' pc (b₁ o) ≡ b₂ o o')
        → ((o : ℕ) → (b₁ o).tar ≡ a) → ((o : ℕ) → (b₁ o).effect ≡ b.effect)
        → ((o : ℕ) → Lasting (f.Safe z₁) (b₁ o)) → ((o o' : ℕ) → Lasting (f.Safe z₂) (b₂ o o'))
        → ((o : ℕ) → Turn s z (set_tar a b) (b₁ o) z₁) → ((o o' : ℕ) → Turn s z₁ (b₁ o) (b₂ o o') z₂)
        → (next : (o o' : ℕ) (e' : Env) → e'.lists.calls ≡ e.lists.calls → OnPlan f y (suc (suc (suc n))) ms κ e'
        → Reaches f z₂ (after (judge i u (tally p c k) (b₁ o).posted) (position y (suc (suc n))) s (b₂ o o') (notice_read pc (b₁ o).posted (seen no_waits p c (facing a po du) e'.delays)) e'))
        → Reaches f z (sync (position y n) (tally p c k) b (facing x po du) e)
    unfolding read with_moves judge noticed
    read-any {z₁} {z₂} st pc hp ok safe b₁ b₂ h₁ h₂ ht he safe₁ safe₂ turn₁ turn₂ next =
        tar-reaches s a st ok.not-killed safe λ e₁ k₁ st₁.
        unfold carry in
        transfer f {z' = z₁} a_read st₁ ok.not-killed (barred-at i.geometry ReadDrw (set_tar a b) pc refl hp ok) safe (λ o. rw (hp, h₁ o) (safe₁ o)) (λ o. rw (hp, h₁ o) (turn₁ o)) λ o e₂ k₂ st₂.
        rw (hp, h₁ o) (
        transfer f {z' = z₂} a_read st₂ (rw (he o) ok.not-killed) (barred-at i.geometry ReadDrw (b₁ o) pc refl (there o) (rw (he o) ok)) (safe₁ o)
        (λ o'. rw (there o, h₂ o o') (safe₂ o o')) (λ o'. rw (there o, h₂ o o') (turn₂ o o')) λ o' e₃ k₃ st₃.
        rw (there o, h₂ o o', hp) (next o o' e₃ (k₃ ∙ k₂ ∙ k₁) st₃))
      where
        there : (o : ℕ) → place i.geometry (b₁ o).tar ≡ pc
        there o = ap (place i.geometry) (ht o) ∙ hp

    -- a Read of a place that nothing moves; v o is the word there, whatever is posted
    pub read-still : OnPlan f y n (read s a u ++ ms) (with_transfer (with_transfer (with_transfer κ))) e → (pc : Place) → place i.geometry a ≡ pc → Admits b.effect pc → Lasting (f.Safe z) b
        → (v : ℕ → ℕ) → ((o z : ℕ) → fetch i.geometry o pc (aim a z b) ≡ aim a (v o) b)
        → (next : (o o' : ℕ) (e' : Env) → e'.lists.calls ≡ e.lists.calls → OnPlan f y (suc (suc (suc n))) ms κ e'
        → Reaches f z (after (judge i u (tally p c k) (v o)) (position y (suc (suc n))) s (aim a (v o') b) (notice_read pc (v o) (seen no_waits p c (facing a po du) e'.delays)) e'))
        → Reaches f z (sync (position y n) (tally p c k) b (facing x po du) e)
    read-still st pc hp ok safe v still next =
        read-any st pc hp ok safe (λ o. aim a (v o) b) (λ o o'. aim a (v o') b) (λ o. still o b.posted) (λ o o'. still o' (v o)) (λ o. refl) (λ o. refl) (λ o. safe) (λ o o'. safe)
        (λ o. without (same-running (set_tar a b) (aim a (v o) b) refl)) (λ o o'. without (same-running (aim a (v o) b) (aim a (v o') b) refl)) next
