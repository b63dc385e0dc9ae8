-- What holds between the steps of the flow, what the checks leave to be known of an image, and what calls leave. Assumes nothing.
use mathlib.Core.Bool.{Bool, true, false, ◌&&◌, ◌||◌, cond}
use mathlib.Core.List.{List}
use mathlib.Core.Path.{◌≡◌, refl, sym, ◌∙◌}
use Prim.Native.Nat.{ℕ, zero, suc, ◌+◌, ◌*◌, ◌/◌, ◌%◌, ◌≤◌, ◌<◌}
use native.Mathlib.Omega.{arith}
use lib.Dec.{eqb, eqb-suc-zero, ltb}
use lib.ListN.{length, take, drop, drop_of_length-le, get_or, length-take, length-drop, get_or-eq_default}
use lib.Seq.{take_all, get_or-take, get_or-drop, length-take-le}
use borrow.Author.Tests.{eqb-true, ltb-true, ltb-false}
use Rattle.flow.specs.Calls.{finish, effect_of, sysarg_after, sysreq_after, after_failure}
use Rattle.flow.specs.Sealing.{HoldsImage}
use Rattle.flow.specs.Target.{Target, Memory, Residue, idle}
use Rattle.flow.specs.Terms.{Passes}
use Rattle.flow.specs.Words.{free, succeeded}
use Rattle.flow.specs.declared.Silicon.{Silicon}
use Rattle.flow.proofs.Calling.{Command, command, Returned}
use Rattle.flow.proofs.Legs.{Core, core}
use Rattle.flow.proofs.Lists.{Small}
use Rattle.flow.proofs.Reaches.{RightIds, Frame}
use Rattle.flow.proofs.Table.{Facts, facts}
use Rattle.image.proofs.Refusals.{all-passed}
use Rattle.image.specs.Checks.{level_fits}
use Rattle.image.specs.Image.{Image, image_of}
use Rattle.image.specs.declared.Header.{Header}
use Rattle.lent.specs.Words.{total}
use Rattle.parts.proofs.Locks.{start_first}
use Rattle.parts.specs.Sizes.{row_bytes_of, macros_of, rows_of, flash_size, lock_total, lock_start, image_size}
use Rattle.parts.specs.declared.Geometry.{Geometry}

-- the levels that an image can have
pub data Level : ℕ → Type 0 where
  is_open : Level 1
  is_protected : Level 2
  is_kill : Level 4

-- what the checks leave to be known of an image
pub record Valid (i : Image) : Type 0 where
  pub flash : length i.flash ≡ flash_size i.geometry
  pub locks : length i.protection ≡ lock_total i.geometry
  pub flash_small : Small i.flash
  pub lock_small : Small i.protection
  pub sum : total i.flash % 65536 ≡ i.header.sum
  pub level : Level i.header.level

-- the right part, OPEN in effect, nothing under way
pub record Opened {i : Image} (f : Frame i) (c : Core) : Type 0 where
  pub right : RightIds i f.silicon
  pub silicon : c.silicon ≡ f.silicon
  pub effect : c.effect ≡ 1
  pub room : 2 + row_bytes_of i.geometry / 4 ≤ length c.params
  pub quiet : c.running ≡ idle

-- the first sum is kept
abbrev pub Kept : {i : Image} → Frame i → ℕ → Type 0
Kept f k = k % 0x10000000 ≡ f.silicon.privileged_sum % 0x10000000

-- the target's sizes
pub record Sized {i : Image} (f : Frame i) (m : Memory) : Type 0 where
  pub flash : length m.flash ≡ flash_size i.geometry
  pub locks : length m.locks ≡ lock_total i.geometry
  pub latch : length m.latch ≡ row_bytes_of i.geometry

-- step 5: the rows before r hold the image's
pub record Wrote {i : Image} (f : Frame i) (r k : ℕ) (c : Core) : Type 0 where
  pub opened : Opened f c
  pub sized : Sized f c.memory
  pub done : take (r * row_bytes_of i.geometry) c.memory.flash ≡ take (r * row_bytes_of i.geometry) i.flash
  pub level : c.memory.stored ≡ 1
  pub kept : Kept f k

-- the level that is stored once the macros from m up are locked
abbrev pub level_after : Image → ℕ → ℕ
level_after i zero = i.header.level
level_after i (suc m) = 1

-- step 7: the locks of the macros from m up are the image's
pub record Locked {i : Image} (f : Frame i) (m k : ℕ) (c : Core) : Type 0 where
  pub opened : Opened f c
  pub flash : c.memory.flash ≡ i.flash
  pub sized : Sized f c.memory
  pub done : drop (lock_start i.geometry m) c.memory.locks ≡ drop (lock_start i.geometry m) i.protection
  pub level : c.memory.stored ≡ level_after i m
  pub kept : Kept f k

-- ---- all rows, all macros

whole : (l m : List ℕ) (n k : ℕ) → k ≡ n → length l ≡ n → length m ≡ n → take k l ≡ take k m → l ≡ m
whole l m n k hk hl hm e = sym (take_all k l (omega arith)) ∙ e ∙ take_all k m (omega arith)

pub wrote-all : {i : Image} {f : Frame i} → Valid i → {k : ℕ} {c : Core} → Wrote f (rows_of i.geometry) k c → c.memory.flash ≡ i.flash
unfolding flash_size
wrote-all {i} v {c = c} w = whole c.memory.flash i.flash _ _ refl w.sized.flash v.flash w.done

from_start : (a b : List ℕ) (n : ℕ) → n ≡ 0 → drop n a ≡ drop n b → a ≡ b
from_start a b n e h = rw e at h

pub locked-all : {i : Image} {f : Frame i} {k : ℕ} {c : Core} → Locked f 0 k c → c.memory.locks ≡ i.protection
locked-all {i} {c = c} w = from_start c.memory.locks i.protection (lock_start i.geometry 0) (start_first i.geometry) w.done

-- before the first macro is locked
pub none-locked : (i : Image) (x : List ℕ) → Facts i.geometry → Valid i → length x ≡ lock_total i.geometry
    → drop (lock_start i.geometry (macros_of i.geometry)) x ≡ drop (lock_start i.geometry (macros_of i.geometry)) i.protection
none-locked i x fx v h =
    drop_of_length-le x {i = lock_start i.geometry (macros_of i.geometry)} (omega (arith, fx.locks.all))
    ∙ sym (drop_of_length-le i.protection {i = lock_start i.geometry (macros_of i.geometry)} (omega (arith, fx.locks.all, v.locks)))

pub all_held : {i : Image} {f : Frame i} {k : ℕ} {c : Core} → Locked f 0 k c → HoldsImage i c.memory
all_held w = record { flash = w.flash; locks = locked-all w; level = w.level }

-- sealed once macro 0 is locked
pub level-safe : {i : Image} (f : Frame i) (m : ℕ) {k : ℕ} {c : Core} → Locked f m k c → f.Safe (eqb m 0) c.memory
level-safe f zero {c = c} w = f.safe_sealed w.opened.right true c.memory (all_held w)
level-safe f (suc m) {c = c} w = rw (eqb-suc-zero m) (f.safe_open w.opened.right c.memory w.level)

pub first-level : (i : Image) (m : ℕ) → 1 ≤ m → level_after i m ≡ 1
first-level i zero h = absurd (omega arith)
first-level i (suc m) h = refl

-- ---- calls

-- a call whose success shows as 0xA0000000 and 0
pub record PlainCall (c : ℕ) : Type 0 where
  pub command : Command c
  pub ready : (x : Silicon) (l : ℕ) → free (sysreq_after c x l) ≡ true
  pub good : (x : Silicon) (m : Memory) → succeeded (sysarg_after c x m) ≡ true

-- every call but 0 and 0x0B
pub plain-call : (c : ℕ) → c < 256 → eqb c 0 ≡ false → eqb c 0x0B ≡ false → PlainCall c
unfolding free succeeded sysreq_after sysarg_after
plain-call c low h k = record { command = command c low; ready = λ x l. rw h; good = λ x m. rw (h, k) }

pub call_d : PlainCall 0x0D
call_d = plain-call 0x0D (omega arith) refl refl

-- ---- every call but 0x0D keeps the stored level, whatever it comes to

record Stores (l : ℕ) (m : Memory) : Type 0 where
  pub is : m.stored ≡ l

either : (t : Bool) {l : ℕ} {x y : Memory} → Stores l x → Stores l y → Stores l (cond t x y)
either true h k = h
either false h k = k

no-level : (t : Bool) (l m : ℕ) (z : Bool) → cond (t && false && z) l m ≡ m
no-level true l m z = refl
no-level false l m z = refl

pub effect-level : (c : ℕ) → eqb c 0x0D ≡ false → (g : Geometry) (l a : ℕ) (ps : List ℕ) (m : Memory) → (effect_of g c l a ps m).stored ≡ m.stored
unfolding effect_of
effect-level c h g l a ps m =
    let kept : Stores m.stored (effect_of g c l a ps m) = either (eqb c 0x0A) (record { is = refl }) (either (eqb c 4) (record { is = refl }) (either (eqb c 6) (record { is = refl }) (record { is = rw h }))) in
    kept.is

pub steady : (c : ℕ) → eqb c 0x0D ≡ false → (g : Geometry) (y : Bool) (r : Residue) (b : Target) → (finish g y r c b).memory.stored ≡ b.memory.stored
unfolding finish after_failure
steady c h g true r b = effect-level c h g b.effect b.sysarg _ b.memory
steady c h g false r b =
    let kept : Stores b.memory.stored (after_failure c b.sysarg r b.memory) = either (eqb c 0 || eqb c 0x0B || eqb c 0x15) (record { is = refl }) (record { is = rw h (no-level r.new_level _ _ _) }) in
    kept.is

-- what a call leaves open
pub still-opened : {i : Image} {f : Frame i} {c w : ℕ} {b b' : Target} → Opened f (core b) → Returned i.geometry c w b b' → Opened f (core b')
still-opened o ret = record { right = o.right; silicon = ret.silicon ∙ o.silicon; effect = ret.effect ∙ o.effect; room = rw ret.params o.room; quiet = ret.ended }

levelled : (l : ℕ) → level_fits l ≡ true → Level l
levelled l h = by (eqb l 1) (eqb l 2) (eqb l 4) refl refl refl
  where
    by : (a b c : Bool) → eqb l 1 ≡ a → eqb l 2 ≡ b → eqb l 4 ≡ c → Level l
    by true b c p q r = rw (eqb-true l 1 p) is_open
    by false true c p q r = rw (eqb-true l 2 q) is_protected
    by false false true p q r = rw (eqb-true l 4 r) is_kill
    by false false false p q r = let f : false ≡ true = rw (p, q, r) at h in let z : ◌≡◌ {A = ℕ} 0 1 = cc in absurd (omega arith)

small-take : (n : ℕ) (l : List ℕ) → Small l → Small (take n l)
small-take n l small j = by (ltb j n) refl
  where
    by : (y : Bool) → ltb j n ≡ y → get_or (take n l) j 0 < 256
    by true e = rw (get_or-take n l j 0 (ltb-true j n e)) (small j)
    by false e =
        let le = ltb-false j n e in
        let out : length (take n l) ≤ j = rw (length-take n l) (omega arith) in
        rw (get_or-eq_default (take n l) 0 out) (omega arith)

small-drop : (n : ℕ) (l : List ℕ) → Small l → Small (drop n l)
small-drop n l small j = rw (get_or-drop n l j 0) (small (n + j))

module _ (g : Geometry) (h : Header) (bytes : List ℕ) (p : Passes g h bytes) where
  pub table-facts : Facts g
  table-facts = facts h.part h.macros g p.found

  pub valid : Valid (image_of g h bytes)
  unfolding image_size
  valid =
      let c = all-passed g h bytes p.found p.checked in
      let size : length bytes ≡ flash_size g + lock_total g = c.size in
      record {
        flash = length-take-le (flash_size g) bytes (omega arith);
        locks = length-drop (flash_size g) bytes ∙ omega arith;
        flash_small = small-take (flash_size g) bytes p.small;
        lock_small = small-drop (flash_size g) bytes p.small;
        sum = eqb-true _ _ c.sum;
        level = levelled h.level c.level;
      }
