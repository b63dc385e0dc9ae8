-- Steps 5 and 7: a row, all rows, and the locks of a macro. Assumes nothing.
use mathlib.Core.Bool.{false, Bool, true, ◌&&◌, cond}
use mathlib.Core.List.{List, [], ◌∷◌, ◌++◌}
use mathlib.Core.Logic.{inl}
use mathlib.Core.Path.{◌≡◌, refl, ap, sym, ◌∙◌}
use Prim.Native.Nat.{ℕ, suc, ◌+◌, ◌*◌, ◌/◌, ◌≤◌, ◌<◌, zero}
use native.Mathlib.Nat.{mul-le-mul_right, suc-mul}
use native.Mathlib.Omega.{arith}
use lib.Dec.{eqb, eqb-suc-zero}
use lib.ListN.{length, take, drop}
use lib.Seq.{sets, length-sets, take-add}
use Rattle.flow.specs.Calls.{effect_of, finish, after_failure, protect, level_sent, macro_sent}
use Rattle.flow.specs.Sequence.{key, listed, latch_list, program_row, in_turn, call, lock_macro}
use Rattle.flow.specs.Target.{Target, Memory, with_flash, with_latch, Residue}
use Rattle.flow.specs.declared.Entry.{Entry}
use Rattle.flow.proofs.Calling.{Ends, ordinary, locking, asked, Returned, returned, calling}
use Rattle.flow.proofs.Counting.{length-words}
use Rattle.flow.proofs.Legs.{core, Leg, halt, leg-pieces}
use Rattle.flow.proofs.Listing.{ListReturned, listing}
use Rattle.lent.proofs.Lists.{sets-whole}
use Rattle.flow.proofs.Lists.{Small, sent-bytes, length_part, take-sets, drop-sets, drop-parts}
use Rattle.flow.proofs.Phases.{Valid, Wrote, plain-call, Level, is_open, is_protected, is_kill, Locked, level_after, level-safe, call_d, still-opened}
use Rattle.flow.proofs.Reaches.{Frame, split}
use Rattle.flow.proofs.Table.{Facts}
use Rattle.image.specs.Image.{Image}
use Rattle.parts.proofs.Locks.{start-next, locks-end}
use Rattle.parts.specs.Sizes.{row_bytes_of, rows_per_macro_of, rows_of, flash_size, PARAMS, macros_of, locks_in, lock_start, lock_total}
use Rattle.parts.specs.declared.Geometry.{Geometry}

-- call 4 puts n bytes of the list from o on into the latch
pub effect-4 : (g : Geometry) (l a m n o : ℕ) (bytes behind : List ℕ) (x : Memory) → 4 * (n / 4) ≡ n → 1 ≤ n → Small bytes → o + n ≤ length bytes
    → effect_of g 4 l a (latch_list m n bytes o ++ behind) x
    ≡ with_latch (sets x.latch 0 (take n (drop o bytes))) x
unfolding effect_of
effect-4 g l a m n o bytes behind x hq hn small room =
    ap (λ (y : List ℕ). with_latch (sets x.latch 0 y) x) (sent-bytes n o bytes behind hq hn small room)

effect-6 : (g : Geometry) (l a r : ℕ) (behind : List ℕ) (x : Memory)
    → effect_of g 6 l a ((key 6 + r * 0x10000) ∷ behind) x
    ≡ with_flash (sets x.flash (r * row_bytes_of g) x.latch) x
unfolding effect_of
effect-6 g l a r behind x = let e : (key 6 + r * 0x10000) / 0x10000 ≡ r = omega arith in rw e

module _ {i : Image} (f : Frame i) (fx : Facts i.geometry) (v : Valid i) (r : ℕ) (room : r < rows_of i.geometry) where
  -- 'The row's bytes start at row × L in the image.'
  abbrev row : List ℕ
  row = take (row_bytes_of i.geometry) (drop (r * row_bytes_of i.geometry) i.flash)

  -- the list of call 4
  abbrev row_list : List ℕ
  row_list = latch_list (r / rows_per_macro_of i.geometry) (row_bytes_of i.geometry) i.flash (r * row_bytes_of i.geometry)

  row_fits : suc r * row_bytes_of i.geometry ≤ flash_size i.geometry
  unfolding flash_size
  row_fits = mul-le-mul_right (row_bytes_of i.geometry) room

  row-size : length row ≡ row_bytes_of i.geometry
  row-size = length_part (row_bytes_of i.geometry) (r * row_bytes_of i.geometry) i.flash (omega (arith, v.flash, row_fits))

  -- the two calls of a row
  row-memory : (l l' a a' : ℕ) (z z' : List ℕ) (x : Memory) → length x.latch ≡ row_bytes_of i.geometry
      → effect_of i.geometry 6 l' a' ((key 6 + r * 0x10000) ∷ z') (effect_of i.geometry 4 l a (row_list ++ z) x)
      ≡ with_flash (sets x.flash (r * row_bytes_of i.geometry) row) (with_latch row x)
  row-memory l l' a a' z z' x h =
      ap (effect_of i.geometry 6 l' a' ((key 6 + r * 0x10000) ∷ z'))
      (effect-4 i.geometry l a (r / rows_per_macro_of i.geometry) (row_bytes_of i.geometry) (r * row_bytes_of i.geometry) i.flash z x fx.quads fx.some v.flash_small
      (omega (arith, v.flash, row_fits))
      ∙ ap (λ (y : List ℕ). with_latch y x) (sets-whole x.latch row (row-size ∙ sym h)))
      ∙ effect-6 i.geometry l' a' r z' (with_latch row x)

  -- the row is written
  row_done : (x : List ℕ) → length x ≡ flash_size i.geometry → take (r * row_bytes_of i.geometry) x ≡ take (r * row_bytes_of i.geometry) i.flash
      → take (suc r * row_bytes_of i.geometry) (sets x (r * row_bytes_of i.geometry) row) ≡ take (suc r * row_bytes_of i.geometry) i.flash
  row_done x h done = rw (suc-mul r (row_bytes_of i.geometry)) (
      ap (λ (n : ℕ). take (r * row_bytes_of i.geometry + n) (sets x (r * row_bytes_of i.geometry) row)) (sym row-size)
      ∙ take-sets x row (r * row_bytes_of i.geometry) (omega (arith, row-size, row_fits))
      ∙ ap (λ (y : List ℕ). y ++ row) done
      ∙ sym (take-add (r * row_bytes_of i.geometry) (row_bytes_of i.geometry) i.flash))

  wrote : (k : ℕ) (b b₁ b₂ : Target) → Wrote f r k (core b) → ListReturned f 4 row_list b b₁ → ListReturned f 6 ((key 6 + r * 0x10000) ∷ []) b₁ b₂
      → Wrote f (suc r) k (core b₂)
  wrote k b b₁ b₂ w r₁ r₂ =
      let m : b₂.memory ≡ with_flash (sets b.memory.flash (r * row_bytes_of i.geometry) row) (with_latch row b.memory) =
      r₂.memory ∙ rw r₁.memory (row-memory b.effect b₁.effect PARAMS PARAMS r₁.behind r₂.behind b.memory w.sized.latch) in
      record {
        opened = r₂.opened;
        sized = record {
          flash = ap (λ (x : Memory). length x.flash) m ∙ length-sets b.memory.flash (r * row_bytes_of i.geometry) row ∙ w.sized.flash;
          locks = ap (λ (x : Memory). length x.locks) m ∙ w.sized.locks;
          latch = ap (λ (x : Memory). length x.latch) m ∙ row-size;
        };
        done = ap (λ (x : Memory). take (suc r * row_bytes_of i.geometry) x.flash) m ∙ row_done b.memory.flash w.sized.flash w.done;
        level = r₂.level;
        kept = w.kept;
      }

  row-leg : (y : Entry) → Leg f y (program_row i r) (halt false (Wrote f r)) (halt false (Wrote f (suc r)))
  unfolding program_row
  row-leg y = record {
    along = λ n x k later κ e b w st next.
        listing f fx 5 4 row_list (plain-call 4 (omega arith) refl refl) refl (omega (arith, length-words i.flash (r * row_bytes_of i.geometry) (row_bytes_of i.geometry / 4)))
        (split (listed i.geometry 5 4 row_list) (listed i.geometry 5 6 ((key 6 + r * 0x10000) ∷ [])) later κ st) w.opened w.level λ b₁ r₁ n₁ e₁ st₁.
        listing f fx 5 6 ((key 6 + r * 0x10000) ∷ []) (plain-call 6 (omega arith) refl refl) refl (omega arith) st₁ r₁.opened r₁.level λ b₂ r₂ n₂ e₂ st₂.
        next k b₂ (wrote k b b₁ b₂ w r₁ r₂) n₂ _ e₂ st₂;
  }

pub rows-leg : {i : Image} (f : Frame i) → Facts i.geometry → Valid i → (y : Entry) → Leg f y (in_turn (program_row i) 0 (rows_of i.geometry)) (halt false (Wrote f 0)) (halt false (Wrote f (rows_of i.geometry)))
rows-leg {i} f fx v y = leg-pieces f y (program_row i) (λ r. halt false (Wrote f r)) (rows_of i.geometry) (λ r h. row-leg f fx v r h y) (rows_of i.geometry) 0 (omega arith)

pub level-small : {l : ℕ} → Level l → l < 16
level-small is_open = omega arith
level-small is_protected = omega arith
level-small is_kill = omega arith

-- the word of call 0x0D
abbrev pub lock_word : (l m : ℕ) → ℕ
lock_word l m = key 0x0D + l * 0x10000 + m * 0x1000000

sent-level : (l m : ℕ) → l < 16 → level_sent (lock_word l m) ≡ l
sent-level l m h = omega arith

sent-macro : (l m : ℕ) → l < 16 → macro_sent (lock_word l m) ≡ m
sent-macro l m h = omega arith

effect-D : (g : Geometry) (lv l m : ℕ) (ps : List ℕ) (x : Memory) → l < 16 → lv ≡ 1 → effect_of g 0x0D lv (lock_word l m) ps x ≡ protect g l m x
unfolding effect_of
effect-D g lv l m ps x h e = rw (e, sent-level l m h, sent-macro l m h)

next_level : (i : Image) (m old : ℕ) → old ≡ 1 → cond (eqb m 0) i.header.level old ≡ level_after i m
next_level i zero old h = refl
next_level i (suc m) old h = rw (eqb-suc-zero m) h

-- a failed call 0x0D: the level stored is the old one or the one sent
safe-D : {i : Image} (f : Frame i) (r : Residue) (l m : ℕ) (b : Target) → l < 16 → b.sysarg ≡ lock_word l m
    → ((x : Memory) → x.stored ≡ l → f.Safe false x) → ((x : Memory) → x.stored ≡ b.memory.stored → f.Safe false x) → f.Safe false (finish i.geometry false r 0x0D b).memory
unfolding finish after_failure
safe-D {i} f r l m b h ha new old = by (r.new_level && true && eqb (macro_sent b.sysarg) 0) refl
  where
    by : (y : Bool) → r.new_level && true && eqb (macro_sent b.sysarg) 0 ≡ y → f.Safe false (after_failure 0x0D b.sysarg r b.memory)
    by true e = new _ (rw e (rw ha (sent-level l m h)))
    by false e = old _ (rw e)

-- macro 0's call seals, no other
ends-D : (l m : ℕ) (b : Target) → l < 16 → b.effect ≡ 1 → b.sysarg ≡ lock_word l m → Ends 7 0x0D b false (eqb m 0)
ends-D l zero b h one e = locking (λ r. rw (e, sent-macro l 0 h)) (rw one) refl
ends-D l (suc m) b h one e = rw (eqb-suc-zero m) (ordinary (λ r. rw (e, sent-macro l (suc m) h, eqb-suc-zero m)))

module _ {i : Image} (f : Frame i) (fx : Facts i.geometry) (v : Valid i) (m : ℕ) (room : m < macros_of i.geometry) where
  -- the macro's protection bytes, and the list of call 4
  abbrev bytes : List ℕ
  bytes = take (locks_in i.geometry m) (drop (lock_start i.geometry m) i.protection)

  abbrev lock_list : List ℕ
  lock_list = latch_list m (locks_in i.geometry m) i.protection (lock_start i.geometry m)

  locks-fit : lock_start i.geometry m + locks_in i.geometry m ≤ lock_total i.geometry
  locks-fit = locks-end i.geometry m room

  bytes-size : length bytes ≡ locks_in i.geometry m
  bytes-size = length_part (locks_in i.geometry m) (lock_start i.geometry m) i.protection (omega (arith, v.locks, locks-fit))

  abbrev latched : Memory → Memory
  latched x = with_latch (sets x.latch 0 bytes) x

  -- the two calls of a macro
  macro-memory : (l l' a : ℕ) (z ps : List ℕ) (x : Memory) → l' ≡ 1
      → effect_of i.geometry 0x0D l' (lock_word i.header.level m) ps (effect_of i.geometry 4 l a (lock_list ++ z) x) ≡ protect i.geometry i.header.level m (latched x)
  macro-memory l l' a z ps x e =
      ap (effect_of i.geometry 0x0D l' (lock_word i.header.level m) ps)
      (effect-4 i.geometry l a m (locks_in i.geometry m) (lock_start i.geometry m) i.protection z x (fx.locks.each m room).quads (fx.locks.each m room).some v.lock_small (omega (arith, v.locks, locks-fit)))
      ∙ effect-D i.geometry l' i.header.level m ps _ (level-small v.level) e

  -- the latch's first bytes are the macro's
  first-bytes : (x : List ℕ) → length x ≡ row_bytes_of i.geometry → take (locks_in i.geometry m) (sets x 0 bytes) ≡ bytes
  first-bytes x h =
      let e : locks_in i.geometry m ≡ 0 + length bytes = omega (arith, bytes-size) in
      ap (λ (n : ℕ). take n (sets x 0 bytes)) e ∙ take-sets x bytes 0 (omega (arith, bytes-size, (fx.locks.each m room).fit))

  macro-done : (x : List ℕ) → length x ≡ lock_total i.geometry
      → drop (lock_start i.geometry (suc m)) x ≡ drop (lock_start i.geometry (suc m)) i.protection
      → drop (lock_start i.geometry m) (sets x (lock_start i.geometry m) bytes) ≡ drop (lock_start i.geometry m) i.protection
  macro-done x h done =
      drop-sets x bytes (lock_start i.geometry m) (omega (arith, bytes-size, locks-fit))
      ∙ ap (λ (n : ℕ). bytes ++ drop (lock_start i.geometry m + n) x) bytes-size
      ∙ ap (λ (y : List ℕ). bytes ++ y) (rw (start-next i.geometry m) at done)
      ∙ drop-parts (locks_in i.geometry m) (lock_start i.geometry m) i.protection

  locked : (k : ℕ) (b b₁ b₂ : Target) → Locked f (suc m) k (core b) → ListReturned f 4 lock_list b b₁ → Returned i.geometry 0x0D (lock_word i.header.level m) b₁ b₂
      → Locked f m k (core b₂)
  locked k b b₁ b₂ w r₁ r₂ =
      let e : b₂.memory ≡ protect i.geometry i.header.level m (latched b.memory) =
      r₂.memory ∙ rw r₁.memory (macro-memory b.effect b₁.effect PARAMS r₁.behind _ b.memory r₁.opened.effect) in
      let first : take (locks_in i.geometry m) (sets b.memory.latch 0 bytes) ≡ bytes = first-bytes b.memory.latch w.sized.latch in
      record {
        opened = still-opened r₁.opened r₂;
        flash = ap (λ (x : Memory). x.flash) e ∙ w.flash;
        sized = record {
          flash = ap (λ (x : Memory). length x.flash) e ∙ w.sized.flash;
          locks = ap (λ (x : Memory). length x.locks) e ∙ length-sets b.memory.locks (lock_start i.geometry m) (take (locks_in i.geometry m) (sets b.memory.latch 0 bytes)) ∙ w.sized.locks;
          latch = ap (λ (x : Memory). length x.latch) e ∙ length-sets b.memory.latch 0 bytes ∙ w.sized.latch;
        };
        done = ap (λ (x : Memory). drop (lock_start i.geometry m) x.locks) e
            ∙ ap (λ (z : List ℕ). drop (lock_start i.geometry m) (sets b.memory.locks (lock_start i.geometry m) z)) first
            ∙ macro-done b.memory.locks w.sized.locks w.done;
        level = ap (λ (x : Memory). x.stored) e ∙ next_level i m b.memory.stored w.level;
        kept = w.kept;
      }

  pub macro-leg : (y : Entry) → Leg f y (lock_macro i m) (halt false (Locked f (suc m))) (halt (eqb m 0) (Locked f m))
  unfolding lock_macro
  macro-leg y = record {
    along = λ n x k later κ e b w st next.
        listing f fx 7 4 lock_list (plain-call 4 (omega arith) refl refl) refl
        (omega (arith, length-words i.protection (lock_start i.geometry m) (locks_in i.geometry m / 4), (fx.locks.each m room).fit))
        (split (listed i.geometry 7 4 lock_list) (call i.geometry 7 0x0D (lock_word i.header.level m)) later κ st) w.opened w.level λ b₁ r₁ n₁ e₁ st₁.
        calling f fx 7 0x0D (lock_word i.header.level m) call_d.command st₁ (inl r₁.opened.effect) r₁.opened.quiet (f.safe_open w.opened.right b₁.memory r₁.level)
        (λ r. level-safe f m (locked k b b₁ (finish i.geometry true r 0x0D (asked 0x0D (lock_word i.header.level m) b₁)) w r₁ (returned i.geometry 0x0D (lock_word i.header.level m) r b₁)))
        (λ r. safe-D f r i.header.level m _ (level-small v.level) refl (f.safe_image w.opened.right) (λ x hx. f.safe_open w.opened.right x (hx ∙ r₁.level)))
        (ends-D i.header.level m _ (level-small v.level) r₁.opened.effect refl) (call_d.ready _ _) (call_d.good _ _) λ b₂ r₂ n₂ e₂ st₂.
        next k b₂ (locked k b b₁ b₂ w r₁ r₂) n₂ _ e₂ st₂;
  }
