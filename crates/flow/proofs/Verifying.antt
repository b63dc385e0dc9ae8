-- Words read and compared: step 6, and step 8 of a macro straight after its step 7. Assumes nothing.
use mathlib.Core.Bool.{Bool, true, false, false≢true}
use mathlib.Core.List.{List}
use mathlib.Core.Path.{◌≡◌, refl, sym}
use Prim.Native.Nat.{ℕ, suc, ◌+◌, ◌*◌, ◌-◌, ◌/◌, ◌%◌, ◌≤◌, ◌<◌}
use native.Mathlib.Nat.{mul-le-mul_right, suc-mul}
use native.Mathlib.Omega.{arith}
use lib.Dec.{eqb, eqb-suc-zero}
use borrow.Author.Tests.{eq-eqb, ne_eqb}
use Rattle.flow.specs.Exchange.{level_word_of}
use Rattle.flow.specs.Judge.{go_if, judge}
use Rattle.flow.specs.Map.{place}
use Rattle.flow.specs.Monitor.{notice_read}
use Rattle.flow.specs.Plan.{is_poll}
use Rattle.flow.specs.Sequence.{read, in_turn, compare_words, verify_row, lock_macro, verify_macro, macro_down, lock_and_verify}
use Rattle.flow.specs.Session.{position}
use Rattle.flow.specs.Target.{Target, idle}
use Rattle.flow.specs.Words.{level_shown}
use Rattle.flow.specs.declared.Entry.{Entry}
use Rattle.flow.specs.declared.Move.{Move}
use Rattle.flow.specs.declared.Next.TheVariants.{Go}
use Rattle.flow.specs.declared.Purpose.{Purpose}
use Rattle.flow.specs.declared.Place.TheVariants.{InFlash, InLocks, AtLevel}
use Rattle.flow.specs.declared.Purpose.TheVariants.{FlashWord, LockWord, StoredLevel}
use Rattle.flow.proofs.Access.{aim, admits-open, read-still}
use Rattle.flow.proofs.Legs.{Core, core, Known, Leg, halt, leg-append, leg-pieces}
use Rattle.flow.proofs.Lists.{same_word_lem}
use Rattle.flow.proofs.Writing.{macro-leg}
use Rattle.flow.proofs.Phases.{Level, is_open, is_protected, is_kill, Valid, Wrote, Locked, all_held, level-safe, wrote-all}
use Rattle.flow.proofs.Table.{place-flash, place-locks, place-level, Facts}
use Rattle.flow.proofs.Polling.{idle_at}
use Rattle.flow.proofs.Reaches.{Allowance, with_moves, Env, sync, Frame, at_rest, OnPlan, OnPlanFor, Reaches, tally}
use Rattle.lent.proofs.Words.{part-word}
use Rattle.image.specs.Image.{Image}
use Rattle.lent.specs.Words.{word_at}
use Rattle.parts.specs.Sizes.{row_bytes_of, macros_of, rows_of, flash_size, locks_in, locks_at, level_at, lock_start}
use Rattle.parts.specs.declared.Geometry.{Geometry}
use Rattle.flow.specs.declared.Way.TheVariants.{Onward}

-- the word at the address a is w
pub data Holds (g : Geometry) (c : Core) (a w : ℕ) : Type 0 where
  flash_holds : (o : ℕ) → place g a ≡ InFlash o → word_at c.memory.flash o ≡ w → Holds g c a w
  locks_hold : (o : ℕ) → place g a ≡ InLocks o → word_at c.memory.locks o ≡ w → Holds g c a w

level-read : {l : ℕ} → Level l → (o : ℕ) → eqb (level_shown (level_word_of l o)) l ≡ true
unfolding level_shown
level-read is_open o = let e : (o / 0x10000000 * 0x10000000 + 0 * 0x1000000 + o % 0x1000000) / 0x1000000 % 16 ≡ 0 = omega arith in rw e
level-read is_protected o = let e : (o / 0x10000000 * 0x10000000 + 2 * 0x1000000 + o % 0x1000000) / 0x1000000 % 16 ≡ 2 = omega arith in rw e
level-read is_kill o = let e : (o / 0x10000000 * 0x10000000 + 4 * 0x1000000 + o % 0x1000000) / 0x1000000 % 16 ≡ 4 = omega arith in rw e

-- a purpose that takes the word w, and costs what any read does
record Takes (i : Image) (u : Purpose) (w : ℕ) : Type 0 where
  pub judged : (k : ℕ) → judge i u (tally 0 0 k) w ≡ Go Onward (tally 0 0 k)
  pub cost : is_poll u ≡ 0

same-go : (y : Bool) (number k : ℕ) → y ≡ true → go_if y number (tally 0 0 k) ≡ Go Onward (tally 0 0 k)
same-go true number k e = refl
same-go false number k e = absurd (false≢true e)

-- the word of a row, and of a macro's locks
takes-flash : (i : Image) (r o : ℕ) → o + 4 ≤ row_bytes_of i.geometry → Takes i (FlashWord r o) (word_at i.flash (r * row_bytes_of i.geometry + o))
unfolding judge
takes-flash i r o h = record {
  judged = λ k. same-go _ 22 k (eq-eqb _ _ (sym (part-word i.flash (r * row_bytes_of i.geometry) (row_bytes_of i.geometry) o h)));
  cost = refl;
}

takes-locks : (i : Image) (m o : ℕ) → o + 4 ≤ locks_in i.geometry m → Takes i (LockWord m o) (word_at i.protection (lock_start i.geometry m + o))
unfolding judge
takes-locks i m o h = record {
  judged = λ k. same-go _ 23 k (eq-eqb _ _ (sym (part-word i.protection (lock_start i.geometry m) (locks_in i.geometry m) o h)));
  cost = refl;
}

module _ {i : Image} (f : Frame i) (y : Entry) where
  word-reaches : (s a w : ℕ) (u : Purpose) → Takes i u w → {z : Bool} {n x k : ℕ} {later : List Move} {κ : Allowance} {e : Env} {b : Target} → Holds i.geometry (core b) a w → b.effect ≡ 1 → b.running ≡ idle → f.Safe z b.memory
      → OnPlanFor f (position y n) (read s a u) later κ e
      → (next : (n' : ℕ) (e' : Env) → OnPlan f y n' later κ e' → Reaches f z (sync (position y n') (tally 0 0 k) (aim a w b) (idle_at a) e'))
      → Reaches f z (sync (position y n) (tally 0 0 k) b (idle_at x) e)
  unfolding notice_read with_moves read
  word-reaches s a w u takes {z = z} {k = k} {κ = κ} {b = b} (flash_holds o hp hw) he quiet safe st next =
      read-still f s a u (rw takes.cost at st) (InFlash o) hp (admits-open b.effect (InFlash o) he) (at_rest (f.Safe z) b quiet safe) (λ _. w) (λ _ _. rw hw) λ _ _ e' h st'.
      rw (takes.judged k) (next _ e' st')
  word-reaches s a w u takes {z = z} {k = k} {κ = κ} {b = b} (locks_hold o hp hw) he quiet safe st next =
      read-still f s a u (rw takes.cost at st) (InLocks o) hp (admits-open b.effect (InLocks o) he) (at_rest (f.Safe z) b quiet safe) (λ _. w) (λ _ _. rw hw) λ _ _ e' h st'.
      rw (takes.judged k) (next _ e' st')

  -- where P holds, OPEN is in effect, and the words from a on are those that u takes
  words-leg : (s a n : ℕ) (u : ℕ → Purpose) (w : ℕ → ℕ) {z : Bool} (P : Known) → ((j : ℕ) → j < n → Takes i (u (4 * j)) (w j))
      → ((j : ℕ) → j < n → (k : ℕ) (c : Core) → P k c → Holds i.geometry c (a + 4 * j) (w j)) → ((k : ℕ) (c : Core) → P k c → c.effect ≡ 1) → ((k : ℕ) (c : Core) → P k c → c.running ≡ idle)
      → ((k : ℕ) (c : Core) → P k c → f.Safe z c.memory) → Leg f y (compare_words s a u n) (halt z P) (halt z P)
  words-leg s a n u w {z} P takes held opens quiets safes =
      leg-pieces f y _ (λ _. halt z P) _
      (λ j h. record {
        along = λ n x k later κ e b p st next.
            word-reaches s (a + 4 * j) (w j) (u (4 * j)) (takes j h) (held j h k (core b) p) (opens k (core b) p) (quiets k (core b) p) (safes k (core b) p) st λ n' e' st'. next k _ p n' _ e' st';
      })
      n 0 (omega arith)

  module _ (fx : Facts i.geometry) (v : Valid i) where
    -- step 6
    row-leg : (r : ℕ) → r < rows_of i.geometry → Leg f y (verify_row i.geometry r) (halt false (Wrote f (rows_of i.geometry))) (halt false (Wrote f (rows_of i.geometry)))
    unfolding verify_row flash_size
    row-leg r hr =
        words-leg 6 (r * row_bytes_of i.geometry) (row_bytes_of i.geometry / 4) (FlashWord r) (λ j. word_at i.flash (r * row_bytes_of i.geometry + 4 * j)) (Wrote f (rows_of i.geometry))
        (λ j h. takes-flash i r (4 * j) (omega (arith, fx.quads)))
        (λ j h k c p. flash_holds (r * row_bytes_of i.geometry + 4 * j) (place-flash i.geometry fx _ (omega (arith, within, fx.quads))) (rw (wrote-all v p)))
        (λ k c p. p.opened.effect) (λ k c p. p.opened.quiet) (λ k c p. f.safe_open p.opened.right _ p.level)
      where
        within : r * row_bytes_of i.geometry + row_bytes_of i.geometry ≤ flash_size i.geometry
        within = let l : suc r * row_bytes_of i.geometry ≤ rows_of i.geometry * row_bytes_of i.geometry = mul-le-mul_right (row_bytes_of i.geometry) hr in omega (arith, suc-mul r (row_bytes_of i.geometry))

    pub flash-leg : Leg f y (in_turn (verify_row i.geometry) 0 (rows_of i.geometry)) (halt false (Wrote f (rows_of i.geometry))) (halt false (Wrote f (rows_of i.geometry)))
    flash-leg = leg-pieces f y (verify_row i.geometry) (λ _. halt false (Wrote f (rows_of i.geometry))) _ row-leg (rows_of i.geometry) 0 (omega arith)

    -- step 8 of a macro, straight after its lock call
    verify-leg : (m : ℕ) → m < macros_of i.geometry → Leg f y (verify_macro i.geometry m) (halt (eqb m 0) (Locked f m)) (halt (eqb m 0) (Locked f m))
    unfolding verify_macro
    verify-leg m hm =
        words-leg 8 (locks_at i.geometry m) (locks_in i.geometry m / 4) (LockWord m) (λ j. word_at i.protection (lock_start i.geometry m + 4 * j)) (Locked f m)
        (λ j h. takes-locks i m (4 * j) (omega (arith, (fx.locks.each m hm).quads)))
        (λ j h k c p. locks_hold (lock_start i.geometry m + 4 * j) (place-locks i.geometry fx _ m (4 * j) refl hm (omega (arith, (fx.locks.each m hm).quads)))
        (same_word_lem c.memory.locks i.protection (lock_start i.geometry m) (4 * j) p.done))
        (λ k c p. p.opened.effect) (λ k c p. p.opened.quiet) (λ k c p. level-safe f m p)

    -- steps 7 and 8, from the highest macro down to 0
    pub macros-leg : Leg f y (in_turn (λ k. lock_and_verify i (macro_down i.geometry k)) 0 (macros_of i.geometry)) (halt false (Locked f (macros_of i.geometry))) (halt true (Locked f 0))
    macros-leg =
        let l = leg-pieces f y (λ k. lock_and_verify i (macro_down i.geometry k)) (λ k. halt (eqb (macros_of i.geometry - k) 0) (Locked f (macros_of i.geometry - k))) (macros_of i.geometry) each (macros_of i.geometry) 0 (omega arith) in
        let a : macros_of i.geometry - 0 ≡ macros_of i.geometry = omega arith in
        let z : macros_of i.geometry - macros_of i.geometry ≡ 0 = omega arith in
        let y₀ : eqb (macros_of i.geometry) 0 ≡ false = ne_eqb (macros_of i.geometry) 0 (λ q. omega (arith, fx.any)) in
        rw (a, z, y₀) at l
      where
        each : (k : ℕ) → k < macros_of i.geometry
            → Leg f y (lock_and_verify i (macro_down i.geometry k)) (halt (eqb (macros_of i.geometry - k) 0) (Locked f (macros_of i.geometry - k))) (halt (eqb (macros_of i.geometry - suc k) 0) (Locked f (macros_of i.geometry - suc k)))
        each k h =
            let m = macro_down i.geometry k in
            let e : macros_of i.geometry - k ≡ suc (macros_of i.geometry - suc k) = omega arith in
            rw (e, eqb-suc-zero) (leg-append f y (lock_macro i m) (verify_macro i.geometry m) (macro-leg f fx v m (omega arith) y) (verify-leg m (omega arith)))

    pub level-leg : Leg f y (read 8 (level_at i.geometry) StoredLevel) (halt true (Locked f 0)) (halt true (Locked f 0))
    unfolding judge notice_read with_moves read
    level-leg = record {
      along = λ n x k later κ e b p st next.
          read-still f 8 (level_at i.geometry) StoredLevel st AtLevel (place-level i.geometry fx) (admits-open b.effect AtLevel p.opened.effect)
          (at_rest (f.Safe true) b p.opened.quiet (f.safe_sealed p.opened.right true b.memory (all_held p))) (level_word_of i.header.level) (λ o z. rw p.level) λ o o' e' h st'.
          rw (level-read v.level o) (next k _ p _ _ e' st');
    }
