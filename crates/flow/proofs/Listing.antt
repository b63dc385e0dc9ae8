-- A listed call, whatever the line and the target do. Assumes nothing.
use mathlib.Core.Bool.{true, false}
use mathlib.Core.Logic.{inl}
use mathlib.Core.List.{List, [], ◌∷◌, ◌++◌, append_assoc, append-nil}
use mathlib.Core.Path.{◌≡◌, refl, ap, ◌∙◌}
use Prim.Native.Nat.{ℕ, suc, ◌+◌, ◌*◌, ◌/◌, ◌≤◌}
use native.Mathlib.Omega.{arith}
use lib.Dec.{eqb}
use lib.ListN.{length, drop, length-append}
use lib.Seq.{length-sets}
use Rattle.flow.specs.Calls.{effect_of}
use Rattle.flow.specs.Sequence.{call, write, writes, listed}
use Rattle.flow.specs.Session.{position}
use Rattle.flow.specs.Target.{Target, Memory}
use Rattle.flow.specs.declared.Entry.{Entry}
use Rattle.flow.specs.declared.Move.{Move}
use Rattle.flow.specs.declared.Place.TheVariants.{InParams}
use Rattle.flow.proofs.Access.{admits-open, write-reaches}
use Rattle.flow.proofs.Calling.{asked, ordinary, calling}
use Rattle.flow.proofs.Legs.{core}
use Rattle.flow.proofs.Lists.{set_next}
use Rattle.flow.proofs.Phases.{Opened, PlainCall, effect-level, steady, still-opened}
use Rattle.flow.proofs.Table.{place-params, Facts}
use Rattle.flow.proofs.Polling.{idle_at}
use Rattle.flow.proofs.Reaches.{Allowance, with_moves, Env, sync, Frame, at_rest, OnPlan, OnPlanFor, split, Reaches, tally}
use Rattle.image.specs.Image.{Image}
use Rattle.parts.specs.Sizes.{row_bytes_of, sysarg_of, PARAMS}

-- the target after a successful listed call, with what lies behind its words
pub record ListReturned {i : Image} (f : Frame i) (c : ℕ) (ws : List ℕ) (b b' : Target) : Type 0 where
  pub behind : List ℕ
  pub opened : Opened f (core b')
  pub level : b'.memory.stored ≡ 1
  pub memory : b'.memory ≡ effect_of i.geometry c b.effect PARAMS (ws ++ behind) b.memory

-- the target after the words of a list
record Filled {i : Image} (f : Frame i) (ws : List ℕ) (b b' : Target) : Type 0 where
  pub behind : List ℕ
  pub opened : Opened f (core b')
  pub memory : b'.memory ≡ b.memory
  pub params : b'.params ≡ ws ++ behind

module _ {i : Image} (f : Frame i) (fx : Facts i.geometry) where
  -- the first word goes behind those of `pre`
  writes-from : (ws pre tl : List ℕ) (s a j : ℕ) {y : Entry} {n : ℕ} {ms : List Move} {κ : Allowance} {e : Env} {k : ℕ} (b : Target) {x : ℕ}
      → b.params ≡ pre ++ tl → length pre ≡ j → a ≡ PARAMS + 4 * j → j + length ws ≤ 2 + row_bytes_of i.geometry / 4
      → OnPlanFor f (position y n) (writes s a ws) ms κ e → Opened f (core b) → f.Safe false b.memory
      → (next : (b' : Target) → Filled f (pre ++ ws) b b' → (n' x' : ℕ) (e' : Env) → OnPlan f y n' ms κ e' → Reaches f false (sync (position y n') (tally 0 0 k) b' (idle_at x') e'))
      → Reaches f false (sync (position y n) (tally 0 0 k) b (idle_at x) e)
  unfolding writes write with_moves
  writes-from [] pre tl s a j {n = n} {e = e} b {x} hp hl ha fits st o safe next =
      next b (record { behind = tl; opened = o; memory = refl; params = rw (append-nil pre) hp }) n x e st
  writes-from (w ∷ ws) pre tl s a j b hp hl ha fits st o safe next =
      write-reaches f s a w st (InParams j) (place-params i.geometry fx a j ha (omega arith)) (admits-open b.effect (InParams j) o.effect) (at_rest (f.Safe false) b o.quiet safe)
      (record { now = safe; cut = λ r. rw o.quiet safe }) refl λ e₁ h₁ st₁.
      writes-from ws (pre ++ (w ∷ [])) (drop 1 tl) s (a + 4) (suc j) _ (rw (hp, ← hl) (set_next pre tl w some)) (rw (length-append pre (w ∷ [])) (omega arith)) (omega arith) (omega arith) st₁
      (record { right = o.right; silicon = o.silicon; effect = o.effect; room = rw (length-sets b.params j (w ∷ [])) o.room; quiet = o.quiet }) safe λ b' d n' x' e' st'.
      next b' (record {
        behind = d.behind;
        opened = d.opened;
        memory = d.memory;
        params = d.params ∙ ap (λ (l : List ℕ). l ++ d.behind) (append_assoc pre (w ∷ []) ws);
      }) n' x' e' st'
    where
      some : 1 ≤ length tl
      some = omega (arith, ap length hp, length-append pre tl, o.room)

  -- one that is no 0x0D
  pub listing : (s c : ℕ) (ws : List ℕ) {y : Entry} {n : ℕ} {ms : List Move} {κ : Allowance} {e : Env} {k : ℕ} {b : Target} {x : ℕ}
      → PlainCall c → eqb c 0x0D ≡ false → length ws ≤ 2 + row_bytes_of i.geometry / 4 → OnPlanFor f (position y n) (listed i.geometry s c ws) ms κ e
      → Opened f (core b) → b.memory.stored ≡ 1
      → (next : (b' : Target) → ListReturned f c ws b b' → (n' : ℕ) (e' : Env) → OnPlan f y n' ms κ e'
      → Reaches f false (sync (position y n') (tally 0 0 k) b' (idle_at (sysarg_of i.geometry)) e'))
      → Reaches f false (sync (position y n) (tally 0 0 k) b (idle_at x) e)
  unfolding listed
  listing s c ws {ms = ms} {κ = κ} {b = b} plain other fits st o level next =
      writes-from ws [] b.params s PARAMS 0 b refl refl (omega arith) (omega arith)
      (split (writes s PARAMS ws) (call i.geometry s c PARAMS) ms κ st) o (f.safe_open o.right _ level) λ b₁ d n₁ x₁ e₁ st₁.
      let level₁ : b₁.memory.stored ≡ 1 = rw d.memory level in
      calling f fx s c PARAMS plain.command st₁ (inl d.opened.effect) d.opened.quiet (f.safe_open o.right _ level₁)
      (λ r. f.safe_open o.right _ (steady c other i.geometry true r (asked c PARAMS b₁) ∙ level₁))
      (λ r. f.safe_open o.right _ (steady c other i.geometry false r (asked c PARAMS b₁) ∙ level₁))
      (ordinary (λ r. rw other)) (plain.ready _ _) (plain.good _ _) λ b₂ ret n₂ e₂ st₂.
      next b₂ (record {
        behind = d.behind;
        opened = still-opened d.opened ret;
        level = ap (λ (m : Memory). m.stored) ret.memory ∙ effect-level c other i.geometry _ _ _ _ ∙ level₁;
        memory = ret.memory ∙ rw (d.opened.effect, o.effect, d.memory, d.params) refl;
      }) n₂ e₂ st₂
