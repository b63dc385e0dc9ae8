-- The hypotheses of demand 3 can be met, and done be reached, for every part, M and level. Assumes nothing.
use mathlib.Core.Bool.{Bool, true, false, ◌&&◌}
use mathlib.Core.List.{List, [], ◌∷◌}
use mathlib.Core.Logic.{◌⊎◌, inl, inr}
use mathlib.Core.Path.{◌≡◌, refl, ap, ◌∙◌}
use Prim.Native.Nat.{ℕ, zero, suc, ◌+◌, ◌/◌, ◌<◌}
use native.Mathlib.Nat.{le_refl}
use native.Mathlib.Omega.{arith}
use lib.Dec.{eqb, ltb}
use lib.ListN.{length, get_or, replicate, length-replicate}
use borrow.Author.Tests.{eq-eqb, ltb-true}
use Rattle.flow.specs.Claim.{RunDemand3, OtherPartWitness, EarlyWitness, Achieved}
use Rattle.flow.specs.Examples.{two_macros}
use Rattle.flow.specs.Monitor.{link_error}
use Rattle.flow.specs.Terms.{Passes, Startable, RightPart, calm_end, calls_end, entry_of}
use Rattle.flow.specs.Plan.{most_traffic}
use Rattle.flow.specs.Run.{Run, run_after, started}
use Rattle.flow.specs.Session.{reported}
use Rattle.flow.specs.Target.{Target, idle}
use Rattle.flow.proofs.Demand.{run-demand3-holds}
use Rattle.flow.proofs.Failing.{second_faults, faulted}
use Rattle.flow.proofs.Zeros.{zeros, zeros-take, total-zeros, none-cancels}
use Rattle.image.specs.Checks.{image_id_fits, fault_in}
use Rattle.image.specs.Image.{image_of, flash_in}
use Rattle.image.specs.Refusals.{first_refusal}
use Rattle.image.specs.declared.Header.{Header}
use Rattle.parts.proofs.Table.{both, everywhere, entry}
use Rattle.parts.specs.Parts.{Lookup, part_table, look_in, lookup_of, low_fits}
use Rattle.parts.specs.Sizes.{row_bytes_of, rows_of, flash_size, lock_total, image_size}
use Rattle.std.specs.Prelude.{Ok}
use Rattle.parts.specs.declared.Geometry.{Geometry}

first_one : (n : ℕ) → 0 < n → ◌≡◌ {A = ℕ} (get_or (replicate n 1) 0 0) 1
first_one zero h = absurd (omega arith)
first_one (suc n) h = refl

not-kill : (level : ℕ) → (level ≡ 1) ⊎ (level ≡ 2) → eqb level 4 ≡ false
not-kill level (inl e) = rw e
not-kill level (inr e) = rw e

-- ---- an erased image of a geometry

-- a header of the geometry's part that starts at OPEN
abbrev header_for : (g : Geometry) → Header
header_for g = record {
  part = g.part.number;
  macros = g.macros;
  sum = 0;
  metadata = 0 ∷ 2 ∷ g.part.id_high ∷ g.part.id_low.first ∷ 0 ∷ g.part.id_family ∷ 0 ∷ 0 ∷ 0 ∷ 0 ∷ 0 ∷ 0 ∷ [];
  level = 1;
}

-- the test: the part's own IDs fit it, in bytes, and it has flash
abbrev listed : Geometry → Bool
listed g =
    image_id_fits g (header_for g) && low_fits g.part g.part.id_low.first && ltb g.part.id_high 256 && ltb g.part.id_low.first 256
    && ltb g.part.id_family 256 && ltb 0 (flash_size g)

table-listed : everywhere listed part_table ≡ true
unfolding flash_size rows_of
table-listed = refl

-- what a look-up gives
record Listed (g : Geometry) : Type 0 where
  pub found : lookup_of g.part.number g.macros ≡ Ok g
  pub ids : image_id_fits g (header_for g) ≡ true
  pub low : low_fits g.part g.part.id_low.first ≡ true
  pub high : g.part.id_high < 256
  pub first : g.part.id_low.first < 256
  pub family : g.part.id_family < 256
  pub flash : 0 < flash_size g

looked-up : (n m : ℕ) (g : Geometry) → lookup_of n m ≡ Ok g → Listed g
looked-up n m g e =
    let t = entry listed n m g table-listed e in
    let t₄ = both _ (ltb 0 (flash_size g)) t.passes in
    let t₃ = both _ (ltb g.part.id_family 256) t₄.0 in
    let t₂ = both _ (ltb g.part.id_low.first 256) t₃.0 in
    let t₁ = both _ (ltb g.part.id_high 256) t₂.0 in
    let t₀ = both (image_id_fits g (header_for g)) (low_fits g.part g.part.id_low.first) t₁.0 in
    record {
      found = ap (λ (k : ℕ). lookup_of k g.macros) t.number ∙ ap (λ (k : ℕ). lookup_of n k) t.macros ∙ e;
      ids = t₀.0;
      low = t₀.1;
      high = ltb-true _ _ t₁.1;
      first = ltb-true _ _ t₂.1;
      family = ltb-true _ _ t₃.1;
      flash = ltb-true _ _ t₄.1;
    }

module _ (g : Geometry) (s : Listed g) (level : ℕ) (lv : (level ≡ 1) ⊎ (level ≡ 2)) where
  abbrev erased : List ℕ
  erased = replicate (image_size g) 0

  passes : Passes g (header_for g) erased
  unfolding first_refusal
  passes = record {
    found = s.found;
    checked = ap (λ (x : Lookup). fault_in x (header_for g) erased) s.found
        ∙ rw (
          eq-eqb (length erased) (image_size g) (length-replicate (image_size g) 0),
          s.ids,
          total-zeros (flash_in g erased) (zeros-take (flash_size g) erased (zeros (image_size g))),
          none-cancels (row_bytes_of g) (rows_of g) erased (zeros (image_size g)),
        );
    small = λ j. rw (zeros (image_size g) j) (omega arith);
  }

  -- its memory is not the image's
  target_of : (idcode : ℕ) → Target
  target_of idcode = record {
    silicon = record { idcode = idcode; high = g.part.id_high; low = g.part.id_low.first; revision = 0; family = g.part.id_family; privileged_sum = 0 };
    memory = record { flash = replicate (flash_size g) 1; locks = replicate (lock_total g) 1; latch = replicate (row_bytes_of g) 0; stored = level };
    effect = 0;
    params = replicate (2 + row_bytes_of g / 4) 0;
    sysarg = 0;
    sysreq = 0;
    test_mode = 0;
    tar = 0;
    posted = 0;
    running = idle;
  }

  abbrev target : Target
  target = target_of 0x0BB11477

  startable : (idcode : ℕ) → Startable g (target_of idcode)
  unfolding target_of
  startable idcode = record {
    flash = length-replicate (flash_size g) 1;
    locks = length-replicate (lock_total g) 1;
    latch = length-replicate (row_bytes_of g) 0;
    params = rw (length-replicate {A = ℕ} (2 + row_bytes_of g / 4) 0) (le_refl _);
    high = s.high;
    low = s.first;
    revision = omega arith;
    family = s.family;
    level = lv;
    quiet = refl;
  }

  right : RightPart (image_of g (header_for g) erased) target.silicon
  unfolding target_of
  right = record { idcode = refl; high = refl; family = refl; low = s.low }

  achieved : Achieved g level
  achieved =
      let i = image_of g (header_for g) erased in
      let most = most_traffic g (entry_of target) in
      let n = most.transfers + most.xresets + most.line_resets in
      let d = run-demand3-holds g (header_for g) erased passes target (startable 0x0BB11477) (record { line = []; calls = [] }) n in
      let r = d.comes (le_refl n) in
      let c = d.calm (record { line = calm_end; calls = calls_end }) right r.number r.step r.sent r.is in
      let zero_is : (run_after i n (started target (record { line = []; calls = [] }))).session ≡ reported 0 r.step r.sent = r.is ∙ rw c.0 in
      let nine : r.step ≡ 9 = (d.done r.step r.sent zero_is).at_end in
      record {
        header = header_for g;
        bytes = erased;
        passes = passes;
        target = target;
        startable = startable 0x0BB11477;
        stored = unfold target_of in refl;
        right = right;
        steps = n;
        done = r.is ∙ rw (c.0, nine, c.1);
      }

  -- ---- what is left alone

  -- the target's flash is not the image's
  other : (idcode : ℕ) → (target_of idcode).memory.flash ≡ flash_in g erased → ⊥
  unfolding target_of
  other idcode e =
      let one = first_one (flash_size g) s.flash in
      let none = zeros-take (flash_size g) erased (zeros (image_size g)) 0 in
      omega (arith, ap (λ (l : List ℕ). get_or l 0 0) e)

  wrong : RightPart (image_of g (header_for g) erased) (target_of 0).silicon → ⊥
  unfolding target_of
  wrong r = omega (arith, r.idcode)

  other-part : OtherPartWitness g
  other-part =
      let most = most_traffic g (entry_of (target_of 0)) in
      let n = most.transfers + most.xresets + most.line_resets in
      let d = run-demand3-holds g (header_for g) erased passes (target_of 0) (startable 0) (record { line = []; calls = [] }) n in
      let r = d.comes (le_refl n) in
      record {
        run = record {
          header = header_for g;
          bytes = erased;
          passes = passes;
          target = target_of 0;
          startable = startable 0;
          other = other 0;
          lists = record { line = []; calls = [] };
          steps = n;
          number = r.number;
          step = r.step;
          sent = r.sent;
          reports = r.is;
        };
        wrong = wrong;
        judged = by d r (d.number r.number r.step r.sent r.is);
      }
    where
      by : {n : ℕ} {x : Run} (d : RunDemand3 (image_of g (header_for g) erased) (target_of 0) (record { line = []; calls = [] }) n x)
          (r : record { number : ℕ; step : ℕ; sent : ℕ; is : x.session ≡ reported number step sent })
          → (r.number ≡ 0) ⊎ ((x.monitor ≡ link_error r.number) ⊎ ((¬ RightPart (image_of g (header_for g) erased) (target_of 0).silicon) × ((r.number ≡ 16) ⊎ (r.number ≡ 20))))
          → (r.number ≡ 16) ⊎ (r.number ≡ 20)
      by d r (inl z) = absurd (wrong ((d.exactly r.number r.step r.sent r.is).0 z).0)
      by d r (inr (inl m)) = absurd (d.provoked (record { line = calm_end; calls = calls_end }) r.number m)
      by d r (inr (inr (w, j))) = j

  early : EarlyWitness g
  unfolding target_of
  early =
      let f = faulted (image_of g (header_for g) erased) target refl (not-kill level lv) refl in
      record {
        run = record {
          header = header_for g;
          bytes = erased;
          passes = passes;
          target = target;
          startable = startable 0x0BB11477;
          other = other 0x0BB11477;
          lists = second_faults;
          steps = 4;
          number = 28;
          step = 1;
          sent = 2;
          reports = f.0;
        };
        right = right;
        faulted = (refl, refl);
        once = f.1;
      }

-- ---- every part and M

-- from OPEN and from PROTECTED
pub record Both (g : Geometry) : Type 0 where
  pub from_open : Achieved g 1
  pub from_protected : Achieved g 2

module _ (part macros : ℕ) (g : Geometry) (e : lookup_of part macros ≡ Ok g) where
  pub witness : Both g
  witness =
      let s = looked-up part macros g e in
      record { from_open = achieved g s 1 (inl refl); from_protected = achieved g s 2 (inr refl) }

  -- a board of another part, and a failure before step 3, both with a flash that is not the image's
  pub other-part-witness : OtherPartWitness g
  other-part-witness = other-part g (looked-up part macros g e) 1 (inl refl)

  pub early-witness : EarlyWitness g
  early-witness = early g (looked-up part macros g e) 1 (inl refl)

-- the table has entries: of part 3 with both macros
pub witness-both-macros : Both two_macros
unfolding look_in
witness-both-macros = witness 3 2 two_macros refl
