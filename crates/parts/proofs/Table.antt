-- A rule of the part table: a computed test over the whole table, and what it says of an entry that was found. Assumes nothing.
use mathlib.Core.Bool.{Bool, true, false, false≢true, ◌&&◌}
use mathlib.Core.List.{List, [], ◌∷◌}
use mathlib.Core.Path.{◌≡◌, refl, sym, ap, ◌∙◌}
use Prim.Native.Nat.{ℕ, zero, suc, ◌≤◌}
use native.Mathlib.Omega.{arith}
use borrow.Author.Tests.{eqb-true, leb-true, eqb-false}
use lib.Dec.{eqb, leb}
use Rattle.refusals.specs.declared.Refusal.TheVariants.{PartOrMacros}
use Rattle.parts.specs.Parts.{part_table, offers, look_in, lookup_of}
use Rattle.parts.specs.declared.Geometry.{Geometry}
use Rattle.std.specs.Prelude.{Ok, Err}
use Rattle.parts.specs.declared.Part.{Part}

pub both : (a b : Bool) → a && b ≡ true → (a ≡ true) × (b ≡ true)
both true b h = (refl, h)
both false b h = absurd (false≢true h)

-- the test at 1 to `macros` macros of a part, and at all of a table
abbrev pub up_to : (Geometry → Bool) → Part → (macros : ℕ) → Bool
up_to test p zero = true
up_to test p (suc m) = test (record { part = p; macros = suc m }) && up_to test p m

abbrev pub everywhere : (Geometry → Bool) → List Part → Bool
everywhere test [] = true
everywhere test (p ∷ ps) = up_to test p p.most_macros && everywhere test ps

at-macros : (test : Geometry → Bool) (p : Part) (k m : ℕ) → up_to test p k ≡ true → 1 ≤ m → m ≤ k → test (record { part = p; macros = m }) ≡ true
at-macros test p zero m h one le = absurd (omega arith)
at-macros test p (suc k) m h one le = by (λ t l. at-macros test p k m t one l) (eqb m (suc k)) refl
  where
    t : (test (record { part = p; macros = suc k }) ≡ true) × (up_to test p k ≡ true)
    t = both (test (record { part = p; macros = suc k })) (up_to test p k) h

    by : (up_to test p k ≡ true → m ≤ k → test (record { part = p; macros = m }) ≡ true) → (y : Bool) → eqb m (suc k) ≡ y
        → test (record { part = p; macros = m }) ≡ true
    by rec true e = rw (eqb-true m (suc k) e) t.0
    by rec false e = rec t.1 (omega (arith, eqb-false m (suc k) e))

-- what was found: it passes the test, and has the number and the macros that were asked for
pub record Entry (test : Geometry → Bool) (n m : ℕ) (g : Geometry) : Type 0 where
  pub passes : test g ≡ true
  pub number : g.part.number ≡ n
  pub macros : g.macros ≡ m

looked : (test : Geometry → Bool) (ps : List Part) (n m : ℕ) (g : Geometry) → everywhere test ps ≡ true → look_in ps n m ≡ Ok g → Entry test n m g
unfolding look_in
looked test [] n m g h e = absurd (omega (arith, different e))
  where
    different : Err PartOrMacros ≡ Ok g → ◌≡◌ {A = ℕ} 0 1
    different e = cc
looked test (p ∷ ps) n m g h e = by (λ h' e'. looked test ps n m g h' e') (offers p n m) refl
  where
    parts : (up_to test p p.most_macros ≡ true) × (everywhere test ps ≡ true)
    parts = both (up_to test p p.most_macros) (everywhere test ps) h

    by : (everywhere test ps ≡ true → look_in ps n m ≡ Ok g → Entry test n m g) → (y : Bool) → offers p n m ≡ y → Entry test n m g
    by rec true o =
        let is : Ok (record { part = p; macros = m }) ≡ Ok g = rw o at e in
        let geo : record { part = p; macros = m } ≡ g = cc in
        let t = both (eqb p.number n && leb 1 m) (leb m p.most_macros) o in
        let s = both (eqb p.number n) (leb 1 m) t.0 in
        let holds = at-macros test p p.most_macros m parts.0 (leb-true 1 m s.1) (leb-true m p.most_macros t.1) in
        record {
          passes = rw (← geo) holds;
          number = ap (λ (x : Geometry). x.part.number) (sym geo) ∙ eqb-true p.number n s.0;
          macros = ap (λ (x : Geometry). x.macros) (sym geo);
        }
    by rec false o = rec parts.1 (rw o at e)

pub entry : (test : Geometry → Bool) (n m : ℕ) (g : Geometry) → everywhere test part_table ≡ true → lookup_of n m ≡ Ok g → Entry test n m g
entry test n m g h e = looked test part_table n m g h e

-- the test at what was found
pub at-found : (test : Geometry → Bool) → everywhere test part_table ≡ true → (n m : ℕ) {g : Geometry} → lookup_of n m ≡ Ok g → test g ≡ true
at-found test h n m {g} e = (entry test n m g h e).passes
