-- What every geometry of the part table has, by one computed test over the whole table, and where the map says that its places are. Assumes nothing.
use mathlib.Core.Bool.{Bool, true, ◌&&◌, ◌||◌, false}
use mathlib.Core.List.{List, [], ◌∷◌}
use mathlib.Core.Path.{◌≡◌, refl, ap, ◌∙◌}
use Prim.Native.Nat.{ℕ, ◌+◌, ◌*◌, ◌/◌, ◌≤◌, zero, suc, ◌-◌, ◌<◌}
use native.Mathlib.Omega.{arith}
use lib.Dec.{eqb, leb, ltb}
use borrow.Author.Tests.{eqb-true, leb-true, lt-ltb, le-ltb, le-leb, lt-leb}
use Rattle.flow.specs.Map.{Region, regions, lock_regions, covers, search, place}
use Rattle.flow.specs.declared.Place.TheVariants.{InFlash, InLocks, InParams, AtLevel, AtSysreq, AtSysarg, AtTestMode}
use Rattle.parts.proofs.Locks.{Locks, table-locks}
use Rattle.parts.proofs.Table.{both, everywhere, at-found}
use Rattle.parts.specs.Parts.{part_table, lookup_of}
use Rattle.parts.specs.Sizes.{row_bytes_of, macros_of, rows_of, flash_size, locks_in, imo_of, lock_start, sysreq_of, sysarg_of, PARAMS, TEST-MODE, locks_at, level_at}
use Rattle.std.specs.Prelude.{Ok}
use Rattle.parts.specs.declared.Geometry.{Geometry}

-- two regions do not meet
abbrev pub apart : Region → Region → Bool
apart r s = leb (r.start + r.size) s.start || leb (s.start + s.size) r.start

abbrev pub apart_from : Region → List Region → Bool
apart_from r [] = true
apart_from r (s ∷ rs) = apart r s && apart_from r rs

abbrev pub all_apart : List Region → Bool
all_apart [] = true
all_apart (r ∷ rs) = apart_from r rs && all_apart rs

unfoldable all : List Bool → Bool
all [] = true
all (b ∷ bs) = b && all bs

-- ---- the test

unfoldable fits : Geometry → Bool
fits g =
    all (leb (imo_of g) 1 ∷ leb 1 (macros_of g)
    ∷ eqb (4 * (row_bytes_of g / 4)) (row_bytes_of g) ∷ leb 1 (row_bytes_of g)
    ∷ all_apart (regions g) ∷ [])

table_fits : everywhere fits part_table ≡ true
unfolding fits all regions lock_regions flash_size rows_of locks_in
table_fits = refl

-- ---- the facts

pub record Facts (g : Geometry) : Type 0 where
  pub imo : imo_of g ≤ 1
  pub any : 1 ≤ macros_of g
  pub quads : 4 * (row_bytes_of g / 4) ≡ row_bytes_of g
  pub some : 1 ≤ row_bytes_of g
  pub locks : Locks g
  pub apart : all_apart (regions g) ≡ true

all_first : (b : Bool) (bs : List Bool) → all (b ∷ bs) ≡ true → (b ≡ true) × (all bs ≡ true)
unfolding all
all_first b bs h = both b (all bs) h

pub facts : (n m : ℕ) (g : Geometry) → lookup_of n m ≡ Ok g → Facts g
unfolding fits
facts n m g e =
    let t₀ = all_first _ _ (at-found fits table_fits n m e) in
    let t₁ = all_first _ _ t₀.1 in
    let t₂ = all_first _ _ t₁.1 in
    let t₃ = all_first _ _ t₂.1 in
    let t₄ = all_first _ _ t₃.1 in
    record {
      imo = leb-true _ _ t₀.0;
      any = leb-true _ _ t₁.0;
      quads = eqb-true _ _ t₂.0;
      some = leb-true _ _ t₃.0;
      locks = table-locks n m g e;
      apart = t₄.0;
    }

data In (r : Region) : List Region → Type 0 where
  first : {rs : List Region} → In r (r ∷ rs)
  next : {s : Region} {rs : List Region} → In r rs → In r (s ∷ rs)

-- a is in r
record Within (r : Region) (a : ℕ) : Type 0 where
  pub low : r.start ≤ a
  pub high : a < r.start + r.size

covered : (r : Region) (a : ℕ) → Within r a → covers r a ≡ true
covered r a w = rw (le-leb r.start a w.low, lt-ltb a (r.start + r.size) w.high)

-- what is apart from a's region does not cover a
uncovered : (s r : Region) (a : ℕ) → Within r a → apart s r ≡ true → covers s a ≡ false
uncovered s r a w h = by (leb (s.start + s.size) r.start) refl
  where
    by : (y : Bool) → leb (s.start + s.size) r.start ≡ y → covers s a ≡ false
    by true e =
        let le = leb-true (s.start + s.size) r.start e in
        low (leb s.start a) (le-ltb a (s.start + s.size) (omega (arith, w.low)))
      where
        low : (y : Bool) → ltb a (s.start + s.size) ≡ false → y && ltb a (s.start + s.size) ≡ false
        low true f = f
        low false f = refl
    by false e =
        let h' : leb (r.start + r.size) s.start ≡ true = rw e at h in
        rw (lt-leb s.start a (omega (arith, w.high, leb-true (r.start + r.size) s.start h')))

apart_in : (s r : Region) (rs : List Region) → In r rs → apart_from s rs ≡ true → apart s r ≡ true
apart_in s r rs (first {rs = rs'}) h = (both (apart s r) (apart_from s rs') h).0
apart_in s r rs (next {s = s'} {rs = rs'} i) h = apart_in s r rs' i (both (apart s s') (apart_from s rs') h).1

found : (r : Region) (rs : List Region) (a : ℕ) → In r rs → all_apart rs ≡ true → Within r a → search rs a ≡ r.holds (a - r.start)
unfolding search
found r rs a first h w = rw (covered r a w)
found r rs a (next {s = s} {rs = rs'} i) h w =
    let t = both (apart_from s rs') (all_apart rs') h in
    rw (uncovered s r a w (apart_in s r rs' i t.0)) (found r rs' a i t.1 w)

abbrev lock_region : Geometry → ℕ → Region
lock_region g m = record { start = locks_at g m; size = locks_in g m; holds = λ o. InLocks (lock_start g m + o) }

lock-in : (g : Geometry) (m k n : ℕ) → m < n → In (lock_region g (k + m)) (lock_regions g k n)
unfolding lock_regions
lock-in g m k zero h = absurd (omega arith)
lock-in g zero k (suc n) h = let e : k + 0 ≡ k = omega arith in rw e first
lock-in g (suc m) k (suc n) h = let e : k + suc m ≡ suc k + m = omega arith in rw e (next (lock-in g m (suc k) n (omega arith)))

module _ (g : Geometry) (f : Facts g) where
  pub place-flash : (a : ℕ) → a < flash_size g → place g a ≡ InFlash a
  unfolding regions
  place-flash a h =
      let e : a - 0 ≡ a = omega arith in
      found _ _ a first f.apart (record { low = omega arith; high = omega arith }) ∙ ap (λ (o : ℕ). InFlash o) e

  pub place-sysreq : place g (sysreq_of g) ≡ AtSysreq
  unfolding regions
  place-sysreq = found _ _ (sysreq_of g) (next first) f.apart (record { low = omega arith; high = omega arith })

  pub place-sysarg : place g (sysarg_of g) ≡ AtSysarg
  unfolding regions
  place-sysarg = found _ _ (sysarg_of g) (next (next first)) f.apart (record { low = omega arith; high = omega arith })

  pub place-test : place g TEST-MODE ≡ AtTestMode
  unfolding regions
  place-test = found _ _ TEST-MODE (next (next (next first))) f.apart (record { low = omega arith; high = omega arith })

  pub place-params : (a j : ℕ) → a ≡ PARAMS + 4 * j → j < 2 + row_bytes_of g / 4 → place g a ≡ InParams j
  unfolding regions
  place-params a j e h =
      let at : (a - PARAMS) / 4 ≡ j = omega arith in
      found _ _ a (next (next (next (next first)))) f.apart (record { low = omega arith; high = omega (arith, f.quads) })
      ∙ ap (λ (o : ℕ). InParams o) at

  pub place-level : place g (level_at g) ≡ AtLevel
  unfolding regions
  place-level = found _ _ (level_at g) (next (next (next (next (next first))))) f.apart (record { low = omega arith; high = omega arith })

  pub place-locks : (a m x : ℕ) → a ≡ locks_at g m + x → m < macros_of g → x < locks_in g m → place g a ≡ InLocks (lock_start g m + x)
  unfolding regions
  place-locks a m x e lm lx =
      let at : a - locks_at g m ≡ x = omega arith in
      found (lock_region g m) _ a (next (next (next (next (next (next at-macro)))))) f.apart (record { low = omega arith; high = omega arith })
      ∙ ap (λ (o : ℕ). InLocks (lock_start g m + o)) at
    where
      at-macro : In (lock_region g m) (lock_regions g 0 (macros_of g))
      at-macro = let z : 0 + m ≡ m = omega arith in rw z at (lock-in g m 0 (macros_of g) lm)
