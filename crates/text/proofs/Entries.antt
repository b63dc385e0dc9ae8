-- What the entries of the part table have, by computed tests over the whole table: sizes within bounds, an ID that tells the part, and rows
-- by which the part and the size tell M. And what is no entry is 11. Assumes nothing.
use mathlib.Core.Bool.{Bool, true, false, false≢true, ◌&&◌, ◌||◌, not, cond}
use mathlib.Core.List.{List, [], ◌∷◌}
use mathlib.Core.Path.{◌≡◌, refl, sym, ap, ◌∙◌}
use Prim.Native.Nat.{ℕ, suc, ◌+◌, ◌*◌, ◌/◌, ◌≤◌, ◌<◌}
use native.Mathlib.Nat.{mul-le-mul_right, suc-mul}
use native.Mathlib.Omega.{arith}
use borrow.Author.Tests.{eqb-true, eq-eqb, leb-true, ltb-true, ltb-false}
use lib.Dec.{eqb, leb, ltb}
use lib.ListN.{get_or}
use Rattle.refusals.specs.declared.Refusal.TheVariants.{PartOrMacros}
use Rattle.refusals.specs.declared.Refusal.{Refusal}
use Rattle.parts.proofs.Table.{everywhere, entry, at-found, both}
use Rattle.parts.specs.Parts.{part_table, offers, look_in, lookup_of, low_fits, id_fits}
use Rattle.parts.specs.Sizes.{row_bytes_of, macros_of, rows_per_macro_of, rows_of, flash_size, lock_total, image_size}
use Rattle.parts.specs.declared.Geometry.{Geometry}
use Rattle.parts.specs.declared.Part.{Part}
use Rattle.std.specs.Prelude.{Ok, Err}
use Rattle.text.specs.Sized.{TableSizes}

-- what is not found is 11
refused-in : (ps : List Part) (n m : ℕ) (k : Refusal) → look_in ps n m ≡ Err k → k ≡ PartOrMacros
unfolding look_in
refused-in [] n m k e = cc e
refused-in (p ∷ ps) n m k e = by (offers p n m) (refused-in ps n m k) e
  where
    by : (b : Bool) → (look_in ps n m ≡ Err k → k ≡ PartOrMacros) → cond b (Ok (record { part = p; macros = m })) (look_in ps n m) ≡ Err k → k ≡ PartOrMacros
    by true rec e = let t : false ≡ true = cc e in absurd (false≢true t)
    by false rec e = rec e

pub refused-eleven : (n m : ℕ) (k : Refusal) → lookup_of n m ≡ Err k → k ≡ PartOrMacros
refused-eleven n m k e = refused-in part_table n m k e

-- ---- sizes

-- 1 to `most`
abbrev within : (most size : ℕ) → Bool
within most n = leb 1 n && leb n most

abbrev sizes_fit : Geometry → Bool
sizes_fit g = within 131072 (flash_size g) && within 128 (lock_total g)

all_fit : everywhere sizes_fit part_table ≡ true
unfolding rows_of flash_size lock_total
all_fit = refl

pub sized : (n m : ℕ) (g : Geometry) → lookup_of n m ≡ Ok g → TableSizes g
sized n m g found =
    let t = both (within 131072 (flash_size g)) (within 128 (lock_total g)) (at-found sizes_fit all_fit n m found) in
    let f = both (leb 1 (flash_size g)) (leb (flash_size g) 131072) t.0 in
    let l = both (leb 1 (lock_total g)) (leb (lock_total g) 128) t.1 in
    record {
      flash-some = leb-true 1 (flash_size g) f.0;
      flash-most = leb-true (flash_size g) 131072 f.1;
      locks-some = leb-true 1 (lock_total g) l.0;
      locks-most = leb-true (lock_total g) 128 l.1;
    }

-- ---- the ID tells the part: no two parts of the table share the high and the family byte

-- the ID in the metadata fits the part (check 7)
abbrev pub id_in : Geometry → (metadata : List ℕ) → Bool
id_in g m = id_fits g.part (get_or m 2 0) (get_or m 3 0) (get_or m 5 0)

abbrev apart : Geometry → Geometry → Bool
apart g g' =
    not (eqb g.part.id_high g'.part.id_high && eqb g.part.id_family g'.part.id_family) || eqb g.part.number g'.part.number

unfoldable alone : Geometry → Bool
alone g = everywhere (apart g) part_table

all-alone : everywhere alone part_table ≡ true
unfolding alone
all-alone = refl

-- high and family byte of a part whose ID fits
id-bytes : (g : Geometry) (d : List ℕ) → id_in g d ≡ true → (get_or d 2 0 ≡ g.part.id_high) × (get_or d 5 0 ≡ g.part.id_family)
id-bytes g d i =
    let x = both (eqb (get_or d 2 0) g.part.id_high && eqb (get_or d 5 0) g.part.id_family) (low_fits g.part (get_or d 3 0)) i in
    let y = both (eqb (get_or d 2 0) g.part.id_high) (eqb (get_or d 5 0) g.part.id_family) x.0 in
    (eqb-true (get_or d 2 0) g.part.id_high y.0, eqb-true (get_or d 5 0) g.part.id_family y.1)

-- ---- the part and the size tell M: rows of one part are alike, and more of them take more room

abbrev rows_alike : Geometry → Geometry → Bool
rows_alike g g' = not (eqb g.part.number g'.part.number) || (eqb (row_bytes_of g) (row_bytes_of g') && eqb (rows_per_macro_of g) (rows_per_macro_of g'))

unfoldable rowed : Geometry → Bool
rowed g = leb 1 (row_bytes_of g) && leb 1 (rows_per_macro_of g) && everywhere (rows_alike g) part_table

all-rowed : everywhere rowed part_table ≡ true
unfolding rowed
all-rowed = refl

-- m macros of k rows of l bytes, with their locks
abbrev taking : (k l m : ℕ) → ℕ
taking k l m = m * k * l + m * k / 8

more-taking : (k l m m' : ℕ) → 1 ≤ k → 1 ≤ l → m < m' → taking k l m < taking k l m'
more-taking k l m m' some each less =
    let rows : suc (m * k) ≤ m' * k = omega (arith, mul-le-mul_right k less, suc-mul m k) in
    omega (arith, rows, mul-le-mul_right l rows, suc-mul (m * k) l)

macros-told : (k l m m' : ℕ) → 1 ≤ k → 1 ≤ l → taking k l m ≡ taking k l m' → m ≡ m'
macros-told k l m m' some each e = go (ltb m m') (ltb m' m) refl refl
  where
    go : (a b : Bool) → ltb m m' ≡ a → ltb m' m ≡ b → m ≡ m'
    go true b p q = absurd (omega (arith, more-taking k l m m' some each (ltb-true m m' p)))
    go false true p q = absurd (omega (arith, more-taking k l m' m some each (ltb-true m' m q)))
    go false false p q = omega (arith, ltb-false m m' p, ltb-false m' m q)

module _ (n m n' m' : ℕ) (g g' : Geometry) (f : lookup_of n m ≡ Ok g) (f' : lookup_of n' m' ≡ Ok g') where
  pub id-tells : (metadata : List ℕ) → id_in g metadata ≡ true → id_in g' metadata ≡ true → n ≡ n'
  unfolding alone
  id-tells d i i' =
      let a = entry alone n m g all-alone f in
      let b = entry (apart g) n' m' g' a.passes f' in
      let x = id-bytes g d i in
      let x' = id-bytes g' d i' in
      let e : eqb g.part.number g'.part.number ≡ true =
      rw (eq-eqb g.part.id_high g'.part.id_high (sym x.0 ∙ x'.0), eq-eqb g.part.id_family g'.part.id_family (sym x.1 ∙ x'.1)) at b.passes in
      sym a.number ∙ eqb-true g.part.number g'.part.number e ∙ b.number

  pub size-tells : n ≡ n' → image_size g ≡ image_size g' → m ≡ m'
  unfolding rowed image_size flash_size lock_total rows_of
  size-tells p z =
      let a = entry rowed n m g all-rowed f in
      let x = both (leb 1 (row_bytes_of g) && leb 1 (rows_per_macro_of g)) (everywhere (rows_alike g) part_table) a.passes in
      let y = both (leb 1 (row_bytes_of g)) (leb 1 (rows_per_macro_of g)) x.0 in
      let b = entry (rows_alike g) n' m' g' x.1 f' in
      let c : (eqb (row_bytes_of g) (row_bytes_of g') && eqb (rows_per_macro_of g) (rows_per_macro_of g')) ≡ true =
      rw (eq-eqb g.part.number g'.part.number (a.number ∙ p ∙ sym b.number)) at b.passes in
      let d = both (eqb (row_bytes_of g) (row_bytes_of g')) (eqb (rows_per_macro_of g) (rows_per_macro_of g')) c in
      let size : taking (rows_per_macro_of g) (row_bytes_of g) (macros_of g) ≡ taking (rows_per_macro_of g) (row_bytes_of g) (macros_of g') =
      z
      ∙ ap (λ (l : ℕ). taking (rows_per_macro_of g') l (macros_of g')) (sym (eqb-true (row_bytes_of g) (row_bytes_of g') d.0))
      ∙ ap (λ (k : ℕ). taking k (row_bytes_of g) (macros_of g')) (sym (eqb-true (rows_per_macro_of g) (rows_per_macro_of g') d.1)) in
      sym a.macros
      ∙ macros-told (rows_per_macro_of g) (row_bytes_of g) (macros_of g) (macros_of g') (leb-true 1 (rows_per_macro_of g) y.1) (leb-true 1 (row_bytes_of g) y.0) size
      ∙ b.macros
