-- The bounds of a geometry of the table. Assumes nothing.
use mathlib.Core.Bool.{Bool, true, false, ◌&&◌}
use mathlib.Core.List.{[]}
use mathlib.Core.Path.{◌≡◌, refl}
use Prim.Native.Nat.{ℕ, ◌+◌, ◌*◌, ◌<◌, ◌^◌}
use native.Mathlib.Omega.{arith}
use borrow.Author.Tests.{ltb-true}
use lib.Dec.{ltb}
use Rattle.flow.proofs.Counting.{planned}
use Rattle.flow.proofs.Table.{facts}
use Rattle.flow.specs.Plan.{plan, lock_plan, loops, acquisitions, most_traffic}
use Rattle.flow.specs.declared.Entry.{Entry}
use Rattle.flow.specs.declared.Entry.TheVariants.{FromOpen, FromProtected}
use Rattle.image.specs.Image.{image_of}
use Rattle.flow.specs.Session.{move_count}
use Rattle.parts.proofs.Table.{both, everywhere, at-found}
use Rattle.parts.specs.Parts.{part_table, lookup_of}
use Rattle.parts.specs.Sizes.{rows_of, locks_in}
use Rattle.parts.specs.declared.Geometry.{Geometry}
use Rattle.session.specs.Possible.{possible_in}
use Rattle.session.specs.Sessions.{most_of}
use Rattle.session.specs.declared.Session.{Session}
use Rattle.session.proofs.Closed.{Within}
use Rattle.std.specs.Prelude.{Ok}
use Rattle.session.proofs.Possibility.{parts, stands_of}

fits : Geometry → Bool
fits g = ltb (most_of g) (2 ^ 32) && (ltb (plan g FromOpen + 2) (2 ^ 31) && ltb (plan g FromProtected + 4) (2 ^ 31))

table_fits : everywhere fits part_table ≡ true
unfolding fits most_traffic plan lock_plan loops rows_of locks_in
table_fits = refl

module _ (n m : ℕ) {g : Geometry} (found : lookup_of n m ≡ Ok g) where
  pub most-small : most_of g < 2 ^ 32
  unfolding fits
  most-small = ltb-true _ _ (both (ltb (most_of g) (2 ^ 32)) _ (at-found fits table_fits n m found)).0

  moves-small : (y : Entry) → move_count g y < 2 ^ 31
  unfolding fits
  moves-small y = by y (planned g (facts n m g found) y)
    where
      rest : (ltb (plan g FromOpen + 2) (2 ^ 31) && ltb (plan g FromProtected + 4) (2 ^ 31)) ≡ true
      rest = (both (ltb (most_of g) (2 ^ 32)) _ (at-found fits table_fits n m found)).1

      by : (y : Entry) → move_count g y ≡ plan g y + 2 * acquisitions y → move_count g y < 2 ^ 31
      by FromOpen e = let s = ltb-true (plan g FromOpen + 2) (2 ^ 31) (both (ltb (plan g FromOpen + 2) (2 ^ 31)) _ rest).0 in omega arith
      by FromProtected e = let s = ltb-true (plan g FromProtected + 4) (2 ^ 31) (both (ltb (plan g FromOpen + 2) (2 ^ 31)) _ rest).1 in omega arith

-- a possible session's index is in range
pub in-range : (g : Geometry) (s : Session) → lookup_of s.header.part s.header.macros ≡ Ok g → possible_in g s ≡ true → s.finished ≡ false
    → s.position.at < 2 ^ 31
in-range g s found can e =
    let w : Within (image_of g s.header []) s.position s.counters = rw e at (stands_of g s.header [] s (parts g s can)) in
    omega (arith, w.at, moves-small s.header.part s.header.macros found s.position.entry)
