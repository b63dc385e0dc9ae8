-- Every geometry of the part table is handled. Assumes nothing.
use mathlib.Core.Bool.{true}
use mathlib.Core.List.{List}
use mathlib.Core.Path.{◌≡◌, refl}
use Prim.Native.Nat.{ℕ}
use lib.ListN.{length}
use borrow.Author.Tests.{eq-eqb}
use Rattle.parts.proofs.Table.{at-found}
use Rattle.flow.specs.Session.{position, move_at}
use Rattle.flow.specs.declared.Entry.{Entry}
use Rattle.image.specs.Image.{image_of}
use Rattle.image.specs.declared.Header.{Header}
use Rattle.moves.specs.Handled.{handles}
use Rattle.moves.specs.Moves.{move_of}
use Rattle.parts.specs.Parts.{lookup_of}
use Rattle.parts.specs.Sizes.{image_size}
use Rattle.std.specs.Prelude.{Ok}
use Rattle.parts.specs.declared.Geometry.{Geometry}

pub table-handled : (n m : ℕ) (g : Geometry) → lookup_of n m ≡ Ok g → handles g ≡ true
table-handled n m g e = at-found handles refl n m e

-- for a part of the table and an image of exact size, the move is the sequence's
pub move-found : (g : Geometry) (h : Header) (bytes : List ℕ) (y : Entry) (n number macros : ℕ)
    → lookup_of number macros ≡ Ok g → length bytes ≡ image_size g → move_of g h bytes y n ≡ move_at (image_of g h bytes) (position y n)
move-found g h bytes y n number macros e exact = rw (table-handled number macros g e, eq-eqb (length bytes) (image_size g) exact)
