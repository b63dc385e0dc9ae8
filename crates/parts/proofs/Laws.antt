-- Laws of the look-up. Assumes nothing.
use mathlib.Core.Bool.{true, false}
use mathlib.Core.List.{List, []}
use mathlib.Core.Path.{◌≡◌, refl}
use Prim.Native.Nat.{ℕ, ◌+◌, ◌<◌}
use native.Mathlib.Numerals.{add-one}
use lib.ListN.{length, drop, get_or}
use lib.Seq.{drop-cons}
use Rattle.refusals.specs.declared.Refusal.TheVariants.{PartOrMacros}
use Rattle.parts.specs.Parts.{offers, look_in}
use Rattle.std.specs.Prelude.{Ok, Err}
use Rattle.parts.specs.declared.Part.{Part}

pub look_none : (n m : ℕ) → look_in [] n m ≡ Err PartOrMacros
unfolding look_in
look_none n m = refl

-- the look-up from entry i on: the entry is the answer, or the rest decides
module _ (ps : List Part) (i n m : ℕ) (blank : Part) (inside : i < length ps) where
  pub look_hit : offers (get_or ps i blank) n m ≡ true → look_in (drop i ps) n m ≡ Ok (record { part = get_or ps i blank; macros = m })
  unfolding look_in
  look_hit t = rw (drop-cons ps i blank inside) (simp t)

  pub look_miss : offers (get_or ps i blank) n m ≡ false → look_in (drop i ps) n m ≡ look_in (drop (i + 1) ps) n m
  unfolding look_in
  look_miss t = rw (add-one, drop-cons ps i blank inside) (simp t)
