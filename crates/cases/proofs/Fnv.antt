-- Laws of the digest. Assumes nothing.
use Rattle.std.proofs.Common.{◌≡◌, ℕ, List, [], ◌∷◌, ◌++◌, refl}
use Rattle.cases.specs.Fnv.{fnv_step, fnv_from}

-- a byte more at the end
pub fnv-more : (h : ℕ) (bs : List ℕ) (b : ℕ) → fnv_from h (bs ++ (b ∷ [])) ≡ fnv_step (fnv_from h bs) b
unfolding fnv_from
fnv-more h [] b = refl
fnv-more h (x ∷ bs) b = fnv-more (fnv_step h x) bs b
