-- The target's address map as a list of regions: document 01, 'Parts' and 'The plain board'. Assumes nothing.
use Rattle.std.specs.Prelude.{Bool, ◌&&◌, cond, List, [], ◌∷◌, ℕ, zero, suc, ◌+◌, ◌-◌, ◌/◌, leb, ltb}
use Rattle.flow.specs.declared.Place.{Place}
use Rattle.flow.specs.declared.Place.TheVariants.{InFlash, InLocks, InParams, AtLevel, AtSysreq, AtSysarg, AtTestMode, Elsewhere}
use Rattle.parts.specs.Sizes.{row_bytes_of, macros_of, flash_size, locks_in, lock_start, sysreq_of, sysarg_of, PARAMS, TEST-MODE, locks_at, level_at}
use Rattle.parts.specs.declared.Geometry.{Geometry}

-- 'the word at TAR: flash, locks, the stored level as step 8 reads it, registers, PARAMS, elsewhere any word': addresses from `start`
-- on, and what is at each offset
pub record Region : Type 0 where
  pub start : ℕ
  pub size : ℕ
  pub holds : ℕ → Place

abbrev pub covers : Region → ℕ → Bool
covers r a = leb r.start a && ltb a (r.start + r.size)

unfoldable pub search : List Region → ℕ → Place
search [] a = Elsewhere
search (r ∷ rs) a = cond (covers r a) (r.holds (a - r.start)) (search rs a)

-- a register of one word
abbrev pub word : ℕ → Place → Region
word a p = record { start = a; size = 4; holds = λ o. p }

-- READINGS 25: 'PARAMS has at least 2 + L / 4 words', here two words and a row
abbrev pub params_size : Geometry → ℕ
params_size g = 8 + row_bytes_of g

-- the locks of n macros from macro m on
unfoldable pub lock_regions : Geometry → (m n : ℕ) → List Region
lock_regions g m zero = []
lock_regions g m (suc n) =
    record { start = locks_at g m; size = locks_in g m; holds = λ o. InLocks (lock_start g m + o) } ∷ lock_regions g (suc m) n

unfoldable pub regions : Geometry → List Region
regions g =
    record { start = 0; size = flash_size g; holds = λ o. InFlash o }
    ∷ word (sysreq_of g) AtSysreq
    ∷ word (sysarg_of g) AtSysarg
    ∷ word TEST-MODE AtTestMode
    ∷ record { start = PARAMS; size = params_size g; holds = λ o. InParams (o / 4) }
    ∷ word (level_at g) AtLevel
    ∷ lock_regions g 0 (macros_of g)

abbrev pub place : Geometry → (address : ℕ) → Place
place g a = search (regions g) a
