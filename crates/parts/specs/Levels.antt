-- Document 01, 'Parts': 'Levels: VIRGIN 0, OPEN 1, PROTECTED 2, KILL 4.' Assumes nothing.
use Rattle.std.specs.Prelude.{Bool, ◌||◌, not, cond, ℕ, eqb}
use Rattle.parts.specs.declared.Level.{Level}
use Rattle.parts.specs.declared.Level.TheVariants.{Virgin, Open, Protected, Kill, Unknown}

abbrev pub level_of : ℕ → Level
level_of n = cond (eqb n 0) Virgin (cond (eqb n 1) Open (cond (eqb n 2) Protected (cond (eqb n 4) Kill Unknown)))

-- the numbers that each case of a level stands for
abbrev pub is_level : Level → ℕ → Bool
is_level Virgin n = eqb n 0
is_level Open n = eqb n 1
is_level Protected n = eqb n 2
is_level Kill n = eqb n 4
is_level Unknown n = not (eqb n 0 || eqb n 1 || eqb n 2 || eqb n 4)
