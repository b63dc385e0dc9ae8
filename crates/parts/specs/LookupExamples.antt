-- The look-up, by example: every part with each M that it may have, and beside them what is not in the table (11). Assumes nothing.
use Rattle.std.specs.Prelude.{◌≡◌, Ok, Err}
use Rattle.refusals.specs.declared.Refusal.TheVariants.{PartOrMacros}
use Rattle.parts.specs.Parts.{part1, part2, part3, lookup_of}

pub record LookupExamples : Type 0 where
  -- '| 1 | .. | 1 |', '| 2 | .. | 1 |', '| 3 | .. | 1 or 2 |'
  pub first : lookup_of 1 1 ≡ Ok (record { part = part1; macros = 1 })
  pub second : lookup_of 2 1 ≡ Ok (record { part = part2; macros = 1 })
  pub third : lookup_of 3 1 ≡ Ok (record { part = part3; macros = 1 })
  pub both : lookup_of 3 2 ≡ Ok (record { part = part3; macros = 2 })
  -- no macro, or one too many
  pub none : lookup_of 1 0 ≡ Err PartOrMacros
  pub first_two : lookup_of 1 2 ≡ Err PartOrMacros
  pub second_two : lookup_of 2 2 ≡ Err PartOrMacros
  pub third_three : lookup_of 3 3 ≡ Err PartOrMacros
  -- no such part
  pub zeroth : lookup_of 0 1 ≡ Err PartOrMacros
  pub fourth : lookup_of 4 1 ≡ Err PartOrMacros
