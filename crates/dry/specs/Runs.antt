-- What a dry run comes to, and its line: document 01, 'prints one line: done, a space, transfers, LF (or refused, a space, the
-- number, LF)'. Assumes nothing.
use Rattle.std.specs.Prelude.{cond, List, [], ◌∷◌, ◌++◌, ◌≡◌, ℕ, eqb}
use Rattle.dry.specs.declared.Ran.{Ran}
use Rattle.dry.specs.declared.Ran.TheVariants.{Done, Refused}
use Rattle.flow.specs.Examples.{part_one}
use Rattle.flow.specs.Plan.{plan}
use Rattle.flow.specs.declared.Entry.TheVariants.{FromOpen}
use Rattle.hex_format.specs.Texts.{hex_reading}
use Rattle.io.specs.Digits.{last_digits, IsDigitCount}
use Rattle.session.specs.declared.Report.{Report}
use Rattle.text.specs.Reading.{answer_of}

-- the bytes of part 1's image: 16,384 of flash, 32 of locks
abbrev pub room : ℕ
room = 16416

-- the reader's number, 0 where the text is taken
abbrev pub read_number : (text : List ℕ) → ℕ
read_number text = (answer_of (hex_reading 1 1 text room)).number

-- a text that is refused is refused by the reader, and any other is done with the plan
unfoldable pub ran_on : (text : List ℕ) → Ran
ran_on text = cond (eqb (read_number text) 0) (Done (plan part_one FromOpen)) (Refused (read_number text))

-- what a dry run comes to, by its report
abbrev pub ran_by : Report → Ran
ran_by r = cond (eqb r.number 0) (Done r.transfers) (Refused r.number)

-- ---- the line

-- "done ", "refused " and the line end
abbrev pub done_word : List ℕ
done_word = 100 ∷ 111 ∷ 110 ∷ 101 ∷ 32 ∷ []

abbrev pub refused_word : List ℕ
refused_word = 114 ∷ 101 ∷ 102 ∷ 117 ∷ 115 ∷ 101 ∷ 100 ∷ 32 ∷ []

-- a word, a number in as few decimal digits as hold it, at least one, and LF
pub record Spells (word : List ℕ) (n : ℕ) (line : List ℕ) : Type 0 where
  pub places : ℕ
  pub fewest : IsDigitCount 10 1 n places
  pub is : line ≡ word ++ last_digits 10 places n ++ (10 ∷ [])

-- 'done, a space, transfers, LF (or refused, a space, the number, LF)'
abbrev pub LineOf : Ran → (line : List ℕ) → Type 0
LineOf (Done n) line = Spells done_word n line
LineOf (Refused n) line = Spells refused_word n line
