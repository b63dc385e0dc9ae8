-- The order of steps 7 and 8, by example: macros of 32 rows of one word. Assumes nothing.
use Rattle.std.specs.Prelude.{◌&&◌, cond, List, [], ◌∷◌, ◌≡◌, ℕ, ◌%◌, eqb}
use Rattle.flow.specs.Sequence.{program}
use Rattle.flow.specs.declared.Move.{Move}
use Rattle.flow.specs.declared.Request.{Request}
use Rattle.flow.specs.declared.Request.TheVariants.{Xres, LineReset, ReadIdcode, ReadDrw, WriteTar, WriteDrw, WriteSetup}
use Rattle.image.specs.Image.{Image}
use Rattle.parts.specs.LockExamples.{resized}
use Rattle.parts.specs.Parts.{part3}
use Rattle.parts.specs.declared.Geometry.{Geometry}

-- part 3 with smaller rows and so many smaller macros
abbrev pub with_macros : (n : ℕ) → Geometry
with_macros n = record { part = resized 4 32 n part3; macros = n }

-- any image of it will do; its level is PROTECTED
abbrev pub image_with : (n : ℕ) → Image
image_with n = record { geometry = with_macros n; header = record { part = 3; macros = n; sum = 0; metadata = []; level = 2 }; flash = []; protection = [] }

-- the words of step 7's calls 0x0D, and the addresses that step 8 reads
abbrev pub marked : (step : ℕ) → Request → List ℕ → List ℕ
marked s Xres ws = ws
marked s LineReset ws = ws
marked s ReadIdcode ws = ws
marked s ReadDrw ws = ws
marked s (WriteTar a) ws = cond (eqb s 8) (a ∷ ws) ws
marked s (WriteDrw w) ws = cond (eqb s 7 && eqb (w % 0x10000) 0xE0B6) (w ∷ ws) ws
marked s (WriteSetup r w) ws = ws

unfoldable pub marks : List Move → List ℕ
marks [] = []
marks (m ∷ ms) = marked m.step m.request (marks ms)

-- 'from the highest macro down to 0', each read 'straight after its lock call', then the level
pub record OrderExamples : Type 0 where
  pub one : marks (program (image_with 1)) ≡ 0x0002E0B6 ∷ 0x0FFFF000 ∷ 0x0FFFF07C ∷ []
  pub two : marks (program (image_with 2)) ≡ 0x0102E0B6 ∷ 0x0FFFF400 ∷ 0x0002E0B6 ∷ 0x0FFFF000 ∷ 0x0FFFF07C ∷ []
  pub three : marks (program (image_with 3)) ≡ 0x0202E0B6 ∷ 0x0FFFF800 ∷ 0x0102E0B6 ∷ 0x0FFFF400 ∷ 0x0002E0B6 ∷ 0x0FFFF000 ∷ 0x0FFFF07C ∷ []
