-- An image that was read, as `settle` leaves it: in every format. Assumes nothing.
use Rattle.std.specs.Prelude.{cond, List, ℕ, eqb, length}
use Rattle.image.specs.Checks.{image_fault}
use Rattle.sections.specs.Sections.{header_of}
use Rattle.text.specs.Reading.{Reading, Cleared, Taken}

-- an image that was read, checked: taken, or the whole of it cleared
unfoldable pub settled : (part macros : ℕ) (header image : List ℕ) → Reading
settled part macros header image =
    cond (eqb (image_fault (header_of part macros header) image) 0) (Taken (header_of part macros header) image)
    (Cleared (image_fault (header_of part macros header) image) (length image))
