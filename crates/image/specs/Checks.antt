-- Checks 6 to 10 of an image, after 11 and 12: document 01, 'Who brings a number about'. Assumes nothing.
use Rattle.std.specs.Prelude.{Bool, ◌||◌, not, List, [], ◌∷◌, ℕ, ◌+◌, ◌*◌, ◌%◌, eqb, length, get_or, Ok, Err}
use Rattle.image.specs.Image.{flash_in}
use Rattle.image.specs.Refusals.{Check, ◌unless◌, first_refusal}
use Rattle.image.specs.declared.Header.{Header}
use Rattle.lent.specs.Words.{total}
use Rattle.parts.specs.Parts.{Lookup, lookup_of, id_fits}
use Rattle.parts.specs.Sizes.{row_bytes_of, rows_of, image_size}
use Rattle.parts.specs.declared.Geometry.{Geometry}
use Rattle.refusals.specs.Refusals.{refusal_number}
use Rattle.rows.specs.Cancels.{some_cancels}

-- 'Metadata: version 2 (high byte first), ID hi, lo, revision, family, six bytes kept unread.'
abbrev pub metadata_at : Header → ℕ → ℕ
metadata_at h k = get_or h.metadata k 0

-- 6 'version'
abbrev pub version_fits : Header → Bool
version_fits h = eqb (256 * metadata_at h 0 + metadata_at h 1) 2

-- 7 'image ID not the part's'
abbrev pub image_id_fits : Geometry → Header → Bool
image_id_fits g h = id_fits g.part (metadata_at h 2) (metadata_at h 3) (metadata_at h 5)

-- 8 'level not 1, 2, 4'
abbrev pub level_fits : ℕ → Bool
level_fits l = eqb l 1 || eqb l 2 || eqb l 4

-- 9 'flash sum'
abbrev pub sum_fits : Geometry → Header → List ℕ → Bool
sum_fits g h bytes = eqb (total (flash_in g bytes) % 65536) h.sum

-- '6 to 10', in that order
abbrev pub content_checks : Geometry → Header → List ℕ → List Check
content_checks g h bytes =
    6 unless version_fits h
    ∷ 7 unless image_id_fits g h
    ∷ 8 unless level_fits h.level
    ∷ 9 unless sum_fits g h bytes
    ∷ 10 unless not (some_cancels (row_bytes_of g) (rows_of g) bytes)
    ∷ []

-- 'Writing and starting check 11, 12, 6 to 10'; 12 is 'an image lent for reading not of exact size'
abbrev pub fault_in : Lookup → Header → List ℕ → ℕ
fault_in (Err r) h bytes = refusal_number r
fault_in (Ok g) h bytes = first_refusal (12 unless eqb (length bytes) (image_size g) ∷ content_checks g h bytes)

abbrev pub image_fault : Header → List ℕ → ℕ
image_fault h bytes = fault_in (lookup_of h.part h.macros) h bytes
