-- An image's header as 17 bytes. Assumes nothing.
use Rattle.std.specs.Prelude.{cond, List, [], ◌∷◌, ◌++◌, ℕ, ◌+◌, ◌*◌, ◌/◌, ◌%◌, leb, length, get_or, take, drop}
use Rattle.image.specs.Image.{no_header}
use Rattle.image.specs.declared.Header.{Header}

-- part at 0, macros at 1, sum at 2, metadata at 4, level at 16
unfoldable pub header_bytes : Header → List ℕ
header_bytes h = h.part ∷ h.macros ∷ h.sum % 256 ∷ h.sum / 256 ∷ (h.metadata ++ (h.level ∷ []))

-- the header that bytes hold from their start on
unfoldable pub header_in : List ℕ → Header
header_in bs = record {
  part = get_or bs 0 0;
  macros = get_or bs 1 0;
  sum = get_or bs 2 0 + 256 * get_or bs 3 0;
  metadata = take 12 (drop 4 bs);
  level = get_or bs 16 0;
}

-- the same, and all 0 where the bytes are too few for one
abbrev pub header_found : List ℕ → Header
header_found bs = cond (leb 17 (length bs)) (header_in bs) no_header
