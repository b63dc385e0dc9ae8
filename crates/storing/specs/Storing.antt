-- What putting a run of bytes into lent bytes, and zeroing them, leaves. Assumes nothing.
use Rattle.std.specs.Prelude.{◌&&◌, cond, List, ◌++◌, ℕ, ◌+◌, leb, length, take, drop, replicate}
use Rattle.std.proofs.lemmas.List.Edits.{sets}

-- n bytes of a row, from `from` on, put into a part at an offset; nothing where the row or the part is too short
unfoldable pub stored_at : (part : List ℕ) (to : ℕ) (row : List ℕ) (from n : ℕ) → List ℕ
stored_at part to row from n = cond (leb (from + n) (length row) && leb (to + n) (length part)) (sets part to (take n (drop from row))) part

-- a list whose first n bytes are zeroed, where it has so many
unfoldable pub cleared : (n : ℕ) → List ℕ → List ℕ
cleared n bytes = cond (leb n (length bytes)) (replicate n 0 ++ drop n bytes) bytes
