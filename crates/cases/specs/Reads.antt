-- What reading takes from an input, on an error too. Assumes nothing.
use Rattle.std.specs.Prelude.{Option, List, ℕ, ◌≤◌, length, take}
use Rattle.std.specs.Io.KnownBytes.{Consumes}

-- an input with known bytes lost none but those that stand at the buffer's start
abbrev pub ReadBefore : (old new : Option (List ℕ)) → (buffer : List ℕ) → Type 0
ReadBefore old new buffer = (n : ℕ) × (n ≤ length buffer) × Consumes old new (take n buffer)

-- an input with known bytes lost n of them at most
abbrev pub TakesAtMost : (n : ℕ) → (old new : Option (List ℕ)) → Type 0
TakesAtMost n old new = (bytes : List ℕ) × (length bytes ≤ n) × Consumes old new bytes
