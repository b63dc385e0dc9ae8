-- FNV-1a with 64 bits, by which tests/vectors/README.md tells buffers apart. Assumes nothing.
use Rattle.std.specs.Prelude.{ℕ, ◌*◌, ◌%◌, ◌^◌, List, [], ◌∷◌, bit_xor}

-- one byte more: 'exclusive or, then times the factor 0x100000001B3'
unfoldable pub fnv_step : ℕ → ℕ → ℕ
fnv_step h b = bit_xor h b * 0x100000001B3 % 2 ^ 64

unfoldable pub fnv_from : ℕ → List ℕ → ℕ
fnv_from h [] = h
fnv_from h (b ∷ bs) = fnv_from (fnv_step h b) bs

-- 'start 0xCBF29CE484222325'
abbrev pub fnv : List ℕ → ℕ
fnv bs = fnv_from 0xCBF29CE484222325 bs
