-- Document 01, 'Parts': sizes and addresses of a part with M macros in use. Every size above is one of these. Assumes nothing.
use Rattle.std.specs.Prelude.{ℕ, zero, suc, ◌+◌, ◌*◌, ◌/◌}
use Rattle.parts.specs.declared.Geometry.{Geometry}

-- 'L is bytes per row, M macros used'
abbrev pub row_bytes_of : Geometry → ℕ
row_bytes_of g = g.part.row_bytes

abbrev pub macros_of : Geometry → ℕ
macros_of g = g.macros

abbrev pub rows_per_macro_of : Geometry → ℕ
rows_per_macro_of g = g.part.rows_per_macro

-- 'N = M × rows per macro'
unfoldable pub rows_of : Geometry → ℕ
rows_of g = macros_of g * rows_per_macro_of g

-- 'PB = rows per macro / 8': the lock bytes of macro m
unfoldable pub locks_in : Geometry → (m : ℕ) → ℕ
locks_in g m = rows_per_macro_of g / 8

-- where macro m's bytes start among the protection bytes: past those of the macros below it
unfoldable pub lock_start : Geometry → (m : ℕ) → ℕ
lock_start g zero = 0
lock_start g (suc m) = lock_start g m + locks_in g m

-- 'The protection bytes (N / 8) follow the flash bytes (N × L) in it.'
unfoldable pub flash_size : Geometry → ℕ
flash_size g = rows_of g * row_bytes_of g

unfoldable pub lock_total : Geometry → ℕ
lock_total g = rows_of g / 8

unfoldable pub image_size : Geometry → ℕ
image_size g = flash_size g + lock_total g

-- 'SYSARG is SYSREQ + 4. PARAMS is 0x20000100, TEST_MODE 0x40030014.'
abbrev pub sysreq_of : Geometry → ℕ
sysreq_of g = g.part.sysreq

abbrev pub sysarg_of : Geometry → ℕ
sysarg_of g = sysreq_of g + 4

abbrev pub PARAMS : ℕ
PARAMS = 0x20000100

abbrev pub TEST-MODE : ℕ
TEST-MODE = 0x40030014

-- 'Macro m's locks start at 0x0FFFF000 + m × 0x400.'
abbrev pub locks_at : Geometry → (m : ℕ) → ℕ
locks_at g m = g.part.locks + m * g.part.locks_step

-- the word that step 8 reads the stored level from
abbrev pub level_at : Geometry → ℕ
level_at g = g.part.level_word

-- 'if IMO': 1 where step 1 has call 0x15, else 0
abbrev pub imo_of : Geometry → ℕ
imo_of g = g.part.imo
