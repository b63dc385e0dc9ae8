-- What the words read from the target say: document 01, 'Flow'. Session and monitor ask the same. Assumes nothing.
use Rattle.std.specs.Prelude.{Bool, ◌&&◌, cond, ℕ, ◌+◌, ◌-◌, ◌/◌, ◌%◌, eqb}
use Rattle.image.specs.Checks.{metadata_at}
use Rattle.image.specs.declared.Header.{Header}
use Rattle.parts.specs.Parts.{low_fits}
use Rattle.parts.specs.declared.Geometry.{Geometry}

-- 'bit 31 set'
unfoldable pub test_bit_set : (word : ℕ) → Bool
test_bit_set w = eqb (w / 0x80000000 % 2) 1

-- 'until bits 31 and 28 are 0'
unfoldable pub free : (word : ℕ) → Bool
free w = eqb (w / 0x80000000 % 2) 0 && eqb (w / 0x10000000 % 2) 0

-- 'success is top digit 0xA'
unfoldable pub succeeded : (word : ℕ) → Bool
succeeded w = eqb (w / 0x10000000 % 16) 0xA

-- 'Bits 0 to 7 of SYSARG are low, 8 to 15 high, 16 to 23 revision; SYSREQ bits 0 to 7 family, 12 to 15 level in effect .. High and
-- family equal the image's; low must fit the part'
unfoldable pub ids_fit : Geometry → Header → (sysarg sysreq : ℕ) → Bool
ids_fit g h a q = eqb (a / 256 % 256) (metadata_at h 2) && eqb (q % 256) (metadata_at h 5) && low_fits g.part (a % 256)

abbrev pub level_in : (sysreq : ℕ) → ℕ
level_in q = q / 0x1000 % 16

-- 'top byte of the word .., its low four bits, with 0 and 1 exchanged'
unfoldable pub level_shown : (word : ℕ) → ℕ
level_shown w = cond (eqb (w / 0x1000000 % 16) 0) 1 (cond (eqb (w / 0x1000000 % 16) 1) 0 (w / 0x1000000 % 16))

-- '(this sum - that sum) mod 65536 equals the image's sum'; 'low 28 bits are the privileged sum'
unfoldable pub sums_fit : Header → (this that : ℕ) → Bool
sums_fit h w k = eqb ((w % 0x10000000 + 0x10000000 - k % 0x10000000) % 65536) h.sum
