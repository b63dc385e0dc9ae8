-- What a call does to the target: document 01, 'The plain board'. Assumes nothing.
use Rattle.std.specs.Prelude.{Bool, true, false, ◌&&◌, ◌||◌, cond, List, [], ◌∷◌, ◌++◌, ℕ, ◌+◌, ◌*◌, ◌/◌, ◌%◌, eqb, length, get_or, take, drop, replicate}
use Rattle.std.proofs.lemmas.List.Edits.{sets}
use Rattle.flow.specs.Target.{Memory, Residue, Target, Running, idle, busy, sized, with_flash, with_locks, with_latch, with_level, set_ended, set_reset}
use Rattle.flow.specs.declared.Silicon.{Silicon}
use Rattle.lent.specs.Words.{total, low_first}
use Rattle.parts.specs.Sizes.{row_bytes_of, locks_in, PARAMS, lock_start}
use Rattle.parts.specs.declared.Geometry.{Geometry}

-- 'Words have the low byte first.'
unfoldable pub bytes_in : List ℕ → List ℕ
bytes_in [] = []
bytes_in (w ∷ ws) = low_first 4 w ++ bytes_in ws

-- '0x0A zeroes flash and locks.'
abbrev pub zeroed : (stored : ℕ) → Memory → Memory
zeroed l m = with_flash (replicate (length m.flash) 0) (with_locks (replicate (length m.locks) 0) (with_level l m))

-- `sets l o x` has x over l from o on, and l's size: what would go past its end is not stored

-- '4 fills the latch from byte 0, keeping the rest.'
abbrev pub fill_latch : List ℕ → Memory → Memory
fill_latch ps m = with_latch (sets m.latch 0 (take (get_or ps 1 0 + 1) (bytes_in (drop 2 ps)))) m

-- '6 makes the row the latch.'
abbrev pub program_latch : Geometry → List ℕ → Memory → Memory
program_latch g ps m = with_flash (sets m.flash (get_or ps 0 0 / 0x10000 * row_bytes_of g) m.latch) m

-- the level and the macro that 0x0D is given
abbrev pub level_sent : ℕ → ℕ
level_sent arg = arg / 0x10000 % 16

abbrev pub macro_sent : ℕ → ℕ
macro_sent arg = arg / 0x1000000

-- '0x0D makes the macro's locks the latch's first PB bytes and, on macro 0 only, stores the level'
abbrev pub protect : Geometry → (level macro : ℕ) → Memory → Memory
protect g l n m =
    with_locks (sets m.locks (lock_start g n) (take (locks_in g n) m.latch)) (with_level (cond (eqb n 0) l m.stored) m)

-- call c with the level in effect, the word in SYSARG and the words of its list; other calls succeed without effect;
-- 'with PROTECTED in effect and OPEN sent it instead zeroes flash and locks and stores OPEN'
unfoldable pub effect_of : Geometry → (c effect arg : ℕ) → List ℕ → Memory → Memory
effect_of g c l arg ps m =
    cond (eqb c 0x0A) (zeroed m.stored m)
    (cond (eqb c 4) (fill_latch ps m)
    (cond (eqb c 6) (program_latch g ps m)
    (cond (eqb c 0x0D) (cond (eqb l 2 && eqb (level_sent arg) 1) (zeroed 1 m) (protect g (level_sent arg) (macro_sent arg) m)) m)))

-- 'Successful calls put 0xA0000000 in SYSARG and 0 in SYSREQ, save that 0 puts in IDs and level as step 2 reads them and 0x0B
-- adds (S + all flash bytes) mod 2^28.'
unfoldable pub sysarg_after : (c : ℕ) → Silicon → Memory → ℕ
sysarg_after c x m =
    cond (eqb c 0) (0xA0000000 + x.revision * 0x10000 + x.high * 0x100 + x.low)
    (cond (eqb c 0x0B) (0xA0000000 + (x.privileged_sum + total m.flash) % 0x10000000) 0xA0000000)

unfoldable pub sysreq_after : (c : ℕ) → Silicon → (effect : ℕ) → ℕ
sysreq_after c x l = cond (eqb c 0) (l * 0x1000 + x.family) 0

-- 'A failed call leaves 0 in SYSREQ, a SYSARG of another top digit'
abbrev pub failed_arg : ℕ → ℕ
failed_arg w = cond (eqb (w / 0x10000000 % 16) 0xA) 0 w

-- 'and, unless it is 0, 0x0B or 0x15, any flash, locks and latch; a failed 0x0D on macro 0 stores the old level or the one sent'
unfoldable pub after_failure : (c arg : ℕ) → Residue → Memory → Memory
after_failure c arg r m =
    cond (eqb c 0 || eqb c 0x0B || eqb c 0x15) m
    (with_flash (sized m.flash r.flash)
    (with_locks (sized m.locks r.locks)
    (with_latch (sized m.latch r.latch)
    (with_level (cond (r.new_level && eqb c 0x0D && eqb (macro_sent arg) 0) (level_sent arg) m.stored) m))))

-- the list of a call whose SYSARG is PARAMS
abbrev pub list_at : (sysarg : ℕ) → List ℕ → List ℕ
list_at a ps = cond (eqb a PARAMS) ps []

-- a call's end
unfoldable pub finish : Geometry → (succeeds : Bool) → Residue → (c : ℕ) → Target → Target
finish g true r c b =
    set_ended
    (effect_of g c b.effect b.sysarg (list_at b.sysarg b.params) b.memory)
    (sysarg_after c b.silicon b.memory)
    (sysreq_after c b.silicon b.effect)
    b
finish g false r c b = set_ended (after_failure c b.sysarg r b.memory) (failed_arg r.sysarg) 0 b

-- 'XRES puts the stored level in effect, clears SYSREQ and drops a running call as failed.'
abbrev pub dropped : Geometry → Running → Target → Target
dropped g idle b = b
dropped g (busy n s r c) b = finish g false r c b

unfoldable pub reset : Geometry → Target → Target
reset g b = set_reset (dropped g b.running b)
