-- Document 01, 'Flow', as one list of moves: the requests in order, each with its step and what its answer is judged by.
-- Assumes nothing.
use Rattle.std.specs.Prelude.{List, [], ◌∷◌, ◌++◌, ℕ, zero, suc, ◌+◌, ◌*◌, ◌-◌, ◌/◌}
use Rattle.flow.specs.declared.Entry.{Entry}
use Rattle.flow.specs.declared.Entry.TheVariants.{FromOpen, FromProtected}
use Rattle.flow.specs.declared.Move.{Move}
use Rattle.flow.specs.declared.Purpose.{Purpose}
use Rattle.flow.specs.declared.Purpose.TheVariants.{Sent, Idcode, TestBit, Poll, Status, Keep, EntryLevel, Reopened, FlashWord, LockWord, StoredLevel, LastSum}
use Rattle.flow.specs.declared.Request.{Request}
use Rattle.flow.specs.declared.Request.TheVariants.{Xres, LineReset, ReadIdcode, ReadDrw, WriteTar, WriteDrw, WriteSetup}
use Rattle.image.specs.Image.{Image}
use Rattle.lent.specs.Words.{words_at}
use Rattle.parts.specs.Sizes.{row_bytes_of, macros_of, rows_per_macro_of, rows_of, locks_in, sysreq_of, sysarg_of, PARAMS, TEST-MODE, locks_at, level_at, imo_of, lock_start}
use Rattle.parts.specs.declared.Geometry.{Geometry}
use Rattle.wire.specs.declared.Register.TheVariants.{CtrlStat, Select, Csw}

abbrev pub move : (step : ℕ) → Request → Purpose → Move
move s q u = record { step = s; request = q; purpose = u }

-- 'Key word k for command c: 0xB6 + (0xD3 + c) × 256.'
abbrev pub key : (c : ℕ) → ℕ
key c = 0xB6 + (0xD3 + c) * 256

-- 'Write = TAR, DRW (2 transfers).'
unfoldable pub write : (step address word : ℕ) → List Move
write s a w = move s (WriteTar a) Sent ∷ move s (WriteDrw w) Sent ∷ []

-- 'Read = TAR, DRW, DRW (3; the last word counts, 004 section 4.2).'
unfoldable pub read : (step address : ℕ) → Purpose → List Move
read s a u = move s (WriteTar a) Sent ∷ move s ReadDrw Sent ∷ move s ReadDrw u ∷ []

-- 'Poll = Read SYSREQ until bits 31 and 28 are 0.'
abbrev pub poll : Geometry → (step : ℕ) → List Move
poll g s = read s (sysreq_of g) Poll

-- 'Call c = Write SYSARG, Write SYSREQ with 0x80000000 + c, Poll, Read SYSARG; success is top digit 0xA.'
unfoldable pub call : Geometry → (step c word : ℕ) → List Move
call g s c w = write s (sysarg_of g) w ++ (write s (sysreq_of g) (0x80000000 + c) ++ (poll g s ++ read s (sysarg_of g) Status))

-- words from an address on
unfoldable pub writes : (step address : ℕ) → List ℕ → List Move
writes s a [] = []
writes s a (w ∷ ws) = write s a w ++ writes s (a + 4) ws

-- 'A listed call writes its words from PARAMS on and gives PARAMS as SYSARG; otherwise SYSARG is the word.'
unfoldable pub listed : Geometry → (step c : ℕ) → List ℕ → List Move
listed g s c ws = writes s PARAMS ws ++ call g s c PARAMS

-- n pieces one after another, the first for k
unfoldable pub in_turn : (ℕ → List Move) → (k n : ℕ) → List Move
in_turn f k zero = []
in_turn f k (suc n) = f k ++ in_turn f (suc k) n

-- 'if IMO, call 0x15 with k'
unfoldable pub imo_call : Geometry → (imo : ℕ) → List Move
imo_call g zero = []
imo_call g (suc n) = call g 1 0x15 (key 0x15)

-- '1. Acquire: XRES; up to 30 attempts of line reset and read IDCODE, until OK with right parity; IDCODE 0x0BB11477; write
-- CTRL/STAT 0x54000000, SELECT 0, CSW 2; Write TEST_MODE 0x80000000, Read it, bit 31 set; Poll; if IMO, call 0x15 with k.'
unfoldable pub acquire : Geometry → List Move
acquire g =
    move 1 Xres Sent
    ∷ move 1 LineReset Sent
    ∷ move 1 ReadIdcode Idcode
    ∷ move 1 (WriteSetup CtrlStat 0x54000000) Sent
    ∷ move 1 (WriteSetup Select 0) Sent
    ∷ move 1 (WriteSetup Csw 2) Sent
    ∷ (write 1 TEST-MODE 0x80000000 ++ (read 1 TEST-MODE TestBit ++ (poll g 1 ++ imo_call g (imo_of g))))

-- '2. Silicon ID: call 0 with k; Read SYSARG, SYSREQ.'; the level is judged for the entry first, and after reopening
unfoldable pub silicon : Geometry → Purpose → List Move
silicon g u = call g 2 0 (key 0) ++ (read 2 (sysarg_of g) Keep ++ read 2 (sysreq_of g) u)

-- '4. Call 0x0B with k + 0x80000000, Read SYSARG; its low 28 bits are the privileged sum.'
unfoldable pub privileged : Geometry → (step : ℕ) → Purpose → List Move
privileged g s u = call g s 0x0B (key 0x0B + 0x80000000) ++ read s (sysarg_of g) u

-- 'list k + macro × 2^24, L - 1, then the row's words': n bytes from offset o on; 'Words have the low byte first.'
abbrev pub latch_list : (m n : ℕ) → List ℕ → (o : ℕ) → List ℕ
latch_list m n bytes o = (key 4 + m * 0x1000000) ∷ (n - 1) ∷ words_at bytes o (n / 4)

-- '5. For rows 0 to N - 1, macro being row / rows per macro rounded down: listed call 4 ..; listed call 6, list k + row × 2^16.
-- The row's bytes start at row × L in the image.'
unfoldable pub program_row : Image → (row : ℕ) → List Move
program_row i r =
    let g = i.geometry in
    listed g 5 4 (latch_list (r / rows_per_macro_of g) (row_bytes_of g) i.flash (r * row_bytes_of g)) ++ listed g 5 6 ((key 6 + r * 0x10000) ∷ [])

-- word j from an address on, read and compared as u says of its offset; then n of them
abbrev pub compare_word : (step address : ℕ) → (ℕ → Purpose) → (j : ℕ) → List Move
compare_word s a u j = read s (a + 4 * j) (u (4 * j))

abbrev pub compare_words : (step address : ℕ) → (ℕ → Purpose) → (n : ℕ) → List Move
compare_words s a u n = in_turn (compare_word s a u) 0 n

-- '6. Read every flash word from address 0, comparing each as read.': row by row, a row's words from row × L on
unfoldable pub verify_row : Geometry → (row : ℕ) → List Move
verify_row g r = compare_words 6 (r * row_bytes_of g) (FlashWord r) (row_bytes_of g / 4)

-- '7. For macros .. : listed call 4, list k + macro × 2^24, PB - 1, the macro's protection bytes; call 0x0D with
-- k + level × 2^16 + macro × 2^24.'
unfoldable pub lock_macro : Image → (m : ℕ) → List Move
lock_macro i m =
    let g = i.geometry in
    listed g 7 4 (latch_list m (locks_in g m) i.protection (lock_start g m)) ++ call g 7 0x0D (key 0x0D + i.header.level * 0x10000 + m * 0x1000000)

-- '8. Read each macro's locks, comparing likewise'
unfoldable pub verify_macro : Geometry → (m : ℕ) → List Move
verify_macro g m = compare_words 8 (locks_at g m) (LockWord m) (locks_in g m / 4)

-- document 02, One: 'Step 7 now goes from the highest macro down to 0'; the k-th of them
abbrev pub macro_down : Geometry → (k : ℕ) → ℕ
macro_down g k = macros_of g - suc k

-- 'and step 8 for each higher macro is done straight after its lock call'; macro 0's follows its own in the same way
abbrev pub lock_and_verify : Image → (m : ℕ) → List Move
lock_and_verify i m = lock_macro i m ++ verify_macro i.geometry m

-- steps 4 to 9; '9. As 4; (this sum - that sum) mod 65536 equals the image's sum.'
unfoldable pub program : Image → List Move
program i =
    let g = i.geometry in
    privileged g 4 Keep
    ++ (in_turn (program_row i) 0 (rows_of g)
    ++ (in_turn (verify_row g) 0 (rows_of g)
    ++ (in_turn (λ k. lock_and_verify i (macro_down g k)) 0 (macros_of g)
    ++ (read 8 (level_at g) StoredLevel
    ++ privileged g 9 LastSum))))

-- steps 1 and 2, after which the entry is known
unfoldable pub opening : Image → List Move
opening i = acquire i.geometry ++ silicon i.geometry EntryLevel

-- '3. OPEN: listed call 0x0A, list k. PROTECTED: call 0x0D with k + 0x10000, then 1 and 2 again, where the level must be OPEN.'
unfoldable pub afterwards : Image → Entry → List Move
afterwards i FromOpen = listed i.geometry 3 0x0A (key 0x0A ∷ []) ++ program i
afterwards i FromProtected =
    call i.geometry 3 0x0D (key 0x0D + 0x10000) ++ (acquire i.geometry ++ (silicon i.geometry Reopened ++ program i))

-- the whole flow; until step 2 has found the level, both entries have the same moves
unfoldable pub sequence : Image → Entry → List Move
sequence i y = opening i ++ afterwards i y

-- past the end: no session stands there
abbrev pub end_move : Move
end_move = move 9 Xres Sent
