-- How the target meets a packet: document 01, 'The plain board'. It reads the wire by itself. Assumes nothing.
use Rattle.std.specs.Prelude.{Bool, true, false, ◌&&◌, not, cond, [], ◌∷◌, ℕ, zero, suc, ◌+◌, ◌*◌, ◌-◌, ◌/◌, ◌%◌, eqb, leb, get_or, Option, Some, None}
use Rattle.std.proofs.lemmas.List.Edits.{sets}
use Rattle.flow.specs.Calls.{finish, reset}
use Rattle.flow.specs.Map.{place}
use Rattle.flow.specs.Packets.{is_read}
use Rattle.flow.specs.Target.{Target, CallOutcome, Running, idle, busy, Lists, next_event, next_outcome, rest, set_tar, set_posted, set_params, set_sysarg, set_test_mode, set_sysreq}
use Rattle.flow.specs.declared.Answer.{Answer}
use Rattle.flow.specs.declared.Answer.TheVariants.{ResetDone, Transferred}
use Rattle.flow.specs.declared.Packet as Packets
use Rattle.flow.specs.declared.Packet.{Packet}
use Rattle.flow.specs.declared.Place.{Place}
use Rattle.flow.specs.declared.Place.TheVariants.{InFlash, InLocks, InParams, AtLevel, AtSysreq, AtSysarg, AtTestMode, Elsewhere}
use Rattle.flow.specs.declared.Reply.{Reply}
use Rattle.flow.specs.declared.Request.{Request}
use Rattle.flow.specs.declared.Request.TheVariants.{Xres, LineReset, ReadIdcode, ReadDrw, WriteTar, WriteDrw, WriteSetup}
use Rattle.flow.specs.declared.TransferOutcome.{TransferOutcome}
use Rattle.flow.specs.declared.TransferOutcome.TheVariants.{Clean, Waits, Faults, WrongParity, Silent, Noisy}
use Rattle.lent.specs.Words.{word_at}
use Rattle.parts.specs.declared.Geometry.{Geometry}
use Rattle.wire.specs.Wire.{parity, is_ack}
use Rattle.wire.specs.declared.Ack.TheVariants.{Noise}
use Rattle.wire.specs.declared.Register.TheVariants.{CtrlStat, Select, Csw}

-- ---- the wire, read bit by bit

-- start bit 1, stop bit 0, park bit 1, and the parity bit that of the four bits between
abbrev pub well_formed : (byte : ℕ) → Bool
well_formed r = eqb (r % 2) 1 && eqb (r / 64) 2 && eqb (r / 32 % 2) ((r / 2 % 2 + r / 4 % 2 + r / 8 % 2 + r / 16 % 2) % 2)

-- 004, Table 3-2, by APnDP and the two address bits
abbrev pub read_at : (ap address : ℕ) → Option Request
read_at ap a = cond (eqb ap 0) (cond (eqb a 0) (Some ReadIdcode) None) (cond (eqb a 3) (Some ReadDrw) None)

abbrev pub write_at : (ap address word : ℕ) → Option Request
write_at ap a w =
    cond (eqb ap 0)
    (cond (eqb a 1) (Some (WriteSetup CtrlStat w)) (cond (eqb a 2) (Some (WriteSetup Select w)) None))
    (cond (eqb a 0) (Some (WriteSetup Csw w)) (cond (eqb a 1) (Some (WriteTar w)) (cond (eqb a 3) (Some (WriteDrw w)) None)))

-- RnW is 1 on a read; a write whose parity bit is not its word's is not understood
unfoldable pub decode : Packet → Option Request
decode Packets.TheVariants.Xres = Some Xres
decode Packets.TheVariants.LineReset = Some LineReset
decode (Packets.TheVariants.Read r) = cond (well_formed r && eqb (r / 4 % 2) 1) (read_at (r / 2 % 2) (r / 8 % 4)) None
decode (Packets.TheVariants.Write r w p) =
    cond (well_formed r && eqb (r / 4 % 2) 0 && eqb p (parity w)) (write_at (r / 2 % 2) (r / 8 % 4) w) None

-- ---- transfers

-- the stored level as step 8 reads it, 'with 0 and 1 exchanged'; the other bits are any
abbrev pub level_word_of : (level other : ℕ) → ℕ
level_word_of l o = o / 0x10000000 * 0x10000000 + cond (eqb l 0) 1 (cond (eqb l 1) 0 l) * 0x1000000 + o % 0x1000000

-- a DRW read of SYSREQ posts it busy (bit 31 set), or the call takes effect there
abbrev pub tick : Geometry → (other : ℕ) → Running → Target → Target
tick g o idle b = set_posted b.sysreq b
tick g o (busy (suc n) s r c) b = set_posted (0x80000000 + o % 0x80000000) (set_sysreq b.sysreq (busy n s r c) b)
tick g o (busy zero s r c) b = let t = finish g s r c b in set_posted t.sysreq t

-- 'A DRW read gives the posted word, then posts the word at TAR'
abbrev pub fetch : Geometry → (other : ℕ) → Place → Target → Target
fetch g o (InFlash a) b = set_posted (word_at b.memory.flash a) b
fetch g o (InLocks a) b = set_posted (word_at b.memory.locks a) b
fetch g o (InParams k) b = set_posted (get_or b.params k 0) b
fetch g o AtLevel b = set_posted (level_word_of b.memory.stored o) b
fetch g o AtSysreq b = tick g o b.running b
fetch g o AtSysarg b = set_posted b.sysarg b
fetch g o AtTestMode b = set_posted b.test_mode b
fetch g o Elsewhere b = set_posted o b

-- a write of SYSREQ; bit 31 starts a call
abbrev pub is_call : ℕ → Bool
is_call w = leb 0x80000000 w

abbrev pub begin : Bool → ℕ → CallOutcome → Target → Target
begin false w o b = set_sysreq w b.running b
begin true w o b = set_sysreq w (busy o.busy_reads o.succeeds o.residue (w % 256)) b

abbrev pub store : ℕ → CallOutcome → Place → Target → Target
store w o (InFlash a) b = b
store w o (InLocks a) b = b
store w o (InParams k) b = set_params (sets b.params k (w ∷ [])) b
store w o AtLevel b = b
store w o AtSysreq b = begin (is_call w) w o b
store w o AtSysarg b = set_sysarg w b
store w o AtTestMode b = set_test_mode w b
store w o Elsewhere b = b

-- a transfer carried out
unfoldable pub carry : Geometry → Request → (other : ℕ) → CallOutcome → Target → Target
carry g Xres o c b = b
carry g LineReset o c b = b
carry g ReadIdcode o c b = b
carry g ReadDrw o c b = fetch g o (place g b.tar) b
carry g (WriteTar a) o c b = set_tar a b
carry g (WriteDrw w) o c b = store w c (place g b.tar) b
carry g (WriteSetup r w) o c b = b

-- the word that a read gives
abbrev pub gives : Request → Target → ℕ
gives Xres b = 0
gives LineReset b = 0
gives ReadIdcode b = b.silicon.idcode
gives ReadDrw b = b.posted
gives (WriteTar a) b = 0
gives (WriteDrw w) b = 0
gives (WriteSetup r w) b = 0

-- 'PROTECTED in effect answers FAULT for flash and PARAMS'
abbrev pub guarded : Place → Bool
guarded (InFlash a) = true
guarded (InLocks a) = false
guarded (InParams k) = true
guarded AtLevel = false
guarded AtSysreq = false
guarded AtSysarg = false
guarded AtTestMode = false
guarded Elsewhere = false

abbrev pub over_drw : Request → Bool
over_drw Xres = false
over_drw LineReset = false
over_drw ReadIdcode = false
over_drw ReadDrw = true
over_drw (WriteTar a) = false
over_drw (WriteDrw w) = true
over_drw (WriteSetup r w) = false

unfoldable pub barred : Geometry → Request → Target → Bool
barred g q b = eqb b.effect 2 && over_drw q && guarded (place g b.tar)

-- 'KILL is silent.'
abbrev pub killed : Target → Bool
killed b = eqb b.effect 4

-- a call takes its entry when the write of SYSREQ with bit 31 is carried out
abbrev pub is_sysreq : Place → Bool
is_sysreq (InFlash a) = false
is_sysreq (InLocks a) = false
is_sysreq (InParams k) = false
is_sysreq AtLevel = false
is_sysreq AtSysreq = true
is_sysreq AtSysarg = false
is_sysreq AtTestMode = false
is_sysreq Elsewhere = false

abbrev pub calls_on : Geometry → Request → Target → Bool
calls_on g Xres b = false
calls_on g LineReset b = false
calls_on g ReadIdcode b = false
calls_on g ReadDrw b = false
calls_on g (WriteTar a) b = false
calls_on g (WriteDrw w) b = is_call w && is_sysreq (place g b.tar)
calls_on g (WriteSetup r w) b = false

-- ---- answers

abbrev pub reply_with : (ack : ℕ) → Reply → Reply
reply_with n j = record { ack = n; word = j.word; parity = j.parity }

-- 'Acknowledgement 7 means that nobody drives the wire'
abbrev pub silent_reply : Reply → Reply
silent_reply j = reply_with 7 j

-- the acknowledgement of a noise: any number but 1, 2, 4 and 7
abbrev pub noisy_ack : ℕ → ℕ
noisy_ack n = cond (is_ack Noise n) n 0

abbrev pub noisy_reply : Reply → Reply
noisy_reply j = reply_with (noisy_ack j.ack) j

-- OK: a read's word with its parity; on a write, word and parity are free
abbrev pub okay_reply : (reads : Bool) → (word : ℕ) → Reply → Reply
okay_reply true w j = record { ack = 1; word = w; parity = parity w }
okay_reply false w j = reply_with 1 j

-- wrong parity: on a read any word with the other parity bit; on a write it is an OK
abbrev pub wrong_parity_reply : (reads : Bool) → Reply → Reply
wrong_parity_reply true j = record { ack = 1; word = j.word; parity = 1 - parity j.word }
wrong_parity_reply false j = reply_with 1 j

-- the answer to a transfer that is not silenced by KILL
abbrev pub reply_to : TransferOutcome → (bars : Bool) → (reads : Bool) → (word : ℕ) → Reply → Reply
reply_to Clean bars r w j = cond bars (reply_with 4 j) (okay_reply r w j)
reply_to Waits bars r w j = reply_with 2 j
reply_to Faults bars r w j = reply_with 4 j
reply_to WrongParity bars r w j = cond bars (reply_with 4 j) (wrong_parity_reply r j)
reply_to (Silent c) bars r w j = silent_reply j
reply_to (Noisy c) bars r w j = noisy_reply j

abbrev pub carried_out : TransferOutcome → Bool
carried_out Clean = true
carried_out Waits = false
carried_out Faults = false
carried_out WrongParity = true
carried_out (Silent c) = c
carried_out (Noisy c) = c

-- the target after a packet, its answer, and what is left of the lists
pub record Met : Type 0 where
  pub target : Target
  pub answer : Answer
  pub lists : Lists

abbrev pub met : (through : Bool) → Geometry → Request → Lists → Reply → Target → Met
met false g q l a b = record { target = b; answer = Transferred a; lists = record { line = rest l.line; calls = l.calls } }
met true g q l a b = record {
  target = carry g q (next_event l.line).other (next_outcome l.calls) b;
  answer = Transferred a;
  lists = record { line = rest l.line; calls = cond (calls_on g q b) (rest l.calls) l.calls };
}

unfoldable pub transferred : Geometry → Request → Lists → Target → Met
transferred g q l b =
    let e = next_event l.line in
    met
    (not (killed b) && not (barred g q b) && carried_out e.outcome)
    g q l
    (cond (killed b) (silent_reply e.filler) (reply_to e.outcome (barred g q b) (is_read q) (gives q b) e.filler))
    b

abbrev pub meet_on : Geometry → Option Request → Lists → Target → Met
meet_on g (Some Xres) l b = record { target = reset g b; answer = ResetDone; lists = l }
meet_on g (Some LineReset) l b = record { target = b; answer = ResetDone; lists = l }
meet_on g (Some ReadIdcode) l b = transferred g ReadIdcode l b
meet_on g (Some ReadDrw) l b = transferred g ReadDrw l b
meet_on g (Some (WriteTar a)) l b = transferred g (WriteTar a) l b
meet_on g (Some (WriteDrw w)) l b = transferred g (WriteDrw w) l b
meet_on g (Some (WriteSetup r w)) l b = transferred g (WriteSetup r w) l b
meet_on g None l b =
    record { target = b; answer = Transferred (silent_reply (next_event l.line).filler); lists = record { line = rest l.line; calls = l.calls } }

-- 'The board meets every request once, in order, and nothing else.'
unfoldable pub meet : Geometry → Packet → Lists → Target → Met
meet g p l b = meet_on g (decode p) l b
