-- SWD packets: document 01, 'Wire', by Arm's rule (Arm Debug Interface v5). Assumes nothing.
use Rattle.std.specs.Prelude.{Bool, ◌||◌, not, cond, List, [], ◌∷◌, ◌++◌, ℕ, ◌+◌, ◌*◌, ◌/◌, ◌%◌, eqb}
use Rattle.std.specs.Int.Count.{ones}
use Rattle.wire.specs.declared.Access.{Access}
use Rattle.wire.specs.declared.Access.TheVariants.{Read, Write}
use Rattle.wire.specs.declared.Ack.{Ack}
use Rattle.wire.specs.declared.Ack.TheVariants.{Okay, Wait, Fault, Silence, Noise}
use Rattle.wire.specs.declared.Register.{Register}
use Rattle.wire.specs.declared.Register.TheVariants.{Idcode, Abort, CtrlStat, Select, Csw, Tar, Drw}

-- 'The parity bit is 1 when the word has an odd number of ones.'
abbrev pub parity : ℕ → ℕ
parity w = ones w % 2

-- 'Registers are in 004, Table 3-2': its columns APnDP and Address
abbrev pub apndp : Register → ℕ
apndp Idcode = 0
apndp Abort = 0
apndp CtrlStat = 0
apndp Select = 0
apndp Csw = 1
apndp Tar = 1
apndp Drw = 1

abbrev pub address : Register → ℕ
address Idcode = 0
address Abort = 0
address CtrlStat = 1
address Select = 2
address Csw = 0
address Tar = 1
address Drw = 3

-- RnW: 1 is a read
abbrev pub rnw : Access → ℕ
rnw Read = 1
rnw Write = 0

-- the number of a row of bits, bit 0 first
abbrev pub from_bits : List ℕ → ℕ
from_bits [] = 0
from_bits (b ∷ bs) = b + 2 * from_bits bs

-- 'APnDP, RnW, two address bits (low first)'
abbrev pub four_bits : Register → Access → List ℕ
four_bits r a = apndp r ∷ rnw a ∷ address r % 2 ∷ address r / 2 ∷ []

-- 'Request byte, bit 0 first: 1, APnDP, RnW, two address bits (low first), even parity of those four, 0, 1.'
abbrev pub request_byte : Register → Access → ℕ
request_byte r a = from_bits (1 ∷ (four_bits r a ++ (parity (from_bits (four_bits r a)) ∷ 0 ∷ 1 ∷ [])))

-- 'Acknowledgement 1 is OK, 2 WAIT, 4 FAULT, all others silence.'; document 02, Five: 'Acknowledgement 7 means that nobody drives the
-- wire, and the others that we call silence mean noise.'
abbrev pub ack_of : ℕ → Ack
ack_of n = cond (eqb n 1) Okay (cond (eqb n 2) Wait (cond (eqb n 4) Fault (cond (eqb n 7) Silence Noise)))

-- the numbers that each case of an acknowledgement stands for
abbrev pub is_ack : Ack → ℕ → Bool
is_ack Okay n = eqb n 1
is_ack Wait n = eqb n 2
is_ack Fault n = eqb n 4
is_ack Silence n = eqb n 7
is_ack Noise n = not (eqb n 1 || eqb n 2 || eqb n 4 || eqb n 7)
