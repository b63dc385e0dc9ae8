-- What goes over the wire for each request, and how an answer reads: document 01, 'Wire'. Assumes nothing.
use Rattle.std.specs.Prelude.{Bool, true, false, ◌&&◌, not, cond, ℕ, eqb}
use Rattle.flow.specs.declared.Answer.{Answer}
use Rattle.flow.specs.declared.Answer.TheVariants.{ResetDone, Transferred}
use Rattle.flow.specs.declared.Packet as Packets
use Rattle.flow.specs.declared.Packet.{Packet}
use Rattle.flow.specs.declared.Reply.{Reply}
use Rattle.flow.specs.declared.Request.{Request}
use Rattle.flow.specs.declared.Request.TheVariants.{Xres, LineReset, ReadIdcode, ReadDrw, WriteTar, WriteDrw, WriteSetup}
use Rattle.wire.specs.Wire.{parity, request_byte, ack_of}
use Rattle.wire.specs.declared.Access as Accesses
use Rattle.wire.specs.declared.Ack.{Ack}
use Rattle.wire.specs.declared.Ack.TheVariants.{Okay, Wait, Fault, Silence, Noise}
use Rattle.wire.specs.declared.Register.{Register}
use Rattle.wire.specs.declared.Register.TheVariants.{Idcode, Tar, Drw}

abbrev pub read_packet : Register → Packet
read_packet r = Packets.TheVariants.Read (request_byte r Accesses.TheVariants.Read)

abbrev pub write_packet : Register → ℕ → Packet
write_packet r w = Packets.TheVariants.Write (request_byte r Accesses.TheVariants.Write) w (parity w)

-- a read's request byte; a write's request byte, word and parity bit
abbrev pub packet_of : Request → Packet
packet_of Xres = Packets.TheVariants.Xres
packet_of LineReset = Packets.TheVariants.LineReset
packet_of ReadIdcode = read_packet Idcode
packet_of ReadDrw = read_packet Drw
packet_of (WriteTar w) = write_packet Tar w
packet_of (WriteDrw w) = write_packet Drw w
packet_of (WriteSetup r w) = write_packet r w

-- the byte and the word of a packet
abbrev pub byte_in : Packet → ℕ
byte_in Packets.TheVariants.Xres = 0
byte_in Packets.TheVariants.LineReset = 0
byte_in (Packets.TheVariants.Read r) = r
byte_in (Packets.TheVariants.Write r w p) = r

abbrev pub word_in : Packet → ℕ
word_in Packets.TheVariants.Xres = 0
word_in Packets.TheVariants.LineReset = 0
word_in (Packets.TheVariants.Read r) = 0
word_in (Packets.TheVariants.Write r w p) = w

-- whether two requests for transfers are the same on the wire
abbrev pub same_request : Request → Request → Bool
same_request q q' = eqb (byte_in (packet_of q)) (byte_in (packet_of q')) && eqb (word_in (packet_of q)) (word_in (packet_of q'))

abbrev pub is_read : Request → Bool
is_read Xres = false
is_read LineReset = false
is_read ReadIdcode = true
is_read ReadDrw = true
is_read (WriteTar w) = false
is_read (WriteDrw w) = false
is_read (WriteSetup r w) = false

-- 'the reads and writes handed out, repeats included, resets not': a reset is no transfer
abbrev pub is_reset : Request → Bool
is_reset Xres = true
is_reset LineReset = true
is_reset ReadIdcode = false
is_reset ReadDrw = false
is_reset (WriteTar w) = false
is_reset (WriteDrw w) = false
is_reset (WriteSetup r w) = false

-- 'attempts of line reset and read IDCODE'
abbrev pub is_attempt : Request → Bool
is_attempt Xres = false
is_attempt LineReset = false
is_attempt ReadIdcode = true
is_attempt ReadDrw = false
is_attempt (WriteTar w) = false
is_attempt (WriteDrw w) = false
is_attempt (WriteSetup r w) = false

-- '14 reset answered by an acknowledgement or the reverse'
abbrev pub answers : Request → Answer → Bool
answers q ResetDone = is_reset q
answers q (Transferred r) = not (is_reset q)

-- what an answer says: OK with this word; WAIT; or the number that a FAULT, a silence, a noise or a wrong parity has
pub data Verdict : Type 0 where
  okay : (word : ℕ) → Verdict
  again : Verdict
  broken : (number : ℕ) → Verdict

-- 'Word and parity matter only on a read answered OK, the stale one included.'; document 02, Five: '33, an acknowledgement other than 1,
-- 2, 4 and 7, a report, checked where 29 is; 29 is left with 7'
unfoldable pub heard : (reads : Bool) → Ack → (word parity_bit : ℕ) → Verdict
heard false Okay w p = okay 0
heard true Okay w p = cond (eqb p (parity w)) (okay w) (broken 30)
heard r Wait w p = again
heard r Fault w p = broken 28
heard r Silence w p = broken 29
heard r Noise w p = broken 33

-- a reset's answer says nothing: nobody drives the wire
abbrev pub reply_in : Answer → Reply
reply_in ResetDone = record { ack = 7; word = 0; parity = 0 }
reply_in (Transferred r) = r

unfoldable pub verdict : Request → Answer → Verdict
verdict q a = heard (is_read q) (ack_of (reply_in a).ack) (reply_in a).word (reply_in a).parity
