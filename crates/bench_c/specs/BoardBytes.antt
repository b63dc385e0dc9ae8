-- The bench board and what is handed in with a packet, as bytes. Assumes nothing.
use Rattle.std.specs.Prelude.{Bool, true, false, ◌&&◌, cond, List, [], ◌∷◌, ◌++◌, ◌≡◌, ℕ, ◌+◌, ◌*◌, eqb, leb, get_or, Option, None, Some}
use Rattle.std.proofs.lemmas.List.Edits.{sets}
use Rattle.bench_calls.specs.Board.{Buffers, ResidueBytes, running_of, target_of}
use Rattle.bench_calls.specs.declared.Call.{Call}
use Rattle.bench_calls.specs.declared.CallOutcome.{CallOutcome}
use Rattle.flow.specs.declared.LineEvent.{LineEvent}
use Rattle.flow.specs.declared.TransferOutcome.{TransferOutcome}
use Rattle.flow.specs.declared.TransferOutcome.TheVariants.{Clean, Waits, Faults, WrongParity, Silent, Noisy}
use Rattle.bench_calls.specs.declared.Registers.{Registers}
use Rattle.flow.specs.Target as Flow
use Rattle.flow.specs.Target.{Target, Lists, idle, busy}
use Rattle.flow.specs.declared.Answer.{Answer}
use Rattle.flow.specs.declared.Answer.TheVariants.{ResetDone, Transferred}
use Rattle.flow.specs.declared.Packet.{Packet}
use Rattle.flow.specs.declared.Packet.TheVariants.{Xres, LineReset, Read, Write}
use Rattle.flow.specs.declared.Silicon.{Silicon}
use Rattle.lent.specs.Words.{word_at, low_first}
use Rattle.layout.specs.Bytes.{flag_byte}

-- ---- found in bytes

-- how a call will go, from k on: busy reads at 0, succeeds at 4, SYSARG that a failure leaves at 5, new level stored by a failed 0x0D at 9
abbrev pub call_outcome_at : List ℕ → (k : ℕ) → CallOutcome
call_outcome_at bs k = record {
  busy_reads = word_at bs k;
  succeeds = eqb (get_or bs (k + 4) 0) 1;
  sysarg = word_at bs (k + 5);
  new_level = eqb (get_or bs (k + 9) 0) 1;
}

abbrev pub is_call_outcome : List ℕ → (k : ℕ) → Bool
is_call_outcome bs k = leb (get_or bs (k + 4) 0) 1 && leb (get_or bs (k + 9) 0) 1

-- idcode at 0, high at 4, low at 5, revision at 6, family at 7, privileged sum at 8
abbrev pub silicon_in : List ℕ → Silicon
silicon_in bs = record {
  idcode = word_at bs 0;
  high = get_or bs 4 0;
  low = get_or bs 5 0;
  revision = get_or bs 6 0;
  family = get_or bs 7 0;
  privileged_sum = word_at bs 8;
}

-- 0 idle, 1 busy at 34; how the call will go at 35, its number at 45
abbrev pub running_in : List ℕ → Option Call
running_in bs = cond (eqb (get_or bs 34 0) 0) None (Some (record { outcome = call_outcome_at bs 35; number = get_or bs 45 0 }))

-- stored level at 12, level in effect at 13, SYSARG at 14, SYSREQ at 18, TEST_MODE at 22, TAR at 26, posted word at 30
unfoldable pub registers_in : List ℕ → Registers
registers_in bs = record {
  silicon = silicon_in bs;
  stored = get_or bs 12 0;
  effect = get_or bs 13 0;
  sysarg = word_at bs 14;
  sysreq = word_at bs 18;
  test_mode = word_at bs 22;
  tar = word_at bs 26;
  posted = word_at bs 30;
  running = running_in bs;
}

-- what follows an idle board's byte 34 is not looked at
abbrev pub is_board : List ℕ → Bool
is_board bs = cond (eqb (get_or bs 34 0) 0) true (cond (eqb (get_or bs 34 0) 1) (is_call_outcome bs 35) false)

-- 0 OK, 1 WAIT, 2 FAULT, 3 wrong parity, 4 silence not carried out, 5 silence carried out, 6 noise not carried out, 7 noise carried out
abbrev pub transfer_outcome_in : ℕ → TransferOutcome
transfer_outcome_in n =
    cond (eqb n 0) Clean
    (cond (eqb n 1) Waits
    (cond (eqb n 2) Faults
    (cond (eqb n 3) WrongParity (cond (leb n 5) (Silent (eqb n 5)) (Noisy (eqb n 7))))))

-- its outcome at 0; what is free in the answer: acknowledgement at 1, word at 2, parity bit at 6; the word elsewhere at 7
abbrev pub event_in : List ℕ → LineEvent
event_in bs = record { outcome = transfer_outcome_in (get_or bs 0 0); filler = record { ack = get_or bs 1 0; word = word_at bs 2; parity = get_or bs 6 0 }; other = word_at bs 7 }

abbrev pub is_event : List ℕ → Bool
is_event bs = leb (get_or bs 0 0) 7

-- the packet in an outcome's bytes: 1 XRES, 2 line reset, 3 read, 4 write
abbrev pub packet_in : List ℕ → Packet
packet_in bs =
    cond (eqb (get_or bs 0 0) 1) Xres
    (cond (eqb (get_or bs 0 0) 2) LineReset
    (cond (eqb (get_or bs 0 0) 3) (Read (get_or bs 1 0)) (Write (get_or bs 1 0) (word_at bs 4) (get_or bs 2 0))))

abbrev pub is_packet : List ℕ → Bool
is_packet bs = leb 1 (get_or bs 0 0) && leb (get_or bs 0 0) 4

-- ---- put into bytes

abbrev pub silicon_bytes : Silicon → List ℕ
silicon_bytes s = low_first 4 s.idcode ++ (s.high ∷ s.low ∷ s.revision ∷ s.family ∷ low_first 4 s.privileged_sum)

abbrev pub run_bytes : (state reads succeeds sysarg level number : ℕ) → List ℕ
run_bytes state reads succeeds sysarg level number = state ∷ (low_first 4 reads ++ (succeeds ∷ (low_first 4 sysarg ++ (level ∷ number ∷ []))))

abbrev pub running_bytes : Flow.Running → List ℕ
running_bytes idle = run_bytes 0 0 0 0 0 0
running_bytes (busy n s r c) = run_bytes 1 n (flag_byte s) r.sysarg (flag_byte r.new_level) c

abbrev pub words_bytes : (sysarg sysreq mode tar posted : ℕ) → List ℕ
words_bytes a q m t p = low_first 4 a ++ (low_first 4 q ++ (low_first 4 m ++ (low_first 4 t ++ low_first 4 p)))

-- all of the target but its flash, locks, latch and PARAMS, and what a failed call would leave there
unfoldable pub board_bytes : Target → List ℕ
board_bytes t =
    silicon_bytes t.silicon
    ++ (t.memory.stored ∷ t.effect ∷ (words_bytes t.sysarg t.sysreq t.test_mode t.tar t.posted ++ running_bytes t.running))

-- 'reset done' at 0, acknowledgement at 1, parity bit at 2, what was used at 3, word at 4
abbrev pub reply_bytes : (reset ack parity used word : ℕ) → List ℕ
reply_bytes reset ack parity used word = reset ∷ ack ∷ parity ∷ used ∷ low_first 4 word

abbrev pub answer_bytes : Answer → (used : ℕ) → List ℕ
answer_bytes ResetDone u = reply_bytes 1 0 0 u 0
answer_bytes (Transferred r) u = reply_bytes 0 r.ack r.parity u r.word

-- bit 0: the event was used; bit 1: the call was used
abbrev pub used_of : (line call : Bool) → ℕ
used_of l c = flag_byte l + 2 * flag_byte c

abbrev pub emptied : {A : Type 0} → List A → Bool
emptied [] = true
emptied (x ∷ xs) = false

abbrev pub used_in : Lists → ℕ
used_in l = used_of (emptied l.line) (emptied l.calls)

-- registers put, whatever is lent beside them
abbrev pub RunningPut : (before : List ℕ) → Option Call → (after : List ℕ) → Type 0
RunningPut l r m = (x : ResidueBytes) → m ≡ sets l 34 (running_bytes (running_of x r))

abbrev pub BoardPut : Registers → (after : List ℕ) → Type 0
BoardPut r m = (x : ResidueBytes) (b : Buffers) → m ≡ board_bytes (target_of x r b)
