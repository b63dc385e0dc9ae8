-- The examples of keys, judgements, of how an answer moves a session on, and of the order of steps 7 and 8 hold. Assumes nothing.
use mathlib.Core.Bool.{Bool, true, false}
use mathlib.Core.List.{[], ◌∷◌}
use mathlib.Core.Path.{refl, ◌≡◌}
use Prim.Native.Nat.{ℕ}
use lib.Count.{ones}
use borrow.Author.Rules.{rules}
use Rattle.flow.specs.Examples.{p5, p6, p7}
use Rattle.flow.specs.Judge.{judge}
use Rattle.flow.specs.Judgements.{JudgeExamples}
use Rattle.flow.specs.OrderExamples.{marks, OrderExamples}
use Rattle.flow.specs.Packets.{verdict, heard, broken}
use Rattle.flow.specs.Sequence.{write, read, call, writes, listed, privileged, program_row, sequence, opening, acquire, silicon, in_turn, imo_call, program, lock_macro, verify_macro, afterwards, verify_row}
use Rattle.flow.specs.Session.{step_of}
use Rattle.flow.specs.SessionExamples.{MoveExamples, AnswerExamples, Ends, SessionExamples}
use Rattle.flow.specs.Words.{free, test_bit_set, succeeded, ids_fit, level_shown, sums_fit}
use Rattle.flow.proofs.Mishaps.{right, right-idcode}
use Rattle.lent.specs.Words.{word_at, words_at}
use Rattle.parts.specs.Sizes.{locks_in, lock_start, rows_of}
use Rattle.wire.specs.Examples.{Each, none, more}
use Rattle.wire.specs.Wire.{ack_of}

pub key-examples : Each (p5 ∷ p6 ∷ p7 ∷ [])
unfolding write read call writes listed privileged program_row word_at words_at
key-examples = more refl (more refl (more refl none))

pub judge-examples : JudgeExamples
unfolding word_at locks_in lock_start judge free test_bit_set succeeded ids_fit level_shown sums_fit
judge-examples = search rules

pub move-examples : MoveExamples
unfolding sequence opening acquire silicon call write read writes listed in_turn imo_call privileged program_row program lock_macro verify_macro afterwards rows_of locks_in lock_start word_at words_at
move-examples = search rules

pub answer-examples : AnswerExamples
answer-examples = record { xres = refl; line_reset = refl; acknowledged = refl; read = refl; attempt = refl; written = refl; reset_done = refl }

ends : (ack number : ℕ) → ((r : Bool) → heard r (ack_of ack) 0 0 ≡ broken number) → Ends ack number
unfolding step_of verdict
ends ack number h = record {
  stale = rw (move-examples.stale, h true);
  counted = rw (move-examples.poll, h true);
  written = rw (move-examples.setup, h false);
  attempt29 = rw (move-examples.idcode, h true);
  attempt30 = rw (move-examples.idcode, h true);
}

pub session-examples : SessionExamples
unfolding step_of judge free succeeded
session-examples = record {
  reset = rw move-examples.xres;
  next = rw move-examples.setup (unfold verdict heard in refl);
  next_row = rw (move-examples.row, right 0xA0000000);
  attempt29 = rw move-examples.idcode (unfold verdict heard in refl);
  attempt30 = rw move-examples.idcode (unfold verdict heard in refl);
  attempt_okay = rw (move-examples.idcode, right-idcode 0x0BB11477);
  wait16 = rw move-examples.setup (unfold verdict heard in refl);
  wait17 = rw move-examples.setup (unfold verdict heard in refl);
  waited = rw move-examples.setup (unfold verdict heard in refl);
  poll9999 = rw (move-examples.poll, right 0x80000000);
  poll10000 = rw (move-examples.poll, right 0x80000000);
  polled = rw (move-examples.poll, right 0);
  fault = unfold heard in ends 4 28 (λ r. refl);
  silence = unfold heard in ends 7 29 (λ r. refl);
  wrong_parity = rw move-examples.poll (unfold verdict heard ones in refl);
  noise0 = unfold heard in ends 0 33 (λ r. refl);
  noise3 = unfold heard in ends 3 33 (λ r. refl);
  noise5 = unfold heard in ends 5 33 (λ r. refl);
  noise6 = unfold heard in ends 6 33 (λ r. refl);
  noise8 = unfold heard in ends 8 33 (λ r. refl);
  noise255 = unfold heard in ends 255 33 (λ r. refl);
  fault_at5 = rw move-examples.row (unfold verdict heard in refl);
  status_at5 = rw (move-examples.row, right 0xF0000000);
  stays = λ number step transfers a. refl;
}

pub order-examples : OrderExamples
unfolding marks write read call writes listed in_turn privileged program_row verify_row lock_macro verify_macro program word_at words_at rows_of locks_in lock_start
order-examples = record { one = refl; two = refl; three = refl }
