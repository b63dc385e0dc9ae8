-- The examples of the mishaps hold. Assumes nothing.
use mathlib.Core.Bool.{Bool, true, false}
use mathlib.Core.Path.{◌≡◌, refl}
use Prim.Native.Nat.{ℕ}
use borrow.Author.Tests.{eq-eqb}
use Rattle.flow.specs.Map.{search, regions, lock_regions}
use Rattle.flow.specs.Mishaps.{okay_with, WordMishaps, Breaks, LineMishaps}
use Rattle.flow.specs.Monitor.{notice_read, noticed, watch}
use Rattle.flow.specs.Packets.{heard, verdict, okay, broken}
use Rattle.flow.specs.Words.{test_bit_set, free, succeeded}
use Rattle.flow.specs.declared.Request.TheVariants.{ReadIdcode, ReadDrw}
use Rattle.parts.specs.Sizes.{rows_of, locks_in, lock_start, flash_size}
use Rattle.wire.specs.Wire.{parity, ack_of}
use lib.Count.{ones}

-- an OK with the word's own parity is heard as the word
pub right : (w : ℕ) → verdict ReadDrw (okay_with w) ≡ okay w
unfolding verdict heard
right w = rw (eq-eqb (parity w) (parity w) refl)

pub right-idcode : (w : ℕ) → verdict ReadIdcode (okay_with w) ≡ okay w
unfolding verdict heard
right-idcode w = rw (eq-eqb (parity w) (parity w) refl)

pub word-mishaps : WordMishaps
unfolding watch noticed notice_read test_bit_set free succeeded search regions lock_regions rows_of locks_in lock_start flash_size
word-mishaps = record {
  test_bit_clear = rw (right 0x7FFFFFFF);
  test_bit_set = rw (right 0x80000000);
  stale = rw (right 0x7FFFFFFF);
  poll10000 = rw (right 0x80000000);
  bit28 = rw (right 0x10000000);
  poll9999 = rw (right 0x10000000);
  other_bits = rw (right 0x6FFFFFFF);
  no_poll = rw (right 0x80000000);
  loop_left = rw (right 0);
  loop_left_locks = rw (right 0);
  loop_left_params = rw (right 0);
  loop_left_level = rw (right 0);
  loop_left_elsewhere = rw (right 0);
  digit_b = rw (right 0xB0000000);
  digit2 = rw (right 0x2A000000);
  digit_a = rw (right 0xAFFFFFFF);
  second_read = rw (right 0xB0000000);
  call = unfold verdict heard in refl;
  no_call = unfold verdict heard in refl;
  list_word = unfold verdict heard in refl;
}

breaks : (ack number : ℕ) → ((r : Bool) → heard r (ack_of ack) 0 0 ≡ broken number) → Breaks ack number
unfolding watch verdict
breaks ack number h = record {
  stale = rw (h true);
  counted = rw (h true);
  written = rw (h false);
  attempt29 = rw (h true);
  attempt30 = rw (h true);
}

pub line-mishaps : LineMishaps
unfolding watch noticed notice_read search regions lock_regions rows_of locks_in lock_start flash_size verdict heard ones
line-mishaps = record {
  attempt30 = refl;
  attempt29 = refl;
  attempt_okay = refl;
  wait17 = refl;
  wait16 = refl;
  afresh = refl;
  other_register = refl;
  other_word = refl;
  same_word = refl;
  xres_between = refl;
  line_reset_between = refl;
  fault = breaks 4 28 (λ r. refl);
  silence = breaks 7 29 (λ r. refl);
  wrong_parity = refl;
  written_parity = refl;
  noise0 = breaks 0 33 (λ r. refl);
  noise3 = breaks 3 33 (λ r. refl);
  noise5 = breaks 5 33 (λ r. refl);
  noise6 = breaks 6 33 (λ r. refl);
  noise8 = breaks 8 33 (λ r. refl);
  noise255 = breaks 255 33 (λ r. refl);
  first = λ q r number. refl;
  xres = λ x. refl;
  line_reset = λ x. refl;
}
