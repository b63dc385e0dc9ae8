-- The examples of the plain board hold. Assumes nothing.
use mathlib.Core.Path.{◌≡◌, refl, ap, ◌∙◌}
use Prim.Native.Nat.{ℕ}
use lib.Count.{ones, ones_in}
use borrow.Author.Rules.{rules}
use Rattle.flow.specs.BoardExamples.{after, TransferExamples, NoisyWith, NoiseExamples, PacketExamples, ResetExamples, CallExamples}
use Rattle.flow.specs.Calls.{bytes_in, effect_of, sysarg_after, sysreq_after, after_failure, finish, reset}
use Rattle.flow.specs.Examples.{part_one}
use Rattle.flow.specs.Exchange.{Met, decode, carry, barred, noisy_ack, transferred, meet}
use Rattle.flow.specs.Map as Maps
use Rattle.flow.specs.Map.{regions, lock_regions}
use Rattle.flow.specs.Target.{Target, Lists}
use Rattle.flow.specs.declared.Request.TheVariants.{ReadIdcode, ReadDrw, WriteTar, WriteDrw}
use Rattle.flow.proofs.Decoding.{attempt, plain, a_tar, a_drw, a_read, meets}
use Rattle.lent.specs.Words.{total, word_at}
use Rattle.parts.specs.Sizes.{rows_of, locks_in, flash_size, lock_start}

-- a packet of a known request is met as that request
by_idcode : (l : Lists) (b : Target) {m : Met} → transferred part_one ReadIdcode l b ≡ m → after ReadIdcode l b ≡ m
by_idcode l b e = meets part_one attempt l b ∙ e

by_read : (l : Lists) (b : Target) {m : Met} → transferred part_one ReadDrw l b ≡ m → after ReadDrw l b ≡ m
by_read l b e = meets part_one (plain a_read) l b ∙ e

by_tar : (a : ℕ) (l : Lists) (b : Target) {m : Met} → transferred part_one (WriteTar a) l b ≡ m → after (WriteTar a) l b ≡ m
by_tar a l b e = meets part_one (plain a_tar) l b ∙ e

by_write : (w : ℕ) (l : Lists) (b : Target) {m : Met} → transferred part_one (WriteDrw w) l b ≡ m → after (WriteDrw w) l b ≡ m
by_write w l b e = meets part_one (plain a_drw) l b ∙ e

pub transfer-examples : TransferExamples
unfolding transferred carry barred Maps.search regions lock_regions rows_of locks_in lock_start flash_size word_at
transfer-examples = record {
  idcode = by_idcode _ _ refl;
  flash = by_read _ _ refl;
  locks = by_read _ _ refl;
  level = by_read _ _ refl;
  sysarg = by_read _ _ refl;
  sysreq = by_read _ _ refl;
  test_mode = by_read _ _ refl;
  params = by_read _ _ refl;
  past_params = by_read _ _ refl;
  elsewhere = by_read _ _ refl;
  stores_params = by_write 5 _ _ refl;
  stores_flash = by_write 5 _ _ refl;
  stores_locks = by_write 5 _ _ refl;
  stores_level = by_write 5 _ _ refl;
  waited = by_read _ _ refl;
  faulted = by_read _ _ refl;
  silent_done = by_read _ _ refl;
  silent_not = by_read _ _ refl;
  wrong_parity_read = by_read _ _ refl;
  wrong_parity_write = by_tar 4 _ _ refl;
  protected_flash = by_read _ _ refl;
  protected_params = by_write 5 _ _ refl;
  protected_silent = by_read _ _ refl;
  protected_wrong_parity = by_read _ _ refl;
  protected_locks = by_read _ _ refl;
  protected_tar = by_tar 0 _ _ refl;
  killed = by_tar 4 _ _ refl;
  killed_idcode = by_idcode _ _ refl;
}

noisy-with : (entry : ℕ) → NoisyWith entry (noisy_ack entry)
unfolding meet decode ones ones_in transferred carry barred Maps.search regions lock_regions rows_of locks_in lock_start flash_size word_at
noisy-with entry = search rules

pub noise-examples : NoiseExamples
noise-examples = record {
  noise0 = noisy-with 0;
  noise3 = noisy-with 3;
  noise5 = noisy-with 5;
  noise6 = noisy-with 6;
  noise8 = noisy-with 8;
  noise255 = noisy-with 255;
  okay = noisy-with 1;
  wait = noisy-with 2;
  fault = noisy-with 4;
  silence = noisy-with 7;
}

pub packet-examples : PacketExamples
unfolding meet decode ones ones_in
packet-examples = search rules

pub reset-examples : ResetExamples
unfolding meet decode reset finish after_failure
reset-examples = search rules

pub call-examples : CallExamples
unfolding transferred carry barred Maps.search regions lock_regions rows_of locks_in lock_start flash_size finish effect_of sysarg_after sysreq_after after_failure bytes_in total
call-examples = record {
  begins = by_write 0x80000015 _ _ refl;
  no_call = ap (λ m. m.lists) (by_write 0x15 _ _ refl);
  no_call_stores = ap (λ m. m.target.sysreq) (by_write 0x15 _ _ refl);
  busy_read = by_read _ _ refl;
  takes_effect = by_read _ _ refl;
  fails = by_read _ _ refl;
  past = ap (λ m. m.target.running) (by_write 0x80000015 _ _ refl);
  ids = refl;
  ids_level = refl;
  sum = refl;
  others = refl;
  others_done = refl;
  erase = refl;
  latch = refl;
  row = refl;
  other_row = refl;
  lock = refl;
  other_macro = refl;
  reopen = refl;
  not_reopen = refl;
  imo = refl;
  failed_digit = refl;
  failed_arg = refl;
  failed_done = refl;
  failed0 = refl;
  failed_sum = refl;
  failed_imo = refl;
  failed_row = refl;
  failed_level = refl;
  old_level = refl;
  failed_macro1 = refl;
}
