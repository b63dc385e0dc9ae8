-- The loop lays the bytes of the list from the front. Assumes nothing.
use Rattle.std.proofs.Common.{◌≡◌, take}
use Rattle.std.proofs.lemmas.List.Edits.{sets}
use Rattle.bench_memory.proofs.fill_latch.Given as goal
use Rattle.flow.specs.Calls.{bytes_in}

abbrev pub invariant-loop-i : goal.invariant-loop-i
invariant-loop-i l = l.latch ≡ sets l.initial.latch 0 (take l.i (bytes_in l.words))
