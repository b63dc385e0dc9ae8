-- What a DRW read posts and a DRW write alters, over plain variables. Assumes nothing.
use mathlib.Core.List.{List}
use mathlib.Core.Path.{◌≡◌, sym, ap, ◌∙◌}
use Prim.Native.Nat.{ℕ, suc, ◌+◌, ◌-◌, ◌%◌}
use native.Mathlib.Omega.{arith}
use Rattle.bench_calls.specs.Board.{residue_of, running_of, target_of}
use Rattle.bench_calls.specs.Ends.{MakesOf, Alters}
use Rattle.bench_board.specs.Meets.{keeping, asking}
use Rattle.bench_calls.specs.declared.Change.{Change}
use Rattle.bench_calls.specs.declared.Registers.{Registers}
use Rattle.bench_calls.specs.declared.Call.{Call}
use Rattle.std.specs.Prelude.{Some}
use Rattle.bench_effects.specs.Acts.{buffers_after}
use Rattle.bench_effects.specs.declared.Act.{Act}
use Rattle.flow.specs.Calls.{finish}
use Rattle.flow.specs.Exchange.{tick}
use Rattle.flow.specs.Target.{Target, busy, set_posted}
use Rattle.parts.specs.declared.Geometry.{Geometry}

-- a read of SYSREQ with a call under way
module _ (g : Geometry) (fs ps : List ℕ) (r : Registers) (other : ℕ) (k : Call) where
  pub ended-there : (n m : Change) → k.outcome.busy_reads ≡ 0 → MakesOf fs ps r n (λ x t. finish g k.outcome.succeeds (residue_of x k.outcome) k.number t)
      → Alters n m (λ t. set_posted n.registers.sysreq t) → MakesOf fs ps r m (λ x t. tick g other (running_of x (Some k)) t)
  ended-there n m e f a x b hf hp =
      ap (λ (t : Act). target_of x m.registers (buffers_after x t b)) a.0
      ∙ a.1 x (buffers_after x n.act b)
      ∙ ap (λ (t : Target). set_posted t.sysreq t) (f x b hf hp)
      ∙ sym (ap (λ (n : ℕ). tick g other (busy n k.outcome.succeeds (residue_of x k.outcome) k.number) (target_of x r b)) e)

  pub still-busy : ¬ (k.outcome.busy_reads ≡ 0) → (m : Call)
      → m ≡ record { outcome = record k.outcome { busy_reads = k.outcome.busy_reads - 1 }; number = k.number }
      → MakesOf fs ps r (keeping (asking r.sysreq (0x80000000 + other % 0x80000000) (Some m) r)) (λ x t. tick g other (running_of x (Some k)) t)
  still-busy n m h x b hf hp =
      let e : k.outcome.busy_reads ≡ suc (k.outcome.busy_reads - 1) = omega arith in
      rw h
      (sym (ap (λ (n : ℕ). tick g other (busy n k.outcome.succeeds (residue_of x k.outcome) k.number) (target_of x r b)) e))
