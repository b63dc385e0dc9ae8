-- What XRES does, over plain variables. Assumes nothing.
use mathlib.Core.Path.{◌≡◌, sym, ap, ◌∙◌}
use Rattle.bench_calls.specs.Board.{Buffers, ResidueBytes, running_of, target_of}
use Rattle.bench_calls.specs.Ends.{Fails, Resets, Alters}
use Rattle.bench_calls.specs.declared.Call.{Call}
use Rattle.bench_calls.specs.declared.Change.{Change}
use Rattle.bench_calls.specs.declared.Registers.{Registers}
use Rattle.std.specs.Prelude.{Option, None, Some}
use Rattle.bench_effects.specs.Acts.{buffers_after}
use Rattle.bench_effects.specs.declared.Act.{Act}
use Rattle.bench_effects.specs.declared.Act.TheVariants.{Keep}
use Rattle.flow.specs.Calls.{dropped, reset}
use Rattle.flow.specs.Target.{Target, set_reset}
use Rattle.parts.specs.declared.Geometry.{Geometry}

-- XRES
abbrev dropped_for : Geometry → ResidueBytes → Registers → Buffers → Option Call → Target
dropped_for g x r b k = set_reset (dropped g (running_of x k) (target_of x r b))

pub reset-idle : (r : Registers) (m : Change) → r.running ≡ None → Alters (record { registers = r; act = Keep }) m set_reset → Resets r m
unfolding reset
reset-idle r m e a g x b =
    ap (λ (t : Act). target_of x m.registers (buffers_after x t b)) a.0 ∙ a.1 x b ∙ ap (λ (k : Option Call). dropped_for g x r b k) (sym e)

pub reset-busy : (r : Registers) (k : Call) (n m : Change) → r.running ≡ Some k → Fails k r n → Alters n m set_reset → Resets r m
unfolding reset
reset-busy r k n m e f a g x b =
    ap (λ (t : Act). target_of x m.registers (buffers_after x t b)) a.0
    ∙ a.1 x (buffers_after x n.act b)
    ∙ ap set_reset (f g x b)
    ∙ ap (λ (k : Option Call). dropped_for g x r b k) (sym e)
