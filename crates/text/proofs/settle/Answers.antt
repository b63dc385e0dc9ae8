-- The checks decide.
use Rattle.std.proofs.Common.{refl, ◌∙◌}
use Rattle.text.proofs.Settling.{some_number, settle-taken, settle-refused}
use Rattle.text.proofs.settle.Goals as goal

pub returns-in-Ok : goal.returns-in-Ok
returns-in-Ok c =
    let h = c.header_of-h.ensures.header in
    let l = settle-taken c.args.part c.args.macros c.args.header c.args.image.now _ _ h c.in-Ok.ensures.fault refl in
    record { answer = l.0; image = l.1 }

pub returns-in-Err : goal.returns-in-Err
returns-in-Err c =
    let h = c.header_of-h.ensures.header in
    let l = settle-refused c.args.part c.args.macros c.args.header c.args.image.now _ _ h c.in-Err.ensures.fault (some_number c.in-Err.r) in
    record { answer = l.0; image = c.fill.ensures.after (λ y e. e) ∙ l.1 }
