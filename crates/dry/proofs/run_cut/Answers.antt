-- The first of a text are those that it has. Assumes nothing.
use Rattle.std.proofs.Common.{◌≡◌, min, length, ap, ◌∙◌, arith, take}
use Rattle.dry.specs.Runs.{ran_on}
use Rattle.lent.proofs.Lists.{take_min}
use Rattle.dry.proofs.run_cut.Goals as goal

pub returns : goal.returns
returns c =
    let text = c.args.text.now in
    let n : c.min.result ≡ min 65536 (length text) = omega (arith, c.min.ensures) in
    c.run.ensures.ran ∙ ap ran_on (ap (λ k. take k text) n ∙ take_min 65536 text)
