-- Refused by the reader, or done with the plan. Assumes nothing.
use Rattle.std.proofs.Common.{rules, refl, ◌≡◌, Err}
use Rattle.dry.proofs.Reporting.{playable, ran-refused, ran-done, done-or-none}
use Rattle.text.proofs.Settling.{some_number}
use Rattle.dry.proofs.report_of.Goals as goal

pub report_for-requires : goal.report_for-requires
report_for-requires c =
    let b = c.zeros-image in
    playable c.args.text.now b.result b.ensures _ _ c.in_ok-header.ensures.answer c.read.ensures.buffer refl

pub returns : goal.returns
returns c =
    let b = c.zeros-image in
    done-or-none c.args.text.now c.report_for.result (λ r d. ran-done c.args.text.now b.result b.ensures _ r c.in_ok-header.ensures.answer refl d) c.report_for.ensures

pub returns-in_err-header : goal.returns-in_err-header
returns-in_err-header c =
    let b = c.zeros-image in
    let e : c.from_residual.result ≡ Err c.in_err-header.field-0.0 = search rules in
    rw e (ran-refused c.args.text.now b.result b.ensures _ c.in_err-header.ensures.answer (some_number _))
