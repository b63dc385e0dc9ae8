-- 12 for a session under size, or the step. Assumes nothing.
use Rattle.std.proofs.Common.{refl, ap, arith, Err}
use Rattle.calls.proofs.Called.{leaves-as, step-sessionless}
use Rattle.encoding.proofs.Numbered.{put_by_number}
use Rattle.refusals.specs.declared.Refusal.TheVariants.{Size}
use Rattle.step_call.proofs.step_into.Goals as goal

pub returns-then-session-lt45 : goal.returns-then-session-lt45
returns-then-session-lt45 c =
    let a = c.args in
    let l =
    leaves-as _ _ 12 a.session.now c.put_outcome.new.bytes
    (step-sessionless a.session.now a.image.now a.a a.outcome.now (omega arith))
    (refl, (refl, put_by_number _ _ _ (Err Size) (ap Err c.number.ensures.number) c.put_outcome.ensures.put)) in
    record { number = l.0; session = l.1.0; outcome = l.1.1 }
