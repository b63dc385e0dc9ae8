-- The board that is made may be started on, and a session of such an image starts. Assumes nothing.
use Rattle.std.proofs.Common.{refl, sym, ap, ◌∙◌}
use Rattle.bench_calls.specs.Board.{lent}
use Rattle.dry.proofs.Reporting.{staged}
use Rattle.session.proofs.Possibility.{granted}
use Rattle.session.specs.Outcomes.{Given}
use Rattle.session.specs.Told.{given_told, outcome_told}
use Rattle.dry.proofs.report_on.Goals as goal

pub played-requires : goal.played-requires
played-requires c =
    let p = c.requires.1 in
    let f = given_told c.start-given.result in (
      c.requires.0,
      staged c.args.h c.args.image.now p f _ _ (lent _ _ _ _) c.start-given.ensures.given (ap outcome_told c.in_ok-given.was) c.open_board.ensures (sym c.zeros-flash.ensures) refl refl refl,
    )

pub returns-in_err-given : goal.returns-in_err-given
returns-in_err-given c =
    let e = sym (ap (λ (x : Given). x.outcome) c.start-given.ensures.given) ∙ ap outcome_told c.in_err-given.was in
    absurd (granted c.args.h c.args.image.now c.requires.1.passes.checked _ e)
