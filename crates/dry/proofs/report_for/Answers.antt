-- The table has part 1. Assumes nothing.
use Rattle.dry.proofs.Reporting.{found-one, always-found}
use Rattle.dry.proofs.report_for.Goals as goal

pub report_on-requires : goal.report_on-requires
report_on-requires c = (found-one c.find.ensures.found c.in_ok-find.was, c.requires)

pub returns-in_err-find : goal.returns-in_err-find
returns-in_err-find c = absurd (always-found c.find.ensures.found c.in_err-find.was)
