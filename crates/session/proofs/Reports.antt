-- The examples of the reports that 13 lets pass hold. Assumes nothing.
use mathlib.Core.Path.{refl}
use Rattle.session.specs.Reports.{ReportExamples}

pub report-examples : ReportExamples
report-examples = record {
  done = refl;
  done_early = refl;
  number15 = refl;
  number16 = refl;
  number30 = refl;
  number31 = refl;
  number32 = refl;
  number33 = refl;
  number34 = refl;
  step0 = refl;
  step9 = refl;
  step10 = refl;
}
