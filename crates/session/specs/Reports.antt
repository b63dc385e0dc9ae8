-- Which reports 13 lets pass, by example: both sides of each range. Assumes nothing.
use Rattle.std.specs.Prelude.{true, false, ◌≡◌}
use Rattle.session.specs.Possible.{report_fits}

pub record ReportExamples : Type 0 where
  -- done is said at step 9
  pub done : report_fits 0 9 ≡ true
  pub done_early : report_fits 0 8 ≡ false
  -- 16 to 30
  pub number15 : report_fits 15 1 ≡ false
  pub number16 : report_fits 16 1 ≡ true
  pub number30 : report_fits 30 9 ≡ true
  pub number31 : report_fits 31 1 ≡ false
  -- and 33
  pub number32 : report_fits 32 1 ≡ false
  pub number33 : report_fits 33 1 ≡ true
  pub number34 : report_fits 34 1 ≡ false
  -- at steps 1 to 9
  pub step0 : report_fits 33 0 ≡ false
  pub step9 : report_fits 33 9 ≡ true
  pub step10 : report_fits 33 10 ≡ false
