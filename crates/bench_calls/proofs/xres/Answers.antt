-- By whether a call is under way. Assumes nothing.
use Rattle.bench_calls.proofs.Calling.{reset-idle, reset-busy}
use Rattle.bench_calls.proofs.xres.Goals as goal

pub returns-in-None : goal.returns-in-None
returns-in-None c = record { reset = reset-idle c.args.r c.cleared.result c.in-None.is c.cleared.ensures }

pub returns-in-Some : goal.returns-in-Some
returns-in-Some c = record {
  reset = reset-busy c.args.r _ c.fail.result c.cleared-in-Some.result c.in-Some.is c.fail.ensures c.cleared-in-Some.ensures;
}
