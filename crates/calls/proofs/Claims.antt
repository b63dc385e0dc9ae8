-- The claims on bytes hold. Assumes nothing.
use Rattle.decoding.proofs.Backs.{header-back, session-back, outcome-back}
use Rattle.calls.proofs.ReadWrite.{read-claims, write-claims}
use Rattle.decoding.proofs.Spelled.{header-whole, session-whole, header-front, session-front}
use Rattle.calls.proofs.Starting.{start-claims, started-onward}
use Rattle.calls.proofs.Stepping.{step-claims, refused-stays, stepped-onward}
use Rattle.calls.specs.Claims.{ByteClaims}

pub byte-claims : ByteClaims
byte-claims = record {
  header_back = header-back;
  session_back = session-back;
  outcome_back = outcome-back;
  header_whole = header-whole;
  session_whole = session-whole;
  header_front = header-front;
  session_front = session-front;
  read = read-claims;
  write = write-claims;
  start = start-claims;
  step = step-claims;
  refused = refused-stays;
  started = started-onward;
  stepped = stepped-onward;
}
