-- 12 for a header under size, 11 or 12 for a session or an outcome under size, or starting. Assumes nothing.
use Rattle.std.proofs.Common.{rules, ◌≡◌, sym, ap, ◌∙◌, arith, Err}
use Rattle.calls.proofs.Called.{eleven_or12, leaves-as, start-partless, start-under-session, start-under-outcome, start-done}
use Rattle.calls.specs.Calls.{start_into, after_start_call}
use Rattle.decoding.proofs.Spelled.{header-found}
use Rattle.encoding.proofs.Numbered.{by_number, number_told, put_by_number}
use Rattle.encoding.specs.Headers.{header_in}
use Rattle.image.specs.declared.Header.{Header}
use Rattle.refusals.specs.Refusals.{refusal_number, number_in}
use Rattle.session.specs.Given.{start_refused}
use Rattle.session.specs.Told.{given_told}
use Rattle.start_call.proofs.start_into.Goals as goal
use Rattle.start_call.proofs.start_into.Goals.{then-session-lt45-via-then-session-lt45, then-session-lt45-via-else-session-lt45+then-outcome-lt8}

pub returns-then-header-lt17 : goal.returns-then-header-lt17
returns-then-header-lt17 c =
    let a = c.args in
    let r = c.refuse_start in
    let l =
    leaves-as _ _ (number_in r.result) r.new.bytes r.new.outcome
    (start-partless a.header.now a.image.now a.leave a.session.now a.outcome.now (omega arith))
    (r.ensures.value, (r.ensures.bytes_after, r.ensures.outcome_after)) in
    record { number = l.0; session = l.1.0; outcome = l.1.1 }

pub returns-then-session-lt45 : goal.returns-then-session-lt45
returns-then-session-lt45 c =
    let a = c.args in
    let r = c.refuse_start-then-session-lt45 in
    let h = c.header_in-h.ensures.found ∙ header-found a.header.now (omega arith) in
    let n : refusal_number c.under_size.result ≡ eleven_or12 (header_in a.header.now).part (header_in a.header.now).macros =
    c.under_size.ensures.number ∙ ap (λ (x : Header). eleven_or12 x.part x.macros) h in
    let under : after_start_call a.header.now a.image.now a.leave a.session.now a.outcome.now
    ≡ start_into (start_refused (eleven_or12 (header_in a.header.now).part (header_in a.header.now).macros)) a.session.now a.outcome.now =
    elim c.then-session-lt45.branch [
      | then-session-lt45-via-then-session-lt45 w ↦ start-under-session a.header.now a.image.now a.leave a.session.now a.outcome.now (omega arith) w.if-session-lt45.true
      | then-session-lt45-via-else-session-lt45+then-outcome-lt8 w ↦ start-under-outcome a.header.now a.image.now a.leave a.session.now a.outcome.now (omega arith) w.if-session-lt45.false w.if-outcome-lt8.true
    ] in
    let l =
    leaves-as _ _ (number_in r.result) r.new.bytes r.new.outcome under
    (rw (← n) (r.ensures.value, (r.ensures.bytes_after, r.ensures.outcome_after))) in
    record { number = l.0; session = l.1.0; outcome = l.1.1 }

pub returns-in_err-given : goal.returns-in_err-given
returns-in_err-given c =
    let a = c.args in
    let e : c.from_residual.result ≡ Err c.in_err-given.field-0.0 = search rules in
    let m : c.map_err.result ≡ by_number c.start-given.result.outcome = search rules in
    let n : number_in c.from_residual.result ≡ number_in c.start-given.result.outcome = ap number_in e ∙ sym (ap number_in c.in_err-given.was) in
    let l =
    start-done a.header.now a.image.now a.leave a.session.now a.outcome.now (omega arith) _ (given_told c.start-given.result) _ _ _ (omega arith) (omega arith)
    (c.header_in-h.ensures.found ∙ header-found a.header.now (omega arith))
    c.start-given.ensures.given (n ∙ number_told c.start-given.result.outcome) c.put_session.ensures.put (put_by_number _ _ _ _ m c.put_outcome.ensures.put) in
    record { number = l.0; session = l.1.0; outcome = l.1.1 }

pub returns : goal.returns
returns c =
    let a = c.args in
    let m : c.map_err.result ≡ by_number c.start-given.result.outcome = search rules in
    let n : 0 ≡ number_in c.start-given.result.outcome = sym (ap number_in c.in_ok-given.was) in
    let l =
    start-done a.header.now a.image.now a.leave a.session.now a.outcome.now (omega arith) _ (given_told c.start-given.result) _ _ _ (omega arith) (omega arith)
    (c.header_in-h.ensures.found ∙ header-found a.header.now (omega arith))
    c.start-given.ensures.given (n ∙ number_told c.start-given.result.outcome) c.put_session.ensures.put (put_by_number _ _ _ _ m c.put_outcome.ensures.put) in
    record { number = l.0; session = l.1.0; outcome = l.1.1 }
