-- 13 for bytes that no session has, or the step. Assumes nothing.
use Rattle.std.proofs.Common.{rules, ℕ, ◌≡◌, refl, sym, ap, ◌∙◌, take, arith, Err}
use Rattle.calls.proofs.Called.{leaves-as, step_other, step-refused, step_went}
use Rattle.decoding.proofs.Spelled.{session-found}
use Rattle.encoding.proofs.Numbered.{by_number, number_told, put_by_number}
use Rattle.refusals.proofs.Numbers.{some_number}
use Rattle.refusals.specs.Refusals.{number_in}
use Rattle.refusals.specs.declared.Refusal.TheVariants.{ImpossibleSession}
use Rattle.session.specs.Told.{given_told}
use Rattle.step_call.proofs.step_on.Goals as goal

pub returns-then-not-is_session : goal.returns-then-not-is_session
returns-then-not-is_session c =
    let a = c.args in
    let is = c.is_session in
    let l =
    leaves-as _ _ 13 a.bytes.now c.put_outcome.new.bytes
    (step_other a.bytes.now a.image.now a.a a.outcome.now c.requires (sym is.ensures.session ∙ c.if-not-is_session.true))
    (refl, (refl, put_by_number _ _ _ (Err ImpossibleSession) (ap Err c.number.ensures.number) c.put_outcome.ensures.put)) in
    record { value = l.0; bytes_after = l.1.0; outcome_after = l.1.1 }

pub returns-in_err-given : goal.returns-in_err-given
returns-in_err-given c =
    let a = c.args in
    let is = c.is_session in
    let e : c.from_residual.result ≡ Err c.in_err-given.field-0.0 = search rules in
    let m : c.map_err.result ≡ by_number c.step-given.result.outcome = search rules in
    let n : number_in c.from_residual.result ≡ number_in c.step-given.result.outcome = ap number_in e ∙ sym (ap number_in c.in_err-given.was) in
    let l =
    step-refused a.bytes.now a.image.now a.a a.outcome.now c.requires _ _ (given_told c.step-given.result) _ (sym is.ensures.session ∙ c.if-not-is_session.false)
    (c.session_in.ensures.found ∙ session-found a.bytes.now c.requires)
    (ap (λ (k : ℕ). take k a.image.now) c.lent_with-lent.ensures.lent)
    c.step-given.ensures.given (n ∙ number_told c.step-given.result.outcome) _
    (λ z. absurd (omega (arith, some_number c.in_err-given.field-0.0, sym (ap number_in e) ∙ z))) (put_by_number _ _ _ _ m c.put_outcome-2.ensures.put) in
    record { value = l.0; bytes_after = l.1.0; outcome_after = l.1.1 }

pub returns : goal.returns
returns c =
    let a = c.args in
    let is = c.is_session in
    let m : c.map_err.result ≡ by_number c.step-given.result.outcome = search rules in
    let n : 0 ≡ number_in c.step-given.result.outcome = sym (ap number_in c.in_ok-given.was) in
    let l =
    step_went a.bytes.now a.image.now a.a a.outcome.now c.requires _ _ (given_told c.step-given.result) _ (sym is.ensures.session ∙ c.if-not-is_session.false)
    (c.session_in.ensures.found ∙ session-found a.bytes.now c.requires)
    (ap (λ (k : ℕ). take k a.image.now) c.lent_with-lent.ensures.lent)
    c.step-given.ensures.given (n ∙ number_told c.step-given.result.outcome) _ _ refl c.put_session.ensures.put (put_by_number _ _ _ _ m c.put_outcome-2.ensures.put) in
    record { value = l.0; bytes_after = l.1.0; outcome_after = l.1.1 }
