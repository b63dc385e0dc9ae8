-- The record that is found, or none.
use Rattle.std.proofs.Common.{◌≡◌}
use Rattle.std.proofs.lemmas.Result.{err_from_is_err_and}
use Rattle.refusals.specs.declared.Refusal.TheVariants.{EndRecord}
use Rattle.hex_format.proofs.Turns.{turned, at-end, stopped, moved, data-turn, end-turn}
use Rattle.text.specs.Scanning.{dues}
use Rattle.hex_format.proofs.turn_at.Goals as goal

pub returns-in_err-found : goal.returns-in_err-found
returns-in_err-found c =
    let r = c.record_at-found.ensures in
    let bad = c.in_err-found.was in
    let p = err_from_is_err_and c.from_residual.result c.from_residual.ensures.1 in
    rw (p.1, p.2)
    (record {
      turn = λ ss. stopped c.args.text.now c.args.at c.args.upper _ (dues c.args.due ss) (rw bad at r.record);
      found = rw bad at (turned c.args.text.now c.args.at c.args.upper c.args.due c.args.row.now _ r.located);
      row = r.row;
    })

pub returns-in_err-low : goal.returns-in_err-low
returns-in_err-low c =
    let r = c.record_at-found.ensures in
    let read = c.in_ok-found.was in
    let none = c.in_err-low.ensures.ok_part in
    let p = err_from_is_err_and c.from_residual-in_err-low.result c.from_residual-in_err-low.ensures.1 in
    let e = rw none at c.in_err-low.ensures.value in
    let q : c.in_err-low.field-0.0 ≡ EndRecord = cc e in
    rw (p.1, p.2, q)
    (record {
      turn = λ ss. at-end c.args.text.now c.args.at c.args.upper (dues c.args.due ss) (rw none at (rw read at r.record));
      found = rw (read, none) at (turned c.args.text.now c.args.at c.args.upper c.args.due c.args.row.now _ r.located);
      row = r.row;
    })

pub returns-in-Payload : goal.returns-in-Payload
returns-in-Payload c =
    let r = c.record_at-found.ensures in
    let read = c.in_ok-found.was in
    let some = c.in_ok-low.ensures.ok_part in
    let is = c.in-Payload.is in
    let h = rw is at (rw some at (rw read at r.record)) in
    rw c.data_turn.ensures
    (record {
      turn = data-turn c.args.text.now c.args.at _ c.args.upper _ _ c.args.due c.record_at-found.new.row h.0 h.1 h.2 h.3;
      found = rw (read, some, is) at (turned c.args.text.now c.args.at c.args.upper c.args.due c.args.row.now _ r.located);
      row = r.row;
    })

pub returns-in-Extended : goal.returns-in-Extended
returns-in-Extended c =
    let r = c.record_at-found.ensures in
    let read = c.in_ok-found.was in
    let some = c.in_ok-low.ensures.ok_part in
    let is = c.in-Extended.is in
    let l = rw is at (rw some at (rw read at r.record)) in
    record {
      turn = ((λ ss. moved c.args.text.now c.args.at _ c.args.upper _ ss l), l.more, l.inside);
      found = rw (read, some, is) at (turned c.args.text.now c.args.at c.args.upper c.args.due c.args.row.now _ r.located);
      row = r.row;
    }

pub returns-in-Ended : goal.returns-in-Ended
returns-in-Ended c =
    let r = c.record_at-found.ensures in
    let read = c.in_ok-found.was in
    let some = c.in_ok-low.ensures.ok_part in
    let is = c.in-Ended.is in
    let l = rw is at (rw some at (rw read at r.record)) in
    rw c.end_turn.ensures
    (record {
      turn = end-turn c.args.text.now c.args.at _ c.args.upper c.args.due c.record_at-found.new.row l;
      found = rw (read, some, is) at (turned c.args.text.now c.args.at c.args.upper c.args.due c.args.row.now _ r.located);
      row = r.row;
    })
