-- The end of the text; else the frame, the sum, then the type.
use Rattle.std.proofs.Common.{arith}
use Rattle.hex_records.proofs.Finding.{no_line, not-framed, not-summed, recorded}
use Rattle.hex_records.proofs.Bodies.{frame-broken, frame-sum, frame_found}
use Rattle.hex_records.proofs.record_at.Goals as goal

pub returns-then-text-at : goal.returns-then-text-at
returns-then-text-at c =
    let l = no_line c.args.text.now c.args.at c.args.row.now c.if-text-at.true in
    record { «record» = c.if-text-at.true; located = l.0; row = l.1 }

pub returns-in_default : goal.returns-in_default
returns-in_default c =
    let f = c.frame_at.ensures in
    let none = c.in_default.is in
    let l = not-framed c.args.text.now c.args.at c.args.row.now c.if-text-at.false _ _ (f.value, f.row) none in
    rw c.refused.ensures (record { «record» = frame-broken c.args.text.now c.args.at _ _ f.frame none; located = l.0; row = l.1 })

pub returns-then-frame-ne0 : goal.returns-then-frame-ne0
returns-then-frame-ne0 c =
    let f = c.frame_at.ensures in
    let some = c.in-Some.is in
    let l = not-summed c.args.text.now c.args.at c.args.row.now c.if-text-at.false _ _ (f.value, f.row) _ some c.if-frame-ne0.true in
    rw c.refused-then-frame-ne0.ensures
    (record { «record» = frame-sum c.args.text.now c.args.at _ _ f.frame _ some (omega arith) c.if-frame-ne0.true; located = l.0; row = l.1 })

pub returns-in-Ok : goal.returns-in-Ok
returns-in-Ok c =
    let f = c.frame_at.ensures in
    let some = c.in-Some.is in
    let r = c.in-Ok.ensures in
    let l = recorded c.args.text.now c.args.at c.args.row.now c.if-text-at.false _ _ (f.value, f.row) _ some c.if-frame-ne0.false _ r in
    let h = frame_found c.args.text.now c.args.at _ _ f.frame _ some (omega arith) _ r c.if-frame-ne0.false in
    record { «record» = h; located = l.0; row = l.1 }

pub returns-in-Err : goal.returns-in-Err
returns-in-Err c =
    let f = c.frame_at.ensures in
    let some = c.in-Some.is in
    let r = c.in-Err.ensures in
    let l = recorded c.args.text.now c.args.at c.args.row.now c.if-text-at.false _ _ (f.value, f.row) _ some c.if-frame-ne0.false _ r in
    let h = frame_found c.args.text.now c.args.at _ _ f.frame _ some (omega arith) _ r c.if-frame-ne0.false in
    rw c.refused-in-Err.ensures (record { «record» = h; located = l.0; row = l.1 })
