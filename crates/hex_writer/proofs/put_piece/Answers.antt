-- The type 4 record where it is due, then the data record. Assumes nothing.
use Rattle.std.proofs.Common.{arith}
use Rattle.hex_writer.proofs.Lines.{one-room, one-put}
use Rattle.hex_writer.proofs.put_piece.Goals as goal

pub put_upper-at-requires : goal.put_upper-at-requires
put_upper-at-requires c =
    let a = c.args in
    let r = one-room a.text.now a.position a.address a.payload.now c.requires.2 in
    omega arith

pub overflow_add-result : goal.overflow_add-result
overflow_add-result c =
    let a = c.args in
    let r = one-room a.text.now a.position a.address a.payload.now c.requires.2 in
    omega (arith, c.put_upper-at.ensures.value)

pub overflow_add-result-2 : goal.overflow_add-result-2
overflow_add-result-2 c =
    let a = c.args in
    let r = one-room a.text.now a.position a.address a.payload.now c.requires.2 in
    omega (arith, c.put_upper-at.ensures.value)

pub returns-clause-value : goal.returns-clause-value
returns-clause-value c =
    let a = c.args in
    let u = c.put_upper-at in
    let r = one-room a.text.now a.position a.address a.payload.now c.requires.2 in
    (one-put a.text.now a.position a.address a.payload.now _ _ _ c.requires.0 c.requires.1 (omega (arith, u.ensures.value, u.auto.text)) (u.ensures.value, u.ensures.text_after) c.put_data.ensures.text).0

pub returns-clause-text_after : goal.returns-clause-text_after
returns-clause-text_after c =
    let a = c.args in
    let u = c.put_upper-at in
    let r = one-room a.text.now a.position a.address a.payload.now c.requires.2 in
    (one-put a.text.now a.position a.address a.payload.now _ _ _ c.requires.0 c.requires.1 (omega (arith, u.ensures.value, u.auto.text)) (u.ensures.value, u.ensures.text_after) c.put_data.ensures.text).1
