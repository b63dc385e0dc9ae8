-- Each turn of the loop, by where the record leads.
use Rattle.std.proofs.lemmas.Result.{err_from_is_err_and}
use Rattle.hex_format.specs.HexFormat.{intel_hex}
use Rattle.hex_reader.proofs.Scans.{here-start, here-stop, here-done, here-store}
use Rattle.text.proofs.Scans.{here-flash}
use Rattle.hex_reader.proofs.scan.Goals as goal

pub loop-next-init : goal.loop-next-init
loop-next-init c = here-start _ _ _ _ c.requires _ c.section_at.ensures.section

pub returns-in_err-turn_at : goal.returns-in_err-turn_at
returns-in_err-turn_at c =
    let p = err_from_is_err_and c.from_residual.result c.from_residual.ensures.1 in
    let turn = c.in_err-turn_at.ensures.turn in
    rw (p.1, p.2)
    (here-stop c.args.g c.args.text.now c.args.image.now c.args.header.now c.requires c.loop-next.invariant c.turn_at.new.row _ turn)

pub returns-in-Done : goal.returns-in-Done
returns-in-Done c =
    let turn = c.in_ok-turn_at.ensures.turn in
    here-done c.args.g c.args.text.now c.args.image.now c.args.header.now c.requires c.loop-next.invariant c.turn_at.new.row (rw c.in-Done.is at turn)

pub store_payload-requires : goal.store_payload-requires
store_payload-requires c =
    here-flash intel_hex c.args.text.now c.args.g c.args.image.now c.args.header.now c.requires c.loop-next.invariant.there

pub loop-next-preserved : goal.loop-next-preserved
loop-next-preserved c =
    let e = c.store_payload.ensures in
    let turn = c.in_ok-turn_at.ensures.turn in
    here-store c.args.g c.args.text.now c.args.image.now c.args.header.now c.requires c.loop-next.invariant c.turn_at.new.row _ _ (rw c.in-Store.is at turn) _ _ _ c.store_payload.auto.image c.store_payload.auto.header (e.flash, (e.protection, e.header)) c.advanced-due.ensures
