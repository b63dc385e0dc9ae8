-- Its words and single bytes, then its header. Assumes nothing.
use Rattle.std.proofs.Common.{refl, ◌∙◌}
use Rattle.encoding.specs.Sessions.{session_bytes}
use Rattle.encoding.proofs.Putting.{four-bytes}
use Rattle.encoding.proofs.session_row.Goals as goal

pub returns-clause-equal : goal.returns-clause-equal
unfolding session_bytes
returns-clause-equal c =
    let s = c.args.s in
    let at = c.copy_from_slice.ensures.after ∙ c.to_le_bytes.ensures ∙ four-bytes s.position.at in
    let waits = c.copy_from_slice-2.ensures.after ∙ c.to_le_bytes-2.ensures ∙ four-bytes s.counters.waits in
    let polls = c.copy_from_slice-3.ensures.after ∙ c.to_le_bytes-3.ensures ∙ four-bytes s.counters.polls in
    let attempts = c.copy_from_slice-4.ensures.after ∙ c.to_le_bytes-4.ensures ∙ four-bytes s.counters.attempts in
    let kept = c.copy_from_slice-5.ensures.after ∙ c.to_le_bytes-5.ensures ∙ four-bytes s.counters.kept in
    let transfers = c.copy_from_slice-6.ensures.after ∙ c.to_le_bytes-6.ensures ∙ four-bytes s.transfers in
    let head = c.copy_from_slice-7.ensures.after ∙ c.row_of.ensures.equal in
    rw (at, waits, polls, attempts, kept, transfers, head, c.entry_byte.ensures, c.flag_byte.ensures.flag) refl
