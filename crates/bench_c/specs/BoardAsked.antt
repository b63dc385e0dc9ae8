-- What the bytes lent to the bench board's call ask for, between finding it and meeting it. Assumes nothing.
use Rattle.refusals.specs.declared.Refusal.{Refusal}
use Rattle.refusals.specs.declared.Refusal.TheVariants.{Size, ImpossibleSession}
use Rattle.std.specs.Prelude.{cond, List, ℕ, Result, Ok, Err}
use Rattle.bench_c.specs.BoardBytes.{registers_in, event_in, call_outcome_at, packet_in}
use Rattle.bench_c.specs.BoardCalls.{Handed, is_bench, sizes_fit}
use Rattle.bench_c.specs.declared.Asked.{Asked}
use Rattle.parts.specs.Parts.{Lookup, lookup_of}

abbrev pub asked_for : Lookup → (board : List ℕ) → Handed → Result Asked Refusal
asked_for (Err r) b h = Err r
asked_for (Ok g) b h =
    cond (is_bench b h)
    (Ok (record { geometry = g; registers = registers_in b; packet = packet_in h.packet; event = event_in h.event; call = call_outcome_at h.call 0 }))
    (Err ImpossibleSession)

abbrev pub asked_of : (part macros : ℕ) → (board : List ℕ) → Handed → (answer : List ℕ) → Result Asked Refusal
asked_of part macros b h a = cond (sizes_fit b h a) (asked_for (lookup_of part macros) b h) (Err Size)
