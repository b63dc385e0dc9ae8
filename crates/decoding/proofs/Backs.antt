-- What is decoded of encoded bytes. Assumes nothing.
use mathlib.Core.Bool.{Bool, true, false, ◌&&◌}
use mathlib.Core.List.{List}
use mathlib.Core.Path.{◌≡◌, refl, ap, subst, ◌∙◌}
use Prim.Native.Nat.{ℕ, ◌≤◌}
use native.Mathlib.Omega.{arith}
use lib.Dec.{leb}
use lib.ListN.{length, drop, length-drop}
use lib.Seq.{length-take-le}
use Rattle.decoding.proofs.Spelled.{sum_same, entry-same}
use Rattle.encoding.specs.Values.{Twelve, InWords, outcome_word}
use Rattle.encoding.specs.Outcomes.{packet_bytes, outcome_bytes, outcome_in}
use Rattle.encoding.specs.Headers.{header_bytes, header_in}
use Rattle.encoding.specs.Sessions.{entry_byte, session_bytes, session_in, is_session}
use Rattle.flow.specs.declared.Entry.{Entry}
use Rattle.flow.specs.declared.Entry.TheVariants.{FromOpen, FromProtected}
use Rattle.sections.proofs.Sections.{spread, spread-all, header_with}
use Rattle.lent.specs.Words.{word_at}
use Rattle.image.specs.declared.Header.{Header}
use Rattle.layout.proofs.Bytes.{low32, low_same, flag_same}
use Rattle.layout.specs.Bytes.{flag_byte, Word}
use Rattle.flow.specs.Packets.{word_in}
use Rattle.flow.specs.declared.Packet.{Packet}
use Rattle.flow.specs.declared.Packet.TheVariants.{Xres, LineReset, Read, Write}
use Rattle.session.specs.Outcomes.{Outcome, Refused, Ask, Reported}
use Rattle.session.specs.declared.Session.{Session}

-- the same with this metadata
abbrev with_data : Header → List ℕ → Header
with_data h m = header_with h.part h.macros h.sum m h.level

abbrev session_with : Session → List ℕ → Session
session_with s m = record {
  header = with_data s.header m;
  position = s.position;
  counters = s.counters;
  transfers = s.transfers;
  finished = s.finished;
  number = s.number;
  step = s.step;
}

-- what holds with any twelve elements for metadata holds
twelve-in : (P : Header → Type 0) (h : Header) → Twelve h → ((m : List ℕ) → P (with_data h (spread 0 12 m))) → P h
twelve-in P h n f = subst (λ (m : List ℕ). P (with_data h m)) (spread-all 12 h.metadata n) (f h.metadata)

twelve-of : (P : Session → Type 0) (s : Session) → Twelve s.header → ((m : List ℕ) → P (session_with s (spread 0 12 m))) → P s
twelve-of P s n f = subst (λ (m : List ℕ). P (session_with s m)) (spread-all 12 s.header.metadata n) (f s.header.metadata)

pub header-back : (h : Header) → Twelve h → header_in (header_bytes h) ≡ h
unfolding header_in header_bytes
header-back h n = twelve-in (λ (k : Header). header_in (header_bytes k) ≡ k) h n (λ m. ap (λ (x : ℕ). header_with h.part h.macros x (spread 0 12 m) h.level) (sum_same h.sum))

-- what a session's bytes hold: all but the words is as it was, and the words' low 32 bits
pub record Near (s d : Session) : Type 0 where
  pub header : d.header ≡ s.header
  pub entry : d.position.entry ≡ s.position.entry
  pub finished : d.finished ≡ s.finished
  pub number : d.number ≡ s.number
  pub step : d.step ≡ s.step
  pub at : d.position.at ≡ low32 s.position.at
  pub waits : d.counters.waits ≡ low32 s.counters.waits
  pub polls : d.counters.polls ≡ low32 s.counters.polls
  pub attempts : d.counters.attempts ≡ low32 s.counters.attempts
  pub kept : d.counters.kept ≡ low32 s.counters.kept
  pub transfers : d.transfers ≡ low32 s.transfers

near-with : (s : Session) (m : List ℕ) → Near (session_with s (spread 0 12 m)) (session_in (session_bytes (session_with s (spread 0 12 m))))
unfolding session_in session_bytes header_in header_bytes word_at
near-with s m = record {
  header = ap (λ (x : ℕ). header_with s.header.part s.header.macros x (spread 0 12 m) s.header.level) (sum_same s.header.sum);
  entry = entry-same s.position.entry;
  finished = flag_same s.finished;
  number = refl;
  step = refl;
  at = refl;
  waits = refl;
  polls = refl;
  attempts = refl;
  kept = refl;
  transfers = refl;
}

pub near : (s : Session) → Twelve s.header → Near s (session_in (session_bytes s))
near s n = twelve-of (λ (t : Session). Near t (session_in (session_bytes t))) s n (near-with s)

pub session-back : (s : Session) → InWords s → session_in (session_bytes s) ≡ s
session-back s w =
    let k = near s w.twelve in
    let c = s.counters in
    let at = k.at ∙ low_same s.position.at w.at in
    let waits = k.waits ∙ low_same c.waits w.waits in
    let polls = k.polls ∙ low_same c.polls w.polls in
    let attempts = k.attempts ∙ low_same c.attempts w.attempts in
    let kept = k.kept ∙ low_same c.kept w.kept in
    let transfers = k.transfers ∙ low_same s.transfers w.transfers in
    λ i. record {
      header = k.header i;
      position = record { entry = k.entry i; at = at i };
      counters = record { waits = waits i; polls = polls i; attempts = attempts i; kept = kept i };
      transfers = transfers i;
      finished = k.finished i;
      number = k.number i;
      step = k.step i;
    }

-- bytes that are long enough hold twelve metadata bytes
pub header-twelve : (bs : List ℕ) → 17 ≤ length bs → Twelve (header_in bs)
unfolding header_in
header-twelve bs h = length-take-le 12 (drop 4 bs) (omega (arith, length-drop 4 bs))

pub header-length : (h : Header) → Twelve h → length (header_bytes h) ≡ 17
unfolding header_bytes
header-length h n = twelve-in (λ (k : Header). length (header_bytes k) ≡ 17) h n (λ m. refl)

pub session-length : (s : Session) → Twelve s.header → length (session_bytes s) ≡ 45
unfolding session_bytes header_bytes
session-length s n = twelve-of (λ (t : Session). length (session_bytes t) ≡ 45) s n (λ m. refl)

-- they are bytes that a session has
is-entry : (y : Entry) (f : Bool) → (leb (entry_byte y) 1 && leb (flag_byte f) 1) ≡ true
is-entry FromOpen true = refl
is-entry FromOpen false = refl
is-entry FromProtected true = refl
is-entry FromProtected false = refl

is-with : (s : Session) (m : List ℕ) → is_session (session_bytes (session_with s (spread 0 12 m))) ≡ true
unfolding session_bytes header_bytes
is-with s m = is-entry s.position.entry s.finished

pub is-session : (s : Session) → Twelve s.header → is_session (session_bytes s) ≡ true
is-session s n = twelve-of (λ (t : Session). is_session (session_bytes t) ≡ true) s n (is-with s)

packet-back : (p : Packet) → Word (word_in p) → outcome_in (packet_bytes p) ≡ Ask p
unfolding word_at
packet-back Xres h = refl
packet-back LineReset h = refl
packet-back (Read request) h = refl
packet-back (Write request word parity) h = ap (λ (w : ℕ). Ask (Write request w parity)) (low_same word h)

pub outcome-back : (o : Outcome) → Word (outcome_word o) → outcome_in (outcome_bytes o) ≡ o
unfolding word_at
outcome-back (Refused n) h = refl
outcome-back (Ask p) h = packet-back p h
outcome-back (Reported r) h = ap (λ (w : ℕ). Reported (record { number = r.number; step = r.step; transfers = w })) (low_same r.transfers h)

-- and an outcome's bytes are eight
packet-length : (p : Packet) → length (packet_bytes p) ≡ 8
packet-length Xres = refl
packet-length LineReset = refl
packet-length (Read request) = refl
packet-length (Write request word parity) = refl

pub outcome-length : (o : Outcome) → length (outcome_bytes o) ≡ 8
outcome-length (Refused n) = refl
outcome-length (Ask p) = packet-length p
outcome-length (Reported r) = refl
