-- A session as 45 bytes: its header, four single bytes, six words. Assumes nothing.
use Rattle.std.specs.Prelude.{Bool, ◌&&◌, cond, List, [], ◌∷◌, ◌++◌, ℕ, eqb, leb, get_or}
use Rattle.encoding.specs.Headers.{header_bytes, header_in, header_found}
use Rattle.flow.specs.declared.Counters.{Counters}
use Rattle.flow.specs.declared.Entry.{Entry}
use Rattle.flow.specs.declared.Entry.TheVariants.{FromOpen, FromProtected}
use Rattle.image.specs.declared.Header.{Header}
use Rattle.lent.specs.Words.{word_at, low_first}
use Rattle.layout.specs.Bytes.{flag_byte}
use Rattle.session.specs.declared.Session.{Session}

-- 0 OPEN, 1 PROTECTED
abbrev pub entry_byte : Entry → ℕ
entry_byte FromOpen = 0
entry_byte FromProtected = 1

abbrev pub entry_in : ℕ → Entry
entry_in n = cond (eqb n 0) FromOpen FromProtected

-- entry at 17, finished at 18, number at 19, step at 20
abbrev pub singles : Session → List ℕ
singles s = entry_byte s.position.entry ∷ flag_byte s.finished ∷ s.number ∷ s.step ∷ []

-- at at 21, waits at 25, polls at 29, attempts at 33, kept at 37
abbrev pub standing_bytes : (at : ℕ) → Counters → List ℕ
standing_bytes n c = low_first 4 n ++ (low_first 4 c.waits ++ (low_first 4 c.polls ++ (low_first 4 c.attempts ++ low_first 4 c.kept)))

-- the header at 0, transfers at 41
unfoldable pub session_bytes : Session → List ℕ
session_bytes s = header_bytes s.header ++ (singles s ++ (standing_bytes s.position.at s.counters ++ low_first 4 s.transfers))

abbrev pub counters_in : List ℕ → Counters
counters_in bs = record { waits = word_at bs 25; polls = word_at bs 29; attempts = word_at bs 33; kept = word_at bs 37 }

-- a session of this header, the rest of it as bytes hold it
abbrev pub session_of : Header → List ℕ → Session
session_of h bs = record {
  header = h;
  position = record { entry = entry_in (get_or bs 17 0); at = word_at bs 21 };
  counters = counters_in bs;
  transfers = word_at bs 41;
  finished = eqb (get_or bs 18 0) 1;
  number = get_or bs 19 0;
  step = get_or bs 20 0;
}

-- the session that bytes hold
unfoldable pub session_in : List ℕ → Session
session_in bs = session_of (header_in bs) bs

-- the same, with no header where the bytes are too few for one
abbrev pub session_found : List ℕ → Session
session_found bs = session_of (header_found bs) bs

-- whether bytes 17 and 18, entry and finished, are ones that a session has; it looks at no other, so it holds of no bytes too
abbrev pub is_session : List ℕ → Bool
is_session bs = leb (get_or bs 17 0) 1 && leb (get_or bs 18 0) 1
