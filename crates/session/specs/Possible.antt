-- 13: 'session impossible for its part (never one that starting or a step gave)'. Assumes nothing.
use Rattle.std.specs.Prelude.{Bool, false, ◌&&◌, ◌||◌, cond, ℕ, eqb, leb, ltb, Ok, Err}
use Rattle.flow.specs.Session.{move_count}
use Rattle.flow.specs.declared.Counters.{Counters}
use Rattle.flow.specs.declared.Position.{Position}
use Rattle.image.specs.Checks.{version_fits, image_id_fits, level_fits}
use Rattle.image.specs.declared.Header.{Header}
use Rattle.parts.specs.Parts.{Lookup, lookup_of}
use Rattle.parts.specs.declared.Geometry.{Geometry}
use Rattle.session.specs.Sessions.{most_of}
use Rattle.session.specs.declared.Session.{Session}

-- a header that 6, 7 and 8 let pass: no session, forged or not, sends VIRGIN
abbrev pub header_fits : Geometry → Header → Bool
header_fits g h = version_fits h && image_id_fits g h && level_fits h.level

-- inside the sequence; 'WAIT repeats the transfer, 16 times running at most'; 'at most 10,000 polls'; 'up to 30 attempts'
abbrev pub running_fits : Geometry → Position → Counters → Bool
running_fits g p c = ltb p.at (move_count g p.entry) && leb c.waits 16 && ltb c.polls 10000 && ltb c.attempts 30

-- the numbers of a report that is not done: document 01's 16 to 30; document 02's 33 (Five)
abbrev pub is_failure : (number : ℕ) → Bool
is_failure n = (leb 16 n && leb n 30) || eqb n 33

-- 0 at step 9, or a failure's number at steps 1 to 9
abbrev pub report_fits : (number step : ℕ) → Bool
report_fits n t = (eqb n 0 && eqb t 9) || (is_failure n && leb 1 t && leb t 9)

unfoldable pub possible_in : Geometry → Session → Bool
possible_in g s =
    header_fits g s.header && leb s.transfers (most_of g)
    && cond s.finished (report_fits s.number s.step) (running_fits g s.position s.counters)

abbrev pub possible_for : Lookup → Session → Bool
possible_for (Err n) s = false
possible_for (Ok g) s = possible_in g s

abbrev pub possible : Session → Bool
possible s = possible_for (lookup_of s.header.part s.header.macros) s
