-- The session as a machine over the rest of the sequence: how one answer moves it on, and the index session that stands for it.
-- Assumes nothing.
use mathlib.Core.List.{List, [], ◌∷◌, ◌++◌, reverse, tail}
use Rattle.std.specs.Prelude.{◌≡◌, ℕ, length, get_or}
use Rattle.flow.specs.Sequence.{sequence, afterwards, end_move}
use Rattle.flow.specs.Session.{SessionState, running, reported, move_at, next_of, counted, step_of, no_counts, first_session}
use Rattle.flow.specs.declared.Answer.{Answer}
use Rattle.flow.specs.declared.Counters.{Counters}
use Rattle.flow.specs.declared.Entry.TheVariants.{FromOpen}
use Rattle.flow.specs.declared.Move.{Move}
use Rattle.flow.specs.declared.Next.{Next}
use Rattle.flow.specs.declared.Next.TheVariants.{Go, Stop}
use Rattle.flow.specs.declared.Position.{Position}
use Rattle.flow.specs.declared.Way.{Way}
use Rattle.flow.specs.declared.Way.TheVariants.{Onward, Stay, ToReset, ToPoll, Enter}
use Rattle.image.specs.Image.{Image}

-- the moves passed, latest first, and the rest: the standing move, then those to come
pub record Cursor : Type 0 where
  pub passed : List Move
  pub rest : List Move

-- the standing move
abbrev pub standing_move : Cursor → Move
standing_move t = get_or t.rest 0 end_move

abbrev pub onward : Cursor → Cursor
onward t = record { passed = standing_move t ∷ t.passed; rest = tail t.rest }

-- one move back; before the first there is none
abbrev pub back_from : (passed rest : List Move) → Cursor
back_from [] r = record { passed = []; rest = r }
back_from (m ∷ p) r = record { passed = p; rest = m ∷ r }

abbrev pub back : Cursor → Cursor
back t = back_from t.passed t.rest

-- where a way leads; once step 2 has found the entry, what follows is step 3 of that entry and the steps after it
abbrev pub along : Image → Way → Cursor → Cursor
along i Onward t = onward t
along i Stay t = t
along i ToReset t = back t
along i ToPoll t = back (back t)
along i (Enter y) t = record { passed = standing_move t ∷ t.passed; rest = afterwards i y }

-- counters and transfers are those of a session
pub data Machine : Type 0 where
  under_way : Cursor → Counters → (transfers : ℕ) → Machine
  ended : (number step transfers : ℕ) → Machine

abbrev pub machine_after : Image → Next → Cursor → (step transfers : ℕ) → Machine
machine_after i (Go w c) t s h = under_way (along i w t) c h
machine_after i (Stop x) t s h = ended x s h

-- the standing move m, answered
abbrev pub answer_on : Image → Move → Answer → Cursor → Counters → (transfers : ℕ) → Machine
answer_on i m r t c h = machine_after i (next_of i m r c) t m.step (counted m.request h)

unfoldable pub machine_step : Image → Machine → Answer → Machine
machine_step i (under_way t c h) r = answer_on i (standing_move t) r t c h
machine_step i (ended x s h) r = ended x s h

-- XRES stands; until step 2 has found the level, both entries have the same moves
abbrev pub first_machine : Image → Machine
first_machine i = under_way (record { passed = []; rest = sequence i FromOpen }) no_counts 0

-- ---- the index session that matches it

-- the passed moves are so many, and with the rest they are the sequence; past its end only the end move stands
pub record Placed (i : Image) (t : Cursor) (p : Position) : Type 0 where
  pub count : length t.passed ≡ p.at
  pub moves : (j : ℕ) → get_or (reverse t.passed ++ t.rest) j end_move ≡ get_or (sequence i p.entry) j end_move

pub data Matches (i : Image) : SessionState → Machine → Type 0 where
  placed : {t : Cursor} {p : Position} {c : Counters} {h : ℕ} → Placed i t p → Matches i (running p c h) (under_way t c h)
  finished : {x s h : ℕ} → Matches i (reported x s h) (ended x s h)

-- the move that stands, if one does
abbrev pub session_move : Image → SessionState → Move
session_move i (running p c h) = move_at i p
session_move i (reported x s h) = end_move

abbrev pub machine_move : Machine → Move
machine_move (under_way t c h) = standing_move t
machine_move (ended x s h) = end_move

-- the two agree step by step
pub record Agrees (i : Image) : Type 0 where
  pub first : Matches i first_session (first_machine i)
  pub move : (s : SessionState) (m : Machine) → Matches i s m → session_move i s ≡ machine_move m
  pub answer : (s : SessionState) (m : Machine) (r : Answer) → Matches i s m → Matches i (step_of i s r) (machine_step i m r)
