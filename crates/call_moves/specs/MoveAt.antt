-- What is at an index of the lists of moves that calls are made of. Assumes nothing.
use Rattle.std.specs.Prelude.{cond, List, ◌≡◌, ℕ, leb, length, get_or}
use Rattle.flow.specs.Sequence.{imo_call, acquire, opening, end_move}
use Rattle.flow.specs.Session.{bare}
use Rattle.flow.specs.declared.Move.{Move}
use Rattle.parts.specs.Sizes.{sysreq_of, imo_of}
use Rattle.parts.specs.declared.Geometry.{Geometry}

-- m where SYSREQ is at most 0x7FFFFFFF, as every part of the table has it, else the end move
abbrev pub in_reach : (sysreq : ℕ) → Move → Move
in_reach q m = cond (leb q 0x7FFFFFFF) m end_move

-- m is at index j of the list that a geometry has, for each one with this SYSREQ
abbrev pub MoveAt : (sysreq : ℕ) → (Geometry → List Move) → (j : ℕ) → Move → Type 0
MoveAt q f j m = (g : Geometry) → sysreq_of g ≡ q → m ≡ in_reach q (get_or (f g) j end_move)

-- the same where room is known
abbrev pub ReachedAt : (sysreq : ℕ) → (Geometry → List Move) → (j : ℕ) → Move → Type 0
ReachedAt q f j m = (g : Geometry) → sysreq_of g ≡ q → m ≡ get_or (f g) j end_move

-- the same of step 1, where IMO counts too
abbrev pub Acquired : (sysreq imo j : ℕ) → Move → Type 0
Acquired q o j m = (g : Geometry) → sysreq_of g ≡ q → imo_of g ≡ o → m ≡ get_or (acquire g) j end_move

-- the same of step 1's first six moves, which are those of every geometry
abbrev pub Attach : (j : ℕ) → Move → Type 0
Attach j m = (g : Geometry) → m ≡ get_or (acquire g) j end_move

-- how many moves the call for IMO has
abbrev pub ImoCount : (imo n : ℕ) → Type 0
ImoCount o n = (g : Geometry) → n ≡ length (imo_call g o)

-- the moves of steps 1 and 2, after which the entries part
abbrev pub opening_count : Geometry → ℕ
opening_count g = length (opening (bare g))
