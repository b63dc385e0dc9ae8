-- What is at an index of the lists of moves that a call is made of, piece by piece. Assumes nothing.
use mathlib.Core.List.{List, [], ◌∷◌, ◌++◌}
use mathlib.Core.Path.{◌≡◌, sym, ap, ◌∙◌}
use Prim.Native.Nat.{ℕ, ◌+◌, ◌-◌, ◌<◌, ◌≤◌}
use native.Mathlib.Omega.{arith}
use lib.ListN.{length, get_or, take, drop}
use Rattle.std.proofs.lemmas.List.{get_or-take, get_or-drop, get_or_append_left, get_or-append_right}
use Rattle.call_moves.proofs.Lengths.{length-acquire}
use Rattle.flow.specs.Sequence.{key, write, read, call, writes, listed, imo_call, acquire, silicon, privileged, end_move}
use Rattle.flow.specs.declared.Move.{Move}
use Rattle.flow.specs.declared.Purpose.{Purpose}
use Rattle.flow.specs.declared.Purpose.TheVariants.{Poll, Status, TestBit, Keep}
use Rattle.parts.specs.Sizes.{sysreq_of, imo_of, PARAMS, TEST-MODE}
use Rattle.parts.specs.declared.Geometry.{Geometry}

-- the first n, those after k, and the n of them there
module _ (xs : List Move) (j : ℕ) where
  front : (n : ℕ) → j < n → get_or xs j end_move ≡ get_or (take n xs) j end_move
  front n h = sym (get_or-take n xs j end_move h)

  rest : (k : ℕ) → k ≤ j → get_or xs j end_move ≡ get_or (drop k xs) (j - k) end_move
  rest k l =
      let e : j ≡ k + (j - k) = omega arith in
      ap (λ (x : ℕ). get_or xs x end_move) e ∙ sym (get_or-drop k xs (j - k) end_move)

middle : (xs : List Move) (j k n : ℕ) → k ≤ j → j < k + n → get_or xs j end_move ≡ get_or (take n (drop k xs)) (j - k) end_move
middle xs j k n l h = rest xs j k l ∙ front (drop k xs) (j - k) n (omega arith)

module _ (g : Geometry) (s c w j : ℕ) where
  pub call-argument : j < 2 → get_or (call g s c w) j end_move ≡ get_or (write s (sysreq_of g + 4) w) j end_move
  unfolding call write read
  call-argument h = front (call g s c w) j 2 h

  pub call-request : 2 ≤ j → j < 4 → get_or (call g s c w) j end_move ≡ get_or (write s (sysreq_of g) (0x80000000 + c)) (j - 2) end_move
  unfolding call write read
  call-request l h = middle (call g s c w) j 2 2 l h

  pub call-poll : 4 ≤ j → j < 7 → get_or (call g s c w) j end_move ≡ get_or (read s (sysreq_of g) Poll) (j - 4) end_move
  unfolding call write read
  call-poll l h = middle (call g s c w) j 4 3 l h

  pub call-status : 7 ≤ j → get_or (call g s c w) j end_move ≡ get_or (read s (sysreq_of g + 4) Status) (j - 7) end_move
  unfolding call write read
  call-status l = rest (call g s c w) j 7 l

  pub one_word : j < 2 → get_or (listed g s c (w ∷ [])) j end_move ≡ get_or (write s PARAMS w) j end_move
  unfolding listed writes write
  one_word h = front (listed g s c (w ∷ [])) j 2 h

  pub one-call : 2 ≤ j → get_or (listed g s c (w ∷ [])) j end_move ≡ get_or (call g s c PARAMS) (j - 2) end_move
  unfolding listed writes write
  one-call l = rest (listed g s c (w ∷ [])) j 2 l

module _ (g : Geometry) (s : ℕ) (u : Purpose) (j : ℕ) where
  pub privileged-call : j < 10 → get_or (privileged g s u) j end_move ≡ get_or (call g s 0x0B (key 0x0B + 0x80000000)) j end_move
  unfolding privileged call write read
  privileged-call h = front (privileged g s u) j 10 h

  pub privileged-read : 10 ≤ j → get_or (privileged g s u) j end_move ≡ get_or (read s (sysreq_of g + 4) u) (j - 10) end_move
  unfolding privileged call write read
  privileged-read l = rest (privileged g s u) j 10 l

module _ (g : Geometry) (u : Purpose) (j : ℕ) where
  pub silicon-call : j < 10 → get_or (silicon g u) j end_move ≡ get_or (call g 2 0 (key 0)) j end_move
  unfolding silicon call write read
  silicon-call h = front (silicon g u) j 10 h

  pub silicon-ids : 10 ≤ j → j < 13 → get_or (silicon g u) j end_move ≡ get_or (read 2 (sysreq_of g + 4) Keep) (j - 10) end_move
  unfolding silicon call write read
  silicon-ids l h = middle (silicon g u) j 10 3 l h

  pub silicon-level : 13 ≤ j → get_or (silicon g u) j end_move ≡ get_or (read 2 (sysreq_of g) u) (j - 13) end_move
  unfolding silicon call write read
  silicon-level l = rest (silicon g u) j 13 l

module _ (g : Geometry) (j : ℕ) where
  pub acquire-write : 6 ≤ j → j < 8 → get_or (acquire g) j end_move ≡ get_or (write 1 TEST-MODE 0x80000000) (j - 6) end_move
  unfolding acquire write read
  acquire-write l h = middle (acquire g) j 6 2 l h

  pub acquire-test : 8 ≤ j → j < 11 → get_or (acquire g) j end_move ≡ get_or (read 1 TEST-MODE TestBit) (j - 8) end_move
  unfolding acquire write read
  acquire-test l h = middle (acquire g) j 8 3 l h

  pub acquire-poll : 11 ≤ j → j < 14 → get_or (acquire g) j end_move ≡ get_or (read 1 (sysreq_of g) Poll) (j - 11) end_move
  unfolding acquire write read
  acquire-poll l h = middle (acquire g) j 11 3 l h

  pub acquire-imo : 14 ≤ j → get_or (acquire g) j end_move ≡ get_or (imo_call g (imo_of g)) (j - 14) end_move
  unfolding acquire write read
  acquire-imo l = rest (acquire g) j 14 l

-- step 1, then step 2
module _ (g : Geometry) (u : Purpose) (j : ℕ) where
  pub identify-first : j < 14 + length (imo_call g (imo_of g)) → get_or (acquire g ++ silicon g u) j end_move ≡ get_or (acquire g) j end_move
  identify-first h = get_or_append_left (acquire g) (silicon g u) end_move j (omega (arith, length-acquire g))

  pub identify-second : 14 + length (imo_call g (imo_of g)) ≤ j → get_or (acquire g ++ silicon g u) j end_move ≡ get_or (silicon g u) (j - (14 + length (imo_call g (imo_of g)))) end_move
  identify-second l = get_or-append_right (acquire g) (silicon g u) _ j end_move (length-acquire g) l

pub ruleset identify = (identify-first, identify-second)

pub ruleset pieces = (call-argument, call-request, call-poll, call-status, one_word, one-call, privileged-call, privileged-read, silicon-call, silicon-ids, silicon-level, acquire-write, acquire-test, acquire-poll, acquire-imo)
