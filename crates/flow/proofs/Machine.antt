-- The machine over the rest of the sequence and the index session agree step by step. Assumes nothing.
use mathlib.Core.Bool.{Bool, true, false}
use mathlib.Core.List.{List, [], ◌∷◌, ◌++◌, reverse, tail, reverse-cons, append_assoc}
use mathlib.Core.Path.{◌≡◌, refl, sym, ap, subst, ◌∙◌}
use Prim.Native.Nat.{ℕ, zero, suc, ◌+◌, ◌-◌, ◌≤◌, ◌<◌}
use native.Mathlib.Omega.{arith}
use borrow.Author.Tests.{ltb-true, ltb-false}
use lib.Dec.{ltb}
use lib.ListN.{length, get_or, length-reverse, get_or-append}
use lib.Seq.{get_or-append-add}
use Rattle.flow.specs.Machine as Machines
use Rattle.flow.specs.Machine.{Cursor, standing_move, back, along, Machine, machine_after, answer_on, machine_step, Placed, Matches, placed, finished, session_move, machine_move, Agrees}
use Rattle.flow.specs.Sequence.{sequence, opening, afterwards, end_move}
use Rattle.flow.specs.Session.{SessionState, position, move_at, stand_after, counted, act, step_of}
use Rattle.flow.specs.declared.Answer.{Answer}
use Rattle.flow.specs.declared.Entry.{Entry}
use Rattle.flow.specs.declared.Move.{Move}
use Rattle.flow.specs.declared.Next.{Next}
use Rattle.flow.specs.declared.Way.TheVariants.{Enter}
use Rattle.flow.proofs.Moves.{Proper, proper-at}
use Rattle.flow.proofs.Ways.{Leads, onward, stays, retries, polls, enters, stops, leads}
use Rattle.image.specs.Image.{Image}

-- ---- lists

-- the latest passed move stands right before the rest
latest : (m : Move) (p r : List Move) → reverse (m ∷ p) ++ r ≡ reverse p ++ (m ∷ r)
latest m p r = ap (λ (l : List Move). l ++ r) (reverse-cons m p) ∙ append_assoc (reverse p) (m ∷ []) r

-- the move at a place of the rest
behind : (p r : List Move) (j : ℕ) → get_or (reverse p ++ r) (length p + j) end_move ≡ get_or r j end_move
behind p r j = ap (λ (k : ℕ). get_or (reverse p ++ r) (k + j) end_move) (sym (length-reverse p)) ∙ get_or-append-add (reverse p) r j end_move

-- the moves passed do not depend on the rest
ahead : (p r r' : List Move) (j : ℕ) → j < length p → get_or (reverse p ++ r) j end_move ≡ get_or (reverse p ++ r') j end_move
ahead p r r' j h =
    let l : j < length (reverse p) = rw (length-reverse p) h in
    get_or-append (reverse p) r end_move j l ∙ sym (get_or-append (reverse p) r' end_move j l)

-- at the end the end move is passed
refilled : (r : List Move) (j : ℕ) → get_or (get_or r 0 end_move ∷ tail r) j end_move ≡ get_or r j end_move
refilled [] zero = refl
refilled [] (suc j) = refl
refilled (m ∷ r) zero = refl
refilled (m ∷ r) (suc j) = refl

same-behind : (a r r' : List Move) → ((j : ℕ) → get_or r j end_move ≡ get_or r' j end_move) → (j : ℕ) → get_or (a ++ r) j end_move ≡ get_or (a ++ r') j end_move
same-behind [] r r' h j = h j
same-behind (m ∷ a) r r' h zero = refl
same-behind (m ∷ a) r r' h (suc j) = same-behind a r r' h j

-- ---- places

module _ (i : Image) (y : Entry) where
  pub standing_move-at : (t : Cursor) (n : ℕ) → Placed i t (position y n) → move_at i (position y n) ≡ standing_move t
  standing_move-at t n p =
      let e : length t.passed + 0 ≡ n = omega (arith, p.count) in
      sym (p.moves n) ∙ ap (λ (k : ℕ). get_or (reverse t.passed ++ t.rest) k end_move) (sym e) ∙ behind t.passed t.rest 0

  onward-placed : (t : Cursor) (n : ℕ) → Placed i t (position y n) → Placed i (Machines.onward t) (position y (suc n))
  onward-placed t n p = record {
    count = ap suc p.count;
    moves = λ j.
        ap (λ (l : List Move). get_or l j end_move) (latest (standing_move t) t.passed (tail t.rest))
        ∙ same-behind (reverse t.passed) (standing_move t ∷ tail t.rest) t.rest (refilled t.rest) j
        ∙ p.moves j;
  }

  back_from_lem : (passed rest : List Move) (n : ℕ) → Placed i (record { passed = passed; rest = rest }) (position y n)
      → Placed i (back (record { passed = passed; rest = rest })) (position y (n - 1))
  back_from_lem [] r n p = record { count = omega (arith, p.count); moves = p.moves }
  back_from_lem (m ∷ l) r n p = record {
    count = omega (arith, p.count);
    moves = λ j. ap (λ (x : List Move). get_or x j end_move) (sym (latest m l r)) ∙ p.moves j;
  }

  back-placed : (t : Cursor) (n : ℕ) → Placed i t (position y n) → Placed i (back t) (position y (n - 1))
  back-placed t n p = back_from_lem t.passed t.rest n p

  again-placed : (t : Cursor) (n : ℕ) → Placed i t (position y n) → Placed i (back (back t)) (position y (n - 2))
  again-placed t n p =
      let e : n - 1 - 1 ≡ n - 2 = omega arith in
      rw e at (back-placed (back t) (n - 1) (back-placed t n p))

  -- the last move of step 2: both entries have the same moves up to it
  entering-placed : (e : Entry) (t : Cursor) (n : ℕ) → suc n ≡ length (opening i) → Placed i t (position y n) → Placed i (along i (Enter e) t) (position e (suc n))
  unfolding sequence
  entering-placed e t n last p = record { count = ap suc p.count; moves = λ j. by j (ltb j (suc n)) refl }
    where
      passed : List Move
      passed = standing_move t ∷ t.passed

      by : (j : ℕ) (b : Bool) → ltb j (suc n) ≡ b → get_or (reverse passed ++ afterwards i e) j end_move ≡ get_or (opening i ++ afterwards i e) j end_move
      by j true h =
          let l : j < suc n = ltb-true j (suc n) h in
          ahead passed (afterwards i e) (tail t.rest) j (omega (arith, l, p.count))
          ∙ (onward-placed t n p).moves j
          ∙ get_or-append (opening i) (afterwards i y) end_move j (omega (arith, l, last))
          ∙ sym (get_or-append (opening i) (afterwards i e) end_move j (omega (arith, l, last)))
      by j false h =
          let l : suc n ≤ j = ltb-false j (suc n) h in
          let a : j ≡ length passed + (j - suc n) = omega (arith, l, p.count) in
          let b : length (opening i) + (j - suc n) ≡ j = omega (arith, l, last) in
          ap (λ (k : ℕ). get_or (reverse passed ++ afterwards i e) k end_move) a
          ∙ behind passed (afterwards i e) (j - suc n)
          ∙ sym (get_or-append-add (opening i) (afterwards i e) (j - suc n) end_move)
          ∙ ap (λ (k : ℕ). get_or (opening i ++ afterwards i e) k end_move) b

-- ---- answers

module _ (i : Image) (y : Entry) (n : ℕ) (t : Cursor) (at : Placed i t (position y n)) (m : Move) (fits : Proper (suc n ≡ length (opening i)) 1 m) where
  settles : {x : Next} → Leads m x → (s h : ℕ) → Matches i (stand_after x (position y n) s h) (machine_after i x t s h)
  settles onward s h = placed (onward-placed i y t n at)
  settles stays s h = placed at
  settles (retries e) s h = placed (back-placed i y t n at)
  settles (polls e) s h = placed (again-placed i y t n at)
  settles (enters {y = z} e) s h = let last : suc n ≡ length (opening i) = rw e at fits.reports in placed (entering-placed i y z t n last at)
  settles (stops some) s h = finished

-- ---- the machine and the session

answered : (i : Image) (s : SessionState) (m : Machine) (r : Answer) → Matches i s m → Matches i (step_of i s r) (machine_step i m r)
unfolding step_of machine_step
answered i s m r (placed {t = t} {p = p} {c = c} {h = h} at) =
    let x = standing_move t in
    let e = standing_move-at i p.entry t p.at at in
    subst (λ (z : Move). Matches i (act i z r p c h) (answer_on i x r t c h)) (sym e)
    (settles i p.entry p.at t at x (subst (Proper (suc p.at ≡ length (opening i)) 1) e (proper-at i p.entry p.at)) (leads i x r c) x.step (counted x.request h))
answered i s m r finished = finished

same_move : (i : Image) (s : SessionState) (m : Machine) → Matches i s m → session_move i s ≡ machine_move m
same_move i s m (placed {t = t} {p = p} at) = standing_move-at i p.entry t p.at at
same_move i s m finished = refl

pub machine-agrees : (i : Image) → Agrees i
machine-agrees i = record { first = placed (record { count = refl; moves = λ j. refl }); move = same_move i; answer = answered i }
