-- The line at a position: the code's tests against the grammar. Assumes nothing.
use mathlib.Core.Bool.{Bool, true, false, false≢true, cond}
use mathlib.Core.List.{List, [], ◌∷◌, ◌++◌, append_assoc}
use mathlib.Core.Logic.{inl, inr}
use mathlib.Core.Path.{◌≡◌, refl, sym, ap, ◌∙◌}
use Prim.Native.Nat.{ℕ, suc, ◌+◌, ◌*◌, ◌≤◌, ◌<◌}
use native.Mathlib.Omega.{arith}
use borrow.Author.Tests.{eqb-true, eq-eqb}
use lib.Dec.{eqb}
use lib.ListN.{length, get_or, take, drop, length-drop, length-append, take-append-drop}
use lib.Seq.{drop-drop, drop-cons, sets, length-sets, length-take-le, take_at}
use Rattle.hex_records.specs.Records.{BadRecord, record_of, of_spelt, of_body, line_record}
use Rattle.hex_records.specs.Places.{LineAt, LineTo, Spelled}
use Rattle.lent.specs.Words.{total}
use Rattle.pairs.specs.Digits.{Spelt, Unreadable, Spells, spelt}
use Rattle.pairs.specs.Lines.{Line, Ended, Open, lines_of, without_cr}
use Rattle.pairs.specs.Spelling.{PairRun, front, pairs_at, has_pairs, run_of, pair_run_of, row_after, line_end}
use Rattle.pairs.proofs.Ends.{has_room}
use Rattle.pairs.proofs.Lines.{begins, some-line, bare, spelt-length, spelt-front, lines_cut, digits-no-lf, no-lf-append, digits-bare, cr-bare, AllPairs, run-all}
use Rattle.pairs.proofs.Positions.{head_at, tail_at, drop_more, drop_at, lf-at, cr-at, ended, first-same, first_one, row-front, row_first, Good, good-run}

-- what the code tests, of a line that the grammar takes
record Passes (s : List ℕ) (at n : ℕ) : Type 0 where
  pub bs : List ℕ
  pub colon : get_or s at 0 ≡ 58
  pub within : at + 1 + 2 * (n + 5) ≤ length s
  pub spells : front (pairs_at s (at + 1) (n + 5)) ≡ n ∷ bs
  pub size : length bs ≡ n + 4
  pub ends : 0 < line_end s (at + 11 + 2 * n)

passes : (s : List ℕ) (at : ℕ) (m : List ℕ) (n : ℕ) (bs end : List ℕ) → drop at s ≡ 58 ∷ (m ++ end) → spelt m ≡ Spells (n ∷ bs) → length bs ≡ n + 4
    → 0 < length end
    → ((e : ℕ) → drop e s ≡ end → 0 < line_end s e)
    → Passes s at n
passes s at m n bs end e h l some last =
    let k = spelt-length m (n ∷ bs) h in
    let t = tail_at s at 58 (m ++ end) e in
    let y : length m ≡ 2 * (n + 5) = omega arith in
    let z : at + 1 + length m ≡ at + 11 + 2 * n = omega arith in
    let p : pairs_at s (at + 1) (n + 5) ≡ m = ap (take (2 * (n + 5))) t ∙ take_at m end (2 * (n + 5)) y in
    record {
      bs = bs;
      colon = head_at s at 58 (m ++ end) e;
      within = omega (arith, ap length e, length-drop at s, length-append m end);
      spells = ap front p ∙ spelt-front m (n ∷ bs) h;
      size = l;
      ends = last (at + 11 + 2 * n) (rw (← z) (drop_more m s (at + 1) end t));
    }

line-passes : (s : List ℕ) (at : ℕ) (l m : List ℕ) (n : ℕ) (bs rest : List ℕ) → drop at s ≡ l ++ (10 ∷ rest) → without_cr l ≡ 58 ∷ m
    → spelt m ≡ Spells (n ∷ bs)
    → length bs ≡ n + 4
    → Passes s at n
line-passes s at l m n bs rest e w h k =
    elim (bare l (58 ∷ m) w) [
      | inl q ↦ passes s at m n bs (10 ∷ rest) (e ∙ ap (λ (x : List ℕ). x ++ (10 ∷ rest)) q) h k (omega arith) (λ p d. lf-at s p rest d)
      | inr q ↦
          passes s at m n bs (13 ∷ 10 ∷ rest)
          (e ∙ ap (λ (x : List ℕ). x ++ (10 ∷ rest)) q ∙ ap (λ (x : List ℕ). 58 ∷ x) (append_assoc m (13 ∷ []) (10 ∷ rest))) h k (omega arith)
          (λ p d. cr-at s p rest d)
    ]

-- where nothing passes, the first line is refused with 1
module _ (s : List ℕ) (at : ℕ) (none : (n : ℕ) → Passes s at n → ⊥) where
  no_bytes : (l m rest : List ℕ) (t : Spelt) → drop at s ≡ l ++ (10 ∷ rest) → without_cr l ≡ 58 ∷ m → spelt m ≡ t → of_spelt t ≡ BadRecord 1
  unfolding of_spelt record_of
  no_bytes l m rest Unreadable e w h = refl
  no_bytes l m rest (Spells []) e w h = refl
  no_bytes l m rest (Spells (n ∷ bs)) e w h = go (eqb (length bs) (n + 4)) refl
    where
      go : (b : Bool) → eqb (length bs) (n + 4) ≡ b → record_of (n ∷ bs) ≡ BadRecord 1
      go true q = absurd (none n (line-passes s at l m n bs rest e w h (eqb-true (length bs) (n + 4) q)))
      go false q = rw q

  no_body : (l rest b : List ℕ) → drop at s ≡ l ++ (10 ∷ rest) → without_cr l ≡ b → of_body b ≡ BadRecord 1
  unfolding of_body
  no_body l rest [] e w = refl
  no_body l rest (c ∷ m) e w = go (eqb c 58) refl
    where
      go : (b : Bool) → eqb c 58 ≡ b → cond b (of_spelt (spelt m)) (BadRecord 1) ≡ BadRecord 1
      go true q = no_bytes l m rest (spelt m) e (w ∙ ap (λ (x : ℕ). x ∷ m) (eqb-true c 58 q)) refl
      go false q = refl

  no_record : (x : Line) (xs : List Line) → lines_of (drop at s) ≡ x ∷ xs → line_record x ≡ BadRecord 1
  unfolding line_record
  no_record (Open l) xs e = refl
  no_record (Ended l) xs e = let b = begins (drop at s) l xs e in no_body l b.rest (without_cr l) b.is refl

  no_line : at < length s → LineAt s at (BadRecord 1)
  no_line h =
      let f = some-line (get_or s at 0) (drop (suc at) s) in
      let e : lines_of (drop at s) ≡ f.0 ∷ f.1 = ap lines_of (drop-cons s at 0 h) ∙ f.2 in
      record { line = f.0; rest = f.1; is = e; says = no_record f.0 f.1 e }

-- the code's tests, of a line that passes
module _ (s : List ℕ) (at n : ℕ) (p : Passes s at n) (row : List ℕ) (wide : length row ≡ 260) where
  one : (front (pairs_at s (at + 1) 1) ≡ n ∷ []) × (n ≤ 255)
  one = first_one s (at + 1) (n + 5) (omega arith) p.within n p.bs p.spells

  count-good : (pair_run_of s (at + 1) 1 (length row)).good ≡ true
  count-good =
      let h = has_room row s (at + 1) 1 (omega arith) (omega arith) (omega (arith, p.within)) in
      ap (λ (r : PairRun). r.good) h.0 ∙ ap (λ (l : List ℕ). eqb (length l) 1) one.0

  count-is : get_or (row_after row s (at + 1) 1) 0 0 ≡ n
  count-is =
      let h = has_room row s (at + 1) 1 (omega arith) (omega arith) (omega (arith, p.within)) in
      ap (λ (l : List ℕ). get_or l 0 0) (h.1 ∙ ap (sets row 0) one.0) ∙ row_first row (n ∷ []) (omega arith) (omega arith)

  run-good : (row' : List ℕ) → length row' ≡ 260 → (pair_run_of s (at + 1) (n + 5) (length row')).good ≡ true
  run-good row' w =
      let o = one.1 in
      let h = has_room row' s (at + 1) (n + 5) (omega arith) (omega arith) p.within in
      ap (λ (r : PairRun). r.good) h.0
      ∙ ap (λ (l : List ℕ). eqb (length l) (n + 5)) p.spells
      ∙ eq-eqb (suc (length p.bs)) (n + 5) (omega (arith, p.size))

pub row-length : (row s : List ℕ) (p k : ℕ) → length (row_after row s p k) ≡ length row
unfolding row_after
row-length row s p k = go (has_pairs s p k (length row))
  where
    go : (b : Bool) → length (cond b (sets row 0 (front (pairs_at s p k))) row) ≡ length row
    go true = length-sets row 0 (front (pairs_at s p k))
    go false = refl

-- each of the code's tests that fails
module _ (s : List ℕ) (at : ℕ) (here : at < length s) (row : List ℕ) (wide : length row ≡ 260) where
  pub bad-colon : (get_or s at 0 ≡ 58 → ⊥) → LineAt s at (BadRecord 1)
  bad-colon h = no_line s at (λ n p. h p.colon) here

  pub bad-count : (pair_run_of s (at + 1) 1 (length row)).good ≡ false → LineAt s at (BadRecord 1)
  bad-count h = no_line s at (λ n p. false≢true (sym h ∙ count-good s at n p row wide)) here

  module _ (row' : List ℕ) (e : row' ≡ row_after row s (at + 1) 1) where
    kept : length row' ≡ 260
    kept = ap length e ∙ row-length row s (at + 1) 1 ∙ wide

    same : (n : ℕ) → Passes s at n → get_or row' 0 0 ≡ n
    same n p = ap (λ (l : List ℕ). get_or l 0 0) e ∙ count-is s at n p row wide

    pub bad-run : (pair_run_of s (at + 1) (get_or row' 0 0 + 5) (length row')).good ≡ false → LineAt s at (BadRecord 1)
    bad-run h =
        no_line s at
        (λ n p. false≢true (sym h ∙ ap (λ (x : ℕ). (pair_run_of s (at + 1) (x + 5) (length row')).good) (same n p) ∙ run-good s at n p row wide row' kept))
        here

    pub bad-end : line_end s (at + 11 + 2 * get_or row' 0 0) ≡ 0 → LineAt s at (BadRecord 1)
    bad-end h =
        no_line s at
        (λ n p. let q = p.ends in let r : line_end s (at + 11 + 2 * n) ≡ 0 = rw (same n p) at h in absurd (omega arith))
        here

-- a line whose tests all hold: the record of its bytes, and the next line after it
module _ (s : List ℕ) (at k w : ℕ) (colon : get_or s at 0 ≡ 58) (g : AllPairs (pairs_at s (at + 1) k)) (ew : w ≡ line_end s (at + 1 + 2 * k)) (some : w ≡ 0 → ⊥) where
  chars : (end : List ℕ) → drop (at + 1 + 2 * k) s ≡ end → drop at s ≡ 58 ∷ (pairs_at s (at + 1) k ++ end)
  chars end e =
      drop_at s at 58 colon (omega arith)
      ∙ ap (λ (x : List ℕ). 58 ∷ x) (sym (take-append-drop (2 * k) (drop (at + 1) s)))
      ∙ ap (λ (x : List ℕ). 58 ∷ (pairs_at s (at + 1) k ++ x)) (drop-drop (2 * k) (at + 1) s ∙ e)

  pub line_taken : at + 1 + 2 * k + w ≤ length s → LineTo s at (at + 1 + 2 * k + w) (record_of (front (pairs_at s (at + 1) k)))
  unfolding line_record of_body of_spelt
  line_taken h =
      elim (ended s (at + 1 + 2 * k) w ew some) [
        | inl q ↦
            record {
              line = Ended (58 ∷ m);
              is = ap lines_of (chars (10 ∷ rest) q.1) ∙ lines_cut (58 ∷ m) rest (refl, digits-no-lf m g.digits);
              says = rw (digits-bare 58 m refl g.digits, g.spells);
              more = omega arith;
              inside = h;
            }
        | inr q ↦
            record {
              line = Ended (58 ∷ (m ++ (13 ∷ [])));
              is =
                  ap lines_of (chars (13 ∷ 10 ∷ rest) q.1 ∙ ap (λ (x : List ℕ). 58 ∷ x) (sym (append_assoc m (13 ∷ []) (10 ∷ rest))))
                  ∙ lines_cut (58 ∷ (m ++ (13 ∷ []))) rest (refl, no-lf-append m (13 ∷ []) (digits-no-lf m g.digits) (refl, tt));
              says = rw (cr-bare 58 m, g.spells);
              more = omega arith;
              inside = h;
            }
      ]
    where
      m : List ℕ
      m = pairs_at s (at + 1) k

      rest : List ℕ
      rest = drop (at + 1 + 2 * k + w) s

pub end-inside : (s : List ℕ) (e w : ℕ) → w ≡ line_end s e → (w ≡ 0 → ⊥) → e + w ≤ length s
end-inside s e w h some =
    elim (ended s e w h some) [
      | inl q ↦ omega (arith, q.0, ap length q.1, length-drop e s, length-drop (e + w) s)
      | inr q ↦ omega (arith, q.0, ap length q.1, length-drop e s, length-drop (e + w) s)
    ]

-- the rows that the two runs leave: first the count, then the whole line
module _ (s : List ℕ) (at n : ℕ) (row row' row'' : List ℕ) (wide : length row ≡ 260)
    (e : row' ≡ row_after row s (at + 1) 1) (q : n ≡ get_or row' 0 0) (f : row'' ≡ row_after row' s (at + 1) (n + 5))
    (g : (pair_run_of s (at + 1) 1 (length row)).good ≡ true) (h : (pair_run_of s (at + 1) (n + 5) (length row')).good ≡ true) where
  a : Good s (at + 1) 1 (length row)
  a = good-run s (at + 1) 1 (length row) g

  b : Good s (at + 1) (n + 5) (length row')
  b = good-run s (at + 1) (n + 5) (length row') h

  bytes : List ℕ
  bytes = front (pairs_at s (at + 1) (n + 5))

  spelled : (pair_run_of s (at + 1) (n + 5) (length row') ≡ run_of s (at + 1) (n + 5)) × (row'' ≡ sets row' 0 bytes)
  unfolding bytes
  spelled = let r = has_room row' s (at + 1) (n + 5) b.few b.roomy b.within in (r.0, f ∙ r.1)

  first_count : get_or row' 0 0 ≡ get_or (front (pairs_at s (at + 1) 1)) 0 0
  first_count =
      let r = has_room row s (at + 1) 1 a.few a.roomy a.within in
      ap (λ (l : List ℕ). get_or l 0 0) (e ∙ r.1)
      ∙ row_first row (front (pairs_at s (at + 1) 1)) (omega (arith, a.all)) (omega (arith, a.all))

  taken-bytes : take (n + 5) row'' ≡ bytes
  unfolding bytes
  taken-bytes =
      ap (take (n + 5)) spelled.1
      ∙ ap (λ (x : ℕ). take x (sets row' 0 bytes)) (sym b.all)
      ∙ row-front row' bytes (omega (arith, b.all, b.roomy))

  pub framed : (sum w : ℕ) → get_or s at 0 ≡ 58 → sum ≡ (pair_run_of s (at + 1) (n + 5) (length row')).sum → w ≡ line_end s (at + 11 + 2 * n) → (w ≡ 0 → ⊥)
      → LineTo s at (at + 11 + 2 * n + w) (record_of (take (n + 5) row'')) × Spelled row'' n sum
  unfolding bytes
  framed sum w colon i j some =
      let k : at + 11 + 2 * n ≡ at + 1 + 2 * (n + 5) = omega arith in
      let ew : w ≡ line_end s (at + 1 + 2 * (n + 5)) = j ∙ ap (line_end s) k in
      let m = run-all (pairs_at s (at + 1) (n + 5)) (n + 5) (length-take-le (2 * (n + 5)) (drop (at + 1) s) (omega (arith, b.within, length-drop (at + 1) s))) b.all in
      let l = line_taken s at (n + 5) w colon m ew some (end-inside s (at + 1 + 2 * (n + 5)) w ew some) in (
        rw (k, taken-bytes) l,
        record {
          small = omega (arith, b.few);
          counts =
              ap (λ (l : List ℕ). get_or l 0 0) spelled.1
              ∙ row_first row' bytes (omega (arith, b.all, b.roomy)) (omega (arith, b.all))
              ∙ first-same s (at + 1) (n + 5) (omega arith) b.within
              ∙ sym first_count
              ∙ sym q;
          sums = ap total taken-bytes ∙ sym (i ∙ ap (λ (r : PairRun). r.sum) spelled.0);
        },
      )
