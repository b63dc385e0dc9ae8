-- Words of a part of the image, and what is at an index of a latch call's list. Assumes nothing.
use mathlib.Core.List.{List, [], ◌∷◌}
use mathlib.Core.Path.{◌≡◌, refl, sym, ap, ◌∙◌}
use Prim.Native.Nat.{ℕ, zero, suc, ◌+◌, ◌-◌, ◌*◌, ◌/◌, ◌%◌, ◌<◌, ◌≤◌}
use native.Mathlib.Nat.{not-suc-le-zero, le_of_suc-le-suc}
use native.Mathlib.Omega.{arith}
use borrow.Author.Tests.{le-leb}
use lib.ListN.{length, get_or, take, drop, length-take, length-drop}
use lib.Seq.{get_or-take, get_or-drop, ext_get_or}
use Rattle.flow.proofs.Counting.{length-words}
use Rattle.flow.specs.Sequence.{move, write, call, writes, listed, latch_list, end_move}
use Rattle.lent.proofs.Words.{word_same}
use Rattle.latch_moves.specs.Latched.{latched}
use Rattle.lent.specs.Words.{word_at, words_at}
use Rattle.call_moves.proofs.Lengths.{length-writes}
use Rattle.flow.specs.declared.Purpose.TheVariants.{Sent}
use Rattle.flow.specs.declared.Request.TheVariants.{WriteTar, WriteDrw}
use Rattle.std.proofs.lemmas.List.{get_or_append_left, get_or-append_right}
use Rattle.flow.specs.declared.Move.{Move}
use Rattle.parts.specs.Sizes.{PARAMS}
use Rattle.parts.specs.declared.Geometry.{Geometry}

words-at : (bytes : List ℕ) (o n k : ℕ) → k < n → get_or (words_at bytes o n) k 0 ≡ word_at bytes (o + 4 * k)
unfolding words_at
words-at bytes o zero k h = absurd (not-suc-le-zero h)
words-at bytes o (suc n) zero h = let e : o + 4 * 0 ≡ o = omega arith in rw e
words-at bytes o (suc n) (suc k) h =
    let e : o + 4 * suc k ≡ o + 4 + 4 * k = omega arith in
    rw e (words-at bytes (o + 4) n k (le_of_suc-le-suc h))

-- words that are equal one by one
words_same : (xs ys : List ℕ) (o p n : ℕ) → ((k : ℕ) → k < n → word_at xs (o + 4 * k) ≡ word_at ys (p + 4 * k)) → words_at xs o n ≡ words_at ys p n
words_same xs ys o p n h =
    ext_get_or 0 (words_at xs o n) (words_at ys p n) (length-words xs o n ∙ sym (length-words ys p n))
    (λ i l.
    let b : i < n = omega (arith, length-words xs o n) in
    words-at xs o n i b ∙ h i b ∙ sym (words-at ys p n i b))

-- bs is the part of n bytes from s on
module _ (bytes bs : List ℕ) (s n : ℕ) (is : bs ≡ take (s + n - s) (drop s bytes)) (fits : s + n ≤ length bytes) where
  part : bs ≡ take n (drop s bytes)
  part = let e : s + n - s ≡ n = omega arith in is ∙ ap (λ (x : ℕ). take x (drop s bytes)) e

  part_length : length bs ≡ n
  part_length = ap length part ∙ simp (length-take, length-drop) (omega arith)

  pub part-latched : (ms : List Move) → 1 ≤ n → n ≤ 1024 → latched bs ms ≡ ms
  part-latched ms some few = rw (part_length, le-leb 1 n some, le-leb n 1024 few)

  part_at : (i : ℕ) → i < n → get_or bs i 0 ≡ get_or bytes (s + i) 0
  part_at i h = ap (λ (l : List ℕ). get_or l i 0) part ∙ get_or-take n (drop s bytes) i 0 h ∙ get_or-drop s bytes i 0

  module _ (size : ℕ) where
    -- a part of the first size bytes, and of those after them
    front-word : (o p : ℕ) → o + 4 ≤ n → p ≡ s + o → s + n ≤ size → word_at bs o ≡ word_at (take size bytes) p
    front-word o p h e l =
        word_same bs (take size bytes) o p
        (λ k b.
        let t : s + (o + k) ≡ p + k = omega arith in
        part_at (o + k) (omega arith) ∙ ap (λ (x : ℕ). get_or bytes x 0) t ∙ sym (get_or-take size bytes (p + k) 0 (omega arith)))

    back-word : (o p : ℕ) → o + 4 ≤ n → size + p ≡ s + o → word_at bs o ≡ word_at (drop size bytes) p
    back-word o p h e =
        word_same bs (drop size bytes) o p
        (λ k b.
        let t : s + (o + k) ≡ size + (p + k) = omega arith in
        part_at (o + k) (omega arith) ∙ ap (λ (x : ℕ). get_or bytes x 0) t ∙ sym (get_or-drop size bytes (p + k) 0))

    pub front-latch : (m : ℕ) → s + n ≤ size → latch_list m (length bs) bs 0 ≡ latch_list m n (take size bytes) s
    front-latch m l =
        let e : words_at bs 0 (n / 4) ≡ words_at (take size bytes) s (n / 4) = words_same bs (take size bytes) 0 s (n / 4) (λ k b. front-word (0 + 4 * k) (s + 4 * k) (omega arith) (omega arith) l) in
        rw (part_length, e)

    pub back-latch : (m p : ℕ) → s ≡ size + p → latch_list m (length bs) bs 0 ≡ latch_list m n (drop size bytes) p
    back-latch m p t =
        let e : words_at bs 0 (n / 4) ≡ words_at (drop size bytes) p (n / 4) = words_same bs (drop size bytes) 0 p (n / 4) (λ k b. back-word (0 + 4 * k) (p + 4 * k) (omega arith) (omega arith)) in
        rw (part_length, e)

-- ---- the list of a latch call

pub list_word : (a b : ℕ) (bytes : List ℕ) (n i : ℕ) → 2 ≤ i → i < n + 2 → get_or (a ∷ b ∷ words_at bytes 0 n) i 0 ≡ word_at bytes (4 * (i - 2))
list_word a b bytes n i l h =
    let e : i ≡ suc (suc (i - 2)) = omega arith in
    let z : 0 + 4 * (i - 2) ≡ 4 * (i - 2) = omega arith in
    ap (λ (x : ℕ). get_or (a ∷ b ∷ words_at bytes 0 n) x 0) e ∙ words-at bytes 0 n (i - 2) (omega arith) ∙ ap (λ (x : ℕ). word_at bytes x) z

writes_at : (s a : ℕ) (ws : List ℕ) (j : ℕ) → j < 2 * length ws → get_or (writes s a ws) j end_move ≡ get_or (write s (a + 4 * (j / 2)) (get_or ws (j / 2) 0)) (j % 2) end_move
unfolding writes write
writes_at s a [] j h = absurd (omega arith)
writes_at s a (w ∷ ws) zero h = let e : a + 4 * 0 ≡ a = omega arith in rw e
writes_at s a (w ∷ ws) (suc zero) h = refl
writes_at s a (w ∷ ws) (suc (suc j)) h =
    let q : suc (suc j) / 2 ≡ suc (j / 2) = omega arith in
    let r : suc (suc j) % 2 ≡ j % 2 = omega arith in
    let t : a + 4 * suc (j / 2) ≡ a + 4 + 4 * (j / 2) = omega arith in
    rw (q, r, t) (writes_at s (a + 4) ws j (omega arith))

-- its moves: an address and a word in turn, then the call
module _ (g : Geometry) (s c : ℕ) (ws : List ℕ) (j : ℕ) where
  listed-word : j < 2 * length ws → get_or (listed g s c ws) j end_move ≡ get_or (write s (PARAMS + 4 * (j / 2)) (get_or ws (j / 2) 0)) (j % 2) end_move
  unfolding listed
  listed-word h = get_or_append_left (writes s PARAMS ws) (call g s c PARAMS) end_move j (omega (arith, length-writes s PARAMS ws)) ∙ writes_at s PARAMS ws j h

  pub listed-address : j < 2 * length ws → j % 2 ≡ 0 → get_or (listed g s c ws) j end_move ≡ move s (WriteTar (PARAMS + 4 * (j / 2))) Sent
  unfolding write
  listed-address h e = listed-word h ∙ rw e

  pub listed-data : j < 2 * length ws → j % 2 ≡ 1 → get_or (listed g s c ws) j end_move ≡ move s (WriteDrw (get_or ws (j / 2) 0)) Sent
  unfolding write
  listed-data h e = listed-word h ∙ rw e

  pub listed-call : 2 * length ws ≤ j → get_or (listed g s c ws) j end_move ≡ get_or (call g s c PARAMS) (j - 2 * length ws) end_move
  unfolding listed
  listed-call l = get_or-append_right (writes s PARAMS ws) (call g s c PARAMS) (2 * length ws) j end_move (length-writes s PARAMS ws) l

pub ruleset latched_moves = (listed-address, listed-data, listed-call, length-words)
