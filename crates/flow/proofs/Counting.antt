-- The reads and writes of the sequence are the plan, its polls the loops, for every geometry of the table. Assumes nothing.
use mathlib.Core.List.{List, [], ◌∷◌, ◌++◌}
use mathlib.Core.Path.{◌≡◌, refl, ap, ◌∙◌, sym}
use Prim.Native.Nat.{ℕ, zero, suc, ◌+◌, ◌*◌, ◌/◌, ◌<◌, ◌≤◌}
use native.Mathlib.Nat.{suc-mul}
use native.Mathlib.Omega.{arith}
use lib.ListN.{length}
use Rattle.flow.specs.Plan.{Traffic, no_traffic, counting, traffic_in, is_poll, polls_in, from_protected, lock_plan, plan, loops, acquisitions}
use Rattle.flow.specs.Sequence.{write, read, call, writes, listed, in_turn, imo_call, acquire, silicon, privileged, program_row, compare_words, verify_row, lock_macro, verify_macro, macro_down, lock_and_verify, program, opening, afterwards, sequence, key}
use Rattle.flow.specs.Session.{bare, move_count}
use Rattle.flow.specs.Totals.{PlanMultiplied, SequenceCounts}
use Rattle.flow.specs.declared.Entry.{Entry}
use Rattle.flow.specs.declared.Entry.TheVariants.{FromOpen, FromProtected}
use Rattle.flow.specs.declared.Move.{Move}
use Rattle.flow.specs.declared.Purpose.{Purpose}
use Rattle.flow.specs.declared.Purpose.TheVariants.{FlashWord, LockWord, Keep, EntryLevel, Reopened, StoredLevel, LastSum}
use Rattle.flow.specs.declared.Request.{Request}
use Rattle.flow.specs.declared.Request.TheVariants.{Xres, LineReset, ReadIdcode, ReadDrw, WriteTar, WriteDrw, WriteSetup}
use Rattle.flow.proofs.Table.{Facts, facts}
use Rattle.image.specs.Image.{Image, image_of}
use Rattle.lent.specs.Words.{words_at}
use Rattle.parts.specs.Sizes.{row_bytes_of, macros_of, rows_of, locks_in, imo_of, PARAMS, lock_start}
use Rattle.parts.proofs.Locks.{locks-alike}
use Rattle.parts.specs.declared.Geometry.{Geometry}

-- what a list of moves counts to
pub record Totals (ms : List Move) (s p x l : ℕ) : Type 0 where
  pub transfers : (traffic_in ms).transfers ≡ s
  pub polls : polls_in ms ≡ p
  pub xresets : (traffic_in ms).xresets ≡ x
  pub line_resets : (traffic_in ms).line_resets ≡ l

-- the requests of a traffic
abbrev pub total : Traffic → ℕ
total t = t.transfers + t.xresets + t.line_resets

-- one request more is counted once, whatever it is
pub record Adds (q : Request) (t : Traffic) : Type 0 where
  pub transfers : (counting q t).transfers ≡ (counting q no_traffic).transfers + t.transfers
  pub xresets : (counting q t).xresets ≡ (counting q no_traffic).xresets + t.xresets
  pub line_resets : (counting q t).line_resets ≡ (counting q no_traffic).line_resets + t.line_resets
  pub one : total (counting q no_traffic) ≡ 1

pub adds : (q : Request) (t : Traffic) → Adds q t
adds Xres t = record { transfers = omega arith; xresets = omega arith; line_resets = omega arith; one = refl }
adds LineReset t = record { transfers = omega arith; xresets = omega arith; line_resets = omega arith; one = refl }
adds ReadIdcode t = record { transfers = omega arith; xresets = omega arith; line_resets = omega arith; one = refl }
adds ReadDrw t = record { transfers = omega arith; xresets = omega arith; line_resets = omega arith; one = refl }
adds (WriteTar w) t = record { transfers = omega arith; xresets = omega arith; line_resets = omega arith; one = refl }
adds (WriteDrw w) t = record { transfers = omega arith; xresets = omega arith; line_resets = omega arith; one = refl }
adds (WriteSetup r w) t = record { transfers = omega arith; xresets = omega arith; line_resets = omega arith; one = refl }

pub one_more : (q : Request) (t : Traffic) → total (counting q t) ≡ suc (total t)
one_more q t = let a = adds q t in omega (arith, a.transfers, a.xresets, a.line_resets, a.one)

pub never-fewer : (q : Request) (t : Traffic) → t.xresets ≤ (counting q t).xresets
never-fewer q t = omega (arith, (adds q t).xresets)

pub append : (a b : List Move) → Totals (a ++ b) ((traffic_in a).transfers + (traffic_in b).transfers) (polls_in a + polls_in b)
    ((traffic_in a).xresets + (traffic_in b).xresets) ((traffic_in a).line_resets + (traffic_in b).line_resets)
unfolding traffic_in polls_in
append [] b = record { transfers = omega arith; polls = omega arith; xresets = omega arith; line_resets = omega arith }
append (m ∷ a) b =
    let h = append a b in
    let x = adds m.request (traffic_in a) in
    let y = adds m.request (traffic_in (a ++ b)) in
    record {
      transfers = omega (arith, h.transfers, x.transfers, y.transfers);
      polls = omega (arith, h.polls);
      xresets = omega (arith, h.xresets, x.xresets, y.xresets);
      line_resets = omega (arith, h.line_resets, x.line_resets, y.line_resets);
    }

-- two lists of known counts
pub joined : {a b : List Move} {s p x l s' p' x' l' : ℕ} → Totals a s p x l → Totals b s' p' x' l' → Totals (a ++ b) (s + s') (p + p') (x + x') (l + l')
joined {a} {b} h k =
    let t = append a b in
    record {
      transfers = omega (arith, t.transfers, h.transfers, k.transfers);
      polls = omega (arith, t.polls, h.polls, k.polls);
      xresets = omega (arith, t.xresets, h.xresets, k.xresets);
      line_resets = omega (arith, t.line_resets, h.line_resets, k.line_resets);
    }

-- the same counts, written otherwise
pub recount : {ms : List Move} {s p x l s' p' x' l' : ℕ} → Totals ms s p x l → s ≡ s' → p ≡ p' → x ≡ x' → l ≡ l' → Totals ms s' p' x' l'
recount h a b c d = record { transfers = h.transfers ∙ a; polls = h.polls ∙ b; xresets = h.xresets ∙ c; line_resets = h.line_resets ∙ d }

count-writes : (s a : ℕ) (ws : List ℕ) → Totals (writes s a ws) (2 * length ws) 0 0 0
unfolding writes write traffic_in polls_in
count-writes s a [] = record { transfers = refl; polls = refl; xresets = refl; line_resets = refl }
count-writes s a (w ∷ ws) =
    let h = count-writes s (a + 4) ws in
    record { transfers = omega (arith, h.transfers); polls = omega (arith, h.polls); xresets = h.xresets; line_resets = h.line_resets }

count-call : (g : Geometry) (s c w : ℕ) → Totals (call g s c w) 10 1 0 0
unfolding call write read traffic_in polls_in
count-call g s c w = record { transfers = refl; polls = refl; xresets = refl; line_resets = refl }

count-listed : (g : Geometry) (s c : ℕ) (ws : List ℕ) → Totals (listed g s c ws) (2 * length ws + 10) 1 0 0
unfolding listed
count-listed g s c ws = joined (count-writes s PARAMS ws) (count-call g s c PARAMS)

-- n pieces that count alike
count-in-turn : (f : ℕ → List Move) (t p : ℕ) → ((k : ℕ) → Totals (f k) t p 0 0) → (k n : ℕ) → Totals (in_turn f k n) (n * t) (n * p) 0 0
unfolding in_turn traffic_in polls_in
count-in-turn f t p each k zero = record { transfers = omega arith; polls = omega arith; xresets = refl; line_resets = refl }
count-in-turn f t p each k (suc n) = recount (joined (each k) (count-in-turn f t p each (suc k) n)) (omega arith) (omega arith) refl refl

pub length-words : (l : List ℕ) (o n : ℕ) → length (words_at l o n) ≡ n
unfolding words_at
length-words l o zero = refl
length-words l o (suc n) = ap suc (length-words l (o + 4) n)

count-row : (i : Image) (r : ℕ) → Totals (program_row i r) (26 + 2 * (row_bytes_of i.geometry / 4)) 2 0 0
unfolding program_row
count-row i r =
    let w = length-words i.flash (r * row_bytes_of i.geometry) (row_bytes_of i.geometry / 4) in
    recount (joined (count-listed i.geometry 5 4 _) (count-listed i.geometry 5 6 ((key 6 + r * 0x10000) ∷ []))) (omega (arith, w)) refl refl refl

count-read : (s a : ℕ) (u : Purpose) → is_poll u ≡ 0 → Totals (read s a u) 3 0 0 0
unfolding read traffic_in polls_in
count-read s a u h = record { transfers = refl; polls = omega (arith, h); xresets = refl; line_resets = refl }

-- words compared by a purpose that is no poll
count-words : (s a : ℕ) (u : ℕ → Purpose) → ((o : ℕ) → is_poll (u o) ≡ 0) → (n : ℕ) → Totals (compare_words s a u n) (3 * n) 0 0 0
count-words s a u h n = recount (count-in-turn _ 3 0 (λ j. count-read s (a + 4 * j) (u (4 * j)) (h (4 * j))) 0 n) (omega arith) (omega arith) refl refl

count-verify-row : (g : Geometry) (r : ℕ) → Totals (verify_row g r) (3 * (row_bytes_of g / 4)) 0 0 0
unfolding verify_row
count-verify-row g r = count-words 6 _ (FlashWord r) (λ o. refl) (row_bytes_of g / 4)

count-lock : (i : Image) (m : ℕ) → Totals (lock_macro i m) (24 + 2 * (locks_in i.geometry m / 4)) 2 0 0
unfolding lock_macro
count-lock i m =
    let w = length-words i.protection (lock_start i.geometry m) (locks_in i.geometry m / 4) in
    recount (joined (count-listed i.geometry 7 4 _) (count-call i.geometry 7 0x0D _)) (omega (arith, w)) refl refl refl

count-verify : (g : Geometry) (m : ℕ) → Totals (verify_macro g m) (3 * (locks_in g m / 4)) 0 0 0
unfolding verify_macro
count-verify g m = count-words 8 _ (LockWord m) (λ o. refl) (locks_in g m / 4)

count-privileged : (g : Geometry) (s : ℕ) (u : Purpose) → is_poll u ≡ 0 → Totals (privileged g s u) 13 1 0 0
unfolding privileged call write read traffic_in polls_in
count-privileged g s u h = record { transfers = refl; polls = omega (arith, h); xresets = refl; line_resets = refl }

count-silicon : (g : Geometry) (u : Purpose) → is_poll u ≡ 0 → Totals (silicon g u) 16 1 0 0
unfolding silicon call write read traffic_in polls_in
count-silicon g u h = record { transfers = refl; polls = omega (arith, h); xresets = refl; line_resets = refl }

count-imo : (g : Geometry) (n : ℕ) → n ≤ 1 → Totals (imo_call g n) (10 * n) n 0 0
unfolding imo_call traffic_in polls_in
count-imo g zero h = record { transfers = refl; polls = refl; xresets = refl; line_resets = refl }
count-imo g (suc n) h = recount (count-call g 1 0x15 _) (omega arith) (omega arith) refl refl

count-acquire : (g : Geometry) → Facts g → Totals (acquire g) (12 + 10 * imo_of g) (1 + imo_of g) 1 1
unfolding acquire write read traffic_in polls_in
count-acquire g f =
    let h = count-imo g (imo_of g) f.imo in
    record { transfers = omega (arith, h.transfers); polls = omega (arith, h.polls); xresets = omega (arith, h.xresets); line_resets = omega (arith, h.line_resets) }

module _ (i : Image) (f : Facts i.geometry) where
  count-macro : (m : ℕ) → m < macros_of i.geometry → Totals (lock_and_verify i m) (24 + 5 * locks_in i.geometry m / 4) 2 0 0
  count-macro m low =
      recount (joined (count-lock i m) (count-verify i.geometry m)) (omega (arith, (f.locks.each m low).quads)) refl refl refl

  -- the last n macros that step 7 comes to: n - 1 down to 0
  count-macros : (k n : ℕ) → k + n ≡ macros_of i.geometry
      → Totals (in_turn (λ k. lock_and_verify i (macro_down i.geometry k)) k n) (lock_plan i.geometry n) (n * 2) 0 0
  unfolding in_turn traffic_in polls_in lock_plan
  count-macros k zero h = record { transfers = refl; polls = omega arith; xresets = refl; line_resets = refl }
  count-macros k (suc n) h =
      let down : macro_down i.geometry k ≡ n = omega arith in
      let first : Totals (lock_and_verify i (macro_down i.geometry k)) (24 + 5 * locks_in i.geometry n / 4) 2 0 0 = rw down (count-macro n (omega arith)) in
      recount (joined first (count-macros (suc k) n (omega arith))) (omega arith) (omega arith) refl refl

  count-program : Totals (program i)
      (29 + rows_of i.geometry * (26 + 5 * (row_bytes_of i.geometry / 4)) + lock_plan i.geometry (macros_of i.geometry))
      (2 + 2 * rows_of i.geometry + 2 * macros_of i.geometry) 0 0
  unfolding program
  count-program =
      let g = i.geometry in
      recount
      (joined (count-privileged g 4 Keep refl)
      (joined (count-in-turn _ _ 2 (count-row i) 0 (rows_of g))
      (joined (count-in-turn _ _ 0 (count-verify-row g) 0 (rows_of g))
      (joined (count-macros 0 (macros_of g) (omega arith))
      (joined (count-read 8 _ StoredLevel refl) (count-privileged g 9 LastSum refl))))))
      (omega arith) (omega arith) refl refl

  pub count-opening : Totals (opening i) (28 + 10 * imo_of i.geometry) (2 + imo_of i.geometry) 1 1
  unfolding opening
  count-opening = recount (joined (count-acquire i.geometry f) (count-silicon i.geometry EntryLevel refl)) (omega arith) (omega arith) refl refl

  pub plan-form : (y : Entry) → plan i.geometry y
      ≡ 69 + 10 * imo_of i.geometry + rows_of i.geometry * (26 + 5 * (row_bytes_of i.geometry / 4))
      + lock_plan i.geometry (macros_of i.geometry) + from_protected y (26 + 10 * imo_of i.geometry)
  unfolding plan
  plan-form y =
      let a : 5 * row_bytes_of i.geometry / 4 ≡ 5 * (row_bytes_of i.geometry / 4) = omega (arith, f.quads) in
      rw a

  -- the reads and writes are the plan, the polls the loops, the resets those of the acquisitions
  pub sequence-totals : (y : Entry) → Totals (sequence i y) (plan i.geometry y) (loops i.geometry y) (acquisitions y) (acquisitions y)
  unfolding sequence afterwards loops
  sequence-totals FromOpen =
      recount (joined count-opening (joined (count-listed i.geometry 3 0x0A (key 0x0A ∷ [])) count-program))
      (omega (arith, plan-form FromOpen)) (omega arith) refl refl
  sequence-totals FromProtected =
      recount
      (joined count-opening (joined (count-call i.geometry 3 0x0D _)
      (joined (count-acquire i.geometry f) (joined (count-silicon i.geometry Reopened refl) count-program))))
      (omega (arith, plan-form FromProtected)) (omega arith) refl refl

-- a list's moves are its requests
length-traffic : (ms : List Move) → length ms ≡ total (traffic_in ms)
unfolding traffic_in
length-traffic [] = refl
length-traffic (m ∷ ms) = ap suc (length-traffic ms) ∙ sym (one_more m.request (traffic_in ms))

-- the plan's reads and writes, and each acquisition's XRES and line reset
moves-planned : (i : Image) → Facts i.geometry → (y : Entry) → length (sequence i y) ≡ plan i.geometry y + 2 * acquisitions y
moves-planned i f y =
    let t = sequence-totals i f y in
    omega (arith, length-traffic (sequence i y), t.transfers, t.xresets, t.line_resets)

pub planned : (g : Geometry) → Facts g → (y : Entry) → move_count g y ≡ plan g y + 2 * acquisitions y
planned g f y = moves-planned (bare g) f y

-- the same, for the parts of the table
pub sequence-counts : SequenceCounts
sequence-counts part macros g e h bytes y =
    let i = image_of g h bytes in
    let f = facts part macros g e in
    let t = sequence-totals i f y in
    record {
      transfers = t.transfers;
      polls = t.polls;
      xresets = t.xresets;
      line_resets = t.line_resets;
      moves = moves-planned i f y;
      counted = planned g f y ∙ sym (moves-planned i f y);
    }

-- ---- the paper's product: every macro's locks are PB

alike : (g : Geometry) (n : ℕ) → lock_plan g n ≡ n * (24 + 5 * locks_in g 0 / 4)
unfolding lock_plan
alike g zero = omega arith
alike g (suc n) = rw (locks-alike g n) (omega (arith, alike g n, suc-mul n (24 + 5 * locks_in g 0 / 4)))

pub plan-multiplied : PlanMultiplied
unfolding plan
plan-multiplied g y = rw (alike g (macros_of g))
