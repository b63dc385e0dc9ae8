-- Laws of putting the bench board into bytes, and of its call. Assumes nothing.
use mathlib.Core.Bool.{Bool, true, false, cond}
use mathlib.Core.List.{List, [], ◌∷◌, ◌++◌}
use mathlib.Core.Path.{◌≡◌, refl, sym, ap, ◌∙◌}
use Prim.Native.Nat.{ℕ, suc, ◌+◌, ◌%◌, ◌≤◌}
use native.Mathlib.Omega.{arith}
use lib.ListN.{length, set, length-set, length-append}
use lib.Seq.{sets, sets-eq, length-sets}
use borrow.Rule.Slice.PartMut.{put_mid}
use Rattle.std.proofs.Common.{drop-drop, append_assoc}
use Rattle.bench_calls.specs.Board.{ResidueBytes, target_of, running_of}
use Rattle.bench_board.specs.Meets.{lists_of, met_of}
use Rattle.bench_calls.specs.declared.CallOutcome.{CallOutcome}
use Rattle.bench_board.specs.declared.Met.{Met}
use Rattle.bench_calls.specs.declared.Registers.{Registers}
use Rattle.bench_calls.specs.declared.Call.{Call}
use Rattle.std.specs.Prelude.{Option, None, Some, Result, Ok, Err}
use Rattle.bench_c.specs.BoardAsked.{asked_for, asked_of}
use Rattle.bench_c.specs.BoardBytes.{silicon_bytes, run_bytes, running_bytes, words_bytes, board_bytes, answer_bytes, used_of, emptied, RunningPut, BoardPut}
use Rattle.bench_c.specs.BoardCalls.{Bench, bench_of, buffers_of, Handed, Benched, benched, bench_after, is_bench, sizes_fit, meet_for, meet_call}
use Rattle.bench_c.specs.declared.Asked.{Asked}
use Rattle.flow.specs.Exchange as Flow
use Rattle.flow.specs.Target as Target
use Rattle.flow.specs.Target.{idle, busy}
use Rattle.flow.specs.declared.LineEvent.{LineEvent}
use Rattle.flow.specs.declared.Silicon.{Silicon}
use Rattle.lent.specs.Words.{low_first}
use Rattle.layout.proofs.Bytes.{put_in}
use Rattle.lent.proofs.Lists.{sets-whole}
use Rattle.layout.specs.Bytes.{word_put}
use Rattle.refusals.specs.Refusals.{refusal_number}
use Rattle.refusals.specs.declared.Refusal.{Refusal}
use Rattle.refusals.specs.declared.Refusal.TheVariants.{Size, ImpossibleSession}
use Rattle.parts.specs.Parts.{Lookup, lookup_of}

abbrev pub answered_for : Result Asked Refusal → ResidueBytes → Bench → Benched
answered_for (Err r) x b = benched (refusal_number r) b
answered_for (Ok a) x b = benched 0 (bench_after (Flow.meet a.geometry a.packet (lists_of x a.event a.call) (target_of x a.registers (buffers_of b))))

-- ---- putting

pub flagged-put : (l m : List ℕ) (at f w : ℕ) → at + 5 ≤ length l → m ≡ word_put (set l at f) (at + 1) w → m ≡ sets l at (f ∷ low_first 4 w)
flagged-put l m at f w n h =
    let e : at + 1 ≡ suc at = omega arith in
    let g = (put_in (set l at f) m (length l) (at + 1) w (length-set l at f) (omega arith) h).0 in
    rw e at g

-- stores one after the other
module _ (b b₁ b₂ b₃ : List ℕ) (i j k : ℕ) (u v w : List ℕ) where
  three : b₁ ≡ sets b i u → b₂ ≡ sets b₁ j v → b₃ ≡ sets b₂ k w → b₃ ≡ sets (sets (sets b i u) j v) k w
  three e f g = g ∙ ap (λ (l : List ℕ). sets l k w) (f ∙ ap (λ (l : List ℕ). sets l j v) e)

  four : (b₄ : List ℕ) (n : ℕ) (x : List ℕ) → b₁ ≡ sets b i u → b₂ ≡ sets b₁ j v → b₃ ≡ sets b₂ k w → b₄ ≡ sets b₃ n x
      → b₄ ≡ sets (sets (sets (sets b i u) j v) k w) n x
  four b₄ n x e f g h = h ∙ ap (λ (l : List ℕ). sets l n x) (three e f g)

module _ (b b₁ b₂ b₃ : List ℕ) where
  pub silicon-put : (b₄ : List ℕ) (s : Silicon) → length b ≡ 46 → b₁ ≡ word_put b 0 s.idcode → b₂ ≡ sets b₁ 4 (s.high ∷ s.low ∷ [])
      → b₃ ≡ sets b₂ 6 (s.revision ∷ s.family ∷ [])
      → b₄ ≡ word_put b₃ 8 s.privileged_sum
      → b₄ ≡ sets b 0 (silicon_bytes s)
  silicon-put b₄ s n e f g h =
      let u = s.high ∷ s.low ∷ [] in
      let v = s.revision ∷ s.family ∷ [] in
      let p = put_in b b₁ 46 0 s.idcode n (omega arith) e in
      let n₃ = ap length g ∙ length-sets b₂ 6 v ∙ ap length f ∙ length-sets b₁ 4 u ∙ p.1 in
      four b b₁ b₂ b₃ 0 4 6 (low_first 4 s.idcode) u v b₄ 8 (low_first 4 s.privileged_sum) p.0 f g
      (put_in b₃ b₄ 46 8 s.privileged_sum n₃ (omega arith) h).0

  pub words-put : (b₄ b₅ : List ℕ) (r : Registers) → length b ≡ 46 → b₁ ≡ word_put b 14 r.sysarg → b₂ ≡ word_put b₁ 18 r.sysreq
      → b₃ ≡ word_put b₂ 22 r.test_mode
      → b₄ ≡ word_put b₃ 26 r.tar
      → b₅ ≡ word_put b₄ 30 r.posted
      → b₅ ≡ sets b 14 (words_bytes r.sysarg r.sysreq r.test_mode r.tar r.posted)
  words-put b₄ b₅ r n e f g h o =
      let s₁ = put_in b b₁ 46 14 r.sysarg n (omega arith) e in
      let s₂ = put_in b₁ b₂ 46 18 r.sysreq s₁.1 (omega arith) f in
      let s₃ = put_in b₂ b₃ 46 22 r.test_mode s₂.1 (omega arith) g in
      let s₄ = put_in b₃ b₄ 46 26 r.tar s₃.1 (omega arith) h in
      (put_in b₄ b₅ 46 30 r.posted s₄.1 (omega arith) o).0
      ∙ ap (λ (l : List ℕ). sets l 30 (low_first 4 r.posted))
      (four b b₁ b₂ b₃ 14 18 22 (low_first 4 r.sysarg) (low_first 4 r.sysreq) (low_first 4 r.test_mode) b₄ 26 (low_first 4 r.tar) s₁.0 s₂.0 s₃.0 s₄.0)

running-length : (r : Target.Running) → length (running_bytes r) ≡ 12
running-length idle = refl
running-length (busy n s r c) = refl

board-length : (t : Target.Target) → length (board_bytes t) ≡ 46
unfolding board_bytes
board-length t =
    let front = silicon_bytes t.silicon ++ (t.memory.stored ∷ t.effect ∷ words_bytes t.sysarg t.sysreq t.test_mode t.tar t.posted) in
    length-append front (running_bytes t.running) ∙ ap (λ (n : ℕ). 34 + n) (running-length t.running)

-- the IDs, the levels, the words, what is under way
module _ (b b₁ b₂ b₃ b₄ : List ℕ) (r : Registers) where
  pub board-put : length b ≡ 46 → b₁ ≡ sets b 0 (silicon_bytes r.silicon) → b₂ ≡ sets b₁ 12 (r.stored % 16 ∷ r.effect ∷ [])
      → b₃ ≡ sets b₂ 14 (words_bytes r.sysarg r.sysreq r.test_mode r.tar r.posted)
      → ((x : ResidueBytes) → b₄ ≡ sets b₃ 34 (running_bytes (running_of x r.running)))
      → BoardPut r b₄
  unfolding board_bytes
  board-put n e₁ e₂ e₃ e₄ x d =
      let t = target_of x r d in
      let whole : b₄ ≡ sets b 0 (board_bytes t) = four b b₁ b₂ b₃ 0 12 14 (silicon_bytes r.silicon) (r.stored % 16 ∷ r.effect ∷ []) (words_bytes r.sysarg r.sysreq r.test_mode r.tar r.posted) b₄ 34 (running_bytes (running_of x r.running)) e₁ e₂ e₃ (e₄ x) in
      whole ∙ sets-whole b (board_bytes t) (board-length t ∙ sym n)

-- the twelve bytes of what is under way, copied over a board's last
pub running-put : (l v : List ℕ) (k : Option Call) → length l ≡ 46 → ((x : ResidueBytes) → v ≡ running_bytes (running_of x k))
    → RunningPut l k (put_mid 34 12 l v)
running-put l v None n e x = rw (e x) (sym (sets-eq (run_bytes 0 0 0 0 0 0) l 34 (omega (arith, n)) ∙ simp (append_assoc, drop-drop)))
running-put l v (Some k) n e x =
    rw (e x) (sym (sets-eq (running_bytes (running_of x (Some k))) l 34 (omega (arith, n)) ∙ simp (append_assoc, drop-drop)))

-- ---- the call

used-same : {A B : Type 0} (l c : Bool) (a : A) (b : B) → used_of l c ≡ used_of (emptied (cond l [] (a ∷ []))) (emptied (cond c [] (b ∷ [])))
used-same true true a b = refl
used-same true false a b = refl
used-same false true a b = refl
used-same false false a b = refl

-- m is what flow's board gives, met
module _ (x : ResidueBytes) (e : LineEvent) (o : CallOutcome) (b' : Bench) (m : Met) (met : Flow.Met) where
  pub met-bench : met_of x e o m (buffers_of b') ≡ met → BoardPut m.registers b'.board
      → b'.answer ≡ answer_bytes m.answer (used_of m.line_used m.call_used)
      → b' ≡ bench_after met
  unfolding bench_after
  met-bench is put says =
      ap (λ (n : List ℕ). bench_of n b'.flash b'.locks b'.latch b'.params b'.answer) (put x (buffers_of b'))
      ∙ ap (λ (n : List ℕ). bench_of (board_bytes (target_of x m.registers (buffers_of b'))) b'.flash b'.locks b'.latch b'.params n) (says ∙ ap (answer_bytes m.answer) (used-same m.line_used m.call_used _ _))
      ∙ ap bench_after is

-- ---- what is asked for, answered

module _ (h : Handed) (x : ResidueBytes) (b : Bench) where
  answered_test : (k : Bool) (y : Result Asked Refusal) → cond k (answered_for y x b) (benched 13 b) ≡ answered_for (cond k y (Err ImpossibleSession)) x b
  answered_test true y = refl
  answered_test false y = refl

  answered-lookup : (l : Lookup) → meet_for l h x b ≡ answered_for (asked_for l b.board h) x b
  answered-lookup (Err r) = refl
  answered-lookup (Ok g) = answered_test (is_bench b.board h) (Ok _)

  answered-sizes : (k : Bool) (l : Lookup)
      → cond k (meet_for l h x b) (benched 12 b) ≡ answered_for (cond k (asked_for l b.board h) (Err Size)) x b
  answered-sizes true l = answered-lookup l
  answered-sizes false l = refl

  -- what the call returns and leaves is the answer to what is asked
  pub call-answered : (part macros : ℕ) (y z : Result Asked Refusal) → y ≡ asked_of part macros b.board h b.answer → y ≡ z
      → answered_for z x b ≡ meet_call part macros h x b
  unfolding meet_call
  call-answered part macros y z e f =
      ap (λ (w : Result Asked Refusal). answered_for w x b) (sym f ∙ e) ∙ sym (answered-sizes (sizes_fit b.board h b.answer) (lookup_of part macros))
