-- A turn on what the board and the session promise. Assumes nothing.
use mathlib.Core.List.{List}
use mathlib.Core.Path.{◌≡◌, ap, ◌∙◌}
use Prim.Native.Nat.{ℕ}
use Rattle.bench_calls.specs.Board.{Buffers, target_of}
use Rattle.bench_board.specs.Meets.{lists_of, met_of}
use Rattle.bench_calls.specs.declared.CallOutcome.{CallOutcome}
use Rattle.flow.specs.declared.LineEvent.{LineEvent}
use Rattle.bench_board.specs.declared.Met as Code
use Rattle.dry.specs.Playing.{nothing, calm_event, calm_outcome, Moment, moment, board_at, meets, Turns}
use Rattle.dry.proofs.Meets.{handed, same_met}
use Rattle.flow.specs.Exchange.{Met, meet}
use Rattle.flow.specs.declared.Packet.{Packet}
use Rattle.parts.specs.declared.Geometry.{Geometry}
use Rattle.session.specs.Calls.{standing}
use Rattle.session.specs.Given.{step_with}
use Rattle.session.specs.Outcomes.{Given, Outcome, Ask}

module _ (g : Geometry) (bytes : List ℕ) (p : Packet) (z : Moment) (b' : Buffers) (m : Code.Met) where
  -- handed an OK and a success, the board met the packet as it does without mishap
  calm_met : (e : LineEvent) (o : CallOutcome) → e ≡ calm_event → o ≡ calm_outcome
      → met_of nothing e o m b' ≡ meet g p (lists_of nothing e o) (board_at z)
      → (target_of nothing m.registers b' ≡ (meets g p z).target) × (m.answer ≡ (meets g p z).answer)
  calm_met e o h k f =
      let q : meet g p (lists_of nothing e o) (board_at z) ≡ meet g p handed (board_at z) = rw (h, k) in
      let s = same_met g (board_at z) p in
      (ap (λ (y : Met). y.target) (f ∙ q) ∙ s.target, ap (λ (y : Met). y.answer) (f ∙ q) ∙ s.answer)

  pub turn-taken : {e : LineEvent} {o : CallOutcome} {x : Given} {n : Outcome} → e ≡ calm_event → o ≡ calm_outcome
      → met_of nothing e o m b' ≡ meet g p (lists_of nothing e o) (board_at z)
      → x ≡ step_with z.session bytes m.answer
      → n ≡ standing (Ask p) x.outcome
      → Turns g bytes p z (moment x.session n m.registers b')
  turn-taken {e} {o} {x} {n} h k f i j =
      let c = calm_met e o h k f in
      let y : x ≡ step_with z.session bytes (meets g p z).answer = i ∙ ap (step_with z.session bytes) c.1 in
      record {
        target = c.0;
        session = ap (λ (z : Given). z.session) y;
        stands = j ∙ ap (λ (z : Given). standing (Ask p) z.outcome) y;
      }
