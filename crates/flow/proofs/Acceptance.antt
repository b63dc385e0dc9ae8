-- The worked examples of the definitions, together. The prover comes to this file before the other proofs, so that a wrong definition is
-- told by an example that it breaks, and not by a proof that names its form. Assumes nothing.
use mathlib.Core.List.{[], ◌∷◌}
use Rattle.flow.specs.BoardExamples.{TransferExamples, NoiseExamples, PacketExamples, ResetExamples, CallExamples}
use Rattle.flow.specs.Examples.{p5, p6, p7}
use Rattle.flow.specs.Judgements.{JudgeExamples}
use Rattle.flow.specs.Mishaps.{WordMishaps, LineMishaps}
use Rattle.flow.specs.OrderExamples.{OrderExamples}
use Rattle.flow.specs.SealingExamples.{SealingExamples}
use Rattle.flow.specs.SessionExamples.{MoveExamples, AnswerExamples, SessionExamples}
use Rattle.flow.specs.Starts.{FreeStarts, MostExamples}
use Rattle.flow.proofs.BoardExamples.{transfer-examples, noise-examples, packet-examples, reset-examples, call-examples}
use Rattle.flow.proofs.CutExamples.{sealing-examples}
use Rattle.flow.proofs.SessionExamples.{key-examples, judge-examples, order-examples, move-examples, answer-examples, session-examples}
use Rattle.flow.proofs.Mishaps.{word-mishaps, line-mishaps}
use Rattle.flow.proofs.Starts.{free-starts, most-examples}
use Rattle.wire.specs.Examples.{Each}

pub record Accepted : Type 0 where
  pub keys : Each (p5 ∷ p6 ∷ p7 ∷ [])
  pub moves : MoveExamples
  pub judgements : JudgeExamples
  pub answers : AnswerExamples
  pub steps : SessionExamples
  pub words : WordMishaps
  pub line : LineMishaps
  pub most : MostExamples
  pub starts : FreeStarts
  pub packets : PacketExamples
  pub transfers : TransferExamples
  pub noise : NoiseExamples
  pub resets : ResetExamples
  pub calls : CallExamples
  pub order : OrderExamples
  pub sealing : SealingExamples

pub accepted : Accepted
accepted = record {
  keys = key-examples;
  moves = move-examples;
  judgements = judge-examples;
  answers = answer-examples;
  steps = session-examples;
  words = word-mishaps;
  line = line-mishaps;
  most = most-examples;
  starts = free-starts;
  packets = packet-examples;
  transfers = transfer-examples;
  noise = noise-examples;
  resets = reset-examples;
  calls = call-examples;
  order = order-examples;
  sealing = sealing-examples;
}
