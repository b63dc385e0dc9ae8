-- A target of another part is left as it was. Assumes nothing.
use mathlib.Core.Bool.{Bool, false}
use mathlib.Core.Path.{◌≡◌, refl}
use Prim.Native.Nat.{ℕ, zero, suc}
use Rattle.flow.specs.Claim.{OtherPartSpared}
use Rattle.flow.specs.Plan.{plan, most_traffic}
use Rattle.flow.specs.Run.{Run, advance, run_after, started}
use Rattle.flow.specs.Target.{Target}
use Rattle.flow.specs.Terms.{entry_of}
use Rattle.flow.proofs.Demand.{right-part, stays, goes}
use Rattle.flow.proofs.Entering.{start-reaches}
use Rattle.flow.proofs.Frames.{start-on-plan}
use Rattle.flow.proofs.Phases.{table-facts, valid}
use Rattle.flow.proofs.Reaches.{RightIds, Frame, going, Course, arrived, stopped, onward}
use Rattle.image.specs.Image.{Image, image_of}

module _ (i : Image) (b : Target) (wrong : RightIds i b.silicon → ⊥) where
  -- the session has reported, and nothing was altered
  record Left (r : Run) : Type 0 where
    pub ended : going r.session ≡ false
    pub same : r.target.memory ≡ b.memory

  -- every step leaves the memory as it was at the start, and no step is done
  unfoldable sparing : Frame i
  sparing = record {
    Safe = λ z m. m ≡ b.memory;
    Still = ⊥;
    Stop = λ z r. Left r;
    Goal = λ z r. ⊥;
    planned = plan i.geometry (entry_of b);
    most = most_traffic i.geometry (entry_of b);
    silicon = b.silicon;
    safe_same = λ right m m' e s. absurd (wrong right);
    safe_open = λ right m e. absurd (wrong right);
    safe_image = λ right m e. absurd (wrong right);
    safe_sealed = λ right z m e. absurd (wrong right);
    caught = λ n s b l t some bad safe. record { ended = refl; same = safe.now };
    finished = λ b l w d t right quiet holds count calm. wrong right;
    wrong_id = λ s b l x t safe h. record { ended = refl; same = safe.now };
    wrong_part = λ s b l x t safe h. record { ended = refl; same = safe.now };
  }

  spares : (n : ℕ) {z : Bool} (r : Run) → Course sparing z r → (run_after i n r).target.memory ≡ b.memory
  unfolding run_after sparing
  spares n r (arrived done) = absurd done
  spares n r (stopped left) = rw (stays i n r left.ended) left.same
  spares zero r (onward w turn more) = w.safe.now
  spares (suc n) r (onward w turn more) = spares n (advance i r) more

pub other-part-spared : OtherPartSpared
unfolding sparing
other-part-spared g h bytes p b s l n wrong =
    let i = image_of g h bytes in
    let fx = table-facts g h bytes p in
    let f = sparing i b (λ right. wrong (right-part i b.silicon right)) in
    spares i b (λ right. wrong (right-part i b.silicon right)) n (started b l)
    (start-reaches f fx (valid g h bytes p) (record { high = s.high; low = s.low; revision = s.revision; family = s.family }) b.memory
    (record { flash = s.flash; locks = s.locks; latch = s.latch }) refl (goes b s.level)
    (record { silicon = refl; memory = refl; room = s.params; quiet = s.quiet }) (start-on-plan i fx f b l refl refl (λ still. absurd still))).course
