-- What a call's end and XRES do to the registers, in the words of flow's definitions: an act is performed later, so the promises speak of
-- every memory that it may be performed on. Assumes nothing.
use Rattle.std.specs.Prelude.{true, false, List, ◌≡◌, ℕ, None}
use Rattle.bench_calls.specs.Board.{Buffers, ResidueBytes, residue_of, target_of}
use Rattle.bench_calls.specs.declared.Call.{Call}
use Rattle.bench_calls.specs.declared.CallOutcome.{CallOutcome}
use Rattle.bench_calls.specs.declared.Change.{Change}
use Rattle.bench_calls.specs.declared.Registers.{Registers}
use Rattle.bench_effects.specs.Acts.{buffers_after}
use Rattle.bench_effects.specs.declared.Act.{Act}
use Rattle.flow.specs.Calls.{sysarg_after, finish, reset}
use Rattle.flow.specs.Target.{Memory, Target}
use Rattle.flow.specs.declared.Silicon.{Silicon}
use Rattle.parts.specs.declared.Geometry.{Geometry}

-- a call's end
abbrev pub ended : Registers → (stored sysarg sysreq : ℕ) → Act → Change
ended r l a q t = record {
  registers = record {
    silicon = r.silicon;
    stored = l;
    effect = r.effect;
    sysarg = a;
    sysreq = q;
    test_mode = r.test_mode;
    tar = r.tar;
    posted = r.posted;
    running = None;
  };
  act = t;
}

-- registers and memory after are the target that f makes of the one before, whatever is lent
abbrev pub Makes : Registers → Change → (ResidueBytes → Target → Target) → Type 0
Makes r n f = (x : ResidueBytes) (b : Buffers) → target_of x n.registers (buffers_after x n.act b) ≡ f x (target_of x r b)

-- the same, if flash and PARAMS are these
abbrev pub MakesOf : (flash params : List ℕ) → Registers → Change → (ResidueBytes → Target → Target) → Type 0
MakesOf fs ps r n f =
    (x : ResidueBytes) (b : Buffers) → b.flash ≡ fs → b.params ≡ ps → target_of x n.registers (buffers_after x n.act b) ≡ f x (target_of x r b)

-- the registers alone alter, as f alters the target
abbrev pub Alters : Change → Change → (Target → Target) → Type 0
Alters n m f = (m.act ≡ n.act) × ((x : ResidueBytes) (b : Buffers) → target_of x m.registers b ≡ f (target_of x n.registers b))

-- ---- calls

-- the word in SYSARG after a successful call, by the flash
abbrev pub Answers : (c : ℕ) → Silicon → (flash : List ℕ) → (word : ℕ) → Type 0
Answers c s fs w = (m : Memory) → m.flash ≡ fs → w ≡ sysarg_after c s m

-- a call that fails; its part does not matter
abbrev pub Fails : Call → Registers → Change → Type 0
Fails k r n = (g : Geometry) → Makes r n (λ x t. finish g false (residue_of x k.outcome) k.number t)

-- a call that succeeds; what a failure would leave does not matter
abbrev pub Succeeds : Geometry → (flash params : List ℕ) → (c : ℕ) → Registers → Change → Type 0
Succeeds g fs ps c r n = (o : CallOutcome) → MakesOf fs ps r n (λ x t. finish g true (residue_of x o) c t)

-- XRES; the part does not matter
abbrev pub Resets : Registers → Change → Type 0
Resets r n = (g : Geometry) → Makes r n (λ x t. reset g t)
