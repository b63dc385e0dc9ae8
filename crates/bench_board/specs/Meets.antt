-- What `meet` promises, then what the functions under it do, in the words of flow's definitions. Assumes nothing.
use Rattle.std.specs.Prelude.{Bool, cond, List, [], ◌∷◌, ◌≡◌, ℕ, Option}
use Rattle.bench_calls.specs.Board.{Buffers, ResidueBytes, call_outcome_of, target_of}
use Rattle.bench_effects.specs.declared.Act.TheVariants.{Keep}
use Rattle.bench_calls.specs.declared.Call.{Call}
use Rattle.bench_calls.specs.declared.CallOutcome.{CallOutcome}
use Rattle.bench_board.specs.declared.Decision.{Decision}
use Rattle.flow.specs.declared.LineEvent.{LineEvent}
use Rattle.bench_calls.specs.declared.Change.{Change}
use Rattle.bench_board.specs.declared.Met.{Met}
use Rattle.bench_calls.specs.declared.Registers.{Registers}
use Rattle.flow.specs.declared.Place.{Place}
use Rattle.bench_effects.specs.Acts.{buffers_after}
use Rattle.flow.specs.Exchange as Flow
use Rattle.flow.specs.Exchange.{carry, gives, calls_on, killed, silent_reply, reply_to}
use Rattle.flow.specs.Map.{place}
use Rattle.flow.specs.Packets.{is_read}
use Rattle.flow.specs.Target.{Lists, Target}
use Rattle.flow.specs.declared.Reply.{Reply}
use Rattle.flow.specs.declared.Request.{Request}
use Rattle.parts.specs.declared.Geometry.{Geometry}

-- ---- what `meet` promises: result and buffers left are what flow's `meet` makes of `target_of` (bench_calls' Board) with one event and one outcome

-- the lists that a call of `meet` is given
abbrev pub lists_of : ResidueBytes → LineEvent → CallOutcome → Lists
lists_of x e o = record { line = e ∷ []; calls = call_outcome_of x o ∷ [] }

-- what a call of `meet` gave, with the buffers as it left them
abbrev pub met_of : ResidueBytes → LineEvent → CallOutcome → Met → Buffers → Flow.Met
met_of x e o m b = record {
  target = target_of x m.registers b;
  answer = m.answer;
  lists = record {
    line = cond m.line_used [] (e ∷ []);
    calls = cond m.call_used [] (call_outcome_of x o ∷ []);
  };
}

-- ---- registers that functions give

-- the memory is left as it is
abbrev pub keeping : Registers → Change
keeping r = record { registers = r; act = Keep }

-- another SYSREQ, another posted word, and this under way
abbrev pub asking : (sysreq : ℕ) → (posted : ℕ) → Option Call → Registers → Registers
asking w p k r = record {
  silicon = r.silicon;
  stored = r.stored;
  effect = r.effect;
  sysarg = r.sysarg;
  sysreq = w;
  test_mode = r.test_mode;
  tar = r.tar;
  posted = p;
  running = k;
}

-- ---- what inner functions promise: an act is performed later, so they speak of every memory that it may be performed on

-- the lent buffers that a request reads
pub record BuffersRead : Type 0 where
  pub flash : List ℕ
  pub locks : List ℕ
  pub params : List ℕ

abbrev pub buffers_read : (flash locks params : List ℕ) → BuffersRead
buffers_read f l p = record { flash = f; locks = l; params = p }

-- registers and memory after are the target that f makes of the one before, if flash, locks and PARAMS are these
abbrev pub MakesIn : BuffersRead → Registers → Change → (ResidueBytes → Target → Target) → Type 0
MakesIn v r n f =
    (x : ResidueBytes) (b : Buffers) → b.flash ≡ v.flash → b.locks ≡ v.locks → b.params ≡ v.params
    → target_of x n.registers (buffers_after x n.act b) ≡ f x (target_of x r b)

-- ---- transfers

-- a request to carry out, the word read where nothing is, and how a call that it starts will go
pub record Carried : Type 0 where
  pub request : Request
  pub other : ℕ
  pub call : CallOutcome

abbrev pub carried : Request → (other : ℕ) → CallOutcome → Carried
carried q w o = record { request = q; other = w; call = o }

-- a request carried out where TAR points
abbrev pub Carries : Geometry → BuffersRead → Carried → Place → Registers → Change → Type 0
Carries g v k p r n = p ≡ place g r.tar → MakesIn v r n (λ x t. carry g k.request k.other (call_outcome_of x k.call) t)

-- the word that a read gives
abbrev pub Gives : Request → Registers → (word : ℕ) → Type 0
Gives q r w = (x : ResidueBytes) (b : Buffers) → w ≡ gives q (target_of x r b)

-- whether a call takes its entry
abbrev pub Calls : Request → Place → Bool → Type 0
Calls q p s = (g : Geometry) (t : Target) → p ≡ place g t.tar → s ≡ calls_on g q t

-- the answer to a transfer, barred or not
abbrev pub Replies : Request → LineEvent → (bars : Bool) → Registers → Reply → Type 0
Replies q e bars r a =
    (x : ResidueBytes) (b : Buffers)
    → a ≡ cond (killed (target_of x r b)) (silent_reply e.filler) (reply_to e.outcome bars (is_read q) (gives q (target_of x r b)) e.filler)

-- ---- packets

-- what a decision comes to, once its act is performed
abbrev pub met_by : ResidueBytes → LineEvent → CallOutcome → Decision → Buffers → Flow.Met
met_by x e o d b =
    met_of x e o
    (record { registers = d.change.registers; answer = d.answer; line_used = d.line_used; call_used = d.call_used })
    (buffers_after x d.change.act b)

-- a packet is met as f says, if flash, locks and PARAMS are these
abbrev pub Decides : BuffersRead → Registers → LineEvent → CallOutcome → Decision → (Lists → Target → Flow.Met) → Type 0
Decides v r e o d f =
    (x : ResidueBytes) (b : Buffers) → b.flash ≡ v.flash → b.locks ≡ v.locks → b.params ≡ v.params → met_by x e o d b ≡ f (lists_of x e o) (target_of x r b)
