-- What demand 3 speaks of: an image that passes, a target that may start, the right part, calm lists, the entries used. Assumes nothing.
use Rattle.std.specs.Prelude.{true, cond, List, [], ◌∷◌, ◌++◌, ◌⊎◌, ◌≡◌, ℕ, ◌+◌, ◌/◌, ◌≤◌, ◌<◌, eqb, length, get_or, Ok}
use Rattle.flow.specs.Monitor.{Monitor, watching, link_error, delayed}
use Rattle.flow.specs.Target.{Target, idle, CallOutcome, Lists}
use Rattle.flow.specs.declared.Entry.{Entry}
use Rattle.flow.specs.declared.Entry.TheVariants.{FromOpen, FromProtected}
use Rattle.flow.specs.declared.LineEvent.{LineEvent}
use Rattle.flow.specs.declared.Silicon.{Silicon}
use Rattle.flow.specs.declared.TransferOutcome.TheVariants.{Clean}
use Rattle.image.specs.Checks.{metadata_at, image_fault}
use Rattle.image.specs.Image.{Image}
use Rattle.image.specs.declared.Header.{Header}
use Rattle.parts.specs.Parts.{lookup_of, low_fits}
use Rattle.parts.specs.Sizes.{row_bytes_of, flash_size, lock_total}
use Rattle.parts.specs.declared.Geometry.{Geometry}

-- an image that the checks let pass: 11, 12, 6 to 10; the lent bytes are bytes
pub record Passes (g : Geometry) (h : Header) (bytes : List ℕ) : Type 0 where
  pub found : lookup_of h.part h.macros ≡ Ok g
  pub checked : image_fault h bytes ≡ 0
  pub small : (j : ℕ) → get_or bytes j 0 < 256

-- a target that a session may be started on: 'Sizes and addresses are those of the image's part and M', ID bytes, OPEN or
-- PROTECTED stored, no call running; all else is free
pub record Startable (g : Geometry) (b : Target) : Type 0 where
  pub flash : length b.memory.flash ≡ flash_size g
  pub locks : length b.memory.locks ≡ lock_total g
  pub latch : length b.memory.latch ≡ row_bytes_of g
  pub params : 2 + row_bytes_of g / 4 ≤ length b.params
  pub high : b.silicon.high < 256
  pub low : b.silicon.low < 256
  pub revision : b.silicon.revision < 256
  pub family : b.silicon.family < 256
  pub level : (b.memory.stored ≡ 1) ⊎ (b.memory.stored ≡ 2)
  pub quiet : b.running ≡ idle

-- 'the right part is one that 16 and 20 let pass'
pub record RightPart (i : Image) (x : Silicon) : Type 0 where
  pub idcode : x.idcode ≡ 0x0BB11477
  pub high : x.high ≡ metadata_at i.header 2
  pub family : x.family ≡ metadata_at i.header 5
  pub low : low_fits i.geometry.part x.low ≡ true

abbrev pub NoError : Monitor → Type 0
NoError m = (number : ℕ) → ¬ (m ≡ link_error number)

-- free lists without mishap and without delay
pub data CalmLine : List LineEvent → Type 0 where
  calm_end : CalmLine []
  calm_event : {e : LineEvent} {es : List LineEvent} → e.outcome ≡ Clean → CalmLine es → CalmLine (e ∷ es)

pub data CalmCalls : List CallOutcome → Type 0 where
  calls_end : CalmCalls []
  calm_call : {o : CallOutcome} {os : List CallOutcome} → o.busy_reads ≡ 0 → o.succeeds ≡ true → CalmCalls os → CalmCalls (o ∷ os)

pub record Calm (l : Lists) : Type 0 where
  pub line : CalmLine l.line
  pub calls : CalmCalls l.calls

abbrev pub entry_of : Target → Entry
entry_of b = cond (eqb b.memory.stored 2) FromProtected FromOpen

-- what the monitor has counted
abbrev pub delays_in : Monitor → ℕ
delays_in (watching x) = delayed x.delays
delays_in (link_error n) = 0

-- the entries that were used: what the lists have lost
pub record Used (l left : Lists) : Type 0 where
  pub line : List LineEvent
  pub calls : List CallOutcome
  pub line_is : l.line ≡ line ++ left.line
  pub calls_is : l.calls ≡ calls ++ left.calls

abbrev pub entries : {l left : Lists} → Used l left → Lists
entries u = record { line = u.line; calls = u.calls }
