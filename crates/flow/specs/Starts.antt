-- What demand 3 leaves free and what it allows at most: nobody asks more of an image, a board or a list than stands here. Assumes nothing.
use Rattle.std.specs.Prelude.{true, List, [], ◌⊎◌, ◌≡◌, ℕ, ◌+◌, ◌/◌, ◌≤◌, ◌<◌, length, get_or, Ok}
use Rattle.flow.specs.Terms.{Passes, Startable, Calm}
use Rattle.flow.specs.Examples.{part_one, two_macros}
use Rattle.flow.specs.Plan.{most_traffic}
use Rattle.flow.specs.Target.{Target, Memory, idle, Lists, next_event, next_outcome}
use Rattle.flow.specs.declared.Entry.TheVariants.{FromOpen, FromProtected}
use Rattle.flow.specs.declared.Silicon.{Silicon}
use Rattle.flow.specs.declared.TransferOutcome.TheVariants.{Clean}
use Rattle.image.specs.Checks.{image_fault}
use Rattle.image.specs.declared.Header.{Header}
use Rattle.parts.specs.Parts.{lookup_of}
use Rattle.parts.specs.Sizes.{row_bytes_of, flash_size, lock_total}
use Rattle.parts.specs.declared.Geometry.{Geometry}

pub record ByteIDs (x : Silicon) : Type 0 where
  pub high : x.high < 256
  pub low : x.low < 256
  pub revision : x.revision < 256
  pub family : x.family < 256

pub record SizesOf (g : Geometry) (m : Memory) (words : List ℕ) : Type 0 where
  pub flash : length m.flash ≡ flash_size g
  pub locks : length m.locks ≡ lock_total g
  pub latch : length m.latch ≡ row_bytes_of g
  pub params : 2 + row_bytes_of g / 4 ≤ length words

pub record FreeStarts : Type 0 where
  -- 'Sizes and addresses are those of the image's part and M; the IDs .. are free', and so is all else but the stored level and that no call runs
  pub board : (g : Geometry) (b : Target) → ByteIDs b.silicon → SizesOf g b.memory b.params → (b.memory.stored ≡ 1) ⊎ (b.memory.stored ≡ 2)
      → b.running ≡ idle
      → Startable g b
  -- 'an image that document 01's checks let pass'
  pub image : (g : Geometry) (h : Header) (bytes : List ℕ) → lookup_of h.part h.macros ≡ Ok g → image_fault h bytes ≡ 0
      → ((j : ℕ) → get_or bytes j 0 < 256)
      → Passes g h bytes
  -- 'nothing waits or is busy': lists of any length, whatever else is free in their entries
  pub calm : (l : Lists) → ((j : ℕ) → (get_or l.line j (next_event [])).outcome ≡ Clean)
      → ((j : ℕ) → ((get_or l.calls j (next_outcome [])).busy_reads ≡ 0) × ((get_or l.calls j (next_outcome [])).succeeds ≡ true)) → Calm l

-- '17 × (plan + 29997 × loops + 29 × A) transfers, A XRES and 30 × A line resets', worked out; the last is the largest
pub record MostExamples : Type 0 where
  pub part1 : most_traffic part_one FromOpen ≡ record { transfers = 265637716; xresets = 1; line_resets = 30 }
  pub part1_protected : most_traffic part_one FromProtected ≡ record { transfers = 267168668; xresets = 2; line_resets = 60 }
  pub part3 : most_traffic two_macros FromOpen ≡ record { transfers = 1052208183; xresets = 1; line_resets = 30 }
  pub part3_protected : most_traffic two_macros FromProtected ≡ record { transfers = 1053229016; xresets = 2; line_resets = 60 }
