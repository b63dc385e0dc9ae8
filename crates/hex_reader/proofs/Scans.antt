-- How far the reading loop has come, and one turn of it: text's proofs/Scans.antt at a position and an upper half. Assumes nothing.
use mathlib.Core.List.{List}
use mathlib.Core.Path.{◌≡◌}
use Prim.Native.Nat.{ℕ, ◌≤◌}
use native.Mathlib.Omega.{arith}
use lib.ListN.{length, get_or}
use Rattle.hex_format.specs.HexFormat.{intel_hex}
use Rattle.hex_format.specs.Turns.{content_at, TurnAt}
use Rattle.hex_format.specs.declared.Turn.TheVariants.{Done, Store}
use Rattle.refusals.specs.Refusals.{refusal_number}
use Rattle.refusals.specs.declared.Refusal.{Refusal}
use Rattle.std.specs.Prelude.{Ok, Err}
use Rattle.sections.specs.Sections.{sections_of, no_section}
use Rattle.sections.specs.declared.Section.{Section}
use Rattle.parts.specs.declared.Geometry.{Geometry}
use Rattle.text.proofs.Lending.{Stored}
use Rattle.text.proofs.Scans as scans
use Rattle.text.specs.Scanning.{ToFill, advanced_of, ScannedAs}
use Rattle.text.specs.declared.Due.{Due}

pub record Here (g : Geometry) (text : List ℕ) (b₀ : scans.Buffers) (b : scans.Filling) (at upper : ℕ) : Type 0 where
  pub at-le : at ≤ length text
  pub there : scans.Here intel_hex text g (content_at text at upper) b₀ b

module _ (g : Geometry) (text image₀ header₀ : List ℕ) (z : ToFill g image₀ header₀) where
  pub here-start : (s : Section) → s ≡ get_or (sections_of g) 0 no_section → Here g text (scans.buffers image₀ header₀) (scans.filling image₀ header₀ (record { section = s; next = 1 })) 0 0
  here-start s e = record { at-le = omega arith; there = scans.here-start intel_hex text g image₀ header₀ z s e }

  module _ {image header : List ℕ} {at upper : ℕ} {due : Due} (h : Here g text (scans.buffers image₀ header₀) (scans.filling image header due) at upper) (row : List ℕ) where
    pub here-stop : (k : Refusal) → TurnAt text at upper due.section (Err k) row → ScannedAs intel_hex text g (Err k) image header
    here-stop k turn = scans.here-stop intel_hex text g image₀ header₀ z h.there (refusal_number k) turn

    pub here-done : TurnAt text at upper due.section (Ok Done) row → ScannedAs intel_hex text g (Ok tt) image header
    here-done turn = scans.here-done intel_hex text g image₀ header₀ z h.there turn.0 turn.1

    pub here-store : (count next : ℕ) → TurnAt text at upper due.section (Ok (Store count next)) row
        → (image' header' : List ℕ) (due' : Due)
        → length image' ≡ length image
        → length header' ≡ length header
        → Stored g due.section row 4 count image header image' header'
        → due' ≡ advanced_of g due count
        → Here g text (scans.buffers image₀ header₀) (scans.filling image' header' due') next upper
    here-store count next turn image' header' due' ki kh is ed =
        record {
          at-le = turn.2;
          there =
              scans.here-store intel_hex text g image₀ header₀ z h.there (content_at text next upper) row 4 count turn.0 turn.3 turn.6
              turn.5 image' header' due' ki kh is ed;
        }
