-- What the code finds and leaves in the row is what the definitions say, by each way out. Assumes nothing.
use mathlib.Core.Bool.{true, false}
use mathlib.Core.List.{List}
use mathlib.Core.Path.{◌≡◌, refl, ◌∙◌}
use Prim.Native.Nat.{ℕ, ◌+◌, ◌*◌, ◌%◌, ◌≤◌, ◌<◌}
use borrow.Author.Tests.{eq-eqb, ne_eqb, le-leb, lt-leb}
use lib.ListN.{length, get_or}
use Rattle.hex_records.specs.Places.{frame_on, frame_of, frame_row, found_in, located, located_in, located_of, located_row}
use Rattle.hex_records.specs.declared.Found.{Found}
use Rattle.hex_records.specs.declared.Frame.{Frame}
use Rattle.hex_records.specs.declared.Located.{Located}
use Rattle.refusals.specs.declared.Refusal.{Refusal}
use Rattle.refusals.specs.declared.Refusal.TheVariants.{LineForm, RecordSum}
use Rattle.std.specs.Prelude.{Option, Some, None, Result, Ok, Err}
use Rattle.pairs.specs.Spelling.{pair_run_of, row_after, line_end}

module _ (s : List ℕ) (at : ℕ) (row : List ℕ) where
  abbrev pub Leaves : Option Frame → List ℕ → Type 0
  Leaves f row' = (f ≡ frame_of s at row) × (row' ≡ frame_row s at row)

  pub no-colon : (get_or s at 0 ≡ 58 → ⊥) → Leaves None row
  unfolding frame_of frame_row
  no-colon h = rw (ne_eqb (get_or s at 0) 58 h) (refl, refl)

  module _ (colon : get_or s at 0 ≡ 58) where
    pub no-count : (pair_run_of s (at + 1) 1 (length row)).good ≡ false → (row' : List ℕ) → row' ≡ row_after row s (at + 1) 1 → Leaves None row'
    unfolding frame_of frame_row
    no-count h row' e = rw (e, eq-eqb (get_or s at 0) 58 colon, h) (refl, refl)

    module _ (counted : (pair_run_of s (at + 1) 1 (length row)).good ≡ true) (row' : List ℕ) (e : row' ≡ row_after row s (at + 1) 1)
        (row'' : List ℕ) (e'' : row'' ≡ row_after row' s (at + 1) (get_or row' 0 0 + 5)) where
      by_count : (f : Option Frame) → f ≡ frame_on s at row' → Leaves f row''
      unfolding frame_of frame_row
      by_count f is = rw (is, e'', e, eq-eqb (get_or s at 0) 58 colon, counted) (refl, refl)

      pub no_run : (pair_run_of s (at + 1) (get_or row' 0 0 + 5) (length row')).good ≡ false → Leaves None row''
      unfolding frame_on
      no_run h = by_count None (rw h refl)

      module _ (good : (pair_run_of s (at + 1) (get_or row' 0 0 + 5) (length row')).good ≡ true) where
        pub no_end : line_end s (at + 11 + 2 * get_or row' 0 0) ≡ 0 → Leaves None row''
        unfolding frame_on
        no_end h = by_count None (rw (good, h) refl)

        pub all_there : (sum w : ℕ) → sum ≡ (pair_run_of s (at + 1) (get_or row' 0 0 + 5) (length row')).sum → w ≡ line_end s (at + 11 + 2 * get_or row' 0 0) → (w ≡ 0 → ⊥)
            → Leaves (Some (record { count = get_or row' 0 0; sum = sum; next = at + 11 + 2 * get_or row' 0 0 + w })) row''
        unfolding frame_on
        all_there sum w es ew some = by_count _ (rw (es, ew, good, ne_eqb (line_end s (at + 11 + 2 * get_or row' 0 0)) 0 (λ z. some (ew ∙ z))) refl)

  abbrev pub Locates : Located → List ℕ → Type 0
  Locates l row' = (l ≡ located_of s at row) × (row' ≡ located_row s at row)

  pub no_line : length s ≤ at → Locates (record { found = Ok None; next = 0 }) row
  unfolding located_of located_row
  no_line h = rw (le-leb (length s) at h) (refl, refl)

  module _ (here : at < length s) (f : Option Frame) (row' : List ℕ) (leaves : Leaves f row') where
    by-frame : (l : Located) → l ≡ located_in f row' → Locates l row'
    unfolding located_of located_row
    by-frame l e = rw (e, leaves.0, leaves.1, lt-leb (length s) at here) (refl, refl)

    pub not-framed : f ≡ None → Locates (located (Err LineForm) 0) row'
    not-framed e = by-frame _ (rw e refl)

    module _ (fr : Frame) (e : f ≡ Some fr) where
      pub not-summed : (fr.sum % 256 ≡ 0 → ⊥) → Locates (located (Err RecordSum) 0) row'
      not-summed h = by-frame _ (rw (e, ne_eqb (fr.sum % 256) 0 h) refl)

      pub recorded : fr.sum % 256 ≡ 0 → (r : Result Found Refusal) → r ≡ found_in row' fr.count → Locates (located r fr.next) row'
      recorded h r er = by-frame _ (rw (er, e, eq-eqb (fr.sum % 256) 0 h) refl)
