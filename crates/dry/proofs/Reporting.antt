-- From a text that was read to a board and a session that may play. Assumes nothing.
use mathlib.Core.Bool.{true, false, false≢true, ◌&&◌}
use mathlib.Core.List.{List, ◌++◌, append-nil}
use mathlib.Core.Logic.{inl}
use mathlib.Core.Path.{◌≡◌, refl, sym, ap, subst, ◌∙◌}
use Prim.Native.Nat.{ℕ, ◌≤◌}
use native.Mathlib.Omega.{arith}
use borrow.Author.Tests.{ne_eqb}
use lib.Dec.{eqb, lit≤}
use lib.ListN.{length, drop, drop_of_length-le}
use Rattle.bench_calls.specs.Board.{Buffers}
use Rattle.bench_calls.specs.declared.Registers.{Registers}
use Rattle.dry.specs.Runs.{read_number, ran_by, ran_on}
use Rattle.dry.specs.Playing.{open_for, moment, Playable, Started, DoneAsPlanned}
use Rattle.dry.specs.declared.Ran.TheVariants.{Refused}
use Rattle.dry.proofs.Taking.{TakenWell, GoodReading, reading-good}
use Rattle.flow.specs.Terms.{Passes}
use Rattle.flow.specs.Examples.{part_one}
use Rattle.hex_format.specs.Texts.{hex_reading}
use Rattle.image.proofs.Refusals.{Passed, all-passed}
use Rattle.image.specs.Checks.{metadata_at, image_fault}
use Rattle.image.specs.declared.Header.{Header}
use Rattle.parts.proofs.Table.{both}
use Rattle.parts.specs.Parts.{Lookup, part1, look_in, lookup_of, low_fits}
use Rattle.parts.specs.Sizes.{rows_of, flash_size, lock_total, image_size}
use Rattle.parts.specs.declared.Geometry.{Geometry}
use Rattle.refusals.specs.declared.Refusal.{Refusal}
use Rattle.session.specs.Given.{start_of}
use Rattle.session.specs.Outcomes.{Given, Outcome}
use Rattle.session.specs.declared.Report.{Report}
use Rattle.pairs.proofs.Capitals.{all-bytes}
use Rattle.text.specs.Reading.{ReadAnswer, Reading, Untouched, Cleared, Taken, answer_of, buffer_after}
use Rattle.std.specs.Prelude.{Ok, Err, Result, IsOkAnd, MatchResult}
use Rattle.refusals.specs.Refusals.{refusal_number}

-- ---- part 1

found_here : lookup_of 1 1 ≡ Ok part_one
unfolding look_in
found_here = refl

pub found-one : {l : Lookup} {g : Geometry} → l ≡ lookup_of 1 1 → l ≡ Ok g → g ≡ part_one
found-one {l} {g} e f = let z : Ok g ≡ Ok part_one = sym f ∙ e ∙ found_here in cc z

pub always-found : {l : Lookup} {n : Refusal} → l ≡ lookup_of 1 1 → l ≡ Err n → ⊥
always-found {l} {n} e f = let z : Err n ≡ Ok part_one = sym f ∙ e ∙ found_here in let t : false ≡ true = cc z in false≢true t

-- ---- an image that passes

module _ (h : Header) (bytes : List ℕ) (found : lookup_of h.part h.macros ≡ Ok part_one) (none : image_fault h bytes ≡ 0) where
  passed : Passed part_one h bytes
  passed = all-passed part_one h bytes found none

  size : length bytes ≡ image_size part_one
  size = passed.size

  low : low_fits part1 (metadata_at h 3) ≡ true
  low = (both (eqb (metadata_at h 2) 0x0A && eqb (metadata_at h 5) 0x9A) (low_fits part1 (metadata_at h 3)) passed.id).1

size_is : image_size part_one ≡ 16416
unfolding image_size flash_size lock_total rows_of
size_is = refl

-- ---- what was read

no_zero : {n k : ℕ} → n ≡ 0 → 1 ≤ k → n ≡ k → ⊥
no_zero e h f = omega arith

module _ (text buffer : List ℕ) (wide : 16416 ≡ length buffer) where
  abbrev reading : Reading
  reading = hex_reading 1 1 text (length buffer)

  good : GoodReading reading
  good = subst (λ (n : ℕ). GoodReading (hex_reading 1 1 text n)) wide (reading-good text)

  whole : (bytes : List ℕ) → length bytes ≡ 16416 → bytes ++ drop (length bytes) buffer ≡ bytes
  whole bytes e = rw (drop_of_length-le buffer {i = length bytes} (omega arith)) (append-nil bytes)

  pub playable : (a : ReadAnswer) (image : List ℕ) → a ≡ answer_of reading → image ≡ buffer_after reading buffer → a.number ≡ 0 → Playable a.header image
  playable a image e f z = go reading good e f
    where
      taken : (h : Header) (bytes : List ℕ) → TakenWell h bytes → image ≡ bytes ++ drop (length bytes) buffer → Playable h image
      taken h bytes w k =
          let found : lookup_of h.part h.macros ≡ Ok part_one = rw (w.part, w.macros) found_here in
          let is : image ≡ bytes = k ∙ whole bytes (size h bytes found w.checked ∙ size_is) in
          record {
            passes = subst (λ (l : List ℕ). Passes part_one h l) (sym is) (record { found = found; checked = w.checked; small = all-bytes bytes w.image });
            ids = all-bytes h.metadata w.metadata;
          }

      go : (r : Reading) → GoodReading r → a ≡ answer_of r → image ≡ buffer_after r buffer → Playable a.header image
      go (Untouched n) g e f = absurd (no_zero z g (ap (λ (x : ReadAnswer). x.number) e))
      go (Cleared n k) g e f = absurd (no_zero z g (ap (λ (x : ReadAnswer). x.number) e))
      go (Taken h bytes) g e f = subst (λ (x : ReadAnswer). Playable x.header image) (sym e) (taken h bytes g f)

  number_is : (a : ReadAnswer) → a ≡ answer_of reading → a.number ≡ read_number text
  number_is a e = ap (λ (x : ReadAnswer). x.number) e ∙ ap (λ (n : ℕ). (answer_of (hex_reading 1 1 text n)).number) (sym wide)

  pub ran-refused : (a : ReadAnswer) → a ≡ answer_of reading → (a.number ≡ 0 → ⊥) → Refused a.number ≡ ran_on text
  unfolding ran_on
  ran-refused a e z = let n = number_is a e in rw (← n, ne_eqb a.number 0 z) refl

  pub ran-done : (a : ReadAnswer) (r : Report) → a ≡ answer_of reading → a.number ≡ 0 → DoneAsPlanned r → ran_by r ≡ ran_on text
  unfolding ran_on
  ran-done a r e z d = let n : read_number text ≡ 0 = sym (number_is a e) ∙ z in rw (n, d.number, d.transfers) refl

-- a session that is done as planned is no refusal
pub done-or-none : (text : List ℕ) (x : Result Report Refusal) → ((r : Report) → DoneAsPlanned r → ran_by r ≡ ran_on text) → IsOkAnd x DoneAsPlanned
    → MatchResult x (λ r. ran_by r ≡ ran_on text) (λ e. Refused (refusal_number e) ≡ ran_on text)
done-or-none text (Ok r) h d = h r d
done-or-none text (Err e) h d = absurd d

-- ---- the board

module _ (h : Header) (bytes : List ℕ) (p : Playable h bytes) where
  pub staged : (f : Given) (o : Outcome) (r : Registers) (b : Buffers) → f ≡ start_of h bytes true → f.outcome ≡ o → r ≡ open_for h
      → length b.flash ≡ 16384 → length b.locks ≡ 32 → length b.latch ≡ 64 → length b.params ≡ 18
      → Started bytes (moment f.session o r b)
  unfolding flash_size lock_total rows_of
  staged f o r b e q k flash locks latch params =
      subst (λ (x : Registers). Started bytes (moment f.session o x b)) (sym k) (record {
        header = h;
        passes = p.passes;
        session = ap (λ (x : Given). x.session) e;
        stands = sym q ∙ ap (λ (x : Given). x.outcome) e;
        startable = record {
          flash = flash;
          locks = locks;
          latch = latch;
          params = rw params (lit≤ tt);
          high = p.ids 2;
          low = p.ids 3;
          revision = p.ids 4;
          family = p.ids 5;
          level = inl refl;
          quiet = refl;
        };
        stored = refl;
        right = record { idcode = refl; high = refl; family = refl; low = low h bytes p.passes.found p.passes.checked };
      })
