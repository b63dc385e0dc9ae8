-- What demand 3 leaves free, and the most that it allows, hold as stated. Assumes nothing.
use mathlib.Core.Bool.{true}
use mathlib.Core.List.{List, [], ◌∷◌}
use mathlib.Core.Path.{◌≡◌, refl}
use Prim.Native.Nat.{ℕ, suc}
use lib.ListN.{get_or}
use Rattle.flow.specs.Terms.{CalmLine, calm_end, calm_event, CalmCalls, calls_end, calm_call}
use Rattle.flow.specs.Plan.{plan, lock_plan, loops, most_traffic}
use Rattle.flow.specs.Target.{CallOutcome, next_event, next_outcome}
use Rattle.flow.specs.declared.LineEvent.{LineEvent}
use Rattle.flow.specs.declared.TransferOutcome.TheVariants.{Clean}
use Rattle.flow.specs.Starts.{FreeStarts, MostExamples}
use Rattle.parts.specs.Sizes.{rows_of, locks_in}

-- entries that are calm one by one
calm-line : (l : List LineEvent) → ((j : ℕ) → (get_or l j (next_event [])).outcome ≡ Clean) → CalmLine l
calm-line [] h = calm_end
calm-line (e ∷ es) h = calm_event (h 0) (calm-line es (λ j. h (suc j)))

calm-calls : (l : List CallOutcome) → ((j : ℕ) → ((get_or l j (next_outcome [])).busy_reads ≡ 0) × ((get_or l j (next_outcome [])).succeeds ≡ true)) → CalmCalls l
calm-calls [] h = calls_end
calm-calls (o ∷ os) h = calm_call (h 0).0 (h 0).1 (calm-calls os (λ j. h (suc j)))

pub free-starts : FreeStarts
free-starts = record {
  board =
      λ g b ids sizes level quiet. record {
        flash = sizes.flash;
        locks = sizes.locks;
        latch = sizes.latch;
        params = sizes.params;
        high = ids.high;
        low = ids.low;
        revision = ids.revision;
        family = ids.family;
        level = level;
        quiet = quiet;
      };
  image = λ g h bytes found checked small. record { found = found; checked = checked; small = small };
  calm = λ l line calls. record { line = calm-line l.line line; calls = calm-calls l.calls calls };
}

pub most-examples : MostExamples
unfolding most_traffic plan lock_plan loops rows_of locks_in
most-examples = record { part1 = refl; part1_protected = refl; part3 = refl; part3_protected = refl }
