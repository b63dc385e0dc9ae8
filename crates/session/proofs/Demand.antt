-- Demand 3 over calls, from demand 3 on the definitions. Assumes nothing.
use mathlib.Core.Bool.{Bool, true, false, cond}
use mathlib.Core.List.{List, ◌++◌}
use mathlib.Core.Path.{◌≡◌, refl, sym, ap, subst, ◌∙◌}
use Prim.Native.Nat.{ℕ, zero, suc, ◌≤◌, ◌<◌}
use native.Mathlib.Omega.{arith}
use lib.ListN.{length, take-append-drop}
use borrow.Author.Tests.{lt-ltb}
use Rattle.flow.proofs.Demand.{run-demand3-holds}
use Rattle.flow.proofs.Counting.{adds, never-fewer}
use Rattle.flow.proofs.Early.{early-spared}
use Rattle.flow.proofs.Sparing.{other-part-spared}
use Rattle.flow.proofs.Undisturbed.{after-used, undisturbed-holds}
use Rattle.flow.specs.Claim.{Undisturbed}
use Rattle.flow.specs.Terms.{Passes, Startable, Calm, entry_of, Used, entries}
use Rattle.flow.specs.Plan.{Traffic, counting, plan, loops, most_traffic}
use Rattle.flow.specs.Run.{Run, advance, run_after, started, handed_out_by}
use Rattle.flow.specs.Sequence.{sequence, opening, acquire}
use Rattle.flow.specs.Session.{running, reported, move_at, at_start, no_counts}
use Rattle.flow.specs.Session as Flow
use Rattle.flow.specs.Target.{Target, Lists}
use Rattle.flow.specs.declared.Entry.{Entry}
use Rattle.flow.specs.declared.Entry.TheVariants.{FromOpen, FromProtected}
use Rattle.flow.specs.declared.Request.{Request}
use Rattle.image.proofs.Refusals.{Passed, all-passed}
use Rattle.image.specs.Checks.{image_fault}
use Rattle.image.specs.Image.{Image, image_of}
use Rattle.image.specs.declared.Header.{Header}
use Rattle.flow.specs.Session.{move_count}
use Rattle.parts.specs.Parts.{lookup_of}
use Rattle.parts.specs.Sizes.{flash_size, image_size}
use Rattle.parts.specs.declared.Geometry.{Geometry}
use Rattle.session.specs.Calls.{State, Steps, begun}
use Rattle.session.specs.Claim.{lent, Demand3, Demand3Holds}
use Rattle.session.specs.Spared.{Spared, SparedHolds}
use Rattle.session.specs.Given.{start_of, started_on, start_refused, wants_leave, outcome_at}
use Rattle.session.specs.Possible.{header_fits, running_fits, possible_in}
use Rattle.session.specs.Sessions.{most_of, first_for}
use Rattle.session.specs.declared.Report.{Report}
use Rattle.session.proofs.Counted.{count_in, count-step}
use Rattle.session.proofs.Following.{Follows, follow, follow-gives, follow-repeats}
use Rattle.session.proofs.Places.{opening-in}
use Rattle.std.specs.Prelude.{Ok}
use Rattle.session.proofs.Possibility.{both_true, whole}
use Rattle.session.specs.Outcomes.{Given, Refused, Reported}

-- ---- what an image that passes says

module _ (g : Geometry) (h : Header) (bytes : List ℕ) (found : lookup_of h.part h.macros ≡ Ok g) (none : image_fault h bytes ≡ 0) where
  pub all : Passed g h bytes
  all = all-passed g h bytes found none

  header : header_fits g h ≡ true
  header = both_true (both_true all.version all.id) all.level

  -- the session that starting gives is possible
  pub first-possible : possible_in g (first_for h) ≡ true
  first-possible =
      let room : 0 < move_count g FromOpen = omega (arith, opening-in (image_of g h bytes) FromOpen) in
      let stand : running_fits g at_start no_counts ≡ true = both_true (both_true (both_true (lt-ltb 0 (move_count g FromOpen) room) refl) refl) refl in
      whole g (first_for h) (record { header = header; count = omega arith; stands = stand })

-- ---- what an unrefused start says

module _ (h : Header) (bytes : List ℕ) (none : image_fault h bytes ≡ 0) where
  -- what starting gives
  pub start_gives : (leave : Bool) → ((n : ℕ) → ¬ ((start_of h bytes leave).outcome ≡ Refused n)) → start_of h bytes leave ≡ started_on h
  unfolding start_of
  start_gives leave free = by (wants_leave h leave) refl
    where
      is : start_of h bytes leave ≡ cond (wants_leave h leave) (start_refused 15) (started_on h)
      is = simp none

      by : (t : Bool) → wants_leave h leave ≡ t → start_of h bytes leave ≡ started_on h
      by true e = let q : start_of h bytes leave ≡ start_refused 15 = is ∙ simp e in absurd (free 15 (ap (λ (r : Given). r.outcome) q))
      by false e = is ∙ simp e

module _ (g : Geometry) (h : Header) (bytes : List ℕ) (p : Passes g h bytes) where
  pub first-follows : (b : Target) (l : Lists) → Follows g h bytes p.found (all g h bytes p.found p.checked).size (begun (started_on h) b l) (started b l)
  unfolding sequence opening acquire
  first-follows b l = record {
    header = refl;
    can = first-possible g h bytes p.found p.checked;
    session = refl;
    stands = refl;
    target = refl;
    lists = refl;
    monitor = refl;
    traffic = refl;
    count = refl;
  }

-- ---- the count of a run never meets the stop

grows : (q : Request) (t : Traffic) → t.transfers ≤ (counting q t).transfers
grows q t = omega (arith, (adds q t).transfers)

handed-xresets : (i : Image) (x : Flow.SessionState) (t : Traffic) → t.xresets ≤ (handed_out_by i x t).xresets
handed-xresets i (running o d h) t = never-fewer (move_at i o).request t
handed-xresets i (reported x s h) t = omega arith

handed-more : (i : Image) (x : Flow.SessionState) (t : Traffic) → t.transfers ≤ (handed_out_by i x t).transfers
handed-more i (running o d h) t = grows (move_at i o).request t
handed-more i (reported x s h) t = omega arith

count-run : (i : Image) (k : ℕ) (r : Run) → count_in r.session ≡ r.traffic.transfers
    → count_in (run_after i k r).session ≡ (run_after i k r).traffic.transfers
unfolding run_after advance
count-run i zero r e = e
count-run i (suc k) r e = count-run i k (advance i r) (count-step i r.session r e refl)

most-from : (g : Geometry) (y : Entry) → (most_traffic g y).transfers ≤ most_of g
unfolding most_traffic plan loops
most-from g FromOpen = omega arith
most-from g FromProtected = omega arith

-- ---- a report that stands

pub reported-session : (i : Image) (x : Flow.SessionState) (r : Report) → outcome_at i x ≡ Reported r → x ≡ reported r.number r.step r.transfers
reported-session i (running o d h) r e = let z : ◌≡◌ {A = ℕ} 0 1 = cc in absurd (omega arith)
reported-session i (reported x t h) r e =
    let same : record { number = x; step = t; transfers = h } ≡ r = cc in
    ap (λ (z : Report). reported z.number z.step z.transfers) same

-- the image as it is lent is its bytes
lent-whole : (g : Geometry) (h : Header) (bytes : List ℕ) → lent (image_of g h bytes) ≡ bytes
lent-whole g h bytes = take-append-drop (flash_size g) bytes

module _ (g : Geometry) (h : Header) (bytes : List ℕ) (p : Passes g h bytes) (b : Target) (may : Startable g b) (l : Lists) (n : ℕ) where
  abbrev i : Image
  i = image_of g h bytes

  abbrev run : Run
  run = run_after i n (started b l)

  abbrev size : length bytes ≡ image_size g
  size = (all g h bytes p.found p.checked).size

  pub low : (k : ℕ) → count_in (run_after i k (started b l)).session ≤ most_of g
  low k =
      let r = run_after i k (started b l) in
      let d = run-demand3-holds g h bytes p b may l k in
      omega (arith, count-run i k (started b l) refl, handed-more i r.session r.traffic, d.transfers, most-from g (entry_of b))

  module _ (s : State) (f : Follows g h bytes p.found size s run) where
    as-run : (r : Report) → s.stands ≡ Reported r → run.session ≡ reported r.number r.step r.transfers
    as-run r e = reported-session i run.session r (sym f.stands ∙ e)

    -- the entries used are those of the run
    abbrev u : Used l run.lists
    u = after-used i n (started b l)

    abbrev spent : Used l s.lists
    spent = record {
      line = u.line;
      calls = u.calls;
      line_is = u.line_is ∙ ap (λ (x : Lists). u.line ++ x.line) (sym f.lists);
      calls_is = u.calls_is ∙ ap (λ (x : Lists). u.calls ++ x.calls) (sym f.lists);
    }

    undisturbed : Calm (entries spent) → Undisturbed i b run
    undisturbed calm = undisturbed-holds g h bytes p b may l n u calm

    claim : Demand3 i b l n s
    claim =
        let d = run-demand3-holds g h bytes p b may l n in
        record {
          never_virgin = λ e. d.never_virgin (ap (λ (t : Target). t.memory.stored) (sym f.target) ∙ e);
          transfers = rw f.traffic d.transfers;
          xresets = rw f.traffic d.xresets;
          line_resets = rw f.traffic d.line_resets;
          gives = λ q e. rw (lent-whole g h bytes) (follow-gives g h bytes p.found size s run q f e);
          repeats = λ a r e. rw (lent-whole g h bytes) (follow-repeats g h bytes p.found size s run a r f e);
          comes = λ late.
              let c = d.comes late in
              record { report = record { number = c.number; step = c.step; transfers = c.sent }; is = f.stands ∙ ap (outcome_at i) c.is };
          counted = λ r e. rw f.traffic (d.counted r.number r.step r.transfers (as-run r e));
          exactly = λ r e. rw f.monitor (d.exactly r.number r.step r.transfers (as-run r e));
          number = λ r e. rw f.monitor (d.number r.number r.step r.transfers (as-run r e));
          done = λ r e z.
              let c = d.done r.step r.transfers (as-run r e ∙ ap (λ (k : ℕ). reported k r.step r.transfers) z) in
              rw (f.target, f.monitor) (record { at_end = c.at_end; flash = c.flash; locks = c.locks; level = c.level; planned = c.planned });
          used = spent;
          provoked = λ c. rw f.monitor (undisturbed c).clean;
          calm = λ c right r e. (undisturbed c).done right r.number r.step r.transfers (as-run r e);
        }

    spared : Spared i b s
    spared = record {
      other_part = λ wrong. rw f.target (other-part-spared g h bytes p b may l n wrong);
      early = λ r e low few.
          let few' : run.traffic.xresets ≤ 1 = omega (arith, rw f.traffic at few, handed-xresets i run.session run.traffic) in
          rw f.target (early-spared i b may.quiet l n r.number r.step r.transfers (as-run r e) low few');
    }

-- every list of calls follows the run
module _ (g : Geometry) (h : Header) (bytes : List ℕ) (leave : Bool) (p : Passes g h bytes) (free : (number : ℕ) → ¬ ((start_of h bytes leave).outcome ≡ Refused number)) where
  pub followed : (b : Target) → Startable g b → (l : Lists) (n k : ℕ) (s : State) → Steps g bytes n k (begun (start_of h bytes leave) b l) s
      → Follows g h bytes p.found (all g h bytes p.found p.checked).size s (run_after (image_of g h bytes) n (started b l))
  followed b may l n k s steps =
      follow g h bytes p.found (all g h bytes p.found p.checked).size n k (begun (start_of h bytes leave) b l) s (started b l)
      (subst (λ (r : Given). Follows g h bytes p.found (all g h bytes p.found p.checked).size (begun r b l) (started b l))
      (sym (start_gives h bytes p.checked leave free)) (first-follows g h bytes p b l))
      (low g h bytes p b may l n) steps

pub demand3 : Demand3Holds
demand3 g h bytes leave p free b may l n k s steps = claim g h bytes p b may l n s (followed g h bytes leave p free b may l n k s steps)

pub spared-holds : SparedHolds
spared-holds g h bytes leave p free b may l n k s steps = spared g h bytes p b may l n s (followed g h bytes leave p free b may l n k s steps)
