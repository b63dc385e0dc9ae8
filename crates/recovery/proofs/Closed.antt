-- With KILL stored every session comes to its report, 26. Assumes nothing.
use mathlib.Core.Path.{◌≡◌, refl, sym, ap, subst, ◌∙◌}
use Prim.Native.Nat.{ℕ, ◌-◌, ◌≤◌}
use native.Mathlib.Omega.{arith}
use Rattle.flow.proofs.Failing.{Attempting, at_xres, at_line_reset, at_idcode, at_report, run-attempting, at-end}
use Rattle.flow.specs.Plan.{most_traffic, plan, loops}
use Rattle.flow.specs.Run.{run_after, started}
use Rattle.flow.specs.Session.{running, reported}
use Rattle.flow.specs.Session as Flow
use Rattle.flow.specs.Target.{idle, Target, Lists}
use Rattle.image.specs.Image.{Image}
use Rattle.parts.specs.Sizes.{image_size}
use Rattle.parts.specs.declared.Geometry.{Geometry}
use Rattle.recovery.specs.Recovery.{Start, image_in, Leads, Ended, KillCloses}
use Rattle.recovery.proofs.Killed.{session-silent}
use Rattle.recovery.proofs.Walking.{walk}
use Rattle.session.proofs.Counted.{count_in}
use Rattle.session.proofs.Demand.{all, start_gives, first-follows, reported-session}
use Rattle.session.proofs.Following.{Follows, follow}
use Rattle.session.specs.Calls.{State, begun}
use Rattle.session.specs.Given.{start_of, outcome_at}
use Rattle.session.specs.Outcomes.{Given, Reported}
use Rattle.session.specs.Sessions.{most_of}
use Rattle.session.specs.declared.Report.{Report}
use lib.ListN.{length}

-- thirty transfers are within what a session can count
thirty : (g : Geometry) → 30 ≤ most_of g
unfolding most_traffic plan loops
thirty g = omega arith

few : {b : Target} {m : ℕ} (s : Flow.SessionState) → Attempting b m s → count_in s ≤ 30
few s (at_xres h kill quiet) = omega arith
few s (at_line_reset a c h left dark) = omega arith
few s (at_idcode a c h left dark) = omega arith
few s (at_report h) = omega arith

says : {b : Target} {m : ℕ} (s : Flow.SessionState) → Attempting b m s → (x t c : ℕ) → s ≡ reported x t c → (x ≡ 26) × (t ≡ 1) × (c ≡ 30)
says s (at_xres h kill quiet) x t c e = let z : ◌≡◌ {A = ℕ} 0 1 = cc in absurd (omega arith)
says s (at_line_reset a d h left dark) x t c e = let z : ◌≡◌ {A = ℕ} 0 1 = cc in absurd (omega arith)
says s (at_idcode a d h left dark) x t c e = let z : ◌≡◌ {A = ℕ} 0 1 = cc in absurd (omega arith)
says s (at_report h) x t c e = (cc, cc, cc)

module _ {g : Geometry} (x : Start g) (b : Target) (kill : b.memory.stored ≡ 4) (quiet : b.running ≡ idle) (l : Lists) where
  abbrev i : Image
  i = image_in x

  abbrev first : State
  first = begun (start_of x.header x.bytes x.leave) b l

  abbrev size : length x.bytes ≡ image_size g
  size = (all g x.header x.bytes x.passes.found x.passes.checked).size

  attempting : (j : ℕ) → Attempting (run_after i j (started b l)).target (61 - j) (run_after i j (started b l)).session
  attempting j = run-attempting i j 61 (started b l) (at_xres refl kill quiet)

  low : (j : ℕ) → count_in (run_after i j (started b l)).session ≤ most_of g
  low j = omega (arith, few _ (attempting j), thirty g)

  follows : Follows g x.header x.bytes x.passes.found size first (started b l)
  follows =
      subst (λ (v : Given). Follows g x.header x.bytes x.passes.found size (begun v b l) (started b l))
      (sym (start_gives x.header x.bytes x.passes.checked x.leave x.unrefused)) (first-follows g x.header x.bytes x.passes b l)

  told : (n k : ℕ) (s : State) → Leads x b l n k s → (r : Report) → s.stands ≡ Reported r → (r.number ≡ 26) × (r.step ≡ 1) × (r.transfers ≡ 30)
  told n k s leads r e =
      let f = follow g x.header x.bytes x.passes.found size n k first s (started b l) follows low leads in
      says _ (attempting n) r.number r.step r.transfers (reported-session i (run_after i n (started b l)).session r (sym f.stands ∙ e))

  ends : Ended x b l
  ends =
      let w = walk g x.header x.bytes x.passes.found size 61 first (started b l) follows low in
      record {
        answers = w.answers;
        state = w.state;
        leads = w.steps;
        report = record { number = 26; step = 1; transfers = 30 };
        stands = w.follows.stands ∙ ap (outcome_at i) (at-end _ (attempting 61));
      }

pub kill-closes : KillCloses
kill-closes g x b kill quiet l = record { memory = λ n k s leads. (session-silent x b kill quiet l n k s leads).memory; told = told x b kill quiet l; ends = ends x b kill quiet l }
