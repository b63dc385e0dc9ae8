-- What a step gives, and what it hands out. Assumes nothing.
use mathlib.Core.Bool.{Bool, true, false, ◌&&◌, not, cond}
use mathlib.Core.List.{List}
use mathlib.Core.Path.{◌≡◌, refl, ap, ◌∙◌}
use Prim.Native.Nat.{ℕ}
use native.Mathlib.Omega.{arith}
use borrow.Author.Tests.{eq-eqb}
use lib.Dec.{eqb}
use lib.ListN.{length}
use Rattle.std.proofs.Common.{Some}
use Rattle.flow.specs.Exchange.{meet_on, transferred, met, killed, barred, carried_out}
use Rattle.flow.specs.Packets.{is_reset, answers}
use Rattle.flow.specs.Plan.{Traffic}
use Rattle.flow.specs.Run.{handed_out_by}
use Rattle.flow.specs.Session.{running, reported, move_at, step_of}
use Rattle.flow.specs.Session as Flow
use Rattle.flow.specs.Target.{Target, Lists, next_event}
use Rattle.flow.specs.declared.Answer.{Answer}
use Rattle.flow.specs.declared.Reply.{Reply}
use Rattle.flow.specs.declared.Request.{Request}
use Rattle.flow.specs.declared.Request.TheVariants.{Xres, LineReset, ReadIdcode, ReadDrw, WriteTar, WriteDrw, WriteSetup}
use Rattle.image.specs.Image.{Image, image_of}
use Rattle.parts.specs.Parts.{Lookup, lookup_of}
use Rattle.parts.specs.Sizes.{image_size}
use Rattle.parts.specs.declared.Geometry.{Geometry}
use Rattle.session.specs.Calls.{handing, standing}
use Rattle.session.specs.Given.{refusing, outcome_at, giving, step_on, step_for, step_with}
use Rattle.session.specs.Outcomes.{Given, Outcome, Refused}
use Rattle.session.specs.Possible.{possible_in}
use Rattle.session.specs.Sessions.{stand_of, resumed}
use Rattle.std.specs.Prelude.{Ok, Err}
use Rattle.session.specs.declared.Session.{Session}

-- ---- the target answers a reset with 'reset done', and every other request by an acknowledgement

met-fits : (t : Bool) (g : Geometry) (q : Request) (l : Lists) (a : Reply) (b : Target)
    → answers q (met t g q l a b).answer ≡ not (is_reset q)
met-fits true g q l a b = refl
met-fits false g q l a b = refl

transfer-fits : (g : Geometry) (q : Request) (l : Lists) (b : Target) → answers q (transferred g q l b).answer ≡ not (is_reset q)
unfolding transferred
transfer-fits g q l b = met-fits (not (killed b) && not (barred g q b) && carried_out (next_event l.line).outcome) g q l _ b

pub fits : (g : Geometry) (q : Request) (l : Lists) (b : Target) → answers q (meet_on g (Some q) l b).answer ≡ true
fits g Xres l b = refl
fits g LineReset l b = refl
fits g ReadIdcode l b = transfer-fits g ReadIdcode l b
fits g ReadDrw l b = transfer-fits g ReadDrw l b
fits g (WriteTar w) l b = transfer-fits g (WriteTar w) l b
fits g (WriteDrw w) l b = transfer-fits g (WriteDrw w) l b
fits g (WriteSetup r w) l b = transfer-fits g (WriteSetup r w) l b

-- ---- what stands, handed out

pub handing-stands : (i : Image) (x : Flow.SessionState) (t : Traffic) → handing (outcome_at i x) t ≡ handed_out_by i x t
handing-stands i (running o d h) t = refl
handing-stands i (reported x s h) t = refl

pub standing-new : (i : Image) (o : Outcome) (x : Flow.SessionState) → standing o (outcome_at i x) ≡ outcome_at i x
standing-new i o (running p d h) = refl
standing-new i o (reported x s h) = refl

pub header-kept : (g : Geometry) (s : Session) (x : Flow.SessionState) → (resumed g s x).header ≡ s.header
unfolding resumed
header-kept g s (running o d h) = refl
header-kept g s (reported x t h) = refl

-- ---- what a step gives

pub looked-up : (s : Session) (bytes : List ℕ) (a : Answer) (l : Lookup) → lookup_of s.header.part s.header.macros ≡ l
    → step_with s bytes a ≡ step_for l s bytes a
unfolding step_with
looked-up s bytes a l e = ap (λ (k : Lookup). step_for k s bytes a) e

pub on-finished : (g : Geometry) (s : Session) (bytes : List ℕ) (a : Answer) → s.finished ≡ true → step_on g s bytes a ≡ giving (image_of g s.header bytes) s
on-finished g s bytes a e = simp e

module _ (g : Geometry) (s : Session) (bytes : List ℕ) (a : Answer) (goes : s.finished ≡ false) where
  pub on-fit : answers (move_at (image_of g s.header bytes) s.position).request a ≡ true
      → step_on g s bytes a ≡ giving (image_of g s.header bytes) (resumed g s (step_of (image_of g s.header bytes) (stand_of s) a))
  on-fit e = simp (goes, e)

  pub on-misfit : answers (move_at (image_of g s.header bytes) s.position).request a ≡ false → step_on g s bytes a ≡ refusing s 14
  on-misfit e = simp (goes, e)

module _ (g : Geometry) (s : Session) (bytes : List ℕ) (a : Answer) (found : lookup_of s.header.part s.header.macros ≡ Ok g)
    (can : possible_in g s ≡ true) (size : length bytes ≡ image_size g) where
  unrefused : step_with s bytes a ≡ step_on g s bytes a
  unrefused = looked-up s bytes a (Ok g) found ∙ simp (can, eq-eqb (length bytes) (image_size g) size)

  pub step-running : s.finished ≡ false → answers (move_at (image_of g s.header bytes) s.position).request a ≡ true
      → step_with s bytes a ≡ giving (image_of g s.header bytes) (resumed g s (step_of (image_of g s.header bytes) (stand_of s) a))
  step-running e f = unrefused ∙ on-fit g s bytes a e f

  pub step-finished : s.finished ≡ true → step_with s bytes a ≡ giving (image_of g s.header bytes) s
  step-finished e = unrefused ∙ on-finished g s bytes a e

-- ---- a refused step gives the session back

pub not-refused : (i : Image) (x : Flow.SessionState) (n : ℕ) → outcome_at i x ≡ Refused n → ⊥
not-refused i (running o d h) n e = let z : ◌≡◌ {A = ℕ} 0 1 = cc in omega arith
not-refused i (reported x t h) n e = let z : ◌≡◌ {A = ℕ} 0 1 = cc in omega arith

module _ (s : Session) (bytes : List ℕ) (a : Answer) where
  Back : Given → Type 0
  Back r = (n : ℕ) → r.outcome ≡ Refused n → r.session ≡ s

  back_either : (t : Bool) (r r' : Given) → Back r → Back r' → Back (cond t r r')
  back_either true r r' h h' = h
  back_either false r r' h h' = h'

  back-refusing : (k : ℕ) → Back (refusing s k)
  unfolding Back
  back-refusing k n e = refl

  back-giving : (i : Image) (s' : Session) → Back (giving i s')
  unfolding Back
  back-giving i s' n e = absurd (not-refused i (stand_of s') n e)

  back-for : (l : Lookup) → Back (step_for l s bytes a)
  back-for (Err n) = back-refusing 13
  back-for (Ok g) =
      let i = image_of g s.header bytes in
      back_either (possible_in g s) _ _
      (back_either (eqb (length bytes) (image_size g)) _ _
      (back_either s.finished _ _ (back-giving i s)
      (back_either (answers (move_at i s.position).request a) _ _
      (back-giving i (resumed g s (step_of i (stand_of s) a))) (back-refusing 14)))
      (back-refusing 12))
      (back-refusing 13)

  pub given_back : (n : ℕ) → (step_with s bytes a).outcome ≡ Refused n → (step_with s bytes a).session ≡ s
  unfolding step_with Back
  given_back = back-for (lookup_of s.header.part s.header.macros)
