-- The count of a session of the flow, and when the stored session is one. Assumes nothing.
use mathlib.Core.Path.{◌≡◌, refl, sym, ap, ◌∙◌}
use Prim.Native.Nat.{ℕ, ◌≤◌, min}
use native.Mathlib.Omega.{arith}
use Rattle.flow.specs.Exchange.{meet}
use Rattle.flow.specs.Packets.{packet_of}
use Rattle.flow.specs.Plan.{Traffic, counting}
use Rattle.flow.specs.Run.{Run, advance_by}
use Rattle.flow.specs.Session.{running, reported, move_at, next_of, stand_after, counted, step_of}
use Rattle.flow.specs.Session as Flow
use Rattle.flow.specs.declared.Next.{Next}
use Rattle.flow.specs.declared.Next.TheVariants.{Go, Stop}
use Rattle.flow.specs.declared.Position.{Position}
use Rattle.flow.specs.declared.Request.{Request}
use Rattle.flow.specs.declared.Request.TheVariants.{Xres, LineReset, ReadIdcode, ReadDrw, WriteTar, WriteDrw, WriteSetup}
use Rattle.image.specs.Image.{Image}
use Rattle.parts.specs.declared.Geometry.{Geometry}
use Rattle.session.specs.Sessions.{stand_of, most_of, resumed}
use Rattle.session.specs.declared.Session.{Session}

-- the transfers that a session of the flow has counted
abbrev pub count_in : Flow.SessionState → ℕ
count_in (running p c h) = h
count_in (reported x t h) = h

-- ---- where the count is within the formula, nothing is cut off

pub stand-resumed : (g : Geometry) (s : Session) (x : Flow.SessionState) → count_in x ≤ most_of g → stand_of (resumed g s x) ≡ x
unfolding resumed
stand-resumed g s (running p d h) c = let e : min h (most_of g) ≡ h = omega arith in ap (running p d) e
stand-resumed g s (reported x t h) c = let e : min h (most_of g) ≡ h = omega arith in ap (reported x t) e

-- ---- a step counts its transfer

count-after : (x : Next) (p : Position) (s h : ℕ) → count_in (stand_after x p s h) ≡ h
count-after (Go w c) p s h = refl
count-after (Stop x) p s h = refl

counts : (q : Request) (t : Traffic) → counted q t.transfers ≡ (counting q t).transfers
counts Xres t = refl
counts LineReset t = refl
counts ReadIdcode t = refl
counts ReadDrw t = refl
counts (WriteTar x) t = refl
counts (WriteDrw x) t = refl
counts (WriteSetup r x) t = refl

pub count-step : (i : Image) (x : Flow.SessionState) (run : Run) → count_in x ≡ run.traffic.transfers → x ≡ run.session
    → count_in (advance_by i x run).session ≡ (advance_by i x run).traffic.transfers
unfolding step_of
count-step i (running p c h) run e f =
    let m = move_at i p in
    let x = meet i.geometry (packet_of m.request) run.lists run.target in
    count-after (next_of i m x.answer c) p m.step (counted m.request h) ∙ ap (counted m.request) e ∙ counts m.request run.traffic
count-step i (reported x t h) run e f = ap count_in (sym f) ∙ e
