-- A board that is handed an OK and a success meets a packet as one whose lists are at their end. Assumes nothing.
use mathlib.Core.Bool.{Bool, true, false, ◌&&◌, not, cond}
use mathlib.Core.List.{List, []}
use mathlib.Core.Path.{◌≡◌, refl, ap}
use Rattle.std.proofs.Common.{Option, Some, None}
use Rattle.bench_board.specs.Meets.{lists_of}
use Rattle.dry.specs.Playing.{no_lists, nothing, calm_event, calm_outcome}
use Rattle.flow.specs.Exchange.{Met, decode, killed, barred, met, calls_on, transferred, meet_on, meet}
use Rattle.flow.specs.Target.{Target, Lists}
use Rattle.flow.specs.declared.Packet.{Packet}
use Rattle.flow.specs.declared.Reply.{Reply}
use Rattle.flow.specs.declared.Request.{Request}
use Rattle.flow.specs.declared.Request.TheVariants.{Xres, LineReset, ReadIdcode, ReadDrw, WriteTar, WriteDrw, WriteSetup}
use Rattle.parts.specs.declared.Geometry.{Geometry}

-- the lists that the code hands in
abbrev pub handed : Lists
handed = lists_of nothing calm_event calm_outcome

-- the same target and answer, and lists that stay at their end
pub record SameMet (a b : Met) : Type 0 where
  pub target : a.target ≡ b.target
  pub answer : a.answer ≡ b.answer
  pub lists : b.lists ≡ no_lists

cond_same : {A : Type 0} (t : Bool) (x : A) → cond t x x ≡ x
cond_same true x = refl
cond_same false x = refl

module _ (g : Geometry) (b : Target) where
  by-outcome : (q : Request) (t : Bool) (a : Reply) → SameMet (met t g q handed a b) (met t g q no_lists a b)
  by-outcome q false a = record { target = refl; answer = refl; lists = refl }
  by-outcome q true a = record {
    target = refl;
    answer = refl;
    lists = ap (λ (l : List _). record { line = []; calls = l }) (cond_same (calls_on g q b) []);
  }

  same-transfer : (q : Request) → SameMet (transferred g q handed b) (transferred g q no_lists b)
  unfolding transferred
  same-transfer q = by-outcome q (not (killed b) && not (barred g q b) && true) _

  by-request : (d : Option Request) → SameMet (meet_on g d handed b) (meet_on g d no_lists b)
  by-request (Some Xres) = record { target = refl; answer = refl; lists = refl }
  by-request (Some LineReset) = record { target = refl; answer = refl; lists = refl }
  by-request (Some ReadIdcode) = same-transfer ReadIdcode
  by-request (Some ReadDrw) = same-transfer ReadDrw
  by-request (Some (WriteTar a)) = same-transfer (WriteTar a)
  by-request (Some (WriteDrw w)) = same-transfer (WriteDrw w)
  by-request (Some (WriteSetup r w)) = same-transfer (WriteSetup r w)
  by-request None = record { target = refl; answer = refl; lists = refl }

  pub same_met : (p : Packet) → SameMet (meet g p handed b) (meet g p no_lists b)
  unfolding meet
  same_met p = by-request (decode p)
