-- The frame of demand 3, and where a started session stands in it. Assumes nothing.
use mathlib.Core.Bool.{Bool, true, false, false≢true}
use mathlib.Core.List.{List, [], ◌∷◌}
use mathlib.Core.Path.{◌≡◌, refl, sym, subst}
use Prim.Native.Nat.{ℕ, zero, suc, ◌+◌, ◌*◌, ◌≤◌}
use native.Mathlib.Omega.{arith}
use lib.Dec.{eqb}
use Rattle.flow.specs.Terms.{NoError, Calm, entry_of, delays_in}
use Rattle.flow.specs.Monitor.{Monitor, link_error, no_delays}
use Rattle.flow.specs.Plan.{no_traffic, traffic_in, is_poll, polls_in, plan, most_traffic}
use Rattle.flow.specs.Run.{Run}
use Rattle.flow.specs.Sealing.{HoldsImage}
use Rattle.flow.specs.Sequence.{opening, afterwards, sequence}
use Rattle.flow.specs.Session.{position, reported}
use Rattle.flow.specs.Target.{Target, Memory, idle, Lists}
use Rattle.flow.specs.declared.Entry.TheVariants.{FromOpen}
use Rattle.flow.specs.declared.Move.{Move}
use Rattle.flow.specs.declared.Request.{Request}
use Rattle.flow.specs.declared.Request.TheVariants.{Xres, LineReset, ReadIdcode, ReadDrw, WriteTar, WriteDrw, WriteSetup}
use Rattle.flow.specs.declared.Silicon.{Silicon}
use Rattle.flow.proofs.Counting.{sequence-totals}
use Rattle.flow.proofs.Finishing.{nothing}
use Rattle.flow.proofs.Phases.{Level, is_open, is_protected, is_kill}
use Rattle.flow.proofs.Reaches.{Allowance, poll_room, with_request, with_moves, with-moves-append, Env, right_silicon, RightIds, Frame, Lasting, OnPlanFor, clear}
use Rattle.flow.proofs.Table.{Facts}
use Rattle.image.specs.Image.{Image}

-- ---- what a list of moves may cost

pub record Costs (ms : List Move) (κ κ' : Allowance) : Type 0 where
  pub due : κ'.due ≡ (traffic_in ms).transfers + κ.due
  pub room : κ'.room ≤ 17 * (traffic_in ms).transfers + 509949 * polls_in ms + 13 * (traffic_in ms).line_resets + κ.room
  pub xres : κ'.xres ≡ (traffic_in ms).xresets + κ.xres
  pub lines : κ'.lines ≡ 30 * (traffic_in ms).line_resets + κ.lines

read-room : (n r : ℕ) → poll_room n r ≤ 509949 * n + r
read-room zero r = omega arith
read-room (suc n) r = omega arith

one-cost : (m : Move) (ms : List Move) (κ κ' : Allowance) → Costs ms κ κ' → Costs (m ∷ ms) κ (with_request m.request m.purpose κ')
unfolding traffic_in polls_in
one-cost m ms κ κ' c = by m.request
  where
    by : (q : Request) → Costs (record { step = m.step; request = q; purpose = m.purpose } ∷ ms) κ (with_request q m.purpose κ')
    by Xres = record { due = omega (arith, c.due); room = omega (arith, c.room); xres = omega (arith, c.xres); lines = omega (arith, c.lines) }
    by LineReset = record { due = omega (arith, c.due); room = omega (arith, c.room); xres = omega (arith, c.xres); lines = omega (arith, c.lines) }
    by ReadIdcode = record { due = omega (arith, c.due); room = omega (arith, c.room); xres = omega (arith, c.xres); lines = omega (arith, c.lines) }
    by ReadDrw =
        let r = read-room (is_poll m.purpose) κ'.room in
        record { due = omega (arith, c.due); room = omega (arith, c.room, r); xres = omega (arith, c.xres); lines = omega (arith, c.lines) }
    by (WriteTar w) = record { due = omega (arith, c.due); room = omega (arith, c.room); xres = omega (arith, c.xres); lines = omega (arith, c.lines) }
    by (WriteDrw w) = record { due = omega (arith, c.due); room = omega (arith, c.room); xres = omega (arith, c.xres); lines = omega (arith, c.lines) }
    by (WriteSetup r w) = record { due = omega (arith, c.due); room = omega (arith, c.room); xres = omega (arith, c.xres); lines = omega (arith, c.lines) }

pub costs : (ms : List Move) (κ : Allowance) → Costs ms κ (with_moves ms κ)
unfolding with_moves traffic_in polls_in
costs [] κ = record { due = omega arith; room = omega arith; xres = omega arith; lines = omega arith }
costs (m ∷ ms) κ = one-cost m ms κ (with_moves ms κ) (costs ms κ)

-- ---- the frame

-- the stored level is OPEN, PROTECTED or KILL
abbrev pub Sound : Memory → Type 0
Sound m = Level m.stored

pub not-virgin : {l : ℕ} → Level l → l ≡ 0 → ⊥
not-virgin is_open e = omega arith
not-virgin is_protected e = omega arith
not-virgin is_kill e = omega arith

-- and once the board is sealed the memory has the image
abbrev pub Held : Image → (sealed : Bool) → Memory → Type 0
Held i z m = Sound m × (z ≡ true → HoldsImage i m)

-- why a session ends with a number
pub data Why (i : Image) (x : Silicon) (l : Lists) : ℕ → Monitor → Type 0 where
  mishap : (n : ℕ) → 1 ≤ n → (Calm l → ⊥) → Why i x l n (link_error n)
  other_id : {m : Monitor} → NoError m → eqb x.idcode 0x0BB11477 ≡ false → Why i x l 16 m
  other_part : {m : Monitor} → NoError m → right_silicon i x ≡ false → Why i x l 20 m

pub record Stopped (i : Image) (x : Silicon) (l : Lists) (z : Bool) (r : Run) : Type 0 where
  pub number : ℕ
  pub step : ℕ
  pub is : r.session ≡ reported number step r.traffic.transfers
  pub why : Why i x l number r.monitor
  pub sound : Lasting (Held i z) r.target

pub record Finished (i : Image) (b : Target) (l : Lists) (r : Run) : Type 0 where
  pub is : r.session ≡ reported 0 9 r.traffic.transfers
  pub right : RightIds i b.silicon
  pub clean : NoError r.monitor
  pub holds-image : HoldsImage i r.target.memory
  pub count : r.traffic.transfers ≡ plan i.geometry (entry_of b) + delays_in r.monitor
  pub calm : Calm l → delays_in r.monitor ≡ 0
  pub quiet : r.target.running ≡ idle

unfoldable pub frame : (i : Image) → Level i.header.level → Target → Lists → Frame i
frame i lv b l = record {
  Safe = Held i;
  Still = Calm l;
  Stop = Stopped i b.silicon l;
  Goal = λ z r. (z ≡ true) × Finished i b l r;
  planned = plan i.geometry (entry_of b);
  most = most_traffic i.geometry (entry_of b);
  silicon = b.silicon;
  safe_same = λ right m m' e s. (subst Level (sym e) s.0, (λ q. absurd (false≢true q)));
  safe_open = λ right m e. (subst Level (sym e) is_open, (λ q. absurd (false≢true q)));
  safe_image = λ right m e. (subst Level (sym e) lv, (λ q. absurd (false≢true q)));
  safe_sealed = λ right z m e. (subst Level (sym e.level) lv, (λ q. e));
  caught = λ n s b l t some bad safe. record { number = n; step = s; is = refl; why = mishap n some bad; sound = safe };
  finished = λ b l w d t right quiet holds-image count calm. (refl, record { is = refl; right = right; clean = clear _; holds-image = holds-image; count = count; calm = calm; quiet = quiet });
  wrong_id = λ s b l x t safe h. record { number = 16; step = s; is = refl; why = other_id (clear x) h; sound = safe };
  wrong_part = λ s b l x t safe h. record { number = 20; step = s; is = refl; why = other_part (clear x) h; sound = safe };
}

-- ---- the start

abbrev pub first_env : Lists → Env
first_env l = record { lists = l; delays = no_delays; traffic = no_traffic }

-- for every frame that is held to document 01's count
pub start-on-plan : (i : Image) (fx : Facts i.geometry) (f : Frame i) (b : Target) (l : Lists)
    → f.planned ≡ plan i.geometry (entry_of b) → f.most ≡ most_traffic i.geometry (entry_of b) → (f.Still → Calm l)
    → OnPlanFor f (position FromOpen 0) (opening i) (afterwards i FromOpen) (with_moves (afterwards i (entry_of b)) nothing) (first_env l)
unfolding sequence most_traffic nothing
start-on-plan i fx f b l hp hm calm =
    let e : with_moves (sequence i (entry_of b)) nothing ≡ with_moves (opening i) (with_moves (afterwards i (entry_of b)) nothing) = with-moves-append (opening i) (afterwards i (entry_of b)) nothing in
    let c = costs (sequence i (entry_of b)) nothing in
    let t = sequence-totals i fx (entry_of b) in
    rw (← e) (record {
      at = refl;
      accounted = rw hp (omega (arith, c.due, t.transfers));
      room = rw hm (omega (arith, c.room, t.transfers, t.polls, t.line_resets));
      xres = rw hm (omega (arith, c.xres, t.xresets));
      lines = rw hm (omega (arith, c.lines, t.line_resets));
      calm = λ still. let c = calm still in record { line = c.line; calls = c.calls; none = refl };
    })
