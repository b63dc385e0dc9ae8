-- What a run is held to on its way: where it stands in the sequence, what it may still hand out, and where it leads. Assumes nothing.
use mathlib.Core.List.{List, [], ◌∷◌, ◌++◌, append_assoc}
use mathlib.Core.Path.{◌≡◌, refl, ap, sym, ◌∙◌}
use Prim.Native.Nat.{ℕ, zero, suc, ◌+◌, ◌≤◌}
use native.Mathlib.Omega.{arith}
use lib.Dec.{eqb}
use lib.ListN.{get_or, drop}
use lib.Seq.{get_or-drop, drop-drop}
use mathlib.Core.Bool.{Bool, true, false, ◌&&◌, not, and-false}
use Rattle.flow.specs.Terms.{CalmLine, CalmCalls, NoError}
use Rattle.flow.specs.Cuts.{cut_memory}
use Rattle.flow.specs.Monitor.{Monitor, Waits, no_waits, Seen, watching, link_error, Watch, Delays, delayed}
use Rattle.flow.specs.Plan.{Traffic, counting, is_poll}
use Rattle.flow.specs.Run.{Run, advance, handed_out}
use Rattle.flow.specs.Sequence.{sequence, end_move, move}
use Rattle.flow.specs.Session.{position, SessionState, running, reported, move_at, stand_after}
use Rattle.flow.specs.SealedRuns.{step_at}
use Rattle.flow.specs.Sealing.{is_idle, on_macro0, succeeds0, reopens, seals, HoldsImage}
use Rattle.flow.specs.Target.{Target, Memory, Residue, Running, idle, busy, Lists}
use Rattle.flow.specs.Words.{succeeded}
use Rattle.flow.specs.declared.Counters.{Counters}
use Rattle.flow.specs.declared.Entry.{Entry}
use Rattle.flow.specs.declared.Move.{Move}
use Rattle.flow.specs.declared.Next.{Next}
use Rattle.flow.specs.declared.Position.{Position}
use Rattle.flow.specs.declared.Purpose.{Purpose}
use Rattle.flow.specs.declared.Request.{Request}
use Rattle.flow.specs.declared.Request.TheVariants.{Xres, LineReset, ReadIdcode, ReadDrw, WriteTar, WriteDrw, WriteSetup}
use Rattle.flow.specs.declared.Silicon.{Silicon}
use Rattle.image.specs.Checks.{metadata_at}
use Rattle.image.specs.Image.{Image}
use Rattle.parts.specs.Parts.{low_fits}

-- ---- what is still due and allowed

-- moves of the plan still due; transfers, XRES and line resets still allowed
pub record Allowance : Type 0 where
  pub due : ℕ
  pub room : ℕ
  pub xres : ℕ
  pub lines : ℕ

-- each transfer may be handed out 17 times
abbrev pub with_transfer : Allowance → Allowance
with_transfer κ = record { due = suc κ.due; room = 17 + κ.room; xres = κ.xres; lines = κ.lines }

-- a poll 9,999 times three transfers more
abbrev pub poll_room : (polls room : ℕ) → ℕ
poll_room zero r = r
poll_room (suc n) r = 509949 + r

abbrev pub with_read : Purpose → Allowance → Allowance
with_read u κ = record { due = suc κ.due; room = 17 + poll_room (is_poll u) κ.room; xres = κ.xres; lines = κ.lines }

-- an attempt 29 times more
abbrev pub with_request : Request → Purpose → Allowance → Allowance
with_request Xres u κ = record { due = κ.due; room = κ.room; xres = suc κ.xres; lines = κ.lines }
with_request LineReset u κ = record { due = κ.due; room = 13 + κ.room; xres = κ.xres; lines = 30 + κ.lines }
with_request ReadIdcode u κ = with_transfer κ
with_request ReadDrw u κ = with_read u κ
with_request (WriteTar w) u κ = with_transfer κ
with_request (WriteDrw w) u κ = with_transfer κ
with_request (WriteSetup r w) u κ = with_transfer κ

unfoldable pub with_moves : List Move → Allowance → Allowance
with_moves [] κ = κ
with_moves (m ∷ ms) κ = with_request m.request m.purpose (with_moves ms κ)

pub with-moves-append : (a b : List Move) (κ : Allowance) → with_moves (a ++ b) κ ≡ with_moves a (with_moves b κ)
unfolding with_moves
with-moves-append [] b κ = refl
with-moves-append (m ∷ a) b κ = ap (with_request m.request m.purpose) (with-moves-append a b κ)

-- ---- where a run stands

-- what changes from step to step beside the session's place and the target
pub record Env : Type 0 where
  pub lists : Lists
  pub delays : Delays
  pub traffic : Traffic

-- no transfer waits
abbrev pub tally : (polls attempts kept : ℕ) → Counters
tally p a k = record { waits = 0; polls = p; attempts = a; kept = k }

abbrev pub seen : Waits → (polls attempts : ℕ) → Watch → Delays → Seen
seen w p a t d = record { waits = w; polls = p; attempts = a; watch = t; delays = d }

-- a run that stands at a move
abbrev pub stood : Position → Counters → Seen → Target → Env → Run
stood o c x b e = record { session = running o c e.traffic.transfers; target = b; lists = e.lists; monitor = watching x; traffic = e.traffic }

-- one whose monitor has counted as the session has; no transfer waits
abbrev pub sync : Position → Counters → Target → Watch → Env → Run
sync o c b t e = stood o c (seen no_waits c.polls c.attempts t e.delays) b e

-- a run after an answer to a move of flow step s
abbrev pub after : Next → Position → (s : ℕ) → Target → Monitor → Env → Run
after x o s b m e = record { session = stand_after x o s e.traffic.transfers; target = b; lists = e.lists; monitor = m; traffic = e.traffic }

-- a run that has reported
abbrev pub ended : (n s : ℕ) → Target → Lists → Monitor → Traffic → Run
ended n s b l m t = record { session = reported n s t.transfers; target = b; lists = l; monitor = m; traffic = t }

-- the IDs are those that 20 lets pass
unfoldable pub right_silicon : Image → Silicon → Bool
right_silicon i x = eqb x.high (metadata_at i.header 2) && eqb x.family (metadata_at i.header 5) && low_fits i.geometry.part x.low

pub record RightIds (i : Image) (x : Silicon) : Type 0 where
  pub idcode : eqb x.idcode 0x0BB11477 ≡ true
  pub silicon : right_silicon i x ≡ true

-- S holds now, and whatever a cut would leave
abbrev pub Lasting : (Memory → Type 0) → Target → Type 0
Lasting S b = record { now : S b.memory; cut : (r : Residue) → S (cut_memory b r) }

pub at_rest : (S : Memory → Type 0) (b : Target) → b.running ≡ idle → S b.memory → Lasting S b
at_rest S b quiet safe = record { now = safe; cut = λ r. rw quiet safe }

-- whether the board is sealed (document 02, One), before a step that stands at flow step s and after it
pub data Turn (s : ℕ) : (before : Bool) → Target → Target → (after : Bool) → Type 0 where
  without : {z : Bool} {b b' : Target} → succeeds0 b b' ≡ false → Turn s z b b' z
  reopening : {b b' : Target} → seals b b' ≡ false → s ≡ 3 → Turn s false b b' false
  sealing : {b b' : Target} → seals b b' ≡ true → s ≡ 7 → Turn s false b b' true

-- a call that is not over has not succeeded
pub not-idle : (b b' : Target) → is_idle b'.running ≡ false → succeeds0 b b' ≡ false
not-idle b b' e = rw e (and-false (on_macro0 b.running b.sysarg))

-- what is under way goes on, or nothing is
pub same-running : (b b' : Target) → b'.running ≡ b.running → succeeds0 b b' ≡ false
same-running b b' e = rw e (by b.running)
  where
    by : (r : Running) → on_macro0 r b.sysarg && (is_idle r && succeeded b'.sysarg) ≡ false
    by idle = refl
    by (busy n x y c) = and-false (on_macro0 (busy n x y c) b.sysarg)

-- then nothing is sealed
pub no-seal : (b b' : Target) → succeeds0 b b' ≡ false → seals b b' ≡ false
no-seal b b' e = rw e

-- what seals is a success
pub seal-succeeds : (b b' : Target) → seals b b' ≡ true → succeeds0 b b' ≡ true
seal-succeeds b b' e = by (succeeds0 b b') (not (reopens b)) e
  where
    by : (x y : Bool) → x && y ≡ true → x ≡ true
    by true y h = refl
    by false y h = h

-- what a run is held to: Safe of the memory at each step, Stop where it ends early, Goal where it is to come, each by whether the board is
-- sealed by then; Still says that the lists were calm at the start
pub record Frame (i : Image) : Type 1 where
  pub Safe : (sealed : Bool) → Memory → Type 0
  pub Still : Type 0
  pub Stop : (sealed : Bool) → Run → Type 0
  pub Goal : (sealed : Bool) → Run → Type 0
  pub planned : ℕ
  pub most : Traffic
  pub silicon : Silicon
  -- what the session may do to the right part
  pub safe_same : RightIds i silicon → (m m' : Memory) → m'.stored ≡ m.stored → Safe false m → Safe false m'
  pub safe_open : RightIds i silicon → (m : Memory) → m.stored ≡ 1 → Safe false m
  pub safe_image : RightIds i silicon → (m : Memory) → m.stored ≡ i.header.level → Safe false m
  pub safe_sealed : RightIds i silicon → (z : Bool) (m : Memory) → HoldsImage i m → Safe z m
  -- a mishap is a reason to stop, with its number, if the lists were not calm
  pub caught : {z : Bool} (n s : ℕ) (b : Target) (l : Lists) (t : Traffic) → 1 ≤ n → (Still → ⊥) → Lasting (Safe z) b → Stop z (ended n s b l (link_error n) t)
  -- done
  pub finished : (b : Target) (l : Lists) (w : Watch) (d : Delays) (t : Traffic) → RightIds i silicon → b.running ≡ idle → HoldsImage i b.memory
      → t.transfers ≡ planned + delayed d → (Still → delayed d ≡ 0) → Goal true (ended 0 9 b l (watching (seen no_waits 0 0 w d)) t)
  -- another part
  pub wrong_id : {z : Bool} (s : ℕ) (b : Target) (l : Lists) (x : Seen) (t : Traffic) → Lasting (Safe z) b
      → eqb silicon.idcode 0x0BB11477 ≡ false → Stop z (ended 16 s b l (watching x) t)
  pub wrong_part : {z : Bool} (s : ℕ) (b : Target) (l : Lists) (x : Seen) (t : Traffic) → Lasting (Safe z) b
      → right_silicon i silicon ≡ false → Stop z (ended 20 s b l (watching x) t)

-- the lists that are left are calm, and nothing was delayed
pub record StillCalm (e : Env) : Type 0 where
  pub line : CalmLine e.lists.line
  pub calls : CalmCalls e.lists.calls
  pub none : delayed e.delays ≡ 0

-- the moves of ms are next, and with what they may cost the session keeps to its plan and its bounds
pub record OnPlan {i : Image} (f : Frame i) (y : Entry) (n : ℕ) (ms : List Move) (κ : Allowance) (e : Env) : Type 0 where
  pub at : drop n (sequence i y) ≡ ms
  -- transfers + what is due ≡ plan + delays
  pub accounted : e.traffic.transfers + κ.due ≡ f.planned + delayed e.delays
  pub room : e.traffic.transfers + κ.room ≤ f.most.transfers
  pub xres : e.traffic.xresets + κ.xres ≤ f.most.xresets
  pub lines : e.traffic.line_resets + κ.lines ≤ f.most.line_resets
  pub calm : f.Still → StillCalm e

-- less may be left
pub less-room : {i : Image} {f : Frame i} {y : Entry} {n : ℕ} {ms : List Move} {κ : Allowance} {e : Env} (r : ℕ) → r ≤ κ.room → OnPlan f y n ms κ e
    → OnPlan f y n ms (record { due = κ.due; room = r; xres = κ.xres; lines = κ.lines }) e
less-room r h st = record { at = st.at; accounted = st.accounted; room = omega (arith, st.room); xres = st.xres; lines = st.lines; calm = st.calm }

-- the same cost from another place on
pub at_place : {i : Image} {f : Frame i} {y y' : Entry} {n n' : ℕ} {ms ms' : List Move} {κ : Allowance} {e : Env} → OnPlan f y n ms κ e → drop n' (sequence i y') ≡ ms' → OnPlan f y' n' ms' κ e
at_place st h = record { at = h; accounted = st.accounted; room = st.room; xres = st.xres; lines = st.lines; calm = st.calm }

-- the moves of ms, then the rest, and what they may cost
abbrev pub OnPlanFor : {i : Image} → Frame i → Position → (ms later : List Move) → Allowance → Env → Type 0
OnPlanFor f o ms later κ e = OnPlan f o.entry o.at (ms ++ later) (with_moves ms κ) e

-- the first of two lists of moves
pub split : {i : Image} {f : Frame i} {y : Entry} {n : ℕ} (a b : List Move) (ms : List Move) (κ : Allowance) {e : Env}
    → OnPlanFor f (position y n) (a ++ b) ms κ e → OnPlanFor f (position y n) a (b ++ ms) (with_moves b κ) e
split a b ms κ st = rw (append_assoc a b ms, with-moves-append a b κ) at st

module _ {i : Image} {f : Frame i} {y : Entry} {n : ℕ} {m : Move} {ms : List Move} {κ : Allowance} {e : Env} where
  -- the standing move
  pub at-move : OnPlan f y n (m ∷ ms) κ e → move_at i (position y n) ≡ m
  at-move s =
      let z : n + 0 ≡ n = omega arith in
      ap (λ (x : ℕ). get_or (sequence i y) x end_move) (sym z) ∙ sym (get_or-drop n (sequence i y) 0 end_move) ∙ ap (λ (l : List Move). get_or l 0 end_move) s.at

  pub at_next : OnPlan f y n (m ∷ ms) κ e → drop (suc n) (sequence i y) ≡ ms
  at_next s =
      let z : suc n ≡ n + 1 = omega arith in
      ap (λ (x : ℕ). drop x (sequence i y)) z ∙ sym (drop-drop 1 n (sequence i y)) ∙ ap (λ (l : List Move). drop 1 l) s.at

-- ---- where it leads

pub record Bounded {i : Image} (f : Frame i) (t : Traffic) : Type 0 where
  pub transfers : t.transfers ≤ f.most.transfers
  pub xresets : t.xresets ≤ f.most.xresets
  pub line_resets : t.line_resets ≤ f.most.line_resets

-- not reported yet
abbrev pub going : SessionState → Bool
going (running o c h) = true
going (reported x s h) = false

-- what holds of a run on its way: the memory is safe, and no more is handed out than is allowed
pub record OnWay {i : Image} (f : Frame i) (z : Bool) (r : Run) : Type 0 where
  pub goes : going r.session ≡ true
  pub safe : Lasting (f.Safe z) r.target
  pub most : Bounded f (handed_out i r)
  pub clear : NoError r.monitor

-- the session comes to Goal, or stops for a reason
pub data Course {i : Image} (f : Frame i) : (sealed : Bool) → Run → Type 0 where
  arrived : {z : Bool} {r : Run} → f.Goal z r → Course f z r
  stopped : {z : Bool} {r : Run} → f.Stop z r → Course f z r
  onward : {z z' : Bool} {r : Run} → OnWay f z r → Turn (step_at i r.session) z r.target (advance i r).target z'
      → Course f z' (advance i r) → Course f z r

-- what a stretch of the walk says of the run that it starts from
pub record Reaches {i : Image} (f : Frame i) (z : Bool) (r : Run) : Type 0 where
  pub course : Course f z r

pub here : {i : Image} {f : Frame i} {z : Bool} {r : Run} → f.Goal z r → Reaches f z r
here g = record { course = arrived g }

pub stop : {i : Image} {f : Frame i} {z : Bool} {r : Run} → f.Stop z r → Reaches f z r
stop s = record { course = stopped s }

pub clear : (x : Seen) → NoError (watching x)
clear x n e = let no : ◌≡◌ {A = ℕ} 0 1 = cc in omega arith

-- where a step that stands at flow step s leads from b, and whether the board is sealed there
pub record Onto {i : Image} (f : Frame i) (s : ℕ) (z : Bool) (b : Target) (r : Run) : Type 0 where
  pub sealed : Bool
  pub turn : Turn s z b r.target sealed
  pub reaches : Reaches f sealed r

-- a step whose outcome is known
pub steps : {i : Image} (f : Frame i) {s : ℕ} {z : Bool} {q : Request} {u : Purpose} {y : Entry} {n : ℕ} {ms : List Move} {κ : Allowance} {e : Env}
    (c : Counters) (x : Seen) {b : Target} {r : Run} → OnPlan f y n (move s q u ∷ ms) κ e → Lasting (f.Safe z) b → Bounded f (counting q e.traffic)
    → advance i (stood (position y n) c x b e) ≡ r → Onto f s z b r → Reaches f z (stood (position y n) c x b e)
steps {i} f {s} {y = y} {n} {e = e} c x {b} st safe most is l =
    let at : step_at i (running (position y n) c e.traffic.transfers) ≡ s = ap (λ (m : Move). m.step) (at-move st) in
    record {
      course = onward {z' = l.sealed} {r = stood (position y n) c x b e} (record { goes = refl; safe = safe; most = rw (at-move st) most; clear = clear x })
          (rw (at, is) l.turn) (rw is l.reaches.course);
    }
