-- A mishap has an entry that was used and was not calm: what lies behind the used entries makes no difference. Assumes nothing.
use mathlib.Core.Bool.{Bool, true, false, false≢true, ◌&&◌, not, cond}
use mathlib.Core.List.{List, [], ◌∷◌, ◌++◌, append_assoc}
use mathlib.Core.Logic.{◌⊎◌, inl, inr}
use mathlib.Core.Path.{◌≡◌, refl, ap, sym, ◌∙◌}
use Prim.Native.Nat.{ℕ, zero, suc, ◌≤◌, ◌<◌}
use native.Mathlib.Nat.{le_refl}
use native.Mathlib.Omega.{arith}
use lib.ListN.{length, length-append}
use Rattle.std.proofs.Common.{Option, Some, None}
use Rattle.flow.specs.Claim.{UndisturbedHolds}
use Rattle.flow.specs.Terms.{Calm, calm_end, calls_end, Used, entries}
use Rattle.flow.specs.Exchange.{decode, carry, store, begin, is_call, is_sysreq, killed, barred, carried_out, calls_on, silent_reply, reply_to, gives, Met, met, transferred, meet_on, meet}
use Rattle.flow.specs.Map.{place}
use Rattle.flow.specs.Packets.{packet_of, is_read}
use Rattle.flow.specs.Run.{Run, advance_by, advance, run_after, started}
use Rattle.flow.specs.Session.{SessionState, running, reported, move_at}
use Rattle.flow.specs.Target.{Target, CallOutcome, Lists, next_event, next_outcome, rest}
use Rattle.flow.specs.declared.LineEvent.{LineEvent}
use Rattle.flow.specs.declared.Place.{Place}
use Rattle.flow.specs.declared.Place.TheVariants.{InFlash, InLocks, InParams, AtLevel, AtSysreq, AtSysarg, AtTestMode, Elsewhere}
use Rattle.flow.specs.declared.Reply.{Reply}
use Rattle.flow.specs.declared.Request.{Request}
use Rattle.flow.specs.declared.Request.TheVariants.{Xres, LineReset, ReadIdcode, ReadDrw, WriteTar, WriteDrw, WriteSetup}
use Rattle.flow.proofs.Demand.{run-demand3-holds}
use Rattle.image.specs.Image.{Image, image_of}
use Rattle.parts.specs.declared.Geometry.{Geometry}

-- more entries behind
abbrev behind : Lists → Lists → Lists
behind x l = record { line = l.line ++ x.line; calls = l.calls ++ x.calls }

abbrev met_behind : Lists → Met → Met
met_behind x m = record { target = m.target; answer = m.answer; lists = behind x m.lists }

abbrev run_behind : Lists → Run → Run
run_behind x r = record { session = r.session; target = r.target; lists = behind x r.lists; monitor = r.monitor; traffic = r.traffic }

-- less than x is left
abbrev Into : Lists → Lists → Type 0
Into x l = (length l.line < length x.line) ⊎ (length l.calls < length x.calls)

-- an exchange is the same with more behind, or uses what is behind
data Alike (x : Lists) (m m' : Met) : Type 0 where
  same : m' ≡ met_behind x m → Alike x m m'
  into : Into x m'.lists → Alike x m m'

-- a transfer that starts no call asks for no outcome
begin-same : (y : Bool) (w : ℕ) (c c' : CallOutcome) (b : Target) → y ≡ false → begin y w c b ≡ begin y w c' b
begin-same false w c c' b h = refl
begin-same true w c c' b h = let z : ◌≡◌ {A = ℕ} 0 1 = cc in absurd (omega arith)

and-true : (y : Bool) → y && true ≡ false → y ≡ false
and-true true h = h
and-true false h = refl

store_same : (w : ℕ) (c c' : CallOutcome) (pc : Place) (b : Target) → is_call w && is_sysreq pc ≡ false → store w c pc b ≡ store w c' pc b
store_same w c c' (InFlash a) b h = refl
store_same w c c' (InLocks a) b h = refl
store_same w c c' (InParams a) b h = refl
store_same w c c' AtLevel b h = refl
store_same w c c' AtSysreq b h = begin-same (is_call w) w c c' b (and-true (is_call w) h)
store_same w c c' AtSysarg b h = refl
store_same w c c' AtTestMode b h = refl
store_same w c c' Elsewhere b h = refl

carry_same : (g : Geometry) (q : Request) (o : ℕ) (c c' : CallOutcome) (b : Target) → calls_on g q b ≡ false → carry g q o c b ≡ carry g q o c' b
unfolding carry
carry_same g Xres o c c' b h = refl
carry_same g LineReset o c c' b h = refl
carry_same g ReadIdcode o c c' b h = refl
carry_same g ReadDrw o c c' b h = refl
carry_same g (WriteTar a) o c c' b h = refl
carry_same g (WriteDrw w) o c c' b h = store_same w c c' (place g b.tar) b h
carry_same g (WriteSetup r w) o c c' b h = refl

-- the line's entry is taken from before x
module _ (g : Geometry) (q : Request) (a : Reply) (b : Target) (x : Lists) (line : List LineEvent)
    (event : next_event (line ++ x.line) ≡ next_event line) (left : rest (line ++ x.line) ≡ rest line ++ x.line) where
  carried : (calls later : List CallOutcome) → x.calls ≡ later → (y : Bool) → calls_on g q b ≡ y
      → Alike x (met true g q (record { line = line; calls = calls }) a b) (met true g q (behind x (record { line = line; calls = calls })) a b)
  carried (o ∷ os) later k true e = same (rw (e, event, left))
  carried (o ∷ os) later k false e = same (rw (e, event, left))
  carried [] [] k true e = same (rw (e, event, left, k))
  carried [] (o ∷ os) k true e = into (inr (rw (e, k) (le_refl _)))
  carried [] later k false e = same (rw (e, event, left, carry_same g q (next_event line).other (next_outcome x.calls) (next_outcome []) b e))

  met-alike : (c : Bool) (calls : List CallOutcome)
      → Alike x (met c g q (record { line = line; calls = calls }) a b) (met c g q (behind x (record { line = line; calls = calls })) a b)
  met-alike false calls = same (rw left)
  met-alike true calls = carried calls x.calls refl (calls_on g q b) refl

-- either way a line's entry is gone
met-line : (c : Bool) (g : Geometry) (q : Request) (l : Lists) (a : Reply) (b : Target) → (met c g q l a b).lists.line ≡ rest l.line
met-line true g q l a b = refl
met-line false g q l a b = refl

-- whether a transfer is carried out, and its answer
abbrev flag_of : Geometry → Request → LineEvent → Target → Bool
flag_of g q e b = not (killed b) && not (barred g q b) && carried_out e.outcome

abbrev reply_of : Geometry → Request → LineEvent → Target → Reply
reply_of g q e b = cond (killed b) (silent_reply e.filler) (reply_to e.outcome (barred g q b) (is_read q) (gives q b) e.filler)

module _ (g : Geometry) where
  transferred-alike : (q : Request) (line later : List LineEvent) (calls more : List CallOutcome) (b : Target)
      → Alike (record { line = later; calls = more }) (transferred g q (record { line = line; calls = calls }) b)
      (transferred g q (record { line = line ++ later; calls = calls ++ more }) b)
  unfolding transferred
  transferred-alike q (e ∷ es) later calls more b =
      met-alike g q (reply_of g q e b) b (record { line = later; calls = more }) (e ∷ es) refl refl (flag_of g q e b) calls
  transferred-alike q [] [] calls more b =
      met-alike g q (reply_of g q (next_event []) b) b (record { line = []; calls = more }) [] refl refl (flag_of g q (next_event []) b) calls
  transferred-alike q [] (e ∷ es) calls more b =
      into (inl (rw (met-line (flag_of g q e b) g q (record { line = e ∷ es; calls = calls ++ more }) (reply_of g q e b) b) (le_refl _)))

module _ (g : Geometry) (x : Lists) where
  meet-alike : (d : Option Request) (l : Lists) (b : Target) → Alike x (meet_on g d l b) (meet_on g d (behind x l) b)
  meet-alike (Some Xres) l b = same refl
  meet-alike (Some LineReset) l b = same refl
  meet-alike (Some ReadIdcode) l b = transferred-alike g ReadIdcode l.line x.line l.calls x.calls b
  meet-alike (Some ReadDrw) l b = transferred-alike g ReadDrw l.line x.line l.calls x.calls b
  meet-alike (Some (WriteTar a)) l b = transferred-alike g (WriteTar a) l.line x.line l.calls x.calls b
  meet-alike (Some (WriteDrw w)) l b = transferred-alike g (WriteDrw w) l.line x.line l.calls x.calls b
  meet-alike (Some (WriteSetup r w)) l b = transferred-alike g (WriteSetup r w) l.line x.line l.calls x.calls b
  meet-alike None l b = by l.line x.line refl
    where
      by : (line later : List LineEvent) → x.line ≡ later
          → Alike x (meet_on g None (record { line = line; calls = l.calls }) b) (meet_on g None (behind x (record { line = line; calls = l.calls })) b)
      by (e ∷ es) later h = same refl
      by [] [] h = same (rw h)
      by [] (e ∷ es) h = into (inl (rw h (le_refl _)))

-- ---- the lists lose entries from their fronts: there are always such used entries

record Front {A : Type 0} (l left : List A) : Type 0 where
  pub front : List A
  pub is : l ≡ front ++ left

whole : {A : Type 0} (l : List A) → Front l l
whole l = record { front = []; is = refl }

first : {A : Type 0} (l : List A) → Front l (rest l)
first [] = record { front = []; is = refl }
first (x ∷ l) = record { front = x ∷ []; is = refl }

perhaps : (y : Bool) (l : List CallOutcome) → Front l (cond y (rest l) l)
perhaps true l = first l
perhaps false l = whole l

used : {l l' : Lists} → Front l.line l'.line → Front l.calls l'.calls → Used l l'
used a b = record { line = a.front; calls = b.front; line_is = a.is; calls_is = b.is }

then : {l l' l'' : Lists} → Used l l' → Used l' l'' → Used l l''
then {l'' = l''} u v = record {
  line = u.line ++ v.line;
  calls = u.calls ++ v.calls;
  line_is = u.line_is ∙ ap (λ (x : List LineEvent). u.line ++ x) v.line_is ∙ sym (append_assoc u.line v.line l''.line);
  calls_is = u.calls_is ∙ ap (λ (x : List CallOutcome). u.calls ++ x) v.calls_is ∙ sym (append_assoc u.calls v.calls l''.calls);
}

met-used : (c : Bool) (g : Geometry) (q : Request) (l : Lists) (a : Reply) (b : Target) → Used l (met c g q l a b).lists
met-used true g q l a b = used (first l.line) (perhaps (calls_on g q b) l.calls)
met-used false g q l a b = used (first l.line) (whole l.calls)

transferred-used : (g : Geometry) (q : Request) (l : Lists) (b : Target) → Used l (transferred g q l b).lists
unfolding transferred
transferred-used g q l b = met-used (flag_of g q (next_event l.line) b) g q l (reply_of g q (next_event l.line) b) b

meet-used : (g : Geometry) (d : Option Request) (l : Lists) (b : Target) → Used l (meet_on g d l b).lists
meet-used g (Some Xres) l b = used (whole l.line) (whole l.calls)
meet-used g (Some LineReset) l b = used (whole l.line) (whole l.calls)
meet-used g (Some ReadIdcode) l b = transferred-used g ReadIdcode l b
meet-used g (Some ReadDrw) l b = transferred-used g ReadDrw l b
meet-used g (Some (WriteTar a)) l b = transferred-used g (WriteTar a) l b
meet-used g (Some (WriteDrw w)) l b = transferred-used g (WriteDrw w) l b
meet-used g (Some (WriteSetup r w)) l b = transferred-used g (WriteSetup r w) l b
meet-used g None l b = used (first l.line) (whole l.calls)

advance-used : (i : Image) (r : Run) → Used r.lists (advance i r).lists
unfolding advance meet
advance-used i r = by r.session
  where
    by : (s : SessionState) → Used r.lists (advance_by i s r).lists
    by (running o c h) = meet-used i.geometry (decode (packet_of (move_at i o).request)) r.lists r.target
    by (reported n s h) = used (whole r.lists.line) (whole r.lists.calls)

pub after-used : (i : Image) (n : ℕ) (r : Run) → Used r.lists (run_after i n r).lists
unfolding run_after
after-used i zero r = used (whole r.lists.line) (whole r.lists.calls)
after-used i (suc n) r = then (advance-used i r) (after-used i n (advance i r))

fewer-events : {l l' : Lists} → Used l l' → length l'.line ≤ length l.line
fewer-events {l' = l'} u = rw (u.line_is, length-append u.line l'.line) (omega arith)

fewer-calls : {l l' : Lists} → Used l l' → length l'.calls ≤ length l.calls
fewer-calls {l' = l'} u = rw (u.calls_is, length-append u.calls l'.calls) (omega arith)

module _ (i : Image) where
  -- a step is the same with more behind, or uses what is behind
  data AlikeRun (x : Lists) (r r' : Run) : Type 0 where
    same_run : r' ≡ run_behind x r → AlikeRun x r r'
    into_run : Into x r'.lists → AlikeRun x r r'

  advance-alike : (x : Lists) (r : Run) → AlikeRun x (advance i r) (advance i (run_behind x r))
  unfolding advance meet
  advance-alike x r = by r.session
    where
      by : (s : SessionState) → AlikeRun x (advance_by i s r) (advance_by i s (run_behind x r))
      by (reported n s h) = same_run refl
      by (running o c h) = met-run (meet-alike i.geometry x (decode (packet_of (move_at i o).request)) r.lists r.target)
        where
          met-run : Alike x (meet_on i.geometry (decode (packet_of (move_at i o).request)) r.lists r.target)
              (meet_on i.geometry (decode (packet_of (move_at i o).request)) (behind x r.lists) r.target)
              → AlikeRun x (advance_by i (running o c h) r) (advance_by i (running o c h) (run_behind x r))
          met-run (same e) = same_run (rw e)
          met-run (into z) = into_run z

  -- what is not used does not matter
  prefix : (n : ℕ) (x : Lists) (r : Run) → (run_after i n (run_behind x r)).lists ≡ x → run_after i n (run_behind x r) ≡ run_behind x (run_after i n r)
  unfolding run_after
  prefix zero x r h = refl
  prefix (suc n) x r h = by (λ r'. prefix n x r') (advance-alike x r)
    where
      by : ((r' : Run) → (run_after i n (run_behind x r')).lists ≡ x → run_after i n (run_behind x r') ≡ run_behind x (run_after i n r')) → AlikeRun x (advance i r) (advance i (run_behind x r))
          → run_after i n (advance i (run_behind x r)) ≡ run_behind x (run_after i n (advance i r))
      by rec (same_run e) = rw e (rec (advance i r) (ap (λ (z : Run). (run_after i n z).lists) (sym e) ∙ h))
      by rec (into_run (inl z)) = absurd (omega (arith, fewer-events (after-used i n (advance i (run_behind x r))), ap (λ (l : Lists). length l.line) h))
      by rec (into_run (inr z)) = absurd (omega (arith, fewer-calls (after-used i n (advance i (run_behind x r))), ap (λ (l : Lists). length l.calls) h))

parted : (l x : Lists) (line : List LineEvent) (calls : List CallOutcome) → l.line ≡ line ++ x.line → l.calls ≡ calls ++ x.calls
    → l ≡ behind x (record { line = line; calls = calls })
parted l x line calls h k = rw (h, k)

pub undisturbed-holds : UndisturbedHolds
undisturbed-holds g h bytes p b s l n u calm =
    let i = image_of g h bytes in
    let used : Lists = record { line = u.line; calls = u.calls } in
    let left : Lists = (run_after i n (started b l)).lists in
    let split : started b l ≡ run_behind left (started b used) = ap (started b) (parted l left u.line u.calls u.line_is u.calls_is) in
    let e : run_after i n (started b l) ≡ run_behind left (run_after i n (started b used)) =
    ap (run_after i n) split ∙ prefix i n left (started b used) (sym (ap (λ (r : Run). (run_after i n r).lists) split)) in
    let d = run-demand3-holds g h bytes p b s used n in
    rw e (record { clean = d.provoked calm; done = λ right x t z is. d.calm calm right x t z is })

-- what was used of empty lists is calm
nothing-used : {A : Type 0} (a b : List A) → [] ≡ a ++ b → a ≡ []
nothing-used [] b e = refl
nothing-used (x ∷ a) b e = let t : false ≡ true = cc in absurd (false≢true t)

pub calm-used : {left : Lists} (u : Used (record { line = []; calls = [] }) left) → Calm (entries u)
calm-used {left} u = record { line = rw (nothing-used u.line left.line u.line_is) calm_end; calls = rw (nothing-used u.calls left.calls u.calls_is) calls_end }
