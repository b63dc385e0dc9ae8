-- What every transfer keeps, and XRES keeps, every packet keeps; so a session keeps sizes and IDs. Assumes nothing.
use mathlib.Core.Bool.{Bool, true, false, ◌&&◌, not, ◌||◌, cond}
use mathlib.Core.List.{List, [], ◌∷◌, ◌++◌}
use mathlib.Core.Path.{◌≡◌, refl, ◌∙◌}
use Prim.Native.Nat.{ℕ, zero, suc, ◌+◌, ◌*◌, ◌/◌}
use native.Mathlib.Omega.{arith}
use lib.Dec.{eqb}
use lib.ListN.{length, get_or, take, drop, replicate, length-append, length-replicate}
use lib.Seq.{length-sets, length-take-le}
use Rattle.std.proofs.Common.{Option, Some, None}
use Rattle.flow.specs.Calls.{reset, zeroed, effect_of, after_failure, finish, dropped, bytes_in, level_sent, macro_sent}
use Rattle.flow.specs.Cuts.{cut_by, cut_memory}
use Rattle.flow.specs.Exchange.{carry, killed, barred, carried_out, met, transferred, meet_on, decode, tick, fetch, begin, is_call, store, meet}
use Rattle.flow.specs.Map.{place}
use Rattle.flow.specs.Packets.{packet_of}
use Rattle.flow.specs.Run.{Run, advance_by, advance, run_after}
use Rattle.flow.specs.Session.{SessionState, running, reported, move_at}
use Rattle.flow.specs.Target.{CallOutcome, Target, Lists, next_event, next_outcome, Memory, Residue, Running, idle, busy, sized}
use Rattle.flow.specs.declared.Place.{Place}
use Rattle.flow.specs.declared.Place.TheVariants.{InFlash, InLocks, InParams, AtLevel, AtSysreq, AtSysarg, AtTestMode, Elsewhere}
use Rattle.flow.specs.declared.Reply.{Reply}
use Rattle.flow.specs.declared.Request.{Request}
use Rattle.flow.specs.declared.Request.TheVariants.{Xres, LineReset, ReadIdcode, ReadDrw, WriteTar, WriteDrw, WriteSetup}
use Rattle.image.specs.Image.{Image}
use Rattle.parts.specs.Sizes.{row_bytes_of, locks_in, lock_start}
use Rattle.parts.specs.declared.Geometry.{Geometry}

module _ (g : Geometry) (P : Target → Type 0) where
  -- P is kept by a request that is carried out, and by the transfer of it
  abbrev pub Carries : Request → Type 0
  Carries q = (o : ℕ) (c : CallOutcome) (b : Target) → P b → P (carry g q o c b)

  abbrev pub Transfers : Request → Type 0
  Transfers q = (l : Lists) (b : Target) → P b → P (transferred g q l b).target

  met-keeps : (y : Bool) (q : Request) → Carries q → (l : Lists) (a : Reply) (b : Target) → P b → P (met y g q l a b).target
  met-keeps true q carries l a b p = carries (next_event l.line).other (next_outcome l.calls) b p
  met-keeps false q carries l a b p = p

  pub carried_keeps : (q : Request) → Carries q → Transfers q
  unfolding transferred
  carried_keeps q carries l b p = met-keeps (not (killed b) && not (barred g q b) && carried_out (next_event l.line).outcome) q carries l _ b p

  module _ (resets : (b : Target) → P b → P (reset g b)) where
    pub request-keeps : (q : Request) → Transfers q → (l : Lists) (b : Target) → P b → P (meet_on g (Some q) l b).target
    request-keeps Xres keeps l b p = resets b p
    request-keeps LineReset keeps l b p = p
    request-keeps ReadIdcode keeps l b p = keeps l b p
    request-keeps ReadDrw keeps l b p = keeps l b p
    request-keeps (WriteTar a) keeps l b p = keeps l b p
    request-keeps (WriteDrw w) keeps l b p = keeps l b p
    request-keeps (WriteSetup r w) keeps l b p = keeps l b p

    pub packet-keeps : ((q : Request) → Transfers q) → (d : Option Request) (l : Lists) (b : Target) → P b → P (meet_on g d l b).target
    packet-keeps keeps (Some q) l b p = request-keeps q (keeps q) l b p
    packet-keeps keeps None l b p = p

-- the same sizes
pub record Sizes (m m' : Memory) : Type 0 where
  pub flash : length m'.flash ≡ length m.flash
  pub locks : length m'.locks ≡ length m.locks
  pub latch : length m'.latch ≡ length m.latch

same : (m : Memory) → Sizes m m
same m = record { flash = refl; locks = refl; latch = refl }

either : {m : Memory} (t : Bool) {x y : Memory} → Sizes m x → Sizes m y → Sizes m (cond t x y)
either true a b = a
either false a b = b

length-sized : (l x : List ℕ) → length (sized l x) ≡ length l
length-sized l x = length-take-le (length l) (x ++ replicate (length l) 0) (omega (arith, length-append x (replicate (length l) 0), length-replicate {A = ℕ} (length l) 0))

zeroed-sizes : (l : ℕ) (m : Memory) → Sizes m (zeroed l m)
zeroed-sizes l m = record { flash = length-replicate (length m.flash) 0; locks = length-replicate (length m.locks) 0; latch = refl }

effect-sizes : (g : Geometry) (c l arg : ℕ) (ps : List ℕ) (m : Memory) → Sizes m (effect_of g c l arg ps m)
unfolding effect_of
effect-sizes g c l arg ps m =
    either (eqb c 0x0A) (zeroed-sizes m.stored m)
    (either (eqb c 4) (record { flash = refl; locks = refl; latch = length-sets m.latch 0 (take (get_or ps 1 0 + 1) (bytes_in (drop 2 ps))) })
    (either (eqb c 6) (record { flash = length-sets m.flash (get_or ps 0 0 / 0x10000 * row_bytes_of g) m.latch; locks = refl; latch = refl })
    (either (eqb c 0x0D)
    (either (eqb l 2 && eqb (level_sent arg) 1) (zeroed-sizes 1 m)
    (record { flash = refl; locks = length-sets m.locks (lock_start g (macro_sent arg)) (take (locks_in g (macro_sent arg)) m.latch); latch = refl })) (same m))))

failure-sizes : (c arg : ℕ) (r : Residue) (m : Memory) → Sizes m (after_failure c arg r m)
unfolding after_failure
failure-sizes c arg r m =
    either (eqb c 0 || eqb c 0x0B || eqb c 0x15) (same m)
    (record { flash = length-sized m.flash r.flash; locks = length-sized m.locks r.locks; latch = length-sized m.latch r.latch })

-- sizes, the length of PARAMS and the IDs; of fields alone, so that it does not see the registers
abbrev pub Keeps : Target → Target → Type 0
Keeps b b' = record { memory : Sizes b.memory b'.memory; params : length b'.params ≡ length b.params; silicon : b'.silicon ≡ b.silicon }

keep : (b : Target) → Keeps b b
keep b = record { memory = same b.memory; params = refl; silicon = refl }

then : (a b c : Target) → Keeps a b → Keeps b c → Keeps a c
then a b c x y = record {
  memory = record { flash = y.memory.flash ∙ x.memory.flash; locks = y.memory.locks ∙ x.memory.locks; latch = y.memory.latch ∙ x.memory.latch };
  params = y.params ∙ x.params;
  silicon = y.silicon ∙ x.silicon;
}

finish-keeps : (g : Geometry) (s : Bool) (r : Residue) (c : ℕ) (b : Target) → Keeps b (finish g s r c b)
unfolding finish
finish-keeps g true r c b = record { memory = effect-sizes g c b.effect b.sysarg _ b.memory; params = refl; silicon = refl }
finish-keeps g false r c b = record { memory = failure-sizes c b.sysarg r b.memory; params = refl; silicon = refl }

reset-keeps : (g : Geometry) (b : Target) → Keeps b (reset g b)
unfolding reset
reset-keeps g b = by b.running
  where
    by : (x : Running) → Keeps b (dropped g x b)
    by idle = keep b
    by (busy n s r c) = finish-keeps g false r c b

tick-keeps : (g : Geometry) (o : ℕ) (x : Running) (b : Target) → Keeps b (tick g o x b)
tick-keeps g o idle b = keep b
tick-keeps g o (busy (suc n) s r c) b = keep b
tick-keeps g o (busy zero s r c) b = finish-keeps g s r c b

fetch-keeps : (g : Geometry) (o : ℕ) (p : Place) (b : Target) → Keeps b (fetch g o p b)
fetch-keeps g o (InFlash a) b = keep b
fetch-keeps g o (InLocks a) b = keep b
fetch-keeps g o (InParams a) b = keep b
fetch-keeps g o AtLevel b = keep b
fetch-keeps g o AtSysreq b = tick-keeps g o b.running b
fetch-keeps g o AtSysarg b = keep b
fetch-keeps g o AtTestMode b = keep b
fetch-keeps g o Elsewhere b = keep b

begin-keeps : (y : Bool) (w : ℕ) (o : CallOutcome) (b : Target) → Keeps b (begin y w o b)
begin-keeps true w o b = keep b
begin-keeps false w o b = keep b

store_keeps : (w : ℕ) (o : CallOutcome) (p : Place) (b : Target) → Keeps b (store w o p b)
store_keeps w o (InFlash a) b = keep b
store_keeps w o (InLocks a) b = keep b
store_keeps w o (InParams k) b = record { memory = same b.memory; params = length-sets b.params k (w ∷ []); silicon = refl }
store_keeps w o AtLevel b = keep b
store_keeps w o AtSysreq b = begin-keeps (is_call w) w o b
store_keeps w o AtSysarg b = keep b
store_keeps w o AtTestMode b = keep b
store_keeps w o Elsewhere b = keep b

carry-keeps : (g : Geometry) (q : Request) (o : ℕ) (c : CallOutcome) (b : Target) → Keeps b (carry g q o c b)
unfolding carry
carry-keeps g Xres o c b = keep b
carry-keeps g LineReset o c b = keep b
carry-keeps g ReadIdcode o c b = keep b
carry-keeps g ReadDrw o c b = fetch-keeps g o (place g b.tar) b
carry-keeps g (WriteTar a) o c b = keep b
carry-keeps g (WriteDrw w) o c b = store_keeps w c (place g b.tar) b
carry-keeps g (WriteSetup r w) o c b = keep b

advance-keeps : (i : Image) (r : Run) → Keeps r.target (advance i r).target
unfolding advance meet
advance-keeps i r = by r.session
  where
    by : (s : SessionState) → Keeps r.target (advance_by i s r).target
    by (running o c h) =
        packet-keeps i.geometry (Keeps r.target) (λ b k. then r.target b (reset i.geometry b) k (reset-keeps i.geometry b))
        (λ q. carried_keeps i.geometry (Keeps r.target) q (λ o c b k. then r.target b (carry i.geometry q o c b) k (carry-keeps i.geometry q o c b))) (decode (packet_of (move_at i o).request)) r.lists r.target (keep r.target)
    by (reported n s h) = keep r.target

pub run-keeps : (i : Image) (n : ℕ) (r : Run) → Keeps r.target (run_after i n r).target
unfolding run_after
run-keeps i zero r = keep r.target
run-keeps i (suc n) r = then r.target (advance i r).target (run_after i n (advance i r)).target (advance-keeps i r) (run-keeps i n (advance i r))

-- and what a cut leaves
pub cut_keeps : (b : Target) (r : Residue) → Sizes b.memory (cut_memory b r)
cut_keeps b r = by b.running
  where
    by : (x : Running) → Sizes b.memory (cut_by x b.sysarg r b.memory)
    by idle = same b.memory
    by (busy n s entry c) = failure-sizes c b.sysarg r b.memory
