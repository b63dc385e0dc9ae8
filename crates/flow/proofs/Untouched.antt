-- A request that starts no call but 0 and 0x15 leaves the memory as it is, whatever the lists hold. Assumes nothing.
use mathlib.Core.Bool.{Bool, true, false}
use mathlib.Core.Path.{◌≡◌, refl, ◌∙◌}
use Prim.Native.Nat.{ℕ, zero, suc, ◌%◌}
use Rattle.std.proofs.Common.{Some}
use Rattle.flow.specs.Calls.{finish, dropped, reset}
use Rattle.flow.specs.Exchange.{decode, tick, fetch, begin, is_call, store, carry, meet}
use Rattle.flow.specs.Map.{place}
use Rattle.flow.specs.Packets.{packet_of}
use Rattle.flow.specs.Target.{Memory, Residue, CallOutcome, Running, idle, busy, Target, Lists}
use Rattle.flow.specs.declared.Place.{Place}
use Rattle.flow.specs.declared.Place.TheVariants.{InFlash, InLocks, InParams, AtLevel, AtSysreq, AtSysarg, AtTestMode, Elsewhere}
use Rattle.flow.specs.declared.Request.{Request}
use Rattle.flow.specs.declared.Request.TheVariants.{Xres, LineReset, ReadIdcode, ReadDrw, WriteTar, WriteDrw, WriteSetup}
use Rattle.flow.proofs.Calling.{Harmless, still}
use Rattle.flow.proofs.Keeping.{carried_keeps, request-keeps}
use Rattle.parts.specs.declared.Geometry.{Geometry}

abbrev Resting : Running → Type 0
Resting idle = Unit {0}
Resting (busy n s r c) = Harmless c

pub record Untouched (m : Memory) (b : Target) : Type 0 where
  pub memory : b.memory ≡ m
  pub resting : Resting b.running

-- a request that starts no other call
abbrev pub Mild : Request → Type 0
Mild Xres = Unit {0}
Mild LineReset = Unit {0}
Mild ReadIdcode = Unit {0}
Mild ReadDrw = Unit {0}
Mild (WriteTar a) = Unit {0}
Mild (WriteDrw w) = is_call w ≡ true → Harmless (w % 256)
Mild (WriteSetup r w) = Unit {0}

module _ (g : Geometry) {m : Memory} where
  finished : {c : ℕ} → Harmless c → (y : Bool) (r : Residue) (b : Target) → b.memory ≡ m → Untouched m (finish g y r c b)
  unfolding finish
  finished h true r b e = record { memory = still h g true r b ∙ e; resting = tt }
  finished h false r b e = record { memory = still h g false r b ∙ e; resting = tt }

  ticked : (o : ℕ) (x : Running) (b : Target) → Resting x → Untouched m b → Untouched m (tick g o x b)
  ticked o idle b h u = record { memory = u.memory; resting = u.resting }
  ticked o (busy (suc n) s r c) b h u = record { memory = u.memory; resting = h }
  ticked o (busy zero s r c) b h u = let f = finished h s r b u.memory in record { memory = f.memory; resting = f.resting }

  fetched : (o : ℕ) (pc : Place) (b : Target) → Untouched m b → Untouched m (fetch g o pc b)
  fetched o (InFlash a) b u = record { memory = u.memory; resting = u.resting }
  fetched o (InLocks a) b u = record { memory = u.memory; resting = u.resting }
  fetched o (InParams k) b u = record { memory = u.memory; resting = u.resting }
  fetched o AtLevel b u = record { memory = u.memory; resting = u.resting }
  fetched o AtSysreq b u = ticked o b.running b u.resting u
  fetched o AtSysarg b u = record { memory = u.memory; resting = u.resting }
  fetched o AtTestMode b u = record { memory = u.memory; resting = u.resting }
  fetched o Elsewhere b u = record { memory = u.memory; resting = u.resting }

  begun : (w : ℕ) (o : CallOutcome) (b : Target) (y : Bool) → (y ≡ true → Harmless (w % 256)) → Untouched m b → Untouched m (begin y w o b)
  begun w o b true h u = record { memory = u.memory; resting = h refl }
  begun w o b false h u = record { memory = u.memory; resting = u.resting }

  stored : (w : ℕ) (o : CallOutcome) (pc : Place) (b : Target) → (is_call w ≡ true → Harmless (w % 256)) → Untouched m b → Untouched m (store w o pc b)
  stored w o (InFlash a) b h u = u
  stored w o (InLocks a) b h u = u
  stored w o (InParams k) b h u = record { memory = u.memory; resting = u.resting }
  stored w o AtLevel b h u = u
  stored w o AtSysreq b h u = begun w o b (is_call w) h u
  stored w o AtSysarg b h u = record { memory = u.memory; resting = u.resting }
  stored w o AtTestMode b h u = record { memory = u.memory; resting = u.resting }
  stored w o Elsewhere b h u = u

  carried : (q : Request) → Mild q → (o : ℕ) (c : CallOutcome) (b : Target) → Untouched m b → Untouched m (carry g q o c b)
  unfolding carry
  carried Xres h o c b u = u
  carried LineReset h o c b u = u
  carried ReadIdcode h o c b u = u
  carried ReadDrw h o c b u = fetched o (place g b.tar) b u
  carried (WriteTar a) h o c b u = record { memory = u.memory; resting = u.resting }
  carried (WriteDrw w) h o c b u = stored w c (place g b.tar) b h u
  carried (WriteSetup r w) h o c b u = u

  reset-untouched : (b : Target) → Untouched m b → Untouched m (reset g b)
  unfolding reset
  reset-untouched b u = record { memory = by b.running u.resting; resting = tt }
    where
      by : (x : Running) → Resting x → (dropped g x b).memory ≡ m
      by idle h = u.memory
      by (busy n s r c) h = still h g false r b ∙ u.memory

  -- a packet that the target reads as the request that was meant
  pub meet-untouched : (q : Request) → decode (packet_of q) ≡ Some q → Mild q → (l : Lists) (b : Target) → Untouched m b → Untouched m (meet g (packet_of q) l b).target
  unfolding meet
  meet-untouched q e h l b u = rw e (request-keeps g (Untouched m) reset-untouched q (carried_keeps g (Untouched m) q (carried q h)) l b u)
