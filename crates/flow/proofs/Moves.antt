-- What holds of every move of the sequence: its step, the numbers it can report, its place. Assumes nothing.
use mathlib.Core.List.{List, [], ◌∷◌, ◌++◌, append_assoc}
use mathlib.Core.Path.{◌≡◌, refl, ap, ◌∙◌}
use Prim.Native.Nat.{ℕ, zero, suc, ◌+◌, ◌/◌, ◌≤◌}
use native.Mathlib.Omega.{arith}
use lib.Dec.{lit≤}
use lib.ListN.{length, get_or, length-append}
use Rattle.std.proofs.Common.{Some}
use Rattle.flow.proofs.Decoding.{a_tar, a_drw, a_read, a_ctrl, a_select, a_csw, attempt, plain, decodes}
use Rattle.flow.specs.Exchange.{decode}
use Rattle.flow.specs.Packets.{packet_of}
use Rattle.flow.specs.Sequence.{move, write, read, call, writes, listed, in_turn, imo_call, acquire, silicon, privileged, program_row, verify_row, lock_macro, verify_macro, macro_down, program, opening, afterwards, sequence, end_move, key}
use Rattle.flow.specs.Session.{position, move_at}
use Rattle.flow.specs.declared.Entry.{Entry}
use Rattle.flow.specs.declared.Entry.TheVariants.{FromOpen, FromProtected}
use Rattle.flow.specs.declared.Move.{Move}
use Rattle.flow.specs.declared.Purpose.{Purpose}
use Rattle.flow.specs.declared.Purpose.TheVariants.{Sent, Idcode, TestBit, Poll, Status, Keep, EntryLevel, Reopened, FlashWord, LockWord, StoredLevel, LastSum}
use Rattle.flow.specs.declared.Request.{Request}
use Rattle.flow.specs.declared.Request.TheVariants.{Xres, LineReset, ReadIdcode, ReadDrw, WriteTar, WriteDrw}
use Rattle.image.specs.Image.{Image}
use Rattle.parts.specs.Sizes.{row_bytes_of, macros_of, rows_of, locks_in, sysreq_of, sysarg_of, imo_of, PARAMS}
use Rattle.parts.specs.declared.Geometry.{Geometry}

pub data All (P : Move → Type 0) : List Move → Type 0 where
  none : All P []
  more : {m : Move} {ms : List Move} → P m → All P ms → All P (m ∷ ms)

module _ {P : Move → Type 0} where
  pub joined : {a b : List Move} → All P a → All P b → All P (a ++ b)
  joined none q = q
  joined (more h p) q = more h (joined p q)

  all-pieces : (f : ℕ → List Move) → ((k : ℕ) → All P (f k)) → (k n : ℕ) → All P (in_turn f k n)
  unfolding in_turn
  all-pieces f each k zero = none
  all-pieces f each k (suc n) = joined (each k) (all-pieces f each (suc k) n)

-- a move's purpose, where EntryLevel stands only if E holds
abbrev pub Reports : (E : Type 0) → Purpose → (step : ℕ) → Type 0
Reports E Sent s = Unit {0}
Reports E Idcode s = Unit {0}
Reports E TestBit s = Unit {0}
Reports E Poll s = Unit {0}
Reports E Status s = Unit {0}
Reports E Keep s = Unit {0}
Reports E EntryLevel s = E
Reports E Reopened s = Unit {0}
Reports E (FlashWord r o) s = Unit {0}
Reports E (LockWord m o) s = Unit {0}
Reports E StoredLevel s = Unit {0}
Reports E LastSum s = s ≡ 9

-- the target reads the request as it was meant
abbrev pub Meant : Request → Type 0
Meant q = decode (packet_of q) ≡ Some q

meant-xres : Meant Xres
unfolding decode
meant-xres = refl

meant-line : Meant LineReset
unfolding decode
meant-line = refl

-- of a step from lo on
pub record Proper (E : Type 0) (lo : ℕ) (m : Move) : Type 0 where
  pub low : lo ≤ m.step
  pub high : m.step ≤ 9
  pub reports : Reports E m.purpose m.step
  pub meant : Meant m.request

relax : {E F : Type 0} → (E → F) → (u : Purpose) (s : ℕ) → Reports E u s → Reports F u s
relax h Sent s r = tt
relax h Idcode s r = tt
relax h TestBit s r = tt
relax h Poll s r = tt
relax h Status s r = tt
relax h Keep s r = tt
relax h EntryLevel s r = h r
relax h Reopened s r = tt
relax h (FlashWord r o) s x = tt
relax h (LockWord m o) s x = tt
relax h StoredLevel s r = tt
relax h LastSum s r = r

relaxed : {E F : Type 0} {lo : ℕ} {m : Move} → (E → F) → Proper E lo m → Proper F lo m
relaxed {m = m} h p = record { low = p.low; high = p.high; reports = relax h m.purpose m.step p.reports; meant = p.meant }

module _ (E : Type 0) (lo s : ℕ) (low : lo ≤ s) (high : s ≤ 9) where
  proper : (q : Request) {u : Purpose} → Meant q → Reports E u s → Proper E lo (move s q u)
  proper q e r = record { low = low; high = high; reports = r; meant = e }

  tar-proper : (a : ℕ) → Proper E lo (move s (WriteTar a) Sent)
  tar-proper a = proper (WriteTar a) {u = Sent} (decodes (plain a_tar)) tt

  read-proper : (u : Purpose) → Reports E u s → Proper E lo (move s ReadDrw u)
  read-proper u r = proper ReadDrw (decodes (plain a_read)) r

  all-write : (a w : ℕ) → All (Proper E lo) (write s a w)
  unfolding write
  all-write a w = more (tar-proper a) (more (proper (WriteDrw w) {u = Sent} (decodes (plain a_drw)) tt) none)

  all_read : (a : ℕ) (u : Purpose) → Reports E u s → All (Proper E lo) (read s a u)
  unfolding read
  all_read a u r = more (tar-proper a) (more (read-proper Sent tt) (more (read-proper u r) none))

  pub all-call : (g : Geometry) (c w : ℕ) → All (Proper E lo) (call g s c w)
  unfolding call
  all-call g c w = joined (all-write _ _) (joined (all-write _ _) (joined (all_read _ Poll tt) (all_read _ Status tt)))

  all-writes : (a : ℕ) (ws : List ℕ) → All (Proper E lo) (writes s a ws)
  unfolding writes
  all-writes a [] = none
  all-writes a (w ∷ ws) = joined (all-write a w) (all-writes (a + 4) ws)

  all_listed : (g : Geometry) (c : ℕ) (ws : List ℕ) → All (Proper E lo) (listed g s c ws)
  unfolding listed
  all_listed g c ws = joined (all-writes PARAMS ws) (all-call g c PARAMS)

  all-privileged : (g : Geometry) (u : Purpose) → Reports E u s → All (Proper E lo) (privileged g s u)
  unfolding privileged
  all-privileged g u r = joined (all-call g 0x0B _) (all_read _ u r)

module _ (E : Type 0) where
  all-imo : (g : Geometry) (n : ℕ) → All (Proper E 1) (imo_call g n)
  unfolding imo_call
  all-imo g zero = none
  all-imo g (suc n) = all-call E 1 1 (lit≤ tt) (lit≤ tt) g 0x15 _

  all-acquire : (g : Geometry) → All (Proper E 1) (acquire g)
  unfolding acquire
  all-acquire g =
      more (one Xres Sent meant-xres tt) (more (one LineReset Sent meant-line tt) (more (one ReadIdcode Idcode (decodes attempt) tt)
      (more (one _ Sent (decodes (plain a_ctrl)) tt) (more (one _ Sent (decodes (plain a_select)) tt) (more (one _ Sent (decodes (plain a_csw)) tt)
      (joined (all-write E 1 1 (lit≤ tt) (lit≤ tt) _ _)
      (joined (all_read E 1 1 (lit≤ tt) (lit≤ tt) _ TestBit tt)
      (joined (all_read E 1 1 (lit≤ tt) (lit≤ tt) _ Poll tt) (all-imo g (imo_of g))))))))))
    where
      one : (q : Request) (u : Purpose) → Meant q → Reports E u 1 → Proper E 1 (move 1 q u)
      one q u e r = proper E 1 1 (lit≤ tt) (lit≤ tt) q e r

  all-silicon : (g : Geometry) (u : Purpose) → Reports E u 2 → All (Proper E 1) (silicon g u)
  unfolding silicon
  all-silicon g u r =
      joined (all-call E 1 2 (lit≤ tt) (lit≤ tt) g 0 _)
      (joined (all_read E 1 2 (lit≤ tt) (lit≤ tt) _ Keep tt) (all_read E 1 2 (lit≤ tt) (lit≤ tt) _ u r))

  all-program : (lo : ℕ) → lo ≤ 4 → (i : Image) → All (Proper E lo) (program i)
  unfolding program program_row verify_row lock_macro verify_macro
  all-program lo h i =
      let g = i.geometry in
      joined (all-privileged E lo 4 (omega arith) (lit≤ tt) g Keep tt)
      (joined
      (all-pieces _ (λ r. joined (all_listed E lo 5 (omega arith) (lit≤ tt) g 4 _) (all_listed E lo 5 (omega arith) (lit≤ tt) g 6 _)) 0 (rows_of g))
      (joined
      (all-pieces _ (λ r. all-pieces _ (λ j. all_read E lo 6 (omega arith) (lit≤ tt) _ (FlashWord r _) tt) 0 (row_bytes_of g / 4)) 0 (rows_of g))
      (joined
      (all-pieces _
      (λ k. joined (joined (all_listed E lo 7 (omega arith) (lit≤ tt) g 4 _) (all-call E lo 7 (omega arith) (lit≤ tt) g 0x0D _))
      (all-pieces _ (λ j. all_read E lo 8 (omega arith) (lit≤ tt) _ (LockWord (macro_down g k) _) tt) 0 (locks_in g (macro_down g k) / 4))) 0 (macros_of g))
      (joined (all_read E lo 8 (omega arith) (lit≤ tt) _ StoredLevel tt) (all-privileged E lo 9 (omega arith) (lit≤ tt) g LastSum refl)))))

pub all-open : (lo : ℕ) → lo ≤ 3 → (i : Image) → All (Proper ⊥ lo) (afterwards i FromOpen)
unfolding afterwards
all-open lo h i = joined (all_listed ⊥ lo 3 h (lit≤ tt) i.geometry 0x0A _) (all-program ⊥ lo (omega arith) i)

all-afterwards : (i : Image) (y : Entry) → All (Proper ⊥ 1) (afterwards i y)
unfolding afterwards
all-afterwards i FromOpen = all-open 1 (lit≤ tt) i
all-afterwards i FromProtected =
    joined (all-call ⊥ 1 3 (lit≤ tt) (lit≤ tt) i.geometry 0x0D _)
    (joined (all-acquire ⊥ i.geometry) (joined (all-silicon ⊥ i.geometry Reopened tt) (all-program ⊥ 1 (lit≤ tt) i)))

-- ---- at every place, also past the end

-- steps 1 and 2 but for the last move, which decides the entry
abbrev before : Geometry → List Move
before g =
    acquire g ++ (call g 2 0 (key 0) ++ (read 2 (sysarg_of g) Keep ++ (move 2 (WriteTar (sysreq_of g)) Sent ∷ move 2 ReadDrw Sent ∷ [])))

abbrev decides : Move
decides = move 2 ReadDrw EntryLevel

opening-ends : (i : Image) → opening i ≡ before i.geometry ++ (decides ∷ [])
unfolding opening silicon read
opening-ends i = simp append_assoc

all-before : (g : Geometry) → All (Proper ⊥ 1) (before g)
all-before g =
    joined (all-acquire ⊥ g)
    (joined (all-call ⊥ 1 2 (lit≤ tt) (lit≤ tt) g 0 _)
    (joined (all_read ⊥ 1 2 (lit≤ tt) (lit≤ tt) _ Keep tt)
    (more (tar-proper ⊥ 1 2 (lit≤ tt) (lit≤ tt) _) (more (read-proper ⊥ 1 2 (lit≤ tt) (lit≤ tt) Sent tt) none))))

pub anywhere : {lo : ℕ} {ms : List Move} → lo ≤ 9 → All (Proper ⊥ lo) ms → (n : ℕ) → Proper ⊥ lo (get_or ms n end_move)
anywhere h none n = record { low = h; high = lit≤ tt; reports = tt; meant = meant-xres }
anywhere h (more p ps) zero = p
anywhere h (more p ps) (suc n) = anywhere h ps n

around : {a b : List Move} {m : Move} → All (Proper ⊥ 1) a → Proper (Unit {0}) 1 m → All (Proper ⊥ 1) b
    → (n : ℕ) → Proper (n ≡ length a) 1 (get_or (a ++ (m ∷ b)) n end_move)
around none p q zero = relaxed (λ x. refl) p
around none p q (suc n) = relaxed (λ x. absurd x) (anywhere (lit≤ tt) q n)
around (more h hs) p q zero = relaxed (λ x. absurd x) h
around (more h hs) p q (suc n) = relaxed (λ x. ap suc x) (around hs p q n)

-- every move is proper, and only the last of steps 1 and 2 decides the entry
pub proper-at : (i : Image) (y : Entry) (n : ℕ) → Proper (suc n ≡ length (opening i)) 1 (move_at i (position y n))
unfolding sequence
proper-at i y n =
    let g = i.geometry in
    let e : opening i ++ afterwards i y ≡ before g ++ (decides ∷ afterwards i y) =
    ap (λ (l : List Move). l ++ afterwards i y) (opening-ends i) ∙ append_assoc (before g) (decides ∷ []) (afterwards i y) in
    let l : length (opening i) ≡ suc (length (before g)) =
    ap length (opening-ends i) ∙ length-append (before g) (decides ∷ []) ∙ omega arith in
    rw e
    (relaxed (λ (x : n ≡ length (before g)). omega (arith, x, l))
    (around (all-before g) (read-proper (Unit {0}) 1 2 (lit≤ tt) (lit≤ tt) EntryLevel tt) (all-afterwards i y) n))
