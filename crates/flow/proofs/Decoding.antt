-- The target reads each request as it was meant. Assumes nothing.
use mathlib.Core.Bool.{cond}
use mathlib.Core.Path.{◌≡◌, refl}
use Prim.Native.Nat.{ℕ}
use lib.Count.{ones, ones_in}
use lib.Dec.{eqb}
use borrow.Author.Tests.{eq-eqb}
use Rattle.std.proofs.Common.{Option, Some, None}
use Rattle.flow.specs.Exchange.{decode, transferred, meet}
use Rattle.flow.specs.Packets.{packet_of}
use Rattle.flow.specs.Target.{Target, Lists}
use Rattle.flow.specs.declared.Request.{Request}
use Rattle.flow.specs.declared.Request.TheVariants.{ReadIdcode, ReadDrw, WriteTar, WriteDrw, WriteSetup}
use Rattle.parts.specs.declared.Geometry.{Geometry}
use Rattle.wire.specs.Wire.{parity}
use Rattle.wire.specs.declared.Register.TheVariants.{CtrlStat, Select, Csw}

-- the transfers of the sequence; outside the attempts all but the IDCODE read
pub data Plain : Request → Type 0 where
  a_tar : {a : ℕ} → Plain (WriteTar a)
  a_drw : {w : ℕ} → Plain (WriteDrw w)
  a_read : Plain ReadDrw
  a_ctrl : {w : ℕ} → Plain (WriteSetup CtrlStat w)
  a_select : {w : ℕ} → Plain (WriteSetup Select w)
  a_csw : {w : ℕ} → Plain (WriteSetup Csw w)

pub data Wired : Request → Type 0 where
  attempt : Wired ReadIdcode
  plain : {q : Request} → Plain q → Wired q

-- a write whose parity bit is its word's
understood : (w : ℕ) (d : Option Request) → cond (eqb (parity w) (parity w)) d None ≡ d
understood w d = rw (eq-eqb (parity w) (parity w) refl)

pub decodes : {q : Request} → Wired q → decode (packet_of q) ≡ Some q
unfolding decode ones ones_in
decodes attempt = refl
decodes (plain (a_tar {a = w})) = understood w (Some (WriteTar w))
decodes (plain (a_drw {w = w})) = understood w (Some (WriteDrw w))
decodes (plain a_read) = refl
decodes (plain (a_ctrl {w = w})) = understood w (Some (WriteSetup CtrlStat w))
decodes (plain (a_select {w = w})) = understood w (Some (WriteSetup Select w))
decodes (plain (a_csw {w = w})) = understood w (Some (WriteSetup Csw w))

pub meets : (g : Geometry) {q : Request} → Wired q → (l : Lists) (b : Target) → meet g (packet_of q) l b ≡ transferred g q l b
unfolding meet
meets g attempt l b = rw (decodes attempt)
meets g (plain (a_tar {a = w})) l b = rw (decodes (plain (a_tar {a = w})))
meets g (plain (a_drw {w = w})) l b = rw (decodes (plain (a_drw {w = w})))
meets g (plain a_read) l b = rw (decodes (plain a_read))
meets g (plain (a_ctrl {w = w})) l b = rw (decodes (plain (a_ctrl {w = w})))
meets g (plain (a_select {w = w})) l b = rw (decodes (plain (a_select {w = w})))
meets g (plain (a_csw {w = w})) l b = rw (decodes (plain (a_csw {w = w})))
