-- What a line event makes of a transfer that the target would carry out. Assumes nothing.
use mathlib.Core.Bool.{Bool, true, false, cond}
use mathlib.Core.Path.{◌≡◌, refl, ap, sym, ◌∙◌}
use Prim.Native.Nat.{ℕ, ◌-◌, ◌≤◌}
use native.Mathlib.Omega.{arith}
use lib.Dec.{eqb, lit≤}
use borrow.Author.Tests.{eq-eqb, ne_eqb}
use Rattle.flow.specs.Exchange.{carry, gives, barred, killed, calls_on, reply_with, silent_reply, noisy_ack, noisy_reply, okay_reply, wrong_parity_reply, reply_to, carried_out, Met, met, transferred}
use Rattle.flow.specs.Packets.{is_read, okay, again, broken, heard, verdict}
use Rattle.flow.specs.Target.{Target, Lists, next_event, next_outcome, rest}
use Rattle.flow.specs.declared.Answer.TheVariants.{Transferred}
use Rattle.flow.specs.declared.LineEvent.{LineEvent}
use Rattle.flow.specs.declared.Reply.{Reply}
use Rattle.flow.specs.declared.Request.{Request}
use Rattle.flow.specs.declared.Request.TheVariants.{ReadIdcode, ReadDrw}
use Rattle.flow.specs.declared.TransferOutcome.{TransferOutcome}
use Rattle.flow.specs.declared.TransferOutcome.TheVariants.{Clean, Waits, Faults, WrongParity, Silent, Noisy}
use Rattle.flow.proofs.Decoding.{Wired, attempt, plain, a_tar, a_drw, a_read, a_ctrl, a_select, a_csw}
use Rattle.parts.specs.declared.Geometry.{Geometry}
use Rattle.wire.specs.Wire.{parity, ack_of}
use Rattle.wire.specs.declared.Ack.TheVariants.{Noise}

-- what is left of the lists
abbrev pub lists_after : Geometry → Request → Target → Lists → Lists
lists_after g q b l = record { line = rest l.line; calls = cond (calls_on g q b) (rest l.calls) l.calls }

-- carried out, and said so; WAIT; or a mishap, carried out or not
pub data Heard (g : Geometry) (q : Request) (l : Lists) (b : Target) : Met → Type 0 where
  heard_okay : {m : Met} → m.target ≡ carry g q (next_event l.line).other (next_outcome l.calls) b → verdict q m.answer ≡ okay (gives q b) → m.lists ≡ lists_after g q b l
      → Heard g q l b m
  heard_wait : {m : Met} → ((next_event l.line).outcome ≡ Clean → ⊥) → m.target ≡ b → verdict q m.answer ≡ again
      → m.lists ≡ record { line = rest l.line; calls = l.calls } → Heard g q l b m
  heard_error : {m : Met} (n : ℕ) → 1 ≤ n → ((next_event l.line).outcome ≡ Clean → ⊥) → m.target ≡ b → verdict q m.answer ≡ broken n → Heard g q l b m
  heard_error_done : {m : Met} (n : ℕ) → 1 ≤ n → ((next_event l.line).outcome ≡ Clean → ⊥) → m.target ≡ carry g q (next_event l.line).other (next_outcome l.calls) b
      → verdict q m.answer ≡ broken n → Heard g q l b m

-- the other outcomes are not clean
abbrev is_clean : TransferOutcome → Bool
is_clean Clean = true
is_clean Waits = false
is_clean Faults = false
is_clean WrongParity = false
is_clean (Silent c) = false
is_clean (Noisy c) = false

-- a number that is read as no noise is not given
noisy-ack : (n : ℕ) → ack_of (noisy_ack n) ≡ Noise
noisy-ack n = by (eqb n 1) (eqb n 2) (eqb n 4) (eqb n 7) refl refl refl refl
  where
    by : (x y z t : Bool) → eqb n 1 ≡ x → eqb n 2 ≡ y → eqb n 4 ≡ z → eqb n 7 ≡ t → ack_of (noisy_ack n) ≡ Noise
    by true y z t p q r s = simp p
    by false true z t p q r s = simp (p, q)
    by false false true t p q r s = simp (p, q, r)
    by false false false true p q r s = simp (p, q, r, s)
    by false false false false p q r s = simp (p, q, r, s)

pub silence-heard : (q : Request) (j : Reply) → verdict q (Transferred (silent_reply j)) ≡ broken 29
unfolding verdict heard
silence-heard q j = refl

noise-heard : (q : Request) (j : Reply) → verdict q (Transferred (noisy_reply j)) ≡ broken 33
unfolding verdict heard
noise-heard q j = rw (noisy-ack j.ack)

waits-heard : (q : Request) (j : Reply) → verdict q (Transferred (reply_with 2 j)) ≡ again
unfolding verdict heard
waits-heard q j = refl

faults-heard : (q : Request) (j : Reply) → verdict q (Transferred (reply_with 4 j)) ≡ broken 28
unfolding verdict heard
faults-heard q j = refl

okay-heard : {q : Request} → Wired q → (b : Target) (j : Reply) → verdict q (Transferred (okay_reply (is_read q) (gives q b) j)) ≡ okay (gives q b)
unfolding verdict heard
okay-heard attempt b j = rw (eq-eqb (parity b.silicon.idcode) (parity b.silicon.idcode) refl)
okay-heard (plain a_tar) b j = refl
okay-heard (plain a_drw) b j = refl
okay-heard (plain a_read) b j = rw (eq-eqb (parity b.posted) (parity b.posted) refl)
okay-heard (plain a_ctrl) b j = refl
okay-heard (plain a_select) b j = refl
okay-heard (plain a_csw) b j = refl

wrong : (w : ℕ) → eqb (1 - parity w) (parity w) ≡ false
wrong w = ne_eqb (1 - parity w) (parity w) (omega arith)

wrong-parity-read : (q : Request) → is_read q ≡ true → (j : Reply) → verdict q (Transferred (wrong_parity_reply true j)) ≡ broken 30
unfolding verdict heard
wrong-parity-read q h j = rw (h, wrong j.word)

not-clean : {x : TransferOutcome} → is_clean x ≡ false → x ≡ Clean → ⊥
not-clean {x} h e = let no : false ≡ true = sym h ∙ ap is_clean e in let z : ◌≡◌ {A = ℕ} 0 1 = cc in omega arith

module _ (g : Geometry) (l : Lists) (b : Target) where
  abbrev ev : LineEvent
  ev = next_event l.line

  wrong-parity-heard : {q : Request} → Wired q → ev.outcome ≡ WrongParity → Heard g q l b (met true g q l (wrong_parity_reply (is_read q) ev.filler) b)
  unfolding verdict heard
  wrong-parity-heard attempt e = heard_error_done 30 (lit≤ tt) (not-clean (ap is_clean e)) refl (wrong-parity-read ReadIdcode refl ev.filler)
  wrong-parity-heard (plain a_tar) e = heard_okay refl refl refl
  wrong-parity-heard (plain a_drw) e = heard_okay refl refl refl
  wrong-parity-heard (plain a_read) e = heard_error_done 30 (lit≤ tt) (not-clean (ap is_clean e)) refl (wrong-parity-read ReadDrw refl ev.filler)
  wrong-parity-heard (plain a_ctrl) e = heard_okay refl refl refl
  wrong-parity-heard (plain a_select) e = heard_okay refl refl refl
  wrong-parity-heard (plain a_csw) e = heard_okay refl refl refl

  -- the target would carry the transfer out
  pub hears : {q : Request} → Wired q → killed b ≡ false → barred g q b ≡ false → Heard g q l b (transferred g q l b)
  unfolding transferred
  hears {q} h not-killed free = rw (not-killed, free) (by ev.outcome refl)
    where
      by : (x : TransferOutcome) → ev.outcome ≡ x → Heard g q l b (met (carried_out x) g q l (reply_to x false (is_read q) (gives q b) ev.filler) b)
      by Clean e = heard_okay refl (okay-heard h b ev.filler) refl
      by Waits e = heard_wait (not-clean (ap is_clean e)) refl (waits-heard q ev.filler) refl
      by Faults e = heard_error 28 (lit≤ tt) (not-clean (ap is_clean e)) refl (faults-heard q ev.filler)
      by WrongParity e = wrong-parity-heard h e
      by (Silent true) e = heard_error_done 29 (lit≤ tt) (not-clean (ap is_clean e)) refl (silence-heard q ev.filler)
      by (Silent false) e = heard_error 29 (lit≤ tt) (not-clean (ap is_clean e)) refl (silence-heard q ev.filler)
      by (Noisy true) e = heard_error_done 33 (lit≤ tt) (not-clean (ap is_clean e)) refl (noise-heard q ev.filler)
      by (Noisy false) e = heard_error 33 (lit≤ tt) (not-clean (ap is_clean e)) refl (noise-heard q ev.filler)
