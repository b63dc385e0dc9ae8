-- How many moves the lists have that calls are made of. Assumes nothing.
use mathlib.Core.List.{List, [], ◌∷◌}
use mathlib.Core.Path.{◌≡◌, refl, sym, ◌∙◌}
use Prim.Native.Nat.{ℕ, ◌+◌, ◌*◌, ◌/◌}
use native.Mathlib.Omega.{arith}
use lib.ListN.{length, length-append}
use Rattle.call_moves.specs.MoveAt.{opening_count}
use Rattle.flow.proofs.Counting.{length-words}
use Rattle.flow.specs.Sequence.{write, read, call, writes, listed, imo_call, acquire, silicon, privileged, latch_list, opening}
use Rattle.flow.specs.Session.{bare}
use Rattle.flow.specs.declared.Purpose.{Purpose}
use Rattle.flow.specs.declared.Purpose.TheVariants.{EntryLevel}
use Rattle.image.specs.Image.{Image}
use Rattle.parts.specs.Sizes.{imo_of, PARAMS}
use Rattle.parts.specs.declared.Geometry.{Geometry}

pub length-read : (s a : ℕ) (u : Purpose) → length (read s a u) ≡ 3
unfolding read
length-read s a u = refl

pub length-call : (g : Geometry) (s c w : ℕ) → length (call g s c w) ≡ 10
unfolding call write read
length-call g s c w = refl

pub length-writes : (s a : ℕ) (ws : List ℕ) → length (writes s a ws) ≡ 2 * length ws
unfolding writes write
length-writes s a [] = refl
length-writes s a (w ∷ ws) = omega (arith, length-writes s (a + 4) ws)

pub length-listed : (g : Geometry) (s c : ℕ) (ws : List ℕ) → length (listed g s c ws) ≡ 2 * length ws + 10
unfolding listed
length-listed g s c ws = length-append (writes s PARAMS ws) (call g s c PARAMS) ∙ omega (arith, length-writes s PARAMS ws, length-call g s c PARAMS)

pub length-latch : (g : Geometry) (s m n : ℕ) (bytes : List ℕ) (o : ℕ) → length (listed g s 4 (latch_list m n bytes o)) ≡ 2 * (n / 4) + 14
length-latch g s m n bytes o = length-listed g s 4 (latch_list m n bytes o) ∙ omega (arith, length-words bytes o (n / 4))

pub length-privileged : (g : Geometry) (s : ℕ) (u : Purpose) → length (privileged g s u) ≡ 13
unfolding privileged call write read
length-privileged g s u = refl

pub length-silicon : (g : Geometry) (u : Purpose) → length (silicon g u) ≡ 16
unfolding silicon call write read
length-silicon g u = refl

pub length-acquire : (g : Geometry) → length (acquire g) ≡ 14 + length (imo_call g (imo_of g))
unfolding acquire write read
length-acquire g = omega arith

pub length-opening : (i : Image) → length (opening i) ≡ 30 + length (imo_call i.geometry (imo_of i.geometry))
unfolding opening
length-opening i = simp length-append (omega (arith, length-acquire i.geometry, length-silicon i.geometry EntryLevel))

pub opening-counted : (i : Image) → length (opening i) ≡ opening_count i.geometry
opening-counted i = length-opening i ∙ sym (length-opening (bare i.geometry))

pub opening_length : (g : Geometry) → opening_count g ≡ 30 + length (imo_call g (imo_of g))
opening_length g = length-opening (bare g)
