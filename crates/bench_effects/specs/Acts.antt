-- What a request does to the lent buffers, apart from what it does to the registers. Assumes nothing.
use Rattle.std.specs.Prelude.{List, [], ◌∷◌, ◌≡◌, ℕ, ◌%◌, length, take, drop, replicate}
use Rattle.std.proofs.lemmas.List.Edits.{sets}
use Rattle.bench_effects.specs.Lent.{Buffers, ResidueBytes, memory_of}
use Rattle.bench_effects.specs.declared.Act.{Act}
use Rattle.bench_effects.specs.declared.Act.TheVariants.{Keep, PutWord, PutResidue, Erase, FillLatch, ProgramRow, WriteLocks}
use Rattle.bench_effects.specs.declared.Effect.{Effect}
use Rattle.flow.specs.Calls.{bytes_in, effect_of, list_at}
use Rattle.flow.specs.Target.{sized}
use Rattle.parts.specs.declared.Geometry.{Geometry}

-- each act is one line of what calls do in flow's Calls, and PutWord a write of PARAMS
abbrev pub buffers_after : ResidueBytes → Act → Buffers → Buffers
buffers_after x Keep b = b
buffers_after x (PutWord k w) b = record { flash = b.flash; locks = b.locks; latch = b.latch; params = sets b.params k (w ∷ []) }
buffers_after x PutResidue b = record {
  flash = sized b.flash x.flash;
  locks = sized b.locks x.locks;
  latch = sized b.latch x.latch;
  params = b.params;
}
buffers_after x Erase b = record {
  flash = replicate (length b.flash) 0;
  locks = replicate (length b.locks) 0;
  latch = b.latch;
  params = b.params;
}
buffers_after x (FillLatch n) b = record {
  flash = b.flash;
  locks = b.locks;
  latch = sets b.latch 0 (take n (bytes_in (drop 2 b.params)));
  params = b.params;
}
buffers_after x (ProgramRow s) b = record { flash = sets b.flash s b.latch; locks = b.locks; latch = b.latch; params = b.params }
buffers_after x (WriteLocks s n) b = record { flash = b.flash; locks = sets b.locks s (take n b.latch); latch = b.latch; params = b.params }

-- what a call goes by
pub record CallInputs : Type 0 where
  pub effect : ℕ
  pub sysarg : ℕ
  pub stored : ℕ
  pub params : List ℕ

abbrev pub call_inputs : (effect sysarg stored : ℕ) → (params : List ℕ) → CallInputs
call_inputs l a s ps = record { effect = l; sysarg = a; stored = s; params = ps }

-- a successful call's effect on the memory; PARAMS stay
abbrev pub Effects : Geometry → CallInputs → (c : ℕ) → Effect → Type 0
Effects g v c e =
    (x : ResidueBytes) (b : Buffers) → b.params ≡ v.params
    → (memory_of (buffers_after x e.act b) (e.stored % 16) ≡ effect_of g c v.effect v.sysarg (list_at v.sysarg b.params) (memory_of b (v.stored % 16)))
    × ((buffers_after x e.act b).params ≡ b.params)

-- 0x0D, whatever PARAMS hold
abbrev pub Protects : Geometry → (effect sysarg stored : ℕ) → Effect → Type 0
Protects g l a s e = (params : List ℕ) → Effects g (call_inputs l a s params) 0x0D e
