-- Lines and digit pairs: the first line of a text, and what its characters spell. Assumes nothing.
use mathlib.Core.Bool.{Bool, true, false, false≢true, ◌&&◌, cond}
use mathlib.Core.List.{List, [], ◌∷◌, ◌++◌}
use mathlib.Core.Logic.{◌⊎◌, inl, inr}
use mathlib.Core.Path.{◌≡◌, refl, sym, ap, ◌∙◌}
use Prim.Native.Nat.{ℕ, zero, suc, ◌+◌, ◌*◌}
use native.Mathlib.Omega.{arith}
use borrow.Author.Tests.{eqb-true}
use lib.Dec.{eqb}
use lib.ListN.{length}
use Rattle.pairs.specs.Digits.{Spelt, Unreadable, Spells, spelt, with_byte, digit_of, is_digit}
use Rattle.pairs.specs.Lines.{Line, Ended, Open, lines_of, onto, without_cr}
use Rattle.pairs.specs.Spelling.{front}

abbrev pub NoLF : List ℕ → Type 0
NoLF [] = Unit {0}
NoLF (c ∷ l) = (eqb c 10 ≡ false) × NoLF l

-- a line that is ended
pub lines_cut : (l rest : List ℕ) → NoLF l → lines_of (l ++ (10 ∷ rest)) ≡ (Ended l ∷ lines_of rest)
unfolding lines_of onto
lines_cut [] rest h = refl
lines_cut (c ∷ l) rest h = rw (h.0, lines_cut l rest h.1)

-- and back: what an ended first line says about the text
pub record Begins (s l : List ℕ) (ls : List Line) : Type 0 where
  pub rest : List ℕ
  pub is : s ≡ l ++ (10 ∷ rest)
  pub then : ls ≡ lines_of rest

begins-on : (c : ℕ) (s l : List ℕ) (ls xs : List Line) → lines_of s ≡ xs → onto c xs ≡ (Ended l ∷ ls)
    → ((l' : List ℕ) (ls' : List Line) → lines_of s ≡ (Ended l' ∷ ls') → Begins s l' ls')
    → Begins (c ∷ s) l ls
unfolding onto
begins-on c s l ls [] q e ih = let t : false ≡ true = cc e in absurd (false≢true t)
begins-on c s l ls (Open m ∷ xs) q e ih = let t : false ≡ true = cc e in absurd (false≢true t)
begins-on c s l ls (Ended m ∷ xs) q e ih =
    let r = ih m xs q in
    let el : (c ∷ m) ≡ l = cc e in
    let es : xs ≡ ls = cc e in
    record {
      rest = r.rest;
      is = ap (λ (x : List ℕ). c ∷ x) r.is ∙ ap (λ (x : List ℕ). x ++ (10 ∷ r.rest)) el;
      then = sym es ∙ r.then;
    }

begins-at : (c : ℕ) (s l : List ℕ) (ls : List Line) (b : Bool) → eqb c 10 ≡ b → cond b (Ended [] ∷ lines_of s) (onto c (lines_of s)) ≡ (Ended l ∷ ls)
    → ((l' : List ℕ) (ls' : List Line) → lines_of s ≡ (Ended l' ∷ ls') → Begins s l' ls')
    → Begins (c ∷ s) l ls
begins-at c s l ls true q e ih =
    let el : [] ≡ l = cc e in
    let es : lines_of s ≡ ls = cc e in
    record { rest = s; is = ap (λ (x : ℕ). x ∷ s) (eqb-true c 10 q) ∙ ap (λ (x : List ℕ). x ++ (10 ∷ s)) el; then = sym es }
begins-at c s l ls false q e ih = begins-on c s l ls (lines_of s) refl e ih

pub begins : (s l : List ℕ) (ls : List Line) → lines_of s ≡ (Ended l ∷ ls) → Begins s l ls
unfolding lines_of
begins [] l ls e = let t : false ≡ true = cc e in absurd (false≢true t)
begins (c ∷ s) l ls e = begins-at c s l ls (eqb c 10) refl e (begins s)

-- a text that is not at its end has a line
pub some-line : (c : ℕ) (s : List ℕ) → (l : Line) × (ls : List Line) × (lines_of (c ∷ s) ≡ l ∷ ls)
unfolding lines_of onto
some-line c s = go (eqb c 10) (lines_of s)
  where
    go : (b : Bool) (xs : List Line) → (l : Line) × (ls : List Line) × (cond b (Ended [] ∷ xs) (onto c xs) ≡ l ∷ ls)
    go true xs = (Ended [], xs, refl)
    go false [] = (Open (c ∷ []), [], refl)
    go false (Ended l ∷ ls) = (Ended (c ∷ l), ls, refl)
    go false (Open l ∷ ls) = (Open (c ∷ l), ls, refl)

-- a line without CR: the line, or the line but its last CR
pub bare : (l m : List ℕ) → without_cr l ≡ m → (l ≡ m) ⊎ (l ≡ m ++ (13 ∷ []))
unfolding without_cr
bare [] m e = inl e
bare (c ∷ []) m e = go (eqb c 13) refl e
  where
    go : (b : Bool) → eqb c 13 ≡ b → cond b [] (c ∷ []) ≡ m → ((c ∷ []) ≡ m) ⊎ ((c ∷ []) ≡ m ++ (13 ∷ []))
    go true q e = inr (ap (λ (x : ℕ). x ∷ []) (eqb-true c 13 q) ∙ ap (λ (x : List ℕ). x ++ (13 ∷ [])) e)
    go false q e = inl e
bare (c ∷ d ∷ l) m e =
    elim (bare (d ∷ l) (without_cr (d ∷ l)) refl) [
      | inl h ↦ inl (ap (λ (x : List ℕ). c ∷ x) h ∙ e)
      | inr h ↦ inr (ap (λ (x : List ℕ). c ∷ x) h ∙ ap (λ (x : List ℕ). x ++ (13 ∷ [])) e)
    ]

-- what a run spells: two characters for each byte, all of them at its front
spelt-more : (b : Bool) (x : ℕ) (t : Spelt) (bs : List ℕ) → cond b (with_byte x t) Unreadable ≡ Spells bs
    → (b ≡ true) × (r : List ℕ) × (t ≡ Spells r) × (bs ≡ x ∷ r)
unfolding with_byte
spelt-more true x Unreadable bs e = let t : false ≡ true = cc e in absurd (false≢true t)
spelt-more true x (Spells r) bs e = (refl, r, refl, cc e)
spelt-more false x t bs e = let t : false ≡ true = cc e in absurd (false≢true t)

pub spelt-length : (m bs : List ℕ) → spelt m ≡ Spells bs → length m ≡ 2 * length bs
unfolding spelt
spelt-length [] bs e = let z : [] ≡ bs = cc e in omega (arith, ap length z)
spelt-length (a ∷ []) bs e = let t : false ≡ true = cc e in absurd (false≢true t)
spelt-length (a ∷ b ∷ m) bs e =
    let r = spelt-more (is_digit a && is_digit b) (16 * digit_of a + digit_of b) (spelt m) bs e in
    omega (arith, spelt-length m r.1 r.2, ap length r.3)

pub spelt-front : (m bs : List ℕ) → spelt m ≡ Spells bs → front m ≡ bs
unfolding spelt front
spelt-front [] bs e = cc e
spelt-front (a ∷ []) bs e = let t : false ≡ true = cc e in absurd (false≢true t)
spelt-front (a ∷ b ∷ m) bs e =
    let r = spelt-more (is_digit a && is_digit b) (16 * digit_of a + digit_of b) (spelt m) bs e in
    rw (r.0, spelt-front m r.1 r.2) (sym r.3)

-- a run of digits
abbrev pub Digits : List ℕ → Type 0
Digits [] = Unit {0}
Digits (c ∷ l) = (is_digit c ≡ true) × Digits l

not_digit : (c x : ℕ) → is_digit c ≡ true → is_digit x ≡ false → eqb c x ≡ false
not_digit c x h k = go (eqb c x) refl
  where
    go : (b : Bool) → eqb c x ≡ b → eqb c x ≡ false
    go true q = absurd (false≢true (sym k ∙ ap is_digit (sym (eqb-true c x q)) ∙ h))
    go false q = q

pub digits-no-lf : (m : List ℕ) → Digits m → NoLF m
unfolding digit_of
digits-no-lf [] h = tt
digits-no-lf (c ∷ m) h = (not_digit c 10 h.0 refl, digits-no-lf m h.1)

pub no-lf-append : (a b : List ℕ) → NoLF a → NoLF b → NoLF (a ++ b)
no-lf-append [] b h k = k
no-lf-append (x ∷ a) b h k = (h.0, no-lf-append a b h.1 k)

-- no CR is taken off digits, and one behind them is
pub digits-bare : (c : ℕ) (m : List ℕ) → eqb c 13 ≡ false → Digits m → without_cr (c ∷ m) ≡ c ∷ m
unfolding without_cr digit_of
digits-bare c [] h k = rw h
digits-bare c (d ∷ m) h k = ap (λ (x : List ℕ). c ∷ x) (digits-bare d m (not_digit d 13 k.0 refl) k.1)

pub cr-bare : (c : ℕ) (m : List ℕ) → without_cr (c ∷ (m ++ (13 ∷ []))) ≡ c ∷ m
unfolding without_cr
cr-bare c [] = refl
cr-bare c (d ∷ m) = ap (λ (x : List ℕ). c ∷ x) (cr-bare d m)

-- a run whose front is all of it
pub record AllPairs (m : List ℕ) : Type 0 where
  pub digits : Digits m
  pub spells : spelt m ≡ Spells (front m)

pub run-all : (m : List ℕ) (k : ℕ) → length m ≡ 2 * k → length (front m) ≡ k → AllPairs m
unfolding front spelt with_byte
run-all [] k h e = record { digits = tt; spells = refl }
run-all (a ∷ []) k h e = absurd (omega arith)
run-all (a ∷ b ∷ m) zero h e = absurd (omega arith)
run-all (a ∷ b ∷ m) (suc k) h e = go (is_digit a) (is_digit b) refl refl e (λ f. run-all m k (omega arith) f)
  where
    go : (t u : Bool) → is_digit a ≡ t → is_digit b ≡ u → length (cond (t && u) ((16 * digit_of a + digit_of b) ∷ front m) []) ≡ suc k
        → (length (front m) ≡ k → AllPairs m)
        → AllPairs (a ∷ b ∷ m)
    go true true p q f ih = let r = ih (omega arith) in record { digits = (p, (q, r.digits)); spells = rw (p, q, r.spells) }
    go true false p q f ih = absurd (omega arith)
    go false u p q f ih = absurd (omega arith)

-- every line has its end
abbrev pub AllEnded : List Line → Type 0
AllEnded [] = Unit {0}
AllEnded (Ended l ∷ ls) = AllEnded ls
AllEnded (Open l ∷ ls) = ⊥

-- then more text is more lines
pub lines-append : (s t : List ℕ) → AllEnded (lines_of s) → lines_of (s ++ t) ≡ lines_of s ++ lines_of t
unfolding lines_of onto
lines-append [] t h = refl
lines-append (c ∷ s) t h = go (eqb c 10) (lines_of s) refl h (λ k. lines-append s t k)
  where
    go : (b : Bool) (xs : List Line) → lines_of s ≡ xs → AllEnded (cond b (Ended [] ∷ xs) (onto c xs)) → (AllEnded (lines_of s) → lines_of (s ++ t) ≡ lines_of s ++ lines_of t)
        → cond b (Ended [] ∷ lines_of (s ++ t)) (onto c (lines_of (s ++ t))) ≡ cond b (Ended [] ∷ xs) (onto c xs) ++ lines_of t
    go true xs e k ih = ap (λ (x : List Line). Ended [] ∷ x) (ih (rw e k) ∙ ap (λ (x : List Line). x ++ lines_of t) e)
    go false [] e k ih = absurd k
    go false (Open l ∷ ls) e k ih = absurd k
    go false (Ended l ∷ ls) e k ih = ap (onto c) (ih (rw e k) ∙ ap (λ (x : List Line). x ++ lines_of t) e)
