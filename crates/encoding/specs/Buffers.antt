-- Bytes put into a caller's buffer where they fit. Assumes nothing.
use Rattle.std.specs.Prelude.{cond, List, ◌++◌, ◌≡◌, ℕ, ◌<◌, leb, length, drop}

-- bytes put at the start of a buffer where they fit; 'bytes past them .. never alter'. A buffer under size has no room for them: it stays
unfoldable pub put_into : (buffer bytes : List ℕ) → List ℕ
put_into buffer bytes = cond (leb (length bytes) (length buffer)) (bytes ++ drop (length bytes) buffer) buffer

-- 'bytes past them .. never alter'; an output under size has no room and stays
pub record Kept (size : ℕ) (before after : List ℕ) : Type 0 where
  pub past : drop size after ≡ drop size before
  pub under : length before < size → after ≡ before
  pub sized : length after ≡ length before
