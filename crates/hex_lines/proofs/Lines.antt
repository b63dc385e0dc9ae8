-- Laws of lines: their lengths, and where they are put. Assumes nothing.
use mathlib.Core.Bool.{Bool, cond, ◌&&◌}
use mathlib.Core.List.{List, [], ◌∷◌, ◌++◌}
use mathlib.Core.Path.{◌≡◌, refl, ◌∙◌}
use Prim.Native.Nat.{ℕ, ◌+◌, ◌*◌, ◌/◌, ◌%◌, ◌≤◌, ◌<◌}
use native.Mathlib.Omega.{arith}
use borrow.Author.Tests.{le-leb, lt-leb}
use lib.Dec.{leb}
use lib.ListN.{length, length-append}
use lib.Seq.{sets}
use Rattle.hex_format.specs.Written.{sum_byte, line_text, data_line, extended_line, end_line}
use Rattle.hex_lines.specs.Lines.{line_put, data_put}
use Rattle.hex_lines.proofs.Pairs.{length_pairs}
use Rattle.pairs.specs.Digits.{pairs_of}
use Rattle.storing.specs.Storing.{stored_at}

pub line-length : (bs : List ℕ) → length (line_text bs) ≡ 5 + 2 * length bs
unfolding line_text
line-length bs =
    let all : List ℕ = bs ++ (sum_byte bs ∷ []) in
    omega (arith, length-append (pairs_of all) (13 ∷ 10 ∷ []), length_pairs all, length-append bs (sum_byte bs ∷ []))

pub data-length : (low : ℕ) (payload : List ℕ) → length (data_line low payload) ≡ 13 + 2 * length payload
data-length low payload = line-length (length payload ∷ low / 256 ∷ low % 256 ∷ 0 ∷ payload) ∙ omega arith

pub extended-length : (upper : ℕ) → length (extended_line upper) ≡ 17
extended-length upper = line-length (2 ∷ 0 ∷ 0 ∷ 4 ∷ upper / 256 ∷ upper % 256 ∷ [])

-- a line that has no room, and one that has
module _ (text : List ℕ) (at : ℕ) (line : List ℕ) where
  pub no_room : length text < at + length line → text ≡ line_put text at line
  unfolding line_put
  no_room h = rw (lt-leb (at + length line) (length text) h)

  pub in-room : at + length line ≤ length text → sets text at line ≡ line_put text at line
  unfolding line_put
  in-room h = rw (le-leb (at + length line) (length text) h)

-- the same of a data record
module _ (text : List ℕ) (at low : ℕ) (payload : List ℕ) where
  pub data-many : 255 < length payload → text ≡ data_put text at low payload
  unfolding data_put
  data-many h = rw (lt-leb (length payload) 255 h)

  pub data-none : length payload ≡ 0 → text ≡ data_put text at low payload
  unfolding data_put
  data-none e = rw e

  module _ (few : length payload ≤ 255) (some : 1 ≤ length payload) where
    is-put : line_put text at (data_line low payload) ≡ data_put text at low payload
    unfolding data_put
    is-put = rw (le-leb (length payload) 255 few, le-leb 1 (length payload) some)

    pub data-short : length text < at + 13 + 2 * length payload → text ≡ data_put text at low payload
    data-short h = no_room text at (data_line low payload) (omega (arith, data-length low payload)) ∙ is-put

    pub data-room : at + 13 + 2 * length payload ≤ length text → sets text at (data_line low payload) ≡ data_put text at low payload
    data-room h = in-room text at (data_line low payload) (omega (arith, data-length low payload)) ∙ is-put

-- a line, by the test of its room; and a data record, by the test of its bytes
pub line-by : (text : List ℕ) (at : ℕ) (line : List ℕ) (n : ℕ) (room : Bool) → length line ≡ n → room ≡ leb (at + n) (length text)
    → line_put text at line ≡ cond room (sets text at line) text
unfolding line_put
line-by text at line n room e r = rw (r, e) refl

pub data-by : (text : List ℕ) (at low : ℕ) (payload : List ℕ) (counts : Bool) → counts ≡ (leb (length payload) 255 && leb 1 (length payload))
    → data_put text at low payload ≡ cond counts (line_put text at (data_line low payload)) text
unfolding data_put
data-by text at low payload counts e = rw e refl

-- of a type 4 record, and of the end record
module _ (text : List ℕ) (at upper : ℕ) where
  pub upper-room : at + 17 ≤ length text → sets text at (extended_line upper) ≡ line_put text at (extended_line upper)
  upper-room h = in-room text at (extended_line upper) (omega (arith, extended-length upper))

pub end-put : (text : List ℕ) (at : ℕ) → stored_at text at end_line 0 13 ≡ line_put text at end_line
unfolding stored_at line_put
end-put text at = refl
