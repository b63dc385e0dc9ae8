-- What a text's records owe to the sections, in every format: document 01, 'Hex text' and numbers 4 and 5. Assumes nothing.
use Rattle.std.specs.Prelude.{Bool, ◌&&◌, cond, List, [], ◌∷◌, ◌++◌, ℕ, zero, suc, ◌+◌, ◌-◌, ◌/◌, eqb, leb, length, take, drop}
use Rattle.sections.specs.declared.Location.{Location}
use Rattle.sections.specs.declared.Location.TheVariants.{InFlash, InProtection, InHeader}
use Rattle.sections.specs.declared.Section.{Section}

-- what one record of a text says
pub data Event : Type 0 where
  -- refused, with document 01's number
  Bad : (number : ℕ) → Event
  -- nothing for the sections
  Other : Event
  -- data bytes for consecutive addresses
  Data : (address : ℕ) (bytes : List ℕ) → Event
  -- the record that ends the text
  End : Event

-- what a text comes to: a refusal, or the bytes of the sections, one after the other
pub data Content : Type 0 where
  Refusal : (number : ℕ) → Content
  Stream : (bytes : List ℕ) → Content

unfoldable pub prepend : List ℕ → Content → Content
prepend bs (Refusal n) = Refusal n
prepend bs (Stream rest) = Stream (bs ++ rest)

-- 'data not the next due, or crossing': n bytes at an address are the next due, and do not cross the end of their section
abbrev pub fits : (address n : ℕ) → Section → Bool
fits a n s = eqb a s.address && leb n s.size

-- what remains of a section after n bytes
abbrev pub rest_of : ℕ → Section → Section
rest_of n s = record { address = s.address + n; size = s.size - n; location = s.location; offset = s.offset + n }

-- what is due after n bytes of the first section
unfoldable pub due_after : ℕ → Section → List Section → List Section
due_after n s ss = cond (eqb n s.size) ss (rest_of n s ∷ ss)

-- 'Sections in rising order, each byte once'; '4 data not the next due, or crossing; 5 end record missing, early or followed'
unfoldable pub placing : (due : List Section) → List Event → Content
placing due [] = Refusal 5
placing due (Bad n ∷ es) = Refusal n
placing due (Other ∷ es) = placing due es
placing [] (Data a bs ∷ es) = Refusal 4
placing (s ∷ ss) (Data a bs ∷ es) = cond (fits a (length bs) s) (prepend bs (placing (due_after (length bs) s ss) es)) (Refusal 4)
placing [] (End ∷ []) = Stream []
placing [] (End ∷ e ∷ es) = Refusal 5
placing (s ∷ ss) (End ∷ es) = Refusal 5

-- the three locations, told apart by a number of each
abbrev pub location_number : Location → ℕ
location_number InFlash = 0
location_number InProtection = 1
location_number InHeader = 2

abbrev pub same_location : Location → Location → Bool
same_location l m = eqb (location_number l) (location_number m)

-- the bytes of the sections that lie in one location, out of the bytes of them all
unfoldable pub gathered : Location → List Section → List ℕ → List ℕ
gathered l [] stream = []
gathered l (s ∷ ss) stream = cond (same_location l s.location) (take s.size stream) [] ++ gathered l ss (drop s.size stream)

-- the data of a record that is written
pub record Piece : Type 0 where
  pub address : ℕ
  pub bytes : List ℕ

-- '64 data bytes or what remains': bytes from an address on, cut into so many pieces
unfoldable pub cut : (count address : ℕ) → List ℕ → List Piece
cut zero a bs = []
cut (suc count) a bs = record { address = a; bytes = take 64 bs } ∷ cut count (a + 64) (drop 64 bs)

-- the pieces of a section, as many as it takes
abbrev pub pieces_in : Section → ℕ
pieces_in s = (s.size + 63) / 64

-- the pieces of the sections, whose bytes `contents` gives
unfoldable pub pieces : (contents : Section → List ℕ) → List Section → List Piece
pieces contents [] = []
pieces contents (s ∷ ss) = cut (pieces_in s) s.address (contents s) ++ pieces contents ss

-- a number of every section, added up
unfoldable pub overall : (Section → ℕ) → List Section → ℕ
overall f [] = 0
overall f (s ∷ ss) = f s + overall f ss
