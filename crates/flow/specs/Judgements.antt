-- What each word is judged by, by example: a word that passes beside one that just does not. Assumes nothing.
use Rattle.std.specs.Prelude.{[], ◌∷◌, ◌≡◌, ℕ}
use Rattle.flow.specs.Examples.{part_one}
use Rattle.flow.specs.Judge.{judge}
use Rattle.flow.specs.declared.Counters.{Counters}
use Rattle.flow.specs.declared.Entry.TheVariants.{FromOpen, FromProtected}
use Rattle.flow.specs.declared.Next.TheVariants.{Go, Stop}
use Rattle.flow.specs.declared.Purpose.TheVariants.{Idcode, TestBit, Poll, Status, EntryLevel, Reopened, FlashWord, LockWord, StoredLevel, LastSum}
use Rattle.flow.specs.declared.Way.TheVariants.{Onward, ToPoll, Enter}
use Rattle.image.specs.Image.{Image}
use Rattle.parts.specs.Parts.{part2}

-- images of part 1 with this sum and level and the first of their bytes, and one of part 2
abbrev pub image_with : (sum level : ℕ) → Image
image_with s l = record {
  geometry = part_one;
  header = record { part = 1; macros = 1; sum = s; metadata = 0 ∷ 2 ∷ 0x0A ∷ 0x23 ∷ 0x45 ∷ 0x9A ∷ []; level = l };
  flash = 1 ∷ 2 ∷ 3 ∷ 4 ∷ 5 ∷ 6 ∷ 7 ∷ 8 ∷ [];
  protection = 0x11 ∷ 0x12 ∷ 0x13 ∷ 0x14 ∷ [];
}

abbrev pub of_part2 : Image
of_part2 = record {
  geometry = record { part = part2; macros = 1 };
  header = record { part = 2; macros = 1; sum = 0; metadata = 0 ∷ 2 ∷ 0x04 ∷ 0x23 ∷ 0x45 ∷ 0x93 ∷ []; level = 1 };
  flash = [];
  protection = [];
}

abbrev pub open_image : Image
open_image = image_with 0 1

-- so many polls, this word kept; the WAITs and attempts running, here 3 and 2, are left alone
abbrev pub having : (polls kept : ℕ) → Counters
having p k = record { waits = 3; polls = p; attempts = 2; kept = k }

pub record JudgeExamples : Type 0 where
  -- 'IDCODE 0x0BB11477' (16)
  pub idcode : judge open_image Idcode (having 0 7) 0x0BB11477 ≡ Go Onward (having 0 7)
  pub other_idcode : judge open_image Idcode (having 0 7) 0x0BC11477 ≡ Stop 16
  -- 'Read it, bit 31 set' (17)
  pub test_bit : judge open_image TestBit (having 0 7) 0x80000000 ≡ Go Onward (having 0 7)
  pub no_test_bit : judge open_image TestBit (having 0 7) 0x7FFFFFFF ≡ Stop 17
  -- 'until bits 31 and 28 are 0'; 'at most 10,000 polls' (18)
  pub free : judge open_image Poll (having 9999 7) 0x6FFFFFFF ≡ Go Onward (having 0 7)
  pub again : judge open_image Poll (having 9998 7) 0x10000000 ≡ Go ToPoll (having 9999 7)
  pub never : judge open_image Poll (having 9999 7) 0x80000000 ≡ Stop 18
  -- 'success is top digit 0xA' (19)
  pub success : judge open_image Status (having 0 7) 0xAFFFFFFF ≡ Go Onward (having 0 7)
  pub failure : judge open_image Status (having 0 7) 0x2A000000 ≡ Stop 19
  -- 'Bits 0 to 7 of SYSARG are low, 8 to 15 high ..; SYSREQ bits 0 to 7 family, 12 to 15 level in effect': all other bits are free
  pub from_open : judge open_image EntryLevel (having 0 0xFFFF0AFF) 0xFFFF1F9A ≡ Go (Enter FromOpen) (having 0 0xFFFF0AFF)
  pub from_protected : judge open_image EntryLevel (having 0 0xA0450A23) 0x209A ≡ Go (Enter FromProtected) (having 0 0xA0450A23)
  -- '21 level not OPEN or PROTECTED'; all four bits count; 'not OPEN after reopening'
  pub kill : judge open_image EntryLevel (having 0 0xA0450A23) 0x409A ≡ Stop 21
  pub nine : judge open_image EntryLevel (having 0 0xA0450A23) 0x909A ≡ Stop 21
  pub reopened : judge open_image Reopened (having 0 0xA0450A23) 0x109A ≡ Go Onward (having 0 0xA0450A23)
  pub not_reopened : judge open_image Reopened (having 0 0xA0450A23) 0x209A ≡ Stop 21
  -- '20 is judged before 21': high, family, and 'low must fit the part', not the image
  pub high : judge open_image EntryLevel (having 0 0xA0450B23) 0x909A ≡ Stop 20
  pub family : judge open_image EntryLevel (having 0 0xA0450A23) 0x909B ≡ Stop 20
  pub low_fits : judge of_part2 EntryLevel (having 0 0xA045047F) 0x1093 ≡ Go (Enter FromOpen) (having 0 0xA045047F)
  pub low_fits_not : judge of_part2 EntryLevel (having 0 0xA0450480) 0x1093 ≡ Stop 20
  -- 'comparing each as read' (22, 23)
  pub flash : judge open_image (FlashWord 0 4) (having 0 7) 0x08070605 ≡ Go Onward (having 0 7)
  pub other_flash : judge open_image (FlashWord 0 4) (having 0 7) 0x88070605 ≡ Stop 22
  pub other_row : judge open_image (FlashWord 1 4) (having 0 7) 0x08070605 ≡ Stop 22
  pub locks : judge open_image (LockWord 0 0) (having 0 7) 0x14131211 ≡ Go Onward (having 0 7)
  pub other_locks : judge open_image (LockWord 0 0) (having 0 7) 0x14131210 ≡ Stop 23
  -- 'top byte of the word .., its low four bits, with 0 and 1 exchanged' (24)
  pub stored : judge open_image StoredLevel (having 0 7) 0xF0FFFFFF ≡ Go Onward (having 0 7)
  pub stored_virgin : judge open_image StoredLevel (having 0 7) 0x01000000 ≡ Stop 24
  pub stored_eight : judge open_image StoredLevel (having 0 7) 0x08000000 ≡ Stop 24
  pub stored_kill : judge (image_with 0 4) StoredLevel (having 0 7) 0x04000000 ≡ Go Onward (having 0 7)
  pub stored_twelve : judge (image_with 0 4) StoredLevel (having 0 7) 0x0C000000 ≡ Stop 24
  -- '(this sum - that sum) mod 65536 equals the image's sum' (25), of 28 bits each
  pub sum : judge (image_with 1 1) LastSum (having 0 0xAFFFFFFF) 0xA0000000 ≡ Stop 0
  pub other_sum : judge (image_with 2 1) LastSum (having 0 0xAFFFFFFF) 0xA0000000 ≡ Stop 25
