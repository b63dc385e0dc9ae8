-- The calls on buffers one byte under, at and over a size, worked out: what is returned and what is left.
use Rattle.std.specs.Prelude.{List, [], ◌∷◌, ◌++◌, ◌≡◌, ℕ, replicate}
use Rattle.calls.specs.Calls.{call_result, after_read_call, after_write_call, after_start_call, after_step_call}
use Rattle.flow.specs.declared.Answer.TheVariants.{ResetDone}

-- n ones: what a call may have to leave; as a header they name part 1 with M 1, which is in the table
abbrev pub ones : ℕ → List ℕ
ones n = replicate n 1

-- as a header they name part 2 with M 2, which is not in the table
abbrev pub twos : ℕ → List ℕ
twos n = replicate n 2

abbrev pub zeros : ℕ → List ℕ
zeros n = replicate n 0

-- the outcome of a refusal
abbrev pub refusal : ℕ → List ℕ
refusal n = 0 ∷ n ∷ zeros 6

-- a session of part 1 (version 2, ID 0A 00 00 9A, OPEN) that has reported 0 at step 9: a step takes it
abbrev pub finished : List ℕ
finished = 1 ∷ 1 ∷ 0 ∷ 0 ∷ 0 ∷ 2 ∷ 0x0A ∷ 0 ∷ 0 ∷ 0x9A ∷ (zeros 6 ++ (1 ∷ 0 ∷ 1 ∷ 0 ∷ 9 ∷ zeros 24))

pub record ReadExamples : Type 0 where
  -- 11 before 12, whatever the header's length
  pub part-16 : after_read_call 9 1 [] (5 ∷ []) (ones 16) ≡ call_result 11 (5 ∷ []) (ones 16)
  pub part-17 : after_read_call 9 1 [] (5 ∷ []) (ones 17) ≡ call_result 11 (5 ∷ []) (zeros 17)
  pub part-18 : after_read_call 9 1 [] (5 ∷ []) (ones 18) ≡ call_result 11 (5 ∷ []) (zeros 17 ++ ones 1)
  -- 12, of the header or of the image
  pub header-16 : after_read_call 1 1 [] (5 ∷ []) (ones 16) ≡ call_result 12 (5 ∷ []) (ones 16)
  pub header-17 : after_read_call 1 1 [] (5 ∷ []) (ones 17) ≡ call_result 12 (5 ∷ []) (zeros 17)
  pub header-18 : after_read_call 1 1 [] (5 ∷ []) (ones 18) ≡ call_result 12 (5 ∷ []) (zeros 17 ++ ones 1)

pub record WriteExamples : Type 0 where
  -- no part in 16 bytes: 12; then 11
  pub header-16 : after_write_call (twos 16) [] (5 ∷ []) (ones 8) ≡ call_result 12 (5 ∷ []) (zeros 8)
  pub header-17 : after_write_call (twos 17) [] (5 ∷ []) (ones 8) ≡ call_result 11 (5 ∷ []) (zeros 8)
  pub header-18 : after_write_call (twos 18) [] (5 ∷ []) (ones 8) ≡ call_result 11 (5 ∷ []) (zeros 8)
  -- 11 before the length's 12
  pub part-7 : after_write_call (twos 17) [] (5 ∷ []) (ones 7) ≡ call_result 11 (5 ∷ []) (ones 7)
  -- 12, of the length or of the image
  pub length-7 : after_write_call (ones 17) [] (5 ∷ []) (ones 7) ≡ call_result 12 (5 ∷ []) (ones 7)
  pub length-8 : after_write_call (ones 17) [] (5 ∷ []) (ones 8) ≡ call_result 12 (5 ∷ []) (zeros 8)
  pub length-9 : after_write_call (ones 17) [] (5 ∷ []) (ones 9) ≡ call_result 12 (5 ∷ []) (zeros 8 ++ ones 1)

pub record StartExamples : Type 0 where
  -- a header under size zeroes a session that a step takes, too
  pub header-16 : after_start_call (twos 16) [] 0 finished (ones 8) ≡ call_result 12 (zeros 45) (refusal 12)
  pub header-17 : after_start_call (twos 17) [] 0 finished (ones 8) ≡ call_result 11 (zeros 45) (refusal 11)
  pub header-18 : after_start_call (twos 18) [] 0 finished (ones 8) ≡ call_result 11 (zeros 45) (refusal 11)
  -- 11 before 12, whatever the session's and the outcome's lengths
  pub part-44 : after_start_call (twos 17) [] 0 (ones 44) (ones 7) ≡ call_result 11 (ones 44) (ones 7)
  -- 12, of the session, the outcome or the image
  pub session-44 : after_start_call (ones 17) [] 0 (ones 44) (ones 8) ≡ call_result 12 (ones 44) (refusal 12)
  pub session-45 : after_start_call (ones 17) [] 0 (ones 45) (ones 8) ≡ call_result 12 (zeros 45) (refusal 12)
  pub session-46 : after_start_call (ones 17) [] 0 (ones 46) (ones 8) ≡ call_result 12 (zeros 45 ++ ones 1) (refusal 12)
  pub outcome-7 : after_start_call (ones 17) [] 0 (ones 45) (ones 7) ≡ call_result 12 (zeros 45) (ones 7)
  pub outcome-9 : after_start_call (ones 17) [] 0 (ones 45) (ones 9) ≡ call_result 12 (zeros 45) (refusal 12 ++ ones 1)

pub record StepExamples : Type 0 where
  -- no session in 44 bytes: 12; then 13
  pub session-44 : after_step_call (zeros 44) [] ResetDone (ones 8) ≡ call_result 12 (zeros 44) (refusal 12)
  pub session-45 : after_step_call (zeros 45) [] ResetDone (ones 8) ≡ call_result 13 (zeros 45) (refusal 13)
  pub session-46 : after_step_call (zeros 46) [] ResetDone (ones 8) ≡ call_result 13 (zeros 46) (refusal 13)
  -- 13 before 12, for bytes that no session has and for a session that is impossible
  pub other-7 : after_step_call (twos 45) [] ResetDone (ones 7) ≡ call_result 13 (twos 45) (ones 7)
  pub impossible-7 : after_step_call (ones 45) [] ResetDone (ones 7) ≡ call_result 13 (ones 45) (ones 7)
  -- 12, of the outcome or of the image; the byte past a session is not looked at
  pub outcome-7 : after_step_call finished [] ResetDone (ones 7) ≡ call_result 12 finished (ones 7)
  pub outcome-8 : after_step_call finished [] ResetDone (ones 8) ≡ call_result 12 finished (refusal 12)
  pub outcome-9 : after_step_call (finished ++ twos 1) [] ResetDone (ones 9) ≡ call_result 12 (finished ++ twos 1) (refusal 12 ++ ones 1)
