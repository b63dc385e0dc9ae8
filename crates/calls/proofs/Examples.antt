-- The worked examples hold: each is computed. Assumes nothing.
use mathlib.Core.Path.{refl}
use Rattle.encoding.specs.Buffers.{put_into}
use Rattle.calls.specs.Calls.{after_read_call, after_write_call, after_start_call, after_step_call}
use Rattle.calls.specs.Examples.{ReadExamples, WriteExamples, StartExamples, StepExamples}
use Rattle.encoding.specs.Headers.{header_bytes, header_in}
use Rattle.encoding.specs.Sessions.{session_bytes, session_in}
use Rattle.flow.specs.Plan.{plan, loops, most_traffic, lock_plan}
use Rattle.image.specs.Refusals.{first_refusal}
use Rattle.lent.specs.Words.{word_at}
use Rattle.parts.specs.Parts.{look_in}
use Rattle.parts.specs.Sizes.{rows_of, locks_in, flash_size, lock_total, image_size}
use Rattle.session.specs.Given.{start_of, step_with}
use Rattle.session.specs.Possible.{possible_in}

pub read-examples : ReadExamples
unfolding after_read_call first_refusal look_in header_bytes put_into image_size flash_size lock_total rows_of
read-examples = record { part-16 = refl; part-17 = refl; part-18 = refl; header-16 = refl; header-17 = refl; header-18 = refl }

pub write-examples : WriteExamples
unfolding after_write_call first_refusal look_in header_in put_into image_size flash_size lock_total rows_of
write-examples = record {
  header-16 = refl;
  header-17 = refl;
  header-18 = refl;
  part-7 = refl;
  length-7 = refl;
  length-8 = refl;
  length-9 = refl;
}

pub start-examples : StartExamples
unfolding after_start_call first_refusal look_in header_in header_bytes session_bytes put_into start_of image_size flash_size lock_total rows_of
start-examples = record {
  header-16 = refl;
  header-17 = refl;
  header-18 = refl;
  part-44 = refl;
  session-44 = refl;
  session-45 = refl;
  session-46 = refl;
  outcome-7 = refl;
  outcome-9 = refl;
}

pub step-examples : StepExamples
unfolding after_step_call first_refusal look_in header_in session_in word_at put_into step_with possible_in most_traffic plan lock_plan loops image_size flash_size lock_total locks_in rows_of
step-examples = record {
  session-44 = refl;
  session-45 = refl;
  session-46 = refl;
  other-7 = refl;
  impossible-7 = refl;
  outcome-7 = refl;
  outcome-8 = refl;
  outcome-9 = refl;
}
