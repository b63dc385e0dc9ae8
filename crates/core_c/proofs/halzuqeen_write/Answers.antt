-- 12 for a header under size, 11 or 12 for a length under size, or writing. Assumes nothing.
use Rattle.std.proofs.Common.{ℕ, refl, ap, ◌∙◌, arith}
use Rattle.calls.proofs.Called.{eleven_or12, leaves-as, write-partless, write_under, write_done}
use Rattle.core_c.proofs.Given.{length_given, write_number}
use Rattle.decoding.proofs.Spelled.{header-found}
use Rattle.encoding.specs.Buffers.{put_into}
use Rattle.image.specs.declared.Header.{Header}
use Rattle.lent.specs.Words.{low_first}
use Rattle.text.specs.Writing.{write_answer}
use Rattle.core_c.proofs.halzuqeen_write.Goals as goal

pub returns-then-header-lt17-clause-number : goal.returns-then-header-lt17-clause-number
returns-then-header-lt17-clause-number c =
    let a = c.args in
    (leaves-as _ _ _ _ _ (write-partless a.header.now a.image.now a.text.now a.length.now c.if-header-lt17.true) (c.number_in.ensures, (refl, refl))).0

pub returns-then-header-lt17-clause-text : goal.returns-then-header-lt17-clause-text
returns-then-header-lt17-clause-text c =
    let a = c.args in
    (leaves-as _ _ _ _ _ (write-partless a.header.now a.image.now a.text.now a.length.now c.if-header-lt17.true) (refl, (refl, refl))).1.0

pub returns-then-header-lt17-clause-length : goal.returns-then-header-lt17-clause-length
returns-then-header-lt17-clause-length c =
    let a = c.args in
    (leaves-as _ _ _ _ _ (write-partless a.header.now a.image.now a.text.now a.length.now c.if-header-lt17.true) (refl, (refl, c.put_length.ensures.put))).1.1

pub returns-then-length-lt8-clause-number : goal.returns-then-length-lt8-clause-number
returns-then-length-lt8-clause-number c =
    let a = c.args in
    (leaves-as _ _ _ _ _ (write_under a.header.now a.image.now a.text.now a.length.now c.if-header-lt17.false c.if-length-lt8.true)
    (c.number_in-then-length-lt8.ensures ∙ c.under_size.ensures.number ∙ ap (λ (h : Header). eleven_or12 h.part h.macros) (c.header_in-h.ensures.found ∙ header-found a.header.now c.if-header-lt17.false), (refl, refl))).0

pub returns-then-length-lt8-clause-text : goal.returns-then-length-lt8-clause-text
returns-then-length-lt8-clause-text c =
    let a = c.args in
    (leaves-as _ _ _ _ _ (write_under a.header.now a.image.now a.text.now a.length.now c.if-header-lt17.false c.if-length-lt8.true) (refl, (refl, refl))).1.0

pub returns-then-length-lt8-clause-length : goal.returns-then-length-lt8-clause-length
returns-then-length-lt8-clause-length c =
    let a = c.args in
    (leaves-as _ _ _ _ _ (write_under a.header.now a.image.now a.text.now a.length.now c.if-header-lt17.false c.if-length-lt8.true) (refl, (refl, refl))).1.1

pub returns-clause-number : goal.returns-clause-number
returns-clause-number c =
    let a = c.args in
    let put = c.put_length-2.ensures.put ∙ ap (λ (n : ℕ). put_into a.length.now (low_first 8 n)) (c.unwrap_or.ensures ∙ length_given c.write-written.result) in
    c.number_in-2.ensures ∙ write_number c.write-written.result ∙ (write_done a.header.now a.image.now a.text.now a.length.now c.if-header-lt17.false _ (write_answer c.write-written.result) _ _ (omega arith) (c.header_in-h.ensures.found ∙ header-found a.header.now c.if-header-lt17.false) c.write-written.ensures.answer c.write-written.ensures.text put).0

pub returns-clause-text : goal.returns-clause-text
returns-clause-text c =
    let a = c.args in
    let put = c.put_length-2.ensures.put ∙ ap (λ (n : ℕ). put_into a.length.now (low_first 8 n)) (c.unwrap_or.ensures ∙ length_given c.write-written.result) in
    (write_done a.header.now a.image.now a.text.now a.length.now c.if-header-lt17.false _ (write_answer c.write-written.result) _ _ (omega arith) (c.header_in-h.ensures.found ∙ header-found a.header.now c.if-header-lt17.false) c.write-written.ensures.answer c.write-written.ensures.text put).1.0

pub returns-clause-length : goal.returns-clause-length
returns-clause-length c =
    let a = c.args in
    let put = c.put_length-2.ensures.put ∙ ap (λ (n : ℕ). put_into a.length.now (low_first 8 n)) (c.unwrap_or.ensures ∙ length_given c.write-written.result) in
    (write_done a.header.now a.image.now a.text.now a.length.now c.if-header-lt17.false _ (write_answer c.write-written.result) _ _ (omega arith) (c.header_in-h.ensures.found ∙ header-found a.header.now c.if-header-lt17.false) c.write-written.ensures.answer c.write-written.ensures.text put).1.1
