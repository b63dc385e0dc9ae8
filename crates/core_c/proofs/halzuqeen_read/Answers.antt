-- 11 or 12 for a header under size, or reading. Assumes nothing.
use Rattle.std.proofs.Common.{refl, ap, ◌∙◌}
use Rattle.calls.proofs.Called.{leaves-as, read_under, read_done}
use Rattle.core_c.proofs.Given.{header_given, read_number}
use Rattle.encoding.specs.Buffers.{put_into}
use Rattle.encoding.specs.Headers.{header_bytes}
use Rattle.image.specs.declared.Header.{Header}
use Rattle.text.specs.Reading.{read_answer}
use Rattle.core_c.proofs.halzuqeen_read.Goals as goal

pub returns-then-header-lt17-clause-number : goal.returns-then-header-lt17-clause-number
returns-then-header-lt17-clause-number c =
    let a = c.args in
    (leaves-as _ _ _ _ _ (read_under a.part a.macros a.text.now a.image.now a.header.now c.if-header-lt17.true) (c.number_in.ensures ∙ c.under_size.ensures.number, (refl, refl))).0

pub returns-then-header-lt17-clause-image : goal.returns-then-header-lt17-clause-image
returns-then-header-lt17-clause-image c =
    let a = c.args in
    (leaves-as _ _ _ _ _ (read_under a.part a.macros a.text.now a.image.now a.header.now c.if-header-lt17.true) (refl, (refl, refl))).1.0

pub returns-then-header-lt17-clause-header : goal.returns-then-header-lt17-clause-header
returns-then-header-lt17-clause-header c =
    let a = c.args in
    (leaves-as _ _ _ _ _ (read_under a.part a.macros a.text.now a.image.now a.header.now c.if-header-lt17.true) (refl, (refl, refl))).1.1

pub returns-clause-number : goal.returns-clause-number
returns-clause-number c =
    let a = c.args in
    let put = c.put_header.ensures.put ∙ ap (λ (h : Header). put_into a.header.now (header_bytes h)) (c.unwrap_or.ensures ∙ header_given c.read-read.result) in
    c.number_in-2.ensures ∙ read_number c.read-read.result ∙ (read_done a.part a.macros a.text.now a.image.now a.header.now (read_answer c.read-read.result) _ _ c.if-header-lt17.false c.read-read.ensures.answer c.read-read.ensures.buffer put).0

pub returns-clause-image : goal.returns-clause-image
returns-clause-image c =
    let a = c.args in
    let put = c.put_header.ensures.put ∙ ap (λ (h : Header). put_into a.header.now (header_bytes h)) (c.unwrap_or.ensures ∙ header_given c.read-read.result) in
    (read_done a.part a.macros a.text.now a.image.now a.header.now (read_answer c.read-read.result) _ _ c.if-header-lt17.false c.read-read.ensures.answer c.read-read.ensures.buffer put).1.0

pub returns-clause-header : goal.returns-clause-header
returns-clause-header c =
    let a = c.args in
    let put = c.put_header.ensures.put ∙ ap (λ (h : Header). put_into a.header.now (header_bytes h)) (c.unwrap_or.ensures ∙ header_given c.read-read.result) in
    (read_done a.part a.macros a.text.now a.image.now a.header.now (read_answer c.read-read.result) _ _ c.if-header-lt17.false c.read-read.ensures.answer c.read-read.ensures.buffer put).1.1
