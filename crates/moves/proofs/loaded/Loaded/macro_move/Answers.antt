-- The macro's locks are a middle part of the image: they are sent, then read back.
use Rattle.std.proofs.Common.{◌≡◌, ◌+◌, ◌*◌, ◌<◌, ◌≤◌, ◌/◌, arith, refl, ◌∙◌}
use Rattle.image.specs.Image.{image_of}
use Rattle.moves.proofs.Sections.{lock-at, check-at}
use Rattle.parts.specs.Sizes.{flash_size, lock_start, locks_in}
use Rattle.moves.proofs.loaded.Loaded.macro_move.Goals as goal

pub returns-then-n-j : goal.returns-then-n-j
returns-then-n-j c =
    let l = c.args.self.now in
    let high : 24 + 2 * (locks_in l.geometry c.args.m / 4) ≤ c.args.j = omega (arith, c.if-n-j.true, c.lock_words.ensures.count) in
    (rw c.lock_words.ensures.count at c.check_move.ensures) ∙ check-at (image_of l.geometry l.header l.bytes.now) c.args.m c.args.j high

pub returns : goal.returns
returns c =
    let l = c.args.self.now in
    let starts : c.flash_size.result + c.lock_start.result ≡ flash_size l.geometry + lock_start l.geometry c.args.m =
    omega (arith, c.flash_size.ensures.size, c.lock_start.ensures.start) in
    let low : c.args.j < 24 + 2 * (locks_in l.geometry c.args.m / 4) = omega (arith, c.if-n-j.false, c.lock_words.ensures.count) in
    lock-at l.geometry l.handled l.header l.bytes.now l.exact c.args.m c.args.j
    _ _ starts c.locks_in.ensures.size c.requires.low _ refl low (c.lock_move.ensures.found l.geometry refl)
