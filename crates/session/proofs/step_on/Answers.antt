-- The next request, or 14. Assumes nothing.
use Rattle.std.proofs.Common.{Bool, true, false, List, ℕ, ◌≡◌, sym, ap, subst, ◌∙◌}
use Rattle.flow.specs.Packets.{answers}
use Rattle.flow.specs.Session.{SessionState, move_at, act, step_of}
use Rattle.flow.specs.declared.Answer.{Answer}
use Rattle.flow.specs.declared.Move.{Move}
use Rattle.image.specs.Image.{Image, image_of}
use Rattle.image.specs.declared.Header.{Header}
use Rattle.parts.specs.Parts.{lookup_of}
use Rattle.parts.specs.declared.Geometry.{Geometry}
use Rattle.session.specs.Given.{giving}
use Rattle.session.specs.Sessions.{stand_of, resumed}
use Rattle.session.specs.declared.Session.{Session}
use Rattle.session.proofs.Limits.{in-range}
use Rattle.session.proofs.Stepping.{header-kept, on-fit}
use Rattle.std.specs.Prelude.{Ok}
use Rattle.session.proofs.step_on.Goals as goal
use Rattle.session.specs.Outcomes.{Given}
use Rattle.session.specs.Told.{given_told}

-- whether the answer fits the request of the move that is found
fit : (g : Geometry) (s : Session) (bytes : List ℕ) (a : Answer) (m : Move) (b t : Bool)
    → m ≡ move_at (image_of g s.header bytes) s.position
    → b ≡ answers m.request a
    → b ≡ t
    → answers (move_at (image_of g s.header bytes) s.position).request a ≡ t
fit g s bytes a m b t is e f = ap (λ (n : Move). answers n.request a) (sym is) ∙ sym e ∙ f

-- a session that runs steps by the move it stands at
going_on : (i : Image) (s : Session) (a : Answer) → s.finished ≡ false → act i (move_at i s.position) a s.position s.counters s.transfers ≡ step_of i (stand_of s) a
unfolding step_of
going_on i s a goes = rw goes

-- what the session is that the answer leads to
moved_on : (g : Geometry) (s t : Session) (bytes : List ℕ) (a : Answer) (m : Move)
    → s.finished ≡ false
    → m ≡ move_at (image_of g s.header bytes) s.position
    → t ≡ resumed g s (act (image_of g s.header bytes) m a s.position s.counters s.transfers)
    → t ≡ resumed g s (step_of (image_of g s.header bytes) (stand_of s) a)
moved_on g s t bytes a m goes is e =
    e
    ∙ ap (λ (n : Move). resumed g s (act (image_of g s.header bytes) n a s.position s.counters s.transfers)) is
    ∙ ap (λ (x : SessionState). resumed g s x) (going_on (image_of g s.header bytes) s a goes)

-- it is given with what stands in it
given_on : (g : Geometry) (s t : Session) (bytes : List ℕ) (x : SessionState) (r : Given)
    → t ≡ resumed g s x
    → r ≡ giving (image_of g t.header bytes) t
    → r ≡ giving (image_of g s.header bytes) (resumed g s x)
given_on g s t bytes x r new e =
    e
    ∙ ap (λ (u : Session). giving (image_of g u.header bytes) u) new
    ∙ ap (λ (h : Header). giving (image_of g h bytes) (resumed g s x)) (header-kept g s x)

pub advanced-requires : goal.advanced-requires
advanced-requires c =
    let h = c.args.held.now in
    record { short = in-range h.geometry h.session h.lent.found c.requires.possible c.if-held.false }

pub invariant_of-next : goal.invariant_of-next
invariant_of-next c =
    let h = c.args.held.now in
    let same : c.advanced.result.header ≡ h.session.header = ap (λ (t : Session). t.header) c.advanced.ensures ∙ header-kept h.geometry h.session _ in
    record {
      lent = record {
        found = subst (λ (k : Header). lookup_of k.part k.macros ≡ Ok h.geometry) (sym same) h.lent.found;
        size = h.lent.size;
      };
    }

pub returns-then-answer_fits : goal.returns-then-answer_fits
returns-then-answer_fits c =
    let h = c.args.held.now in
    let goes = c.if-held.false in
    let is = c.standing_move-m.ensures in
    let fits = fit h.geometry h.session h.bytes.now c.args.a c.standing_move-m.result c.answer_fits.result true is c.answer_fits.ensures.fits c.if-answer_fits.true in
    let new = moved_on h.geometry h.session c.advanced.result h.bytes.now c.args.a c.standing_move-m.result goes is c.advanced.ensures in
    given_on h.geometry h.session c.advanced.result h.bytes.now _ (given_told c.give-then-answer_fits.result) new c.give-then-answer_fits.ensures
    ∙ sym (on-fit h.geometry h.session h.bytes.now c.args.a goes fits)
