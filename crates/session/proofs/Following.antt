-- Calls follow the run of the flow: what the calls gave is what the run has, step by step. Assumes nothing.
use mathlib.Core.Bool.{Bool, true, false}
use mathlib.Core.List.{List}
use mathlib.Core.Path.{◌≡◌, refl, sym, ap, subst, ◌∙◌}
use Prim.Native.Nat.{ℕ, suc, ◌≤◌}
use native.Mathlib.Omega.{arith}
use lib.ListN.{length}
use Rattle.std.proofs.Common.{Some}
use Rattle.flow.specs.Exchange.{decode, Met, meet}
use Rattle.flow.specs.Packets.{answers, packet_of}
use Rattle.flow.specs.Plan.{counting}
use Rattle.flow.specs.Run.{Run, served, advance_by, advance, run_after, handed_out}
use Rattle.flow.specs.Session.{running, reported, move_at, step_of}
use Rattle.flow.specs.Session as Flow
use Rattle.flow.specs.declared.Answer.{Answer}
use Rattle.flow.specs.declared.Counters.{Counters}
use Rattle.flow.specs.declared.Move.{Move}
use Rattle.flow.specs.declared.Packet.{Packet}
use Rattle.flow.specs.declared.Position.{Position}
use Rattle.image.specs.Image.{Image, image_of}
use Rattle.image.specs.declared.Header.{Header}
use Rattle.parts.specs.Parts.{lookup_of}
use Rattle.parts.specs.Sizes.{image_size}
use Rattle.parts.specs.declared.Geometry.{Geometry}
use Rattle.session.specs.Calls.{Gives, asks, reports, State, Steps, none, answer, refusal, later, handing, reaction, answered, called}
use Rattle.session.specs.Given.{outcome_at, giving, step_with}
use Rattle.session.specs.Possible.{possible_in}
use Rattle.session.specs.Sessions.{stand_of, most_of, resumed}
use Rattle.session.specs.declared.Report.{Report}
use Rattle.session.specs.declared.Session.{Session}
use Rattle.session.proofs.Closed.{Within}
use Rattle.session.proofs.Counted.{count_in, stand-resumed, count-step}
use Rattle.flow.proofs.Moves.{proper-at}
use Rattle.session.proofs.Possibility.{parts, stands_of, step-possible}
use Rattle.std.specs.Prelude.{Ok}
use Rattle.session.proofs.Stepping.{fits, handing-stands, standing-new, header-kept, step-running, step-finished, given_back}
use Rattle.session.specs.Outcomes.{Given, Outcome, Refused, Ask, Reported}

-- one packet, one request
same-packet : (p q : Packet) (o : Outcome) → o ≡ Ask p → o ≡ Ask q → p ≡ q
same-packet p q o e f = cc

pub no-packet : (p : Packet) (r : Report) (o : Outcome) → o ≡ Ask p → o ≡ Reported r → ⊥
no-packet p r o e f = let z : ◌≡◌ {A = ℕ} 0 1 = cc in omega arith

-- what stands is a request or the report
gives_at : (i : Image) (x : Flow.SessionState) → Gives (outcome_at i x)
gives_at i (running p c h) = asks _
gives_at i (reported x t h) = reports _

not-finished : (s : Session) (p : Position) (c : Counters) (h : ℕ) → stand_of s ≡ running p c h → (s.finished ≡ false) × (s.position ≡ p)
not-finished s p c h e = by s.finished refl
  where
    by : (t : Bool) → s.finished ≡ t → (s.finished ≡ false) × (s.position ≡ p)
    by true q = absurd (clash (sym (rw q at e)))
      where
        clash : running p c h ≡ reported s.number s.step s.transfers → ⊥
        clash x = let z : ◌≡◌ {A = ℕ} 0 1 = cc in omega arith
    by false q = let same : running s.position s.counters s.transfers ≡ running p c h = rw q at e in (q, cc)

is-finished : (s : Session) (x t c : ℕ) → stand_of s ≡ reported x t c → s.finished ≡ true
is-finished s x t c e = by s.finished refl
  where
    clash : {p : Position} {d : Counters} {h : ℕ} → running p d h ≡ reported x t c → ⊥
    clash q = let z : ◌≡◌ {A = ℕ} 0 1 = cc in omega arith

    by : (b : Bool) → s.finished ≡ b → s.finished ≡ true
    by true q = q
    by false q = absurd (clash (rw q at e))

module _ (g : Geometry) (h : Header) (bytes : List ℕ) (found : lookup_of h.part h.macros ≡ Ok g)
    (size : length bytes ≡ image_size g) where
  abbrev i : Image
  i = image_of g h bytes

  -- the calls' state and the run
  pub record Follows (s : State) (r : Run) : Type 0 where
    pub header : s.session.header ≡ h
    pub can : possible_in g s.session ≡ true
    pub session : stand_of s.session ≡ r.session
    pub stands : s.stands ≡ outcome_at i r.session
    pub target : s.target ≡ r.target
    pub lists : s.lists ≡ r.lists
    pub monitor : s.monitor ≡ r.monitor
    pub traffic : s.traffic ≡ handed_out i r
    pub count : count_in r.session ≡ r.traffic.transfers

  found_of : (s : State) (r : Run) → Follows s r → lookup_of s.session.header.part s.session.header.macros ≡ Ok g
  found_of s r f = rw f.header found

  -- the standing move is met as the run meets it
  module _ (s : State) (r : Run) (f : Follows s r) (p : Position) (c : Counters) (t : ℕ) (is : r.session ≡ running p c t) where
    abbrev m : Move
    m = move_at i p

    abbrev x : Met
    x = meet g (packet_of m.request) r.lists r.target

    inside : Within i p c
    inside = rw (f.session ∙ is) at (stands_of g h bytes s.session (parts g s.session f.can))

    meant : decode (packet_of m.request) ≡ Some m.request
    meant = (proper-at i p.entry p.at).meant

    fitting : answers m.request x.answer ≡ true
    unfolding meet
    fitting = rw meant (fits g m.request r.lists r.target)

    stepped : step_of (image_of g s.session.header bytes) (stand_of s.session) x.answer ≡ step_of i (running p c t) x.answer
    stepped =
        ap (λ (j : Header). step_of (image_of g j bytes) (stand_of s.session) x.answer) f.header
        ∙ ap (λ (z : Flow.SessionState). step_of i z x.answer) (f.session ∙ is)

    gave : step_with s.session bytes x.answer ≡ giving i (resumed g s.session (step_of i (running p c t) x.answer))
    gave =
        let z = not-finished s.session p c t (f.session ∙ is) in
        let first : step_with s.session bytes x.answer
        ≡ giving (image_of g s.session.header bytes) (resumed g s.session (step_of (image_of g s.session.header bytes) (stand_of s.session) x.answer))
        = step-running g s.session bytes x.answer (found_of s r f) f.can size z.0 (rw (z.1, f.header) fitting) in
        first ∙ rw (f.header, f.session, is)

    next : count_in (step_of i (running p c t) x.answer) ≤ most_of g
        → (q : Packet) → q ≡ packet_of m.request → (e : Met) → e ≡ x → (v : Given) → v ≡ giving i (resumed g s.session (step_of i (running p c t) x.answer))
        → Follows (answered g q e v s) (served i (running p c t) m x r)
    next low q qe e ee v ve =
        let new = step_of i (running p c t) x.answer in
        let stood = stand-resumed g s.session new low in
        rw (qe, ee, ve)
        (record {
          header = header-kept g s.session new ∙ f.header;
          can = ap (λ (z : Flow.SessionState). possible_in g (resumed g s.session z)) (sym stepped) ∙ step-possible g bytes s.session x.answer f.can;
          session = stood;
          stands = rw stood (standing-new i s.stands new);
          target = refl;
          lists = refl;
          monitor = rw (meant, f.monitor);
          traffic = rw (stood, f.traffic, is) (handing-stands i new (counting m.request r.traffic));
          count = count-step i (running p c t) r (ap count_in (sym is) ∙ f.count) (sym is);
        })

  -- an answered step is a step of the run
  pub follow-answer : (s : State) (r : Run) (p : Packet) → Follows s r → s.stands ≡ Ask p → count_in (advance i r).session ≤ most_of g
      → Follows (answered g p (reaction g p s) (step_with s.session bytes (reaction g p s).answer) s) (advance i r)
  unfolding advance
  follow-answer s r p f e low = by r.session refl
    where
      by : (z : Flow.SessionState) → r.session ≡ z
          → Follows (answered g p (reaction g p s) (step_with s.session bytes (reaction g p s).answer) s) (advance_by i r.session r)
      by (running o c t) is =
          let same : p ≡ packet_of (move_at i o).request = same-packet p _ s.stands e (f.stands ∙ ap (outcome_at i) is) in
          let met : reaction g p s ≡ meet g (packet_of (move_at i o).request) r.lists r.target = rw (same, f.lists, f.target) in
          subst (λ (z : Flow.SessionState). Follows (answered g p (reaction g p s) (step_with s.session bytes (reaction g p s).answer) s) (advance_by i z r)) (sym is)
          (next s r f o c t is (subst (λ (z : Flow.SessionState). count_in (advance_by i z r).session ≤ most_of g) is low) p same (reaction g p s) met
          (step_with s.session bytes (reaction g p s).answer)
          (ap (λ (v : Met). step_with s.session bytes v.answer) met ∙ gave s r f o c t is))
      by (reported x t c) is = absurd (no-packet p _ s.stands e (f.stands ∙ ap (outcome_at i) is))

  -- the same step gives a request or the report
  pub follow-gives : (s : State) (r : Run) (p : Packet) → Follows s r → s.stands ≡ Ask p → Gives (step_with s.session bytes (reaction g p s).answer).outcome
  follow-gives s r p f e = by r.session refl
    where
      by : (z : Flow.SessionState) → r.session ≡ z → Gives (step_with s.session bytes (reaction g p s).answer).outcome
      by (running o c t) is =
          let same : p ≡ packet_of (move_at i o).request = same-packet p _ s.stands e (f.stands ∙ ap (outcome_at i) is) in
          let met : reaction g p s ≡ meet g (packet_of (move_at i o).request) r.lists r.target = rw (same, f.lists, f.target) in
          let new = step_of i (running o c t) (meet g (packet_of (move_at i o).request) r.lists r.target).answer in
          rw (met, gave s r f o c t is) (gives_at i (stand_of (resumed g s.session new)))
      by (reported x t c) is = absurd (no-packet p _ s.stands e (f.stands ∙ ap (outcome_at i) is))

  -- a refused step changes nothing
  follow-refusal : (s : State) (r : Run) (lent : List ℕ) (a : Answer) (number : ℕ) → Follows s r → (step_with s.session lent a).outcome ≡ Refused number
      → Follows (called (step_with s.session lent a) s) r
  follow-refusal s r lent a number f e =
      let back = given_back s.session lent a number e in
      record {
        header = rw back f.header;
        can = rw back f.can;
        session = rw back f.session;
        stands = rw e f.stands;
        target = f.target;
        lists = f.lists;
        monitor = f.monitor;
        traffic = rw e f.traffic;
        count = f.count;
      }

  -- after the report every step repeats it
  pub follow-repeats : (s : State) (r : Run) (a : Answer) (last-report : Report) → Follows s r → s.stands ≡ Reported last-report
      → (step_with s.session bytes a).outcome ≡ Reported last-report
  follow-repeats s r a last-report f e = by r.session refl
    where
      by : (z : Flow.SessionState) → r.session ≡ z → (step_with s.session bytes a).outcome ≡ Reported last-report
      by (running o d t) is = absurd (no-packet _ last-report s.stands (f.stands ∙ ap (outcome_at i) is) e)
      by (reported x t c) is =
          let again : step_with s.session bytes a ≡ giving (image_of g s.session.header bytes) s.session =
          step-finished g s.session bytes a (found_of s r f) f.can size (is-finished s.session x t c (f.session ∙ is)) in
          rw again (ap (λ (j : Header). outcome_at (image_of g j bytes) (stand_of s.session)) f.header ∙ ap (outcome_at i) f.session ∙ sym f.stands ∙ e)

  follow-later : (s : State) (r : Run) (a : Answer) (last-report : Report) → Follows s r → s.stands ≡ Reported last-report
      → Follows (called (step_with s.session bytes a) s) r
  follow-later s r a last-report f e = by r.session refl
    where
      by : (z : Flow.SessionState) → r.session ≡ z → Follows (called (step_with s.session bytes a) s) r
      by (running o d t) is = absurd (no-packet _ last-report s.stands (f.stands ∙ ap (outcome_at i) is) e)
      by (reported x t c) is =
          let again : step_with s.session bytes a ≡ giving i s.session =
          step-finished g s.session bytes a (found_of s r f) f.can size (is-finished s.session x t c (f.session ∙ is))
          ∙ ap (λ (j : Header). giving (image_of g j bytes) s.session) f.header in
          let out : outcome_at i (stand_of s.session) ≡ Reported (record { number = x; step = t; transfers = c }) = ap (outcome_at i) (f.session ∙ is) in
          subst (λ (v : Given). Follows (called v s) r) (sym again)
          (record {
            header = f.header;
            can = f.can;
            session = f.session;
            stands = standing-new i s.stands (stand_of s.session) ∙ ap (outcome_at i) f.session;
            target = f.target;
            lists = f.lists;
            monitor = f.monitor;
            traffic = ap (λ (o : Outcome). handing o s.traffic) out ∙ f.traffic;
            count = f.count;
          })

  -- the whole list
  pub follow : (n k : ℕ) (s s' : State) (r : Run) → Follows s r → ((j : ℕ) → count_in (run_after i j r).session ≤ most_of g)
      → Steps g bytes n k s s' → Follows s' (run_after i n r)
  unfolding run_after
  follow n k s s' r f low none = f
  follow n k s s' r f low (answer p e steps) = follow _ k _ s' (advance i r) (follow-answer s r p f e (low 1)) (λ j. low (suc j)) steps
  follow n k s s' r f low (refusal lent a number e steps) = follow n _ _ s' r (follow-refusal s r lent a number f e) low steps
  follow n k s s' r f low (later a last-report e steps) = follow n _ _ s' r (follow-later s r a last-report f e) low steps
