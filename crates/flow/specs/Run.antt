-- A session and a target, step by step: 'The board meets every request once, in order, and nothing else.' Assumes nothing.
use Rattle.std.specs.Prelude.{ℕ, zero, suc}
use Rattle.flow.specs.Exchange.{Met, meet}
use Rattle.flow.specs.Monitor.{Monitor, nothing_seen, watch}
use Rattle.flow.specs.Packets.{packet_of}
use Rattle.flow.specs.Plan.{Traffic, no_traffic, counting}
use Rattle.flow.specs.Session.{SessionState, running, reported, move_at, step_of, first_session}
use Rattle.flow.specs.Target.{Target, Lists}
use Rattle.flow.specs.declared.Move.{Move}
use Rattle.image.specs.Image.{Image}

-- the session, the target, what is left of the free lists, what the monitor has seen, and the requests answered
pub record Run : Type 0 where
  pub session : SessionState
  pub target : Target
  pub lists : Lists
  pub monitor : Monitor
  pub traffic : Traffic

abbrev pub served : Image → SessionState → Move → Met → Run → Run
served i s m r run = record {
  session = step_of i s r.answer;
  target = r.target;
  lists = r.lists;
  monitor = watch i.geometry m.request r.answer run.monitor;
  traffic = counting m.request run.traffic;
}

-- the target's answer to the standing request, given to the session; after the report nothing changes
abbrev pub advance_by : Image → SessionState → Run → Run
advance_by i (running p c h) run =
    let m = move_at i p in
    served i (running p c h) m (meet i.geometry (packet_of m.request) run.lists run.target) run
advance_by i (reported x s h) run = run

unfoldable pub advance : Image → Run → Run
advance i run = advance_by i run.session run

-- n steps
unfoldable pub run_after : Image → (steps : ℕ) → Run → Run
run_after i zero run = run
run_after i (suc n) run = run_after i n (advance i run)

abbrev pub started : Target → Lists → Run
started b l = record {
  session = first_session;
  target = b;
  lists = l;
  monitor = nothing_seen;
  traffic = no_traffic;
}

-- the requests handed out: those answered, and the one that stands
abbrev pub handed_out_by : Image → SessionState → Traffic → Traffic
handed_out_by i (running p c h) t = counting (move_at i p).request t
handed_out_by i (reported x s h) t = t

abbrev pub handed_out : Image → Run → Traffic
handed_out i run = handed_out_by i run.session run.traffic
