-- The lines of a program's states, one state after the other
use Rattle.std.specs.Prelude.{◌≡◌, ℕ, ◌<◌, ◌^◌, List, [], ◌∷◌, ◌++◌, unwrap_or}
use Rattle.speculation.specs.Record.{Ran, run}
use Rattle.guest_model.specs.Image.{Image, start_of}
use Rattle.guest_model.specs.MachineState.{MachineState}
use Rattle.guest_model.specs.Rv32.{rv32}
use Rattle.guest_model.specs.declared.end.End.{End}
use Rattle.guest_model.specs.declared.end.End.TheVariants.{Spent}
use Rattle.report_text.specs.States.{state_lines}
use Rattle.time_points.specs.Points.{PointsView, HoldFor}
use Rattle.state_listing.specs.declared.request.StateRequest.{StateRequest}

-- the lines of a request by the plain run of its count: its last state, its count and its end, Spent where it still runs
abbrev pub run_lines : StateRequest → Ran MachineState End → List ℕ
run_lines q r = state_lines q.count r.last r.count (unwrap_or r.end Spent) q.bytes

-- the lines of a request, of the program that starts in this state
abbrev pub request_lines : MachineState → List ℕ → StateRequest → List ℕ
request_lines start input q = run_lines q (run (rv32 input) start q.count)

-- those of all requests, in their order, of the program of this image
abbrev pub states_text : Image → List ℕ → List StateRequest → List ℕ
states_text i input [] = []
states_text i input (q ∷ qs) = request_lines (start_of i) input q ++ states_text i input qs

-- these points are those of the program of this image with this input
pub record ArePointsOf (i : Image) (input : List ℕ) (points : PointsView) : Type 0 where
  pub start : points.start ≡ start_of i
  pub hold : HoldFor input points
  pub room : points.every < 2 ^ 64
