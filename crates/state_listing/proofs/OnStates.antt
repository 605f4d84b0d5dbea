-- The lines of states, one request after the other, and the points that they are taken from
use Rattle.std.proofs.Common.{◌≡◌, ℕ, ◌+◌, ◌<◌, List, ◌++◌, length, drop, get_or, Result, IfOk, ap, ◌∙◌, subst}
use Rattle.std.proofs.lemmas.List.{at_drop_more}
use Rattle.guest_model.specs.Image.{Image, start_of}
use Rattle.speculation.specs.Record.{run}
use Rattle.guest_model.specs.MachineState.{MachineState}
use Rattle.guest_model.specs.Rv32.{rv32}
use Rattle.guest_model.specs.declared.end.End.{End}
use Rattle.report_text.specs.States.{state_lines}
use Rattle.track_state.specs.Kept.{flat_state}
use Rattle.time_points.specs.View.{IsViewOf}
use Rattle.time_points.specs.declared.view.View.{View}
use Rattle.state_listing.specs.declared.request.StateRequest.{StateRequest}
use Rattle.state_listing.specs.Listing.{request_lines, states_text}

-- the states from the k-th request on
pub states_next : (i : Image) (input : List ℕ) (qs : List StateRequest) (k : ℕ) (d : StateRequest) → k < length qs
    → states_text i input (drop k qs) ≡ request_lines (start_of i) input (get_or qs k d) ++ states_text i input (drop (k + 1) qs)
states_next i input qs k d h = at_drop_more (states_text i input) qs k d h

-- the lines of a view
pub view_lines : (input : List ℕ) (start : MachineState) (q : StateRequest) (v : View) → IsViewOf input start q.count v → state_lines q.count (flat_state v.state) v.taken v.end q.bytes ≡ request_lines start input q
view_lines input start q v h =
    ap (λ (s : MachineState). state_lines q.count s v.taken v.end q.bytes) h.state
    ∙ ap (λ (n : ℕ). state_lines q.count (run (rv32 input) start q.count).last n v.end q.bytes) h.taken
    ∙ ap (λ (e : End). state_lines q.count (run (rv32 input) start q.count).last (run (rv32 input) start q.count).count e q.bytes) h.end

-- the lines that were made, of the program that starts in the same state
pub lines_at : {X E : Type 0} (bytes_of : X → List ℕ) (r : Result X E) (start first : MachineState) (input : List ℕ) (q : StateRequest) → start ≡ first
    → IfOk r (λ text. bytes_of text ≡ request_lines start input q) → IfOk r (λ text. bytes_of text ≡ request_lines first input q)
lines_at bytes_of r start first input q same h = subst (λ (s : MachineState). IfOk r (λ text. bytes_of text ≡ request_lines s input q)) same h
