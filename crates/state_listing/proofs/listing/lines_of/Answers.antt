use Rattle.std.proofs.Common.{◌≡◌, ℕ, List, IfOk, string_bytes, subst}
use Rattle.time_points.specs.Points.{view_of}
use Rattle.state_listing.proofs.OnStates.{view_lines}
use Rattle.state_listing.proofs.listing.lines_of.Goals as goal

pub returns-clause-lines : goal.returns-clause-lines
returns-clause-lines c =
    subst (λ (lines : List ℕ). IfOk c.state_text.result (λ text. string_bytes text ≡ lines))
    (view_lines c.args.input.now (view_of c.args.points.now).start c.args.request.now c.in_ok-view.view c.in_ok-view.ensures.view) c.state_text.ensures
