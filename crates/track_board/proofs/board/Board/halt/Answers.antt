use Rattle.std.proofs.Common.{true, sym, ap, ◌∙◌}
use Rattle.speculation.specs.Core.{over}
use Rattle.track_board.specs.Invariant.{StandsFor}
use Rattle.track_board.specs.declared.board.Board.TheInside.{Inside}
use Rattle.track_board.proofs.Foundation.{core-seen, core-stood, known}
use Rattle.track_board.proofs.Halting.{halted_core, over-halted, halted-stands}
use Rattle.track_board.proofs.board.Board.halt.Goals as goal

-- the fields at the end
abbrev after : goal.After-self-1 → Inside
after c = record c.self.inside { halted = true; entries = c.push_reserved.new.self }

stands-after : (c : goal.After-self-1) → StandsFor (after c) (halted_core c.self.invariant.0)
stands-after c =
    let i = c.self.inside in
    let k = c.self.invariant.0 in
    let h = c.self.invariant.1 in
    let live = sym (ap over (core-seen i k c.args.self.now h c.self.view_is)) ∙ sym c.over.ensures.result ∙ c.if-over.false in
    halted-stands i (after c) k c.args.seat h live c.push_reserved.ensures.items c.push_reserved.ensures.len c.push_reserved.ensures.capacity

pub invariant_of-self : goal.invariant_of-self
invariant_of-self c = (_, stands-after c)

pub returns-clause-over : goal.returns-clause-over
returns-clause-over c = ap over (core-stood (after c) (halted_core c.self.invariant.0) (stands-after c)) ∙ over-halted c.self.invariant.0

pub returns-clause-known : goal.returns-clause-known
returns-clause-known c = known (after c) (halted_core c.self.invariant.0) (stands-after c)
