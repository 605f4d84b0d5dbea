use Rattle.std.proofs.Common.{ℕ, ◌+◌, ◌-◌, ◌^◌, List, min, length, ap, ap₂, ◌∙◌}
use Rattle.track_board.specs.declared.ready.Ready.{Ready}
use Rattle.track_board.specs.declared.slot.Slot.{Slot}
use Rattle.track_board.specs.Parts.{ready_marks}
use Rattle.track_board.specs.Releasing.{slot_marks}
use Rattle.track_board.proofs.Foundation.{known-seen}
use Rattle.track_board.proofs.Releases.{verified-count}
use Rattle.track_board.proofs.board.Board.verified.Goals as goal

pub returns-clause-bytes : goal.returns-clause-bytes
returns-clause-bytes c =
    c.saturating_add.ensures
    ∙ ap₂ (λ (m n : ℕ). min (m + n) (2 ^ 64 - 1))
    (c.size_of.ensures ∙ ap (λ (xs : List Ready). min (length (ready_marks xs)) (2 ^ 64 - 1)) c.deref.ensures.value)
    (c.size_upto-held.ensures ∙ ap₂ (λ (n : ℕ) (s : Slot). length (slot_marks n s)) c.saturating_sub-limit.ensures c.front.ensures)
    ∙ verified-count c.self.inside c.self.invariant.0 c.self.invariant.1 c.args.self.now c.self.view_is

pub returns-clause-known : goal.returns-clause-known
returns-clause-known c = known-seen c.self.inside c.self.invariant.0 c.args.self.now c.self.invariant.1 c.self.view_is
