use Rattle.std.proofs.Common.{sym, ap, ◌∙◌}
use Rattle.region_ledger.specs.Ledger.{ledger_rows}
use Rattle.track_board.specs.Value.{Posted, GuestCore}
use Rattle.track_board.proofs.Foundation.{core-seen}
use Rattle.track_board.proofs.board.Board.outcome.Goals as goal

pub returns : goal.returns
returns c =
    let h = c.self.invariant.1 in
    let seen = core-seen c.self.inside c.self.invariant.0 c.args.self.now h c.self.view_is in
    record {
      entries = c.from_vec-2.ensures ∙ c.in_ok-entries.ensures.items ∙ c.deref-2.ensures.value ∙ ap (λ (v : Posted). v.entries) c.self.view_is;
      rows = ap ledger_rows (c.from_vec.ensures ∙ c.in_ok-rows.ensures.items ∙ c.deref.ensures.value) ∙ h.fields.rows ∙ ap (λ (k : GuestCore). k.rows) (sym seen);
      finish = h.fields.finish ∙ ap (λ (k : GuestCore). k.finish) (sym seen);
    }
