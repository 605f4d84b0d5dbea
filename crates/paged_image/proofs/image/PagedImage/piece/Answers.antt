use Rattle.std.proofs.Common.{sym, arith, ◌/◌}
use Rattle.paged_image.proofs.OnImage.{piece-page, page_of-absent}
use Rattle.paged_image.proofs.image.PagedImage.piece.Goals as goal

pub returns-clause-some : goal.returns-clause-some
returns-clause-some c =
    rw c.piece.ensures (piece-page c.args.self.now c.args.a c.args.n c.in_ok-entry.entry.now (sym c.in_ok-entry.ensures) (omega arith))

pub returns-in_err-entry-clause-none : goal.returns-in_err-entry-clause-none
returns-in_err-entry-clause-none c = rw c.from_residual.ensures (λ _. page_of-absent c.args.self.now (c.args.a / 4096) (sym c.in_err-entry.ensures))
