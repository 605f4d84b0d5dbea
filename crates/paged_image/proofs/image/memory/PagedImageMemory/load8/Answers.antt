use Rattle.std.proofs.Common.{sym, ◌∙◌}
use Rattle.paged_image.specs.Image.{content}
use Rattle.paged_image.proofs.OnLoads.{load8-absent, load8-there}
use Rattle.paged_image.proofs.image.memory.PagedImageMemory.load8.Goals as goal

pub returns-in_err-piece : goal.returns-in_err-piece
returns-in_err-piece c = c.from_residual.ensures ∙ sym (load8-absent c.args.self.now c.args.a c.in_err-piece.ensures.none)

pub returns : goal.returns
returns c = sym (load8-there (content c.args.self.now) c.args.a c.in_ok-piece.piece.now c.in_ok-piece.ensures.some)
