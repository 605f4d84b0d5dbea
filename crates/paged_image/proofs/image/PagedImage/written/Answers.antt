use Rattle.paged_image.specs.Image.{owns_page, written_of}
use Rattle.paged_image.proofs.OnImage.{owns-written}
use Rattle.paged_image.proofs.image.PagedImage.written.Goals as goal

pub returns-clause-own : goal.returns-clause-own
unfolding owns_page written_of
returns-clause-own c = owns-written c.args.self.now
