use Rattle.paged_image.proofs.OnStores.{stored_in_page}
use Rattle.paged_image.proofs.image.PagedImage.put.Goals as goal

pub returns-then-put_in_own_page : goal.returns-then-put_in_own_page
returns-then-put_in_own_page c =
    let done = c.if-put_in_own_page.ensures.done in
    stored_in_page c.args.self.now c.put_in_own_page.new.self c.args.a c.args.from.now done.0 done.1 done.2 c.put_in_own_page.ensures.advances
