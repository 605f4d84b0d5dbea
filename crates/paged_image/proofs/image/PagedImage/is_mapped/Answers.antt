use Rattle.std.proofs.Common.{sym, arith}
use Rattle.guest_model.proofs.OnByteMap.{mapped-past}
use Rattle.paged_image.specs.Image.{content}
use Rattle.paged_image.proofs.OnRange.{mapped-pages, mapped-absent_page, mapped-empty}
use Rattle.paged_image.proofs.image.PagedImage.is_mapped.Goals as goal

pub returns-then-end : goal.returns-then-end
returns-then-end c = sym (mapped-past (content c.args.self.now) c.args.a c.args.n (omega arith))

pub returns-then-n-eq0 : goal.returns-then-n-eq0
returns-then-n-eq0 c = sym (mapped-empty (content c.args.self.now) c.args.a c.args.n (omega arith) c.if-n-eq0.true)

pub returns-then-not-has_page : goal.returns-then-not-has_page
returns-then-not-has_page c = sym (mapped-absent_page c.args.self.now c.args.a c.args.n c.loop-number.number (omega arith) (omega arith) (omega arith) (sym c.if-not-has_page.ensures))

pub returns : goal.returns
returns c = sym (mapped-pages c.args.self.now c.args.a c.args.n (omega arith) (λ p l r. c.loop-number.invariant p l (omega arith)))
