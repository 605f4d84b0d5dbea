use Rattle.std.proofs.Common.{◌+◌, ◌-◌, ◌≤◌, ◌^◌, length, sym, arith, ◌∙◌, ap, [], refl}
use Rattle.guest_model.specs.ByteMap.{bytes_from}
use Rattle.guest_model.proofs.OnByteMap.{mapped-bound, bytes_from-fill}
use Rattle.paged_image.specs.Image.{content}
use Rattle.paged_image.proofs.OnRange.{filled_more, part_length, page-mapped}
use Rattle.paged_image.proofs.image.PagedImage.fill.Goals as goal

pub loop-done-init : goal.loop-done-init
loop-done-init c = (omega arith, sym (bytes_from-fill (content c.args.self.now) c.args.a 0 [] refl (λ k l. absurd (omega arith))))

pub overflow_add-at : goal.overflow_add-at
overflow_add-at c =
    let s = c.args.self.now in
    let b : c.args.a + length c.args.into.now ≤ 2 ^ 32 = mapped-bound (content s) c.args.a (length c.args.into.now) (sym c.if-not-is_mapped.ensures) in
    omega (arith, c.loop-done.auto.into)

pub fill_from_page-requires-clause-mapped : goal.fill_from_page-requires-clause-mapped
fill_from_page-requires-clause-mapped c =
    let s = c.args.self.now in
    page-mapped s c.args.a (length c.args.into.now) c.loop-done.done (sym c.if-not-is_mapped.ensures) (omega (arith, c.loop-done.auto.into))

pub loop-done-preserved : goal.loop-done-preserved
loop-done-preserved c =
    let n = c.min-n.result in
    let done = c.loop-done.done in
    let into = c.loop-done.into in
    let fits : done + n ≤ length into = omega arith in
    filled_more (content c.args.self.now) c.args.a done n (done + n - done) into c.fill_from_page.new.into (omega arith) fits c.loop-done.invariant.1
    (c.fill_from_page.ensures ∙ ap (bytes_from (content c.args.self.now) (c.args.a + done)) (part_length done n into fits))
