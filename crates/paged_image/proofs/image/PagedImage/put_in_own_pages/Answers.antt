use Rattle.std.proofs.Common.{◌≡◌, ◌+◌, ◌≤◌, ◌/◌, ◌%◌, ◌-◌, false, true, length, take, drop, sym, arith}
use Rattle.guest_model.proofs.OnByteMap.{write-nothing}
use Rattle.paged_image.specs.Image.{content}
use Rattle.paged_image.specs.Changes.{owns}
use Rattle.paged_image.proofs.OnImage.{advances-same, advances-trans}
use Rattle.paged_image.proofs.OnRange.{part_length}
use Rattle.paged_image.proofs.OnStores.{put_done, write_more}
use Rattle.paged_image.proofs.image.PagedImage.put_in_own_pages.Goals as goal

pub loop-done-init : goal.loop-done-init
loop-done-init c = (omega arith, sym (write-nothing (content c.args.self.now) c.args.a), advances-same (λ _. false) c.args.self.now)

pub loop-done-preserved : goal.loop-done-preserved
loop-done-preserved c =
    let s = c.args.self.now in
    let l = c.loop-done.self in
    let from = c.args.from.now in
    let done = c.loop-done.done in
    let n = c.min-n.result in
    let fits : done + n ≤ length from = omega arith in
    let size = part_length done n from fits in
    let own : owns l ((c.args.a + done) / 4096) ≡ true = c.loop-done.invariant.2.owns ((c.args.a + done) / 4096) (c.requires.own done (omega arith)) in
    let put = put_done c.put_in_own_page.result (owns l ((c.args.a + done) / 4096)) ((c.args.a + done) % 4096 + length (take (done + n - done) (drop done from))) _
    c.put_in_own_page.ensures.done c.put_in_own_page.ensures.why own (omega (arith, size)) in (
      fits,
      write_more (content s) (content l) (content c.put_in_own_page.new.self) c.args.a done n from fits c.loop-done.invariant.1 put.2,
      advances-trans (λ _. false) s l c.put_in_own_page.new.self c.loop-done.invariant.2 c.put_in_own_page.ensures.advances,
    )
