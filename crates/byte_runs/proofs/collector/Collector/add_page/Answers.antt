use Rattle.std.proofs.Common.{◌≡◌}
use Rattle.std.proofs.lemmas.Bool.Decides.{Decides-eqb}
use Rattle.std.proofs.lemmas.Slice.Eq.{slice_eq-Decides}
use Rattle.paged_image.specs.Image.{content}
use Rattle.page_compare.proofs.OnPagePair.{same-absent, same-bytes}
use Rattle.byte_runs.proofs.OnCollected.{same_page}
use Rattle.byte_runs.proofs.collector.Collector.add_page.Goals as goal

pub returns-in_default-clause-page : goal.returns-in_default-clause-page
returns-in_default-clause-page c =
    let m = content c.args.a.now in
    let n = content c.args.b.now in
    same_page m n c.args.page c.args.self.now (same-absent m n c.args.page c.requires.shape c.in_default.ensures.none) c.requires.below

pub returns-then-eq-clause-page : goal.returns-then-eq-clause-page
returns-then-eq-clause-page c =
    let m = content c.args.a.now in
    let n = content c.args.b.now in
    let equal : c.in-Some.left.now ≡ c.in-Some-page.right.now = (slice_eq-Decides Decides-eqb c.in-Some.left.now c.in-Some-page.right.now c.eq.result c.eq.ensures).0 c.if-eq.true in
    same_page m n c.args.page c.args.self.now (same-bytes m n c.args.page c.in-Some.left.now c.in-Some-page.right.now c.in-Some.ensures.some c.in-Some-page.ensures.some equal) c.requires.below
