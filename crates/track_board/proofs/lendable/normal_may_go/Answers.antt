use Rattle.std.proofs.Common.{◌≡◌, Option, Some, sym, ap, ◌∙◌}
use Rattle.std.proofs.lemmas.Option.{same_Some}
use Rattle.seniority_queue.specs.Listing.{LiveNode}
use Rattle.track_board.specs.declared.region.Region.{Region}
use Rattle.track_board.specs.LendTests.{may_go, found_may_go}
use Rattle.track_board.proofs.Walks.{numbered-by}
use Rattle.track_board.proofs.lendable.normal_may_go.Goals as goal

pub returns-in-Some-get : goal.returns-in-Some-get
returns-in-Some-get c =
    let q = c.args.regions.now in
    let by = numbered-by c.args.number q c.in-Some.key c.get.ensures.sound c.in-Some.ensures in
    let same : by.node.value ≡ c.in-Some-get.region.now = (let e : Some by.node.value ≡ Some c.in-Some-get.region.now = sym by.got ∙ sym c.in-Some-get.ensures.value in same_Some by.node.value c.in-Some-get.region.now e) in
    c.may_go.ensures
    ∙ ap (λ (r : Region). may_go r.normal q.nodes) (sym same)
    ∙ sym (ap (λ (o : Option (LiveNode Region)). found_may_go o q.nodes) by.found)

pub returns-in-None : goal.returns-in-None
returns-in-None c = absurd (let by = numbered-by c.args.number c.args.regions.now c.in-Some.key c.get.ensures.sound c.in-Some.ensures in let none = c.in-None.ensures.value in let got = by.got in cc)
