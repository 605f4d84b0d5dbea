use Rattle.std.proofs.Common.{◌<◌, Option, option_map, sym, ap, ◌∙◌, subst}
use Rattle.seniority_queue.specs.Listing.{LiveNode}
use Rattle.seniority_queue.specs.declared.key.Key.{Key}
use Rattle.track_board.specs.declared.region.Region.{Region}
use Rattle.track_board.specs.LendTests.{may_go}
use Rattle.track_board.proofs.Walks.{SoughtFrom, names_left, sought-number, sought-next, sought-fewer, sought-none}
use Rattle.track_board.proofs.lendable.first_to_go.Goals as goal

pub returns-then-may_go : goal.returns-then-may_go
returns-then-may_go c =
    let q = c.args.regions.now in
    sym (sought-number q (λ (x : Region). may_go x.normal q.nodes) c.get.ensures.sound c.loop-next.next c.in-Some.key c.loop-next.invariant c.in-Some.is c.in_ok-region.region.now c.in_ok-region.ensures.value
    (sym c.may_go.ensures ∙ c.if-may_go.true))

pub loop-next-smaller : goal.loop-next-smaller
loop-next-smaller c =
    let q = c.args.regions.now in
    subst (λ (o : Option Key). names_left q.made o < names_left q.made c.loop-next.next) (sym c.after-next.ensures.key)
    (sought-fewer q (λ (x : Region). may_go x.normal q.nodes) c.get.ensures.sound c.loop-next.next c.in-Some.key c.loop-next.invariant c.in-Some.is)

pub loop-next-preserved : goal.loop-next-preserved
loop-next-preserved c =
    let q = c.args.regions.now in
    subst (SoughtFrom q (λ (x : Region). may_go x.normal q.nodes)) (sym c.after-next.ensures.key)
    (sought-next q (λ (x : Region). may_go x.normal q.nodes) c.get.ensures.sound c.loop-next.next c.in-Some.key c.loop-next.invariant c.in-Some.is c.in_ok-region.region.now c.in_ok-region.ensures.value
    (sym c.may_go.ensures ∙ c.if-may_go.false))

pub returns : goal.returns
returns c =
    let q = c.args.regions.now in
    sym (ap (option_map (λ (n : LiveNode Region). n.value.number)) (sought-none q (λ (x : Region). may_go x.normal q.nodes) c.loop-next.next c.loop-next.invariant c.in_default.is))
