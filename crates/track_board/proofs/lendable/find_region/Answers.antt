use Rattle.std.proofs.Common.{◌<◌, Option, option_map, nat_eq, sym, ap, subst, eq-eqb, ne_eqb}
use Rattle.seniority_queue.specs.Listing.{LiveNode}
use Rattle.seniority_queue.specs.declared.key.Key.{Key}
use Rattle.track_board.specs.declared.region.Region.{Region}
use Rattle.track_board.proofs.Walks.{SoughtFrom, names_left, sought-key, sought-next, sought-fewer, sought-none}
use Rattle.track_board.proofs.lendable.find_region.Goals as goal

pub returns-then-region-number : goal.returns-then-region-number
returns-then-region-number c =
    let r = c.in_ok-region.region.now in
    sym (sought-key c.args.regions.now (λ (x : Region). nat_eq c.args.number x.number) c.get.ensures.sound c.loop-at.at c.in-Some.key c.loop-at.invariant c.in-Some.is r c.in_ok-region.ensures.value
    (eq-eqb c.args.number r.number (sym c.if-region-number.true)))

pub loop-at-smaller : goal.loop-at-smaller
loop-at-smaller c =
    let q = c.args.regions.now in
    subst (λ (o : Option Key). names_left q.made o < names_left q.made c.loop-at.at) (sym c.after-at.ensures.key)
    (sought-fewer q (λ (x : Region). nat_eq c.args.number x.number) c.get.ensures.sound c.loop-at.at c.in-Some.key c.loop-at.invariant c.in-Some.is)

pub loop-at-preserved : goal.loop-at-preserved
loop-at-preserved c =
    let q = c.args.regions.now in
    let r = c.in_ok-region.region.now in
    subst (SoughtFrom q (λ (x : Region). nat_eq c.args.number x.number)) (sym c.after-at.ensures.key)
    (sought-next q (λ (x : Region). nat_eq c.args.number x.number) c.get.ensures.sound c.loop-at.at c.in-Some.key c.loop-at.invariant c.in-Some.is r c.in_ok-region.ensures.value
    (ne_eqb c.args.number r.number (λ same. c.if-region-number.false (sym same))))

pub returns : goal.returns
returns c = sym (ap (option_map (λ (n : LiveNode Region). n.key)) (sought-none c.args.regions.now (λ (x : Region). nat_eq c.args.number x.number) c.loop-at.at c.loop-at.invariant c.in_default.is))
