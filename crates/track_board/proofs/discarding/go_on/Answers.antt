use Rattle.std.proofs.Common.{◌≡◌, refl, sym, ◌∙◌, subst}
use Rattle.std.specs.Prelude.{MatchResult}
use Rattle.std.proofs.lemmas.Option.{same_Some}
use Rattle.seniority_queue.specs.Listing.{with_value}
use Rattle.track_board.specs.declared.region.Region.{Region}
use Rattle.track_board.specs.declared.slot.Slot.{Slot}
use Rattle.track_board.specs.declared.slot.Slot.TheVariants.{Home}
use Rattle.track_board.specs.Crossing.{SameHome}
use Rattle.track_board.specs.Discarding.{SlotGoesOn}
use Rattle.track_board.proofs.discarding.go_on.Goals as goal

pub returns : goal.returns
returns c = λ r found.
    (let q = c.args.regions.now in
    let was = c.in-Some.region.now in
    let same : was ≡ r = same_Some was r (c.in-Some.ensures.value ∙ found) in
    let new : Slot = Home c.go_on.new.self in
    subst (λ (x : Region). (s : Slot) × (with_value q c.args.key (record was { normal = new }) ≡ with_value q c.args.key (record x { normal = s }))
    × MatchResult c.go_on.result (SlotGoesOn x.normal s) (λ _. SameHome x.normal s)) same
    (new, refl, subst (λ (x : Slot). MatchResult c.go_on.result (SlotGoesOn x new) (λ _. SameHome x new)) (sym c.in-Home.is) c.go_on.ensures))
