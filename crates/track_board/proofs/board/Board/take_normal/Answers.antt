use Rattle.std.proofs.Common.{◌≡◌, ℕ, true, [], ◌∷◌, ◌++◌, Some, sym, ap, ◌∙◌, arith}
use Rattle.std.proofs.lemmas.Option.{same_Some}
use Rattle.speculation.specs.declared.history.Entry.TheVariants as E
use Rattle.speculation.specs.Core.{Track as CoreTrack, find_loan, find_track}
use Rattle.speculation.specs.Events.{run_on, slice}
use Rattle.guest_model.specs.MachineState.{MachineState}
use Rattle.seniority_queue.specs.Listing.{with_value}
use Rattle.track_board.specs.Value.{GuestCore, machine_of}
use Rattle.track_board.specs.Parts.{TrackStands, core_loan, away_own}
use Rattle.track_board.specs.Invariant.{view_of_board, StandsFor}
use Rattle.track_board.specs.declared.board.Board.TheInside.{Inside}
use Rattle.track_board.specs.declared.region.Region.{Region}
use Rattle.track_board.specs.declared.slot.Slot.TheVariants.{Home}
use Rattle.track_board.proofs.Foundation.{core-seen, known}
use Rattle.track_board.proofs.Gone.{EndsLoan}
use Rattle.track_board.proofs.Returned.{LiveLoan, live-taken, ran-here, back-entry}
use Rattle.track_board.proofs.ReturnedNormal.{LoanRegion, loan-region, original-of, key-finds, normal_slice, normal_back, normal-count, normal-stands}
use Rattle.track_board.proofs.board.Board.take_normal.Goals as goal

pub take_lent-lent-requires : goal.take_lent-lent-requires
take_lent-lent-requires c =
    let h = c.self.invariant.1 in
    (c.requires.lent.0, ap (find_loan c.args.name) (h.fields.loans ∙ ap (λ (k : GuestCore). k.loans) (sym (core-seen c.self.inside c.self.invariant.0 c.args.self.now h c.self.view_is))) ∙ c.requires.lent.1)

pub unreachable-requires : goal.unreachable-requires
unreachable-requires c =
    let i = c.self.inside in
    let k = c.self.invariant.0 in
    let h = c.self.invariant.1 in
    let l = c.take_lent-lent.result in
    let loan = live-taken i k c.args.self.now c.args.name l c.requires.lent.0 h c.self.view_is c.take_lent-lent.ensures.found c.requires.lent.1 c.requires.lent.2 c.requires.live in
    let ran = ran-here i k c.args.self.now c.args.name (core_loan l) c.args.track h c.self.view_is c.requires.ran loan in
    let finds = key-finds i k c.args.name l c.args.track h loan c.requires.normal ran c.take_lent-lent.ensures.place.0 c.take_lent-lent.ensures.place.1 in
    c.in_default.not-Some finds.key finds.given

pub put_normal-count-requires : goal.put_normal-count-requires
put_normal-count-requires c =
    let i = c.self.inside in
    let k = c.self.invariant.0 in
    let h = c.self.invariant.1 in
    let l = c.take_lent-lent.result in
    let loan = live-taken i k c.args.self.now c.args.name l c.requires.lent.0 h c.self.view_is c.take_lent-lent.ensures.found c.requires.lent.1 c.requires.lent.2 c.requires.live in
    let ran = ran-here i k c.args.self.now c.args.name (core_loan l) c.args.track h c.self.view_is c.requires.ran loan in
    let finds = key-finds i k c.args.name l c.args.track h loan c.requires.normal ran c.take_lent-lent.ensures.place.0 c.take_lent-lent.ensures.place.1 in
    let at = loan-region i l.key c.in-Some.key c.args.name finds c.in-Some.is in
    let count = normal-count i k c.args.name l c.args.track h loan c.requires.normal ran c.in-Some.key at.region at.found at.number in
    (at.region, at.found, omega arith)

-- the fields at the end
abbrev after : goal.After-push_reserved → Inside
after c = record c.self.inside { regions = c.put_normal-count.new.regions; loans = c.take_lent-lent.new.loans; entries = c.push_reserved.new.self }

live-loan : (c : goal.After-push_reserved) → LiveLoan c.self.invariant.0 c.args.name (core_loan c.take_lent-lent.result)
live-loan c =
    live-taken c.self.inside c.self.invariant.0 c.args.self.now c.args.name c.take_lent-lent.result c.requires.lent.0 c.self.invariant.1 c.self.view_is
    c.take_lent-lent.ensures.found c.requires.lent.1 c.requires.lent.2 c.requires.live

has-run : (c : goal.After-push_reserved) (t : CoreTrack MachineState) → find_track c.self.invariant.0 c.args.name ≡ Some t
    → TrackStands c.self.inside.input.value c.self.inside.settings.budget c.args.track true (run_on (machine_of (view_of_board c.self.inside)) t (slice (machine_of (view_of_board c.self.inside)) c.self.inside.settings t))
has-run c = ran-here c.self.inside c.self.invariant.0 c.args.self.now c.args.name (core_loan c.take_lent-lent.result) c.args.track c.self.invariant.1 c.self.view_is c.requires.ran (live-loan c)

-- the core at the end, and how many instructions the track took
abbrev core-after : goal.After-push_reserved → GuestCore
core-after c = normal_back c.self.inside c.self.invariant.0 c.args.name c.take_lent-lent.result c.args.track c.self.invariant.1 (live-loan c) c.requires.normal (has-run c)

abbrev slice-taken : goal.After-push_reserved → ℕ
slice-taken c = normal_slice c.self.inside c.self.invariant.0 c.args.name c.take_lent-lent.result c.args.track c.self.invariant.1 (live-loan c) c.requires.normal (has-run c)

region-of : (c : goal.After-push_reserved) → LoanRegion c.self.inside c.in-Some.key c.args.name
region-of c =
    let finds = key-finds c.self.inside c.self.invariant.0 c.args.name c.take_lent-lent.result c.args.track c.self.invariant.1 (live-loan c) c.requires.normal (has-run c) c.take_lent-lent.ensures.place.0 c.take_lent-lent.ensures.place.1 in
    loan-region c.self.inside c.take_lent-lent.result.key c.in-Some.key c.args.name finds c.in-Some.is

-- the region that was changed is that of the loan
same-region : (c : goal.After-push_reserved) → c.put_normal-count.ensures.put.0 ≡ (region-of c).region
same-region c = same_Some c.put_normal-count.ensures.put.0 (region-of c).region (sym c.put_normal-count.ensures.put.1 ∙ (region-of c).found)

items-after : (c : goal.After-push_reserved) → c.push_reserved.new.self.items ≡ c.self.inside.entries.items ++ (E.Back c.args.name (slice-taken c) ∷ [])
items-after c =
    let at = region-of c in
    let whole = normal-count c.self.inside c.self.invariant.0 c.args.name c.take_lent-lent.result c.args.track c.self.invariant.1 (live-loan c) c.requires.normal (has-run c) c.in-Some.key at.region at.found at.number in
    let before : away_own c.put_normal-count.ensures.put.0.normal ≡ away_own at.region.normal = ap (λ (r : Region). away_own r.normal) (same-region c) in
    let count : c.put_normal-count.result ≡ slice-taken c = (let difference = c.put_normal-count.ensures.put.3 in omega arith) in
    c.push_reserved.ensures.items ∙ ap (λ a. c.self.inside.entries.items ++ (E.Back c.args.name a ∷ [])) count

stands-after : (c : goal.After-push_reserved) → StandsFor (after c) (core-after c)
stands-after c =
    let i = c.self.inside in
    let at = region-of c in
    let ends : EndsLoan i (after c) c.args.name c.take_lent-lent.result = record {
      found = c.take_lent-lent.ensures.found;
      loans = c.take_lent-lent.ensures.ended;
      keys = c.take_lent-lent.ensures.place;
      fewer = c.take_lent-lent.ensures.len;
      more = c.push_reserved.ensures.len;
      capacity = c.push_reserved.ensures.capacity;
    } in
    let put : c.put_normal-count.new.regions ≡ with_value i.regions c.in-Some.key (record at.region { normal = Home c.args.track })
    = c.put_normal-count.ensures.put.2 ∙ ap (λ (r : Region). with_value i.regions c.in-Some.key (record r { normal = Home c.args.track })) (same-region c) in
    normal-stands i c.self.invariant.0 c.args.name c.take_lent-lent.result c.args.track c.self.invariant.1 (live-loan c) c.requires.normal (has-run c)
    c.in-Some.key at.region at.found at.number (after c) ends c.put_normal-count.ensures.sound put (items-after c)

pub invariant_of-self : goal.invariant_of-self
invariant_of-self c = (_, stands-after c)

pub returns-clause-entry : goal.returns-clause-entry
returns-clause-entry c =
    let track = original-of c.self.inside c.self.invariant.0 c.args.name c.take_lent-lent.result c.args.track c.self.invariant.1 (live-loan c) c.requires.normal (has-run c) in
    back-entry c.self.inside c.self.invariant.0 c.args.self.now c.args.name track.0 c.push_reserved.new.self.items c.self.invariant.1 c.self.view_is track.1.track (items-after c)

pub returns-clause-known : goal.returns-clause-known
returns-clause-known c = known (after c) (core-after c) (stands-after c)
