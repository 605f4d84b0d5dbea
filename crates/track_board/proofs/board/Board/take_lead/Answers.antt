use Rattle.std.proofs.Common.{◌≡◌, ℕ, true, [], ◌∷◌, ◌++◌, Some, sym, ap, ◌∙◌, subst, arith}
use Rattle.speculation.specs.declared.history.Entry.TheVariants as E
use Rattle.speculation.specs.Core.{Track as CoreTrack, over, find_loan, find_track}
use Rattle.speculation.specs.Events.{run_on, slice}
use Rattle.guest_model.specs.MachineState.{MachineState}
use Rattle.track_board.specs.Value.{GuestCore, machine_of}
use Rattle.track_board.specs.Parts.{TrackStands}
use Rattle.track_board.specs.Invariant.{view_of_board, StandsFor}
use Rattle.track_board.specs.declared.board.Board.TheInside.{Inside}
use Rattle.track_board.specs.declared.slot.Slot.{Slot}
use Rattle.track_board.proofs.Foundation.{core-seen, known}
use Rattle.track_board.proofs.Gone.{EndsLoan}
use Rattle.track_board.proofs.Returned.{LiveLoan, ran-here, back-entry, lead-found, lead-count, lead_back, lead-stands}
use Rattle.track_board.proofs.board.Board.take_lead.Goals as goal

pub take_lent-requires : goal.take_lent-requires
take_lent-requires c =
    let h = c.self.invariant.1 in
    (c.requires.lent.0, ap (find_loan c.args.name) (h.fields.loans ∙ ap (λ (k : GuestCore). k.loans) (sym (core-seen c.self.inside c.self.invariant.0 c.args.self.now h c.self.view_is))) ∙ c.requires.lent.1)

pub put_home-count-requires : goal.put_home-count-requires
put_home-count-requires c =
    let i = c.self.inside in
    let k = c.self.invariant.0 in
    let h = c.self.invariant.1 in
    let seen = core-seen i k c.args.self.now h c.self.view_is in
    let loan : LiveLoan k c.args.name c.requires.lent.0 = record {
      found = ap (λ (d : GuestCore). find_loan c.args.name d.loans) (sym seen) ∙ c.requires.lent.1;
      undropped = c.requires.lent.2;
      live = ap over (sym seen) ∙ c.requires.live;
    } in
    let ran = ran-here i k c.args.self.now c.args.name c.requires.lent.0 c.args.track h c.self.view_is c.requires.ran loan in
    let count = lead-count i k c.args.name c.requires.lent.0 c.args.track h loan c.requires.lead ran in
    omega arith

-- the fields at the end
abbrev after : goal.After-push_reserved → Inside
after c = record c.self.inside { lead = c.put_home-count.new.slot; loans = c.take_lent.new.loans; entries = c.push_reserved.new.self }

live-loan : (c : goal.After-push_reserved) → LiveLoan c.self.invariant.0 c.args.name c.requires.lent.0
live-loan c =
    let seen = core-seen c.self.inside c.self.invariant.0 c.args.self.now c.self.invariant.1 c.self.view_is in record {
      found = ap (λ (d : GuestCore). find_loan c.args.name d.loans) (sym seen) ∙ c.requires.lent.1;
      undropped = c.requires.lent.2;
      live = ap over (sym seen) ∙ c.requires.live;
    }

has-run : (c : goal.After-push_reserved) (t : CoreTrack MachineState) → find_track c.self.invariant.0 c.args.name ≡ Some t
    → TrackStands c.self.inside.input.value c.self.inside.settings.budget c.args.track true (run_on (machine_of (view_of_board c.self.inside)) t (slice (machine_of (view_of_board c.self.inside)) c.self.inside.settings t))
has-run c = ran-here c.self.inside c.self.invariant.0 c.args.self.now c.args.name c.requires.lent.0 c.args.track c.self.invariant.1 c.self.view_is c.requires.ran (live-loan c)

abbrev slice-of_lead : goal.After-push_reserved → ℕ
slice-of_lead c = slice (machine_of (view_of_board c.self.inside)) c.self.inside.settings c.self.invariant.0.lead

items-after : (c : goal.After-push_reserved) → c.push_reserved.new.self.items ≡ c.self.inside.entries.items ++ (E.Back c.args.name (slice-of_lead c) ∷ [])
items-after c =
    let i = c.self.inside in
    let k = c.self.invariant.0 in
    let whole = lead-count i k c.args.name c.requires.lent.0 c.args.track c.self.invariant.1 (live-loan c) c.requires.lead (has-run c) in
    let count : c.put_home-count.result ≡ slice-of_lead c = (let difference = c.put_home-count.ensures.count in omega arith) in
    c.push_reserved.ensures.items ∙ ap (λ a. i.entries.items ++ (E.Back c.args.name a ∷ [])) count

stands-after : (c : goal.After-push_reserved)
    → StandsFor (after c) (lead_back c.self.inside c.self.invariant.0 c.args.name c.requires.lent.0 c.args.track c.self.invariant.1 (live-loan c) c.requires.lead (has-run c))
stands-after c =
    let i = c.self.inside in
    let k = c.self.invariant.0 in
    let ends : EndsLoan i (after c) c.args.name c.take_lent.result = record {
      found = c.take_lent.ensures.found;
      loans = c.take_lent.ensures.ended;
      keys = c.take_lent.ensures.place;
      fewer = c.take_lent.ensures.len;
      more = c.push_reserved.ensures.len;
      capacity = c.push_reserved.ensures.capacity;
    } in
    subst (λ (s : Slot). StandsFor (record (after c) { lead = s }) (lead_back i k c.args.name c.requires.lent.0 c.args.track c.self.invariant.1 (live-loan c) c.requires.lead (has-run c)))
    (sym c.put_home-count.ensures.slot)
    (lead-stands i k c.args.name c.requires.lent.0 c.args.track c.self.invariant.1 (live-loan c) c.requires.lead (has-run c) (after c) c.take_lent.result ends (items-after c))

pub invariant_of-self : goal.invariant_of-self
invariant_of-self c = (_, stands-after c)

pub returns-clause-entry : goal.returns-clause-entry
returns-clause-entry c =
    let i = c.self.inside in
    let k = c.self.invariant.0 in
    let found = lead-found i k c.args.name c.requires.lent.0 c.args.track c.self.invariant.1 (live-loan c) c.requires.lead (has-run c) in
    back-entry i k c.args.self.now c.args.name k.lead c.push_reserved.new.self.items c.self.invariant.1 c.self.view_is found.1 (items-after c)

pub returns-clause-known : goal.returns-clause-known
returns-clause-known c =
    known (after c) (lead_back c.self.inside c.self.invariant.0 c.args.name c.requires.lent.0 c.args.track c.self.invariant.1 (live-loan c) c.requires.lead (has-run c)) (stands-after c)
