use Rattle.std.proofs.Common.{◌≡◌, ◌⊎◌, inl, inr, ℕ, true, Bool, Some, is_some, sym, ap, ◌∙◌, subst}
use Rattle.speculation.specs.Core.{over, find_loan}
use Rattle.speculation.specs.Events.{gone_live}
use Rattle.track_board.specs.Value.{GuestCore, core_of}
use Rattle.track_board.specs.Parts.{core_loan}
use Rattle.track_board.specs.Loans.{halted_by, WasDropped}
use Rattle.track_board.specs.Invariant.{view_of_board, StandsFor}
use Rattle.track_board.specs.declared.board.Board.TheInside.{Inside}
use Rattle.track_board.proofs.Foundation.{core-seen, core-stood, known}
use Rattle.track_board.proofs.Gone.{EndsLoan, found-core, gone-stands, gone-ends}
use Rattle.track_board.proofs.board.Board.end_loan.Goals as goal

pub take_lent-lent-requires : goal.take_lent-lent-requires
take_lent-lent-requires c =
    let h = c.self.invariant.1 in
    (c.requires.0, ap (find_loan c.args.name) (h.fields.loans ∙ ap (λ (k : GuestCore). k.loans) (sym (core-seen c.self.inside c.self.invariant.0 c.args.self.now h c.self.view_is))) ∙ c.requires.1)

-- the fields at the end
abbrev after : goal.After-push_reserved → Inside
after c = record c.self.inside { loans = c.take_lent-lent.new.loans; halted = c.is_halted_by-self-inside.result; entries = c.push_reserved.new.self }

ends : (c : goal.After-push_reserved) → EndsLoan c.self.inside (after c) c.args.name c.take_lent-lent.result
ends c = record {
  found = c.take_lent-lent.ensures.found;
  loans = c.take_lent-lent.ensures.ended;
  keys = c.take_lent-lent.ensures.place;
  fewer = c.take_lent-lent.ensures.len;
  more = c.push_reserved.ensures.len;
  capacity = c.push_reserved.ensures.capacity;
}

stands-after : (c : goal.After-push_reserved) → StandsFor (after c) (gone_live c.self.invariant.0 c.args.name c.take_lent-lent.result.dropped)
stands-after c =
    let i = c.self.inside in
    let k = c.self.invariant.0 in
    let l = c.take_lent-lent.result in
    let halted : c.is_halted_by-self-inside.result ≡ halted_by l.dropped (is_some i.finish) i.halted
    = c.is_halted_by-self-inside.ensures ∙ ap (λ (t : Bool). halted_by l.dropped t i.halted) c.is_some.ensures in
    subst (λ (t : Bool). StandsFor (record (after c) { halted = t }) (gone_live k c.args.name l.dropped)) (sym halted)
    (gone-stands i (after c) k c.args.name l c.self.invariant.1 (ends c) c.push_reserved.ensures.items)

pub invariant_of-self : goal.invariant_of-self
invariant_of-self c = (_, stands-after c)

ends-by : (c : goal.After-push_reserved) → (over (gone_live c.self.invariant.0 c.args.name c.take_lent-lent.result.dropped) ≡ true) ⊎ ((row : ℕ) × (c.take_lent-lent.result.dropped ≡ Some row))
    → (over (core_of (view_of_board (after c))) ≡ true) ⊎ WasDropped c.args.self.now c.args.name
ends-by c (inl over_now) = inl (ap over (core-stood (after c) (gone_live c.self.invariant.0 c.args.name c.take_lent-lent.result.dropped) (stands-after c)) ∙ over_now)
ends-by c (inr dropped) =
    let i = c.self.inside in
    let k = c.self.invariant.0 in
    let h = c.self.invariant.1 in
    let seen : core_of c.args.self.now ≡ k = core-seen i k c.args.self.now h c.self.view_is in
    inr (core_loan c.take_lent-lent.result, ap (λ (d : GuestCore). find_loan c.args.name d.loans) seen ∙ found-core i (after c) k c.args.name c.take_lent-lent.result h (ends c), dropped)

pub returns-clause-over : goal.returns-clause-over
returns-clause-over c = ends-by c (gone-ends c.self.inside (after c) c.self.invariant.0 c.args.name c.take_lent-lent.result c.self.invariant.1 (ends c))

pub returns-clause-known : goal.returns-clause-known
returns-clause-known c = known (after c) (gone_live c.self.invariant.0 c.args.name c.take_lent-lent.result.dropped) (stands-after c)
