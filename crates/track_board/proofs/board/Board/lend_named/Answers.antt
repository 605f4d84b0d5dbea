use Rattle.std.proofs.Common.{◌≡◌, List, ◌∷◌, [], ◌++◌, None, true, refl, sym, ap, ◌∙◌, arith}
use Rattle.speculation.specs.declared.history.Entry.{Entry}
use Rattle.speculation.specs.declared.history.Entry.TheVariants as E
use Rattle.speculation.specs.Events.{lendable}
use Rattle.speculation_law.proofs.Happens.{lent_core}
use Rattle.speculation_law.proofs.Lending.{lendable-true}
use Rattle.guest_model.specs.Rv32.{rv32}
use Rattle.track_board.specs.declared.board.Board.TheInside.{Inside}
use Rattle.track_board.specs.declared.loan.Lent.{Lent}
use Rattle.track_board.proofs.Foundation.{known}
use Rattle.track_board.proofs.LendTests.{lend-seen}
use Rattle.track_board.proofs.Lends.{IsLending, lend-home, lent-stands, lent-is}
use Rattle.track_board.proofs.board.Board.lend_named.Goals as goal

can-lend : (c : goal.After-push_reserved-2) → lendable (rv32 c.self.inside.input.value) c.self.inside.settings c.self.invariant.0 c.args.name ≡ true
can-lend c = lend-seen c.self.inside c.self.invariant.0 c.args.self.now c.self.invariant.1 c.self.view_is c.args.name ∙ sym c.if-not-is_lendable.ensures.lendable

-- the fields at the end
abbrev after : goal.After-push_reserved-2 → Inside
after c = record c.self.inside { regions = c.take_out-track.new.regions; lead = c.take_out-track.new.lead; loans = c.push_reserved.new.self; entries = c.push_reserved-2.new.self }

lending : (c : goal.After-push_reserved-2) → IsLending c.self.inside (after c) c.args.seat c.args.name c.take_out-track.result.0 c.take_out-track.result.1
lending c = record {
  out = c.take_out-track.ensures.out;
  loans = c.push_reserved.ensures.items ∙ ap (λ (ls : List Lent). ls ++ (record { seat = c.args.seat; name = c.args.name; key = c.take_out-track.result.1; dropped = None } ∷ [])) c.make_room.ensures.loans;
  count = omega (arith, c.push_reserved.ensures.len, c.make_room.ensures.count);
  pushed = record {
    items = c.push_reserved-2.ensures.items ∙ ap (λ (es : List Entry). es ++ (E.Lend c.args.seat c.args.name ∷ [])) c.make_room.ensures.entries;
    len = omega (arith, c.push_reserved-2.ensures.len, c.make_room.ensures.len);
    capacity = omega (arith, c.push_reserved-2.ensures.capacity, c.make_room.ensures.capacity);
  };
  room = omega (arith, c.in_ok-make_room.ensures.room, c.push_reserved-2.ensures.capacity);
}

pub take_out-track-requires : goal.take_out-track-requires
take_out-track-requires c =
    let i = c.self.inside in
    let k = c.self.invariant.0 in
    let h = c.self.invariant.1 in
    let may : lendable (rv32 i.input.value) i.settings k c.args.name ≡ true = lend-seen i k c.args.self.now h c.self.view_is c.args.name ∙ sym c.if-not-is_lendable.ensures.lendable in
    let can = lendable-true (rv32 i.input.value) i.settings k c.args.name may in
    lend-home i k c.args.name can.track h can.is

pub invariant_of-self-2 : goal.invariant_of-self-2
invariant_of-self-2 c =
    let i = c.self.inside in
    let k = c.self.invariant.0 in
    let can = lendable-true (rv32 i.input.value) i.settings k c.args.name (can-lend c) in
    (_, lent-stands i k c.args.name can.track c.self.invariant.1 can.is (after c) c.args.seat c.take_out-track.result.0 c.take_out-track.result.1 (lending c) (can-lend c))

pub returns-clause-loan : goal.returns-clause-loan
returns-clause-loan c =
    let i = c.self.inside in
    let k = c.self.invariant.0 in
    let can = lendable-true (rv32 i.input.value) i.settings k c.args.name (can-lend c) in (
      lent-is i k c.args.name can.track c.self.invariant.1 can.is (after c) c.args.seat c.take_out-track.result.0 c.take_out-track.result.1 (lending c) c.args.self.now _ c.self.view_is (can-lend c)
          refl refl c.in_ok-input.ensures c.take_out-track.ensures.within,
      refl,
    )

pub returns-clause-known : goal.returns-clause-known
returns-clause-known c =
    let i = c.self.inside in
    let k = c.self.invariant.0 in
    let can = lendable-true (rv32 i.input.value) i.settings k c.args.name (can-lend c) in
    known (after c) (lent_core k c.args.seat c.args.name)
    (lent-stands i k c.args.name can.track c.self.invariant.1 can.is (after c) c.args.seat c.take_out-track.result.0 c.take_out-track.result.1 (lending c) (can-lend c))
