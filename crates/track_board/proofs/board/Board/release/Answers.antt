use Rattle.std.proofs.Common.{◌≡◌, ℕ, List, [], refl, sym, ap, ◌∙◌, subst, arith}
use Rattle.speculation.specs.declared.history.Entry.{Entry}
use Rattle.speculation.specs.declared.history.Entry.TheVariants as E
use Rattle.track_board.specs.declared.board.Board.TheInside.{Inside}
use Rattle.track_board.specs.Parts.{ready_marks}
use Rattle.track_board.specs.Releasing.{FrontIsLeftOver}
use Rattle.track_board.specs.Value.{posted}
use Rattle.track_board.specs.Invariant.{view_of_board}
use Rattle.track_board.proofs.Foundation.{known, known-seen}
use Rattle.track_board.proofs.Releases.{ready-none, copied, counted, some-bytes, released-none, released-some, release-stands, release-view}
use Rattle.track_board.proofs.Spared.{spared, without_ready}
use Rattle.track_board.proofs.board.Board.release.Goals as goal

pub returns-in_err-bytes-clause-known : goal.returns-in_err-bytes-clause-known
returns-in_err-bytes-clause-known c =
    known-seen c.self.inside c.self.invariant.0 c.args.self.now c.self.invariant.1 c.self.view_is

pub returns-then-is_empty-clause-bytes : goal.returns-then-is_empty-clause-bytes
returns-then-is_empty-clause-bytes c =
    (copied c.self.inside c.self.invariant.0 c.self.invariant.1 c.args.self.now c.self.view_is c.in_ok-bytes.bytes c.deref.result.now c.saturating_sub-limit.result c.front.result.now c.in_ok-bytes.ensures c.deref.ensures.value c.saturating_sub-limit.ensures c.front.ensures, c.self.view_is ∙ released-none c.args.self.now c.in_ok-bytes.bytes (sym c.is_empty.ensures ∙ c.if-is_empty.true))

pub returns-then-is_empty-clause-known : goal.returns-then-is_empty-clause-known
returns-then-is_empty-clause-known c =
    let i = c.self.inside in
    let none : ready_marks i.ready.items ≡ [] = ready-none c.in_ok-bytes.bytes c.deref.result.now i.ready.items c.saturating_sub-limit.result c.front.result.now c.in_ok-bytes.ensures c.deref.ensures.value (sym c.is_empty.ensures ∙ c.if-is_empty.true) in
    known (record i { ready = c.clear.new.self }) c.self.invariant.0 (without_ready i c.self.invariant.0 c.clear.new.self c.self.invariant.1 none c.clear.ensures.items)

pub returns-in_err-reserve-clause-known : goal.returns-in_err-reserve-clause-known
returns-in_err-reserve-clause-known c =
    let i = c.self.inside in
    let k = c.self.invariant.0 in
    let m : Inside = record i { entries = c.reserve.new.self } in
    let h = spared i m k c.self.invariant.1 (record {
      ready = refl;
      rows = refl;
      nodes = refl;
      made = refl;
      entries = c.reserve.ensures.items;
      capacity = c.reserve.ensures.capacity;
    }) in
    known m k h

pub invariant_of-self-2 : goal.invariant_of-self-2
invariant_of-self-2 c =
    let i = c.self.inside in
    let k = c.self.invariant.0 in
    let m : Inside = record i { entries = c.reserve.new.self } in
    let h = spared i m k c.self.invariant.1 (record {
      ready = refl;
      rows = refl;
      nodes = refl;
      made = refl;
      entries = c.reserve.ensures.items;
      capacity = c.reserve.ensures.capacity;
    }) in
    let seen : view_of_board m ≡ c.args.self.now = ap (λ (es : List Entry). record (view_of_board i) { entries = es }) c.reserve.ensures.items ∙ c.self.view_is in
    let bytes = copied c.self.inside c.self.invariant.0 c.self.invariant.1 c.args.self.now c.self.view_is c.in_ok-bytes.bytes c.deref.result.now c.saturating_sub-limit.result c.front.result.now c.in_ok-bytes.ensures c.deref.ensures.value c.saturating_sub-limit.ensures c.front.ensures in
    let some = sym c.is_empty.ensures ∙ c.if-is_empty.false in
    let count = counted m k h c.args.self.now seen c.in_ok-bytes.bytes c.size.result bytes c.size.ensures in
    let low = some-bytes c.in_ok-bytes.bytes some in
    let j : Inside = record m { ready = c.clear-2.new.self; regions = c.discard_front.new.regions; lead = c.discard_front.new.lead; entries = c.push_reserved.new.self } in
    let left = subst (λ (n : ℕ). FrontIsLeftOver n i.regions.nodes i.lead j.regions.nodes j.lead) c.saturating_sub-limit.ensures c.discard_front.ensures.front in (
      _,
      release-stands m k h j c.size.result (record {
        entries = c.push_reserved.ensures.items;
        len = c.push_reserved.ensures.len;
        room = omega (arith, c.in_ok-reserve.ensures.ok, c.reserve.ensures.len, c.len.ensures, c.push_reserved.ensures.capacity);
        capacity = omega (arith, c.push_reserved.ensures.capacity);
        ready = c.clear-2.ensures.items;
        front = left;
        made = c.discard_front.ensures.made;
        count = count.1;
        some = omega (arith, count.0, low);
      }),
    )

pub returns-clause-bytes : goal.returns-clause-bytes
returns-clause-bytes c =
    let i = c.self.inside in
    let k = c.self.invariant.0 in
    let m : Inside = record i { entries = c.reserve.new.self } in
    let h = spared i m k c.self.invariant.1 (record {
      ready = refl;
      rows = refl;
      nodes = refl;
      made = refl;
      entries = c.reserve.ensures.items;
      capacity = c.reserve.ensures.capacity;
    }) in
    let seen : view_of_board m ≡ c.args.self.now = ap (λ (es : List Entry). record (view_of_board i) { entries = es }) c.reserve.ensures.items ∙ c.self.view_is in
    let bytes = copied c.self.inside c.self.invariant.0 c.self.invariant.1 c.args.self.now c.self.view_is c.in_ok-bytes.bytes c.deref.result.now c.saturating_sub-limit.result c.front.result.now c.in_ok-bytes.ensures c.deref.ensures.value c.saturating_sub-limit.ensures c.front.ensures in
    let some = sym c.is_empty.ensures ∙ c.if-is_empty.false in
    let count = counted m k h c.args.self.now seen c.in_ok-bytes.bytes c.size.result bytes c.size.ensures in
    let low = some-bytes c.in_ok-bytes.bytes some in
    let j : Inside = record m { ready = c.clear-2.new.self; regions = c.discard_front.new.regions; lead = c.discard_front.new.lead; entries = c.push_reserved.new.self } in
    let left = subst (λ (n : ℕ). FrontIsLeftOver n i.regions.nodes i.lead j.regions.nodes j.lead) c.saturating_sub-limit.ensures c.discard_front.ensures.front in (
      bytes,
      release-view m k h j c.size.result (record {
        entries = c.push_reserved.ensures.items;
        len = c.push_reserved.ensures.len;
        room = omega (arith, c.in_ok-reserve.ensures.ok, c.reserve.ensures.len, c.len.ensures, c.push_reserved.ensures.capacity);
        capacity = omega (arith, c.push_reserved.ensures.capacity);
        ready = c.clear-2.ensures.items;
        front = left;
        made = c.discard_front.ensures.made;
        count = count.1;
        some = omega (arith, count.0, low);
      }) c.args.self.now seen
          ∙ ap (λ (n : ℕ). posted c.args.self.now (E.Release n)) count.0 ∙ sym (released-some c.args.self.now c.in_ok-bytes.bytes some),
    )

pub returns-clause-known : goal.returns-clause-known
returns-clause-known c =
    let i = c.self.inside in
    let k = c.self.invariant.0 in
    let m : Inside = record i { entries = c.reserve.new.self } in
    let h = spared i m k c.self.invariant.1 (record {
      ready = refl;
      rows = refl;
      nodes = refl;
      made = refl;
      entries = c.reserve.ensures.items;
      capacity = c.reserve.ensures.capacity;
    }) in
    let seen : view_of_board m ≡ c.args.self.now = ap (λ (es : List Entry). record (view_of_board i) { entries = es }) c.reserve.ensures.items ∙ c.self.view_is in
    let bytes = copied c.self.inside c.self.invariant.0 c.self.invariant.1 c.args.self.now c.self.view_is c.in_ok-bytes.bytes c.deref.result.now c.saturating_sub-limit.result c.front.result.now c.in_ok-bytes.ensures c.deref.ensures.value c.saturating_sub-limit.ensures c.front.ensures in
    let some = sym c.is_empty.ensures ∙ c.if-is_empty.false in
    let count = counted m k h c.args.self.now seen c.in_ok-bytes.bytes c.size.result bytes c.size.ensures in
    let low = some-bytes c.in_ok-bytes.bytes some in
    let j : Inside = record m { ready = c.clear-2.new.self; regions = c.discard_front.new.regions; lead = c.discard_front.new.lead; entries = c.push_reserved.new.self } in
    let left = subst (λ (n : ℕ). FrontIsLeftOver n i.regions.nodes i.lead j.regions.nodes j.lead) c.saturating_sub-limit.ensures c.discard_front.ensures.front in
    known (record m { ready = c.clear-2.new.self; regions = c.discard_front.new.regions; lead = c.discard_front.new.lead; entries = c.push_reserved.new.self }) _ (release-stands m k h j c.size.result (record {
      entries = c.push_reserved.ensures.items;
      len = c.push_reserved.ensures.len;
      room = omega (arith, c.in_ok-reserve.ensures.ok, c.reserve.ensures.len, c.len.ensures, c.push_reserved.ensures.capacity);
      capacity = omega (arith, c.push_reserved.ensures.capacity);
      ready = c.clear-2.ensures.items;
      front = left;
      made = c.discard_front.ensures.made;
      count = count.1;
      some = omega (arith, count.0, low);
    }))
