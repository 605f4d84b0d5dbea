use Rattle.std.proofs.Common.{◌≡◌, ◌+◌, List, refl, ap, ◌∙◌, arith}
use Rattle.speculation.specs.declared.history.Entry.{Entry}
use Rattle.seniority_queue.specs.Listing.{Listing}
use Rattle.track_board.specs.declared.board.Board.TheInside.{Inside}
use Rattle.track_board.specs.declared.region.Region.{Region}
use Rattle.track_board.specs.Invariant.{view_of_board}
use Rattle.track_board.proofs.Spared.{spared, lead-again, bounds}
use Rattle.track_board.proofs.Forks.{fork-opens, fork-steps, fork-view, opens-first, opens-behind, youngest-live, set-same}
use Rattle.track_board.proofs.board.Board.fork.Goals as goal

pub reserve-requires : goal.reserve-requires
reserve-requires c = (let b = bounds c.self.inside c.self.invariant.0 c.self.invariant.1 in omega arith)

pub fork_lead-requires : goal.fork_lead-requires
fork_lead-requires c = fork-opens c.self.inside c.self.invariant.0 c.self.invariant.1 c.args.self.now c.self.view_is c.requires

pub invariant_of-self-in_err-forked : goal.invariant_of-self-in_err-forked
invariant_of-self-in_err-forked c =
    let i = c.self.inside in
    let k = c.self.invariant.0 in
    let j : Inside = record i { ready = c.make_room.new.ready; rows = c.make_room.new.rows; entries = c.make_room.new.entries; regions = c.reserve.new.self } in
    let h = spared i j k c.self.invariant.1 (record {
      ready = c.make_room.ensures.ready;
      rows = c.make_room.ensures.rows;
      nodes = ap (λ (q : Listing Region). q.nodes) c.in_ok-reserve.ensures.ok;
      made = ap (λ (q : Listing Region). q.made) c.in_ok-reserve.ensures.ok;
      entries = c.make_room.ensures.entries;
      capacity = c.make_room.ensures.capacity;
    }) in
    (k, lead-again j k c.fork_lead.new.lead h c.in_err-forked.ensures)

pub overflow_add-number : goal.overflow_add-number
overflow_add-number c = (let b = bounds c.self.inside c.self.invariant.0 c.self.invariant.1 in omega arith)

pub overflow_add-self : goal.overflow_add-self
overflow_add-self c =
    let i = c.self.inside in
    let steps = fork-steps i c.self.invariant.0 c.self.invariant.1 c.args.self.now c.self.view_is c.requires c.fork_lead.new.lead c.in_ok-forked.forked c.in_ok-forked.ensures in
    let b = bounds i c.self.invariant.0 c.self.invariant.1 in
    omega (arith, b.base, b.lead, steps)

pub invariant_of-self-in-None : goal.invariant_of-self-in-None
invariant_of-self-in-None c =
    let i = c.self.inside in
    let k = c.self.invariant.0 in
    let m : Inside = record i { ready = c.make_room.new.ready; rows = c.make_room.new.rows; entries = c.make_room.new.entries; regions = c.reserve.new.self } in
    let h = spared i m k c.self.invariant.1 (record {
      ready = c.make_room.ensures.ready;
      rows = c.make_room.ensures.rows;
      nodes = ap (λ (q : Listing Region). q.nodes) c.in_ok-reserve.ensures.ok;
      made = ap (λ (q : Listing Region). q.made) c.in_ok-reserve.ensures.ok;
      entries = c.make_room.ensures.entries;
      capacity = c.make_room.ensures.capacity;
    }) in
    let seen : view_of_board m ≡ c.args.self.now = ap (λ (es : List Entry). record (view_of_board i) { entries = es }) c.make_room.ensures.entries ∙ c.self.view_is in
    let f = c.in_ok-forked.forked in
    let j : Inside = record m { base = i.base + f.steps; ready = c.push_reserved-in-None.new.self; last = i.last + 1; regions = c.push_back.new.self; lead = c.fork_lead.new.lead; entries = c.push_reserved.new.self } in (
      _,
      opens-first m k h c.args.self.now seen c.requires j f (record {
        entries = c.push_reserved.ensures.items;
        len = c.push_reserved.ensures.len;
        room = omega (arith, c.in_ok-make_room.ensures.entry, c.len.ensures, c.push_reserved.ensures.capacity);
        capacity = omega (arith, c.push_reserved.ensures.capacity);
        last = refl;
        lead = c.in_ok-forked.ensures;
      }) c.push_back.result _ c.in-None.ensures.key refl c.push_back.ensures.pushed c.push_reserved-in-None.ensures.items refl,
    )

pub set_segment-requires : goal.set_segment-requires
set_segment-requires c = youngest-live c.reserve.new.self c.in-Some.youngest c.in-Some.ensures.sound c.in-Some.ensures.key

pub push_back-requires-in-Some-clause-spare : goal.push_back-requires-in-Some-clause-spare
push_back-requires-in-Some-clause-spare c =
    let same = set-same c.reserve.new.self c.set_segment.new.regions c.in-Some.youngest _ c.in-Some.ensures.sound c.in-Some.ensures.key c.set_segment.ensures in
    omega (arith, same.0, ap (λ (q : Listing Region). q.spare) c.in_ok-reserve.ensures.ok)

pub push_back-requires-in-Some-clause-made : goal.push_back-requires-in-Some-clause-made
push_back-requires-in-Some-clause-made c =
    let same = set-same c.reserve.new.self c.set_segment.new.regions c.in-Some.youngest _ c.in-Some.ensures.sound c.in-Some.ensures.key c.set_segment.ensures in
    let b = bounds c.self.inside c.self.invariant.0 c.self.invariant.1 in
    omega (arith, same.1, ap (λ (q : Listing Region). q.made) c.in_ok-reserve.ensures.ok, b.made)

pub invariant_of-self-in-Some : goal.invariant_of-self-in-Some
invariant_of-self-in-Some c =
    let i = c.self.inside in
    let k = c.self.invariant.0 in
    let m : Inside = record i { ready = c.make_room.new.ready; rows = c.make_room.new.rows; entries = c.make_room.new.entries; regions = c.reserve.new.self } in
    let h = spared i m k c.self.invariant.1 (record {
      ready = c.make_room.ensures.ready;
      rows = c.make_room.ensures.rows;
      nodes = ap (λ (q : Listing Region). q.nodes) c.in_ok-reserve.ensures.ok;
      made = ap (λ (q : Listing Region). q.made) c.in_ok-reserve.ensures.ok;
      entries = c.make_room.ensures.entries;
      capacity = c.make_room.ensures.capacity;
    }) in
    let seen : view_of_board m ≡ c.args.self.now = ap (λ (es : List Entry). record (view_of_board i) { entries = es }) c.make_room.ensures.entries ∙ c.self.view_is in
    let f = c.in_ok-forked.forked in
    let j : Inside = record m { last = i.last + 1; regions = c.push_back-in-Some.new.self; lead = c.fork_lead.new.lead; entries = c.push_reserved.new.self } in (
      _,
      opens-behind m k h c.args.self.now seen c.requires j f (record {
        entries = c.push_reserved.ensures.items;
        len = c.push_reserved.ensures.len;
        room = omega (arith, c.in_ok-make_room.ensures.entry, c.len.ensures, c.push_reserved.ensures.capacity);
        capacity = omega (arith, c.push_reserved.ensures.capacity);
        last = refl;
        lead = c.in_ok-forked.ensures;
      }) c.set_segment.new.regions c.in-Some.youngest c.push_back-in-Some.result _ _ c.in-Some.ensures.sound c.in-Some.ensures.key c.set_segment.ensures refl refl c.push_back-in-Some.ensures.pushed refl refl,
    )

pub returns-in-None : goal.returns-in-None
returns-in-None c =
    let i = c.self.inside in
    let k = c.self.invariant.0 in
    let m : Inside = record i { ready = c.make_room.new.ready; rows = c.make_room.new.rows; entries = c.make_room.new.entries; regions = c.reserve.new.self } in
    let h = spared i m k c.self.invariant.1 (record {
      ready = c.make_room.ensures.ready;
      rows = c.make_room.ensures.rows;
      nodes = ap (λ (q : Listing Region). q.nodes) c.in_ok-reserve.ensures.ok;
      made = ap (λ (q : Listing Region). q.made) c.in_ok-reserve.ensures.ok;
      entries = c.make_room.ensures.entries;
      capacity = c.make_room.ensures.capacity;
    }) in
    let seen : view_of_board m ≡ c.args.self.now = ap (λ (es : List Entry). record (view_of_board i) { entries = es }) c.make_room.ensures.entries ∙ c.self.view_is in
    let f = c.in_ok-forked.forked in
    let j : Inside = record m { base = i.base + f.steps; ready = c.push_reserved-in-None.new.self; last = i.last + 1; regions = c.push_back.new.self; lead = c.fork_lead.new.lead; entries = c.push_reserved.new.self } in
    fork-view m k h c.args.self.now seen c.requires j f (record {
      entries = c.push_reserved.ensures.items;
      len = c.push_reserved.ensures.len;
      room = omega (arith, c.in_ok-make_room.ensures.entry, c.len.ensures, c.push_reserved.ensures.capacity);
      capacity = omega (arith, c.push_reserved.ensures.capacity);
      last = refl;
      lead = c.in_ok-forked.ensures;
    })

pub returns-in-Some : goal.returns-in-Some
returns-in-Some c =
    let i = c.self.inside in
    let k = c.self.invariant.0 in
    let m : Inside = record i { ready = c.make_room.new.ready; rows = c.make_room.new.rows; entries = c.make_room.new.entries; regions = c.reserve.new.self } in
    let h = spared i m k c.self.invariant.1 (record {
      ready = c.make_room.ensures.ready;
      rows = c.make_room.ensures.rows;
      nodes = ap (λ (q : Listing Region). q.nodes) c.in_ok-reserve.ensures.ok;
      made = ap (λ (q : Listing Region). q.made) c.in_ok-reserve.ensures.ok;
      entries = c.make_room.ensures.entries;
      capacity = c.make_room.ensures.capacity;
    }) in
    let seen : view_of_board m ≡ c.args.self.now = ap (λ (es : List Entry). record (view_of_board i) { entries = es }) c.make_room.ensures.entries ∙ c.self.view_is in
    let f = c.in_ok-forked.forked in
    let j : Inside = record m { last = i.last + 1; regions = c.push_back-in-Some.new.self; lead = c.fork_lead.new.lead; entries = c.push_reserved.new.self } in
    fork-view m k h c.args.self.now seen c.requires j f (record {
      entries = c.push_reserved.ensures.items;
      len = c.push_reserved.ensures.len;
      room = omega (arith, c.in_ok-make_room.ensures.entry, c.len.ensures, c.push_reserved.ensures.capacity);
      capacity = omega (arith, c.push_reserved.ensures.capacity);
      last = refl;
      lead = c.in_ok-forked.ensures;
    })
