use Rattle.std.proofs.Common.{◌≡◌, ℕ, ◌+◌, ◌++◌, List, [], ◌∷◌, Some, None, refl, sym, ap, ◌∙◌, arith}
use Rattle.speculation.specs.declared.history.Entry.{Entry}
use Rattle.speculation.specs.declared.history.Entry.TheVariants as E
use Rattle.seniority_queue.specs.Listing.{Listing}
use Rattle.track_state.specs.Views.{view_of}
use Rattle.track_state.specs.declared.track.Track.{Track}
use Rattle.track_board.specs.declared.board.Board.TheInside.{Inside}
use Rattle.track_board.specs.declared.region.Region.{Region}
use Rattle.track_board.specs.Invariant.{view_of_board}
use Rattle.track_board.proofs.Judged.{oldest-is, oldest-some, original, original-is, original-away, original-within, row-made, oldest}
use Rattle.track_board.proofs.Keeps.{keep-view, keeps-alone, keeps-both, segment-within, popped-nodes}
use Rattle.track_board.proofs.Spared.{spared}
use Rattle.track_board.proofs.board.Board.keep.Goals as goal

pub unreachable-requires : goal.unreachable-requires
unreachable-requires c =
    let i = c.self.inside in
    let k = c.self.invariant.0 in
    let m : Inside = record i { ready = c.make_room.new.ready; rows = c.make_room.new.rows; entries = c.make_room.new.entries } in
    let h = spared i m k c.self.invariant.1 (record {
      ready = c.make_room.ensures.ready;
      rows = c.make_room.ensures.rows;
      nodes = refl;
      made = refl;
      entries = c.make_room.ensures.entries;
      capacity = c.make_room.ensures.capacity;
    }) in
    let seen : view_of_board m ≡ c.args.self.now = ap (λ (es : List Entry). record (view_of_board i) { entries = es }) c.make_room.ensures.entries ∙ c.self.view_is in
    oldest-some m k h c.args.self.now seen c.args.judgement c.requires.due (sym c.in_default.is ∙ c.pop_front.ensures.value)

pub unreachable-requires-in_default-normal : goal.unreachable-requires-in_default-normal
unreachable-requires-in_default-normal c =
    let i = c.self.inside in
    let k = c.self.invariant.0 in
    let m : Inside = record i { ready = c.make_room.new.ready; rows = c.make_room.new.rows; entries = c.make_room.new.entries } in
    let h = spared i m k c.self.invariant.1 (record {
      ready = c.make_room.ensures.ready;
      rows = c.make_room.ensures.rows;
      nodes = refl;
      made = refl;
      entries = c.make_room.ensures.entries;
      capacity = c.make_room.ensures.capacity;
    }) in
    let seen : view_of_board m ≡ c.args.self.now = ap (λ (es : List Entry). record (view_of_board i) { entries = es }) c.make_room.ensures.entries ∙ c.self.view_is in
    let region = oldest-is m k h c.args.self.now seen c.args.judgement c.requires.due c.in-Some.region c.in-Some.ensures.value in
    original-away m k h c.args.self.now seen c.args.judgement c.requires.due c.in-Some.region.normal c.in_default-normal.field-0 (ap (λ (r : Region). r.normal) region) c.in_default-normal.is

pub overflow_add-self : goal.overflow_add-self
overflow_add-self c =
    let i = c.self.inside in
    let k = c.self.invariant.0 in
    let m : Inside = record i { ready = c.make_room.new.ready; rows = c.make_room.new.rows; entries = c.make_room.new.entries } in
    let h = spared i m k c.self.invariant.1 (record {
      ready = c.make_room.ensures.ready;
      rows = c.make_room.ensures.rows;
      nodes = refl;
      made = refl;
      entries = c.make_room.ensures.entries;
      capacity = c.make_room.ensures.capacity;
    }) in
    let seen : view_of_board m ≡ c.args.self.now = ap (λ (es : List Entry). record (view_of_board i) { entries = es }) c.make_room.ensures.entries ∙ c.self.view_is in
    let region = oldest-is m k h c.args.self.now seen c.args.judgement c.requires.due c.in-Some.region c.in-Some.ensures.value in
    let same = original-is m k h c.args.self.now seen c.args.judgement c.requires.due c.in-Some.region.normal c.in-Home.normal (ap (λ (r : Region). r.normal) region) c.in-Home.is in
    let own : c.own-own.result ≡ (view_of (original m k h c.args.self.now seen c.args.judgement c.requires.due).track).own = c.own-own.ensures.own ∙ ap (λ (t : Track). (view_of t).own) same in
    let within = original-within m k h c.args.self.now seen c.args.judgement c.requires.due in
    let limit = h.limits.budget in
    omega arith

pub invariant_of-self-in-None : goal.invariant_of-self-in-None
invariant_of-self-in-None c =
    let i = c.self.inside in
    let k = c.self.invariant.0 in
    let m : Inside = record i { ready = c.make_room.new.ready; rows = c.make_room.new.rows; entries = c.make_room.new.entries } in
    let h = spared i m k c.self.invariant.1 (record {
      ready = c.make_room.ensures.ready;
      rows = c.make_room.ensures.rows;
      nodes = refl;
      made = refl;
      entries = c.make_room.ensures.entries;
      capacity = c.make_room.ensures.capacity;
    }) in
    let seen : view_of_board m ≡ c.args.self.now = ap (λ (es : List Entry). record (view_of_board i) { entries = es }) c.make_room.ensures.entries ∙ c.self.view_is in
    let region = oldest-is m k h c.args.self.now seen c.args.judgement c.requires.due c.in-Some.region c.in-Some.ensures.value in
    let same = original-is m k h c.args.self.now seen c.args.judgement c.requires.due c.in-Some.region.normal c.in-Home.normal (ap (λ (r : Region). r.normal) region) c.in-Home.is in
    let own : c.own-own.result ≡ (view_of (original m k h c.args.self.now seen c.args.judgement c.requires.due).track).own = c.own-own.ensures.own ∙ ap (λ (t : Track). (view_of t).own) same in
    let held = c.into_held.ensures ∙ ap (λ (t : Track). (view_of t).held) same in
    let segment : None ≡ (oldest m k h c.args.self.now seen c.args.judgement c.requires.due).node.value.segment = sym c.in-None.is ∙ ap (λ (r : Region). r.segment) region in
    let j : Inside = record m { base = i.base + c.own-own.result; ready = c.push_reserved-3.new.self; rows = c.push_reserved.new.self; regions = c.pop_front.new.self; entries = c.push_reserved-2.new.self } in
    let row_is = row-made m k h c.args.self.now seen c.args.judgement c.requires.due c.row_of.result c.len-number.result c.in-Home.normal c.len-number.ensures same c.row_of.ensures in (
      _,
      keeps-alone m k h c.args.self.now seen c.args.judgement c.requires.due c.requires.kept j c.row_of.result (record {
        entries = c.push_reserved-2.ensures.items ∙ ap (λ (n : ℕ). m.entries.items ++ (E.Keep n ∷ [])) c.len-number.ensures;
        len = c.push_reserved-2.ensures.len;
        room = omega (arith, c.in_ok-make_room.ensures.entry, c.len.ensures, c.push_reserved-2.ensures.capacity);
        capacity = omega (arith, c.push_reserved-2.ensures.capacity);
        row_is = row_is;
        rows = c.push_reserved.ensures.items;
        row_count = c.push_reserved.ensures.len;
        nodes = popped-nodes m k h c.args.self.now seen c.args.judgement c.requires.due c.pop_front.new.self c.pop_front.ensures.popped;
        made = ap (λ (q : Listing Region). q.made) c.pop_front.ensures.popped;
      }) c.own-own.result c.into_held.result segment own held refl c.push_reserved-3.ensures.items,
    )

pub returns-in-None : goal.returns-in-None
returns-in-None c =
    let i = c.self.inside in
    let k = c.self.invariant.0 in
    let m : Inside = record i { ready = c.make_room.new.ready; rows = c.make_room.new.rows; entries = c.make_room.new.entries } in
    let h = spared i m k c.self.invariant.1 (record {
      ready = c.make_room.ensures.ready;
      rows = c.make_room.ensures.rows;
      nodes = refl;
      made = refl;
      entries = c.make_room.ensures.entries;
      capacity = c.make_room.ensures.capacity;
    }) in
    let seen : view_of_board m ≡ c.args.self.now = ap (λ (es : List Entry). record (view_of_board i) { entries = es }) c.make_room.ensures.entries ∙ c.self.view_is in
    let region = oldest-is m k h c.args.self.now seen c.args.judgement c.requires.due c.in-Some.region c.in-Some.ensures.value in
    let same = original-is m k h c.args.self.now seen c.args.judgement c.requires.due c.in-Some.region.normal c.in-Home.normal (ap (λ (r : Region). r.normal) region) c.in-Home.is in
    let own : c.own-own.result ≡ (view_of (original m k h c.args.self.now seen c.args.judgement c.requires.due).track).own = c.own-own.ensures.own ∙ ap (λ (t : Track). (view_of t).own) same in
    let j : Inside = record m { base = i.base + c.own-own.result; ready = c.push_reserved-3.new.self; rows = c.push_reserved.new.self; regions = c.pop_front.new.self; entries = c.push_reserved-2.new.self } in
    let row_is = row-made m k h c.args.self.now seen c.args.judgement c.requires.due c.row_of.result c.len-number.result c.in-Home.normal c.len-number.ensures same c.row_of.ensures in
    keep-view m k h c.args.self.now seen c.args.judgement c.requires.due c.requires.kept j c.row_of.result (record {
      entries = c.push_reserved-2.ensures.items ∙ ap (λ (n : ℕ). m.entries.items ++ (E.Keep n ∷ [])) c.len-number.ensures;
      len = c.push_reserved-2.ensures.len;
      room = omega (arith, c.in_ok-make_room.ensures.entry, c.len.ensures, c.push_reserved-2.ensures.capacity);
      capacity = omega (arith, c.push_reserved-2.ensures.capacity);
      row_is = row_is;
      rows = c.push_reserved.ensures.items;
      row_count = c.push_reserved.ensures.len;
      nodes = popped-nodes m k h c.args.self.now seen c.args.judgement c.requires.due c.pop_front.new.self c.pop_front.ensures.popped;
      made = ap (λ (q : Listing Region). q.made) c.pop_front.ensures.popped;
    })

pub overflow_sub-limit : goal.overflow_sub-limit
overflow_sub-limit c =
    let i = c.self.inside in
    let k = c.self.invariant.0 in
    let m : Inside = record i { ready = c.make_room.new.ready; rows = c.make_room.new.rows; entries = c.make_room.new.entries } in
    let h = spared i m k c.self.invariant.1 (record {
      ready = c.make_room.ensures.ready;
      rows = c.make_room.ensures.rows;
      nodes = refl;
      made = refl;
      entries = c.make_room.ensures.entries;
      capacity = c.make_room.ensures.capacity;
    }) in
    let seen : view_of_board m ≡ c.args.self.now = ap (λ (es : List Entry). record (view_of_board i) { entries = es }) c.make_room.ensures.entries ∙ c.self.view_is in
    let region = oldest-is m k h c.args.self.now seen c.args.judgement c.requires.due c.in-Some.region c.in-Some.ensures.value in
    let same = original-is m k h c.args.self.now seen c.args.judgement c.requires.due c.in-Some.region.normal c.in-Home.normal (ap (λ (r : Region). r.normal) region) c.in-Home.is in
    let own : c.own-own.result ≡ (view_of (original m k h c.args.self.now seen c.args.judgement c.requires.due).track).own = c.own-own.ensures.own ∙ ap (λ (t : Track). (view_of t).own) same in
    let within = original-within m k h c.args.self.now seen c.args.judgement c.requires.due in
    omega arith

pub overflow_add-self-in-Some-segment : goal.overflow_add-self-in-Some-segment
overflow_add-self-in-Some-segment c =
    let i = c.self.inside in
    let k = c.self.invariant.0 in
    let m : Inside = record i { ready = c.make_room.new.ready; rows = c.make_room.new.rows; entries = c.make_room.new.entries } in
    let h = spared i m k c.self.invariant.1 (record {
      ready = c.make_room.ensures.ready;
      rows = c.make_room.ensures.rows;
      nodes = refl;
      made = refl;
      entries = c.make_room.ensures.entries;
      capacity = c.make_room.ensures.capacity;
    }) in
    let seen : view_of_board m ≡ c.args.self.now = ap (λ (es : List Entry). record (view_of_board i) { entries = es }) c.make_room.ensures.entries ∙ c.self.view_is in
    let region = oldest-is m k h c.args.self.now seen c.args.judgement c.requires.due c.in-Some.region c.in-Some.ensures.value in
    let same = original-is m k h c.args.self.now seen c.args.judgement c.requires.due c.in-Some.region.normal c.in-Home.normal (ap (λ (r : Region). r.normal) region) c.in-Home.is in
    let own : c.own-own.result ≡ (view_of (original m k h c.args.self.now seen c.args.judgement c.requires.due).track).own = c.own-own.ensures.own ∙ ap (λ (t : Track). (view_of t).own) same in
    let segment : Some c.in-Some-segment.segment ≡ (oldest m k h c.args.self.now seen c.args.judgement c.requires.due).node.value.segment = sym c.in-Some-segment.is ∙ ap (λ (r : Region). r.segment) region in
    let within = original-within m k h c.args.self.now seen c.args.judgement c.requires.due in
    let steps = segment-within m k h c.args.self.now seen c.args.judgement c.requires.due c.in-Some-segment.segment segment in
    let limit = h.limits.budget in
    omega arith

pub invariant_of-self-in-Some-segment : goal.invariant_of-self-in-Some-segment
invariant_of-self-in-Some-segment c =
    let i = c.self.inside in
    let k = c.self.invariant.0 in
    let m : Inside = record i { ready = c.make_room.new.ready; rows = c.make_room.new.rows; entries = c.make_room.new.entries } in
    let h = spared i m k c.self.invariant.1 (record {
      ready = c.make_room.ensures.ready;
      rows = c.make_room.ensures.rows;
      nodes = refl;
      made = refl;
      entries = c.make_room.ensures.entries;
      capacity = c.make_room.ensures.capacity;
    }) in
    let seen : view_of_board m ≡ c.args.self.now = ap (λ (es : List Entry). record (view_of_board i) { entries = es }) c.make_room.ensures.entries ∙ c.self.view_is in
    let region = oldest-is m k h c.args.self.now seen c.args.judgement c.requires.due c.in-Some.region c.in-Some.ensures.value in
    let same = original-is m k h c.args.self.now seen c.args.judgement c.requires.due c.in-Some.region.normal c.in-Home.normal (ap (λ (r : Region). r.normal) region) c.in-Home.is in
    let own : c.own-own.result ≡ (view_of (original m k h c.args.self.now seen c.args.judgement c.requires.due).track).own = c.own-own.ensures.own ∙ ap (λ (t : Track). (view_of t).own) same in
    let held = c.into_held.ensures ∙ ap (λ (t : Track). (view_of t).held) same in
    let segment : Some c.in-Some-segment.segment ≡ (oldest m k h c.args.self.now seen c.args.judgement c.requires.due).node.value.segment = sym c.in-Some-segment.is ∙ ap (λ (r : Region). r.segment) region in
    let j : Inside = record m { base = i.base + c.own-own.result + c.in-Some-segment.segment.steps; ready = c.push_reserved-in-Some-segment.new.self; rows = c.push_reserved.new.self; regions = c.pop_front.new.self; entries = c.push_reserved-2.new.self } in
    let row_is = row-made m k h c.args.self.now seen c.args.judgement c.requires.due c.row_of.result c.len-number.result c.in-Home.normal c.len-number.ensures same c.row_of.ensures in (
      _,
      keeps-both m k h c.args.self.now seen c.args.judgement c.requires.due c.requires.kept j c.row_of.result (record {
        entries = c.push_reserved-2.ensures.items ∙ ap (λ (n : ℕ). m.entries.items ++ (E.Keep n ∷ [])) c.len-number.ensures;
        len = c.push_reserved-2.ensures.len;
        room = omega (arith, c.in_ok-make_room.ensures.entry, c.len.ensures, c.push_reserved-2.ensures.capacity);
        capacity = omega (arith, c.push_reserved-2.ensures.capacity);
        row_is = row_is;
        rows = c.push_reserved.ensures.items;
        row_count = c.push_reserved.ensures.len;
        nodes = popped-nodes m k h c.args.self.now seen c.args.judgement c.requires.due c.pop_front.new.self c.pop_front.ensures.popped;
        made = ap (λ (q : Listing Region). q.made) c.pop_front.ensures.popped;
      }) c.own-own.result c.into_held.result c.in-Some-segment.segment c.push_reserved-3.new.self.items segment own held refl c.push_reserved-3.ensures.items c.push_reserved-in-Some-segment.ensures.items,
    )

pub returns : goal.returns
returns c =
    let i = c.self.inside in
    let k = c.self.invariant.0 in
    let m : Inside = record i { ready = c.make_room.new.ready; rows = c.make_room.new.rows; entries = c.make_room.new.entries } in
    let h = spared i m k c.self.invariant.1 (record {
      ready = c.make_room.ensures.ready;
      rows = c.make_room.ensures.rows;
      nodes = refl;
      made = refl;
      entries = c.make_room.ensures.entries;
      capacity = c.make_room.ensures.capacity;
    }) in
    let seen : view_of_board m ≡ c.args.self.now = ap (λ (es : List Entry). record (view_of_board i) { entries = es }) c.make_room.ensures.entries ∙ c.self.view_is in
    let region = oldest-is m k h c.args.self.now seen c.args.judgement c.requires.due c.in-Some.region c.in-Some.ensures.value in
    let same = original-is m k h c.args.self.now seen c.args.judgement c.requires.due c.in-Some.region.normal c.in-Home.normal (ap (λ (r : Region). r.normal) region) c.in-Home.is in
    let own : c.own-own.result ≡ (view_of (original m k h c.args.self.now seen c.args.judgement c.requires.due).track).own = c.own-own.ensures.own ∙ ap (λ (t : Track). (view_of t).own) same in
    let j : Inside = record m { base = i.base + c.own-own.result + c.in-Some-segment.segment.steps; ready = c.push_reserved-in-Some-segment.new.self; rows = c.push_reserved.new.self; regions = c.pop_front.new.self; entries = c.push_reserved-2.new.self } in
    let row_is = row-made m k h c.args.self.now seen c.args.judgement c.requires.due c.row_of.result c.len-number.result c.in-Home.normal c.len-number.ensures same c.row_of.ensures in
    keep-view m k h c.args.self.now seen c.args.judgement c.requires.due c.requires.kept j c.row_of.result (record {
      entries = c.push_reserved-2.ensures.items ∙ ap (λ (n : ℕ). m.entries.items ++ (E.Keep n ∷ [])) c.len-number.ensures;
      len = c.push_reserved-2.ensures.len;
      room = omega (arith, c.in_ok-make_room.ensures.entry, c.len.ensures, c.push_reserved-2.ensures.capacity);
      capacity = omega (arith, c.push_reserved-2.ensures.capacity);
      row_is = row_is;
      rows = c.push_reserved.ensures.items;
      row_count = c.push_reserved.ensures.len;
      nodes = popped-nodes m k h c.args.self.now seen c.args.judgement c.requires.due c.pop_front.new.self c.pop_front.ensures.popped;
      made = ap (λ (q : Listing Region). q.made) c.pop_front.ensures.popped;
    })
