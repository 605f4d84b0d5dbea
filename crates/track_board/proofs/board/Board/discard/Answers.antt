use Rattle.std.proofs.Common.{◌≡◌, ℕ, ◌+◌, ◌++◌, List, [], ◌∷◌, map, refl, sym, ap, ◌∙◌, arith}
use Rattle.std.proofs.lemmas.Option.{same_Some}
use Rattle.speculation.specs.declared.history.Entry.{Entry}
use Rattle.speculation.specs.declared.history.Entry.TheVariants as E
use Rattle.track_board.specs.declared.board.Board.TheInside.{Inside}
use Rattle.track_board.specs.declared.region.Region.{Region}
use Rattle.track_board.specs.Discarding.{lent_dropped}
use Rattle.track_board.specs.Invariant.{view_of_board}
use Rattle.track_board.proofs.Discards.{oldest-found, again-stands, cut-made, popped-none, popped-value, given-own, discard-view, discard-stands}
use Rattle.track_board.proofs.Judged.{judges, oldest, oldest-key, original-is, original-away, original-closes, row-made}
use Rattle.track_board.proofs.Spared.{spared, bounds}
use Rattle.track_board.proofs.board.Board.discard.Goals as goal

pub unreachable-requires : goal.unreachable-requires
unreachable-requires c =
    let i = c.self.inside in
    let k = c.self.invariant.0 in
    let m : Inside = record i { ready = c.make_room.new.ready; rows = c.make_room.new.rows; entries = c.make_room.new.entries } in
    let h = spared i m k c.self.invariant.1 (record {
      ready = c.make_room.ensures.ready;
      rows = c.make_room.ensures.rows;
      nodes = refl;
      made = refl;
      entries = c.make_room.ensures.entries;
      capacity = c.make_room.ensures.capacity;
    }) in
    let seen : view_of_board m ≡ c.args.self.now = ap (λ (es : List Entry). record (view_of_board i) { entries = es }) c.make_room.ensures.entries ∙ c.self.view_is in
    oldest-key m k h c.args.self.now seen c.args.judgement c.requires.due (sym c.in_default.is ∙ c.front.ensures.key)

pub unreachable-requires-in_default-normal : goal.unreachable-requires-in_default-normal
unreachable-requires-in_default-normal c =
    let i = c.self.inside in
    let k = c.self.invariant.0 in
    let m : Inside = record i { ready = c.make_room.new.ready; rows = c.make_room.new.rows; entries = c.make_room.new.entries } in
    let h = spared i m k c.self.invariant.1 (record {
      ready = c.make_room.ensures.ready;
      rows = c.make_room.ensures.rows;
      nodes = refl;
      made = refl;
      entries = c.make_room.ensures.entries;
      capacity = c.make_room.ensures.capacity;
    }) in
    let seen : view_of_board m ≡ c.args.self.now = ap (λ (es : List Entry). record (view_of_board i) { entries = es }) c.make_room.ensures.entries ∙ c.self.view_is in
    let found = oldest-found m k h c.args.self.now seen c.args.judgement c.requires.due c.in-Some.ensures.sound c.in-Some.oldest c.in-Some.ensures.key in
    let region = same_Some c.in-Some-get.region.now (oldest m k h c.args.self.now seen c.args.judgement c.requires.due).node.value (c.in-Some-get.ensures.value ∙ found) in
    original-away m k h c.args.self.now seen c.args.judgement c.requires.due c.in-Some-get.region.now.normal c.in_default-normal.field-0 (ap (λ (r : Region). r.normal) region) c.in_default-normal.is

pub go_on-requires : goal.go_on-requires
go_on-requires c =
    let i = c.self.inside in
    let k = c.self.invariant.0 in
    let m : Inside = record i { ready = c.make_room.new.ready; rows = c.make_room.new.rows; entries = c.make_room.new.entries } in
    let h = spared i m k c.self.invariant.1 (record {
      ready = c.make_room.ensures.ready;
      rows = c.make_room.ensures.rows;
      nodes = refl;
      made = refl;
      entries = c.make_room.ensures.entries;
      capacity = c.make_room.ensures.capacity;
    }) in
    let seen : view_of_board m ≡ c.args.self.now = ap (λ (es : List Entry). record (view_of_board i) { entries = es }) c.make_room.ensures.entries ∙ c.self.view_is in
    ((oldest m k h c.args.self.now seen c.args.judgement c.requires.due).node.value, oldest-found m k h c.args.self.now seen c.args.judgement c.requires.due c.in-Some.ensures.sound c.in-Some.oldest c.in-Some.ensures.key, original-closes m k h c.args.self.now seen c.args.judgement c.requires.due)

pub invariant_of-self-in_err-own : goal.invariant_of-self-in_err-own
invariant_of-self-in_err-own c =
    let i = c.self.inside in
    let k = c.self.invariant.0 in
    let m : Inside = record i { ready = c.make_room.new.ready; rows = c.make_room.new.rows; entries = c.make_room.new.entries } in
    let h = spared i m k c.self.invariant.1 (record {
      ready = c.make_room.ensures.ready;
      rows = c.make_room.ensures.rows;
      nodes = refl;
      made = refl;
      entries = c.make_room.ensures.entries;
      capacity = c.make_room.ensures.capacity;
    }) in
    let seen : view_of_board m ≡ c.args.self.now = ap (λ (es : List Entry). record (view_of_board i) { entries = es }) c.make_room.ensures.entries ∙ c.self.view_is in
    let found = oldest-found m k h c.args.self.now seen c.args.judgement c.requires.due c.in-Some.ensures.sound c.in-Some.oldest c.in-Some.ensures.key in
    let same = c.in_err-own.ensures (oldest m k h c.args.self.now seen c.args.judgement c.requires.due).node.value found in
    (k, again-stands m k h c.args.self.now seen c.args.judgement c.requires.due c.in-Some.ensures.sound c.in-Some.oldest c.in-Some.ensures.key c.go_on.new.regions same.0 same.1 same.2)

pub overflow_add-self : goal.overflow_add-self
overflow_add-self c =
    let i = c.self.inside in
    let k = c.self.invariant.0 in
    let m : Inside = record i { ready = c.make_room.new.ready; rows = c.make_room.new.rows; entries = c.make_room.new.entries } in
    let h = spared i m k c.self.invariant.1 (record {
      ready = c.make_room.ensures.ready;
      rows = c.make_room.ensures.rows;
      nodes = refl;
      made = refl;
      entries = c.make_room.ensures.entries;
      capacity = c.make_room.ensures.capacity;
    }) in
    let seen : view_of_board m ≡ c.args.self.now = ap (λ (es : List Entry). record (view_of_board i) { entries = es }) c.make_room.ensures.entries ∙ c.self.view_is in
    let found = oldest-found m k h c.args.self.now seen c.args.judgement c.requires.due c.in-Some.ensures.sound c.in-Some.oldest c.in-Some.ensures.key in
    let gone = c.in_ok-own.ensures (oldest m k h c.args.self.now seen c.args.judgement c.requires.due).node.value found in
    let own = given-own m k h c.args.self.now seen c.args.judgement c.requires.due gone.0 (c.in_ok-own.own, c.in_ok-own.held) gone.2 in
    let b = bounds m k h in
    let all = judges m k h c.args.self.now seen c.args.judgement c.requires.due in
    let within = all.within in
    let limit = h.limits.budget in
    omega arith

pub overflow_add-self-2 : goal.overflow_add-self-2
overflow_add-self-2 c =
    let i = c.self.inside in
    let k = c.self.invariant.0 in
    let m : Inside = record i { ready = c.make_room.new.ready; rows = c.make_room.new.rows; entries = c.make_room.new.entries } in
    let h = spared i m k c.self.invariant.1 (record {
      ready = c.make_room.ensures.ready;
      rows = c.make_room.ensures.rows;
      nodes = refl;
      made = refl;
      entries = c.make_room.ensures.entries;
      capacity = c.make_room.ensures.capacity;
    }) in
    let seen : view_of_board m ≡ c.args.self.now = ap (λ (es : List Entry). record (view_of_board i) { entries = es }) c.make_room.ensures.entries ∙ c.self.view_is in
    let b = bounds m k h in
    omega arith

pub invariant_of-self-2 : goal.invariant_of-self-2
invariant_of-self-2 c =
    let i = c.self.inside in
    let k = c.self.invariant.0 in
    let m : Inside = record i { ready = c.make_room.new.ready; rows = c.make_room.new.rows; entries = c.make_room.new.entries } in
    let h = spared i m k c.self.invariant.1 (record {
      ready = c.make_room.ensures.ready;
      rows = c.make_room.ensures.rows;
      nodes = refl;
      made = refl;
      entries = c.make_room.ensures.entries;
      capacity = c.make_room.ensures.capacity;
    }) in
    let seen : view_of_board m ≡ c.args.self.now = ap (λ (es : List Entry). record (view_of_board i) { entries = es }) c.make_room.ensures.entries ∙ c.self.view_is in
    let found = oldest-found m k h c.args.self.now seen c.args.judgement c.requires.due c.in-Some.ensures.sound c.in-Some.oldest c.in-Some.ensures.key in
    let region = same_Some c.in-Some-get.region.now (oldest m k h c.args.self.now seen c.args.judgement c.requires.due).node.value (c.in-Some-get.ensures.value ∙ found) in
    let same = original-is m k h c.args.self.now seen c.args.judgement c.requires.due c.in-Some-get.region.now.normal c.in-Home.normal (ap (λ (r : Region). r.normal) region) c.in-Home.is in
    let gone = c.in_ok-own.ensures (oldest m k h c.args.self.now seen c.args.judgement c.requires.due).node.value found in
    let j : Inside = record m {
      base = i.base + c.in_ok-own.own;
      ready = c.push_reserved-2.new.self;
      rows = c.push_reserved.new.self;
      generation = i.generation + 1;
      last = 0;
      regions = c.pop_front.new.self;
      lead = c.in-Some-pop_front.region.normal;
      loans = c.mark_dropped.new.loans;
      entries = c.push_reserved-3.new.self;
    } in
    let value = popped-value m k h c.args.self.now seen c.args.judgement c.requires.due c.in-Some.ensures.sound c.in-Some.oldest c.in-Some.ensures.key c.go_on.new.regions (record (oldest m k h c.args.self.now seen c.args.judgement c.requires.due).node.value { normal = gone.0 }) gone.1 c.cut_after.new.self c.in-Some-pop_front.region c.cut_after.ensures.cut c.in-Some-pop_front.ensures.value in (
      _,
      discard-stands m k h c.args.self.now seen c.args.judgement c.requires.due c.requires.given_up j c.row_of-row.result gone.0 (c.in_ok-own.own, c.in_ok-own.held) (record {
        entries = c.push_reserved-3.ensures.items ∙ ap (λ (n : ℕ). m.entries.items ++ (E.Discard n ∷ [])) c.len-number.ensures;
        len = c.push_reserved-3.ensures.len;
        room = omega (arith, c.in_ok-make_room.ensures.entry, c.len.ensures, c.push_reserved-3.ensures.capacity);
        capacity = omega (arith, c.push_reserved-3.ensures.capacity);
        row_is = row-made m k h c.args.self.now seen c.args.judgement c.requires.due c.row_of-row.result c.len-number.result c.in-Home.normal c.len-number.ensures same c.row_of-row.ensures;
        rows = c.push_reserved.ensures.items;
        row_count = c.push_reserved.ensures.len;
        goes_on = gone.2;
        lead = ap (λ (r : Region). r.normal) value;
        ready = c.push_reserved-2.ensures.items;
        base = refl;
        generation = refl;
        last = refl;
        loans = c.mark_dropped.ensures.items ∙ ap (λ (n : ℕ). map (lent_dropped n) i.loans.items) c.len-number.ensures;
        nodes = popped-none m k h c.args.self.now seen c.args.judgement c.requires.due c.in-Some.ensures.sound c.in-Some.oldest c.in-Some.ensures.key c.go_on.new.regions (record (oldest m k h c.args.self.now seen c.args.judgement c.requires.due).node.value { normal = gone.0 }) gone.1 c.cut_after.new.self c.pop_front.new.self c.cut_after.ensures.cut c.pop_front.ensures.popped;
        made = cut-made m k h c.args.self.now seen c.args.judgement c.requires.due c.in-Some.ensures.sound c.in-Some.oldest c.in-Some.ensures.key c.go_on.new.regions (record (oldest m k h c.args.self.now seen c.args.judgement c.requires.due).node.value { normal = gone.0 }) gone.1 c.cut_after.new.self c.pop_front.new.self c.cut_after.ensures.cut c.pop_front.ensures.popped;
      }),
    )

pub returns : goal.returns
returns c =
    let i = c.self.inside in
    let k = c.self.invariant.0 in
    let m : Inside = record i { ready = c.make_room.new.ready; rows = c.make_room.new.rows; entries = c.make_room.new.entries } in
    let h = spared i m k c.self.invariant.1 (record {
      ready = c.make_room.ensures.ready;
      rows = c.make_room.ensures.rows;
      nodes = refl;
      made = refl;
      entries = c.make_room.ensures.entries;
      capacity = c.make_room.ensures.capacity;
    }) in
    let seen : view_of_board m ≡ c.args.self.now = ap (λ (es : List Entry). record (view_of_board i) { entries = es }) c.make_room.ensures.entries ∙ c.self.view_is in
    let found = oldest-found m k h c.args.self.now seen c.args.judgement c.requires.due c.in-Some.ensures.sound c.in-Some.oldest c.in-Some.ensures.key in
    let region = same_Some c.in-Some-get.region.now (oldest m k h c.args.self.now seen c.args.judgement c.requires.due).node.value (c.in-Some-get.ensures.value ∙ found) in
    let same = original-is m k h c.args.self.now seen c.args.judgement c.requires.due c.in-Some-get.region.now.normal c.in-Home.normal (ap (λ (r : Region). r.normal) region) c.in-Home.is in
    let gone = c.in_ok-own.ensures (oldest m k h c.args.self.now seen c.args.judgement c.requires.due).node.value found in
    let j : Inside = record m {
      base = i.base + c.in_ok-own.own;
      ready = c.push_reserved-2.new.self;
      rows = c.push_reserved.new.self;
      generation = i.generation + 1;
      last = 0;
      regions = c.pop_front.new.self;
      lead = c.in-Some-pop_front.region.normal;
      loans = c.mark_dropped.new.loans;
      entries = c.push_reserved-3.new.self;
    } in
    let value = popped-value m k h c.args.self.now seen c.args.judgement c.requires.due c.in-Some.ensures.sound c.in-Some.oldest c.in-Some.ensures.key c.go_on.new.regions (record (oldest m k h c.args.self.now seen c.args.judgement c.requires.due).node.value { normal = gone.0 }) gone.1 c.cut_after.new.self c.in-Some-pop_front.region c.cut_after.ensures.cut c.in-Some-pop_front.ensures.value in
    discard-view m k h c.args.self.now seen c.args.judgement c.requires.due c.requires.given_up j c.row_of-row.result gone.0 (c.in_ok-own.own, c.in_ok-own.held) (record {
      entries = c.push_reserved-3.ensures.items ∙ ap (λ (n : ℕ). m.entries.items ++ (E.Discard n ∷ [])) c.len-number.ensures;
      len = c.push_reserved-3.ensures.len;
      room = omega (arith, c.in_ok-make_room.ensures.entry, c.len.ensures, c.push_reserved-3.ensures.capacity);
      capacity = omega (arith, c.push_reserved-3.ensures.capacity);
      row_is = row-made m k h c.args.self.now seen c.args.judgement c.requires.due c.row_of-row.result c.len-number.result c.in-Home.normal c.len-number.ensures same c.row_of-row.ensures;
      rows = c.push_reserved.ensures.items;
      row_count = c.push_reserved.ensures.len;
      goes_on = gone.2;
      lead = ap (λ (r : Region). r.normal) value;
      ready = c.push_reserved-2.ensures.items;
      base = refl;
      generation = refl;
      last = refl;
      loans = c.mark_dropped.ensures.items ∙ ap (λ (n : ℕ). map (lent_dropped n) i.loans.items) c.len-number.ensures;
      nodes = popped-none m k h c.args.self.now seen c.args.judgement c.requires.due c.in-Some.ensures.sound c.in-Some.oldest c.in-Some.ensures.key c.go_on.new.regions (record (oldest m k h c.args.self.now seen c.args.judgement c.requires.due).node.value { normal = gone.0 }) gone.1 c.cut_after.new.self c.pop_front.new.self c.cut_after.ensures.cut c.pop_front.ensures.popped;
      made = cut-made m k h c.args.self.now seen c.args.judgement c.requires.due c.in-Some.ensures.sound c.in-Some.oldest c.in-Some.ensures.key c.go_on.new.regions (record (oldest m k h c.args.self.now seen c.args.judgement c.requires.due).node.value { normal = gone.0 }) gone.1 c.cut_after.new.self c.pop_front.new.self c.cut_after.ensures.cut c.pop_front.ensures.popped;
    })
