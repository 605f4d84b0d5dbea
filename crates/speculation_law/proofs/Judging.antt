-- Keep and Discard: the oldest region is settled, and its row is that of the ledger.
use Rattle.std.proofs.Common.{◌≡◌, ℕ, zero, suc, ◌+◌, ◌-◌, ◌<◌, ◌≤◌, min, Bool, true, false, not, ◌&&◌, if◌then◌else◌, List, [], ◌∷◌, ◌++◌, Option, Some, None, length, nat_le, nat_lt, refl, sym, ap, ap₂, ◌∙◌, subst, inl, inr, append_assoc, length-append, arith}
use Rattle.std.proofs.lemmas.Bool.{cases_lt, and_from}
use Rattle.speculation.specs.declared.tracks.Kind.TheVariants.{Normal, Fast, Segment}
use Rattle.speculation.specs.declared.history.Settings.{Settings}
use Rattle.speculation.specs.Machine.{Machine}
use Rattle.speculation.specs.Run.{Mark, Point, marks, marks_upto, fresh, go, pieces, out}
use Rattle.speculation.specs.Tracks.{point, meets, boundary}
use Rattle.speculation.specs.Verdicts.{Kept, Differs, Stopped, Late, Judged, Seen, Running, Ended, Met, judge, compared, verdict}
use Rattle.speculation.specs.Ledger.{Row, row_at, ledger, ledger_from}
use Rattle.speculation.specs.Core.{Core, Track, Part, Open, Closed, Between, Region, Finished, over, front_of, lead_home, lead_name, is_lent, is_named, track_point, at_boundary, is_kind}
use Rattle.speculation.specs.Due.{cross_test, seen, seen_lead}
use Rattle.speculation.specs.Effects.{segment_of, row_of, between_steps, between_marks, kept_core, dropped_core}
use Rattle.speculation.specs.Law.{Exact}
use Rattle.speculation_law.specs.Facts.{NoStop, Unstopped, SegmentTrack, FastTrack, Whole, FastEnd, Linked, Tail, Chain}
use Rattle.speculation_law.specs.Sees.{Sees}
use Rattle.speculation_law.specs.Sound.{Good}
use Rattle.speculation_law.proofs.Names.{count_lent-drop_loans}
use Rattle.speculation_law.proofs.Verdicts.{boundary-going}
use Rattle.speculation_law.proofs.Walks.{fresh-point, ledger_from-region, ledger_from-segment}
use Rattle.speculation_law.proofs.Pieces.{marks_upto-pieces, out-min}
use Rattle.speculation_law.proofs.Chains.{segment-first, whole-first, track_point-at, boundary-at}
use Rattle.speculation_law.proofs.Fronts.{Shows, go-from, shows-good, shows-whole, shows-settled}

-- What is seen

module _ {S E D : Type 0} (m : Machine S E D) where
  pub tail-open : (s : S) (segment : Option Between) (rs : List (Region S)) (lead : Track S) → Tail m s Open segment rs lead → FastTrack m s lead
  tail-open s segment [] lead h = h.lead
  tail-open s segment (r ∷ rs) lead h = absurd h.link

  linked-closed : (s : S) (k : ℕ) (t : S) (segment : Option Between) (s2 : S) → Linked m s (Closed k t) segment s2 → FastEnd m s k t
  linked-closed s k t None s2 h = absurd h
  linked-closed s k t (Some g) s2 h = h.fast

  tail-closed : (s : S) (k : ℕ) (t : S) (segment : Option Between) (rs : List (Region S)) (lead : Track S) → Tail m s (Closed k t) segment rs lead → FastEnd m s k t
  tail-closed s k t segment [] lead h = h.lead.fast
  tail-closed s k t segment (r ∷ rs) lead h = linked-closed s k t segment r.start h.link

  sees-lead : (s : S) (n : ℕ) (lead : Track S) (o : Option E) → FastTrack m s lead → (point m Fast s lead.own).end ≡ o → boundary m Fast s lead.own ≡ false → Sees m s n (seen_lead {D = D} lead.own o)
  sees-lead s n lead (Some e) h end inside = (h.least, (e, end))
  sees-lead s n lead None h end inside = record {
    at = λ k less. elim (cases_lt k lead.own) [
      | inl low ↦ h.least.at k low
      | inr high ↦ (let same : lead.own ≡ k = omega arith in
          let here : NoStop m Fast s lead.own = record { going = end; inside = inside } in subst (λ i. NoStop m Fast s i) same here)
    ];
  }

  -- what the judge sees is true
  pub sees-tail : (s x : S) (n : ℕ) (part : Part S) (segment : Option Between) (rs : List (Region S)) (lead : Track S) → Tail m s part segment rs lead
      → x ≡ (point m Normal s n).state → (lead.kind ≡ Fast → at_boundary m lead ≡ false) → Sees m s n (seen m part x lead)
  sees-tail s x n Open segment rs lead h is inside =
      let fast = tail-open s segment rs lead h in
      let at : track_point m lead ≡ point m Fast s lead.own = track_point-at m Fast s lead fast.kind fast.start in
      sees-lead s n lead (track_point m lead).end fast (sym (ap (λ (q : Point S E). q.end) at)) (sym (boundary-at m Fast s lead fast.kind fast.start) ∙ inside fast.kind)
  sees-tail s x n (Closed k t) segment rs lead h is inside =
      let fast = tail-closed s k t segment rs lead h in
      (fast.closes, ap₂ (λ (y z : S). m.difference y z) is fast.is)

-- what a judgement that keeps says
pub record KeptSeen {D : Type 0} (x : Seen D) : Type 0 where
  pub count : ℕ
  pub is : x ≡ Met count None

kept-met : {D : Type 0} (k : ℕ) (d : Option D) (j : Judged D) → compared k d ≡ j → j.verdict ≡ Kept → KeptSeen (Met k d)
kept-met k None j h kept = record { count = k; is = refl }
kept-met k (Some d) j h kept = absurd (let verdict : Differs d ≡ Kept = ap (λ (i : Judged _). i.verdict) h ∙ kept in cc)

judged-met : {D : Type 0} (n k : ℕ) (d : Option D) (t : Bool) (j : Judged D) → (if t then Some (record { verdict = Late; fast = n }) else Some (compared k d)) ≡ Some j → j.verdict ≡ Kept → KeptSeen (Met k d)
judged-met n k d true j h kept = absurd (let is : record { verdict = Late; fast = n } ≡ j = cc in let verdict : Late ≡ Kept = ap (λ (i : Judged _). i.verdict) is ∙ kept in cc)
judged-met n k d false j h kept = kept-met k d j (cc) kept

judged-ended : {D : Type 0} (n k : ℕ) (t : Bool) (j : Judged D) → (if t then Some (record { verdict = Stopped; fast = k }) else Some (record { verdict = Late; fast = n })) ≡ Some j → j.verdict ≡ Kept → ⊥
judged-ended n k true j h kept = (let is : record { verdict = Stopped; fast = k } ≡ j = cc in let verdict : Stopped ≡ Kept = ap (λ (i : Judged _). i.verdict) is ∙ kept in cc)
judged-ended n k false j h kept = (let is : record { verdict = Late; fast = n } ≡ j = cc in let verdict : Late ≡ Kept = ap (λ (i : Judged _). i.verdict) is ∙ kept in cc)

judged-running : {D : Type 0} (n : ℕ) (t : Bool) (j : Judged D) → (if t then None else Some (record { verdict = Late; fast = n })) ≡ Some j → j.verdict ≡ Kept → ⊥
judged-running n true j h kept = cc
judged-running n false j h kept = (let is : record { verdict = Late; fast = n } ≡ j = cc in let verdict : Late ≡ Kept = ap (λ (i : Judged _). i.verdict) is ∙ kept in cc)

pub judge-kept : {D : Type 0} (n : ℕ) (x : Seen D) (j : Judged D) → judge n x ≡ Some j → j.verdict ≡ Kept → KeptSeen x
judge-kept n (Running k) j h kept = absurd (judged-running n (nat_lt k n) j h kept)
judge-kept n (Ended k) j h kept = absurd (judged-ended n k (nat_le k n) j h kept)
judge-kept n (Met k d) j h kept = judged-met n k d (nat_lt n k) j h kept

-- the region's fast version was closed in a state that doesn't differ
pub record KeptPart {S E D : Type 0} (m : Machine S E D) (part : Part S) (x : S) : Type 0 where
  pub count : ℕ
  pub state : S
  pub is : part ≡ Closed count state
  pub same : m.difference x state ≡ None

module _ {S E D : Type 0} (m : Machine S E D) where
  lead-unmet : (own k : ℕ) (d : Option D) (o : Option E) → seen_lead own o ≡ Met k d → ⊥
  lead-unmet own k d (Some e) h = cc
  lead-unmet own k d None h = cc

  pub kept-part : (part : Part S) (x : S) (lead : Track S) → KeptSeen (seen m part x lead) → KeptPart m part x
  kept-part Open x lead h = absurd (lead-unmet lead.own h.count None (track_point m lead).end h.is)
  kept-part (Closed k t) x lead h = (let is = h.is in record { count = k; state = t; is = refl; same = cc })

  lead-inside_by : (c : Core S E D) (lent here : Bool) → is_lent (lead_name c) c.loans ≡ lent → at_boundary m c.lead ≡ here → c.lost ≡ [] → cross_test m c ≡ false → c.lead.kind ≡ Fast
      → (is_lent (lead_name c) c.loans ≡ true → NoStop m Fast c.lead.start c.lead.own) → here ≡ false
  lead-inside_by c lent false p q lost uncrossed kind waiting = refl
  lead-inside_by c true true p q lost uncrossed kind waiting =
      absurd (let met = waiting p in let inside : at_boundary m c.lead ≡ false = boundary-at m Fast c.lead.start c.lead kind refl ∙ met.inside in cc)
  lead-inside_by c false true p q lost uncrossed kind waiting =
      absurd (let home : lead_home c ≡ true = ap₂ (λ (x : Bool) (ls : List _). not x && not (is_named (lead_name c) ls)) p lost in
      let fast : is_kind c.lead.kind Fast ≡ true = ap (λ k. is_kind k Fast) kind in
      let crosses : cross_test m c ≡ true = and_from (lead_home c) (is_kind c.lead.kind Fast && at_boundary m c.lead) home (and_from (is_kind c.lead.kind Fast) (at_boundary m c.lead) fast q) in cc)

  -- a fast lead that isn't due to cross stands inside its region
  pub lead-inside : (c : Core S E D) → c.lost ≡ [] → cross_test m c ≡ false → (c.lead.kind ≡ Fast → is_lent (lead_name c) c.loans ≡ true → NoStop m Fast c.lead.start c.lead.own)
      → c.lead.kind ≡ Fast → at_boundary m c.lead ≡ false
  lead-inside c lost uncrossed waiting kind =
      lead-inside_by c (is_lent (lead_name c) c.loans) (at_boundary m c.lead) refl refl lost uncrossed kind (waiting kind)

  -- an original closes its region after at least one instruction
  pub normal-pos : (s : S) (n : ℕ) → boundary m Normal s n ≡ true → 0 < n
  normal-pos s zero h = absurd (let e : boundary m Normal s zero ≡ false = inside-zero s (go m (fresh s) zero).end in cc)
    where
      inside-zero : (s : S) (o : Option E) → meets m Normal zero (go m (fresh s) zero).state o ≡ false
      inside-zero s (Some e) = refl
      inside-zero s None = refl
  normal-pos s (suc n) h = omega arith

-- what holds behind a region that was settled, n instructions behind the base
pub record Settled {S E D : Type 0} (m : Machine S E D) (b : Settings) (start : S) (base n : ℕ) (released ready : List Mark) (rows : List (Row D)) : Type 0 where
  pub within : base + n ≤ b.budget
  pub going : (go m (fresh start) (base + n)).end ≡ None
  pub output : released ++ ready ≡ out m (fresh start) (min b.budget (base + n))
  pub rows_so_far : ledger m start b.budget ≡ rows ++ ledger_from m (b.budget - (base + n)) (go m (fresh start) (base + n)).state (length rows) (base + n)

module _ {S E D : Type 0} (m : Machine S E D) (b : Settings) (start : S) where
  row-same : (c : Core S E D) (r : Region S) (s : S) (j : Judged D) → r.start ≡ s → j ≡ verdict m s r.normal.own → row_at m s (length c.rows) c.base r.normal.own ≡ row_of m c r j
  row-same c r s j p q = λ i. record { number = length c.rows; at = c.base; pc = m.pc (sym p i); original = r.normal.own; judged = sym q i }

  length-more : {A : Type 0} (xs : List A) (x : A) → suc (length xs) ≡ length (xs ++ (x ∷ []))
  length-more xs x = (let l = length-append xs (x ∷ []) in omega arith)

  -- the oldest region, judged by the verdict, is settled
  pub settle : (c : Core S E D) (r : Region S) (rs : List (Region S)) (j : Judged D) → Good m b start (record c { regions = r ∷ rs }) → c.base < b.budget → r.normal.own ≤ b.budget - c.base
      → at_boundary m r.normal ≡ true → j ≡ verdict m (go m (fresh start) c.base).state r.normal.own
      → Settled m b start c.base r.normal.own c.released (c.ready ++ marks r.normal.held) (c.rows ++ (row_of m c r j ∷ []))
  settle c r rs j g unspent within here judged =
      let s : S = (go m (fresh start) c.base).state in
      let n = r.normal.own in
      let chain = g.chain in
      let at : boundary m Normal s n ≡ true = sym (boundary-at m Normal s r.normal chain.normal.kind chain.normal.start) ∙ here in
      let behind : go m (fresh s) n ≡ go m (fresh start) (c.base + n) = go-from m b start c.base n g.truth in
      let row : row_at m s (length c.rows) c.base n ≡ row_of m c r j = row-same c r s j chain.start judged in
      let less : (b.budget - c.base) - n ≡ b.budget - (c.base + n) = omega arith in
      let rest : ledger_from m ((b.budget - c.base) - n) (go m (fresh s) n).state (suc (length c.rows)) (c.base + n)
      ≡ ledger_from m (b.budget - (c.base + n)) (go m (fresh start) (c.base + n)).state (length (c.rows ++ (row_of m c r j ∷ []))) (c.base + n)
      = ap₂ (λ (l : ℕ) (q : Point S E). ledger_from m l q.state (suc (length c.rows)) (c.base + n)) less behind
      ∙ ap (λ k. ledger_from m (b.budget - (c.base + n)) (go m (fresh start) (c.base + n)).state k (c.base + n)) (length-more c.rows (row_of m c r j)) in
      record {
        within = omega arith;
        going = sym (ap (λ (q : Point S E). q.end) behind) ∙ boundary-going m Normal s n at;
        output = shows-settled m b start c.base c.released c.ready r.normal within (shows-good m b start (record c { regions = r ∷ rs }) g);
        rows_so_far = g.rows
            ∙ ap (λ rows. c.rows ++ rows) (ledger_from-region m (b.budget - c.base) s (length c.rows) c.base n chain.call (normal-pos m s n at) within chain.normal.least at
            ∙ ap₂ (λ (x : Row D) (xs : List (Row D)). x ∷ xs) row rest)
            ∙ sym (append_assoc c.rows (row_of m c r j ∷ []) (ledger_from m (b.budget - (c.base + n)) (go m (fresh start) (c.base + n)).state (length (c.rows ++ (row_of m c r j ∷ []))) (c.base + n)));
      }

  -- Discard

  pub good-dropped : (c : Core S E D) (r : Region S) (rs : List (Region S)) (j : Judged D) → Good m b start (record c { regions = r ∷ rs }) → over c ≡ false → c.base < b.budget → r.normal.own ≤ b.budget - c.base
      → at_boundary m r.normal ≡ true → j ≡ verdict m (go m (fresh start) c.base).state r.normal.own
      → ((f : Finished E) → c.finish ≡ Some f → ⊥)
      → Good m b start (dropped_core m c (record { region = r; younger = rs; judged = j }))
  good-dropped c r rs j g live unspent within here judged unfinished =
      let settled = settle c r rs j g unspent within here judged in
      let chain = g.chain in
      let s : S = (go m (fresh start) c.base).state in
      let stands : track_point m r.normal ≡ go m (fresh start) (c.base + r.normal.own)
      = track_point-at m Normal s r.normal chain.normal.kind chain.normal.start ∙ go-from m b start c.base r.normal.own g.truth in
      let whole : Whole m (go m (fresh start) (c.base + r.normal.own)).state (segment_of (track_point m r.normal).state) = whole-first m (go m (fresh start) (c.base + r.normal.own)).state (segment_of (track_point m r.normal).state) refl refl in
      let shows = shows-whole m b start (c.base + r.normal.own) c.released (c.ready ++ marks r.normal.held) (segment_of (track_point m r.normal).state) settled.going whole settled.output in
      record {
        truth = settled.going;
        chain = subst (λ (q : Point S E). SegmentTrack m q.state (segment_of (track_point m r.normal).state)) stands (segment-first m (track_point m r.normal).state);
        output = shows.output;
        numbered = shows.numbered;
        rows = settled.rows_so_far;
        waiting = λ fast lent. absurd (let other : Segment ≡ Fast = fast in cc);
        once = λ n. (let dropped = count_lent-drop_loans n (length c.rows) c.loans in omega arith);
        lost = g.lost;
        final = λ f is. absurd (unfinished f is);
      }

  -- Keep

  -- a front's facts, and the rows, behind the segment that follows a settled region
  pub record Behind (base : ℕ) (released ready : List Mark) (rows : List (Row D)) (regions : List (Region S)) (lead : Track S) : Type 0 where
    pub truth : (go m (fresh start) base).end ≡ None
    pub chain : Chain m (go m (fresh start) base).state regions lead
    pub shows : Shows m b start base released ready (front_of regions lead)
    pub rows_so_far : ledger m start b.budget ≡ rows ++ ledger_from m (b.budget - base) (go m (fresh start) base).state (length rows) base

  -- over a segment that starts at the settled region's end
  behind-segment : (base n steps : ℕ) (released ready more : List Mark) (rows : List (Row D)) (regions : List (Region S)) (lead : Track S) (t : S)
      → Settled m b start base n released ready rows → t ≡ (go m (fresh start) (base + n)).state → Unstopped m Segment t steps → (go m (fresh t) steps).end ≡ None
      → more ≡ marks_upto (b.budget - (base + n)) (pieces m (fresh t) 0 steps)
      → Chain m (go m (fresh t) steps).state regions lead → Whole m (go m (fresh t) steps).state (front_of regions lead)
      → Behind (base + n + steps) released (ready ++ more) rows regions lead
  behind-segment base n steps released ready more rows regions lead t settled is least going written chain whole =
      let s : S = (go m (fresh start) (base + n)).state in
      let behind : go m (fresh t) steps ≡ go m (fresh start) (base + n + steps) = ap (λ (x : S). go m (fresh x) steps) is ∙ go-from m b start (base + n) steps settled.going in
      let truth : (go m (fresh start) (base + n + steps)).end ≡ None = sym (ap (λ (q : Point S E). q.end) behind) ∙ going in
      let same : fresh t ≡ go m (fresh start) (base + n) = ap (λ (x : S). fresh {E = E} x) is ∙ sym (fresh-point m (go m (fresh start) (base + n)) settled.going) in
      let more_is : more ≡ out m (go m (fresh start) (base + n)) (min (b.budget - (base + n)) steps)
      = written ∙ marks_upto-pieces m (b.budget - (base + n)) (fresh t) 0 steps
      ∙ ap₂ (λ (q : Point S E) (k : ℕ). out m q (min k steps)) same (let less : (b.budget - (base + n)) - 0 ≡ b.budget - (base + n) = omega arith in less) in
      let output : released ++ (ready ++ more) ≡ out m (fresh start) (min b.budget (base + n + steps))
      = sym (append_assoc released ready more) ∙ ap₂ (λ (xs ys : List Mark). xs ++ ys) settled.output more_is ∙ sym (out-min m (fresh start) b.budget (base + n) steps) in
      let walked : ledger_from m (b.budget - (base + n)) s (length rows) (base + n) ≡ ledger_from m (b.budget - (base + n + steps)) (go m (fresh start) (base + n + steps)).state (length rows) (base + n + steps)
      = ap (λ (x : S). ledger_from m (b.budget - (base + n)) x (length rows) (base + n)) (sym is)
      ∙ ledger_from-segment m steps (b.budget - (base + n)) t (length rows) (base + n) least going
      ∙ ap₂ (λ (l : ℕ) (q : Point S E). ledger_from m l q.state (length rows) (base + n + steps)) (let less : (b.budget - (base + n)) - steps ≡ b.budget - (base + n + steps) = omega arith in less) behind in
      record {
        truth = truth;
        chain = subst (λ (q : Point S E). Chain m q.state regions lead) behind chain;
        shows = shows-whole m b start (base + n + steps) released (ready ++ more) (front_of regions lead) truth
            (subst (λ (q : Point S E). Whole m q.state (front_of regions lead)) behind whole) output;
        rows_so_far = settled.rows_so_far ∙ ap (λ xs. rows ++ xs) walked;
      }

  -- whatever follows the region
  behind-tail : (base n k : ℕ) (released ready : List Mark) (rows : List (Row D)) (s t : S) (segment : Option Between) (rs : List (Region S)) (lead : Track S)
      → Settled m b start base n released ready rows → t ≡ (go m (fresh start) (base + n)).state → Tail m s (Closed k t) segment rs lead
      → Behind (base + n + between_steps segment) released (ready ++ between_marks (b.budget - (base + n)) segment) rows rs lead
  unfolding pieces go
  behind-tail base n k released ready rows s t (Some g) [] lead settled is h = absurd (let none : Some g ≡ None = h.segment in cc)
  behind-tail base n k released ready rows s t None [] lead settled is h =
      behind-segment base n 0 released ready [] rows [] lead t settled is (record { at = λ i less. absurd (omega arith) }) refl refl h.lead.track h.lead.whole
  behind-tail base n k released ready rows s t None (r ∷ rs) lead settled is h = absurd h.link
  behind-tail base n k released ready rows s t (Some g) (r ∷ rs) lead settled is h =
      let link = h.link in
      let chain : Chain m r.start (r ∷ rs) lead = record { start = refl; call = h.call; normal = h.normal; tail = h.tail } in
      behind-segment base n g.steps released ready (marks_upto (b.budget - (base + n)) g.pieces) rows (r ∷ rs) lead t settled is link.least link.going
      (ap (marks_upto (b.budget - (base + n))) link.whole)
      (subst (λ (x : S). Chain m x (r ∷ rs) lead) link.next chain) (subst (λ (x : S). Whole m x r.normal) link.next h.whole)

  -- the fast version's end is where the original stands
  kept-state : (c : Core S E D) (r : Region S) (rs : List (Region S)) → Exact m start → Good m b start (record c { regions = r ∷ rs })
      → (x : KeptPart m r.part (track_point m r.normal).state) → FastEnd m (go m (fresh start) c.base).state x.count x.state
      → x.state ≡ (go m (fresh start) (c.base + r.normal.own)).state
  kept-state c r rs exact g x fast =
      let chain = g.chain in
      let s : S = (go m (fresh start) c.base).state in
      let stands : track_point m r.normal ≡ go m (fresh start) (c.base + r.normal.own)
      = track_point-at m Normal s r.normal chain.normal.kind chain.normal.start ∙ go-from m b start c.base r.normal.own g.truth in
      let none : m.difference (go m (fresh start) (c.base + r.normal.own)).state (point m Fast s x.count).state ≡ None
      = sym (ap₂ (λ (q : Point S E) (y : S). m.difference q.state y) stands fast.is) ∙ x.same in
      fast.is ∙ sym (exact (c.base + r.normal.own) c.base x.count none)

  pub good-kept : (c : Core S E D) (r : Region S) (rs : List (Region S)) (j : Judged D) → Exact m start → Good m b start (record c { regions = r ∷ rs }) → over c ≡ false → c.base < b.budget → r.normal.own ≤ b.budget - c.base
      → at_boundary m r.normal ≡ true → j ≡ verdict m (go m (fresh start) c.base).state r.normal.own → KeptPart m r.part (track_point m r.normal).state
      → ((f : Finished E) → c.finish ≡ Some f → ⊥)
      → Good m b start (kept_core m b c (record { region = r; younger = rs; judged = j }))
  good-kept c r rs j exact g live unspent within here judged kept unfinished =
      let settled = settle c r rs j g unspent within here judged in
      let chain = g.chain in
      let s : S = (go m (fresh start) c.base).state in
      let tail : Tail m s (Closed kept.count kept.state) r.segment rs c.lead = subst (λ part. Tail m s part r.segment rs c.lead) kept.is chain.tail in
      let fast = tail-closed m s kept.count kept.state r.segment rs c.lead tail in
      let behind = behind-tail c.base r.normal.own kept.count c.released (c.ready ++ marks r.normal.held) (c.rows ++ (row_of m c r j ∷ [])) s kept.state r.segment rs c.lead settled
      (kept-state c r rs exact g kept fast) tail in
      let ready : (c.ready ++ marks r.normal.held) ++ between_marks (b.budget - (c.base + r.normal.own)) r.segment ≡ c.ready ++ (marks r.normal.held ++ between_marks (b.budget - (c.base + r.normal.own)) r.segment)
      = append_assoc c.ready (marks r.normal.held) (between_marks (b.budget - (c.base + r.normal.own)) r.segment) in
      let shows = subst (λ ms. Shows m b start (c.base + r.normal.own + between_steps r.segment) c.released ms (front_of rs c.lead)) ready behind.shows in
      record {
        truth = behind.truth;
        chain = behind.chain;
        output = shows.output;
        numbered = shows.numbered;
        rows = behind.rows_so_far;
        waiting = g.waiting;
        once = g.once;
        lost = g.lost;
        final = λ f is. absurd (unfinished f is);
      }
