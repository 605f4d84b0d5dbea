-- Where nothing is due, verified or lendable, and nothing is lent, the core is over.
use Rattle.std.proofs.Common.{◌≡◌, ℕ, ◌+◌, ◌-◌, ◌<◌, ◌≤◌, Bool, true, false, not, ◌&&◌, ◌||◌, if◌then◌else◌, List, [], ◌∷◌, ◌++◌, Option, Some, None, length, is_some, nat_eq, nat_lt, nat_le, refl, sym, ap, ap₂, ◌∙◌, subst, eq-eqb, ne_eqb, lt-ltb, ltb-true, arith}
use Rattle.std.proofs.lemmas.Bool.{lt-leb, and_right, and_from, or_from}
use Rattle.speculation.specs.declared.tracks.Kind.TheVariants.{Normal, Fast, Segment}
use Rattle.speculation.specs.declared.tracks.Name.{Name}
use Rattle.speculation.specs.declared.history.Settings.{Settings}
use Rattle.speculation.specs.Machine.{Machine}
use Rattle.speculation.specs.Run.{Mark, Piece, marks, marks_upto, fresh, go}
use Rattle.speculation.specs.Verdicts.{Late, Stopped, Judged, Seen, Running, Ended, Met, judge, compared}
use Rattle.speculation.specs.Core.{Core, Track, Part, Open, Closed, Region, Finished, over, lead_name, normal_name, at_home, lead_home, find_normal, track_by, find_track, front, front_of, front_home, verified, track_point, at_boundary, has_stop, is_kind, held_size, most_held}
use Rattle.speculation.specs.Due.{Judgement, finish_test, cross_test, seen_lead, seen, judgement, verdict_due, fork_test, choose, due}
use Rattle.speculation.specs.Events.{wanted, is_ready, lendable}
use Rattle.speculation.specs.Serial.{first_lendable}
use Rattle.speculation_law.specs.Facts.{Tail, SegmentTrack}
use Rattle.speculation_law.specs.Sound.{Good}
use Rattle.speculation_law.proofs.Pieces.{marks_upto-all}
use Rattle.speculation_law.proofs.Dues.{Unfinished, finish_on, past-reached}
use Rattle.speculation_law.proofs.Judging.{tail-open}
use Rattle.speculation_law.proofs.Lendables.{unlendable-here, lead-unlendable}
use Rattle.speculation_law.proofs.SerialRounds.{Solo, solo-home}
use Rattle.speculation_law.proofs.Fronts.{unfinished-unspent, unfinished-case, within-by, below-by}

-- what it says that nothing is due
pub record NoneChosen {S E D : Type 0} (f : Option (Finished E)) (cross : Bool) (j : Option (Judgement S D)) (fork : Bool) : Type 0 where
  pub unfinished : f ≡ None
  pub uncrossed : cross ≡ false
  pub unjudged : j ≡ None
  pub unforked : fork ≡ false

choose-none : {S E D : Type 0} (f : Option (Finished E)) (cross : Bool) (j : Option (Judgement S D)) (fork : Bool) → choose false f cross j fork ≡ None → NoneChosen f cross j fork
choose-none (Some x) cross j fork h = absurd (cc)
choose-none None true j fork h = absurd (cc)
choose-none None false (Some v) fork h = absurd (cc)
choose-none None false None true h = absurd (cc)
choose-none None false None false h = record { unfinished = refl; uncrossed = refl; unjudged = refl; unforked = refl }

empty-append : {A : Type 0} (xs ys : List A) → length (xs ++ ys) ≤ 0 → ys ≡ []
empty-append [] [] h = refl
empty-append [] (y ∷ ys) h = absurd (omega arith)
empty-append (x ∷ xs) ys h = absurd (omega arith)

empty-front : {A : Type 0} (xs ys : List A) → length (xs ++ ys) ≤ 0 → length xs ≤ 0
empty-front [] ys h = omega arith
empty-front (x ∷ xs) ys h = absurd (omega arith)

-- a front at home that ended within the budget or reached it has a finish
finish_on-ended : {E : Type 0} (budget count : ℕ) (e : E) (within reached closed : Bool) → (within ≡ false → reached ≡ true) → finish_on budget count false true (Some e) within reached closed ≡ None → ⊥
finish_on-ended budget count e true reached closed past h = cc
finish_on-ended budget count e false true false past h = cc
finish_on-ended budget count e false true true past h = cc
finish_on-ended budget count e false false closed past h = (let no = past refl in cc)

module _ {S E D : Type 0} (m : Machine S E D) (b : Settings) where
  due-none : (c : Core S E D) → over c ≡ false → due m b c ≡ None → NoneChosen (finish_test m b c.base (front_home c) (front c)) (cross_test m c) (verdict_due m c c.regions) (fork_test m b c)
  unfolding due
  due-none c live h =
      choose-none (finish_test m b c.base (front_home c) (front c)) (cross_test m c) (verdict_due m c c.regions) (fork_test m b c)
      (sym (ap (λ o. choose o (finish_test m b c.base (front_home c) (front c)) (cross_test m c) (verdict_due m c c.regions) (fork_test m b c)) live) ∙ h)

  going-by : (o : Option E) (budget count : ℕ) (spent home within reached closed : Bool) → (within ≡ false → reached ≡ true) → spent ≡ false → home ≡ true
      → finish_on budget count spent home o within reached closed ≡ None → o ≡ None
  going-by None budget count spent home within reached closed past p q h = refl
  going-by (Some e) budget count true home within reached closed past p q h = absurd (cc)
  going-by (Some e) budget count false false within reached closed past p q h = absurd (cc)
  going-by (Some e) budget count false true within reached closed past p q h = absurd (finish_on-ended budget count e within reached closed past h)

  -- a front at home with no finish met no end
  front-unended : (base : ℕ) (home : Bool) (t : Track S) → base < b.budget → home ≡ true → finish_test m b base home t ≡ None → (track_point m t).end ≡ None
  front-unended base home t unspent is h =
      going-by (track_point m t).end b.budget (base + t.own) (nat_le b.budget base) home (nat_le t.own (b.budget - base)) (nat_le (b.budget - base) t.own) (is_kind t.kind Normal && at_boundary m t)
      (past-reached t.own (b.budget - base)) (lt-leb b.budget base unspent) is h

  -- a track with none of the stops
  no-stop : (t : Track S) → at_boundary m t ≡ false → (track_point m t).end ≡ None → t.own < b.budget → has_stop m b t ≡ false
  no-stop t inside going less =
      or_from (at_boundary m t) (is_some (track_point m t).end || nat_eq t.own b.budget) inside
      (or_from (is_some (track_point m t).end) (nat_eq t.own b.budget) (ap is_some going) (ne_eqb t.own b.budget (λ same. absurd (omega arith))))

  few : (ps : List Piece) → marks ps ≡ [] → nat_lt (held_size ps) most_held ≡ true
  unfolding most_held
  few ps h = lt-ltb (held_size ps) 1048576 (let none : held_size ps ≡ 0 = ap (λ (ms : List Mark). length ms) h in omega arith)

  lendable-so : (c : Core S E D) (n : Name) (t : Track S) → over c ≡ false → find_track c n ≡ Some t → at_home c n ≡ true → has_stop m b t ≡ false → nat_lt (held_size t.held) most_held ≡ true
      → (if is_kind t.kind Fast then wanted m c c.regions else true) ≡ true → lendable m b c n ≡ true
  lendable-so c n t live found home unstopped small useful =
      and_from (not (over c)) (is_ready m b c n (find_track c n)) (ap not live)
      (ap (is_ready m b c n) found ∙ and_from (at_home c n) (not (has_stop m b t) && (nat_lt (held_size t.held) most_held && (if is_kind t.kind Fast then wanted m c c.regions else true))) home
      (and_from (not (has_stop m b t)) (nat_lt (held_size t.held) most_held && (if is_kind t.kind Fast then wanted m c c.regions else true)) (ap not unstopped)
      (and_from (nat_lt (held_size t.held) most_held) (if is_kind t.kind Fast then wanted m c c.regions else true) small useful)))

  lead-found : (c : Core S E D) → find_track c (lead_name c) ≡ Some c.lead
  lead-found c = ap₂ (λ p l. track_by p false l (find_normal c.last c.regions) c.lead) (eq-eqb c.generation c.generation refl) (eq-eqb c.last c.last refl)

  normal-found : (c : Core S E D) (r : Region S) (rs : List (Region S)) → c.regions ≡ r ∷ rs → find_track c (normal_name c r) ≡ Some r.normal
  normal-found c r rs is =
      ap₂ (λ p (xs : List (Region S)). track_by p true (nat_eq r.number c.last) (find_normal r.number xs) c.lead) (eq-eqb c.generation c.generation refl) is
      ∙ ap (λ t. if t then Some r.normal else find_normal r.number rs) (eq-eqb r.number r.number refl)

  -- A front that is stuck

  verified-none : (c : Core S E D) → front_home c ≡ true → length (verified b c) ≤ 0 → marks_upto (b.budget - c.base) (front c).held ≡ []
  unfolding verified
  verified-none c home h =
      empty-append c.ready (marks_upto (b.budget - c.base) (front c).held)
      (subst (λ (ms : List Mark). length ms ≤ 0) (ap (λ t. c.ready ++ (if t then marks_upto (b.budget - c.base) (front c).held else [])) home) h)

  ready-none : (c : Core S E D) → length (verified b c) ≤ 0 → length c.ready ≤ 0
  unfolding verified
  ready-none c h = empty-front c.ready (if front_home c then marks_upto (b.budget - c.base) (front c).held else []) h

  -- the front's pieces, when it is within the budget
  front-empty : (start : S) (c : Core S E D) → Good m b start c → front_home c ≡ true → length (verified b c) ≤ 0 → (front c).own ≤ b.budget - c.base → marks (front c).held ≡ []
  front-empty start c g home h le = sym (marks_upto-all 0 (front c).own (b.budget - c.base) (front c).held g.numbered le) ∙ verified-none c home h

  most-pos : (n : ℕ) → n ≤ 0 → nat_lt n most_held ≡ true
  unfolding most_held
  most-pos n h = lt-ltb n 1048576 (omega arith)

  -- no region is open: the lead is the front
  stuck-lead_by : (start : S) (c : Core S E D) (u : Bool) → at_boundary m c.lead ≡ u → Good m b start (record c { regions = [] }) → over c ≡ false → Solo c → 0 < b.tracks
      → finish_test m b c.base (lead_home c) c.lead ≡ None → fork_test m b (record c { regions = [] }) ≡ false → length (verified b (record c { regions = [] })) ≤ 0
      → lendable m b (record c { regions = [] }) (lead_name c) ≡ false → ⊥
  stuck-lead_by start c u here g live solo some none unforked shown unlendable =
      let k : Core S E D = record c { regions = [] } in
      let chain : SegmentTrack m (go m (fresh start) c.base).state c.lead = g.chain in
      let home : lead_home c ≡ true = solo-home c (lead_name c) solo in
      let unspent = unfinished-unspent m b start c.base (lead_home c) c.lead none in
      let going = front-unended c.base (lead_home c) c.lead unspent home none in
      let case_of = unfinished-case m b start c.base (lead_home c) c.lead none home going in
      let closed : (is_kind c.lead.kind Normal && at_boundary m c.lead) ≡ false = ap (λ x. is_kind x Normal && at_boundary m c.lead) chain.kind in
      let less = below-by m b start c.lead.own (b.budget - c.base) (is_kind c.lead.kind Normal && at_boundary m c.lead) closed case_of in
      stuck-so u here k less going (front-empty start k g home shown (omega arith)) (ready-none k shown) closed
    where
      stuck-so : (u : Bool) → at_boundary m c.lead ≡ u → (k : Core S E D) → c.lead.own < b.budget - c.base → (track_point m c.lead).end ≡ None → marks c.lead.held ≡ [] → length c.ready ≤ 0
          → (is_kind c.lead.kind Normal && at_boundary m c.lead) ≡ false → ⊥
      stuck-so true is k less going empty ready closed =
          let kind : is_kind c.lead.kind Segment ≡ true = ap (λ x. is_kind x Segment) g.chain.kind in
          let forks : fork_test m b (record c { regions = [] }) ≡ true
          = and_from (lead_home c) (is_kind c.lead.kind Segment && (at_boundary m c.lead && (nat_lt 0 b.tracks && nat_lt (length c.ready) most_held))) (solo-home c (lead_name c) solo)
          (and_from (is_kind c.lead.kind Segment) (at_boundary m c.lead && (nat_lt 0 b.tracks && nat_lt (length c.ready) most_held)) kind
          (and_from (at_boundary m c.lead) (nat_lt 0 b.tracks && nat_lt (length c.ready) most_held) is
          (and_from (nat_lt 0 b.tracks) (nat_lt (length c.ready) most_held) (lt-ltb 0 b.tracks some) (most-pos (length c.ready) ready)))) in cc
      stuck-so false is k less going empty ready closed =
          let useful : (if is_kind c.lead.kind Fast then wanted m (record c { regions = [] }) [] else true) ≡ true = ap (λ x. if is_kind x Fast then wanted m (record c { regions = [] }) [] else true) g.chain.kind in
          let lends : lendable m b (record c { regions = [] }) (lead_name c) ≡ true
          = lendable-so (record c { regions = [] }) (lead_name c) c.lead live (lead-found (record c { regions = [] })) (solo-home c (lead_name c) solo)
          (no-stop c.lead is going (omega arith)) (few c.lead.held empty) useful in cc

  -- the judge has no answer only while the fast version runs below the original's count

  pub record StillRuns (n : ℕ) (x : Seen D) : Type 0 where
    pub count : ℕ
    pub is : x ≡ Running count
    pub below : count < n

  late : ℕ → Judged D
  late n = record { verdict = Late; fast = n }

  running-by : (n k : ℕ) (t : Bool) → nat_lt k n ≡ t → (if t then None else Some (late n)) ≡ None → StillRuns n (Running k)
  running-by n k true is h = record { count = k; is = refl; below = ltb-true k n is }
  running-by n k false is h = absurd (cc)

  some-either : (t : Bool) (x y : Judged D) → (if t then Some x else Some y) ≡ None → ⊥
  some-either true x y h = cc
  some-either false x y h = cc

  judge-none : (n : ℕ) (x : Seen D) → judge n x ≡ None → StillRuns n x
  unfolding late
  judge-none n (Running k) h = running-by n k (nat_lt k n) refl h
  judge-none n (Ended k) h = absurd (some-either (nat_le k n) (record { verdict = Stopped; fast = k }) (record { verdict = Late; fast = n }) h)
  judge-none n (Met k d) h = absurd (some-either (nat_lt n k) (record { verdict = Late; fast = n }) (compared k d) h)

  judgement-none : (r : Region S) (rs : List (Region S)) (t : Bool) (o : Option (Judged D)) → judgement r rs t o ≡ None → t ≡ true → o ≡ None
  judgement-none r rs false o h k = absurd (cc)
  judgement-none r rs true None h k = refl
  judgement-none r rs true (Some j) h k = absurd (cc)

  -- the lead of a region that still runs
  pub record RunsBelow (n : ℕ) (part : Part S) (lead : Track S) : Type 0 where
    pub open_part : part ≡ Open
    pub going : (track_point m lead).end ≡ None
    pub below : lead.own < n

  seen-running_by : (own k : ℕ) (o : Option E) → seen_lead {D = D} own o ≡ Running k → (o ≡ None) × (own ≡ k)
  seen-running_by own k (Some e) h = absurd (cc)
  seen-running_by own k None h = (refl, cc)

  seen-running : (n : ℕ) (part : Part S) (x : S) (lead : Track S) → StillRuns n (seen m part x lead) → RunsBelow n part lead
  seen-running n Open x lead h =
      let both = seen-running_by lead.own h.count (track_point m lead).end h.is in
      let less = h.below in
      record { open_part = refl; going = both.0; below = subst (λ k. k < n) (sym both.1) less }
  seen-running n (Closed k t) x lead h = absurd (let is = h.is in cc)

  wanted-by : (c : Core S E D) (s : S) (r : Region S) (rs : List (Region S)) (lead : Track S) → Tail m s Open r.segment rs lead → at_home c (normal_name c r) ≡ true → at_boundary m r.normal ≡ true → c.lead.own < r.normal.own
      → wanted m c (r ∷ rs) ≡ true
  wanted-by c s r [] lead h home here less =
      ap (λ t. if t then nat_lt c.lead.own r.normal.own else true) (and_from (at_home c (normal_name c r)) (at_boundary m r.normal) home here) ∙ lt-ltb c.lead.own r.normal.own less
  wanted-by c s r (r2 ∷ rs) lead h home here less = absurd h.link

  uncrossed-inside : (c : Core S E D) (u : Bool) → at_boundary m c.lead ≡ u → lead_home c ≡ true → c.lead.kind ≡ Fast → cross_test m c ≡ false → u ≡ false
  uncrossed-inside c true is home kind h =
      absurd (let fast : is_kind c.lead.kind Fast ≡ true = ap (λ k. is_kind k Fast) kind in
      let crosses : cross_test m c ≡ true = and_from (lead_home c) (is_kind c.lead.kind Fast && at_boundary m c.lead) home (and_from (is_kind c.lead.kind Fast) (at_boundary m c.lead) fast is) in cc)
  uncrossed-inside c false is home kind h = refl

  -- the oldest region is closed, and its fast version runs
  stuck-fast : (start : S) (c : Core S E D) (r : Region S) (rs : List (Region S)) → Good m b start (record c { regions = r ∷ rs }) → over c ≡ false → Solo c → cross_test m c ≡ false
      → at_boundary m r.normal ≡ true → r.normal.own ≤ b.budget → RunsBelow r.normal.own r.part c.lead → lendable m b (record c { regions = r ∷ rs }) (lead_name c) ≡ false → ⊥
  stuck-fast start c r rs g live solo uncrossed here within runs unlendable =
      let k : Core S E D = record c { regions = r ∷ rs } in
      let s : S = (go m (fresh start) c.base).state in
      let chain = g.chain in
      let tail : Tail m s Open r.segment rs c.lead = subst (λ part. Tail m s part r.segment rs c.lead) runs.open_part chain.tail in
      let fast = tail-open m s r.segment rs c.lead tail in
      let less = runs.below in
      let inside = uncrossed-inside c (at_boundary m c.lead) refl (solo-home c (lead_name c) solo) fast.kind uncrossed in
      let useful : (if is_kind c.lead.kind Fast then wanted m k (r ∷ rs) else true) ≡ true
      = ap (λ x. if is_kind x Fast then wanted m k (r ∷ rs) else true) fast.kind ∙ wanted-by k s r rs c.lead tail (solo-home c (normal_name c r) solo) here less in
      let lends : lendable m b k (lead_name c) ≡ true
      = lendable-so k (lead_name c) c.lead live (lead-found k) (solo-home c (lead_name c) solo) (no-stop c.lead inside runs.going (omega arith)) (few c.lead.held (ap marks fast.held)) useful in cc

  stuck-regions_by : (start : S) (c : Core S E D) (r : Region S) (rs : List (Region S)) (u : Bool) → at_boundary m r.normal ≡ u → Good m b start (record c { regions = r ∷ rs }) → over c ≡ false → Solo c
      → finish_test m b c.base (front_home (record c { regions = r ∷ rs })) r.normal ≡ None → cross_test m c ≡ false → verdict_due m (record c { regions = r ∷ rs }) (r ∷ rs) ≡ None
      → length (verified b (record c { regions = r ∷ rs })) ≤ 0 → first_lendable m b (record c { regions = r ∷ rs }) (r ∷ rs) ≡ None → ⊥
  stuck-regions_by start c r rs u here g live solo none uncrossed unjudged shown unlendable =
      let k : Core S E D = record c { regions = r ∷ rs } in
      let home : front_home k ≡ true = solo-home c (normal_name c r) solo in
      let unspent = unfinished-unspent m b start c.base (front_home k) r.normal none in
      let going = front-unended c.base (front_home k) r.normal unspent home none in
      let case_of = unfinished-case m b start c.base (front_home k) r.normal none home going in
      let le = within-by m b start r.normal.own (b.budget - c.base) (is_kind r.normal.kind Normal && at_boundary m r.normal) case_of in
      stuck-so u here home going case_of le (front-empty start k g home shown le)
    where
      stuck-so : (u : Bool) → at_boundary m r.normal ≡ u → front_home (record c { regions = r ∷ rs }) ≡ true → (track_point m r.normal).end ≡ None
          → Unfinished (nat_le r.normal.own (b.budget - c.base)) (nat_le (b.budget - c.base) r.normal.own) (is_kind r.normal.kind Normal && at_boundary m r.normal)
          → r.normal.own ≤ b.budget - c.base → marks r.normal.held ≡ [] → ⊥
      stuck-so true is home going case_of le empty =
          let none_answer = judgement-none r rs (front_home (record c { regions = r ∷ rs }) && at_boundary m r.normal) (judge r.normal.own (seen m r.part (track_point m r.normal).state c.lead)) unjudged
          (and_from (front_home (record c { regions = r ∷ rs })) (at_boundary m r.normal) home is) in
          stuck-fast start c r rs g live solo uncrossed is (omega arith) (seen-running r.normal.own r.part (track_point m r.normal).state c.lead (judge-none r.normal.own (seen m r.part (track_point m r.normal).state c.lead) none_answer))
          (lead-unlendable m b (record c { regions = r ∷ rs }) (r ∷ rs) unlendable)
      stuck-so false is home going case_of le empty =
          let kind : r.normal.kind ≡ Normal = g.chain.normal.kind in
          let closed : (is_kind r.normal.kind Normal && at_boundary m r.normal) ≡ false = and_right (is_kind r.normal.kind Normal) (at_boundary m r.normal) is in
          let less = below-by m b start r.normal.own (b.budget - c.base) (is_kind r.normal.kind Normal && at_boundary m r.normal) closed case_of in
          let useful : (if is_kind r.normal.kind Fast then wanted m (record c { regions = r ∷ rs }) (r ∷ rs) else true) ≡ true
          = ap (λ x. if is_kind x Fast then wanted m (record c { regions = r ∷ rs }) (r ∷ rs) else true) kind in
          let lends : lendable m b (record c { regions = r ∷ rs }) (normal_name c r) ≡ true
          = lendable-so (record c { regions = r ∷ rs }) (normal_name c r) r.normal live (normal-found (record c { regions = r ∷ rs }) r rs refl) home (no-stop r.normal is going (omega arith)) (few r.normal.held empty) useful in
          let not_lends = unlendable-here (normal_name c r) (first_lendable m b (record c { regions = r ∷ rs }) rs) (lendable m b (record c { regions = r ∷ rs }) (normal_name c r)) unlendable in cc

  stuck-by : (start : S) (c : Core S E D) (rs : List (Region S)) → c.regions ≡ rs → Good m b start (record c { regions = rs }) → over c ≡ false → Solo c → 0 < b.tracks
      → NoneChosen (finish_test m b c.base (front_home (record c { regions = rs })) (front_of rs c.lead)) (cross_test m c) (verdict_due m (record c { regions = rs }) rs) (fork_test m b (record c { regions = rs }))
      → length (verified b (record c { regions = rs })) ≤ 0 → first_lendable m b (record c { regions = rs }) rs ≡ None → ⊥
  stuck-by start c [] is g live solo some chosen shown unlendable =
      stuck-lead_by start c (at_boundary m c.lead) refl g live solo some chosen.unfinished chosen.unforked shown (lead-unlendable m b (record c { regions = [] }) [] unlendable)
  stuck-by start c (r ∷ rs) is g live solo some chosen shown unlendable =
      stuck-regions_by start c r rs (at_boundary m r.normal) refl g live solo chosen.unfinished chosen.uncrossed chosen.unjudged shown unlendable

  over-by : (start : S) (c : Core S E D) (t : Bool) → over c ≡ t → Good m b start c → Solo c → 0 < b.tracks → due m b c ≡ None → length (verified b c) ≤ 0 → first_lendable m b c c.regions ≡ None → t ≡ true
  over-by start c true is g solo some none shown unlendable = refl
  over-by start c false is g solo some none shown unlendable = absurd (stuck-by start c c.regions refl g is solo some (due-none c is none) shown unlendable)

  -- nothing is left to do only once the core is over
  pub progress : (start : S) (c : Core S E D) → Good m b start c → Solo c → 0 < b.tracks → due m b c ≡ None → length (verified b c) ≤ 0 → first_lendable m b c c.regions ≡ None → over c ≡ true
  progress start c g solo some none shown unlendable = over-by start c (over c) refl g solo some none shown unlendable
