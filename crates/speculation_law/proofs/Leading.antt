-- Cross and Fork keep what holds of the core.
use Rattle.std.proofs.Common.{◌≡◌, ℕ, suc, ◌+◌, ◌-◌, ◌≤◌, true, List, [], ◌∷◌, ◌++◌, Some, None, length, refl, sym, ap, ap₂, ◌∙◌, subst, arith}
use Rattle.speculation.specs.declared.tracks.Kind.TheVariants.{Fast, Segment}
use Rattle.speculation.specs.declared.history.Settings.{Settings}
use Rattle.speculation.specs.Machine.{Machine}
use Rattle.speculation.specs.Run.{Mark, Point, marks, fresh, go}
use Rattle.speculation.specs.Ledger.{ledger_from}
use Rattle.speculation.specs.Core.{Core, Track, Between, Region, Finished, front, front_of, front_name, front_home, at_home, lead_home, track_point, at_boundary}
use Rattle.speculation.specs.Due.{finish_test}
use Rattle.speculation.specs.Effects.{segment_of, region_of, crossed, forked, crossed_core, forked_core}
use Rattle.speculation_law.specs.Facts.{NoStop, Chain, SegmentTrack}
use Rattle.speculation_law.specs.Sound.{Good}
use Rattle.speculation_law.proofs.Verdicts.{boundary-going}
use Rattle.speculation_law.proofs.Walks.{ledger_from-segment}
use Rattle.speculation_law.proofs.Dues.{CrossingLead, ForkingLead}
use Rattle.speculation_law.proofs.Chains.{whole-first, track_point-at, chain-crossed, chain-forked, chain-opened, segment-going}
use Rattle.speculation_law.proofs.Fronts.{Shows, go-from, shows-good, shows-whole, shows-settled, unfinished-within}

module _ {S E D : Type 0} (m : Machine S E D) (b : Settings) (start : S) where
  front-crossed : (r : Region S) (rs : List (Region S)) (k : ℕ) (s : S) (lead lead2 : Track S) → front_of (r ∷ rs) lead ≡ front_of (crossed (r ∷ rs) k s) lead2
  front-crossed r [] k s lead lead2 = refl
  front-crossed r (r2 ∷ rs) k s lead lead2 = refl

  shows-crossed : (base : ℕ) (released ready : List Mark) (regions : List (Region S)) (k : ℕ) (s : S) (lead lead2 : Track S) → lead.kind ≡ Fast
      → Chain m (go m (fresh start) base).state regions lead → Shows m b start base released ready (front_of regions lead) → Shows m b start base released ready (front_of (crossed regions k s) lead2)
  shows-crossed base released ready [] k s lead lead2 kind chain h = absurd (let other : lead.kind ≡ Segment = chain.kind in cc)
  shows-crossed base released ready (r ∷ rs) k s lead lead2 kind chain h = subst (λ (t : Track S). Shows m b start base released ready t) (front-crossed r rs k s lead lead2) h

  pub good-crossed : (c : Core S E D) → Good m b start c → ((f : Finished E) → c.finish ≡ Some f → ⊥) → CrossingLead m c → Good m b start (crossed_core m c)
  good-crossed c g unfinished h =
      let shows = shows-crossed c.base c.released c.ready c.regions c.lead.own (track_point m c.lead).state c.lead (segment_of (track_point m c.lead).state) h.kind g.chain (shows-good m b start c g) in
      record {
        truth = g.truth;
        chain = chain-crossed m (go m (fresh start) c.base).state c.regions c.lead g.chain h.kind h.boundary;
        output = shows.output;
        numbered = shows.numbered;
        rows = g.rows;
        waiting = λ fast lent. absurd (let other : Segment ≡ Fast = fast in cc);
        once = g.once;
        lost = g.lost;
        final = λ f is. absurd (unfinished f is);
      }

  -- a fast version that has taken no instruction met nothing
  pub fast-unmet : (s : S) → NoStop m Fast s 0
  fast-unmet s = record { going = refl; inside = refl }

  front-forked : (r : Region S) (rs : List (Region S)) (between : Between) (new : Region S) (lead lead2 : Track S) → front_of (r ∷ rs) lead ≡ front_of (forked (r ∷ rs) between new) lead2
  front-forked r [] between new lead lead2 = refl
  front-forked r (r2 ∷ rs) between new lead lead2 = refl

  -- a region opens behind others
  good-forked_behind : (c : Core S E D) (r : Region S) (rs : List (Region S)) → Good m b start (record c { regions = r ∷ rs }) → ((f : Finished E) → c.finish ≡ Some f → ⊥)
      → c.lead.kind ≡ Segment → at_boundary m c.lead ≡ true → Good m b start (forked_core m (record c { regions = r ∷ rs }))
  good-forked_behind c r rs g unfinished kind here =
      let s : S = (track_point m c.lead).state in
      let between : Between = record { steps = c.lead.own; pieces = c.lead.held } in
      let shows = subst (λ (t : Track S). Shows m b start c.base c.released c.ready t)
      (front-forked r rs between (region_of (suc c.last) s) c.lead (record { kind = Fast; start = s; own = 0; held = [] })) (shows-good m b start (record c { regions = r ∷ rs }) g) in
      record {
        truth = g.truth;
        chain = chain-forked m (go m (fresh start) c.base).state r rs c.lead (suc c.last) g.chain kind here;
        output = shows.output;
        numbered = shows.numbered;
        rows = g.rows;
        waiting = λ fast lent. fast-unmet s;
        once = g.once;
        lost = g.lost;
        final = λ f is. absurd (unfinished f is);
      }

  -- a region opens behind the verified part
  good-opened : (c : Core S E D) → Good m b start (record c { regions = [] }) → ((f : Finished E) → c.finish ≡ Some f → ⊥)
      → c.lead.kind ≡ Segment → at_boundary m c.lead ≡ true → c.lead.own ≤ b.budget - c.base → Good m b start (forked_core m (record c { regions = [] }))
  good-opened c g unfinished kind here within =
      let s : S = (go m (fresh start) c.base).state in
      let own = c.lead.own in
      let chain : SegmentTrack m s c.lead = g.chain in
      let at : track_point m c.lead ≡ go m (fresh start) (c.base + own) = track_point-at m Segment s c.lead chain.kind chain.start ∙ go-from m b start c.base own g.truth in
      let truth : (go m (fresh start) (c.base + own)).end ≡ None = sym (ap (λ (q : Point S E). q.end) (go-from m b start c.base own g.truth)) ∙ segment-going m s c.lead chain here in
      let new : Region S = region_of (suc c.last) (track_point m c.lead).state in
      let shows = shows-whole m b start (c.base + own) c.released (c.ready ++ marks c.lead.held) new.normal truth
      (whole-first m (go m (fresh start) (c.base + own)).state new.normal refl refl)
      (shows-settled m b start c.base c.released c.ready c.lead within (shows-good m b start (record c { regions = [] }) g)) in
      let walked : ledger_from m (b.budget - c.base) s (length c.rows) c.base ≡ ledger_from m (b.budget - (c.base + own)) (go m (fresh start) (c.base + own)).state (length c.rows) (c.base + own)
      = ledger_from-segment m own (b.budget - c.base) s (length c.rows) c.base chain.least (segment-going m s c.lead chain here)
      ∙ ap₂ (λ (l : ℕ) (q : Point S E). ledger_from m l q.state (length c.rows) (c.base + own)) (let less : (b.budget - c.base) - own ≡ b.budget - (c.base + own) = omega arith in less) (go-from m b start c.base own g.truth) in
      record {
        truth = truth;
        chain = subst (λ (q : Point S E). Chain m q.state (new ∷ []) (record { kind = Fast; start = (track_point m c.lead).state; own = 0; held = [] })) at (chain-opened m s c.lead (suc c.last) chain here);
        output = shows.output;
        numbered = shows.numbered;
        rows = g.rows ∙ ap (λ xs. c.rows ++ xs) walked;
        waiting = λ fast lent. fast-unmet (track_point m c.lead).state;
        once = g.once;
        lost = g.lost;
        final = λ f is. absurd (unfinished f is);
      }

  forked-by : (c : Core S E D) (rs : List (Region S)) → Good m b start (record c { regions = rs }) → ((f : Finished E) → c.finish ≡ Some f → ⊥)
      → c.lead.kind ≡ Segment → at_boundary m c.lead ≡ true → (rs ≡ [] → c.lead.own ≤ b.budget - c.base) → Good m b start (forked_core m (record c { regions = rs }))
  forked-by c [] g unfinished kind here within = good-opened c g unfinished kind here (within refl)
  forked-by c (r ∷ rs) g unfinished kind here within = good-forked_behind c r rs g unfinished kind here

  -- a lead at home that is the front is within the budget
  pub lead-within : (c : Core S E D) → finish_test m b c.base (front_home c) (front c) ≡ None → lead_home c ≡ true → at_boundary m c.lead ≡ true → c.regions ≡ [] → c.lead.own ≤ b.budget - c.base
  lead-within c none home here empty =
      let test : finish_test m b c.base (lead_home c) c.lead ≡ None
      = sym (ap (λ rs. finish_test m b c.base (at_home c (front_name c rs)) (front_of rs c.lead)) empty) ∙ none in
      unfinished-within m b start c.base (lead_home c) c.lead test home (boundary-going m c.lead.kind c.lead.start c.lead.own here)

  pub good-forked : (c : Core S E D) → Good m b start c → ((f : Finished E) → c.finish ≡ Some f → ⊥)
      → finish_test m b c.base (front_home c) (front c) ≡ None → ForkingLead m b c → Good m b start (forked_core m c)
  good-forked c g unfinished none h =
      forked-by c c.regions g unfinished h.kind h.boundary (lead-within c none h.home h.boundary)
