-- The chain of regions and lead, as each event leaves it.
use Rattle.std.proofs.Common.{◌≡◌, ℕ, ◌<◌, Bool, true, false, if◌then◌else◌, List, [], ◌∷◌, Option, Some, None, nat_eq, refl, sym, ap, ap₂, ◌∙◌, subst, arith}
use Rattle.speculation.specs.declared.tracks.Kind.{Kind}
use Rattle.speculation.specs.declared.tracks.Kind.TheVariants.{Normal, Fast, Segment}
use Rattle.speculation.specs.declared.history.Settings.{Settings}
use Rattle.speculation.specs.Machine.{Machine}
use Rattle.speculation.specs.Run.{Point, fresh, go, pieces}
use Rattle.speculation.specs.Tracks.{point, meets, boundary}
use Rattle.speculation.specs.Core.{Track, Part, Open, Closed, Between, Region, front_of, track_point, at_boundary}
use Rattle.speculation.specs.Effects.{segment_of, region_of, crossed, forked}
use Rattle.speculation.specs.Events.{run_on, slice, back_normals, back_regions, back_lead, released_regions, released_lead}
use Rattle.speculation_law.specs.Facts.{Unstopped, NormalTrack, SegmentTrack, FastTrack, Whole, SegmentLead, LeadAfter, Tail, Chain}
use Rattle.speculation_law.proofs.Verdicts.{boundary-going}
use Rattle.speculation_law.proofs.Running.{run-normal, run-segment, run-fast, whole-normal, whole-segment}

module _ {S E D : Type 0} (m : Machine S E D) where
  none-below : (kind : Kind) (s : S) → Unstopped m kind s 0
  none-below kind s = record { at = λ k less. absurd (omega arith) }

  pub segment-first : (s : S) → SegmentTrack m s (segment_of s)
  segment-first s = record { kind = refl; start = refl; least = none-below Segment s }

  -- a new track holds all its pieces
  pub whole-first : (s : S) (t : Track S) → t.own ≡ 0 → t.held ≡ [] → Whole m s t
  unfolding pieces
  whole-first s t p q = record { held = q ∙ sym (ap (pieces m (fresh s) 0) p) }

  pub normal-first : (number : ℕ) (s : S) → NormalTrack m s (region_of number s).normal
  normal-first number s = record { kind = refl; start = refl; least = none-below Normal s }

  pub fast-first : (s : S) → FastTrack m s (record { kind = Fast; start = s; own = 0; held = [] })
  fast-first s = record { kind = refl; start = refl; least = none-below Fast s; held = refl }

  -- where a track stands, by its kind and start
  pub track_point-at : (kind : Kind) (s : S) (t : Track S) → t.kind ≡ kind → t.start ≡ s → track_point m t ≡ point m kind s t.own
  track_point-at kind s t p q = ap₂ (λ (k : Kind) (x : S). point m k x t.own) p q

  pub boundary-at : (kind : Kind) (s : S) (t : Track S) → t.kind ≡ kind → t.start ≡ s → at_boundary m t ≡ boundary m kind s t.own
  boundary-at kind s t p q = ap₂ (λ (k : Kind) (x : S). boundary m k x t.own) p q

  -- the front stands in the program's own run
  pub front-point : (s : S) (regions : List (Region S)) (lead : Track S) → Chain m s regions lead → track_point m (front_of regions lead) ≡ go m (fresh s) (front_of regions lead).own
  front-point s [] lead h = track_point-at Segment s lead h.kind h.start
  front-point s (r ∷ rs) lead h = track_point-at Normal s r.normal h.normal.kind h.normal.start

  -- and met no end before
  pub front-going : (s : S) (regions : List (Region S)) (lead : Track S) → Chain m s regions lead → (k : ℕ) → k < (front_of regions lead).own → (go m (fresh s) k).end ≡ None
  front-going s [] lead h k less = (h.least.at k less).going
  front-going s (r ∷ rs) lead h k less = (h.normal.least.at k less).going

  -- Back

  module _ (b : Settings) where
    tail-back_by : (number : ℕ) (s : S) (part : Part S) (segment : Option Between) (r : Region S) (rs : List (Region S)) (lead : Track S) (t : Bool)
        → Tail m s part segment (r ∷ rs) lead → Tail m r.start r.part r.segment (back_normals m b number rs) lead
        → Tail m s part segment (if t then (record r { normal = run_on m r.normal (slice m b r.normal) }) ∷ rs else r ∷ back_normals m b number rs) lead
    tail-back_by number s part segment r rs lead true h rest = record {
      link = h.link;
      call = h.call;
      normal = run-normal m b r.start r.normal h.normal;
      whole = whole-normal m b r.start r.normal (slice m b r.normal) h.normal h.whole;
      tail = h.tail;
    }
    tail-back_by number s part segment r rs lead false h rest = record { link = h.link; call = h.call; normal = h.normal; whole = h.whole; tail = rest }

    tail-back : (number : ℕ) (s : S) (part : Part S) (segment : Option Between) (rs : List (Region S)) (lead : Track S)
        → Tail m s part segment rs lead → Tail m s part segment (back_normals m b number rs) lead
    tail-back number s part segment [] lead h = h
    tail-back number s part segment (r ∷ rs) lead h =
        tail-back_by number s part segment r rs lead (nat_eq number r.number) h (tail-back number r.start r.part r.segment rs lead h.tail)

    chain-back_by : (number : ℕ) (s : S) (r : Region S) (rs : List (Region S)) (lead : Track S) (t : Bool) → Chain m s (r ∷ rs) lead
        → Chain m s (if t then (record r { normal = run_on m r.normal (slice m b r.normal) }) ∷ rs else r ∷ back_normals m b number rs) lead
    chain-back_by number s r rs lead true h = record { start = h.start; call = h.call; normal = run-normal m b s r.normal h.normal; tail = h.tail }
    chain-back_by number s r rs lead false h = record { start = h.start; call = h.call; normal = h.normal; tail = tail-back number s r.part r.segment rs lead h.tail }

    chain-back_normal : (number : ℕ) (s : S) (regions : List (Region S)) (lead : Track S) → Chain m s regions lead → Chain m s (back_normals m b number regions) lead
    chain-back_normal number s [] lead h = h
    chain-back_normal number s (r ∷ rs) lead h = chain-back_by number s r rs lead (nat_eq number r.number) h

    lead-back : (s : S) (part : Part S) (lead : Track S) → LeadAfter m s part lead → LeadAfter m s part (run_on m lead (slice m b lead))
    lead-back s Open lead h = run-fast m b s lead h
    lead-back s (Closed k t) lead h = record { fast = h.fast; track = run-segment m b t lead h.track; whole = whole-segment m b t lead (slice m b lead) h.track h.whole }

    tail-back_lead : (s : S) (part : Part S) (segment : Option Between) (rs : List (Region S)) (lead : Track S)
        → Tail m s part segment rs lead → Tail m s part segment rs (run_on m lead (slice m b lead))
    tail-back_lead s part segment [] lead h = record { lead = lead-back s part lead h.lead; segment = h.segment }
    tail-back_lead s part segment (r ∷ rs) lead h = record { link = h.link; call = h.call; normal = h.normal; whole = h.whole; tail = tail-back_lead r.start r.part r.segment rs lead h.tail }

    chain-back_lead : (s : S) (regions : List (Region S)) (lead : Track S) → Chain m s regions lead → Chain m s regions (run_on m lead (slice m b lead))
    chain-back_lead s [] lead h = run-segment m b s lead h
    chain-back_lead s (r ∷ rs) lead h = record { start = h.start; call = h.call; normal = h.normal; tail = tail-back_lead s r.part r.segment rs lead h.tail }

    -- a track that came back
    pub chain-back : (normal : Bool) (number : ℕ) (s : S) (regions : List (Region S)) (lead : Track S) → Chain m s regions lead
        → Chain m s (back_regions m b normal number regions) (back_lead m b normal lead)
    chain-back true number s regions lead h = chain-back_normal number s regions lead h
    chain-back false number s regions lead h = chain-back_lead s regions lead h

  -- Release

  pub chain-released : (limit : ℕ) (s : S) (regions : List (Region S)) (lead : Track S) → Chain m s regions lead
      → Chain m s (released_regions limit regions) (released_lead limit regions lead)
  chain-released limit s [] lead h = record { kind = h.kind; start = h.start; least = h.least }
  chain-released limit s (r ∷ rs) lead h = record { start = h.start; call = h.call; normal = record { kind = h.normal.kind; start = h.normal.start; least = h.normal.least }; tail = h.tail }

  -- Cross

  lead-crossed : (s : S) (part : Part S) (lead : Track S) → LeadAfter m s part lead → lead.kind ≡ Fast → at_boundary m lead ≡ true
      → SegmentLead m s lead.own (track_point m lead).state (segment_of (track_point m lead).state)
  lead-crossed s Open lead h kind here = record {
    fast = record {
      closes = record { least = h.least; here = sym (boundary-at Fast s lead h.kind h.start) ∙ here };
      is = ap (λ (q : Point S E). q.state) (track_point-at Fast s lead h.kind h.start);
    };
    track = segment-first (track_point m lead).state;
    whole = whole-first (track_point m lead).state (segment_of (track_point m lead).state) refl refl;
  }
  lead-crossed s (Closed k t) lead h kind here = absurd (let other : lead.kind ≡ Segment = h.track.kind in cc)

  tail-crossed : (s : S) (part : Part S) (segment : Option Between) (r : Region S) (rs : List (Region S)) (lead : Track S) → Tail m s part segment (r ∷ rs) lead
      → lead.kind ≡ Fast → at_boundary m lead ≡ true
      → Tail m s part segment (crossed (r ∷ rs) lead.own (track_point m lead).state) (segment_of (track_point m lead).state)
  tail-crossed s part segment r [] lead h kind here = record {
    link = h.link;
    call = h.call;
    normal = h.normal;
    whole = h.whole;
    tail = record { lead = lead-crossed r.start r.part lead h.tail.lead kind here; segment = h.tail.segment };
  }
  tail-crossed s part segment r (r2 ∷ rs) lead h kind here = record {
    link = h.link;
    call = h.call;
    normal = h.normal;
    whole = h.whole;
    tail = tail-crossed r.start r.part r.segment r2 rs lead h.tail kind here;
  }

  -- the lead closed the youngest region
  pub chain-crossed : (s : S) (regions : List (Region S)) (lead : Track S) → Chain m s regions lead → lead.kind ≡ Fast → at_boundary m lead ≡ true
      → Chain m s (crossed regions lead.own (track_point m lead).state) (segment_of (track_point m lead).state)
  chain-crossed s [] lead h kind here = absurd (let other : lead.kind ≡ Segment = h.kind in cc)
  chain-crossed s (r ∷ []) lead h kind here = record {
    start = h.start;
    call = h.call;
    normal = h.normal;
    tail = record { lead = lead-crossed s r.part lead h.tail.lead kind here; segment = h.tail.segment };
  }
  chain-crossed s (r ∷ (r2 ∷ rs)) lead h kind here = record {
    start = h.start;
    call = h.call;
    normal = h.normal;
    tail = tail-crossed s r.part r.segment r2 rs lead h.tail kind here;
  }

  -- Fork

  meets-call : (own : ℕ) (s : S) → boundary m Segment s own ≡ true → m.at_fast (go m (fresh s) own).state ≡ true
  meets-call own s here = meets-by (go m (fresh s) own).state (go m (fresh s) own).end here
    where
      meets-by : (x : S) (o : Option E) → meets m Segment own x o ≡ true → m.at_fast x ≡ true
      meets-by x (Some e) h = absurd (cc)
      meets-by x None h = h

  -- a segment at its boundary stands at an opening call
  pub segment-call : (s : S) (t : Track S) → SegmentTrack m s t → at_boundary m t ≡ true → m.at_fast (track_point m t).state ≡ true
  segment-call s t h here =
      subst (λ (q : Point S E). m.at_fast q.state ≡ true) (sym (track_point-at Segment s t h.kind h.start)) (meets-call t.own s (sym (boundary-at Segment s t h.kind h.start) ∙ here))

  pub segment-going : (s : S) (t : Track S) → SegmentTrack m s t → at_boundary m t ≡ true → (go m (fresh s) t.own).end ≡ None
  segment-going s t h here = boundary-going m Segment s t.own (sym (boundary-at Segment s t h.kind h.start) ∙ here)

  lead-forked : (s : S) (part : Part S) (lead : Track S) (number : ℕ) → LeadAfter m s part lead → lead.kind ≡ Segment → at_boundary m lead ≡ true
      → Tail m s part (Some (record { steps = lead.own; pieces = lead.held })) (region_of number (track_point m lead).state ∷ []) (record { kind = Fast; start = (track_point m lead).state; own = 0; held = [] })
  lead-forked s Open lead number h kind here = absurd (let other : lead.kind ≡ Fast = h.kind in cc)
  lead-forked s (Closed k t) lead number h kind here = record {
    link = record {
      fast = h.fast;
      least = h.track.least;
      going = segment-going t lead h.track here;
      whole = h.whole.held;
      next = ap (λ (q : Point S E). q.state) (track_point-at Segment t lead h.track.kind h.track.start);
    };
    call = segment-call t lead h.track here;
    normal = normal-first number (track_point m lead).state;
    whole = whole-first (track_point m lead).state (region_of number (track_point m lead).state).normal refl refl;
    tail = record { lead = fast-first (track_point m lead).state; segment = refl };
  }

  tail-forked : (s : S) (part : Part S) (segment : Option Between) (r : Region S) (rs : List (Region S)) (lead : Track S) (number : ℕ) → Tail m s part segment (r ∷ rs) lead
      → lead.kind ≡ Segment → at_boundary m lead ≡ true
      → Tail m s part segment (forked (r ∷ rs) (record { steps = lead.own; pieces = lead.held }) (region_of number (track_point m lead).state)) (record { kind = Fast; start = (track_point m lead).state; own = 0; held = [] })
  tail-forked s part segment r [] lead number h kind here = record {
    link = h.link;
    call = h.call;
    normal = h.normal;
    whole = h.whole;
    tail = lead-forked r.start r.part lead number h.tail.lead kind here;
  }
  tail-forked s part segment r (r2 ∷ rs) lead number h kind here = record {
    link = h.link;
    call = h.call;
    normal = h.normal;
    whole = h.whole;
    tail = tail-forked r.start r.part r.segment r2 rs lead number h.tail kind here;
  }

  -- a region opened behind others
  pub chain-forked : (s : S) (r : Region S) (rs : List (Region S)) (lead : Track S) (number : ℕ) → Chain m s (r ∷ rs) lead → lead.kind ≡ Segment → at_boundary m lead ≡ true
      → Chain m s (forked (r ∷ rs) (record { steps = lead.own; pieces = lead.held }) (region_of number (track_point m lead).state)) (record { kind = Fast; start = (track_point m lead).state; own = 0; held = [] })
  chain-forked s r [] lead number h kind here = record {
    start = h.start;
    call = h.call;
    normal = h.normal;
    tail = lead-forked s r.part lead number h.tail.lead kind here;
  }
  chain-forked s r (r2 ∷ rs) lead number h kind here = record {
    start = h.start;
    call = h.call;
    normal = h.normal;
    tail = tail-forked s r.part r.segment r2 rs lead number h.tail kind here;
  }

  -- a region opened behind the verified part
  pub chain-opened : (s : S) (lead : Track S) (number : ℕ) → SegmentTrack m s lead → at_boundary m lead ≡ true
      → Chain m (track_point m lead).state (region_of number (track_point m lead).state ∷ []) (record { kind = Fast; start = (track_point m lead).state; own = 0; held = [] })
  chain-opened s lead number h here = record {
    start = refl;
    call = segment-call s lead h here;
    normal = normal-first number (track_point m lead).state;
    tail = record { lead = fast-first (track_point m lead).state; segment = refl };
  }
