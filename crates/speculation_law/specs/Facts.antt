-- What holds of the tracks and regions in the core of every legal history.
use Rattle.std.specs.Prelude.{◌≡◌, ℕ, ◌<◌, true, false, List, [], ◌∷◌, Option, Some, None}
use Rattle.speculation.specs.declared.tracks.Kind.{Kind}
use Rattle.speculation.specs.declared.tracks.Kind.TheVariants.{Normal, Fast, Segment}
use Rattle.speculation.specs.Machine.{Machine}
use Rattle.speculation.specs.Run.{fresh, go, pieces}
use Rattle.speculation.specs.Tracks.{point, boundary}
use Rattle.speculation.specs.Core.{Track, Part, Open, Closed, Between, Region}

-- a track of this kind and start met neither an end nor its boundary after k instructions
pub record NoStop {S E D : Type 0} (m : Machine S E D) (kind : Kind) (s : S) (k : ℕ) : Type 0 where
  pub going : (point m kind s k).end ≡ None
  pub inside : boundary m kind s k ≡ false

-- it met none at any count below `own`
pub record Unstopped {S E D : Type 0} (m : Machine S E D) (kind : Kind) (s : S) (own : ℕ) : Type 0 where
  pub at : (k : ℕ) → k < own → NoStop m kind s k

pub record NormalTrack {S E D : Type 0} (m : Machine S E D) (s : S) (t : Track S) : Type 0 where
  pub kind : t.kind ≡ Normal
  pub start : t.start ≡ s
  pub least : Unstopped m Normal s t.own

pub record SegmentTrack {S E D : Type 0} (m : Machine S E D) (s : S) (t : Track S) : Type 0 where
  pub kind : t.kind ≡ Segment
  pub start : t.start ≡ s
  pub least : Unstopped m Segment s t.own

pub record FastTrack {S E D : Type 0} (m : Machine S E D) (s : S) (t : Track S) : Type 0 where
  pub kind : t.kind ≡ Fast
  pub start : t.start ≡ s
  pub least : Unstopped m Fast s t.own
  pub held : t.held ≡ []

-- the track holds all the pieces that its instructions write
pub record Whole {S E D : Type 0} (m : Machine S E D) (s : S) (t : Track S) : Type 0 where
  pub held : t.held ≡ pieces m (fresh s) 0 t.own

-- k is the least count at which the fast version from s closes its region
pub record Closes {S E D : Type 0} (m : Machine S E D) (s : S) (k : ℕ) : Type 0 where
  pub least : Unstopped m Fast s k
  pub here : boundary m Fast s k ≡ true

-- and t is the state in which it does
pub record FastEnd {S E D : Type 0} (m : Machine S E D) (s : S) (k : ℕ) (t : S) : Type 0 where
  pub closes : Closes m s k
  pub is : t ≡ (point m Fast s k).state

-- the lead behind a fast version that closed its region
pub record SegmentLead {S E D : Type 0} (m : Machine S E D) (s : S) (k : ℕ) (t : S) (lead : Track S) : Type 0 where
  pub fast : FastEnd m s k t
  pub track : SegmentTrack m t lead
  pub whole : Whole m t lead

-- the closed segment between a fast version that closed its region and the next region, which opens at s2
pub record ClosedBetween {S E D : Type 0} (m : Machine S E D) (s : S) (k : ℕ) (t : S) (g : Between) (s2 : S) : Type 0 where
  pub fast : FastEnd m s k t
  pub least : Unstopped m Segment t g.steps
  pub going : (go m (fresh t) g.steps).end ≡ None
  pub whole : g.pieces ≡ pieces m (fresh t) 0 g.steps
  pub next : s2 ≡ (go m (fresh t) g.steps).state

-- the lead in or behind the youngest region, by its fast version
abbrev pub LeadAfter : {S E D : Type 0} → Machine S E D → S → Part S → Track S → Type 0
LeadAfter m s Open lead = FastTrack m s lead
LeadAfter m s (Closed k t) lead = SegmentLead m s k t lead

-- how a region is tied to the state s2 in which the next one opens
abbrev pub Linked : {S E D : Type 0} → Machine S E D → S → Part S → Option Between → S → Type 0
Linked m s Open segment s2 = ⊥
Linked m s (Closed k t) None s2 = ⊥
Linked m s (Closed k t) (Some g) s2 = ClosedBetween m s k t g s2

-- what follows a region that opens at s, by its fast version and the segment behind it
abbrev pub Tail : {S E D : Type 0} → Machine S E D → S → Part S → Option Between → List (Region S) → Track S → Type 0
Tail m s part segment [] lead = record { lead : LeadAfter m s part lead; segment : segment ≡ None }
Tail m s part segment (r ∷ rs) lead = record {
  link : Linked m s part segment r.start;
  call : m.at_fast r.start ≡ true;
  normal : NormalTrack m r.start r.normal;
  whole : Whole m r.start r.normal;
  tail : Tail m r.start r.part r.segment rs lead;
}

-- the regions and the lead from the verified state s on
abbrev pub Chain : {S E D : Type 0} → Machine S E D → S → List (Region S) → Track S → Type 0
Chain m s [] lead = SegmentTrack m s lead
Chain m s (r ∷ rs) lead = record {
  start : r.start ≡ s;
  call : m.at_fast s ≡ true;
  normal : NormalTrack m s r.normal;
  tail : Tail m s r.part r.segment rs lead;
}
