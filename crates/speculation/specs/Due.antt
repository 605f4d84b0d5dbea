-- The due event: the one thing that a core does next by itself, if there is any.
use Rattle.std.specs.Prelude.{ℕ, ◌+◌, ◌-◌, Bool, true, false, not, ◌&&◌, List, [], ◌∷◌, Option, Some, None, length, if◌then◌else◌, nat_lt, nat_le}
use Rattle.speculation.specs.declared.tracks.Kind.TheVariants.{Normal, Fast, Segment}
use Rattle.speculation.specs.declared.history.Settings.{Settings}
use Rattle.speculation.specs.Machine.{Machine}
use Rattle.speculation.specs.Verdicts.{Judged, Seen, Running, Ended, Met, judge}
use Rattle.speculation.specs.Core.{Core, Track, Region, Part, Open, Closed, Finished, over, front, front_home, lead_home, track_point, at_boundary, is_kind, most_held}

-- what is judged: the oldest region, those behind it, and the verdict
pub record Judgement (S D : Type 0) : Type 0 where
  pub region : Region S
  pub younger : List (Region S)
  pub judged : Judged D

-- An event that is due, with all that its effect needs. A judgement keeps the fast version where the verdict is Kept, and
-- else discards it.
pub data Due (S E D : Type 0) : Type 0 where
  Finishing : Finished E → Due S E D
  Crossing : Due S E D
  Judging : Judgement S D → Due S E D
  Forking : Due S E D

-- Finish

-- Its three conditions, of the verified instructions before the front, the front, and whether it is at home

-- the budget is spent before the front
abbrev pub spent_before : Settings → (base : ℕ) → Bool
spent_before b base = nat_le b.budget base

-- the end that the front at home met within the budget
abbrev pub ended_within : {S E D : Type 0} → Machine S E D → Settings → (base : ℕ) → (home : Bool) → Track S → Option E
ended_within m b base home t = if home && nat_le t.own (b.budget - base) then (track_point m t).end else None

-- an original that closed its region within the budget
abbrev pub closed_within : {S E D : Type 0} → Machine S E D → Settings → (base : ℕ) → Track S → Bool
closed_within m b base t = (is_kind t.kind Normal && at_boundary m t) && nat_le t.own (b.budget - base)

-- the front at home reached the budget, and is no original that closed its region within it
abbrev pub reached_budget : {S E D : Type 0} → Machine S E D → Settings → (base : ℕ) → (home : Bool) → Track S → Bool
reached_budget m b base home t = home && (nat_le (b.budget - base) t.own && not (closed_within m b base t))

-- the finish by the first of the three that holds: the end with the count of instructions, or no end and the whole budget
abbrev pub finish_by : {E : Type 0} → (budget count : ℕ) → (spent : Bool) → (ended : Option E) → (reached : Bool) → Option (Finished E)
finish_by budget count true ended reached = Some (record { end = None; count = budget })
finish_by budget count false (Some e) reached = Some (record { end = Some e; count = count })
finish_by budget count false None true = Some (record { end = None; count = budget })
finish_by budget count false None false = None

-- the finish that is due, if any
abbrev pub finish_test : {S E D : Type 0} → Machine S E D → Settings → ℕ → Bool → Track S → Option (Finished E)
finish_test m b base home t =
    finish_by b.budget (base + t.own) (spent_before b base) (ended_within m b base home t) (reached_budget m b base home t)

-- Cross

-- the lead is a fast version at home that closes its region
abbrev pub cross_test : {S E D : Type 0} → Machine S E D → Core S E D → Bool
cross_test m c = lead_home c && (is_kind c.lead.kind Fast && at_boundary m c.lead)

-- Keep and Discard

-- what is seen of the fast version while it is the lead, by its own count and the end that it met
abbrev pub seen_lead : {E D : Type 0} → ℕ → Option E → Seen D
seen_lead own (Some e) = Ended own
seen_lead own None = Running own

-- What the judge sees of a region's fast version: the lead, or where it closed the region, s being the original's state. Of
-- a lead that is lent the count at the loan is seen, since no other is known.
abbrev pub seen : {S E D : Type 0} → Machine S E D → Part S → S → Track S → Seen D
seen m Open s lead = seen_lead lead.own (track_point m lead).end
seen m (Closed k t) s lead = Met k (m.difference s t)

-- the judgement on the oldest region, by whether its original closed it at home
abbrev pub judgement : {S D : Type 0} → Region S → List (Region S) → Bool → Option (Judged D) → Option (Judgement S D)
judgement r rs false j = None
judgement r rs true None = None
judgement r rs true (Some j) = Some (record { region = r; younger = rs; judged = j })

-- the judgement that is due, if any
abbrev pub verdict_due : {S E D : Type 0} → Machine S E D → Core S E D → List (Region S) → Option (Judgement S D)
verdict_due m c [] = None
verdict_due m c (r ∷ rs) = judgement r rs (front_home c && at_boundary m r.normal) (judge r.normal.own (seen m r.part (track_point m r.normal).state c.lead))

-- Fork

-- the lead is a segment at home at an opening call, and there is room for one more region
abbrev pub fork_test : {S E D : Type 0} → Machine S E D → Settings → Core S E D → Bool
fork_test m b c = lead_home c && (is_kind c.lead.kind Segment && (at_boundary m c.lead && (nat_lt (length c.regions) b.tracks && nat_lt (length c.ready) most_held)))

-- the first of these that there is, and none of a core that is over; each test is a value of its own
abbrev pub choose : {S E D : Type 0} → Bool → Option (Finished E) → Bool → Option (Judgement S D) → Bool → Option (Due S E D)
choose true f cross j fork = None
choose false (Some f) cross j fork = Some (Finishing f)
choose false None true j fork = Some Crossing
choose false None false (Some j) fork = Some (Judging j)
choose false None false None true = Some Forking
choose false None false None false = None

-- the event that is due, if any
unfoldable pub due : {S E D : Type 0} → Machine S E D → Settings → Core S E D → Option (Due S E D)
due m b c =
    choose (over c)
    (finish_test m b c.base (front_home c) (front c))
    (cross_test m c)
    (verdict_due m c c.regions)
    (fork_test m b c)
