-- What a due event does to the core.
use Rattle.std.specs.Prelude.{ℕ, suc, ◌+◌, ◌-◌, List, [], ◌∷◌, ◌++◌, Option, Some, None, length}
use Rattle.speculation.specs.declared.tracks.Kind.TheVariants.{Normal, Fast, Segment}
use Rattle.speculation.specs.declared.tracks.OpenLoan.{OpenLoan}
use Rattle.speculation.specs.declared.history.Settings.{Settings}
use Rattle.speculation.specs.Machine.{Machine}
use Rattle.speculation.specs.Run.{Mark, marks, marks_upto}
use Rattle.speculation.specs.Verdicts.{Verdict, Kept, Differs, Stopped, Late, Judged}
use Rattle.speculation.specs.Ledger.{Row}
use Rattle.speculation.specs.Core.{Core, Track, Region, Open, Closed, Between, track_point}
use Rattle.speculation.specs.Due.{Due, Finishing, Crossing, Judging, Forking, Judgement}

-- a segment that starts at s
abbrev pub segment_of : {S : Type 0} → S → Track S
segment_of s = record { kind = Segment; start = s; own = 0; held = [] }

-- Cross: the lead goes on as the segment behind its region, and the region keeps where its fast version closed it.

-- the youngest region's fast version was closed after k instructions in state s
abbrev pub crossed : {S : Type 0} → List (Region S) → ℕ → S → List (Region S)
crossed [] k s = []
crossed (r ∷ []) k s = (record r { part = Closed k s }) ∷ []
crossed (r ∷ (r2 ∷ rs)) k s = r ∷ crossed (r2 ∷ rs) k s

abbrev pub crossed_core : {S E D : Type 0} → Machine S E D → Core S E D → Core S E D
crossed_core m c = record c {
  regions = crossed c.regions c.lead.own (track_point m c.lead).state;
  lead = segment_of (track_point m c.lead).state;
}

-- Fork: a region opens at the lead's state. The segment that the lead was is verified where no region is open, and else
-- stands behind the youngest region. The lead goes on as the new region's fast version.

-- the region of this number that opens at s
abbrev pub region_of : {S : Type 0} → ℕ → S → Region S
region_of number s = record {
  number = number;
  start = s;
  normal = record { kind = Normal; start = s; own = 0; held = [] };
  part = Open;
  segment = None;
}

-- the youngest region is followed by this segment and the new region
abbrev pub forked : {S : Type 0} → List (Region S) → Between → Region S → List (Region S)
forked [] between new = new ∷ []
forked (r ∷ []) between new = (record r { segment = Some between }) ∷ (new ∷ [])
forked (r ∷ (r2 ∷ rs)) between new = r ∷ forked (r2 ∷ rs) between new

abbrev pub ready_after_fork : {S : Type 0} → List (Region S) → List Mark → Track S → List Mark
ready_after_fork [] ready lead = ready ++ marks lead.held
ready_after_fork (r ∷ rs) ready lead = ready

abbrev pub base_after_fork : {S : Type 0} → List (Region S) → ℕ → Track S → ℕ
base_after_fork [] base lead = base + lead.own
base_after_fork (r ∷ rs) base lead = base

abbrev pub forked_core : {S E D : Type 0} → Machine S E D → Core S E D → Core S E D
forked_core m c = record c {
  ready = ready_after_fork c.regions c.ready c.lead;
  base = base_after_fork c.regions c.base c.lead;
  last = suc c.last;
  regions = forked c.regions (record { steps = c.lead.own; pieces = c.lead.held }) (region_of (suc c.last) (track_point m c.lead).state);
  lead = record { kind = Fast; start = (track_point m c.lead).state; own = 0; held = [] };
}

-- Keep and Discard: the oldest region's row is written, and its original's output is verified.

-- the row of a region that was judged so
abbrev pub row_of : {S E D : Type 0} → Machine S E D → Core S E D → Region S → Judged D → Row D
row_of m c r j = record { number = length c.rows; at = c.base; pc = m.pc r.start; original = r.normal.own; judged = j }

abbrev pub between_steps : Option Between → ℕ
between_steps None = 0
between_steps (Some g) = g.steps

-- what the closed segment writes within the budget
abbrev pub between_marks : ℕ → Option Between → List Mark
between_marks limit None = []
between_marks limit (Some g) = marks_upto limit g.pieces

-- Keep: the segment behind the region, once it is closed, is verified too.
abbrev pub kept_core : {S E D : Type 0} → Machine S E D → Settings → Core S E D → Judgement S D → Core S E D
kept_core m b c v = record c {
  rows = c.rows ++ (row_of m c v.region v.judged ∷ []);
  ready = c.ready ++ (marks v.region.normal.held ++ between_marks (b.budget - (c.base + v.region.normal.own)) v.region.segment);
  base = c.base + v.region.normal.own + between_steps v.region.segment;
  regions = v.younger;
}

-- the row that dropped a loan: the first one stays
abbrev pub dropped_by : ℕ → Option ℕ → Option ℕ
dropped_by row None = Some row
dropped_by row (Some k) = Some k

abbrev pub drop_loan : ℕ → OpenLoan → OpenLoan
drop_loan row l = record l { dropped = dropped_by row l.dropped }

abbrev pub drop_loans : ℕ → List OpenLoan → List OpenLoan
drop_loans row [] = []
drop_loans row (l ∷ ls) = drop_loan row l ∷ drop_loans row ls

-- Discard: all younger regions and the lead are dropped, lent or not, and the original goes on as the lead of a new
-- generation.
abbrev pub dropped_core : {S E D : Type 0} → Machine S E D → Core S E D → Judgement S D → Core S E D
dropped_core m c v = record c {
  rows = c.rows ++ (row_of m c v.region v.judged ∷ []);
  ready = c.ready ++ marks v.region.normal.held;
  base = c.base + v.region.normal.own;
  generation = suc c.generation;
  last = 0;
  regions = [];
  lead = segment_of (track_point m v.region.normal).state;
  loans = drop_loans (length c.rows) c.loans;
}

abbrev pub judged_core : {S E D : Type 0} → Machine S E D → Settings → Core S E D → Judgement S D → Verdict D → Core S E D
judged_core m b c v Kept = kept_core m b c v
judged_core m b c v (Differs d) = dropped_core m c v
judged_core m b c v Stopped = dropped_core m c v
judged_core m b c v Late = dropped_core m c v

-- the core after this event
abbrev pub effect : {S E D : Type 0} → Machine S E D → Settings → Core S E D → Due S E D → Core S E D
effect m b c (Finishing f) = record c { finish = Some f }
effect m b c Crossing = crossed_core m c
effect m b c (Judging v) = judged_core m b c v v.judged.verdict
effect m b c Forking = forked_core m c
