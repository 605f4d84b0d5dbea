-- The core of a board: the verified part of the program, the open regions, the lead and the loans. It says what is known
-- at one moment of a history, and nothing of how it is kept.
use Rattle.std.specs.Prelude.{ℕ, ◌-◌, Bool, true, false, not, ◌&&◌, ◌||◌, List, [], ◌∷◌, ◌++◌, Option, Some, None, length, is_some, is_none, if◌then◌else◌, nat_eq}
use Rattle.speculation.specs.declared.tracks.Kind.{Kind}
use Rattle.speculation.specs.declared.tracks.Kind.TheVariants.{Normal, Fast, Segment}
use Rattle.speculation.specs.declared.tracks.Name.{Name}
use Rattle.speculation.specs.declared.tracks.OpenLoan.{OpenLoan}
use Rattle.speculation.specs.declared.history.Settings.{Settings}
use Rattle.speculation.specs.Machine.{Machine}
use Rattle.speculation.specs.Run.{Mark, Piece, Point, marks, marks_upto}
use Rattle.speculation.specs.Tracks.{point, boundary}
use Rattle.speculation.specs.Ledger.{Row}

-- a track: its kind, where it started, the instructions that it has taken, and the pieces that it holds back
pub record Track (S : Type 0) : Type 0 where
  pub kind : Kind
  pub start : S
  pub own : ℕ
  pub held : List Piece

-- the fast version of a region: not closed yet, or closed after so many instructions in that state
pub data Part (S : Type 0) : Type 0 where
  Open : Part S
  Closed : ℕ → S → Part S

-- the closed segment between a region and the next: its instructions and its pieces
pub record Between : Type 0 where
  pub steps : ℕ
  pub pieces : List Piece

-- an open region: its number, the state in which it opens, its original, its fast version, and the segment behind it
-- once the next region has opened
pub record Region (S : Type 0) : Type 0 where
  pub number : ℕ
  pub start : S
  pub normal : Track S
  pub part : Part S
  pub segment : Option Between

-- how a run ended, and after how many instructions; no end where the budget was spent
pub record Finished (E : Type 0) : Type 0 where
  pub end : Option E
  pub count : ℕ

pub record Core (S E D : Type 0) : Type 0 where
  -- the verified instructions before the front
  pub base : ℕ
  -- the output that was handed out
  pub released : List Mark
  -- verified output of tracks that are gone
  pub ready : List Mark
  pub rows : List (Row D)
  -- how many discards there were, and the last region number since the last of them
  pub generation : ℕ
  pub last : ℕ
  -- the open regions, oldest first
  pub regions : List (Region S)
  -- the youngest track: the fast version of the youngest region, or the segment behind it
  pub lead : Track S
  pub loans : List OpenLoan
  -- the tracks that will not come home
  pub lost : List Name
  pub finish : Option (Finished E)
  pub halted : Bool

-- the core before any entry: the lead is a segment at the program's start
abbrev pub opening : {S E D : Type 0} → S → Core S E D
opening s = record {
  base = 0;
  released = [];
  ready = [];
  rows = [];
  generation = 0;
  last = 0;
  regions = [];
  lead = record { kind = Segment; start = s; own = 0; held = [] };
  loans = [];
  lost = [];
  finish = None;
  halted = false;
}

-- nothing but loans that come home can happen any more
abbrev pub over : {S E D : Type 0} → Core S E D → Bool
over c = is_some c.finish || c.halted

-- Names

abbrev pub name_eq : Name → Name → Bool
name_eq a b = nat_eq a.generation b.generation && (nat_eq a.region b.region && (if a.normal then b.normal else not b.normal))

abbrev pub lead_name : {S E D : Type 0} → Core S E D → Name
lead_name c = record { generation = c.generation; region = c.last; normal = false }

abbrev pub normal_name : {S E D : Type 0} → Core S E D → Region S → Name
normal_name c r = record { generation = c.generation; region = r.number; normal = true }

-- a loan of this name that wasn't dropped is among these
abbrev pub is_lent : Name → List OpenLoan → Bool
is_lent n [] = false
is_lent n (l ∷ ls) = if name_eq n l.name && is_none l.dropped then true else is_lent n ls

abbrev pub is_named : Name → List Name → Bool
is_named n [] = false
is_named n (x ∷ xs) = if name_eq n x then true else is_named n xs

-- the track of this name is neither lent nor lost
abbrev pub at_home : {S E D : Type 0} → Core S E D → Name → Bool
at_home c n = not (is_lent n c.loans) && not (is_named n c.lost)

abbrev pub lead_home : {S E D : Type 0} → Core S E D → Bool
lead_home c = at_home c (lead_name c)

-- the first loan of a name
abbrev pub find_loan : Name → List OpenLoan → Option OpenLoan
find_loan n [] = None
find_loan n (l ∷ ls) = if name_eq n l.name then Some l else find_loan n ls

abbrev pub find_normal : {S : Type 0} → ℕ → List (Region S) → Option (Track S)
find_normal number [] = None
find_normal number (r ∷ rs) = if nat_eq number r.number then Some r.normal else find_normal number rs

-- by whether the name's generation is the present one, whether it is a normal track's, and whether its region is the last
abbrev pub track_by : {S : Type 0} → Bool → Bool → Bool → Option (Track S) → Track S → Option (Track S)
track_by false normal last found lead = None
track_by true true last found lead = found
track_by true false true found lead = Some lead
track_by true false false found lead = None

-- the live track of a name
abbrev pub find_track : {S E D : Type 0} → Core S E D → Name → Option (Track S)
find_track c n = track_by (nat_eq n.generation c.generation) n.normal (nat_eq n.region c.last) (find_normal n.region c.regions) c.lead

-- The front

-- the front is the oldest region's original, or the lead where no region is open
abbrev pub front_of : {S : Type 0} → List (Region S) → Track S → Track S
front_of [] lead = lead
front_of (r ∷ rs) lead = r.normal

abbrev pub front : {S E D : Type 0} → Core S E D → Track S
front c = front_of c.regions c.lead

abbrev pub front_name : {S E D : Type 0} → Core S E D → List (Region S) → Name
front_name c [] = lead_name c
front_name c (r ∷ rs) = normal_name c r

abbrev pub front_home : {S E D : Type 0} → Core S E D → Bool
front_home c = at_home c (front_name c c.regions)

-- The verified output: what is ready, and of a front at home the pieces within the budget. A base above the budget
-- leaves none of them.
unfoldable pub verified : {S E D : Type 0} → Settings → Core S E D → List Mark
verified b c = c.ready ++ (if front_home c then marks_upto (b.budget - c.base) (front c).held else [])

-- A track's stop

abbrev pub track_point : {S E D : Type 0} → Machine S E D → Track S → Point S E
track_point m t = point m t.kind t.start t.own

abbrev pub at_boundary : {S E D : Type 0} → Machine S E D → Track S → Bool
at_boundary m t = boundary m t.kind t.start t.own

-- a track is run no further at its boundary, at an end, and once it has taken the whole budget
abbrev pub has_stop : {S E D : Type 0} → Machine S E D → Settings → Track S → Bool
has_stop m b t = at_boundary m t || (is_some (track_point m t).end || nat_eq t.own b.budget)

abbrev pub is_kind : Kind → Kind → Bool
is_kind Normal Normal = true
is_kind Fast Fast = true
is_kind Segment Segment = true
is_kind _ _ = false

-- how many bytes these pieces hold
abbrev pub held_size : List Piece → ℕ
held_size ps = length (marks ps)

-- a track that holds so many bytes is not lent, and no region opens while so many are ready
unfoldable pub most_held : ℕ
most_held = 1048576

-- the most instructions that a track takes at one loan
unfoldable pub most_slice : ℕ
most_slice = 65536
