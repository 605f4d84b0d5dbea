-- What each entry of a history does to the core, and where it is allowed.
use Rattle.std.specs.Prelude.{ℕ, suc, ◌+◌, ◌-◌, Bool, true, false, not, ◌&&◌, ◌||◌, List, [], ◌∷◌, ◌++◌, Option, Some, None, length, is_some, is_none, unwrap_or, if◌then◌else◌, nat_eq, nat_lt, nat_le}
use Rattle.speculation.specs.declared.tracks.Kind.{Kind}
use Rattle.speculation.specs.declared.tracks.Kind.TheVariants.{Normal, Fast, Segment}
use Rattle.speculation.specs.declared.tracks.Name.{Name}
use Rattle.speculation.specs.declared.tracks.OpenLoan.{OpenLoan}
use Rattle.speculation.specs.declared.history.Settings.{Settings}
use Rattle.speculation.specs.declared.history.Entry.{Entry}
use Rattle.speculation.specs.declared.history.Entry.TheVariants.{Lend, Back, Gone, Fork, Cross, Keep, Discard, Release, Finish, Halt}
use Rattle.speculation.specs.Machine.{Machine}
use Rattle.speculation.specs.Run.{Mark, Piece, pieces}
use Rattle.speculation.specs.Tracks.{point, first_from}
use Rattle.speculation.specs.Verdicts.{is_kept}
use Rattle.speculation.specs.Core.{Core, Track, Region, over, name_eq, lead_name, normal_name, at_home, find_loan, find_track, front_home, verified, at_boundary, has_stop, is_kind, held_size, most_held, most_slice}
use Rattle.speculation.specs.Due.{Due, Finishing, Crossing, Judging, Forking, due}
use Rattle.speculation.specs.Effects.{effect}

abbrev pub some_if : {A : Type 0} → Bool → A → Option A
some_if true a = Some a
some_if false a = None

-- Running on

-- What k instructions more write, which a track holds back. A fast version's output is dropped.
abbrev pub new_pieces : {S E D : Type 0} → Machine S E D → Kind → S → ℕ → ℕ → List Piece
new_pieces m Normal s own k = pieces m (point m Normal s own) own k
new_pieces m Segment s own k = pieces m (point m Segment s own) own k
new_pieces m Fast s own k = []

-- the track after k instructions more
abbrev pub run_on : {S E D : Type 0} → Machine S E D → Track S → ℕ → Track S
run_on m t k = record t { own = t.own + k; held = t.held ++ new_pieces m t.kind t.start t.own k }

-- One slice: the least number of instructions after which the track has a stop or holds much, at most `most_slice`.
unfoldable pub slice : {S E D : Type 0} → Machine S E D → Settings → Track S → ℕ
slice m b t = unwrap_or (first_from (λ k. has_stop m b (run_on m t k) || nat_le most_held (held_size (run_on m t k).held)) 0 most_slice) most_slice

-- Lend

-- A fast lead is of no use past the original's count, once that is known. Its own region is the youngest.
abbrev pub wanted : {S E D : Type 0} → Machine S E D → Core S E D → List (Region S) → Bool
wanted m c [] = true
wanted m c (r ∷ []) = if at_home c (normal_name c r) && at_boundary m r.normal then nat_lt c.lead.own r.normal.own else true
wanted m c (r ∷ (r2 ∷ rs)) = wanted m c (r2 ∷ rs)

abbrev pub ready_to_go : {S E D : Type 0} → Machine S E D → Settings → Core S E D → Name → Track S → Bool
ready_to_go m b c n t = at_home c n && (not (has_stop m b t) && (nat_lt (held_size t.held) most_held && (if is_kind t.kind Fast then wanted m c c.regions else true)))

abbrev pub is_ready : {S E D : Type 0} → Machine S E D → Settings → Core S E D → Name → Option (Track S) → Bool
is_ready m b c n None = false
is_ready m b c n (Some t) = ready_to_go m b c n t

-- the track of this name may be lent
abbrev pub lendable : {S E D : Type 0} → Machine S E D → Settings → Core S E D → Name → Bool
lendable m b c n = not (over c) && is_ready m b c n (find_track c n)

-- Back and Gone

-- the regions after the original of this number came back
abbrev pub back_normals : {S E D : Type 0} → Machine S E D → Settings → ℕ → List (Region S) → List (Region S)
back_normals m b number [] = []
back_normals m b number (r ∷ rs) =
    if nat_eq number r.number
    then (record r { normal = run_on m r.normal (slice m b r.normal) }) ∷ rs
    else r ∷ back_normals m b number rs

-- the regions and the lead after a track came back, by whether it is an original
abbrev pub back_regions : {S E D : Type 0} → Machine S E D → Settings → Bool → ℕ → List (Region S) → List (Region S)
back_regions m b true number rs = back_normals m b number rs
back_regions m b false number rs = rs

abbrev pub back_lead : {S E D : Type 0} → Machine S E D → Settings → Bool → Track S → Track S
back_lead m b true lead = lead
back_lead m b false lead = run_on m lead (slice m b lead)

-- the first loan of this name is over
abbrev pub end_loan : Name → List OpenLoan → List OpenLoan
end_loan n [] = []
end_loan n (l ∷ ls) = if name_eq n l.name then ls else l ∷ end_loan n ls

-- Back, by the loan of the name and the live track of the name
abbrev pub back_of : {S E D : Type 0} → Machine S E D → Settings → Core S E D → Name → ℕ → Option OpenLoan → Option (Track S) → Option (Core S E D)
back_of m b c n count None t = None
back_of m b c n count (Some l) None = None
back_of m b c n count (Some l) (Some t) =
    some_if (is_none l.dropped && (not (over c) && nat_eq count (slice m b t))) (record c { regions = back_regions m b n.normal n.region c.regions; lead = back_lead m b n.normal c.lead; loans = end_loan n c.loans })

-- Gone, by the row that dropped the loan: a live track is lost, and a core that wasn't over is halted
abbrev pub gone_live : {S E D : Type 0} → Core S E D → Name → Option ℕ → Core S E D
gone_live c n (Some row) = record c { loans = end_loan n c.loans }
gone_live c n None = record c { loans = end_loan n c.loans; lost = n ∷ c.lost; halted = not (is_some c.finish) || c.halted }

abbrev pub gone_of : {S E D : Type 0} → Core S E D → Name → Option OpenLoan → Option (Core S E D)
gone_of c n None = None
gone_of c n (Some l) = Some (gone_live c n l.dropped)

-- Release

-- the pieces that are numbered above `limit`
abbrev pub left_over : ℕ → List Piece → List Piece
left_over limit [] = []
left_over limit (p ∷ ps) = if nat_le p.number limit then left_over limit ps else p ∷ left_over limit ps

-- the regions and the lead after the front gave out its pieces up to `limit`
abbrev pub released_regions : {S : Type 0} → ℕ → List (Region S) → List (Region S)
released_regions limit [] = []
released_regions limit (r ∷ rs) = (record r { normal = record r.normal { held = left_over limit r.normal.held } }) ∷ rs

abbrev pub released_lead : {S : Type 0} → ℕ → List (Region S) → Track S → Track S
released_lead limit [] lead = record lead { held = left_over limit lead.held }
released_lead limit (r ∷ rs) lead = lead

-- by whether the front is at home
abbrev pub released_by : {S E D : Type 0} → Bool → ℕ → Core S E D → List Mark → Core S E D
released_by true limit c bytes = record c { regions = released_regions limit c.regions; lead = released_lead limit c.regions c.lead; released = c.released ++ bytes; ready = [] }
released_by false limit c bytes = record c { released = c.released ++ bytes; ready = [] }

-- all verified bytes are handed out
abbrev pub released_core : {S E D : Type 0} → Settings → Core S E D → Core S E D
released_core b c = released_by (front_home c) (b.budget - c.base) c (verified b c)

-- The due event

abbrev pub is_row_entry : ℕ → Entry → Bool → Bool
is_row_entry row (Keep k) true = nat_eq k row
is_row_entry row (Discard k) false = nat_eq k row
is_row_entry row _ _ = false

-- the entry is that of this event, with the name or the row's number that it makes
abbrev pub is_entry_of : {S E D : Type 0} → Core S E D → Due S E D → Entry → Bool
is_entry_of c (Finishing f) Finish = true
is_entry_of c Crossing (Cross n) = name_eq n (lead_name c)
is_entry_of c (Judging v) x = is_row_entry (length c.rows) x (is_kept v.judged.verdict)
is_entry_of c Forking (Fork n) = name_eq n (record { generation = c.generation; region = suc c.last; normal = false })
is_entry_of c _ _ = false

abbrev pub due_done : {S E D : Type 0} → Machine S E D → Settings → Core S E D → Entry → Option (Due S E D) → Option (Core S E D)
due_done m b c entry None = None
due_done m b c entry (Some d) = some_if (is_entry_of c d entry) (effect m b c d)

-- the core after this entry; none where the entry isn't allowed
unfoldable pub event : {S E D : Type 0} → Machine S E D → Settings → Core S E D → Entry → Option (Core S E D)
event m b c (Lend seat n) = some_if (lendable m b c n) (record c { loans = c.loans ++ (record { seat = seat; name = n; dropped = None } ∷ []) })
event m b c (Back n count) = back_of m b c n count (find_loan n c.loans) (find_track c n)
event m b c (Gone n) = gone_of c n (find_loan n c.loans)
event m b c (Release count) = some_if (nat_lt 0 count && nat_eq count (length (verified b c))) (released_core b c)
event m b c (Halt seat) = some_if (not (over c)) (record c { halted = true })
event m b c (Fork n) = due_done m b c (Fork n) (due m b c)
event m b c (Cross n) = due_done m b c (Cross n) (due m b c)
event m b c (Keep row) = due_done m b c (Keep row) (due m b c)
event m b c (Discard row) = due_done m b c (Discard row) (due m b c)
event m b c Finish = due_done m b c Finish (due m b c)

-- the core after all these entries, if each is allowed in its turn
unfoldable pub core_run : {S E D : Type 0} → Machine S E D → Settings → Option (Core S E D) → List Entry → Option (Core S E D)
core_run m b c [] = c
core_run m b None (x ∷ xs) = None
core_run m b (Some c) (x ∷ xs) = core_run m b (event m b c x) xs
