-- The serial history: what one worker does. At each point it takes the due event, else a release, else it lends the
-- oldest lendable track to seat 0 and gets it back at once.
use Rattle.std.specs.Prelude.{◌≡◌, ℕ, zero, suc, Bool, true, false, List, [], ◌∷◌, ◌++◌, Option, Some, None, option_map, unwrap_or, length, if◌then◌else◌, nat_lt}
use Rattle.speculation.specs.declared.tracks.Name.{Name}
use Rattle.speculation.specs.declared.history.Settings.{Settings}
use Rattle.speculation.specs.declared.history.Entry.{Entry}
use Rattle.speculation.specs.declared.history.Entry.TheVariants.{Lend, Back, Fork, Cross, Keep, Discard, Release, Finish}
use Rattle.speculation.specs.Machine.{Machine}
use Rattle.speculation.specs.Verdicts.{is_kept}
use Rattle.speculation.specs.Core.{Core, Track, Region, opening, lead_name, normal_name, find_track, verified}
use Rattle.speculation.specs.Due.{Due, Finishing, Crossing, Judging, Forking, due}
use Rattle.speculation.specs.Events.{slice, lendable, core_run}
use Rattle.speculation.specs.Law.{IsHistory}

abbrev pub row_entry : Bool → ℕ → Entry
row_entry true row = Keep row
row_entry false row = Discard row

-- the entry of a due event
abbrev pub entry_of : {S E D : Type 0} → Core S E D → Due S E D → Entry
entry_of c (Finishing f) = Finish
entry_of c Crossing = Cross (lead_name c)
entry_of c (Judging v) = row_entry (is_kept v.judged.verdict) (length c.rows)
entry_of c Forking = Fork (record { generation = c.generation; region = suc c.last; normal = false })

-- the first lendable name: the originals from these regions on, oldest first, and then the lead
abbrev pub first_lendable : {S E D : Type 0} → Machine S E D → Settings → Core S E D → List (Region S) → Option Name
first_lendable m b c [] = if lendable m b c (lead_name c) then Some (lead_name c) else None
first_lendable m b c (r ∷ rs) = if lendable m b c (normal_name c r) then Some (normal_name c r) else first_lendable m b c rs

abbrev pub slice_of : {S E D : Type 0} → Machine S E D → Settings → Option (Track S) → ℕ
slice_of m b None = 0
slice_of m b (Some t) = slice m b t

-- by the due event, whether bytes are verified, and the first lendable name
abbrev pub serial_by : {S E D : Type 0} → Machine S E D → Settings → Core S E D → Option (Due S E D) → Bool → Option Name → Option (List Entry)
serial_by m b c (Some d) some n = Some (entry_of c d ∷ [])
serial_by m b c None true n = Some (Release (length (verified b c)) ∷ [])
serial_by m b c None false (Some n) = Some (Lend 0 n ∷ (Back n (slice_of m b (find_track c n)) ∷ []))
serial_by m b c None false None = None

-- what comes next in the serial history, if anything does
abbrev pub serial_next : {S E D : Type 0} → Machine S E D → Settings → Core S E D → Option (List Entry)
serial_next m b c = serial_by m b c (due m b c) (nat_lt 0 (length (verified b c))) (first_lendable m b c c.regions)

-- what comes next, and then the entries that `rest` gives at the core that it leads to
abbrev pub with_next : {S E D : Type 0} → Machine S E D → Settings → Core S E D → (rest : Core S E D → List Entry) → Option (List Entry) → List Entry
with_next m b c rest None = []
with_next m b c rest (Some xs) = xs ++ unwrap_or (option_map rest (core_run m b (Some c) xs)) []

-- the first rounds of the serial history from a core on
unfoldable pub serial : {S E D : Type 0} → Machine S E D → Settings → ℕ → Core S E D → List Entry
serial m b zero c = []
serial m b (suc k) c = with_next m b c (λ d. serial m b k d) (serial_next m b c)

-- These entries are the serial history: they are a legal history, they are so many rounds of the serial one, and nothing
-- comes next at the core that they lead to.
pub record IsSerial {S E D : Type 0} (m : Machine S E D) (b : Settings) (start : S) (entries : List Entry) : Type 0 where
  pub core : Core S E D
  pub legal : IsHistory m b start entries core
  pub rounds : ℕ
  pub are_rounds : entries ≡ serial m b rounds (opening start)
  pub nothing_next : serial_next m b core ≡ None
